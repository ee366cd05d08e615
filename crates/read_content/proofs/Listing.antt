-- Properties lists: their records stay those of the kind. Assumes nothing.
use Prim.Native.Nat.{ℕ, ◌+◌, ◌≤◌, ◌<◌}
use mathlib.Core.Path.{◌≡◌, refl, sym, ap, ◌∙◌}
use mathlib.Core.Bool.{Bool, true, false}
use mathlib.Core.List.{List, [], ◌∷◌}
use native.Mathlib.Omega.{arith}
use lib.Dec.{ltb, leb, eqb, lit≤}
use lib.ListN.{length, get_or}
use borrow.Author.Tests.{ltb-true, ltb-false, leb-true, leb-false, eqb-true, eqb-false}
use Rattle.read_attributes.specs.of_read_element.Attributes.{extra_kind}
use Rattle.read_place.specs.of_read_state.Control.{Level, top, suite, case, status, Mode, at, gathering, listing, skipping, finished}
use Rattle.read_place.specs.Marks.{Marks}
use Rattle.read_place.specs.inside.Coded.{go_to}
use Rattle.read_content.specs.Content.{Content, killed, kill_all, kill_kind}
use Rattle.read_content.specs.inside.Holds.{Whole, kind_in, Dead, Listed, Opened, Lists, Added, no_list}
use Rattle.read_content.specs.declared.List.{List as CodedList}
use Rattle.read_content.specs.declared.Content.{Content as CodedContent}
use Rattle.read_content.proofs.Records.{killed-kind, kind-past, whole-at}
use Rattle.read_content.proofs.Killing.{kind-size, kind-hit, kind-miss, all-hit}

-- ---- where the kinds stay
module _ (rs qs : List (List ℕ)) (size : length qs ≡ length rs) (same : (i : ℕ) → kind_in qs i ≡ kind_in rs i) where
  pub listed-kinds : {κ from : ℕ} {list : CodedList} → Listed κ from list rs → Listed κ from list qs
  listed-kinds l = record {
    inside = let h = l.inside in omega arith;
    high = let h = l.high in omega arith;
    only = λ i h e. l.only i h (sym (same i) ∙ e);
    each = λ i a b. ((l.each i a b).0, same i ∙ (l.each i a b).1);
  }

  -- what is dead depends on the records' kinds alone
  pub dead-kinds : {n : ℕ} → Dead n rs → Dead n qs
  dead-kinds d i h = let e = same i in let k = d i h in omega arith

-- ---- an element more
module _ {kind : ℕ} {c c' : CodedContent} {s s' : Content} (a : Added kind c s c' s') where
  new-kind : (κ : ℕ) → (κ ≡ kind → ⊥) → (κ ≡ extra_kind kind → ⊥) → 0 < κ → (i : ℕ) → length s.records ≤ i → kind_in s'.records i ≡ κ → ⊥
  new-kind κ d f z i h e = go (eqb i (length s.records)) refl (ltb i (length s'.records)) refl
    where
      go : (t : Bool) → eqb i (length s.records) ≡ t → (u : Bool) → ltb i (length s'.records) ≡ u → ⊥
      go true p u q =
          d (sym e ∙ ap (kind_in s'.records) (eqb-true i (length s.records) p) ∙ a.main)
      go false p true q =
          let n = eqb-false i (length s.records) p in
          f (sym e ∙ a.extras i (omega arith) (ltb-true i (length s'.records) q))
      go false p false q =
          let k = kind-past s'.records i (ltb-false i (length s'.records) q) in omega arith

  -- an element added, of another kind than a list's: the list stays as it is
  pub added-listed : {κ from : ℕ} {list : CodedList} → (κ ≡ kind → ⊥) → (κ ≡ extra_kind kind → ⊥) → 0 < κ → Listed κ from list s.records → Listed κ from list s'.records
  added-listed {κ} {from} {list} d f z l = record {
    inside = let h = l.inside in let m = a.more in omega arith;
    high = let h = l.high in let m = a.more in omega arith;
    only = λ i h e. old i h e (ltb i (length s.records)) refl;
    each = λ i x y. ((l.each i x y).0, (let h = l.high in a.before i (omega arith)) ∙ (l.each i x y).1);
  }
    where
      old : (i : ℕ) → from ≤ i → kind_in s'.records i ≡ κ → (t : Bool) → ltb i (length s.records) ≡ t → (list.first ≤ i) × (i < list.first + list.count)
      old i h e true q = l.only i h (sym (a.before i (ltb-true i (length s.records) q)) ∙ e)
      old i h e false q = absurd (new-kind κ d f z i (ltb-false i (length s.records) q) e)

  -- behind an element just added there is no property yet: its list is empty
  pub new-listed : {κ : ℕ} → (κ ≡ kind → ⊥) → (κ ≡ extra_kind kind → ⊥) → 0 < κ → Listed κ (length s.records) no_list s'.records
  new-listed {κ} d f z = record {
    inside = a.more;
    high = omega arith;
    only = λ i h e. absurd (new-kind κ d f z i h e);
    each = λ i x y. absurd (omega arith);
  }

  -- a property more of the open list
  pub one-listed : {from : ℕ} {list : CodedList} → 4 ≤ kind → list.first + list.count ≡ length s.records → Listed kind from list s.records
      → Listed kind from (record { first = list.first; count = list.count + 1 }) s'.records
  one-listed {from} {list} z n l =
      let w = a.alone z in
      record {
        inside = let h = l.inside in omega arith;
        high = omega arith;
        only = λ i h e. old i h e (ltb i (length s.records)) refl (ltb i (length s'.records)) refl;
        each = λ i x y. new i x y (ltb i (length s.records)) refl;
      }
    where
      old : (i : ℕ) → from ≤ i → kind_in s'.records i ≡ kind → (t : Bool) → ltb i (length s.records) ≡ t → (u : Bool) → ltb i (length s'.records) ≡ u
          → (list.first ≤ i) × (i < list.first + (list.count + 1))
      old i h e true p u q =
          let x = l.only i h (sym (a.before i (ltb-true i (length s.records) p)) ∙ e) in
          let y = x.1 in (x.0, omega arith)
      old i h e false p true q =
          let x = ltb-false i (length s.records) p in
          let y = ltb-true i (length s'.records) q in
          let w = a.alone z in (omega arith, omega arith)
      old i h e false p false q =
          let k = kind-past s'.records i (ltb-false i (length s'.records) q) in absurd (omega arith)

      new : (i : ℕ) → list.first ≤ i → i < list.first + (list.count + 1) → (t : Bool) → ltb i (length s.records) ≡ t → (from ≤ i) × (kind_in s'.records i ≡ kind)
      new i x y true p =
          let h = ltb-true i (length s.records) p in
          let t = l.each i x (omega arith) in
          (t.0, a.before i h ∙ t.1)
      new i x y false p =
          let h = ltb-false i (length s.records) p in
          let e : i ≡ length s.records = omega arith in
          ((let j = l.inside in omega arith), ap (kind_in s'.records) e ∙ a.main)

  -- an element added leaves the dead records dead
  pub added-dead : {n : ℕ} → n ≤ length s.records → Dead n s.records → Dead n s'.records
  added-dead h d i l = let e = a.before i (omega arith) in let k = d i l in omega arith

-- ---- records marked dead
has_words : (r : List ℕ) → 0 < get_or r 0 0 → 1 ≤ length r
has_words [] h = absurd (omega arith)
has_words (w ∷ ws) h = omega arith

kind-dead : (r : List ℕ) (κ : ℕ) → get_or r 0 0 ≡ κ → 0 < κ → 16 ≤ get_or (killed r) 0 0
kind-dead r κ e z = killed-kind r (has_words r (omega arith))

module _ (κ from : ℕ) (rs : List (List ℕ)) (z : 0 < κ) (l : κ < 16) where
  -- no record of the kind is left
  pub kind-gone : (i : ℕ) → from ≤ i → kind_in (kill_kind κ from rs) i ≡ κ → ⊥
  kind-gone i h e = go (eqb (kind_in rs i) κ) refl
    where
      go : (t : Bool) → eqb (kind_in rs i) κ ≡ t → ⊥
      go true q =
          let k = eqb-true (kind_in rs i) κ q in
          let x = ap (λ (r : List ℕ). get_or r 0 0) (kind-hit κ from rs i h k) in
          let y = kind-dead (get_or rs i []) κ k z in
          omega arith
      go false q =
          let k = eqb-false (kind_in rs i) κ q in
          k (ap (λ (r : List ℕ). get_or r 0 0) (sym (kind-miss κ from rs i (λ _ y. k y))) ∙ e)

  -- every other kind stays
  pub kind-other : (i : ℕ) → (kind_in rs i ≡ κ → ⊥) → kind_in (kill_kind κ from rs) i ≡ kind_in rs i
  kind-other i d = ap (λ (r : List ℕ). get_or r 0 0) (kind-miss κ from rs i (λ _ y. d y))

  pub kind-back : (i : ℕ) (k : ℕ) → k < 16 → (k ≡ κ → ⊥) → kind_in (kill_kind κ from rs) i ≡ k → kind_in rs i ≡ k
  kind-back i k m d e = go (eqb (kind_in rs i) κ) refl (leb from i) refl
    where
      go : (t : Bool) → eqb (kind_in rs i) κ ≡ t → (u : Bool) → leb from i ≡ u → kind_in rs i ≡ k
      go true q true p =
          let x = eqb-true (kind_in rs i) κ q in
          let y = ap (λ (r : List ℕ). get_or r 0 0) (kind-hit κ from rs i (leb-true from i p) x) in
          let w = kind-dead (get_or rs i []) κ x z in
          absurd (omega arith)
      go true q false p =
          let f = leb-false from i p in
          ap (λ (r : List ℕ). get_or r 0 0) (sym (kind-miss κ from rs i (λ a b. omega arith))) ∙ e
      go false q u p = sym (kind-other i (eqb-false (kind_in rs i) κ q)) ∙ e

  -- a later list of properties replaces the earlier one: its records are dead, and the new list is empty
  pub listed-anew : {list : CodedList} → Listed κ from list rs → Listed κ from (record { first = length rs; count = 0 }) (kill_kind κ from rs)
  listed-anew t =
      let n = kind-size κ from rs in
      record {
        inside = let h = t.inside in omega arith;
        high = omega arith;
        only = λ i h e. absurd (kind-gone i h e);
        each = λ i x y. absurd (omega arith);
      }

  -- marking one kind dead leaves the list of another kind as it is
  pub listed-other : {k from' : ℕ} {list : CodedList} → k < 16 → (k ≡ κ → ⊥) → Listed k from' list rs → Listed k from' list (kill_kind κ from rs)
  listed-other {k} m d t =
      let n = kind-size κ from rs in
      record {
        inside = let h = t.inside in omega arith;
        high = let h = t.high in omega arith;
        only = λ i h e. t.only i h (kind-back i k m d e);
        each = λ i x y. ((t.each i x y).0, kind-other i (λ e. d (sym (t.each i x y).1 ∙ e)) ∙ (t.each i x y).1);
      }

  -- marking a kind dead leaves dead records dead
  pub dead-kind : {n : ℕ} → Dead n rs → Dead n (kill_kind κ from rs)
  dead-kind d i h =
      let k = d i h in
      let e = kind-other i (λ e. omega arith) in omega arith

-- when a report begins, all records before it are dead
pub dead-all : (rs : List (List ℕ)) → Whole rs → Dead (length rs) (kill_all rs)
dead-all rs w i h =
    let e = ap (λ (r : List ℕ). get_or r 0 0) (all-hit rs i) in
    let n = whole-at rs i w h in
    let k = killed-kind (get_or rs i []) (omega arith) in
    omega arith

-- ---- the open elements
module _ (m : Marks) (c c' : CodedContent) (s s' : Content) (sl : c'.suite_list ≡ c.suite_list) (cl : c'.case_list ≡ c.case_list)
    (size : length s'.records ≡ length s.records) (same : (i : ℕ) → kind_in s'.records i ≡ kind_in s.records i) where
  -- what is known of the open elements depends on the records' kinds alone: for texts put into records
  pub opened-kinds : (l : Level) → Opened l m c s → Opened l m c' s'
  opened-kinds top o = tt
  opened-kinds suite o = rw sl (listed-kinds s.records s'.records size same o)
  opened-kinds case o = (rw sl (listed-kinds s.records s'.records size same o.0), rw cl (listed-kinds s.records s'.records size same o.1))
  opened-kinds status o = (rw sl (listed-kinds s.records s'.records size same o.0), (rw cl (listed-kinds s.records s'.records size same o.1.0), let h = o.1.1 in omega arith))

-- an element of another kind than properties
module _ (m : Marks) {kind : ℕ} {c c' : CodedContent} {s s' : Content} (a : Added kind c s c' s') (d4 : 4 ≡ kind → ⊥) (d5 : 5 ≡ kind → ⊥) where
  no-suite : 4 ≡ extra_kind kind → ⊥
  no-suite e = omega arith

  no-case : 5 ≡ extra_kind kind → ⊥
  no-case e = omega arith

  -- what is known of the open elements stays when an element is added that isn't a property
  pub opened-added : (l : Level) → Opened l m c s → Opened l m c' s'
  opened-added top o = tt
  opened-added suite o = rw a.suite-list (added-listed a d4 no-suite (lit≤ tt) o)
  opened-added case o = (rw a.suite-list (added-listed a d4 no-suite (lit≤ tt) o.0), rw a.case-list (added-listed a d5 no-case (lit≤ tt) o.1))
  opened-added status o = (
    rw a.suite-list (added-listed a d4 no-suite (lit≤ tt) o.0),
    (rw a.case-list (added-listed a d5 no-case (lit≤ tt) o.1.0), let h = o.1.1 in let x = a.more in omega arith),
  )

-- ---- from event to event
-- only the records of the open elements count
opened-at : (l : Level) (e : ℕ) (m : Marks) (c : CodedContent) (s : Content) → Opened l m c s → Opened l (go_to e m) c s
opened-at top e m c s o = o
opened-at suite e m c s o = o
opened-at case e m c s o = o
opened-at status e m c s o = o

-- the event's number plays no part in what is known of the lists
pub lists_at : (mode : Mode) (e : ℕ) (m : Marks) (c : CodedContent) (s : Content) → Lists mode m c s → Lists mode (go_to e m) c s
lists_at (at l) e m c s li = (opened-at l e m c s li.0, li.1)
lists_at (gathering l o) e m c s li = opened-at l e m c s li
lists_at (listing l) e m c s li = (opened-at l e m c s li.0, li.1)
lists_at (skipping outer name depth) e m c s li = li
lists_at finished e m c s li = li
