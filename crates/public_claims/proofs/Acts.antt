-- Each action, each event and each table: what the records show moves as the public machine does. Assumes nothing.
use Prim.Native.Nat.{ℕ, zero, suc, ◌+◌, min, ◌≤◌}
use mathlib.Core.Path.{◌≡◌, refl, sym, ap, ap₂, ◌∙◌, subst}
use mathlib.Core.List.{List, [], ◌∷◌, ◌++◌, map, append_assoc, append-nil}
use mathlib.Core.Bool.{Bool, true, false, cond, not, ◌&&◌}
use mathlib.Core.Logic.{◌⊎◌, inl, inr}
use native.Mathlib.Omega.{arith}
use borrow.Author.Tests.{leb-true, eqb-true, le-ltb}
use lib.Dec.{T, eqb, leb, ltb}
use lib.ListN.{length, get_or, set}
use lib.Seq.{get_or-append_seam}
use Rattle.read_report.specs.of_trim.Trim.{trimmed}
use Rattle.read_report.specs.of_table.Event.{Attribute}
use Rattle.list_text.specs.of_tree_report.Fields.{kind_of, live}
use Rattle.read_report.specs.of_read_element.Outcome.{Place, Rooms}
use Rattle.read_report.specs.of_tree_put.Put.{put_text}
use Rattle.read_report.specs.of_read_element.Attributes.{changed}
use Rattle.read_report.specs.of_read_state.Control.{Level, top, suite, case, status, Output, trace, out, err, Mode, at, gathering, listing, skipping, finished, Control}
use Rattle.read_report.specs.of_read_state.Control.{Act, pass, open_report, open_suite, open_case, open_status, close_suite, close_case, close_status, open_text, close_text, open_list, read_property, stop, missing, broken}
use Rattle.read_report.specs.of_read_state.Control.{is_status, turn}
use Rattle.read_report.specs.of_read_place.Marks.{Marks, marks_after, onward}
use Rattle.read_report.specs.of_read_content.Content.{Content, killed, kill_all, kill_kind, property_kind, record_of_it, word_of, bit_of, takes, kept, adding}
use Rattle.read_report.specs.of_read_content.Content.{with_records, with_texts, cleaned, keeping, is_empty, describing, outputting, perform}
use Rattle.public_claims.specs.Agree.{blanked}
use Rattle.public_claims.specs.inside.PublicMachine.{Node, nodes_for, public_act, Sort, sort_of, unlisted, nodes_of, said, unsaid}
use Rattle.public_claims.proofs.Holding.{Holds, accept, refusing, bind, weaken, needing, choosing}
use Rattle.read_report.proofs.Words.{text-keeps}
use Rattle.public_claims.proofs.View.{look, looks, looks_append, looks-changed, looks-kill_all, looks-kill_kind, look-outputs, look-status}
use Rattle.public_claims.proofs.Said.{Firm, keeps_firm, Solid, solid_append, solid-changed}
use Rattle.public_claims.proofs.Elements.{Grew, Adds, report-adds, suite-adds, case-adds, suite-property_adds, case-property_adds, status-adds}

pub impossible : {A : Type 0} → false ≡ true → A
impossible e = absurd (subst (λ (b : Bool). T (not b)) e tt)

-- ---- where a status element is open
abbrev pub at_status_level : Level → Bool
at_status_level top = false
at_status_level suite = false
at_status_level case = false
at_status_level status = true

abbrev pub in_status : Mode → Bool
in_status (at l) = at_status_level l
in_status (gathering l o) = at_status_level l
in_status (listing l) = at_status_level l
in_status (skipping m name depth) = in_status m
in_status finished = false

-- a stack trace belongs to a status element, a properties list to none
abbrev pub traced : Level → Output → Bool
traced l trace = at_status_level l
traced l out = true
traced l err = true

abbrev pub sound : Mode → Bool
sound (at l) = true
sound (gathering l o) = traced l o
sound (listing l) = not (at_status_level l)
sound (skipping m name depth) = sound m
sound finished = true

abbrev pub is_finished : Mode → Bool
is_finished (at l) = false
is_finished (gathering l o) = false
is_finished (listing l) = false
is_finished (skipping m name depth) = is_finished m
is_finished finished = true

-- ---- the first live record
abbrev pub heads : List (List ℕ) → ℕ
heads [] = 0
heads (r ∷ rs) = cond (live r) (kind_of r) (heads rs)

heads-more : (rs ss : List (List ℕ)) → heads rs ≡ 1 → heads (rs ++ ss) ≡ 1
heads-more [] ss h = let z : ◌≡◌ {A = ℕ} 0 1 = h in absurd (omega arith)
heads-more (r ∷ rs) ss h = go (live r) (heads-more rs ss) h
  where
    go : (b : Bool) → (heads rs ≡ 1 → heads (rs ++ ss) ≡ 1) → cond b (kind_of r) (heads rs) ≡ 1 → cond b (kind_of r) (heads (rs ++ ss)) ≡ 1
    go true i e = e
    go false i e = i e

killed-dead : (r : List ℕ) → 1 ≤ length r → live (killed r) ≡ false
killed-dead [] h = absurd (omega arith)
killed-dead (x ∷ r) h = go (ltb x 16) refl
  where
    go : (b : Bool) → ltb x 16 ≡ b → live (cond b (set (x ∷ r) 0 (x + 16)) (x ∷ r)) ≡ false
    go true e = le-ltb (x + 16) 16 (omega arith)
    go false e = e

heads-kill_all : (rs : List (List ℕ)) (r : List ℕ) (ss : List (List ℕ)) → Solid rs → live r ≡ true → heads (kill_all rs ++ (r ∷ ss)) ≡ kind_of r
heads-kill_all [] r ss h l = ap (λ (b : Bool). cond b (kind_of r) (heads ss)) l
heads-kill_all (x ∷ rs) r ss h l = ap (λ (b : Bool). cond b (kind_of (killed x)) (heads (kill_all rs ++ (r ∷ ss)))) (killed-dead x h.0.0) ∙ heads-kill_all rs r ss h.1 l

heads-kill_kind : (kind : ℕ) → 2 ≤ kind → (i : ℕ) (rs : List (List ℕ)) → Solid rs → heads rs ≡ 1 → heads (kill_kind kind i rs) ≡ 1
heads-kill_kind kind w i [] s h = h
heads-kill_kind kind w zero (r ∷ rs) s h = go (heads-kill_kind kind w zero rs s.1) (eqb (get_or r 0 0) kind) refl (live r) refl h
  where
    go : (heads rs ≡ 1 → heads (kill_kind kind zero rs) ≡ 1) → (e : Bool) → eqb (get_or r 0 0) kind ≡ e → (b : Bool) → live r ≡ b → cond b (kind_of r) (heads rs) ≡ 1 →
        cond (live (cond e (killed r) r)) (kind_of (cond e (killed r) r)) (heads (kill_kind kind zero rs)) ≡ 1
    go i true p true q f = let z : kind_of r ≡ kind = eqb-true (kind_of r) kind p in absurd (omega arith)
    go i true p false q f = ap (λ (x : Bool). cond x (kind_of (killed r)) (heads (kill_kind kind zero rs))) (killed-dead r s.0.0) ∙ i f
    go i false p true q f = ap (λ (x : Bool). cond x (kind_of r) (heads (kill_kind kind zero rs))) q ∙ f
    go i false p false q f = ap (λ (x : Bool). cond x (kind_of r) (heads (kill_kind kind zero rs))) q ∙ i f
heads-kill_kind kind w (suc i) (r ∷ rs) s h = go (live r) (heads-kill_kind kind w i rs s.1) h
  where
    go : (b : Bool) → (heads rs ≡ 1 → heads (kill_kind kind i rs) ≡ 1) → cond b (kind_of r) (heads rs) ≡ 1 → cond b (kind_of r) (heads (kill_kind kind i rs)) ≡ 1
    go true j e = e
    go false j e = j e

killed-firm : (r : List ℕ) → Firm r → Firm (killed r)
killed-firm [] h = let z : 1 ≤ 0 = h.0 in absurd (omega arith)
killed-firm (x ∷ r) h = go (ltb x 16)
  where
    go : (b : Bool) → Firm (cond b (set (x ∷ r) 0 (x + 16)) (x ∷ r))
    go true = h
    go false = h

solid-kill_all : (rs : List (List ℕ)) → Solid rs → Solid (kill_all rs)
solid-kill_all [] h = tt
solid-kill_all (r ∷ rs) h = (killed-firm r h.0, solid-kill_all rs h.1)

solid-kill_kind : (kind i : ℕ) (rs : List (List ℕ)) → Solid rs → Solid (kill_kind kind i rs)
solid-kill_kind kind i [] h = tt
solid-kill_kind kind zero (r ∷ rs) h = (go (eqb (get_or r 0 0) kind), solid-kill_kind kind zero rs h.1)
  where
    go : (b : Bool) → Firm (cond b (killed r) r)
    go true = killed-firm r h.0
    go false = h.0
solid-kill_kind kind (suc i) (r ∷ rs) h = (h.0, solid-kill_kind kind i rs h.1)

-- ---- one record changed, its kind kept
module _ (f : List ℕ → List ℕ) (e : (r : List ℕ) → kind_of (f r) ≡ kind_of r) where
  heads-changed : (i : ℕ) (rs : List (List ℕ)) → heads (changed i f rs) ≡ heads rs
  heads-changed i [] = refl
  heads-changed zero (r ∷ rs) = ap (λ (k : ℕ). cond (ltb k 16) k (heads rs)) (e r)
  heads-changed (suc i) (r ∷ rs) = ap (λ (h : ℕ). cond (live r) (kind_of r) h) (heads-changed i rs)

  kind-changed : (i j : ℕ) (rs : List (List ℕ)) → kind_of (get_or (changed i f rs) j []) ≡ kind_of (get_or rs j [])
  kind-changed i j [] = refl
  kind-changed zero zero (r ∷ rs) = e r
  kind-changed zero (suc j) (r ∷ rs) = refl
  kind-changed (suc i) zero (r ∷ rs) = refl
  kind-changed (suc i) (suc j) (r ∷ rs) = kind-changed i j rs

-- ---- what holds between two events
pub record Inv (k : Control) (c : Content) (m : Marks) (ns : List Node) : Type 0 where
  pub shows : (u : List ℕ) → looks (c.texts ++ u) c.records ≡ ns
  pub solid : Solid c.records
  pub headed : k.seen ≡ true → heads c.records ≡ 1
  pub here : in_status k.mode ≡ true → 6 ≤ kind_of (get_or c.records m.status_at_of [])
  pub sane : sound k.mode ≡ true
  pub ended : is_finished k.mode ≡ true → k.seen ≡ true

-- what is planned where
abbrev pub Fits : Mode → Bool → Act → Type 0
Fits m seen (pass n) = (in_status n ≡ true → in_status m ≡ true) × (sound n ≡ true) × (is_finished n ≡ true → seen ≡ true)
Fits m seen (open_report e) = Unit {0}
Fits m seen (open_suite e) = Unit {0}
Fits m seen (open_case e) = Unit {0}
Fits m seen (open_status k e) = is_status k ≡ true
Fits m seen close_suite = Unit {0}
Fits m seen close_case = Unit {0}
Fits m seen close_status = in_status m ≡ true
Fits m seen (open_text l o) = (at_status_level l ≡ true → in_status m ≡ true) × (traced l o ≡ true)
Fits m seen (close_text l o) = (at_status_level l ≡ true → in_status m ≡ true) × (traced l o ≡ true)
Fits m seen (open_list l e) = at_status_level l ≡ false
Fits m seen (read_property l e name) = (in_status m ≡ false) × (at_status_level l ≡ false)
Fits m seen stop = seen ≡ true
Fits m seen missing = Unit {0}
Fits m seen (broken n) = Unit {0}

-- ---- contents that show the same
pub record Quiet (c d : Content) : Type 0 where
  pub looking : (t : List ℕ) → looks t d.records ≡ looks t c.records
  pub solidly : Solid c.records → Solid d.records
  pub heading : heads c.records ≡ 1 → heads d.records ≡ 1
  pub added : List ℕ
  pub grown : d.texts ≡ c.texts ++ added

pub quiet_same : (c d : Content) → d.records ≡ c.records → d.texts ≡ c.texts → Quiet c d
quiet_same c d e f =
    record {
      looking = λ t. ap (looks t) e;
      solidly = λ s. subst Solid (sym e) s;
      heading = λ h. ap heads e ∙ h;
      added = [];
      grown = f ∙ sym (append-nil c.texts);
    }

quiet-shows : {ns : List Node} (c d : Content) → Quiet c d → ((u : List ℕ) → looks (c.texts ++ u) c.records ≡ ns) → (u : List ℕ) → looks (d.texts ++ u) d.records ≡ ns
quiet-shows c d q h u =
    q.looking (d.texts ++ u) ∙ ap (λ (t : List ℕ). looks t c.records) (ap (◌++ u) q.grown ∙ append_assoc c.texts q.added u) ∙ h (q.added ++ u)

-- a text that goes into a field that isn't shown
kept-kind : (b : Bool) (f : List ℕ → List ℕ) → ((r : List ℕ) → kind_of (f r) ≡ kind_of r) → (r : List ℕ) → kind_of (kept b f r) ≡ kind_of r
kept-kind true f e r = e r
kept-kind false f e r = refl

kept-firm : (b : Bool) (f : List ℕ → List ℕ) → ((r : List ℕ) → Firm r → Firm (f r)) → (r : List ℕ) → Firm r → Firm (kept b f r)
kept-firm true f e r h = e r h
kept-firm false f e r h = h

kept-look : (b : Bool) (f : List ℕ → List ℕ) (t r : List ℕ) → look t (f r) ≡ look t r → look t (kept b f r) ≡ look t r
kept-look true f t r e = e
kept-look false f t r e = refl

-- the description and the stack trace stand in a status element, the outputs anywhere
abbrev Unseen : ℕ → ℕ → ℕ → Type 0
Unseen o k kind = ((4 ≤ o) × (o + 2 ≤ 16) × (1 ≤ k) × (k ≤ 3)) ⊎ ((18 ≤ o) × (6 ≤ kind) × (6 ≤ k) × (k ≤ 7))

unseen-look : (o k a b : ℕ) (t r : List ℕ) → Unseen o k (kind_of r) → look t (put_text o k a b r) ≡ look t r
unseen-look o k a b t r (inl h) =
    let h₀ : 4 ≤ o = h.0 in
    let h₁ : o + 2 ≤ 16 = h.1 in
    let h₂ : 1 ≤ k = h.2 in
    let h₃ : k ≤ 3 = h.3 in
    look-outputs (text-keeps k o a b r (omega arith)) t h₀ h₁ (λ e. omega arith) (λ e. omega arith) (λ e. omega arith) (λ e. omega arith)
unseen-look o k a b t r (inr h) =
    let h₀ : 18 ≤ o = h.0 in
    let h₂ : 6 ≤ k = h.2 in
    look-status (text-keeps k o a b r (omega arith)) t h.1 h₀ (λ e. omega arith)

unseen-two : (o k kind : ℕ) → Unseen o k kind → 2 ≤ o
unseen-two o k kind (inl h) = let z : 4 ≤ o = h.0 in omega arith
unseen-two o k kind (inr h) = let z : 18 ≤ o = h.0 in omega arith

unseen_nine : (o k kind : ℕ) → Unseen o k kind → 9 ≡ min k 31 → ⊥
unseen_nine o k kind (inl h) e = let z : k ≤ 3 = h.3 in omega arith
unseen_nine o k kind (inr h) e = let z : k ≤ 7 = h.3 in omega arith

-- the content with a text stored, and the record i that may take it
pub record Kept (i : ℕ) (c d : Content) : Type 0 where
  pub quiet : Quiet c d
  pub kinds : (j : ℕ) → kind_of (get_or d.records j []) ≡ kind_of (get_or c.records j [])

module _ (rooms : Rooms) where
  keeping-quiet : (p : Place) (b : Bool) (i o k : ℕ) (v : List ℕ) (c : Content) → Unseen o k (kind_of (get_or c.records i [])) → Holds (Kept i c) (keeping rooms p b i o k v c)
  unfolding keeping
  keeping-quiet p b i o k v c w =
      let n : 2 ≤ o = unseen-two o k (kind_of (get_or c.records i [])) w in
      let f : List ℕ → List ℕ = put_text o k (length c.texts) (length (cleaned v)) in
      let e : (r : List ℕ) → kind_of (kept b f r) ≡ kind_of r = kept-kind b f (λ r. (text-keeps k o (length c.texts) (length (cleaned v)) r n).kind) in
      needing _ _ _
      (accept
      (record {
        quiet =
            record {
              looking =
                  λ t. looks-changed t i (kept b f) c.records (kept-look b f t (get_or c.records i []) (unseen-look o k (length c.texts) (length (cleaned v)) t (get_or c.records i []) w));
              solidly = λ s. solid-changed i (kept b f) c.records
                  (kept-firm b f (λ r h. keeps_firm (text-keeps k o (length c.texts) (length (cleaned v)) r n) (unseen_nine o k (kind_of (get_or c.records i [])) w) h)) s;
              heading = λ h. heads-changed (kept b f) e i c.records ∙ h;
              added = cleaned v;
              grown = refl;
            };
        kinds = λ j. kind-changed (kept b f) e i j c.records;
      }))

  describing-quiet : (p : Place) (m : Marks) (c : Content) → 6 ≤ kind_of (get_or c.records m.status_at_of []) → Holds (Quiet c) (describing rooms p m c)
  unfolding describing
  describing-quiet p m c h =
      choosing (is_empty (trimmed c.description)) (accept (quiet_same c (with_texts c [] []) refl refl))
      (bind (keeping-quiet p true m.status_at_of 20 6 c.description c (inr (omega arith, h, omega arith, omega arith)))
      λ d q. accept (record { looking = q.quiet.looking; solidly = q.quiet.solidly; heading = q.quiet.heading; added = q.quiet.added; grown = q.quiet.grown }))

  output-unseen : (l : Level) (o : Output) (kind : ℕ) → traced l o ≡ true → (at_status_level l ≡ true → 6 ≤ kind) → Unseen (word_of o) (bit_of o) kind
  output-unseen l out kind e h = inl (omega arith, omega arith, omega arith, omega arith)
  output-unseen l err kind e h = inl (omega arith, omega arith, omega arith, omega arith)
  output-unseen l trace kind e h = inr (omega arith, h e, omega arith, omega arith)

  outputting-quiet : (p : Place) (l : Level) (o : Output) (m : Marks) (c : Content) → traced l o ≡ true →
      (at_status_level l ≡ true → 6 ≤ kind_of (get_or c.records (record_of_it l m) [])) → Holds (Kept (record_of_it l m) c) (outputting rooms p l o m c)
  unfolding outputting
  outputting-quiet p l o m c e h =
      bind (keeping-quiet p (takes l m) (record_of_it l m) (word_of o) (bit_of o) c.gathered c (output-unseen l o (kind_of (get_or c.records (record_of_it l m) [])) e h))
      λ d q. accept
      (record {
        quiet = record { looking = q.quiet.looking; solidly = q.quiet.solidly; heading = q.quiet.heading; added = q.quiet.added; grown = q.quiet.grown };
        kinds = q.kinds;
      })

  -- ---- elements
  adding-grew : (kind : ℕ) → Adds rooms kind → (p : Place) (j : ℕ) (xs : List Attribute) (c : Content) →
      Holds (λ (d : Content). Grew kind xs c.records c.texts (record { records = d.records; texts = d.texts })) (adding rooms p kind j xs c)
  unfolding adding
  adding-grew kind a p j xs c = bind (a p j xs c.records c.texts) λ g q. accept q

module _ {kind : ℕ} {xs : List Attribute} (c d : Content) (q : Grew kind xs c.records c.texts (record { records = d.records; texts = d.texts })) where
  grew-shows : {ns : List Node} → ((u : List ℕ) → looks (c.texts ++ u) c.records ≡ ns) → (u : List ℕ) → looks (d.texts ++ u) d.records ≡ ns ++ nodes_for kind (map blanked xs)
  grew-shows h u =
      ap (looks (d.texts ++ u)) q.stands ∙ looks_append (d.texts ++ u) c.records (q.main ∷ q.extras)
      ∙ ap₂ (λ (x y : List Node). x ++ y)
      (ap (λ (t : List ℕ). looks t c.records) (ap (◌++ u) q.grown ∙ append_assoc c.texts q.added u) ∙ h (q.added ++ u))
      (q.shows u)

  grew-solid : Solid c.records → Solid d.records
  grew-solid s = subst Solid (sym q.stands) (solid_append c.records (q.main ∷ q.extras) s q.solid)

  grew-heads : heads c.records ≡ 1 → heads d.records ≡ 1
  grew-heads h = ap heads q.stands ∙ heads-more c.records (q.main ∷ q.extras) h

  grew_here : kind_of (get_or d.records (length c.records) []) ≡ kind
  grew_here = ap (λ (rs : List (List ℕ)). kind_of (get_or rs (length c.records) [])) q.stands ∙ ap kind_of (get_or-append_seam c.records q.main q.extras []) ∙ q.kindly

-- ---- each action
opens-low : (e : Bool) (a b : Level) → at_status_level a ≡ false → at_status_level b ≡ false → at_status_level (cond e a b) ≡ false
opens-low true a b h j = h
opens-low false a b h j = j

both_true : (a b : Bool) → (a && b) ≡ true → (a ≡ true) × (b ≡ true)
both_true true true e = (refl, refl)
both_true true false e = impossible e
both_true false b e = impossible e

output-here : (l : Level) (m : Marks) (rs : List (List ℕ)) → (at_status_level l ≡ true → 6 ≤ kind_of (get_or rs m.status_at_of [])) → at_status_level l ≡ true → 6 ≤ kind_of (get_or rs (record_of_it l m) [])
output-here top m rs h e = impossible e
output-here suite m rs h e = impossible e
output-here case m rs h e = impossible e
output-here status m rs h e = h e

list-hidden : (l : Level) → sort_of (property_kind l) ≡ unlisted
unfolding sort_of
list-hidden top = refl
list-hidden suite = refl
list-hidden case = refl
list-hidden status = refl

list-kind : (l : Level) → 2 ≤ property_kind l
list-kind top = omega arith
list-kind suite = omega arith
list-kind case = omega arith
list-kind status = omega arith

list-nothing : (l : Level) (xs : List Attribute) → nodes_for (property_kind l) xs ≡ []
list-nothing l xs = ap (λ (σ : Sort). nodes_of σ (property_kind l) (said xs unsaid)) (list-hidden l)

list-adds : (rooms : Rooms) (l : Level) → Adds rooms (property_kind l)
list-adds rooms top = suite-property_adds rooms
list-adds rooms suite = suite-property_adds rooms
list-adds rooms case = case-property_adds rooms
list-adds rooms status = case-property_adds rooms

module _ (rooms : Rooms) (k : Control) (m : Marks) (c : Content) (ns : List Node) (i : Inv k c m ns) where
  abbrev pub After : Act → List Attribute → Content → Type 0
  After a xs d = Inv (turn a k) d (onward (marks_after a (length c.records) m)) (public_act a (map blanked xs) ns)

  pub perform-goes : (p : Place) (a : Act) (j : ℕ) (xs : List Attribute) → Fits k.mode k.seen a → Holds (After a xs) (perform rooms p a j xs k m c)
  unfolding perform turn marks_after public_act
  perform-goes p (pass n) j xs f =
      accept (record { shows = i.shows; solid = i.solid; headed = i.headed; here = λ e. i.here (f.0 e); sane = f.1; ended = f.2 })
  perform-goes p (open_report e) j xs f =
      weaken (adding-grew rooms 1 (report-adds rooms) p j xs (with_records c (kill_all c.records)))
      λ d q.
      record {
        shows = grew-shows (with_records c (kill_all c.records)) d q {ns = []} (λ u. looks-kill_all (c.texts ++ u) c.records);
        solid = grew-solid (with_records c (kill_all c.records)) d q (solid-kill_all c.records i.solid);
        headed = λ _. ap heads q.stands ∙ heads-kill_all c.records q.main q.extras i.solid (ap (λ (n : ℕ). ltb n 16) q.kindly) ∙ q.kindly;
        here = impossible;
        sane = refl;
        ended = λ _. refl;
      }
  perform-goes p (open_suite e) j xs f =
      weaken (adding-grew rooms 2 (suite-adds rooms) p j xs c)
      λ d q.
      record {
        shows = grew-shows c d q i.shows;
        solid = grew-solid c d q i.solid;
        headed = λ h. grew-heads c d q (i.headed h);
        here = λ h. impossible (sym (opens-low e top suite refl refl) ∙ h);
        sane = refl;
        ended = impossible;
      }
  perform-goes p (open_case e) j xs f =
      weaken (adding-grew rooms 3 (case-adds rooms) p j xs c)
      λ d q.
      record {
        shows = grew-shows c d q i.shows;
        solid = grew-solid c d q i.solid;
        headed = λ h. grew-heads c d q (i.headed h);
        here = λ h. impossible (sym (opens-low e suite case refl refl) ∙ h);
        sane = refl;
        ended = impossible;
      }
  perform-goes p (open_status n e) j xs f =
      let g = both_true (leb 6 n) (leb n 12) f in
      let low : 6 ≤ n = leb-true 6 n g.0 in
      weaken (adding-grew rooms n (status-adds rooms n low (leb-true n 12 g.1)) p j xs c)
      λ d q.
      record {
        shows = grew-shows c d q i.shows;
        solid = grew-solid c d q i.solid;
        headed = λ h. grew-heads c d q (i.headed h);
        here = λ h. subst (λ (x : ℕ). 6 ≤ x) (sym (grew_here c d q)) low;
        sane = refl;
        ended = impossible;
      }
  perform-goes p close_suite j xs f =
      accept (record { shows = i.shows; solid = i.solid; headed = i.headed; here = impossible; sane = refl; ended = impossible })
  perform-goes p close_case j xs f =
      needing _ _ _ (accept (record { shows = i.shows; solid = i.solid; headed = i.headed; here = impossible; sane = refl; ended = impossible }))
  perform-goes p close_status j xs f =
      weaken (describing-quiet rooms p m c (i.here f))
      λ d q.
      record {
        shows = quiet-shows c d q i.shows;
        solid = q.solidly i.solid;
        headed = λ h. q.heading (i.headed h);
        here = impossible;
        sane = refl;
        ended = impossible;
      }
  perform-goes p (open_text l o) j xs f =
      accept (record { shows = i.shows; solid = i.solid; headed = i.headed; here = λ e. i.here (f.0 e); sane = f.1; ended = impossible })
  perform-goes p (close_text l o) j xs f =
      weaken (outputting-quiet rooms p l o m c f.1 (output-here l m c.records (λ e. i.here (f.0 e))))
      λ d q.
      record {
        shows = quiet-shows c d q.quiet i.shows;
        solid = q.quiet.solidly i.solid;
        headed = λ h. q.quiet.heading (i.headed h);
        here = λ e. subst (λ (x : ℕ). 6 ≤ x) (sym (q.kinds m.status_at_of)) (i.here (f.0 e));
        sane = refl;
        ended = impossible;
      }
  perform-goes p (open_list l true) j xs f =
      accept
      (record {
        shows = λ u. looks-kill_kind (c.texts ++ u) (property_kind l) (list-hidden l) (record_of_it l m) c.records ∙ i.shows u;
        solid = solid-kill_kind (property_kind l) (record_of_it l m) c.records i.solid;
        headed = λ h. heads-kill_kind (property_kind l) (list-kind l) (record_of_it l m) c.records i.solid (i.headed h);
        here = λ e. impossible (sym f ∙ e);
        sane = refl;
        ended = impossible;
      })
  perform-goes p (open_list l false) j xs f =
      accept
      (record {
        shows = λ u. looks-kill_kind (c.texts ++ u) (property_kind l) (list-hidden l) (record_of_it l m) c.records ∙ i.shows u;
        solid = solid-kill_kind (property_kind l) (record_of_it l m) c.records i.solid;
        headed = λ h. heads-kill_kind (property_kind l) (list-kind l) (record_of_it l m) c.records i.solid (i.headed h);
        here = λ e. impossible (sym f ∙ e);
        sane = ap not f;
        ended = impossible;
      })
  perform-goes p (read_property l true name) j xs f =
      weaken (adding-grew rooms (property_kind l) (list-adds rooms l) p j xs c)
      λ d q.
      record {
        shows = λ u. grew-shows c d q i.shows u ∙ ap (ns ++◌) (list-nothing l (map blanked xs)) ∙ append-nil ns;
        solid = grew-solid c d q i.solid;
        headed = λ h. grew-heads c d q (i.headed h);
        here = λ e. impossible (sym f.0 ∙ e);
        sane = i.sane;
        ended = i.ended;
      }
  perform-goes p (read_property l false name) j xs f =
      weaken (adding-grew rooms (property_kind l) (list-adds rooms l) p j xs c)
      λ d q.
      record {
        shows = λ u. grew-shows c d q i.shows u ∙ ap (ns ++◌) (list-nothing l (map blanked xs)) ∙ append-nil ns;
        solid = grew-solid c d q i.solid;
        headed = λ h. grew-heads c d q (i.headed h);
        here = λ e. impossible (sym f.1 ∙ e);
        sane = ap not f.1;
        ended = impossible;
      }
  perform-goes p stop j xs f =
      accept (record { shows = i.shows; solid = i.solid; headed = i.headed; here = impossible; sane = refl; ended = λ _. f })
  perform-goes p missing j xs f = refusing
  perform-goes p (broken n) j xs f = refusing
