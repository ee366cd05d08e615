-- An element's record behind its attributes, against the definition. Assumes nothing.
use Rattle.std.specs.Prelude.{Result, Ok, Err}
use Prim.Native.Nat.{ℕ, ◌+◌, ◌-◌, ◌*◌, ◌/◌, ◌%◌, ◌≤◌, ◌<◌}
use mathlib.Core.Path.{◌≡◌, refl, sym, ap, subst, ◌∙◌}
use mathlib.Core.Bool.{Bool, true, false, cond, not, ◌&&◌, ◌||◌}
use mathlib.Core.List.{List, [], ◌∷◌, ◌++◌}
use native.Mathlib.Omega.{arith}
use borrow.Author.Tests.{le-leb, lt-leb}
use lib.ListN.{length, get_or, set, take, drop, length-set, length-replicate, replicate-append-replicate, take-append-drop, get_or-append}
use lib.Seq.{set-append_left, length-take-le}
use lib.Dec.{leb, eqb}
use Rattle.read_all.specs.of_area.Area.{zeros}
use Rattle.read_all.specs.of_refusal.Refusal.{nowhere, Outcome, accepted, refused}
use Rattle.read_all.specs.of_refusal.declared.Cause.TheVariants.{MissingAttribute, RecordsSpent}
use Rattle.read_all.specs.of_table.Event.{Attribute, attributes_from}
use Rattle.read_all.specs.of_tree_record.Record.{mask_of, has_bit}
use Rattle.read_all.specs.of_read_element.Outcome.{◌>>=◌, Place, Rooms, need, within, fits}
use Rattle.read_all.specs.of_read_element.Attributes.{Given, Grown, read_attributes, complete, read_element}
use Rattle.read_all.specs.of_utf8.Characters.{joined}
use Rattle.read_all.specs.of_read_element.inside.Held.{Held, Roomy}
use Rattle.read_all.specs.of_read_element.inside.Refines.{went, stopped}
use Rattle.read_all.specs.of_read_attribute.inside.Steps.{fault_at, Matches}
use Rattle.read_attributes.specs.inside.Elements.{fault_element, missing_of, Free, known_of, Becomes, grew}
use Rattle.read_all.specs.of_read_each.inside.Fresh.{fresh}
use Rattle.read_all.specs.of_read_extra_record.declared.Given.{Given as Counted}
use Rattle.read_all.specs.of_read_fault.declared.Fault.{Fault}
use Rattle.read_attributes.specs.declared.Grown.{Grown as CodedGrown}
use Rattle.read_all.specs.of_read_attribute.declared.Range.{Range}
use Rattle.read_all.proofs.of_read_element.TreeOutcome.{Holds, held}
use Rattle.read_all.proofs.of_read_each.HeldBounds.{held-extras}
use Rattle.read_attributes.proofs.FreeKeys.{free-read, free-either}
use Rattle.read_all.proofs.of_read_each.Going.{spacious, somewhere, roomy_spacious, Gone, gone, halted}
use Rattle.read_all.specs.of_refusal.declared.Cause.TheVariants as cause

-- the areas before the first attribute, with the kind put
pub begun : (kind fill : ℕ) (own text : List ℕ) → own ≡ zeros (length own) → 32 ≤ length own → fill ≤ length text → drop fill text ≡ zeros (length text - fill)
    → {own' : List ℕ} → own' ≡ set own 0 kind → Held own' text 0 fill (fresh kind (take fill text))
begun kind fill own text z h f d {own'} e =
    let n : length own ≡ 32 + (length own - 32) = omega arith in
    let l = length-replicate {A = ℕ} 32 0 in
    record {
      room = length own - 32;
      left = length text - fill;
      records =
          e ∙ ap (λ (x : List ℕ). set x 0 kind) (z ∙ ap zeros n ∙ sym (replicate-append-replicate {A = ℕ} 32 (length own - 32) 0))
          ∙ set-append_left (zeros 32) (zeros (length own - 32)) 0 kind (omega arith);
      main-words = refl;
      keyed = tt;
      count = refl;
      stored = sym (take-append-drop fill text) ∙ ap (λ (x : List ℕ). take fill text ++ x) d;
      filled = sym (length-take-le fill text f);
    }

-- ---- what is missing
abbrev lacking : ℕ → Fault
lacking k = record { cause = MissingAttribute; key = k; attribute = nowhere }

module _ (p : Place) (g : Given) where
  lacks : p.attribute ≡ nowhere → (a b c d : Bool) (k : ℕ) → k ≡ cond (a && not b) 1 (cond (c && not d) 14 0) → (k ≡ 0 → ⊥)
      → need (not a || b) (within p 1) cause.MissingAttribute (need (not c || d) (within p 14) cause.MissingAttribute (accepted g)) ≡ refused (fault_at p (lacking k))
  unfolding need
  lacks w true true true true k e h = absurd (h e)
  lacks w true true true false k e h = rw (e, w) refl
  lacks w true true false d k e h = absurd (h e)
  lacks w true false c d k e h = rw (e, w) refl
  lacks w false b true true k e h = absurd (h e)
  lacks w false b true false k e h = rw (e, w) refl
  lacks w false b false d k e h = absurd (h e)

  lacks-none : (a b c d : Bool) (k : ℕ) → k ≡ cond (a && not b) 1 (cond (c && not d) 14 0) → k ≡ 0
      → need (not a || b) (within p 1) cause.MissingAttribute (need (not c || d) (within p 14) cause.MissingAttribute (accepted g)) ≡ accepted g
  unfolding need
  lacks-none true true true true k e h = refl
  lacks-none true true true false k e h = absurd (omega arith)
  lacks-none true true false d k e h = refl
  lacks-none true false c d k e h = absurd (omega arith)
  lacks-none false b true true k e h = refl
  lacks-none false b true false k e h = absurd (omega arith)
  lacks-none false b false d k e h = refl

-- the presence bits of the area's first record are those of the element's
missing-held : (kind : ℕ) {own text : List ℕ} {extras fill : ℕ} {g : Given} → Held own text extras fill g → missing_of kind own ≡ missing_of kind g.main
missing-held kind {own} {text} {extras} {fill} {g} hd =
    let m = hd.main-words in
    ap (λ (w : ℕ). cond ((leb 2 kind && leb kind 5) && not (eqb (w / mask_of 0 % 2) 1)) 1 (cond ((leb 4 kind && leb kind 5) && not (eqb (w / mask_of 1 % 2) 1)) 14 0))
    (ap (λ (x : List ℕ). get_or x 1 0) hd.records ∙ get_or-append g.main (joined g.extras ++ zeros hd.room) 0 1 (omega arith))

-- ---- an element's outcome
abbrev rest : Place → ℕ → List (List ℕ) → Given → Outcome Grown
rest p kind before g = complete p kind g >>= λ h. accepted (record { records = before ++ (h.main ∷ h.extras); texts = h.texts })

module _ {rooms : Rooms} (p : Place) (before : List (List ℕ)) {n m : ℕ} (ro : Roomy rooms (length before) n m) (kind j : ℕ) (xs : List Attribute) (texts : List ℕ) where
  opened : {b : Bool} → fits rooms.records (length before + 1) ≡ b
      → read_element rooms p kind j xs before texts ≡ (need b p cause.RecordsSpent (read_attributes rooms p (length before) kind [] j xs (fresh kind texts)) >>= rest p kind before)
  unfolding read_element
  opened e = ap (λ (t : Bool). need t p cause.RecordsSpent (read_attributes rooms p (length before) kind [] j xs (fresh kind texts)) >>= rest p kind before) e

  pub element-spent : n < 32 → p.attribute ≡ nowhere → {own text attributes source : List ℕ} {t : Result CodedGrown Fault} → t ≡ fault_element RecordsSpent 0 nowhere
      → Becomes p before own text attributes source (read_element rooms p kind j xs before texts) t
  unfolding need ◌>>=◌
  element-spent h w {own} {text} {attributes} {source} {t} q =
      let f : Fault = record { cause = RecordsSpent; key = 0; attribute = nowhere } in
      let e : (need false p cause.RecordsSpent (read_attributes rooms p (length before) kind [] j xs (fresh kind texts)) >>= rest p kind before) ≡ refused (fault_at p f) = rw w refl in
      subst (λ (t : Result CodedGrown Fault). Becomes p before own text attributes source (read_element rooms p kind j xs before texts) t) (sym q)
      (subst (λ (o : Outcome Grown). Becomes p before own text attributes source o (Err f)) (sym (opened (ro.for-records 1 ∙ lt-leb (1 * 32) n (omega arith)) ∙ e)) stopped)

  module _ (h : 32 ≤ n) where
    -- behind the attributes' outcome
    behind : {o : Outcome Given} → read_attributes rooms p (length before) kind [] j xs (fresh kind texts) ≡ o → read_element rooms p kind j xs before texts ≡ (o >>= rest p kind before)
    unfolding need
    behind e = opened (ro.for-records 1 ∙ le-leb (1 * 32) n (omega arith)) ∙ ap (λ (o : Outcome Given). o >>= rest p kind before) e

    module _ {own text attributes source : List ℕ} where
      pub element-halted : {f : Fault} → read_attributes rooms p (length before) kind [] j xs (fresh kind texts) ≡ refused (fault_at p f)
          → Becomes p before own text attributes source (read_element rooms p kind j xs before texts) (Err f)
      unfolding ◌>>=◌
      element-halted {f} e = subst (λ (o : Outcome Grown). Becomes p before own text attributes source o (Err f)) (sym (behind e)) stopped

      module _ {given : Counted} (x : Gone own text (read_attributes rooms p (length before) kind [] j xs (fresh kind texts)) given) {k : ℕ} (e : k ≡ missing_of kind own) where
        pub element-lacking : p.attribute ≡ nowhere → (k ≡ 0 → ⊥) → Becomes p before own text attributes source (read_element rooms p kind j xs before texts) (fault_element MissingAttribute k nowhere)
        unfolding ◌>>=◌ complete
        element-lacking w z =
            let q = lacks p x.said w (leb 2 kind && leb kind 5) (has_bit 0 x.said.main) (leb 4 kind && leb kind 5) (has_bit 1 x.said.main) k (e ∙ missing-held kind x.holds) z in
            subst (λ (o : Outcome Grown). Becomes p before own text attributes source o (Err (lacking k)))
            (sym (behind x.same ∙ ap (λ (o : Outcome Given). o >>= λ h. accepted (record { records = before ++ (h.main ∷ h.extras); texts = h.texts })) q)) stopped

        pub element-grown : k ≡ 0 → (free : Range) → Free attributes source free.first free.end
            → Becomes p before own text attributes source (read_element rooms p kind j xs before texts) (Ok (record { records = given.extras + 1; fill = given.fill; free = free }))
        unfolding ◌>>=◌ complete
        element-grown z free f =
            let q = lacks-none p x.said (leb 2 kind && leb kind 5) (has_bit 0 x.said.main) (leb 4 kind && leb kind 5) (has_bit 1 x.said.main) k (e ∙ missing-held kind x.holds) z in
            subst (λ (o : Outcome Grown). Becomes p before own text attributes source o (Ok (record { records = given.extras + 1; fill = given.fill; free = free })))
            (sym (behind x.same ∙ ap (λ (o : Outcome Given). o >>= λ h. accepted (record { records = before ++ (h.main ∷ h.extras); texts = h.texts })) q))
            (went (grew {extras = given.extras} x.holds refl f))

-- ---- what `read_record` comes to
-- what `read_attributes` says
abbrev ReadAll : ℕ → List ℕ → List ℕ → Range → List ℕ → List ℕ → List ℕ → List ℕ → List ℕ → Result Counted Fault → Type 0
ReadAll kind attributes source range texts own text own' text' r =
    (rooms : Rooms) (p : Place) (used : ℕ) → Roomy rooms used (length own) (length text)
    → Matches p own' text' (read_attributes rooms p used kind [] range.first (attributes_from attributes source (range.end - range.first) range.first) (fresh kind texts)) r

module _ (kind : ℕ) (attributes source : List ℕ) (range : Range) (texts own₀ text : List ℕ) {own own' text' : List ℕ} {r : Result Counted Fault}
    (put : own ≡ set own₀ 0 kind) (room : 32 ≤ length own₀) (s : ReadAll kind attributes source range texts own text own' text' r) where
  told : {t : Result Counted Fault} → r ≡ t → (rooms : Rooms) (p : Place) (used : ℕ) → Roomy rooms used (length own₀) (length text)
      → Matches p own' text' (read_attributes rooms p used kind [] range.first (attributes_from attributes source (range.end - range.first) range.first) (fresh kind texts)) t
  told q rooms p used ro =
      subst (λ (t : Result Counted Fault).
      Matches p own' text' (read_attributes rooms p used kind [] range.first (attributes_from attributes source (range.end - range.first) range.first) (fresh kind texts)) t) q
      (s rooms p used (subst (λ (n : ℕ). Roomy rooms used n (length text)) (sym (ap length put ∙ length-set own₀ 0 kind)) ro))

  -- the extras have room
  pub record-extras : {given : Counted} → r ≡ Ok given → given.extras * 32 + 32 ≤ length own'
  record-extras q = held-extras (gone (told q (spacious (length own₀) (length text)) somewhere 0 (roomy_spacious (length own₀) (length text)))).holds

  module _ (rooms : Rooms) (p : Place) (before : List (List ℕ)) (w : p.attribute ≡ nowhere) (ro : Roomy rooms (length before) (length own₀) (length text)) where
    pub record-halted : {f : Fault} → r ≡ Err f
        → Becomes p before own' text' attributes source
        (read_element rooms p kind range.first (attributes_from attributes source (range.end - range.first) range.first) before texts) (Err f)
    record-halted q =
        element-halted p before ro kind range.first (attributes_from attributes source (range.end - range.first) range.first) texts room (halted (told q rooms p (length before) ro))

    module _ {given : Counted} (q : r ≡ Ok given) {k : ℕ} (e : k ≡ missing_of kind own') where
      pub record_lacking : (k ≡ 0 → ⊥) → {t : Result CodedGrown Fault} → t ≡ fault_element MissingAttribute k nowhere
          → Becomes p before own' text' attributes source (read_element rooms p kind range.first (attributes_from attributes source (range.end - range.first) range.first) before texts) t
      record_lacking z u =
          rw u
          (element-lacking p before ro kind range.first (attributes_from attributes source (range.end - range.first) range.first) texts room (gone (told q rooms p (length before) ro)) e w z)

      pub record-grown : k ≡ 0 → range.first ≤ range.end → (known : Range) → Free attributes source known.first known.end → {free : Range} → free ≡ known_of known range
          → Becomes p before own' text' attributes source (read_element rooms p kind range.first (attributes_from attributes source (range.end - range.first) range.first) before texts)
          (Ok (record { records = given.extras + 1; fill = given.fill; free = free }))
      record-grown z l known f {free} u =
          let x = gone (told q rooms p (length before) ro) in
          let h : Holds (λ _. Free attributes source range.first range.end) (accepted x.said) =
          subst (λ (o : Outcome Given). Holds (λ _. Free attributes source range.first range.end) o) x.same
          (free-read attributes source rooms p (length before) kind range.first range.end (fresh kind texts) l) in
          element-grown p before ro kind range.first (attributes_from attributes source (range.end - range.first) range.first) texts room x e z free
          (free-either attributes source known range f (held h) u)
