-- The numbers that an answer may have, and when: 11, 16, or what the control says. Assumes nothing.
use Prim.Native.Nat.{ℕ, ◌≤◌, ◌<◌}
use mathlib.Core.Path.{◌≡◌, refl, sym, ap, ◌∙◌, subst}
use mathlib.Core.List.{List}
use mathlib.Core.Bool.{Bool, true, false, cond, ◌&&◌, and-eq-true_iff}
use mathlib.Core.Logic.{◌⊎◌, inl, inr, ◌↔◌}
use native.Mathlib.Omega.{arith}
use borrow.Author.Tests.{ltb-true, ltb-false, leb-true, leb-false}
use lib.Dec.{leb, ltb}
use lib.ListN.{length}
use Rattle.xml_complete.specs.of_refusal.Refusal.{nowhere}
use Rattle.xml_complete.specs.of_area.Limits.{most_bytes}
use Rattle.xml_complete.specs.of_xml_machine.State.{fresh}
use Rattle.xml_complete.specs.of_xml_machine.Runs.{Verdict, accepted, bad, doctype, verdict}
use Rattle.xml_complete.specs.of_xml_machine.Tokens.{no_marks, Room, Kept, nothing_kept, Out, read, refuse, records, refused, Result, resulting, room_of, rooms, tokens}
use Rattle.xml_tokens.specs.Due.{events_due, attributes_due}
use Rattle.xml_tokens.proofs.Rooms.{all_due, fits, ended, fitted, kept_of, run-fitted}

-- ---- only 16 hides the verdict
abbrev pub Says : Out → Verdict → Type 0
Says (read kept) v = v ≡ accepted
Says (refuse k q) v = (k ≡ 16) ⊎ (((k ≡ 18) × (v ≡ bad q)) ⊎ ((k ≡ 19) × (v ≡ doctype q)))

ended-says : (v : Verdict) (k : Kept) → Says (ended v k) v
ended-says accepted k = refl
ended-says (bad q) k = inr (inl (refl, refl))
ended-says (doctype q) k = inr (inr (refl, refl))

fitted-says : (x : Bool) (v : Verdict) (k : Kept) → Says (cond x (ended v k) (refuse 16 nowhere)) v
fitted-says true v k = ended-says v k
fitted-says false v k = inl refl

pub says : (s : List ℕ) (room : Room) → Says (records s fresh 0 room no_marks nothing_kept) (verdict s)
says s room = subst (λ (o : Out). Says o (verdict s)) (sym (run-fitted s room)) (fitted-says (fits room (kept_of s)) (verdict s) (kept_of s))

-- in areas of so many words, some record that is due no longer fits
abbrev pub Short : List ℕ → ℕ → ℕ → Type 0
Short s e a = (room_of e < length (events_due (all_due s))) ⊎ (room_of a < length (attributes_due (all_due s)))

-- ---- the answer in areas of so many words
module _ (s : List ℕ) (e a : ℕ) where
  fits_not : fits (rooms e a) (kept_of s) ≡ true → ¬ Short s e a
  fits_not g (inl h) = let l = leb-true (length (events_due (all_due s))) (room_of e) ((and-eq-true_iff (leb (length (events_due (all_due s))) (room_of e)) (leb (length (attributes_due (all_due s))) (room_of a))).0 g).0 in omega arith
  fits_not g (inr h) = let l = leb-true (length (attributes_due (all_due s))) (room_of a) ((and-eq-true_iff (leb (length (events_due (all_due s))) (room_of e)) (leb (length (attributes_due (all_due s))) (room_of a))).0 g).1 in omega arith

  short-not : (x y : Bool) → leb (length (events_due (all_due s))) (room_of e) ≡ x → leb (length (attributes_due (all_due s))) (room_of a) ≡ y → (x && y) ≡ false → Short s e a
  short-not false y p q g = inl (leb-false (length (events_due (all_due s))) (room_of e) p)
  short-not true y p q g = inr (leb-false (length (attributes_due (all_due s))) (room_of a) (q ∙ g))

  not_short : fits (rooms e a) (kept_of s) ≡ false → Short s e a
  not_short g = short-not (leb (length (events_due (all_due s))) (room_of e)) (leb (length (attributes_due (all_due s))) (room_of a)) refl refl g

  -- each source has one of three kinds of answers
  pub data Answered : Type 0 where
    over : most_bytes < length s → tokens s e a ≡ resulting (refuse 11 nowhere) e a → Answered
    short : length s ≤ most_bytes → Short s e a → tokens s e a ≡ resulting (refuse 16 nowhere) e a → Answered
    told : length s ≤ most_bytes → ¬ Short s e a → tokens s e a ≡ resulting (ended (verdict s) (kept_of s)) e a → Answered

  pub answered : Answered
  unfolding tokens
  answered = by (ltb most_bytes (length s)) refl
    where
      fitting : (y : Bool) → fits (rooms e a) (kept_of s) ≡ y → length s ≤ most_bytes → tokens s e a ≡ resulting (fitted (rooms e a) (verdict s) (kept_of s)) e a → Answered
      fitting true g l h = told l (fits_not g) (h ∙ ap (λ (x : Bool). resulting (cond x (ended (verdict s) (kept_of s)) (refuse 16 nowhere)) e a) g)
      fitting false g l h = short l (not_short g) (h ∙ ap (λ (x : Bool). resulting (cond x (ended (verdict s) (kept_of s)) (refuse 16 nowhere)) e a) g)

      by : (x : Bool) → ltb most_bytes (length s) ≡ x → Answered
      by true g = over (ltb-true most_bytes (length s) g) (ap (λ (x : Bool). resulting (cond x (refuse 11 nowhere) (records s fresh 0 (rooms e a) no_marks nothing_kept)) e a) g)
      by false g =
          fitting (fits (rooms e a) (kept_of s)) refl (ltb-false most_bytes (length s) g)
          (ap (λ (x : Bool). resulting (cond x (refuse 11 nowhere) (records s fresh 0 (rooms e a) no_marks nothing_kept)) e a) g ∙ ap (λ (o : Out). resulting o e a) (run-fitted s (rooms e a)))

  -- ---- 11 and 16
  pub eleven : (q : ℕ) → ((tokens s e a).answer ≡ refused 11 q) ↔ ((most_bytes < length s) × (q ≡ nowhere))
  unfolding resulting
  eleven q = (λ h. by answered h, λ h. back answered h.0 h.1)
    where
      no_end : (v : Verdict) → (resulting (ended v (kept_of s)) e a).answer ≡ refused 11 q → ⊥
      no_end accepted h = let z : ◌≡◌ {A = ℕ} 0 1 = cc in omega arith
      no_end (bad p) h = let z : ◌≡◌ {A = ℕ} 18 11 = cc in omega arith
      no_end (doctype p) h = let z : ◌≡◌ {A = ℕ} 19 11 = cc in omega arith

      by : Answered → (tokens s e a).answer ≡ refused 11 q → (most_bytes < length s) × (q ≡ nowhere)
      by (over l t) h = let w = ap (λ (r : Result). r.answer) t in (l, cc)
      by (short l x t) h = let w = ap (λ (r : Result). r.answer) t in let z : ◌≡◌ {A = ℕ} 16 11 = cc in absurd (omega arith)
      by (told l x t) h = absurd (no_end (verdict s) (sym (ap (λ (r : Result). r.answer) t) ∙ h))

      back : Answered → most_bytes < length s → q ≡ nowhere → (tokens s e a).answer ≡ refused 11 q
      back (over l t) m z = ap (λ (r : Result). r.answer) t ∙ ap (refused 11) (sym z)
      back (short l x t) m z = absurd (omega arith)
      back (told l x t) m z = absurd (omega arith)

  pub sixteen : (q : ℕ) → ((tokens s e a).answer ≡ refused 16 q) ↔ ((length s ≤ most_bytes) × Short s e a × (q ≡ nowhere))
  unfolding resulting
  sixteen q = (λ h. by answered h, λ h. back answered h.0 h.1 h.2)
    where
      no_end : (v : Verdict) → (resulting (ended v (kept_of s)) e a).answer ≡ refused 16 q → ⊥
      no_end accepted h = let z : ◌≡◌ {A = ℕ} 0 1 = cc in omega arith
      no_end (bad p) h = let z : ◌≡◌ {A = ℕ} 18 16 = cc in omega arith
      no_end (doctype p) h = let z : ◌≡◌ {A = ℕ} 19 16 = cc in omega arith

      by : Answered → (tokens s e a).answer ≡ refused 16 q → (length s ≤ most_bytes) × Short s e a × (q ≡ nowhere)
      by (over l t) h = let w = ap (λ (r : Result). r.answer) t in let z : ◌≡◌ {A = ℕ} 16 11 = cc in absurd (omega arith)
      by (short l x t) h = let w = ap (λ (r : Result). r.answer) t in (l, x, cc)
      by (told l x t) h = absurd (no_end (verdict s) (sym (ap (λ (r : Result). r.answer) t) ∙ h))

      back : Answered → length s ≤ most_bytes → Short s e a → q ≡ nowhere → (tokens s e a).answer ≡ refused 16 q
      back (over l t) m y z = absurd (omega arith)
      back (short l x t) m y z = ap (λ (r : Result). r.answer) t ∙ ap (refused 16) (sym z)
      back (told l x t) m y z = absurd (x y)
