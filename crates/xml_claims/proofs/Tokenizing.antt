-- Tokenizing: a proof of each claim. Assumes nothing.
use Prim.Native.Nat.{ℕ, ◌+◌, ◌-◌, ◌*◌, ◌/◌, ◌≤◌, ◌<◌}
use mathlib.Core.Path.{◌≡◌, refl, sym, ap, ◌∙◌}
use mathlib.Core.List.{List, ◌++◌, append-nil}
use mathlib.Core.Bool.{Bool, true, false, cond}
use mathlib.Core.Logic.{◌⊎◌, inl, inr, ◌↔◌}
use native.Mathlib.Omega.{arith}
use borrow.Author.Tests.{ltb-false}
use lib.Dec.{ltb}
use lib.ListN.{length, take, drop, replicate}
use Rattle.xml_finish.specs.of_refusal.Refusal.{nowhere}
use Rattle.xml_finish.specs.of_area.Limits.{most_entries, most_bytes}
use Rattle.xml_sound.specs.of_xml_grammar.Documents.{FirstBad, Doctype}
use Rattle.xml_finish.specs.of_xml_machine.Runs.{Verdict, accepted, bad, doctype, verdict}
use Rattle.xml_finish.specs.of_xml_machine.Tokens.{Due, refuse, done-with, refused, Result, resulting, room_of, tokens}
use Rattle.xml_places.specs.of_xml_tokens.Due.{due_in_of, events_due, attributes_due}
use Rattle.xml_places.proofs.of_xml_tokens.Rooms.{last_due, all_due, ended, kept_of}
use Rattle.xml_places.proofs.of_xml_tokens.Answers as answers
use Rattle.xml_places.proofs.of_xml_tokens.Answers.{Short, Answered, answered, eleven, sixteen}
use Rattle.xml_places.proofs.of_xml_tokens.Flat.{laid-behind}
use Rattle.xml_places.proofs.of_xml_tokens.Tables.{not-below, Accepted, is-accepted, table-good, table-right, due-events, due-attributes}
use Rattle.xml_claims.specs.Tokenizing.{answer_to, NoDoctype, AreDue, in-document, before-bad, before-doctype, Overflows, Fits, Documented, Tokenizing}
use Rattle.xml_claims.proofs.Exact.{doctype-told, exact-accepted, exact-bad, exact-doctype, no-doctype}
use Rattle.xml_claims.proofs.Verdicts.{document-told, bad-told, two-before}
use Rattle.xml_claims.proofs.Before.{bad-due, doctype-due}
use Rattle.xml_claims.proofs.MiscStar.{misc-star}
use Rattle.xml_claims.proofs.Placed.{table-placed, records-begin, fewest}

room-words : (words : ℕ) → room_of words * 5 ≤ words
unfolding room_of
room-words words = by (ltb (words / 5) most_entries) refl
  where
    by : (x : Bool) → ltb (words / 5) most_entries ≡ x → cond x (words / 5) most_entries * 5 ≤ words
    by true e = omega arith
    by false e = let l = ltb-false (words / 5) most_entries e in omega arith

module _ (s : List ℕ) where
  -- ---- what is due, once
  abbrev events : ℕ
  events = length (events_due (all_due s))

  abbrev attributes : ℕ
  attributes = length (attributes_due (all_due s))

  bad-all : (q : ℕ) → verdict s ≡ bad q → all_due s ≡ due_in_of s
  bad-all q e = ap (λ (v : Verdict). due_in_of s ++ last_due v) e ∙ append-nil (due_in_of s)

  doctype-all : (q : ℕ) → verdict s ≡ doctype q → all_due s ≡ due_in_of s
  doctype-all q e = ap (λ (v : Verdict). due_in_of s ++ last_due v) e ∙ append-nil (due_in_of s)

  due_all : (n m : ℕ) → AreDue s n m → (n ≡ events) × (m ≡ attributes)
  due_all n m (in-document w) = (sym (due-events w), sym (due-attributes w))
  due_all n m (before-bad {q = q} f d) =
      let e : due_in_of (take q s) ≡ all_due s = sym (bad-all q (bad-told s q f d) ∙ bad-due s q f) in
      (ap (λ (ds : List Due). length (events_due ds)) e, ap (λ (ds : List Due). length (attributes_due ds)) e)
  due_all n m (before-doctype {q = q} d) =
      let e = sym (doctype-all q (doctype-told s q d)) in
      let h = doctype-due s q d in
      (ap length (sym h.0) ∙ ap (λ (ds : List Due). length (events_due ds)) e, ap length (sym h.1) ∙ ap (λ (ds : List Due). length (attributes_due ds)) e)

  are-due : (n : ℕ) × (m : ℕ) × AreDue s n m
  are-due = by (verdict s) refl
    where
      by : (v : Verdict) → verdict s ≡ v → (n : ℕ) × (m : ℕ) × AreDue s n m
      by accepted e = (_, _, in-document (exact-accepted s e))
      by (bad q) e = (_, _, before-bad (exact-bad s q e) (no-doctype s q e))
      by (doctype q) e = (_, _, before-doctype (exact-doctype s q e))

  due-once : (n m i j : ℕ) → AreDue s n m → AreDue s i j → (n ≡ i) × (m ≡ j)
  due-once n m i j d f = ((due_all n m d).0 ∙ sym (due_all i j f).0, (due_all n m d).1 ∙ sym (due_all i j f).1)

  module _ (e a : ℕ) where
    -- ---- against the rooms
    short-of : Overflows s e a → Short s e a
    short-of (n, m, d, inl h) = let z = (due_all n m d).0 in inl (omega arith)
    short-of (n, m, d, inr h) = let z = (due_all n m d).1 in inr (omega arith)

    overflows_of : Short s e a → Overflows s e a
    overflows_of (inl h) = let d = are-due in let z = (due_all d.0 d.1 d.2).0 in (d.0, d.1, d.2, inl (omega arith))
    overflows_of (inr h) = let d = are-due in let z = (due_all d.0 d.1 d.2).1 in (d.0, d.1, d.2, inr (omega arith))

    not_short : Fits s e a → ¬ Short s e a
    not_short (n, m, d, k, l) (inl h) = let z = (due_all n m d).0 in omega arith
    not_short (n, m, d, k, l) (inr h) = let z = (due_all n m d).1 in omega arith

    fits-of : ¬ Short s e a → Fits s e a
    fits-of h =
        let d = are-due in
        let z = due_all d.0 d.1 d.2 in
        let p = z.0 in
        let q = z.1 in
        let k = not-below (room_of e) events (λ x. h (inl x)) in
        let l = not-below (room_of a) attributes (λ x. h (inr x)) in
        (d.0, d.1, d.2, omega arith, omega arith)

    -- ---- the five kinds of answers
    abbrev Cleared : Type 0
    Cleared = ((tokens s e a).events ≡ replicate e 0) × ((tokens s e a).attributes ≡ replicate a 0)

    data Seen : Type 0 where
      over : most_bytes < length s → answer_to s e a ≡ refused 11 nowhere → Cleared → Seen
      short : length s ≤ most_bytes → Short s e a → answer_to s e a ≡ refused 16 nowhere → Cleared → Seen
      document : length s ≤ most_bytes → ¬ Short s e a → verdict s ≡ accepted → answer_to s e a ≡ done-with events attributes → Seen
      byte : length s ≤ most_bytes → ¬ Short s e a → (q : ℕ) → verdict s ≡ bad q → answer_to s e a ≡ refused 18 q → Cleared → Seen
      type : length s ≤ most_bytes → ¬ Short s e a → (q : ℕ) → verdict s ≡ doctype q → answer_to s e a ≡ refused 19 q → Cleared → Seen

    cleared_by : (k q : ℕ) → tokens s e a ≡ resulting (refuse k q) e a → Cleared
    unfolding resulting
    cleared_by k q t = (ap (λ (r : Result). r.events) t, ap (λ (r : Result). r.attributes) t)

    seen : Seen
    unfolding resulting
    seen = by (answered s e a)
      where
        judging : length s ≤ most_bytes → ¬ Short s e a → (v : Verdict) → verdict s ≡ v → tokens s e a ≡ resulting (ended v (kept_of s)) e a → Seen
        judging l x accepted h t = document l x h (ap (λ (r : Result). r.answer) t)
        judging l x (bad q) h t = byte l x q h (ap (λ (r : Result). r.answer) t) (cleared_by 18 q t)
        judging l x (doctype q) h t = type l x q h (ap (λ (r : Result). r.answer) t) (cleared_by 19 q t)

        by : Answered s e a → Seen
        by (answers.over l t) = over l (ap (λ (r : Result). r.answer) t) (cleared_by 11 nowhere t)
        by (answers.short l x t) = short l x (ap (λ (r : Result). r.answer) t) (cleared_by 16 nowhere t)
        by (answers.told l x t) = judging l x (verdict s) refl t

    -- ---- each claim
    accepts : (n m : ℕ) → (answer_to s e a ≡ done-with n m) ↔ ((length s ≤ most_bytes) × Fits s e a × Documented s n m)
    accepts n m = (forth, λ h. back seen h.0 (not_short h.1) h.2)
      where
        forth : answer_to s e a ≡ done-with n m → (length s ≤ most_bytes) × Fits s e a × Documented s n m
        forth h =
            let g = is-accepted s e a n m h in
            let w = exact-accepted s g.judged in
            (g.within, fits-of g.roomy, (w, g.events ∙ due-events w, g.attributes ∙ due-attributes w))

        back : Seen → length s ≤ most_bytes → ¬ Short s e a → Documented s n m → answer_to s e a ≡ done-with n m
        back (over l t c) k x d = absurd (omega arith)
        back (short l y t c) k x d = absurd (x y)
        back (document l y v t) k x (w, p, q) = t ∙ (λ i. done-with ((due-events w ∙ sym p) i) ((due-attributes w ∙ sym q) i))
        back (byte l y r v t c) k x (w, p, q) = let u = document-told s w in let z : ◌≡◌ {A = ℕ} 0 1 = cc in absurd (omega arith)
        back (type l y r v t c) k x (w, p, q) = let u = document-told s w in let z : ◌≡◌ {A = ℕ} 0 1 = cc in absurd (omega arith)

    sixteen-due : (q : ℕ) → (answer_to s e a ≡ refused 16 q) ↔ ((length s ≤ most_bytes) × Overflows s e a × (q ≡ nowhere))
    sixteen-due q = (
      λ h. let r = (sixteen s e a q).0 h in (r.0, overflows_of r.1, r.2),
      λ h. (sixteen s e a q).1 (h.0, short-of h.1, h.2),
    )

    eighteen : (q : ℕ) → (answer_to s e a ≡ refused 18 q) ↔ ((length s ≤ most_bytes) × Fits s e a × FirstBad s q × NoDoctype s)
    eighteen q = (λ h. forth seen h, λ h. back seen h.0 (not_short h.1) (bad-told s q h.2 h.3))
      where
        forth : Seen → answer_to s e a ≡ refused 18 q → (length s ≤ most_bytes) × Fits s e a × FirstBad s q × NoDoctype s
        forth (over l t c) h = let z : ◌≡◌ {A = ℕ} 11 18 = cc in absurd (omega arith)
        forth (short l y t c) h = let z : ◌≡◌ {A = ℕ} 16 18 = cc in absurd (omega arith)
        forth (document l y v t) h = let z : ◌≡◌ {A = ℕ} 0 1 = cc in absurd (omega arith)
        forth (byte l y r v t c) h = let z : r ≡ q = cc in let u = v ∙ ap bad z in (l, fits-of y, exact-bad s q u, no-doctype s q u)
        forth (type l y r v t c) h = let z : ◌≡◌ {A = ℕ} 19 18 = cc in absurd (omega arith)

        back : Seen → length s ≤ most_bytes → ¬ Short s e a → verdict s ≡ bad q → answer_to s e a ≡ refused 18 q
        back (over l t c) k x u = absurd (omega arith)
        back (short l y t c) k x u = absurd (x y)
        back (document l y v t) k x u = let z : ◌≡◌ {A = ℕ} 0 1 = cc in absurd (omega arith)
        back (byte l y r v t c) k x u = let z : r ≡ q = cc in t ∙ ap (refused 18) z
        back (type l y r v t c) k x u = let z : ◌≡◌ {A = ℕ} 0 1 = cc in absurd (omega arith)

    nineteen : (q : ℕ) → (answer_to s e a ≡ refused 19 q) ↔ ((length s ≤ most_bytes) × Fits s e a × Doctype s q)
    nineteen q = (λ h. forth seen h, λ h. back seen h.0 (not_short h.1) (doctype-told s q h.2))
      where
        forth : Seen → answer_to s e a ≡ refused 19 q → (length s ≤ most_bytes) × Fits s e a × Doctype s q
        forth (over l t c) h = let z : ◌≡◌ {A = ℕ} 11 19 = cc in absurd (omega arith)
        forth (short l y t c) h = let z : ◌≡◌ {A = ℕ} 16 19 = cc in absurd (omega arith)
        forth (document l y v t) h = let z : ◌≡◌ {A = ℕ} 0 1 = cc in absurd (omega arith)
        forth (byte l y r v t c) h = let z : ◌≡◌ {A = ℕ} 18 19 = cc in absurd (omega arith)
        forth (type l y r v t c) h = let z : r ≡ q = cc in (l, fits-of y, exact-doctype s q (v ∙ ap doctype z))

        back : Seen → length s ≤ most_bytes → ¬ Short s e a → verdict s ≡ doctype q → answer_to s e a ≡ refused 19 q
        back (over l t c) k x u = absurd (omega arith)
        back (short l y t c) k x u = absurd (x y)
        back (document l y v t) k x u = let z : ◌≡◌ {A = ℕ} 0 1 = cc in absurd (omega arith)
        back (byte l y r v t c) k x u = let z : ◌≡◌ {A = ℕ} 0 1 = cc in absurd (omega arith)
        back (type l y r v t c) k x u = let z : r ≡ q = cc in t ∙ ap (refused 19) z

    module _ (k q : ℕ) (h : answer_to s e a ≡ refused k q) where
      cleared : Cleared
      cleared = by seen
        where
          by : Seen → Cleared
          by (over l t c) = c
          by (short l y t c) = c
          by (document l y v t) = let z : ◌≡◌ {A = ℕ} 0 1 = cc in absurd (omega arith)
          by (byte l y r v t c) = c
          by (type l y r v t c) = c

      numbers : (k ≡ 11) ⊎ ((k ≡ 16) ⊎ ((k ≡ 18) ⊎ (k ≡ 19)))
      numbers = by seen
        where
          by : Seen → (k ≡ 11) ⊎ ((k ≡ 16) ⊎ ((k ≡ 18) ⊎ (k ≡ 19)))
          by (over l t c) = inl cc
          by (short l y t c) = inr (inl cc)
          by (document l y v t) = let z : ◌≡◌ {A = ℕ} 0 1 = cc in absurd (omega arith)
          by (byte l y r v t c) = inr (inr (inl cc))
          by (type l y r v t c) = inr (inr (inr cc))

    -- ---- behind the table
    module _ (n m : ℕ) (h : answer_to s e a ≡ done-with n m) where
      abbrev found : Accepted s e a n m
      found = is-accepted s e a n m h

      zero-events : (n * 5 ≤ e) × (drop (n * 5) (tokens s e a).events ≡ replicate (e - n * 5) 0)
      unfolding resulting
      zero-events =
          let z = found.events in
          let l = not-below (room_of e) events (λ x. found.roomy (inl x)) in
          let r = room-words e in
          (omega arith, (λ i. drop (found.events i * 5) (found.result i).events) ∙ laid-behind (events_due (all_due s)) e ∙ ap (λ (i : ℕ). replicate (e - i * 5) 0) (sym z))

      zero-attributes : (m * 5 ≤ a) × (drop (m * 5) (tokens s e a).attributes ≡ replicate (a - m * 5) 0)
      unfolding resulting
      zero-attributes =
          let z = found.attributes in
          let l = not-below (room_of a) attributes (λ x. found.roomy (inr x)) in
          let r = room-words a in
          (omega arith, (λ i. drop (found.attributes i * 5) (found.result i).attributes) ∙ laid-behind (attributes_due (all_due s)) a ∙ ap (λ (i : ℕ). replicate (a - i * 5) 0) (sym z))

-- THEOREM: tokenizing
pub tokenizing : Tokenizing
tokenizing = record {
  accepts = λ s e a n m. accepts s e a n m;
  resolves = λ s e a n m h w. table-right s e a n m h w;
  placed = λ s e a n m h w. table-placed s e a n m h w;
  passes = λ s e a n m h. table-good s e a n m h;
  zero_events = λ s e a n m h. zero-events s e a n m h;
  zero_attributes = λ s e a n m h. zero-attributes s e a n m h;
  cleared = λ s e a k q h. cleared s e a k q h;
  numbers = λ s e a k q h. numbers s e a k q h;
  eleven = λ s e a q. eleven s e a q;
  sixteen = λ s e a q. sixteen-due s e a q;
  begins = λ p t w. records-begin p t w;
  fewest = λ p t w. fewest p t w;
  eighteen = λ s e a q. eighteen s e a q;
  nineteen = λ s e a q. nineteen s e a q;
  earlier = λ s k q d f. two-before s k q d f;
  are_due = λ s. are-due s;
  due_once = λ s n m i j d f. due-once s n m i j d f;
  miscs = λ s. misc-star s;
}
