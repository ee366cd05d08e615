-- A UUID's text by its tests. Assumes nothing.
use Prim.Native.Nat.{ℕ, ◌+◌, ◌*◌, ◌^◌, ◌≤◌, ◌<◌}
use mathlib.Core.Path.{◌≡◌, refl, sym, ap, ◌∙◌}
use mathlib.Core.Bool.{Bool, true, false, cond, ◌&&◌, and_assoc, and-true, and-false}
use mathlib.Core.List.{List, ◌++◌}
use native.Mathlib.Omega.{arith}
use borrow.Author.Tests.{eq-eqb, ne_eqb, eqb-true}
use lib.Dec.{eqb, lit<, lit≤}
use lib.ListN.{length, get_or, take, drop, length-drop, drop_of_length-le}
use lib.Seq.{length-take-le, take-add, drop-drop}
use Rattle.names.specs.of_area.Answer.{gives, refuses}
use Rattle.fixed.specs.of_utf8.Utf8.{utf8}
use Rattle.fixed.specs.of_digits.Digits.{all_digits, value, is_number, number_in}
use Rattle.fixed.proofs.of_digits.Values.{append-digits}
use Rattle.fixed.proofs.of_digits.Numbers.{number-field, is-number, not-number}
use Rattle.fixed.specs.Fields.{part, all}
use Rattle.fixed.proofs.Tests.{passes, fails}
use Rattle.fixed.proofs.Texts.{digits-on, byte-on}
use Rattle.uuids.specs.Uuid.{uuid_tests, is_uuid, words_of, form_of, uuid_of}
use Rattle.uuids.specs.declared.Words.{Words}
use Rattle.std.specs.Prelude.{Some, None}
use Rattle.names.specs.of_refusal.declared.Cause.TheVariants as cause

abbrev hyphens : List ℕ → Bool
hyphens s = eqb (get_or s 8 0) 0x2D && eqb (get_or s 13 0) 0x2D && eqb (get_or s 18 0) 0x2D && eqb (get_or s 23 0) 0x2D

-- the n digits of s from i on, where they are read up to the largest number that they can stand for
module _ (s : List ℕ) (l : length s ≡ 36) (i n most : ℕ) (h : i + n ≤ 36) (p : 0 < n) (w : 16 ^ n ≤ most + 1) where
  group-digits : is_number 16 most (part i n s) ≡ all_digits 16 (part i n s)
  group-digits =
      let m : length (part i n s) ≡ n = length-take-le n (drop i s) (rw (length-drop i s) (omega arith)) in
      number-field 16 most (part i n s) (omega arith) (rw m w)

  group-none : None ≡ number_in 16 most (part i n s) → all_digits 16 (part i n s) ≡ false
  group-none e = sym group-digits ∙ not-number 16 most (part i n s) e

  group : (v : ℕ) → Some v ≡ number_in 16 most (part i n s) → (all_digits 16 (part i n s) ≡ true) × (v ≡ value 16 (part i n s))
  group v e = let k = is-number 16 most (part i n s) v e in (sym group-digits ∙ k.0, k.1)

module _ (s : List ℕ) where
  -- a test that fails
  form-none : (k : ℕ) → get_or (uuid_tests s) k true ≡ false → None ≡ form_of s
  unfolding is_uuid
  form-none k e = rw (fails (uuid_tests s) k e)

  pub form-length : (length s ≡ 36 → ⊥) → None ≡ form_of s
  form-length n = form-none 0 (ne_eqb (length s) 36 n)

  -- the last group is read in two parts
  last : all_digits 16 (part 24 12 s) ≡ (all_digits 16 (part 24 4 s) && all_digits 16 (part 28 8 s))
  last =
      ap (all_digits 16) (take-add 4 8 (drop 24 s) ∙ ap (λ (x : List ℕ). take 4 (drop 24 s) ++ take 8 x) (drop-drop 4 24 s))
      ∙ append-digits 16 (part 24 4 s) (part 28 8 s)

  module _ (l : length s ≡ 36) where
    pub form-first : None ≡ number_in 16 0xFFFFFFFF (part 0 8 s) → None ≡ form_of s
    form-first e = form-none 5 (group-none s l 0 8 0xFFFFFFFF (lit≤ tt) (lit< tt) (lit≤ tt) e)

    pub form-second : None ≡ number_in 16 0xFFFF (part 9 4 s) → None ≡ form_of s
    form-second e = form-none 6 (group-none s l 9 4 0xFFFF (lit≤ tt) (lit< tt) (lit≤ tt) e)

    pub form-third : None ≡ number_in 16 0xFFFF (part 14 4 s) → None ≡ form_of s
    form-third e = form-none 7 (group-none s l 14 4 0xFFFF (lit≤ tt) (lit< tt) (lit≤ tt) e)

    pub form-fourth : None ≡ number_in 16 0xFFFF (part 19 4 s) → None ≡ form_of s
    form-fourth e = form-none 8 (group-none s l 19 4 0xFFFF (lit≤ tt) (lit< tt) (lit≤ tt) e)

    pub form-fifth : None ≡ number_in 16 0xFFFF (part 24 4 s) → None ≡ form_of s
    form-fifth e = form-none 9 (last ∙ rw (group-none s l 24 4 0xFFFF (lit≤ tt) (lit< tt) (lit≤ tt) e))

    pub form-last : None ≡ number_in 16 0xFFFFFFFF (part 28 8 s) → None ≡ form_of s
    form-last e = form-none 9 (last ∙ rw (group-none s l 28 8 0xFFFFFFFF (lit≤ tt) (lit< tt) (lit≤ tt) e) (and-false (all_digits 16 (part 24 4 s))))

    module _ (a b c d e f : ℕ)
        (ea : Some a ≡ number_in 16 0xFFFFFFFF (part 0 8 s)) (eb : Some b ≡ number_in 16 0xFFFF (part 9 4 s)) (ec : Some c ≡ number_in 16 0xFFFF (part 14 4 s))
        (ed : Some d ≡ number_in 16 0xFFFF (part 19 4 s)) (ee : Some e ≡ number_in 16 0xFFFF (part 24 4 s)) (ef : Some f ≡ number_in 16 0xFFFFFFFF (part 28 8 s)) where
      abbrev Group : ℕ → ℕ → ℕ → Type 0
      Group i n v = (all_digits 16 (part i n s) ≡ true) × (v ≡ value 16 (part i n s))

      all-groups : Group 0 8 a × Group 9 4 b × Group 14 4 c × Group 19 4 d × Group 24 4 e × Group 28 8 f
      all-groups = (
        group s l 0 8 0xFFFFFFFF (lit≤ tt) (lit< tt) (lit≤ tt) a ea,
        group s l 9 4 0xFFFF (lit≤ tt) (lit< tt) (lit≤ tt) b eb,
        group s l 14 4 0xFFFF (lit≤ tt) (lit< tt) (lit≤ tt) c ec,
        group s l 19 4 0xFFFF (lit≤ tt) (lit< tt) (lit≤ tt) d ed,
        group s l 24 4 0xFFFF (lit≤ tt) (lit< tt) (lit≤ tt) e ee,
        group s l 28 8 0xFFFFFFFF (lit≤ tt) (lit< tt) (lit≤ tt) f ef,
      )

      tests : hyphens s ≡ is_uuid s
      unfolding is_uuid
      tests =
          let g = all-groups in
          rw (eq-eqb (length s) 36 l, last, g.0.0, g.1.0, g.2.0, g.3.0, g.4.0, g.5.0) (simp (and_assoc, and-true))

      pub form-wrong : hyphens s ≡ false → None ≡ form_of s
      form-wrong h = rw (sym tests ∙ h)

      pub form-right : hyphens s ≡ true → Some (record { a = a; b = b * 65536 + c; c = d * 65536 + e; d = f }) ≡ form_of s
      form-right h = let g = all-groups in rw (sym tests ∙ h, g.0.1, g.1.1, g.2.1, g.3.1, g.4.1, g.5.1)

  hyphen : (k i : ℕ) → get_or (uuid_tests s) k true ≡ eqb (get_or s i 0) 0x2D → all (uuid_tests s) ≡ true → get_or s i 0 < 0x80
  hyphen k i e h = let z = eqb-true (get_or s i 0) 0x2D (sym e ∙ passes (uuid_tests s) k h) in omega arith

  -- a UUID is ASCII
  pub uuid-utf8 : is_uuid s ≡ true → utf8 s ≡ true
  unfolding is_uuid
  uuid-utf8 h =
      let l = eqb-true (length s) 36 (passes (uuid_tests s) 0 h) in
      let g : (k : ℕ) → get_or (uuid_tests s) k true ≡ true = λ k. passes (uuid_tests s) k h in
      digits-on s 0 16 8 (g 5) (byte-on s 8 (hyphen 1 8 refl h) (digits-on s 9 16 4 (g 6) (byte-on s 13 (hyphen 2 13 refl h) (digits-on s 14 16 4 (g 7) (byte-on s 18 (hyphen 3 18 refl h)
      (digits-on s 19 16 4 (g 8) (byte-on s 23 (hyphen 4 23 refl h) (digits-on s 24 16 12 (g 9) (ap utf8 (drop_of_length-le s {i = 36} (omega arith)))))))))))

  -- what the form tells, with the test for UTF-8
  pub answer-right : (w : Words) → Some w ≡ form_of s → gives w ≡ uuid_of s
  unfolding uuid_of
  answer-right w e = go (is_uuid s) refl e
    where
      go : (b : Bool) → is_uuid s ≡ b → Some w ≡ cond b (Some (words_of s)) None → gives w ≡ uuid_of s
      go true h e = let z : w ≡ words_of s = cc in rw (uuid-utf8 h, h, z)
      go false h e = let z : ◌≡◌ {A = ℕ} 0 1 = cc in absurd (omega arith)

  pub answer-bad : None ≡ form_of s → utf8 s ≡ true → refuses cause.BadUuid ≡ uuid_of s
  unfolding uuid_of
  answer-bad e u = go (is_uuid s) refl e
    where
      go : (b : Bool) → is_uuid s ≡ b → None ≡ cond b (Some (words_of s)) None → refuses cause.BadUuid ≡ uuid_of s
      go true h e = let z : ◌≡◌ {A = ℕ} 0 1 = cc in absurd (omega arith)
      go false h e = rw (u, h)

  pub answer-not-utf8 : utf8 s ≡ false → refuses cause.NotUtf8 ≡ uuid_of s
  unfolding uuid_of
  answer-not-utf8 u = rw u
