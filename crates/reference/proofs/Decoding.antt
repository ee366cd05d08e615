-- The references of a value and what it stands for, at a place of the value. Assumes nothing.
use Prim.Native.Nat.{ℕ, zero, suc, ◌+◌, ◌≤◌, ◌<◌}
use mathlib.Core.Path.{◌≡◌, refl, ap, ◌∙◌}
use mathlib.Core.List.{List, [], ◌∷◌, ◌++◌}
use mathlib.Core.Bool.{Bool, true, false, cond, not, ◌&&◌, and-eq-true_iff}
use native.Mathlib.Omega.{arith}
use borrow.Author.Tests.{eq-eqb, ne_eqb, not-true}
use lib.Dec.{eqb, lit≤}
use lib.ListN.{length, drop, get_or, drop_of_length-le, length-drop, length-append}
use lib.Seq.{drop-drop, drop-append-add}
use Rattle.names.proofs.of_area.Lists.{drop-next}
use Rattle.digits.specs.of_utf8.Characters.{encode}
use Rattle.digits.proofs.of_utf8.Encoding.{encode-most}
use Rattle.reference.specs.Reference.{is_named, char_of, ref_at, is_ref, code_of, bytes_of, refs_ok, decoded, no_ampersand}
use Rattle.std.specs.Prelude.{Option, Some, None}
use Rattle.reference.proofs.Behind.{ref-found, ref-fits, ref-name}

-- bytes that are passed over
pub refs-drop : (s : List ℕ) (k : ℕ) → refs_ok s k ≡ refs_ok (drop k s) 0
refs-drop [] zero = refl
refs-drop [] (suc k) = refl
refs-drop (b ∷ s) zero = refl
refs-drop (b ∷ s) (suc k) = refs-drop s k

-- decoding from place k on is decoding the rest
pub decoded-drop : (s : List ℕ) (k : ℕ) → decoded s k ≡ decoded (drop k s) 0
decoded-drop [] zero = refl
decoded-drop [] (suc k) = refl
decoded-drop (b ∷ s) zero = refl
decoded-drop (b ∷ s) (suc k) = decoded-drop s k

module _ (s : List ℕ) (i : ℕ) where
  pub refs_end : length s ≤ i → refs_ok (drop i s) 0 ≡ true
  refs_end h = rw (drop_of_length-le s {i = i} h) refl

  pub decoded-end : length s ≤ i → decoded (drop i s) 0 ≡ []
  decoded-end h = rw (drop_of_length-le s {i = i} h) refl

  module _ (h : i < length s) where
    -- a byte other than &
    module _ (o : get_or s i 0 ≡ 0x26 → ⊥) where
      pub refs-plain : refs_ok (drop i s) 0 ≡ refs_ok (drop (i + 1) s) 0
      refs-plain = rw (drop-next s i h, ne_eqb (get_or s i 0) 0x26 o) refl

      pub decoded-plain : decoded (drop i s) 0 ≡ get_or s i 0 ∷ decoded (drop (i + 1) s) 0
      decoded-plain = rw (drop-next s i h, ne_eqb (get_or s i 0) 0x26 o) refl

    module _ (a : get_or s i 0 ≡ 0x26) where
      refs-step : refs_ok (drop i s) 0 ≡ (is_ref (ref_at (drop (i + 1) s)) && refs_ok (drop (i + 1) s) (bytes_of (ref_at (drop (i + 1) s))))
      refs-step = rw (drop-next s i h, eq-eqb (get_or s i 0) 0x26 a) refl

      decoded-step : decoded (drop i s) 0 ≡ encode (code_of (ref_at (drop (i + 1) s))) ++ decoded (drop (i + 1) s) (bytes_of (ref_at (drop (i + 1) s)))
      decoded-step = rw (drop-next s i h, eq-eqb (get_or s i 0) 0x26 a) refl

      -- an & that begins no reference
      module _ (r : ref_at (drop (i + 1) s) ≡ None) where
        pub refs-bad : refs_ok (drop i s) 0 ≡ false
        refs-bad = refs-step ∙ rw r refl

        pub decoded-bad : decoded (drop i s) 0 ≡ encode 0 ++ decoded (drop (i + 1) s) 0
        decoded-bad = decoded-step ∙ rw r refl

      -- a reference
      module _ (c w : ℕ) (r : ref_at (drop (i + 1) s) ≡ Some (c, w)) where
        pub refs-good : refs_ok (drop i s) 0 ≡ refs_ok (drop (i + 1 + w) s) 0
        refs-good = refs-step ∙ rw r (refs-drop (drop (i + 1) s) w ∙ ap (λ (l : List ℕ). refs_ok l 0) (drop-drop w (i + 1) s))

        pub decoded-good : decoded (drop i s) 0 ≡ encode c ++ decoded (drop (i + 1 + w) s) 0
        decoded-good = decoded-step ∙ rw r (ap (λ (l : List ℕ). encode c ++ l) (decoded-drop (drop (i + 1) s) w ∙ ap (λ (l : List ℕ). decoded l 0) (drop-drop w (i + 1) s)))

    pub good-fits : (c w : ℕ) → ref_at (drop (i + 1) s) ≡ Some (c, w) → i + 1 + w ≤ length s
    good-fits c w r =
        omega (arith, (ref-found (drop (i + 1) s) c w r).fits, length-drop (i + 1) s)

-- a value without & stands for itself
pub plain-refs : (s : List ℕ) → no_ampersand s ≡ true → refs_ok s 0 ≡ true
plain-refs [] e = refl
plain-refs (b ∷ s) e =
    let p = (and-eq-true_iff (not (eqb b 0x26)) (no_ampersand s)).0 e in
    rw (not-true (eqb b 0x26) p.0) (plain-refs s p.1)

-- a text without ampersands stands for itself
pub plain-decoded : (s : List ℕ) → no_ampersand s ≡ true → decoded s 0 ≡ s
plain-decoded [] e = refl
plain-decoded (b ∷ s) e =
    let p = (and-eq-true_iff (not (eqb b 0x26)) (no_ampersand s)).0 e in
    rw (not-true (eqb b 0x26) p.0) (ap (λ (l : List ℕ). b ∷ l) (plain-decoded s p.1))

-- a reference at the front
module _ (name t : List ℕ) (e : is_named name ≡ true) where
  behind : drop (suc (length name)) (name ++ 0x3B ∷ t) ≡ t
  behind = let z : suc (length name) ≡ length name + 1 = omega arith in rw (z, drop-append-add name (0x3B ∷ t) 1) refl

  -- a named reference in front changes nothing about the rest's references being good
  pub refs-name : refs_ok (0x26 ∷ name ++ 0x3B ∷ t) 0 ≡ refs_ok t 0
  refs-name = rw (ref-name name t e) (refs-drop (name ++ 0x3B ∷ t) (suc (length name)) ∙ ap (λ (l : List ℕ). refs_ok l 0) behind)

  -- a named reference in front stands for its character, before what the rest stands for
  pub decoded-name : decoded (0x26 ∷ name ++ 0x3B ∷ t) 0 ≡ encode (char_of name) ++ decoded t 0
  decoded-name = rw (ref-name name t e) (ap (λ (l : List ℕ). encode (char_of name) ++ l) (decoded-drop (name ++ 0x3B ∷ t) (suc (length name)) ∙ ap (λ (l : List ℕ). decoded l 0) behind))

-- a character is no longer than a reference to it
encode-length : (s : List ℕ) → length (encode (code_of (ref_at s))) ≤ suc (bytes_of (ref_at s))
unfolding encode
encode-length s = go (ref_at s) refl
  where
    go : (r : Option (ℕ × ℕ)) → ref_at s ≡ r → length (encode (code_of r)) ≤ suc (bytes_of r)
    go (Some (c, w)) q = omega (arith, encode-most c, (ref-found s c w q).least)
    go None q = lit≤ tt

decoded-within : (s : List ℕ) (k : ℕ) → length (decoded s k) ≤ length (drop k s)
decoded-within [] zero = omega arith
decoded-within [] (suc k) = omega arith
decoded-within (b ∷ s) (suc k) = decoded-within s k
decoded-within (b ∷ s) zero = go (eqb b 0x26) (decoded-within s 0) (decoded-within s (bytes_of (ref_at s)))
  where
    go : (t : Bool) → length (decoded s 0) ≤ length s → length (decoded s (bytes_of (ref_at s))) ≤ length (drop (bytes_of (ref_at s)) s)
        → length (cond t (encode (code_of (ref_at s)) ++ decoded s (bytes_of (ref_at s))) (b ∷ decoded s 0)) ≤ suc (length s)
    go true plain over =
        rw (length-append (encode (code_of (ref_at s))) (decoded s (bytes_of (ref_at s)))) (omega (arith, encode-length s, ref-fits s, length-drop (bytes_of (ref_at s)) s))
    go false plain over = omega arith

-- a text stands for no more bytes than it has: the area for it needn't be longer
pub decoded-length : (s : List ℕ) → length (decoded s 0) ≤ length s
decoded-length s = decoded-within s 0
