-- The reference behind an ampersand. Assumes nothing.
use Prim.Native.Nat.{ℕ, suc, ◌+◌, ◌≤◌, ◌<◌}
use mathlib.Core.Path.{◌≡◌, refl, ap}
use mathlib.Core.List.{List, ◌∷◌, ◌++◌}
use mathlib.Core.Bool.{Bool, true, false, cond, ◌&&◌, and-false, and-eq-true_iff}
use native.Mathlib.Omega.{arith}
use native.Mathlib.Numerals.{add-one}
use borrow.Author.Tests.{lt-ltb, le-ltb, ltb-true}
use lib.Dec.{ltb}
use lib.ListN.{length, take, length-append}
use lib.Seq.{length-take-le, take-append_seam}
use Rattle.names.specs.of_area.Answer.{gives, refuses}
use Rattle.reference.specs.Reference.{xml_char, is_named, char_of, named, semicolon, ref_at, bytes_of}
use Rattle.std.specs.Prelude.{Option, Some, None}
use Rattle.names.proofs.of_area.Answers.{given, refused}
use Rattle.reference.proofs.Naming.{char-code}
use Rattle.reference.proofs.Letters.{named-length, named-xml, named-semicolon}
use Rattle.names.specs.of_refusal.declared.Cause.TheVariants as cause

-- the reference, from the tests that lead to it
module _ (s : List ℕ) (e : ℕ) (q : e ≡ semicolon s) where
  pub ref-open : length s ≤ e → None ≡ ref_at s
  unfolding ref_at
  ref-open h = rw (← q, le-ltb e (length s) h) refl

  module _ (h : e < length s) where
    pub ref-unnamed : refuses cause.BadReference ≡ named (take e s) → None ≡ ref_at s
    unfolding ref_at
    ref-unnamed p = rw (← q, refused (is_named (take e s)) (char_of (take e s)) cause.BadReference cause.BadReference p, and-false (ltb e (length s))) refl

    pub ref-named : (c : ℕ) → gives c ≡ named (take e s) → Some (c, e + 1) ≡ ref_at s
    unfolding ref_at
    ref-named c p =
        let g = given (is_named (take e s)) (char_of (take e s)) cause.BadReference c p in
        rw (add-one e, ← q, lt-ltb e (length s) h, g.0, g.1) refl

-- a reference is a name and its semicolon
pub record Cut (s : List ℕ) (c w : ℕ) : Type 0 where
  pub fits : semicolon s < length s
  pub named : is_named (take (semicolon s) s) ≡ true
  pub char : c ≡ char_of (take (semicolon s) s)
  pub bytes : w ≡ suc (semicolon s)

pub ref-cut : (s : List ℕ) (c w : ℕ) → ref_at s ≡ Some (c, w) → Cut s c w
unfolding ref_at
ref-cut s c w e = go (ltb (semicolon s) (length s) && is_named (take (semicolon s) s)) refl e
  where
    go : (t : Bool) → (ltb (semicolon s) (length s) && is_named (take (semicolon s) s)) ≡ t → cond {A = Option (ℕ × ℕ)} t (Some (char_of (take (semicolon s) s), suc (semicolon s))) None ≡ Some (c, w) → Cut s c w
    go true q p =
        let b = (and-eq-true_iff (ltb (semicolon s) (length s)) (is_named (take (semicolon s) s))).0 q in
        let r : ◌≡◌ {A = ℕ × ℕ} (c, w) (char_of (take (semicolon s) s), suc (semicolon s)) = cc in
        record { fits = ltb-true (semicolon s) (length s) b.0; named = b.1; char = ap (λ (x : ℕ × ℕ). x.0) r; bytes = ap (λ (x : ℕ × ℕ). x.1) r }
    go false q p = let z : ◌≡◌ {A = ℕ} 0 1 = cc in absurd (omega arith)

-- what is known of a reference
pub record Found (s : List ℕ) (c w : ℕ) : Type 0 where
  pub fits : w ≤ length s
  pub least : 3 ≤ w
  pub char : xml_char c ≡ true
  pub code : c < 0x110000

-- what is known where a reference was found: it ends in the text, and its character is one of XML
pub ref-found : (s : List ℕ) (c w : ℕ) → ref_at s ≡ Some (c, w) → Found s c w
ref-found s c w e =
    let k = ref-cut s c w e in
    let n = length-take-le (semicolon s) s (let h = k.fits in omega arith) in
    let x : xml_char c ≡ true = rw k.char (named-xml (take (semicolon s) s) k.named) in
    record {
      fits = omega (arith, k.fits, k.bytes);
      least = omega (arith, k.bytes, named-length (take (semicolon s) s) k.named);
      char = x;
      code = char-code c x;
    }

-- the bytes that a reference takes lie in the text
pub ref-fits : (s : List ℕ) → bytes_of (ref_at s) ≤ length s
ref-fits s = go (ref_at s) refl
  where
    go : (r : Option (ℕ × ℕ)) → ref_at s ≡ r → bytes_of r ≤ length s
    go (Some (c, w)) q = (ref-found s c w q).fits
    go None q = omega arith

-- a name that stands for a character, with its semicolon, is a reference
pub ref-name : (name t : List ℕ) → is_named name ≡ true → ref_at (name ++ 0x3B ∷ t) ≡ Some (char_of name, suc (length name))
unfolding ref_at
ref-name name t e =
    rw (named-semicolon name e t, take-append_seam name (0x3B ∷ t), e, lt-ltb (length name) (length (name ++ 0x3B ∷ t)) (rw (length-append name (0x3B ∷ t)) (omega arith))) refl
