-- What a value stands for is UTF-8 where the value is. Assumes nothing.
use Prim.Native.Nat.{ℕ, zero, suc, ◌≤◌, ◌<◌}
use mathlib.Core.Path.{◌≡◌, refl, sym, ap, ◌∙◌}
use mathlib.Core.List.{List, [], ◌∷◌, ◌++◌}
use mathlib.Core.Bool.{Bool, true, false, cond, and-eq-true_iff}
use native.Mathlib.Omega.{arith}
use borrow.Author.Tests.{ne_eqb, leb-true, eqb-true}
use lib.Dec.{leb, eqb, lit≤}
use lib.ListN.{take, drop, get_or}
use lib.Seq.{split_at}
use Rattle.digits.specs.of_utf8.Utf8.{need, low, high, within, ok, utf8}
use Rattle.digits.specs.of_utf8.Characters.{encode}
use Rattle.names.proofs.of_area.Seeking.{at_first}
use Rattle.digits.proofs.of_utf8.Runs.{ok-zero, low-least}
use Rattle.digits.proofs.of_utf8.Rules.{ascii-on, ascii_append}
use Rattle.digits.proofs.of_utf8.Encoding.{utf8_encode}
use Rattle.reference.specs.Reference.{semicolon, ref_at, code_of, bytes_of, decoded}
use Rattle.std.specs.Prelude.{Option, Some, None}
use Rattle.reference.proofs.Letters.{named-ascii}
use Rattle.reference.proofs.Behind.{ref-cut}

-- a reference is ASCII, so that a character begins behind it
ref-on : (s : List ℕ) → utf8 s ≡ utf8 (drop (bytes_of (ref_at s)) s)
ref-on s = go (ref_at s) refl
  where
    go : (r : Option (ℕ × ℕ)) → ref_at s ≡ r → utf8 s ≡ utf8 (drop (bytes_of r) s)
    go (Some (c, w)) q =
        let k = ref-cut s c w q in
        let e = semicolon s in
        let z : get_or s e 0 < 0x80 = omega (arith, at_first 0x3B s k.fits) in
        ap utf8 (split_at s e 0 k.fits) ∙ ascii_append (take e s) (get_or s e 0 ∷ drop (suc e) s) (named-ascii (take e s) k.named)
        ∙ ascii-on (get_or s e 0) (drop (suc e) s) z ∙ ap (λ (n : ℕ). utf8 (drop n s)) (sym k.bytes)
    go None q = refl

ok-decoded : (s : List ℕ) (k n lo hi : ℕ) → 0x27 ≤ lo → ok (drop k s) n lo hi ≡ true → ok (decoded s k) n lo hi ≡ true
ok-decoded [] zero n lo hi h e = e
ok-decoded [] (suc k) n lo hi h e = e
ok-decoded (b ∷ s) (suc k) n lo hi h e = ok-decoded s k n lo hi h e
ok-decoded (b ∷ s) zero zero lo hi h e =
    go (eqb b 0x26) refl (ok-decoded s 0 (need b) (low b) (high b) (omega (arith, low-least b)) e) (ok-decoded s (bytes_of (ref_at s)) 0 0x80 0xBF (lit≤ tt))
  where
    go : (t : Bool) → eqb b 0x26 ≡ t → ok (decoded s 0) (need b) (low b) (high b) ≡ true
        → (ok (drop (bytes_of (ref_at s)) s) 0 0x80 0xBF ≡ true → ok (decoded s (bytes_of (ref_at s))) 0 0x80 0xBF ≡ true)
        → ok (cond t (encode (code_of (ref_at s)) ++ decoded s (bytes_of (ref_at s))) (b ∷ decoded s 0)) zero lo hi ≡ true
    go true q plain over =
        let i : b ≡ 0x26 = eqb-true b 0x26 q in
        let u : utf8 s ≡ true = sym (ascii-on b s (omega arith)) ∙ e in
        ok-zero (encode (code_of (ref_at s)) ++ decoded s (bytes_of (ref_at s))) lo hi ∙ utf8_encode (code_of (ref_at s)) (decoded s (bytes_of (ref_at s))) ∙ over (sym (ref-on s) ∙ u)
    go false q plain over = plain
ok-decoded (b ∷ s) zero (suc n) lo hi h e =
    let p = (and-eq-true_iff (within lo hi b) (ok s n 0x80 0xBF)).0 e in
    let q = leb-true lo b ((and-eq-true_iff (leb lo b) (leb b hi)).0 p.0).0 in
    rw (ne_eqb b 0x26 (omega arith), p.0) (ok-decoded s 0 n 0x80 0xBF (lit≤ tt) p.1)

-- also where a reference is bad
pub utf8-decoded : (s : List ℕ) → utf8 s ≡ true → utf8 (decoded s 0) ≡ true
utf8-decoded s e = ok-decoded s 0 0 0x80 0xBF (lit≤ tt) e
