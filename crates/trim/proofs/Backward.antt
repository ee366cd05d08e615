-- White space is taken off from the back, where ASCII stands there. Assumes nothing.
use Prim.Native.Nat.{ℕ, zero, suc, ◌-◌, ◌≤◌, ◌<◌}
use mathlib.Core.Bool.{Bool, true, false, cond, ◌&&◌}
use mathlib.Core.List.{List, [], ◌∷◌, ◌++◌}
use mathlib.Core.Path.{◌≡◌, refl, sym, ap, ◌∙◌}
use native.Mathlib.Omega.{arith}
use borrow.Author.Tests.{lt-leb}
use lib.Dec.{leb, lit≤}
use lib.ListN.{length, take, get_or}
use lib.Seq.{take_all, take-append-le, take-suc}
use Rattle.utf8_chars.specs.of_utf8.Characters.{following, split, chars, joined}
use Rattle.utf8_chars.specs.of_utf8.Utf8.{need, low, high, within, runs}
use Rattle.utf8_chars.proofs.of_utf8.Runs.{need-ascii, low-least}
use Rattle.utf8_chars.proofs.of_utf8.Rules.{ascii-on}
use Rattle.utf8_chars.proofs.of_utf8.Splitting.{step-length, joined-chars}
use Rattle.trim.specs.Trim.{white, blank, empty, no_end_of}
use Rattle.trim.proofs.Ends.{end-black}

-- an ASCII byte behind a text belongs to none of its characters
module _ (b : ℕ) (h : b < 0x80) where
  runs-behind : (s : List ℕ) (n lo hi : ℕ) → 0x80 ≤ lo → runs (s ++ (b ∷ [])) n lo hi ≡ runs s n lo hi
  runs-behind s zero lo hi l = refl
  runs-behind [] (suc n) lo hi l = ap (λ (t : Bool). (t && leb b hi) && runs [] n 0x80 0xBF) (lt-leb lo b (omega arith))
  runs-behind (x ∷ s) (suc n) lo hi l = ap (λ (t : Bool). within lo hi x && t) (runs-behind s n 0x80 0xBF (lit≤ tt))

  following-behind : (x : ℕ) (s : List ℕ) → following x (s ++ (b ∷ [])) ≡ following x s
  following-behind x s = ap (λ (t : Bool). cond t (need x) 0) (runs-behind s (need x) (low x) (high x) (low-least x))

  split-behind : (s : List ℕ) (k : ℕ) → k ≤ length s → split (s ++ (b ∷ [])) k ≡ split s k ++ ((b ∷ []) ∷ [])
  split-behind [] zero l = rw (need-ascii b h) refl
  split-behind [] (suc k) l = absurd (omega arith)
  split-behind (x ∷ s) zero l =
      let m : following x s ≤ length s = (let z = step-length (x ∷ s) in omega arith) in
      ap (λ (n : ℕ). (x ∷ take n (s ++ (b ∷ []))) ∷ split (s ++ (b ∷ [])) n) (following-behind x s)
      ∙ ap (λ (l : List ℕ). (x ∷ l) ∷ split (s ++ (b ∷ [])) (following x s)) (take-append-le (following x s) s (b ∷ []) m)
      ∙ ap (λ (l : List (List ℕ)). (x ∷ take (following x s) s) ∷ l) (split-behind s (following x s) m)
  split-behind (x ∷ s) (suc k) l = split-behind s k (omega arith)

  chars-behind : (s : List ℕ) → chars (s ++ (b ∷ [])) ≡ chars s ++ ((b ∷ []) ∷ [])
  chars-behind s = split-behind s 0 (omega arith)

  blank-ascii : blank (b ∷ []) ≡ white b
  blank-ascii = ap (λ (t : Bool). t && white b) (ascii-on b [] h)

-- a white character at the end is taken off
end-white : (c : List ℕ) → blank c ≡ true → (cs : List (List ℕ)) → no_end_of (cs ++ (c ∷ [])) ≡ no_end_of cs
end-white c e [] = rw e
end-white c e (x ∷ cs) = ap (λ (l : List (List ℕ)). cond (blank x && empty l) [] (x ∷ l)) (end-white c e cs)

-- before the first byte from the back
pub back_start : (s : List ℕ) → joined (no_end_of (chars s)) ≡ joined (no_end_of (chars (take (length s) s)))
back_start s = sym (ap (λ (l : List ℕ). joined (no_end_of (chars l))) (take_all (length s) s (omega arith)))

-- the last of the first n bytes, if it is ASCII
module _ (s : List ℕ) (n : ℕ) (some : 0 < n) (fits : n ≤ length s) (h : get_or s (n - 1) 0 < 0x80) where
  last : take n s ≡ take (n - 1) s ++ (get_or s (n - 1) 0 ∷ [])
  last = let z : n ≡ suc (n - 1) = omega arith in ap (λ (k : ℕ). take k s) z ∙ take-suc s (n - 1) 0 (omega arith)

  last-char : chars (take n s) ≡ chars (take (n - 1) s) ++ ((get_or s (n - 1) 0 ∷ []) ∷ [])
  last-char = ap chars last ∙ chars-behind (get_or s (n - 1) 0) h (take (n - 1) s)

  pub back-white : (t : Bool) → t ≡ white (get_or s (n - 1) 0) → t ≡ true → joined (no_end_of (chars (take n s))) ≡ joined (no_end_of (chars (take (n - 1) s)))
  back-white t q e =
      ap (λ (cs : List (List ℕ)). joined (no_end_of cs)) last-char
      ∙ ap joined (end-white (get_or s (n - 1) 0 ∷ []) (blank-ascii (get_or s (n - 1) 0) h ∙ sym q ∙ e) (chars (take (n - 1) s)))

  pub back-black : (t : Bool) → t ≡ white (get_or s (n - 1) 0) → t ≡ false → joined (no_end_of (chars (take n s))) ≡ take n s
  back-black t q e =
      ap (λ (cs : List (List ℕ)). joined (no_end_of cs)) last-char
      ∙ ap joined (end-black (get_or s (n - 1) 0 ∷ []) (blank-ascii (get_or s (n - 1) 0) h ∙ sym q ∙ e) (chars (take (n - 1) s)) ∙ sym last-char)
      ∙ joined-chars (take n s)

-- nothing but white
pub back_done : (s : List ℕ) (n : ℕ) → n ≤ 0 → joined (no_end_of (chars s)) ≡ joined (no_end_of (chars (take n s))) → joined (no_end_of (chars s)) ≡ take n s
back_done s n h e =
    let z : n ≡ 0 = omega arith in
    e ∙ ap (λ (k : ℕ). joined (no_end_of (chars (take k s)))) z ∙ sym (ap (λ (k : ℕ). take k s) z)
