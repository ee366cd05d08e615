-- The part that a list of bytes begins with. Assumes nothing.
use Prim.Native.Nat.{ℕ, zero, suc, ◌+◌, ◌-◌, ◌*◌, ◌≤◌, ◌<◌}
use mathlib.Core.Bool.{Bool, true, false, cond, ◌&&◌}
use mathlib.Core.List.{List, [], ◌∷◌}
use mathlib.Core.Path.{◌≡◌, refl, sym, ap, ◌∙◌}
use native.Mathlib.Numerals.{add-one}
use native.Mathlib.Omega.{arith}
use borrow.Author.Tests.{eqb-true}
use lib.Dec.{eqb, eqb-suc-suc, eqb-zero-suc, lit≤}
use lib.ListN.{length, get_or, take, drop, drop_of_length-le}
use lib.Seq.{length-take-le}
use Rattle.utf8.proofs.of_area.Lists.{drop-next, one_less}
use Rattle.utf8.proofs.of_area.Parts.{rest_part}
use Rattle.utf8.specs.Grammar.{Char, three-ee}
use Rattle.utf8.specs.Utf8.{need, low, high, within, runs}
use Rattle.utf8.proofs.Rules.{run-char}
use Rattle.utf8.proofs.Runs.{need-most}
use Rattle.utf8_lossy.specs.Lossy.{along, part_width, is_whole, replacement, part_text, Parted}
use Rattle.utf8_lossy.specs.declared.Part.{Part}

-- at a place of the list, i bytes behind its front
module _ (s : List ℕ) (i k lo hi : ℕ) where
  pub along-end : length s ≤ i → i + along (drop i s) k lo hi ≡ i
  along-end h = let z = ap (λ (l : List ℕ). along l k lo hi) (drop_of_length-le s h) ∙ go k in omega (arith, z)
    where
      go : (n : ℕ) → along [] n lo hi ≡ 0
      go zero = refl
      go (suc n) = refl

  module _ (h : i < length s) (m : 0 < k) where
    next : (t : Bool) → within lo hi (get_or s i 0) ≡ t → along (drop i s) k lo hi ≡ cond t (suc (along (drop (i + 1) s) (k - 1) 0x80 0xBF)) 0
    next t e =
        ap (λ (l : List ℕ). along l k lo hi) (drop-next s i h) ∙ ap (λ (n : ℕ). along (get_or s i 0 ∷ drop (i + 1) s) n lo hi) (one_less k m)
        ∙ ap (λ (u : Bool). cond u (suc (along (drop (i + 1) s) (k - 1) 0x80 0xBF)) 0) e

    pub along-more : within lo hi (get_or s i 0) ≡ true → i + along (drop i s) k lo hi ≡ i + 1 + along (drop (i + 1) s) (k - 1) 0x80 0xBF
    along-more e = omega (arith, next true e)

    pub along-stop : within lo hi (get_or s i 0) ≡ false → i + along (drop i s) k lo hi ≡ i
    along-stop e = omega (arith, next false e)

  pub along-done : k ≤ 0 → i + along (drop i s) k lo hi ≡ i
  along-done h = let z : k ≡ 0 = omega arith in rw z (omega arith)

pub along-length : (s : List ℕ) (n lo hi : ℕ) → along s n lo hi ≤ length s
along-length s zero lo hi = omega arith
along-length [] (suc n) lo hi = omega arith
along-length (b ∷ s) (suc n) lo hi = go (within lo hi b) (along-length s n 0x80 0xBF)
  where
    go : (t : Bool) → along s n 0x80 0xBF ≤ length s → cond t (suc (along s n 0x80 0xBF)) 0 ≤ suc (length s)
    go true h = omega arith
    go false h = omega arith

along-most : (s : List ℕ) (n lo hi : ℕ) → along s n lo hi ≤ n
along-most s zero lo hi = omega arith
along-most [] (suc n) lo hi = omega arith
along-most (b ∷ s) (suc n) lo hi = go (within lo hi b) (along-most s n 0x80 0xBF)
  where
    go : (t : Bool) → along s n 0x80 0xBF ≤ n → cond t (suc (along s n 0x80 0xBF)) 0 ≤ suc n
    go true h = omega arith
    go false h = omega arith

-- all n bytes are there exactly if s begins with them
pub along-whole : (s : List ℕ) (n lo hi : ℕ) → eqb (along s n lo hi) n ≡ runs s n lo hi
along-whole s zero lo hi = refl
along-whole [] (suc n) lo hi = eqb-zero-suc n
along-whole (b ∷ s) (suc n) lo hi = go (within lo hi b) (along-whole s n 0x80 0xBF)
  where
    go : (t : Bool) → eqb (along s n 0x80 0xBF) n ≡ runs s n 0x80 0xBF → eqb (cond t (suc (along s n 0x80 0xBF)) 0) (suc n) ≡ (t && runs s n 0x80 0xBF)
    go true e = eqb-suc-suc (along s n 0x80 0xBF) n ∙ e
    go false e = eqb-zero-suc n

pub runs-along : (s : List ℕ) (n lo hi : ℕ) → runs s n lo hi ≡ true → along s n lo hi ≡ n
runs-along s n lo hi e = eqb-true (along s n lo hi) n (along-whole s n lo hi ∙ e)

-- the bounds of a part
pub part-some : (s : List ℕ) → 0 < length s → 0 < part_width s
part-some [] h = absurd (omega arith)
part-some (b ∷ s) h = omega arith

pub part_length : (s : List ℕ) → part_width s ≤ length s
part_length [] = omega arith
part_length (b ∷ s) = let h = along-length s (need b) (low b) (high b) in omega arith

-- what stands for a part
module _ (b : ℕ) (s : List ℕ) where
  pub text-whole : runs s (need b) (low b) (high b) ≡ true → part_text (b ∷ s) ≡ b ∷ take (need b) s
  text-whole e = rw (e, runs-along s (need b) (low b) (high b) e) refl

  text-bad : runs s (need b) (low b) (high b) ≡ false → part_text (b ∷ s) ≡ replacement
  text-bad e = rw e refl

  -- it is a character of the grammar
  pub text-char : Char (part_text (b ∷ s))
  text-char = go (runs s (need b) (low b) (high b)) refl
    where
      go : (t : Bool) → runs s (need b) (low b) (high b) ≡ t → Char (part_text (b ∷ s))
      go true e = rw (text-whole e) (run-char b s e)
      go false e = rw (text-bad e) (three-ee {a = 0xEF} {b = 0xBF} {c = 0xBD} (lit≤ tt, lit≤ tt) (lit≤ tt, lit≤ tt) (lit≤ tt, lit≤ tt))

  pub text-most : length (part_text (b ∷ s)) ≤ 3 * part_width (b ∷ s)
  text-most = go (runs s (need b) (low b) (high b)) refl
    where
      go : (t : Bool) → runs s (need b) (low b) (high b) ≡ t → length (part_text (b ∷ s)) ≤ 3 * part_width (b ∷ s)
      go true e = rw e (let h = length-take-le (part_width (b ∷ s)) (b ∷ s) (part_length (b ∷ s)) in omega arith)
      go false e = rw e (omega arith)

-- the part, from what the code has found
pub part_none : (s : List ℕ) → length s ≡ 0 → (p : Part) → p.width ≡ 0 → p.whole ≡ true → Parted s p
part_none [] h p w e = record { takes = w; kept = e }
part_none (b ∷ s) h p w e = absurd (omega arith)

module _ (s : List ℕ) (n lo hi k : ℕ) (h : 0 < length s) (en : n ≡ need (get_or s 0 0)) (el : lo ≡ low (get_or s 0 0))
    (eh : hi ≡ high (get_or s 0 0)) (ek : k ≡ along (take (length s - 1) (drop 1 s)) n lo hi) where
  found : k ≡ along (drop 1 s) n lo hi
  found = ek ∙ ap (λ (l : List ℕ). along l n lo hi) (rest_part s 1)

  pub part_room : k ≤ 3
  part_room = omega (arith, found, en, along-most (drop 1 s) n lo hi, need-most (get_or s 0 0))

  pub part-found : (p : Part) → p.width ≡ k + 1 → p.whole ≡ eqb k n → Parted s p
  part-found p w e = record {
    takes = w ∙ add-one k ∙ ap suc (found ∙ rw (en, el, eh) refl) ∙ sym (ap part_width (drop-next s 0 h));
    kept = e ∙ ap (λ (m : ℕ). eqb m n) found ∙ along-whole (drop 1 s) n lo hi ∙ rw (en, el, eh) refl ∙ sym (ap is_whole (drop-next s 0 h));
  }

-- what stands for it
module _ (s : List ℕ) (p : Part) (e : Parted s p) where
  -- the part lies in the list
  pub parted-fits : p.width ≤ length s
  parted-fits = rw e.takes (part_length s)

  -- a whole part stands for its own bytes
  pub parted-whole : p.whole ≡ true → take p.width s ≡ part_text s
  parted-whole q = ap (λ (n : ℕ). take n s) e.takes ∙ sym (ap (λ (t : Bool). cond t (take (part_width s) s) replacement) (sym e.kept ∙ q))

  -- a part that isn't whole stands for the replacement character
  pub parted-bad : p.whole ≡ false → replacement ≡ part_text s
  parted-bad q = sym (ap (λ (t : Bool). cond t (take (part_width s) s) replacement) (sym e.kept ∙ q))
