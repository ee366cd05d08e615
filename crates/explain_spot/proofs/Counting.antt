-- Lines and columns counted byte by byte. Assumes nothing.
use Prim.Native.Nat.{ℕ, ◌+◌, ◌≤◌, ◌<◌}
use mathlib.Core.Path.{◌≡◌, refl, sym, ap, ◌∙◌}
use mathlib.Core.List.{List}
use mathlib.Core.Bool.{Bool, true, false, cond}
use native.Mathlib.Omega.{arith}
use borrow.Author.Tests.{eq-eqb, ne_eqb}
use lib.Dec.{eqb}
use lib.ListN.{length, get_or, drop, drop_of_length-le}
use Rattle.area.proofs.Lists.{drop-next}
use Rattle.explain_spot.specs.Spots.{newlines, line_behind, begins, column_past, column_from, column_behind}

-- i bytes are passed
pub record Lines (s : List ℕ) (line i : ℕ) : Type 0 where
  pub most : line ≤ i + 1
  pub left : line + newlines (drop i s) ≡ line_behind s

pub record Columns (s : List ℕ) (column i : ℕ) : Type 0 where
  pub most : column ≤ i + 1
  pub left : column_from column (drop i s) ≡ column_behind s

pub lines_start : (s : List ℕ) → Lines s 1 0
unfolding line_behind
lines_start s = record { most = omega arith; left = refl }

pub columns-start : (s : List ℕ) → Columns s 1 0
unfolding column_behind
columns-start s = record { most = omega arith; left = refl }

module _ {s : List ℕ} {line i : ℕ} (g : Lines s line i) where
  module _ (h : i < length s) where
    one_more : (b : Bool) → eqb (get_or s i 0) 10 ≡ b → (line + cond b 1 0) + newlines (drop (i + 1) s) ≡ line_behind s
    one_more b e =
        let n : newlines (drop i s) ≡ cond b 1 0 + newlines (drop (i + 1) s) = ap newlines (drop-next s i h) ∙ ap (λ (t : Bool). cond t 1 0 + newlines (drop (i + 1) s)) e in
        let a : (line + cond b 1 0) + newlines (drop (i + 1) s) ≡ line + (cond b 1 0 + newlines (drop (i + 1) s)) = omega arith in
        a ∙ ap (λ (k : ℕ). line + k) (sym n) ∙ g.left

    pub lines-newline : get_or s i 0 ≡ 10 → Lines s (line + 1) (i + 1)
    lines-newline e = record { most = omega (arith, g.most); left = one_more true (eq-eqb (get_or s i 0) 10 e) }

    pub lines_other : (get_or s i 0 ≡ 10 → ⊥) → Lines s line (i + 1)
    lines_other e =
        let z : line + 0 ≡ line = omega arith in
        record { most = omega (arith, g.most); left = ap (λ (k : ℕ). k + newlines (drop (i + 1) s)) (sym z) ∙ one_more false (ne_eqb (get_or s i 0) 10 e) }

  pub lines-done : length s ≤ i → line ≡ line_behind s
  lines-done h =
      let z : line + 0 ≡ line = omega arith in
      sym z ∙ ap (λ (t : List ℕ). line + newlines t) (sym (drop_of_length-le s {i = i} h)) ∙ g.left

module _ {s : List ℕ} {column i : ℕ} (g : Columns s column i) where
  module _ (h : i < length s) where
    past : column_from (column_past column (get_or s i 0)) (drop (i + 1) s) ≡ column_behind s
    past = ap (column_from column) (sym (drop-next s i h)) ∙ g.left

    onward : (n : ℕ) → column_past column (get_or s i 0) ≡ n → n ≤ i + 2 → Columns s n (i + 1)
    onward n e m = record { most = omega (arith, m); left = ap (λ (k : ℕ). column_from k (drop (i + 1) s)) (sym e) ∙ past }

    pub columns-newline : get_or s i 0 ≡ 10 → Columns s 1 (i + 1)
    columns-newline e = onward 1 (rw (eq-eqb (get_or s i 0) 10 e) refl) (omega arith)

    module _ (e : get_or s i 0 ≡ 10 → ⊥) where
      pub columns-begun : begins (get_or s i 0) ≡ true → Columns s (column + 1) (i + 1)
      columns-begun t = onward (column + 1) (rw (ne_eqb (get_or s i 0) 10 e, t) refl) (omega (arith, g.most))

      pub columns-further : begins (get_or s i 0) ≡ false → Columns s column (i + 1)
      columns-further t = onward column (rw (ne_eqb (get_or s i 0) 10 e, t) refl) (omega (arith, g.most))

  pub columns-done : length s ≤ i → column ≡ column_behind s
  columns-done h = ap (column_from column) (sym (drop_of_length-le s {i = i} h)) ∙ g.left
