-- The texts that a layout's records name. Assumes nothing.
use Prim.Native.Nat.{ℕ, ◌+◌, ◌-◌, ◌≤◌}
use mathlib.Core.Bool.{Bool, true, ◌&&◌}
use mathlib.Core.List.{List, ◌++◌}
use mathlib.Core.Path.{◌≡◌, sym, ap, ◌∙◌}
use native.Mathlib.Omega.{arith}
use borrow.Author.Tests.{leb-true}
use lib.Dec.{leb}
use lib.ListN.{length, get_or, take, drop, take-append-drop, length-drop}
use lib.Seq.{take-append-le, drop-append-le}
use Rattle.tree_layout.specs.of_utf8.Characters.{boundary}
use Rattle.tree_layout.specs.of_utf8.Utf8.{utf8}
use Rattle.tree_layout.proofs.of_utf8.Boundaries.{utf8-part}
use Rattle.tree_layout.specs.of_text_filter.Filter.{unfiltered}
use Rattle.tree_layout.proofs.of_text_filter.Filtering.{unfiltered-append}
use Rattle.tree_layout.specs.of_tree_report.inside.Cells.{written, fits_cell}
use Rattle.tree_layout.specs.of_tree_report.Fields.{text_at}
use Rattle.tree_layout.specs.of_tree_report.Layout.{filled, all_zero, good_text}
use Rattle.tree_layout.specs.of_tree_report.inside.Parts.{good_text_at}
use Rattle.tree_layout.proofs.of_tree_report.EncodeLists.{both, and_left, and_right}
use Rattle.tree_layout.proofs.Filling.{filled-front}

-- ---- a part of a text holds nothing that the text doesn't
module _ (n : ℕ) (s : List ℕ) (e : unfiltered s ≡ true) where
  halves : (unfiltered (take n s) && unfiltered (drop n s)) ≡ true
  halves = sym (unfiltered-append (take n s) (drop n s)) ∙ ap unfiltered (take-append-drop n s) ∙ e

  front-clean : unfiltered (take n s) ≡ true
  front-clean = and_left (unfiltered (take n s)) (unfiltered (drop n s)) halves

  back-clean : unfiltered (drop n s) ≡ true
  back-clean = and_right (unfiltered (take n s)) (unfiltered (drop n s)) halves

-- ---- the texts, and the zeros behind them
module _ (text : List ℕ) where
  abbrev texts : List ℕ
  texts = filled text

  abbrev behind : List ℕ
  behind = drop (length texts) text

  area : texts ++ behind ≡ text
  area = ap (λ (l : List ℕ). l ++ behind) (sym (filled-front text)) ∙ take-append-drop (length texts) text

  part-of-texts : (a n : ℕ) → a + n ≤ length texts → take n (drop a text) ≡ take n (drop a texts)
  part-of-texts a n h =
      let l : length (drop a texts) ≡ length texts - a = length-drop a texts in
      ap (λ (t : List ℕ). take n (drop a t)) (sym area)
      ∙ ap (take n) (drop-append-le a texts behind (omega arith))
      ∙ take-append-le n (drop a texts) behind (omega arith)

  module _ (good : good_text text ≡ true) where
    texts-utf8 : utf8 texts ≡ true
    unfolding good_text
    texts-utf8 = and_left (utf8 texts) (unfiltered texts && all_zero behind) good

    texts-clean : unfiltered texts ≡ true
    unfolding good_text
    texts-clean = and_left (unfiltered texts) (all_zero behind) (and_right (utf8 texts) (unfiltered texts && all_zero behind) good)

    between : (a n : ℕ) → a + n ≤ length texts → boundary texts a ≡ true → boundary texts (a + n) ≡ true → utf8 (take n (drop a texts)) ≡ true
    between a n h p q =
        let z : a + n - a ≡ n = omega arith in
        ap (λ (k : ℕ). utf8 (take k (drop a texts))) (sym z) ∙ utf8-part texts a (a + n) texts-utf8 p q (omega arith)

    pub text-fits : (r : List ℕ) (o : ℕ) → good_text_at texts r o ≡ true → fits_cell (written (text_at text r o)) ≡ true
    unfolding good_text_at
    text-fits r o e =
        let a : ℕ = get_or r o 0 in
        let n : ℕ = get_or r (o + 1) 0 in
        let ends : Bool = boundary texts a && boundary texts (a + n) in
        let h : a + n ≤ length texts = leb-true (a + n) (length texts) (and_left (leb (a + n) (length texts)) ends e) in
        let b = and_right (leb (a + n) (length texts)) ends e in
        let u = between a n h (and_left (boundary texts a) (boundary texts (a + n)) b) (and_right (boundary texts a) (boundary texts (a + n)) b) in
        let c = front-clean n (drop a texts) (back-clean a texts texts-clean) in
        ap (λ (t : List ℕ). utf8 t && unfiltered t) (part-of-texts a n h) ∙ both u c
