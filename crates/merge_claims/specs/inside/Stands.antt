-- Texts that stand in a text area. Definitions only.
use Rattle.std.specs.Prelude.{ℕ, ◌≡◌, true, false, List, ◌++◌, eqb, length}
use Rattle.tree_merge.specs.of_utf8.Utf8.{utf8}
use Rattle.tree_merge.specs.of_text_filter.Filter.{unfiltered}
use Rattle.tree_merge.specs.of_tree_report.Fields.{kind_of, live}
use Rattle.tree_merge.specs.of_tree_report.Layout.{good_record}

-- such as a layout may have (rule M10)
abbrev pub Clean : List ℕ → Type 0
Clean s = (utf8 s ≡ true) × (unfiltered s ≡ true)

-- the text s stands in the texts from byte fill on
pub record Stands (texts : List ℕ) (fill : ℕ) (s : List ℕ) : Type 0 where
  pub before : List ℕ
  pub after : List ℕ
  pub whole : texts ≡ before ++ (s ++ after)
  pub start : length before ≡ fill
  pub clean : Clean after

-- a live record of a layout with these texts
pub record Held (texts r : List ℕ) : Type 0 where
  pub long : length r ≡ 32
  pub kind : eqb (kind_of r) 0 ≡ false
  pub alive : live r ≡ true
  pub good : good_record texts r ≡ true
