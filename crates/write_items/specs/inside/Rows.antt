-- What is written of the records of some kinds. Definitions only.
use Rattle.std.specs.Prelude.{ℕ, List, [], ◌∷◌, Bool, cond, ◌||◌, eqb}
use Rattle.write_report.specs.of_tree_record.Kinds as kind
use Rattle.write_report.specs.of_tree_report.Fields.{kind_of}
use Rattle.write_report.specs.of_tree_report.ReportOf.{pair_of, run_of}
use Rattle.write_report.specs.Written.{each, extra_attribute, serialize_property, serialize_rerun}
use Rattle.write_table.specs.Laid.{Item, pairs_of_it, items_of}
use Rattle.write_items.specs.inside.Walk.{own_of, between}
use Rattle.write_items.specs.inside.Status.{family}

module _ (text : List ℕ) (flaky : Bool) where
  -- a property, an extra, or a run
  unfoldable pub row_items : List ℕ → List Item
  row_items r =
      cond (eqb (kind_of r) kind.suite_property || eqb (kind_of r) kind.case_property) (items_of (serialize_property (pair_of text r)))
      (cond (eqb (kind_of r) kind.suite_extra || eqb (kind_of r) kind.case_extra) (pairs_of_it (extra_attribute (pair_of text r) ∷ []))
      (items_of (serialize_rerun (family flaky) (run_of text r))))

  -- of the records of a level, those of these kinds
  unfoldable pub rows_items : ℕ → ℕ → ℕ → List (List ℕ) → List Item
  rows_items level low high rs = each row_items (between low high (own_of level rs))
