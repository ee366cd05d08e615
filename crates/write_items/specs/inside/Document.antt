-- What is written of a report, from its record and those behind it. Definitions only.
use Rattle.std.specs.Prelude.{ℕ, List, [], ◌∷◌, ◌++◌, cond, length}
use Rattle.write_report.specs.of_names.Tags as tag
use Rattle.write_report.specs.of_table.Kinds as event
use Rattle.write_report.specs.of_schema.Schema as table
use Rattle.write_report.specs.of_tree_report.Fields.{live}
use Rattle.write_report.specs.Written.{declaration}
use Rattle.write_table.specs.Laid.{Item, entry, pairs_of_it, items_of}
use Rattle.write_items.specs.inside.Values.{tag_name, codes_of}
use Rattle.write_items.specs.inside.Slots.{slots}
use Rattle.write_items.specs.inside.Suite.{suites_items}

abbrev pub report_codes : List ℕ
report_codes = codes_of table.report

-- the report's End, Eof and Indent
abbrev pub tail_items : List Item
tail_items = entry event.end (tag_name tag.testsuites) 0 ∷ entry event.eof [] 0 ∷ entry event.indent [] 0 ∷ []

module _ (text : List ℕ) where
  -- the declaration and the report's tag
  unfoldable pub head_items : List ℕ → List Item
  head_items r =
      items_of (declaration ∷ [])
      ++ (entry event.start (tag_name tag.testsuites) (length (slots text r report_codes)) ∷ pairs_of_it (slots text r report_codes))

  unfoldable pub document_items : List ℕ → List (List ℕ) → List Item
  document_items r rs = head_items r ++ (suites_items text rs ++ tail_items)

  -- the report is the first live record
  unfoldable pub document_in : List (List ℕ) → List Item
  document_in [] = []
  document_in (r ∷ rs) = cond (live r) (document_items r rs) (document_in rs)
