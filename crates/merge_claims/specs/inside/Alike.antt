-- Two records that a report can't tell apart. Definitions only.
use Rattle.std.specs.Prelude.{ℕ, ◌≡◌, true, List}
use Rattle.tree_merge.specs.of_tree_record.Bits as bit
use Rattle.tree_merge.specs.of_schema.Schema.{suite, case, skipped, run, property}
use Rattle.tree_merge.specs.of_schema.Texts.{fields_of}
use Rattle.tree_merge.specs.of_tree_report.Fields.{kind_of, has_bit, is_suite, is_case, is_suite_property, is_case_property, is_main, is_run, is_suite_extra, is_case_extra}

-- the same kind and flaky bit: all that the order of records reads
pub record Like (r s : List ℕ) : Type 0 where
  pub kind : kind_of r ≡ kind_of s
  pub flaky : has_bit bit.flaky r ≡ has_bit bit.flaky s

-- and the same fields, r with the texts t, s with the texts u
pub record Alike (t u r s : List ℕ) : Type 0 where
  pub like : Like r s
  pub suite : is_suite r ≡ true → fields_of suite t r ≡ fields_of suite u s
  pub case : is_case r ≡ true → fields_of case t r ≡ fields_of case u s
  pub main : is_main r ≡ true → fields_of skipped t r ≡ fields_of skipped u s
  pub run : is_run r ≡ true → fields_of run t r ≡ fields_of run u s
  pub suite_property : is_suite_property r ≡ true → fields_of property t r ≡ fields_of property u s
  pub case_property : is_case_property r ≡ true → fields_of property t r ≡ fields_of property u s
  pub suite_extra : is_suite_extra r ≡ true → fields_of property t r ≡ fields_of property u s
  pub case_extra : is_case_extra r ≡ true → fields_of property t r ≡ fields_of property u s
