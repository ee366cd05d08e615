-- What is put of an order, in the parts in which the code puts it. Definitions only.
use Rattle.std.specs.Prelude.{ℕ, List, [], ◌∷◌, ◌++◌}
use Rattle.write_answer.specs.of_names.Tags as tag
use Rattle.write_answer.specs.of_names.Keys as key
use Rattle.write_answer.specs.of_digits.Digits.{decimal}
use Rattle.write_answer.specs.of_table.Kinds as event
use Rattle.write_answer.specs.of_write_report.Written.{each, declaration, serialize_test_case}
use Rattle.write_answer.specs.of_write_table.Laid.{Item, entry, pair, items_of}
use Rattle.write_items.specs.inside.Values.{tag_name, key_name}
use Rattle.order_report.specs.declared.Order.{Order}
use Rattle.order_report.specs.declared.Kind.{Kind}
use Rattle.order_report.specs.Rehearsal.{case_name, case_of, cases_from, rehearsal_name}

-- ---- cases
-- a case's tag
abbrev pub opening_items : ℕ → ℕ → List Item
opening_items kind i = entry kind (tag_name tag.testcase) 1 ∷ pair (key_name key.name) (case_name i) ∷ []

abbrev pub closing_items : List Item
closing_items = entry event.end (tag_name tag.testcase) 0 ∷ []

-- with an Empty main
abbrev pub main_items : ℕ → ℕ → List Item
main_items code i = opening_items event.start i ++ ((entry event.empty (tag_name code) 0 ∷ []) ++ closing_items)

-- with a run
abbrev pub flaky_items : ℕ → List Item
flaky_items i =
    opening_items event.start i
    ++ ((entry event.start (tag_name tag.flaky_failure) 0 ∷ []) ++ ((entry event.end (tag_name tag.flaky_failure) 0 ∷ []) ++ closing_items))

unfoldable pub case_items : ℕ → Kind → List Item
case_items i k = items_of (serialize_test_case (case_of i k))

-- cases of these kinds, numbered from i on
unfoldable pub cases_items : ℕ → List Kind → List Item
cases_items i ks = items_of (each serialize_test_case (cases_from i ks))

-- ---- tags of report and suite
abbrev pub count_items : ℕ → ℕ → List Item
count_items code n = pair (key_name code) (decimal n) ∷ []

-- what both begin with
abbrev pub common_items : Order → List Item
common_items o = (pair (key_name key.name) rehearsal_name ∷ []) ++ (count_items key.tests o.cases ++ count_items key.skipped o.skipped)

-- failures before errors (rule W2)
abbrev pub report_items : Order → List Item
report_items o =
    (entry event.start (tag_name tag.testsuites) 5 ∷ [])
    ++ (common_items o ++ (count_items key.failures o.failures ++ count_items key.errors o.errors))

-- errors before failures (rule W2)
abbrev pub suite_tag_items : ℕ → Order → List Item
suite_tag_items kind o =
    (entry kind (tag_name tag.testsuite) 5 ∷ [])
    ++ (common_items o ++ (count_items key.errors o.errors ++ count_items key.failures o.failures))

abbrev pub head_items : Order → List Item
head_items o = items_of (declaration ∷ []) ++ report_items o
