-- docs/TREE.md, "Records": the kinds; those from 1 to 3 and from 6 to 12 are the codes of their tag names. Definitions only.
use Rattle.std.specs.Prelude.{ℕ}

abbrev pub report : ℕ
report = 1

abbrev pub suite : ℕ
suite = 2

abbrev pub case : ℕ
case = 3

abbrev pub suite_property : ℕ
suite_property = 4

abbrev pub case_property : ℕ
case_property = 5

-- the mains
abbrev pub failure : ℕ
failure = 6

abbrev pub error : ℕ
error = 7

abbrev pub skipped : ℕ
skipped = 8

-- the runs
abbrev pub flaky_failure : ℕ
flaky_failure = 9

abbrev pub flaky_error : ℕ
flaky_error = 10

abbrev pub rerun_failure : ℕ
rerun_failure = 11

abbrev pub rerun_error : ℕ
rerun_error = 12

abbrev pub suite_extra : ℕ
suite_extra = 13

abbrev pub case_extra : ℕ
case_extra = 14

-- what a dead record's kind has more
abbrev pub dead : ℕ
dead = 16
