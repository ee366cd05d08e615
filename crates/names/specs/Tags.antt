-- The tag names of reports, and their codes. Definitions only.
use Rattle.std.specs.Prelude.{ℕ, List, [], ◌∷◌}
use Rattle.names.specs.Bytes.{bytes}
use Rattle.names.specs.Names.{code_in}

-- the tags of serialize.rs (rule R2); from failure to rerun_error stand the seven status names (rule S1)
unfoldable pub tags : List (List ℕ)
tags =
    bytes "testsuites"
    ∷ bytes "testsuite"
    ∷ bytes "testcase"
    ∷ bytes "properties"
    ∷ bytes "property"
    ∷ bytes "failure"
    ∷ bytes "error"
    ∷ bytes "skipped"
    ∷ bytes "flakyFailure"
    ∷ bytes "flakyError"
    ∷ bytes "rerunFailure"
    ∷ bytes "rerunError"
    ∷ bytes "stackTrace"
    ∷ bytes "system-out"
    ∷ bytes "system-err"
    ∷ []

-- the code of a tag name, 0 for one that reports don't have (rule R2)
abbrev pub tag_of : List ℕ → ℕ
tag_of s = code_in tags s

-- the codes, by name
abbrev pub testsuites : ℕ
testsuites = 1

abbrev pub testsuite : ℕ
testsuite = 2

abbrev pub testcase : ℕ
testcase = 3

abbrev pub properties : ℕ
properties = 4

abbrev pub property : ℕ
property = 5

abbrev pub failure : ℕ
failure = 6

abbrev pub error : ℕ
error = 7

abbrev pub skipped : ℕ
skipped = 8

abbrev pub flaky_failure : ℕ
flaky_failure = 9

abbrev pub flaky_error : ℕ
flaky_error = 10

abbrev pub rerun_failure : ℕ
rerun_failure = 11

abbrev pub rerun_error : ℕ
rerun_error = 12

abbrev pub stack_trace : ℕ
stack_trace = 13

abbrev pub system-out : ℕ
system-out = 14

abbrev pub system-err : ℕ
system-err = 15
