-- docs/TREE.md, "Records": the presence bit of each field that may be missing. Definitions only.
use Rattle.std.specs.Prelude.{ℕ}

abbrev pub name : ℕ
name = 0

abbrev pub message : ℕ
message = 0

abbrev pub key : ℕ
key = 0

abbrev pub out : ℕ
out = 1

abbrev pub value : ℕ
value = 1

abbrev pub uuid : ℕ
uuid = 1

abbrev pub err : ℕ
err = 2

abbrev pub timestamp : ℕ
timestamp = 3

abbrev pub time : ℕ
time = 4

abbrev pub classname : ℕ
classname = 5

abbrev pub type : ℕ
type = 5

abbrev pub assertions : ℕ
assertions = 6

abbrev pub description : ℕ
description = 6

abbrev pub stack_trace : ℕ
stack_trace = 7

abbrev pub disabled : ℕ
disabled = 8

-- a failure or error without runs whose kind is Flaky
abbrev pub flaky : ℕ
flaky = 9

abbrev pub hostname : ℕ
hostname = 10
