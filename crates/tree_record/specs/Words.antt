-- docs/TREE.md, "Records": the first word of each field. A text has two words, a count two, a time two. Definitions only.
use Rattle.std.specs.Prelude.{ℕ}

-- word 0: the kind
abbrev pub kind : ℕ
kind = 0

-- word 1: the presence bits
abbrev pub bits : ℕ
bits = 1

-- a report's, suite's, case's or property's name; a status element's message; an extra's key
abbrev pub name : ℕ
name = 2

abbrev pub message : ℕ
message = 2

abbrev pub key : ℕ
key = 2

-- system-out of a suite, case or run; the value of a property or extra; a report's UUID, in two halves
abbrev pub out : ℕ
out = 4

abbrev pub value : ℕ
value = 4

abbrev pub uuid : ℕ
uuid = 4

abbrev pub uuid_back : ℕ
uuid_back = 6

-- system-err of a suite, case or run
abbrev pub err : ℕ
err = 6

-- a timestamp, by its words
abbrev pub timestamp : ℕ
timestamp = 8

abbrev pub year : ℕ
year = 8

abbrev pub month : ℕ
month = 9

abbrev pub day : ℕ
day = 10

abbrev pub hour : ℕ
hour = 11

abbrev pub minute : ℕ
minute = 12

abbrev pub second : ℕ
second = 13

abbrev pub nanos : ℕ
nanos = 14

abbrev pub offset : ℕ
offset = 15

-- a time, by its words
abbrev pub time : ℕ
time = 16

abbrev pub seconds : ℕ
seconds = 16

abbrev pub time_nanos : ℕ
time_nanos = 17

-- the counts of a report or suite
abbrev pub tests : ℕ
tests = 18

abbrev pub failures : ℕ
failures = 20

abbrev pub errors : ℕ
errors = 22

abbrev pub skipped : ℕ
skipped = 24

abbrev pub disabled : ℕ
disabled = 26

-- of a suite
abbrev pub hostname : ℕ
hostname = 28

-- of a case
abbrev pub classname : ℕ
classname = 18

abbrev pub assertions : ℕ
assertions = 20

-- of a status element
abbrev pub type : ℕ
type = 18

abbrev pub description : ℕ
description = 20

-- of a run
abbrev pub stack_trace : ℕ
stack_trace = 22
