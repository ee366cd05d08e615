-- The kinds of events by name (rule T3), as src/kind.rt has them. Definitions only.
use Rattle.std.specs.Prelude.{ℕ}

abbrev pub start : ℕ
start = 0

abbrev pub empty : ℕ
empty = 1

abbrev pub end : ℕ
end = 2

abbrev pub text : ℕ
text = 3

abbrev pub cdata : ℕ
cdata = 4

abbrev pub ref : ℕ
ref = 5

abbrev pub other : ℕ
other = 6

abbrev pub eof : ℕ
eof = 7

abbrev pub fault : ℕ
fault = 8

abbrev pub indent : ℕ
indent = 9
