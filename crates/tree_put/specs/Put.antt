-- Words put into a record, docs/TREE.md. Definitions only.
use Rattle.std.specs.Prelude.{ℕ, ◌+◌, ◌/◌, ◌%◌, ◌^◌, List, [], ◌∷◌, set}
use Rattle.timestamp.specs.of_area.Area.{zeros}
use Rattle.timestamp.specs.declared.Moment.{Moment}
use Rattle.uuids.specs.declared.Words.{Words}
use Rattle.tree_record.specs.Words as word
use Rattle.tree_record.specs.Bits as bit
use Rattle.tree_record.specs.Record.{marked}

-- a record of a kind with nothing in it
abbrev pub blank : ℕ → List ℕ
blank kind = kind ∷ zeros 31

-- two words from word o on
abbrev pub put_pair : ℕ → ℕ → ℕ → List ℕ → List ℕ
put_pair o a b r = set (set r o a) (o + 1) b

-- A text is its start and its length in the text area
abbrev pub put_text : ℕ → ℕ → ℕ → ℕ → List ℕ → List ℕ
put_text o k start n r = marked k (put_pair o start n r)

-- A count is its low word, then its high word
abbrev pub put_count_of : ℕ → ℕ → List ℕ → List ℕ
put_count_of o n r = put_pair o (n % 2 ^ 32) (n / 2 ^ 32) r

-- words from word o on
abbrev pub put_words : ℕ → List ℕ → List ℕ → List ℕ
put_words o [] r = r
put_words o (v ∷ vs) r = put_words (o + 1) vs (set r o v)

-- A UUID is four words, its first bytes first
abbrev pub uuid_words : Words → List ℕ
uuid_words w = w.a ∷ w.b ∷ w.c ∷ w.d ∷ []

abbrev pub put_uuid : Words → List ℕ → List ℕ
put_uuid w r = marked bit.uuid (put_words word.uuid (uuid_words w) r)

-- a timestamp: its eight words in the order of docs/TREE.md
abbrev pub moment_words : Moment → List ℕ
moment_words m = m.year ∷ m.month ∷ m.day ∷ m.hour ∷ m.minute ∷ m.second ∷ m.nanos ∷ m.offset ∷ []

abbrev pub put_moment : Moment → List ℕ → List ℕ
put_moment m r = marked bit.timestamp (put_words word.timestamp (moment_words m) r)

-- a time: seconds and nanoseconds
abbrev pub put_time : ℕ × ℕ → List ℕ → List ℕ
put_time t r = marked bit.time (put_pair word.time t.0 t.1 r)
