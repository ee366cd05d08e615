-- A report being built in two lent areas: the builder's marks, what a call answers and leaves. Definitions only.
use Rattle.std.specs.Prelude.{ℕ, ◌-◌, ◌*◌, ◌/◌, min, List, ◌++◌, Bool, true, false, cond, ◌&&◌, length, get_or, take, drop, leb, ltb, eqb, Result, Ok, Err}
use Rattle.text_lossy.specs.of_area.Area.{zeros}
use Rattle.text_lossy.specs.of_area.Limits.{most_records, most_bytes}
use Rattle.tree_counts.specs.of_refusal.Refusal.{nowhere, Outcome, accepted, refused, late, verdict_of, refusal_of}
use Rattle.tree_counts.specs.of_refusal.declared.Cause.{Cause}
use Rattle.build_draft.specs.declared.Builder.{Builder}
use Rattle.build_draft.specs.declared.Built.{Built}
use Rattle.build_draft.specs.declared.Element.{Element}
use Rattle.build_draft.specs.declared.Element.TheVariants.{Report, Suite, Case, Status, Last}

-- the builder and both areas
pub record Draft : Type 0 where
  pub builder : Builder
  pub words : List ℕ
  pub text : List ℕ

-- no record, no byte, nothing open (rule B11)
abbrev pub no_builder : Builder
no_builder = record { records = 0; bytes = 0; report = nowhere; suite = nowhere; case = nowhere; main = nowhere }

-- ---- parts of a call
infixl 20 ◌>>=◌
-- one part behind another: the first that refuses decides
unfoldable pub ◌>>=◌ : {A B : Type 0} → Outcome A → (A → Outcome B) → Outcome B
◌>>=◌ (accepted a) f = f a
◌>>=◌ (refused r) f = refused r

-- the same, for contracts
abbrev pub next : {A B : Type 0} → Outcome A → (A → Outcome B) → Outcome B
next o f = o >>= f

-- what follows where the test passes, and else the refusal, with an empty path and 4294967295 (rule B11)
unfoldable pub asks : {A : Type 0} → Bool → Cause → Outcome A → Outcome A
asks true why m = m
asks false why m = refused (late why)

-- what a part of the code came to, with the areas as it left them
unfoldable pub draft_of : Result Builder Cause → List ℕ → List ℕ → Outcome Draft
draft_of (Ok b) words text = accepted (record { builder = b; words = words; text = text })
draft_of (Err why) words text = refused (late why)

-- ---- the whole answer of a call, and what it leaves in areas of so many words and bytes: zeros at a refusal (rule B11)
abbrev pub builder_of : Outcome Draft → Builder
builder_of (accepted d) = d.builder
builder_of (refused r) = no_builder

-- rule B11
abbrev pub built_from : Outcome Draft → Built
built_from o = record { verdict = verdict_of o; builder = builder_of o; refusal = refusal_of o }

abbrev pub words_left_of : ℕ → Outcome Draft → List ℕ
words_left_of n (accepted d) = d.words
words_left_of n (refused r) = zeros n

abbrev pub text_left : ℕ → Outcome Draft → List ℕ
text_left n (accepted d) = d.text
text_left n (refused r) = zeros n

-- ---- rooms and marks
-- beyond the limits an area isn't used (rule M1)
abbrev pub room_for : List ℕ → ℕ
room_for words = min (length words / 32) most_records

abbrev pub bytes_for : List ℕ → ℕ
bytes_for text = min (length text) most_bytes

-- i is the number of a record that is used, and all that are used lie in the area: a builder may be made up
unfoldable pub is_record : Builder → List ℕ → ℕ → Bool
is_record b words i = ltb i b.records && leb b.records (room_for words)

abbrev pub kind_at : List ℕ → ℕ → ℕ
kind_at words i = get_or words (i * 32) 0

-- rule B4
unfoldable pub is_of : Builder → List ℕ → ℕ → ℕ → Bool
is_of b words i kind = is_record b words i && eqb (kind_at words i) kind

-- the words with the record of number i changed
abbrev pub on_record_of : ℕ → (List ℕ → List ℕ) → List ℕ → List ℕ
on_record_of i f words = take (i * 32) words ++ f (drop (i * 32) words)

abbrev pub last_of : Builder → ℕ
last_of b = b.records - 1

-- the last record while the report is open: after the end there is none (rule B12)
abbrev pub last_open : Builder → ℕ
last_open b = cond (eqb b.report nowhere) nowhere (last_of b)

-- rule B3
abbrev pub mark_of : Builder → Element → ℕ
mark_of b Report = b.report
mark_of b Suite = b.suite
mark_of b Case = b.case
mark_of b Status = b.main
mark_of b Last = last_open b

-- ---- a draft with one thing changed
abbrev pub with_words : Draft → List ℕ → Draft
with_words d words = record { builder = d.builder; words = words; text = d.text }

abbrev pub with_builder : Draft → Builder → Draft
with_builder d b = record { builder = b; words = d.words; text = d.text }
