-- Where an output holds its text alone, as it is written (rule W4): no tag stands inside a text that is gathered. Definitions only.
use Rattle.std.specs.Prelude.{ℕ, Bool, false, ◌||◌, List, [], ◌∷◌, ◌≡◌, eqb}
use Rattle.xml_grammar.specs.of_names.Tags.{tag_of, stack_trace, system-out, system-err}
use Rattle.xml_grammar.specs.of_table.Event.{Attribute, Start, Empty, End, Text, Event, Tag, Piece, Eof, Fault}

-- the tags whose text is gathered (rules R10 and S3)
abbrev pub is_output : ℕ → Bool
is_output t = eqb t stack_trace || (eqb t system-out || eqb t system-err)

abbrev pub opens_output : Event → Bool
opens_output (Tag Start name i xs) = is_output (tag_of name)
opens_output (Tag Empty name i xs) = false
opens_output (Tag End name i xs) = false
opens_output (Piece kind s) = false
opens_output Eof = false
opens_output Fault = false

pub data Calm : List Event → Type 0 where
  no-event : Calm []
  an-event : {e : Event} {es : List Event} → opens_output e ≡ false → Calm es → Calm (e ∷ es)
  an-output : {name s : List ℕ} {i j : ℕ} {xs ys : List Attribute} {es : List Event} → Calm es → Calm (Tag Start name i xs ∷ Piece Text s ∷ Tag End name j ys ∷ es)
