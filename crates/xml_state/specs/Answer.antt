-- The tokenizer's answer and the two areas that it leaves, as `tokens` has them. Definitions only.
use Rattle.std.specs.Prelude.{ℕ, List}
use Rattle.xml_stack.specs.of_xml_machine.Tokens.{Result, Answer, done-with, refused}
use Rattle.xml_state.specs.declared.Tokenized.{Tokenized}
use Rattle.xml_state.specs.declared.Tokenized.TheVariants.{Table, Refused}

-- the answer's numbers
abbrev pub told : Tokenized → Answer
told (Table n k) = done-with n k
told (Refused number byte) = refused number byte

abbrev pub result : Tokenized → List ℕ → List ℕ → Result
result r events attributes = record { answer = told r; events = events; attributes = attributes }
