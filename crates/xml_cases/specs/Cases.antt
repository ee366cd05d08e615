-- What is said of a document: its refusal, or its records. Definitions only.
use Rattle.std.specs.Prelude.{ℕ, ◌*◌, ◌≡◌, List, length, replicate}
use Rattle.xml_machine.specs.of_refusal.Refusal.{nowhere}
use Rattle.xml_machine.specs.Tokens.{Rec, flat, done-with, refused, tokens}

-- in areas of so many words; a refusal leaves zeros
abbrev pub RefusedIn : List ℕ → ℕ → ℕ → ℕ → ℕ → Type 0
RefusedIn s events attributes number byte =
    tokens s events attributes ≡ record { answer = refused number byte; events = replicate events 0; attributes = replicate attributes 0 }

-- where eight events and two attributes have room
abbrev pub Refused : List ℕ → ℕ → ℕ → Type 0
Refused s number byte = RefusedIn s 40 10 number byte

abbrev pub Full : List ℕ → ℕ → ℕ → Type 0
Full s events attributes = RefusedIn s events attributes 16 nowhere

-- in areas that just suffice
abbrev pub Read : List ℕ → List Rec → List Rec → Type 0
Read s events attributes =
    tokens s (length events * 5) (length attributes * 5) ≡ record { answer = done-with (length events) (length attributes); events = flat events; attributes = flat attributes }
