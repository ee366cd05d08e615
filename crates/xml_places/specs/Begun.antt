-- What is due in the first bytes of a document, against the records of the whole. Definitions only.
use Rattle.std.specs.Prelude.{ℕ, ◌+◌, ◌≡◌, List, [], ◌∷◌, ◌++◌}
use Rattle.xml_tokens.specs.of_xml_machine.Tokens.{Rec, rec, Due, nothing, event, attribute}
use Rattle.xml_tokens.specs.Due.{events_due, attributes_due}

-- a run of text that is broken off is the beginning of one Text, or all of it
abbrev pub GoesOn : Due → List Rec → Type 0
GoesOn nothing rs = Unit {0}
GoesOn (event (rec k at n first count)) rs = (more : ℕ) × (rest : List Rec) × (rs ≡ rec k at (n + more) first count ∷ rest)
GoesOn (attribute r) rs = ⊥

-- events and attributes begin with those that are due; but for the last that is due, a run of text that is broken off, which goes on in the
-- event that follows (rule N9)
abbrev pub Begun : List Due → List Rec → List Rec → Type 0
Begun ds events attributes = (ended : List Due) × (run : Due) × (ds ≡ ended ++ (run ∷ []))
    × ((rest : List Rec) × (events ≡ events_due ended ++ rest) × GoesOn run rest) × ((rest : List Rec) × (attributes ≡ attributes_due ended ++ rest))
