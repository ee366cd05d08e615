-- A table whose Empty children are spelled as Start and End, and answers that differ in event numbers alone. Definitions only.
use Rattle.std.specs.Prelude.{ℕ, ◌≡◌, Bool, true, cond, not, List, [], ◌∷◌, eqb}
use Rattle.read_report.specs.of_names.Tags.{tag_of, testsuites, properties}
use Rattle.read_report.specs.of_refusal.Refusal.{nowhere, Refused, Outcome, accepted, refused}
use Rattle.read_report.specs.of_refusal.declared.PathElement.{PathElement}
use Rattle.read_report.specs.of_table.Event.{Start, Empty, End, Event, Tag, Piece, Eof, Fault}
use Rattle.read_report.specs.of_read_element.Outcome.{Rooms, element}
use Rattle.read_report.specs.of_read_state.Control.{top, suite, case, status, Mode, at, gathering, listing, skipping, finished, Control, turn}
use Rattle.read_report.specs.of_read_rules.Rules.{tag_of_output, plan_at, plan_eof, plan_fault}
use Rattle.read_report.specs.Deserialize.{begin, deserialize_in, deserialize}

-- ---- the spelling
-- the control behind an event: it sees kinds and names only
abbrev pub control_after : Event → Control → Control
control_after (Tag kind name j xs) k = turn (plan_at k.mode k.seen kind name) k
control_after (Piece kind bytes) k = k
control_after Eof k = turn (plan_eof k.mode k.seen k.closed) k
control_after Fault k = turn (plan_fault k.mode) k

-- whether an Empty of this name is read as its Start and End: everywhere below report level, but for one of the same name in a
-- gathered text (rule R14) and in a list (rule R15), and at report level, but for `testsuites` (rule R4)
abbrev pub is_spelled : Mode → List ℕ → Bool
is_spelled (at top) name = not (eqb (tag_of name) testsuites)
is_spelled (at suite) name = true
is_spelled (at case) name = true
is_spelled (at status) name = true
is_spelled (gathering l o) name = not (eqb (tag_of name) (tag_of_output o))
is_spelled (listing l) name = not (eqb (tag_of name) properties)
is_spelled (skipping m skipped depth) name = true
is_spelled finished name = true

-- each such Empty as its Start, with the same attributes, and its End
unfoldable pub spelled_from : Control → List Event → List Event
spelled_from k [] = []
spelled_from k (Tag Start name j xs ∷ es) = Tag Start name j xs ∷ spelled_from (control_after (Tag Start name j xs) k) es
spelled_from k (Tag Empty name j xs ∷ es) =
    cond (is_spelled k.mode name)
    (Tag Start name j xs ∷ Tag End name 0 [] ∷ spelled_from (control_after (Tag Empty name j xs) k) es)
    (Tag Empty name j xs ∷ spelled_from (control_after (Tag Empty name j xs) k) es)
spelled_from k (Tag End name j xs ∷ es) = Tag End name j xs ∷ spelled_from (control_after (Tag End name j xs) k) es
spelled_from k (Piece kind bytes ∷ es) = Piece kind bytes ∷ spelled_from k es
spelled_from k (Eof ∷ es) = Eof ∷ spelled_from (control_after Eof k) es
spelled_from k (Fault ∷ es) = Fault ∷ spelled_from (control_after Fault k) es

-- a table's events
abbrev pub spelled : List Event → List Event
spelled es = spelled_from begin.control es

-- ---- answers but for event numbers
abbrev pub unnumbered : List PathElement → List PathElement
unnumbered [] = []
unnumbered (e ∷ es) = element e.kind e.index nowhere ∷ unnumbered es

pub record SameRefusal (r q : Refused) : Type 0 where
  pub cause : r.cause ≡ q.cause
  pub path : unnumbered r.path ≡ unnumbered q.path
  pub attribute : r.attribute ≡ q.attribute

abbrev pub SameAnswer : {A : Type 0} → Outcome A → Outcome A → Type 0
SameAnswer (accepted a) (accepted b) = a ≡ b
SameAnswer (accepted a) (refused q) = ⊥
SameAnswer (refused r) (accepted b) = ⊥
SameAnswer (refused r) (refused q) = SameRefusal r q

-- ---- the law: XML 1.0, section 3.1
-- two tables differ in spelling alone if their events, spelled out, are the same
pub record Spelling : Type 0 where
  -- a table's events, spelled out, are read alike,
  pub spelled_out : (es : List Event) → SameAnswer (deserialize es) (deserialize (spelled es))
  -- and what is spelled out already stays.
  pub twice : (es : List Event) → spelled (spelled es) ≡ spelled es
  -- Two tables that differ in spelling alone are read alike where areas have no limit,
  pub alike : (es fs : List Event) → spelled es ≡ spelled fs → SameAnswer (deserialize es) (deserialize fs)
  -- and with any room: what suffices for one suffices for the other, which is then read to the same report; what doesn't is refused with the
  -- same of 12, 13 and 14.
  pub in_areas : (rooms : Rooms) (es fs : List Event) → spelled es ≡ spelled fs → SameAnswer (deserialize_in rooms es) (deserialize_in rooms fs)
