-- The run with bytes in place of marks: what ties the records of a document to the events of its derivation. Definitions only.
use Rattle.std.specs.Prelude.{ℕ, ◌-◌, List, [], ◌∷◌, ◌++◌, true, length, take}
use Rattle.std.proofs.Math.Option.{Option, none, some}
use Rattle.table.specs.Event as table
use Rattle.table.specs.Event.{Attribute, Event, Tag, Piece, Text, Other}
use Rattle.xml_machine.specs.State.{State, fresh, Act, Stay, Mark, Here, EndText, TextMark, Name, NameStart, NameEnd, Start, Empty, End, Key, Value, Ref, Comment, Pi, CData, Next, no, go}
use Rattle.xml_machine.specs.Machine.{step}

-- the bytes since the mark, of the tag's name and of the key; the attributes of the open tag; the events so far, first attributes 0
pub record Said : Type 0 where
  pub mark : List ℕ
  pub name : List ℕ
  pub key : List ℕ
  pub attributes : List Attribute
  pub events : List Event

abbrev pub unsaid : Said
unsaid = record { mark = []; name = []; key = []; attributes = []; events = [] }

abbrev pub less : ℕ → List ℕ → List ℕ
less k s = take (length s - k) s

abbrev pub text_said : List ℕ → List Event
text_said [] = []
text_said (b ∷ s) = Piece Text (b ∷ s) ∷ []

-- the mark moves
abbrev pub marks : List ℕ → Said → Said
marks s d = record { mark = s; name = d.name; key = d.key; attributes = d.attributes; events = d.events }

abbrev pub grows : ℕ → Said → Said
grows b d = marks (d.mark ++ (b ∷ [])) d

-- events are told, and nothing stands marked
abbrev pub tells : List Event → Said → Said
tells es d = record { mark = []; name = d.name; key = d.key; attributes = d.attributes; events = d.events ++ es }

abbrev pub names : Said → Said
names d = record { mark = d.mark; name = d.mark; key = d.key; attributes = []; events = d.events }

abbrev pub keys : Said → Said
keys d = record { mark = d.mark; name = d.name; key = d.mark; attributes = d.attributes; events = d.events }

abbrev pub values : Said → Said
values d = record {
  mark = d.mark;
  name = d.name;
  key = d.key;
  attributes = d.attributes ++ (record { good = true; key = d.key; value = d.mark } ∷ []);
  events = d.events;
}

abbrev pub saying : Act → ℕ → Said → Said
saying Stay b d = grows b d
saying Mark b d = marks [] d
saying Here b d = marks (b ∷ []) d
saying EndText b d = tells (text_said d.mark) d
saying TextMark b d = tells (text_said d.mark) d
saying Name b d = grows b (names d)
saying NameStart b d = tells (Tag table.Start d.mark 0 [] ∷ []) d
saying NameEnd b d = tells (Tag table.End d.mark 0 [] ∷ []) d
saying Start b d = tells (Tag table.Start d.name 0 d.attributes ∷ []) d
saying Empty b d = tells (Tag table.Empty d.name 0 d.attributes ∷ []) d
saying End b d = tells (Tag table.End d.name 0 [] ∷ []) d
saying Key b d = grows b (keys d)
saying Value b d = grows b (values d)
saying Ref b d = tells (Piece table.Ref d.mark ∷ []) d
saying Comment b d = tells (Piece Other (less 2 d.mark) ∷ []) d
saying Pi b d = tells (Piece Other (less 1 d.mark) ∷ []) d
saying CData b d = tells (Piece table.CData (less 2 d.mark) ∷ []) d

-- a state with what was said
pub data Telling : Type 0 where
  telling : State → Said → Telling

abbrev pub onto : Next → ℕ → Said → (Telling → Option Telling) → Option Telling
onto no b d f = none
onto (go a u) b d f = f (telling u (saying a b d))

unfoldable pub tell : Telling → List ℕ → Option Telling
tell c [] = some c
tell (telling s d) (b ∷ t) = onto (step s b) b d (λ c. tell c t)

abbrev pub told : List ℕ → Option Telling
told s = tell (telling fresh unsaid) s
