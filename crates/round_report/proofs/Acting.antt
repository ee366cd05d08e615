-- Where reading stands, and what one tag does there. Assumes nothing.
use Prim.Native.Nat.{ℕ}
use mathlib.Core.Bool.{Bool, true, false}
use mathlib.Core.List.{List, [], ◌∷◌, ◌++◌}
use mathlib.Core.Path.{◌≡◌, ap, ap₂, ◌∙◌}
use lib.ListN.{length}
use Rattle.round_rooms.specs.of_refusal.Refusal.{Outcome, accepted}
use Rattle.round_rooms.specs.of_table.Event.{Attribute, TagKind, Tag}
use Rattle.round_rooms.specs.of_read_element.Outcome.{◌>>=◌, Place, unlimited}
use Rattle.round_rooms.specs.of_read_element.Attributes.{Grown, read_element}
use Rattle.round_rooms.specs.of_read_state.Control.{Level, Mode, at, Act, turn}
use Rattle.round_rooms.specs.of_read_rules.Rules.{plan_at}
use Rattle.round_rooms.specs.of_read_place.Marks.{marks_after, onward}
use Rattle.round_rooms.specs.of_read_path.Paths.{act_place}
use Rattle.round_rooms.specs.of_read_content.Content.{Content, adding, grown, perform}
use Rattle.round_rooms.specs.of_read_machine.Machine.{Machine, act, step}
use Rattle.round_case.specs.of_round_elements.inside.Read.{settled, Stands}
use Rattle.round_report.proofs.Leading.{Goes, goes_one}

-- in a mode, with a content; the report has begun, and isn't closed by an Empty; the open suite's record has number i
pub record Held (m : Mode) (i : ℕ) (c : Content) (s : Machine) : Type 0 where
  pub mode : s.control.mode ≡ m
  pub seen : s.control.seen ≡ true
  pub closed : s.control.closed ≡ false
  pub content : s.content ≡ c
  pub suite_at_of : s.marks.suite_at_of ≡ i

pub stands-held : {l : Level} {i : ℕ} {records : List (List ℕ)} {texts : List ℕ} {s : Machine} → Stands l i records texts s → Held (at l) i (settled records texts) s
stands-held h = record { mode = h.mode; seen = h.seen; closed = h.closed; content = h.content; suite_at_of = h.suite_at_of }

pub held-stands : (l : Level) (i : ℕ) (records : List (List ℕ)) (texts : List ℕ) (s : Machine) → Held (at l) i (settled records texts) s → Stands l i records texts s
held-stands l i records texts s h = record { mode = h.mode; seen = h.seen; closed = h.closed; content = h.content; suite_at_of = h.suite_at_of }

-- the machine behind an act that leaves the content c
abbrev pub behind_act : Act → Content → Machine → Machine
behind_act a c s = record { control = turn a s.control; content = c; marks = onward (marks_after a (length s.content.records) s.marks) }

abbrev pub place_of : Act → Machine → Place
place_of a s = act_place a s.control.mode s.marks

pub tag-step : (k : TagKind) (name : List ℕ) (j : ℕ) (xs : List Attribute) (a : Act) (m : Mode) (b : Bool) (c d : Content) (s : Machine)
    → s.control.mode ≡ m → s.control.seen ≡ b → s.content ≡ c → plan_at m b k name ≡ a
    → perform unlimited (place_of a s) a j xs s.control s.marks c ≡ accepted d → step unlimited (Tag k name j xs) s ≡ accepted (behind_act a d s)
unfolding step act ◌>>=◌
tag-step k name j xs a m b c d s hm hb hc plan h =
    ap (λ (x : Act). act unlimited x j xs s) (ap₂ (λ (x : Mode) (y : Bool). plan_at x y k name) hm hb ∙ plan)
    ∙ ap (λ (o : Outcome Content). o >>= λ z. accepted (behind_act a z s)) (ap (λ (z : Content). perform unlimited (place_of a s) a j xs s.control s.marks z) hc ∙ h)

pub tag-goes : {m n : Mode} {i l : ℕ} {c d : Content} {s : Machine} (k : TagKind) (name : List ℕ) (j : ℕ) (xs : List Attribute) (a : Act) → Held m i c s → plan_at m true k name ≡ a
    → perform unlimited (place_of a s) a j xs s.control s.marks c ≡ accepted d → Held n l d (behind_act a d s) → Goes (Tag k name j xs ∷ []) s (Held n l d)
tag-goes {m = m} {c = c} {d = d} {s = s} k name j xs a h plan p e =
    goes_one (Tag k name j xs) s (behind_act a d s) (tag-step k name j xs a m true c d s h.mode h.seen h.content plan p) e

-- an element's records and texts behind the others
pub adds : (p : Place) (κ j : ℕ) (xs : List Attribute) (records : List (List ℕ)) (texts : List ℕ) (more : List (List ℕ)) (added : List ℕ)
    → read_element unlimited p κ j xs records texts ≡ accepted (record { records = records ++ more; texts = texts ++ added })
    → adding unlimited p κ j xs (settled records texts) ≡ accepted (settled (records ++ more) (texts ++ added))
unfolding adding ◌>>=◌
adds p κ j xs records texts more added e = ap (λ (o : Outcome Grown). o >>= λ g. accepted (grown (settled records texts) g)) e
