-- What reading goes by between events, and what an action turns it into. It sees kinds and tag names only. Definitions only.
use Rattle.std.specs.Prelude.{ℕ, List, Bool, true, false, cond, ◌&&◌, ◌||◌, leb}
use Rattle.tree_status.specs.declared.Tally.{Tally}
use Rattle.tree_status.specs.Status.{no_status, tallied}
use Rattle.refusal.specs.declared.Cause.{Cause}

-- what is open: the report level, a suite, a case, a status element
pub data Level : Type 0 where
  top suite case status : Level

-- which text is gathered
pub data Output : Type 0 where
  trace out err : Output

-- where reading stands: inside an element, in a gathered text of an element, in its properties, in a skip of a name that
-- was opened `depth` times more, behind which reading stands where it stood before, or at the end
pub data Mode : Type 0 where
  at : Level → Mode
  gathering : Level → Output → Mode
  listing : Level → Mode
  skipping : Mode → List ℕ → ℕ → Mode
  finished : Mode

-- whether a report exists, whether the table counts as closed, and the open case's status elements
pub record Control : Type 0 where
  pub mode : Mode
  pub seen : Bool
  pub closed : Bool
  pub tally : Tally

-- what is done; a Bool says that the tag is Empty
pub data Act : Type 0 where
  pass : Mode → Act
  open_report : Bool → Act
  open_suite : Bool → Act
  open_case : Bool → Act
  open_status : ℕ → Bool → Act
  close_suite : Act
  close_case : Act
  close_status : Act
  open_text : Level → Output → Act
  -- at its End; an Empty output is closed where it stands, with nothing gathered
  close_text : Level → Output → Act
  open_list : Level → Bool → Act
  -- the tag's name is what the skip of a Start's content remembers
  read_property : Level → Bool → List ℕ → Act
  stop : Act
  -- no report, at Eof or at End `testsuites` (rule R9)
  missing : Act
  -- Eof inside the open element, Fault or Eof in a skip
  broken : Cause → Act

-- the seven status names (rule S1) are the codes 6 to 12
abbrev pub is_status : ℕ → Bool
is_status t = leb 6 t && leb t 12

-- of a child that isn't known (rules R11 and S4)
unfoldable pub or_skip : Level → List ℕ → Act
or_skip l name = pass (skipping (at l) name 0)

-- where pieces of text are gathered (rule R20)
unfoldable pub gathers : Mode → Bool
gathers (at top) = false
gathers (at suite) = false
gathers (at case) = false
gathers (at status) = true
gathers (gathering l o) = true
gathers (listing l) = false
gathers (skipping m skipped depth) = false
gathers finished = false

abbrev pub control : Mode → Bool → Bool → Tally → Control
control m s c t = record { mode = m; seen = s; closed = c; tally = t }

abbrev pub opens : Bool → Level → Level → Mode
opens empty outer inner = at (cond empty outer inner)

-- the control that follows; behind an Empty `testsuites` the table counts as closed (rule R4)
unfoldable pub turn : Act → Control → Control
turn (pass m) c = control m c.seen c.closed c.tally
turn (open_report e) c = control (at top) true (e || c.closed) no_status
turn (open_suite e) c = control (opens e top suite) c.seen c.closed no_status
turn (open_case e) c = control (opens e suite case) c.seen c.closed no_status
turn (open_status k e) c = control (opens e case status) c.seen c.closed (tallied c.tally k)
turn close_suite c = control (at top) c.seen c.closed no_status
turn close_case c = control (at suite) c.seen c.closed no_status
turn close_status c = control (at case) c.seen c.closed c.tally
turn (open_text l o) c = control (gathering l o) c.seen c.closed c.tally
turn (close_text l o) c = control (at l) c.seen c.closed c.tally
turn (open_list l e) c = control (cond e (at l) (listing l)) c.seen c.closed c.tally
turn (read_property l e name) c = cond e c (control (skipping (listing l) name 0) c.seen c.closed c.tally)
turn stop c = control finished c.seen c.closed c.tally
turn missing c = c
turn (broken n) c = c
