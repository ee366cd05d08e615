-- What the code keeps of what is open, as the definition has it. Definitions only.
use Rattle.std.specs.Prelude.{ℕ, Bool, false, ◌||◌, List}
use Rattle.tree_report.specs.of_tree_record.Bits as bit
use Rattle.tree_report.specs.of_tree_record.Record.{kind_of, has_bit}
use Rattle.tree_report.specs.of_tree_status.Status as rule
use Rattle.tree_report.specs.Layout.{Open, over}
use Rattle.tree_order.specs.declared.State.{State}
use Rattle.tree_order.specs.declared.Properties.{Properties}
use Rattle.tree_order.specs.declared.Properties.TheVariants.{Unbegun, AtHand, Over}

-- a list of properties
abbrev pub number_of : Properties → ℕ
number_of Unbegun = 0
number_of AtHand = 1
number_of Over = 2

abbrev pub state_of : State → Open
state_of s =
    record { level = s.level; extras = s.extras; suite_list_of = number_of s.suitelist; case_list = number_of s.caselist; tally = s.tally; flagged = s.flagged }

-- just opened: no case property, no status element yet
abbrev pub fresh_of : ℕ → Bool → ℕ → Open
fresh_of level extras suite_list_of =
    record { level = level; extras = extras; suite_list_of = suite_list_of; case_list = 0; tally = rule.no_status; flagged = false }

-- behind a status element
abbrev pub status_behind : Open → List ℕ → Open
status_behind o r =
    record { level = 3; extras = false; suite_list_of = o.suite_list_of; case_list = over o.case_list; tally = rule.tallied o.tally (kind_of r); flagged = o.flagged || has_bit bit.flaky r }
