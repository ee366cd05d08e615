-- A case that is written as an Empty has nothing but its attributes. Assumes nothing.
use Prim.Native.Nat.{ℕ}
use mathlib.Core.Bool.{false, false≢true}
use mathlib.Core.List.{List, [], ◌∷◌, ◌++◌}
use mathlib.Core.Option.{Option, none, some}
use mathlib.Core.Path.{◌≡◌, refl, sym, ap, ◌∙◌}
use Rattle.round_elements.specs.of_table.Event.{Attribute, Event}
use Rattle.round_elements.specs.of_tree_report.Report.{Text, Pair, TestCaseStatus, success, non_success, skipped}
use Rattle.round_elements.specs.of_names.Bytes.{bytes}
use Rattle.round_elements.specs.of_write_report.Written.{each, is_empty, status_attributes, main_name, described, serialize_output}
use Rattle.round_elements.specs.of_write_report.Written.{serialize_properties, serialize_outputs, serialize_status, serialize_rerun, serialize_elements}

pub record Childless (ps : List Pair) (st : TestCaseStatus) (a b : Option Text) : Type 0 where
  pub properties : ps ≡ []
  pub status : st ≡ success []
  pub out : a ≡ none
  pub err : b ≡ none

-- a status element, other events, and others
some-event : (name : List ℕ) (xs : List Attribute) (v : Option Text) (es fs : List Event) → is_empty ((described name xs v ++ es) ++ fs) ≡ false
some-event name xs none es fs = refl
some-event name xs (some d) es fs = refl

some_alone : (name : List ℕ) (xs : List Attribute) (v : Option Text) (fs : List Event) → is_empty (described name xs v ++ fs) ≡ false
some_alone name xs none fs = refl
some_alone name xs (some d) fs = refl

pub childless : (ps : List Pair) (st : TestCaseStatus) (out err : Option Text) → serialize_properties ps ++ (serialize_elements st ++ serialize_outputs out err) ≡ [] → Childless ps st out err
unfolding serialize_properties serialize_elements serialize_status serialize_rerun serialize_outputs serialize_output
childless (p ∷ ps) st out err e = absurd (false≢true (ap is_empty e))
childless [] (success (r ∷ rs)) out err e = absurd (false≢true (ap is_empty e))
childless [] (success []) (some t) err e = absurd (false≢true (ap is_empty e))
childless [] (success []) none (some t) e = absurd (false≢true (ap is_empty e))
childless [] (success []) none none e = record { properties = refl; status = refl; out = refl; err = refl }
childless [] (non_success k reason family runs) out err e =
    absurd (false≢true (sym (some-event (main_name k) (status_attributes reason.message reason.type) reason.description (each (serialize_rerun family) runs) (serialize_outputs out err))
    ∙ ap is_empty e))
childless [] (skipped reason) out err e =
    absurd (false≢true (sym (some_alone (bytes "skipped") (status_attributes reason.message reason.type) reason.description (serialize_outputs out err)) ∙ ap is_empty e))
