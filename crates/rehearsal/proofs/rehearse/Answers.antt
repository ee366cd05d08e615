use mathlib.Core.Path.{◌≡◌, sym, ap, ◌∙◌}
use borrow.Author.Tests.{ltb-false, lt-ltb, le-ltb}
use Rattle.order_suite.specs.of_order_report.Answer.{most_cases}
use lib.ListN.{length}
use Rattle.writer.specs.of_area.Area.{zeros}
use Rattle.order_suite.specs.of_order_report.Rehearsal.{order_of, stated}
use Rattle.rehearsal.proofs.Leaving.{too_many, no-report, whole-put, short-put}
use Rattle.rehearsal.proofs.rehearse.Goals as goal

pub returns-then-many : goal.returns-then-many
returns-then-many c =
    let args = c.args in
    let o = order_of args.cases args.failures args.errors args.skipped args.flaky in
    let cleared = c.clear_table in
    let both = too_many o _ _ _ (lt-ltb most_cases c.args.cases c.if-many.true) c.refuse.ensures cleared.ensures.events_after cleared.ensures.attributes_after cleared.ensures.bytes_after in record { value = both.0; events_after = both.1.0; attributes_after = both.1.1.0; bytes_after = both.1.1.1 }

pub returns-then-more : goal.returns-then-more
returns-then-more c =
    let args = c.args in
    let o = order_of args.cases args.failures args.errors args.skipped args.flaky in
    let cleared = c.clear_table in
    let both = no-report o _ _ _ (le-ltb most_cases c.args.cases c.if-many.false) (sym c.exceeds_cases-more.ensures ∙ c.if-more.true)
    c.refuse-then-more.ensures cleared.ensures.events_after cleared.ensures.attributes_after cleared.ensures.bytes_after in record { value = both.0; events_after = both.1.0; attributes_after = both.1.1.0; bytes_after = both.1.1.1 }

pub put_rehearsal-k-requires : goal.put_rehearsal-k-requires
put_rehearsal-k-requires c =
    let exceeds-cases = c.exceeds_cases-more in
    let args = c.args in
    let o = order_of args.cases args.failures args.errors args.skipped args.flaky in
    ltb-false o.cases (stated o) (sym exceeds-cases.ensures ∙ c.if-more.false)

pub shape_of-events-in_default : goal.shape_of-events-in_default
shape_of-events-in_default c =
    let at-put-rehearsal = c in
    let clear-table = at-put-rehearsal.clear_table in
    let refuse-full = c.refuse_full in
    refuse-full.auto.events ∙ at-put-rehearsal.put_rehearsal-k.auto.events ∙ clear-table.auto.events

pub shape_of-attributes-in_default : goal.shape_of-attributes-in_default
shape_of-attributes-in_default c =
    let at-put-rehearsal = c in
    let clear-table = at-put-rehearsal.clear_table in
    let refuse-full = c.refuse_full in
    refuse-full.auto.attributes ∙ at-put-rehearsal.put_rehearsal-k.auto.attributes ∙ clear-table.auto.attributes

pub shape_of-bytes-in_default : goal.shape_of-bytes-in_default
shape_of-bytes-in_default c =
    let at-put-rehearsal = c in
    let clear-table = at-put-rehearsal.clear_table in
    let refuse-full = c.refuse_full in
    refuse-full.auto.bytes ∙ at-put-rehearsal.put_rehearsal-k.auto.bytes ∙ clear-table.auto.bytes

pub returns-in_default : goal.returns-in_default
returns-in_default c =
    let at-enum-told = c in
    let at-if2 = at-enum-told in
    let at-if1 = at-if2 in
    let exceeds-cases = at-if1.exceeds_cases-more in
    let args = c.args in
    let o = order_of args.cases args.failures args.errors args.skipped args.flaky in
    let e = length args.events.now in
    let a = length args.attributes.now in
    let b = length args.bytes.now in
    let cleared = c.clear_table in
    let put = c.put_rehearsal-k in
    let again = c.refuse_full in
    let x : length put.new.events ≡ e = put.auto.events ∙ cleared.auto.events in
    let y : length put.new.attributes ≡ a = put.auto.attributes ∙ cleared.auto.attributes in
    let z : length put.new.bytes ≡ b = put.auto.bytes ∙ cleared.auto.bytes in
    let both = short-put o e a b (le-ltb most_cases c.args.cases at-if1.if-many.false) (sym exceeds-cases.ensures ∙ at-if2.if-more.false) cleared.ensures.events_after cleared.ensures.attributes_after cleared.ensures.bytes_after
    put.ensures at-enum-told.in_default.is again.ensures.value (again.ensures.events_after ∙ ap zeros x) (again.ensures.attributes_after ∙ ap zeros y) (again.ensures.bytes_after ∙ ap zeros z) in record { value = both.0; events_after = both.1.0; attributes_after = both.1.1.0; bytes_after = both.1.1.1 }

pub shape_of-events : goal.shape_of-events
shape_of-events c =
    let at-put = c in
    at-put.put_rehearsal-k.auto.events ∙ at-put.clear_table.auto.events

pub shape_of-attributes : goal.shape_of-attributes
shape_of-attributes c =
    let at-put = c in
    at-put.put_rehearsal-k.auto.attributes ∙ at-put.clear_table.auto.attributes

pub shape_of-bytes : goal.shape_of-bytes
shape_of-bytes c =
    let at-put = c in
    at-put.put_rehearsal-k.auto.bytes ∙ at-put.clear_table.auto.bytes

pub returns : goal.returns
returns c =
    let at-put = c in
    let exceeds-cases = at-put.exceeds_cases-more in
    let if1 = at-put.if-many in
    let if2 = at-put.if-more in
    let at_clear = at-put in
    let args = at_clear.args in
    let o = order_of args.cases args.failures args.errors args.skipped args.flaky in
    let e = length args.events.now in
    let a = length args.attributes.now in
    let b = length args.bytes.now in
    let cleared = at_clear.clear_table in
    let both = whole-put o e a b (le-ltb most_cases c.args.cases if1.false) (sym exceeds-cases.ensures ∙ if2.false) cleared.ensures.events_after cleared.ensures.attributes_after cleared.ensures.bytes_after
    at-put.put_rehearsal-k.ensures _ c.no_refusal.ensures c.in-Some.is in record { value = both.0; events_after = both.1.0; attributes_after = both.1.1.0; bytes_after = both.1.1.1 }
