use mathlib.Core.Path.{ap, ◌∙◌}
use lib.ListN.{length}
use Rattle.explain_spot.specs.of_area.Area.{zeros}
use Rattle.explain_xml.proofs.Answered.{whole-line, short-line}
use Rattle.explain_xml.proofs.explain_xml.Goals as goal

pub returns-in-Some : goal.returns-in-Some
returns-in-Some c =
    let args = c.args in
    let clear = c.clear in
    let put-line = c.put_line-put in
    let both = whole-line args.source.now args.number args.byte args.events args.attributes
    (length args.out.now) put-line.result clear.ensures put-line.ensures c.in-Some.is in record { result_value = both.0; out_after = both.1 }

pub returns-in-None : goal.returns-in-None
returns-in-None c =
    let args = c.args in
    let clear = c.clear in
    let put-line = c.put_line-put in
    let both = short-line args.source.now args.number args.byte args.events args.attributes (length args.out.now) put-line.result
    clear.ensures put-line.ensures c.in-None.is (c.clear-in-None.ensures ∙ ap zeros (put-line.auto.out ∙ clear.auto.out)) in record { result_value = both.0; out_after = both.1 }
