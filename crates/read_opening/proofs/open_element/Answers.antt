use Prim.Native.Nat.{◌-◌}
use Rattle.read_lists.specs.of_table.Event.{attributes_from}
use Rattle.read_opening.proofs.Opening.{opened-report, opened-suite, opened-case, opened-status}
use Rattle.read_opening.proofs.open_element.Goals as goal

pub returns-in-1 : goal.returns-in-1
returns-in-1 c =
    let args = c.args in
    let open-report = c.open_report in
    λ rooms p s scratch k m e pa op hd li sz. opened-report p args.content s k m e rooms args.range.first (attributes_from args.attributes.now
    args.source.now (args.range.end - args.range.first) args.range.first) c.in-1.is op li (λ n g. open-report.ensures rooms p s scratch n pa hd sz g)

pub returns-in-2 : goal.returns-in-2
returns-in-2 c =
    let args = c.args in
    let open-suite = c.open_suite in
    λ rooms p s scratch k m e pa op hd li sz. opened-suite p args.content s k m e rooms args.range.first (attributes_from args.attributes.now args.source.now
    (args.range.end - args.range.first) args.range.first) c.in-2.is op li (λ n g q. open-suite.ensures rooms p s scratch n pa hd sz g q)

pub returns-in-3 : goal.returns-in-3
returns-in-3 c =
    let args = c.args in
    let open-case = c.open_case in
    λ rooms p s scratch k m e pa op hd li sz. opened-case p args.content s k m e rooms args.range.first (attributes_from args.attributes.now args.source.now
    (args.range.end - args.range.first) args.range.first) c.in-3.is op li (λ n x q. open-case.ensures rooms p s scratch n pa hd sz x q)

pub returns-in_default : goal.returns-in_default
returns-in_default c =
    let args = c.args in
    let add-element = c.add_element in
    λ rooms p s scratch k m e pa op hd li sz. opened-status p args.content s k m e rooms args.range.first (attributes_from args.attributes.now args.source.now
    (args.range.end - args.range.first) args.range.first) args.kind c.in_default.in_default-own.rest.0.0.1 c.in_default.in_default-own.rest.0.1 c.in_default.in_default-own.rest.1 op li (add-element.ensures rooms p s scratch pa hd sz)
