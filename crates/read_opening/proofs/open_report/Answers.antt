use lib.Dec.{lit≤}
use Rattle.read_lists.specs.of_read_content.Content.{with_records, kill_all}
use Rattle.read_opening.proofs.Opening.{comes-on, all-killed, killed-same, report-lists}
use Rattle.read_lists.proofs.of_read_content.Areas.{fits-words}
use Rattle.read_opening.proofs.open_report.Goals as goal

pub kill-requires : goal.kill-requires
kill-requires c =
    let pre = c.requires in
    record { first_le_end = pre.1.1.1.1.holds.report; end_in_bounds = fits-words pre.1.1.1.1.holds }

pub add_element-requires : goal.add_element-requires
add_element-requires c =
    let pre = c.requires in
    let kill = c.kill in record {
      le_kind = lit≤ tt;
      kind_bound = lit≤ tt;
      ready = (
        pre.0,
        (
          pre.1.0,
          (
            pre.1.1.0,
            (
              pre.1.1.1.0,
              record {
                scratch = pre.1.1.1.1.scratch;
                said = with_records pre.1.1.1.1.said (kill_all pre.1.1.1.1.said.records);
                holds = all-killed pre.1.1.1.1.holds kill.ensures;
              },
            ),
          ),
        ),
      );
    }

pub returns : goal.returns
returns c =
    let args = c.args in
    let kill = c.kill in
    let add-element = c.add_element in
    λ rooms p s scratch m pa hd sz g. comes-on (add-element.ensures rooms p (with_records s (kill_all s.records)) scratch
    pa (all-killed hd kill.ensures) (rw (killed-same hd kill.ensures) sz)) (report-lists m args.content s g)
