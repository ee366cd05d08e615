use lib.Dec.{lit≤}
use mathlib.Core.Path.{refl}
use Rattle.read_lists.specs.of_read_state.Control.{suite}
use Rattle.read_lists.specs.of_read_content.inside.Holds.{no_list, with_list}
use Rattle.read_opening.proofs.Opening.{comes-on, holds-lists, suite-lists}
use Rattle.read_opening.proofs.open_suite.Goals as goal

pub add_element-requires : goal.add_element-requires
add_element-requires c =
    let start = c in record {
      le_kind = lit≤ tt;
      kind_bound = lit≤ tt;
      ready = (
        start.requires.0,
        (
          start.requires.1.0,
          (
            start.requires.1.1.0,
            (
              start.requires.1.1.1.0,
              record {
                scratch = start.requires.1.1.1.1.scratch;
                said = start.requires.1.1.1.1.said;
                holds = holds-lists (with_list suite start.args.content no_list) refl start.requires.1.1.1.1.holds;
              },
            ),
          ),
        ),
      );
    }

pub returns : goal.returns
returns c =
    let args = c.args in
    let add-element = c.add_element in
    λ rooms p s scratch m pa hd sz g e. comes-on (add-element.ensures rooms p s scratch pa (holds-lists (with_list suite args.content no_list) refl hd) sz) (suite-lists m args.content s g e)
