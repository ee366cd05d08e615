use Rattle.read_again.proofs.Restoring.{restores}
use Rattle.read_again.specs.inside.Turns.{rest}
use Rattle.read_again.specs.Told.{told}
use Rattle.read_pieces.specs.of_read_state.Control.{at, status}
use mathlib.Core.Path.{refl}
use Rattle.read_again.proofs.restored.Goals as goal

pub returns : goal.returns
returns c =
    let args = c.args in record {
      value = refl;
      restores = λ words text attributes s hd g d.
          restores (told (at status) (rest args.events.now attributes args.source.now args.first)) _ hd g d (c.gather_again-put.ensures.by_index_2 attributes);
    }
