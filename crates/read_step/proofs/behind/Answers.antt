use mathlib.Core.Path.{refl}
use Rattle.read_step.proofs.Stepping.{is-behind}
use Rattle.read_step.proofs.behind.Goals as goal

pub returns : goal.returns
returns c =
    let start = c in
    let a = start.args in record {
      by_index = λ name d. is-behind a.act name a.st d a.st.content.used c.turn.result c.marked-marks.result
          c.onward.result start.requires.act_value (c.turn.ensures name) (c.marked-marks.ensures name) c.onward.ensures;
      content_value = refl;
    }
