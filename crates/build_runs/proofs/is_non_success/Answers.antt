use Rattle.build_records.specs.of_build_draft.Calls.{is_non_success}
use mathlib.Core.Path.{refl}
use Rattle.build_runs.proofs.is_non_success.Goals as goal

pub returns : goal.returns
unfolding is_non_success
returns c = λ text. rw (c.is_of.ensures, c.is_of-2.ensures) refl
