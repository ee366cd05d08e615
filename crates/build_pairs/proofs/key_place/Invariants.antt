use Rattle.build_kinds.specs.of_build_draft.Parts.{key_place}
use Rattle.std.specs.Prelude.{◌≡◌, ◌≤◌, ◌-◌, max}
use Rattle.build_pairs.proofs.key_place.Given as goal

abbrev pub invariant-loop-i : goal.invariant-loop-i
invariant-loop-i l = record {
  rest : key_place l.text l.records l.key l.from (l.to - l.from) ≡ key_place l.text l.records l.key l.i (l.to - l.i);
  end : l.i ≤ max l.from l.to;
}
