use Rattle.build_runs.proofs.Families.{family-runs, family-none}
use Rattle.build_records.proofs.of_build_draft.Places.{record-part}
use Rattle.build_runs.proofs.family_of.Goals as goal

pub returns-then-b : goal.returns-then-b
returns-then-b c =
    let args = c.args in
    λ text. family-runs args.b args.words.now text c.if-b.true c.family_by.ensures c.kind_at.ensures c.last_of.ensures

pub returns : goal.returns
returns c =
    let args = c.args in
    let if1 = c.if-b in
    λ text. family-none args.b args.words.now text if1.false c.family_by-2.ensures c.has_bit.ensures
    (record-part args.words.now args.b.main c.least-at.ensures)
