use Rattle.build_text.proofs.Putting.{put-nothing, record-behind, record-back}
use Rattle.build_draft.specs.of_tree_put.Put.{put_text}
use Rattle.build_text.proofs.put_into.Goals as goal

pub returns-then-records-at : goal.returns-then-records-at
returns-then-records-at c = record-behind c.args.i c.args.records.now (put_text c.args.o c.args.k c.args.start
    c.args.n) (put-nothing c.args.o c.args.k c.args.start c.args.n) c.if-records-at.true

pub returns : goal.returns
returns c =
    let args = c.args in
    record-back args.i args.records.now (put_text args.o args.k args.start args.n) c.put_text.ensures
