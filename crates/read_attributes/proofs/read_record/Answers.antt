use Rattle.std.proofs.lemmas.Result.{err_from_is_err_and}
use lib.ListN.{take}
use native.Mathlib.Omega.{arith}
use Rattle.read_attributes.proofs.Growing.{begun, record-extras, record-halted, record_lacking, record-grown}
use Rattle.read_attributes.proofs.read_record.Goals as goal

pub read_all-requires : goal.read_all-requires
read_all-requires c =
    let start = c in
    let put-field = c.put_field in
    let p = start.requires in record {
      kind_bound = p.kind_bound;
      begins = (
        p.vacant.0,
        (
          p.vacant.1.0,
          (
            p.vacant.1.1.0,
            (
              p.vacant.1.1.1.1.0,
              (
                begun start.args.kind start.args.fill start.args.own.now start.args.text.now
                    p.vacant.1.1.1.1.1.0 p.in_bounds p.vacant.1.1.1.0 p.vacant.1.1.1.1.1.1.0 put-field.ensures,
                p.free,
              ),
            ),
          ),
        ),
      );
    }

pub returns-in_err-given : goal.returns-in_err-given
returns-in_err-given c =
    let q = err_from_is_err_and c.from_residual.result c.from_residual.ensures.1 in
    λ rooms p before w ro. rw (q.1, q.2) (record-halted c.args.kind c.args.attributes.now c.args.source.now c.args.range (take c.args.fill c.args.text.now)
    c.args.own.now c.args.text.now c.put_field.ensures c.requires.in_bounds c.read_all.ensures rooms p before w ro c.in_err-given.was)

pub returns-then-lacking-ne0 : goal.returns-then-lacking-ne0
returns-then-lacking-ne0 c =
    let at-put-field = c in
    let start = at-put-field in
    let read_all = c.read_all in
    λ rooms p before w ro. record_lacking start.args.kind start.args.attributes.now start.args.source.now start.args.range
    (take start.args.fill start.args.text.now) start.args.own.now start.args.text.now at-put-field.put_field.ensures start.requires.in_bounds
    read_all.ensures rooms p before w ro c.in_ok-given.was c.missing_of-lacking.ensures c.if-lacking-ne0.true c.refused.ensures

pub overflow_add-result : goal.overflow_add-result
overflow_add-result c =
    let args = c.args in
    let pre = c.requires in
    let put-field = c.put_field in
    let read_all = c.read_all in
    let h =
    record-extras args.kind args.attributes.now args.source.now args.range (take args.fill args.text.now) args.own.now args.text.now put-field.ensures pre.in_bounds
    read_all.ensures c.in_ok-given.was in let k = read_all.auto.own in let l = put-field.auto.words in let g = c.well_formed.1.1.1.1.1.1.1.0 in record { fits = omega arith }

pub returns : goal.returns
returns c =
    let at-put-field = c in
    let start = at-put-field in
    let read_all = c.read_all in
    λ rooms p before w ro.
    record-grown start.args.kind start.args.attributes.now start.args.source.now start.args.range (take start.args.fill start.args.text.now) start.args.own.now
    start.args.text.now at-put-field.put_field.ensures start.requires.in_bounds read_all.ensures rooms p before w ro c.in_ok-given.was c.missing_of-lacking.ensures
    c.if-lacking-ne0.false start.requires.vacant.0 start.args.known start.requires.vacant.1.1.1.1.1.1.1 c.known_of.ensures
