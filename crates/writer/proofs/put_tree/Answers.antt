use Rattle.writer.proofs.Used.{used-items}
use Rattle.write_answer.proofs.of_write_table.Writing.{said}
use Rattle.area.specs.Limits.{most_words, most_bytes}
use lib.ListN.{length}
use lib.Seq.{length-take-le}
use native.Mathlib.Omega.{arith}
use native.Mathlib.Nat.{min-le_left}
use mathlib.Core.Path.{sym}
use Rattle.writer.proofs.put_tree.Goals as goal

pub slice_bounds-put_document-end : goal.slice_bounds-put_document-end
slice_bounds-put_document-end c =
    let args = c.args in
    let least2 = c.least-used in
    sym (length-take-le least2.result args.text.now (omega (arith, least2.ensures, min-le_left (length args.text.now) most_bytes)))

pub slice_bounds-put_document-end-2 : goal.slice_bounds-put_document-end-2
slice_bounds-put_document-end-2 c =
    let args = c.args in
    let least = c.least-limit in
    sym (length-take-le least.result args.records.now (omega (arith, least.ensures, min-le_left (length args.records.now) most_words)))

pub returns : goal.returns
returns c =
    let at_least_lem = c in
    let args = at_least_lem.args in
    let least2 = c.least-used in
    let put-document = c.put_document in
    said put-document.ensures (used-items args.records.now args.text.now at_least_lem.least-limit.result least2.result at_least_lem.least-limit.ensures least2.ensures)
