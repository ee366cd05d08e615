use mathlib.Core.Path.{sym}
use native.Mathlib.Nat.{min-le_left}
use native.Mathlib.Omega.{arith}
use lib.Seq.{length-take-le}
use lib.ListN.{length}
use Rattle.writer.specs.of_area.Limits.{most_words, most_bytes}
use Rattle.writer.proofs.of_write_table.Writing.{said}
use Rattle.writer.proofs.Used.{used-items}
use Rattle.xml_writer.proofs.put_tree.Goals as goal

pub slice_bounds-put_document-end-3 : goal.slice_bounds-put_document-end-3
slice_bounds-put_document-end-3 c =
    let args = c.args in
    let least2 = c.least-used in
    sym (length-take-le least2.result args.text.now (omega (arith, least2.ensures, min-le_left (length args.text.now) most_bytes)))

pub slice_bounds-put_document-end-4 : goal.slice_bounds-put_document-end-4
slice_bounds-put_document-end-4 c =
    let args = c.args in
    let least = c.least-limit in
    sym (length-take-le least.result args.records.now (omega (arith, least.ensures, min-le_left (length args.records.now) most_words)))

pub returns : goal.returns
returns c =
    let args = c.args in
    let least = c.least-limit in
    let least2 = c.least-used in
    let put-document = c.put_document in
    record {
      events = _;
      attributes = _;
      events' = _;
      attributes' = _;
      wrote = said put-document.ensures (used-items args.records.now args.text.now least.result least2.result least.ensures least2.ensures);
    }
