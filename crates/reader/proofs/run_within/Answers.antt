use Prim.Native.Nat.{◌*◌}
use mathlib.Core.Path.{sym}
use lib.Seq.{length-take-le}
use Rattle.reader.proofs.Areas.{part-zeros}
use Rattle.reader.proofs.Whole.{cut-words, cut-text, cut-scratch, cut-lent, cut-ran}
use Rattle.reader.proofs.run_within.Goals as goal

pub slice_bounds-run_events-end-2 : goal.slice_bounds-run_events-end-2
slice_bounds-run_events-end-2 c = let a = c.args in
    let k = c.least-words in
    let n = c.least-bytes in
    let m = c.least-room in
    sym (length-take-le _ _ (cut-words a.records.now a.text.now a.scratch.now k.result n.result m.result k.ensures n.ensures m.ensures))

pub slice_bounds-run_events-end-4 : goal.slice_bounds-run_events-end-4
slice_bounds-run_events-end-4 c = let a = c.args in
    let k = c.least-words in
    let n = c.least-bytes in
    let m = c.least-room in
    sym (length-take-le _ _ (cut-text a.records.now a.text.now a.scratch.now k.result n.result m.result k.ensures n.ensures m.ensures))

pub slice_bounds-run_events-end-6 : goal.slice_bounds-run_events-end-6
slice_bounds-run_events-end-6 c = let a = c.args in
    let k = c.least-words in
    let n = c.least-bytes in
    let m = c.least-room in
    sym (length-take-le _ _ (cut-scratch a.records.now a.text.now a.scratch.now k.result n.result m.result k.ensures n.ensures m.ensures))

pub run_events-requires : goal.run_events-requires
run_events-requires c =
    let start = c in
    let a = start.args in
    let k = c.least-words in
    let n = c.least-bytes in
    let m = c.least-room in
    let p = start.requires in record {
      source_value = p.source_value;
      lent = cut-lent a.records.now a.text.now a.scratch.now k.result n.result m.result k.ensures n.ensures m.ensures;
      records_value = part-zeros a.records.now p.records_value (k.result * 32)
          (cut-words a.records.now a.text.now a.scratch.now k.result n.result m.result k.ensures n.ensures m.ensures);
      text_value = part-zeros a.text.now p.text_value n.result (cut-text a.records.now a.text.now a.scratch.now k.result n.result m.result k.ensures n.ensures m.ensures);
    }

pub returns : goal.returns
returns c =
    let before-18 = c in
    let start = before-18 in
    let a = start.args in
    let k = c.least-words in
    let n = c.least-bytes in
    let m = c.least-room in
    let r = c.run_events in
    cut-ran a.records.now a.text.now a.scratch.now k.result n.result m.result k.ensures n.ensures
    m.ensures start.requires.records_value start.requires.text_value _ r.new.records r.new.text r.result r.ensures
