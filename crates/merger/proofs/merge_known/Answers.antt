use Rattle.merger.proofs.Known.{known-sized, known-zero, known}
use Rattle.clearing.specs.of_area.Limits.{most_words, most_bytes}
use lib.Seq.{length-take-le}
use lib.ListN.{length}
use native.Mathlib.Omega.{arith}
use native.Mathlib.Nat.{min-le_left}
use mathlib.Core.Path.{sym}
use Rattle.merger.proofs.merge_known.Goals as goal

pub slice_bounds-merge_used-end : goal.slice_bounds-merge_used-end
slice_bounds-merge_used-end c =
    let least = c.least-a in
    let s = c.args in
    sym (length-take-le least.result s.first.now (omega (arith, least.ensures, min-le_left (length s.first.now) most_words)))

pub slice_bounds-merge_used-end-2 : goal.slice_bounds-merge_used-end-2
slice_bounds-merge_used-end-2 c =
    let least2 = c.least-s in
    let s = c.args in
    sym (length-take-le least2.result s.first_text.now (omega (arith, least2.ensures, min-le_left (length s.first_text.now) most_bytes)))

pub slice_bounds-merge_used-end-3 : goal.slice_bounds-merge_used-end-3
slice_bounds-merge_used-end-3 c =
    let least3 = c.least-b in
    let s = c.args in
    sym (length-take-le least3.result s.second.now (omega (arith, least3.ensures, min-le_left (length s.second.now) most_words)))

pub slice_bounds-merge_used-end-4 : goal.slice_bounds-merge_used-end-4
slice_bounds-merge_used-end-4 c =
    let least4 = c.least-t in
    let s = c.args in
    sym (length-take-le least4.result s.second_text.now (omega (arith, least4.ensures, min-le_left (length s.second_text.now) most_bytes)))

pub slice_bounds-merge_used-end-5 : goal.slice_bounds-merge_used-end-5
slice_bounds-merge_used-end-5 c =
    let least5 = c.least-words in
    let s = c.args in
    omega (arith, least5.ensures, min-le_left (length s.records.now) most_words)

pub slice_bounds-merge_used-end-6 : goal.slice_bounds-merge_used-end-6
slice_bounds-merge_used-end-6 c =
    let least5 = c.least-words in
    let s = c.args in
    sym (length-take-le least5.result s.records.now (omega (arith, least5.ensures, min-le_left (length s.records.now) most_words)))

pub slice_bounds-merge_used-end-7 : goal.slice_bounds-merge_used-end-7
slice_bounds-merge_used-end-7 c =
    let least6 = c.least-bytes in
    let s = c.args in
    omega (arith, least6.ensures, min-le_left (length s.text.now) most_bytes)

pub slice_bounds-merge_used-end-8 : goal.slice_bounds-merge_used-end-8
slice_bounds-merge_used-end-8 c =
    let least6 = c.least-bytes in
    let s = c.args in
    sym (length-take-le least6.result s.text.now (omega (arith, least6.ensures, min-le_left (length s.text.now) most_bytes)))

pub merge_used-requires : goal.merge_used-requires
merge_used-requires c =
    let start = c in
    let least = c.least-a in
    let least2 = c.least-s in
    let least3 = c.least-b in
    let least4 = c.least-t in
    let least5 = c.least-words in
    let least6 = c.least-bytes in
    let s = start.args in (
      known-sized s.first.now s.first_text.now s.second.now s.second_text.now s.records.now s.text.now least.ensures least2.ensures
          least3.ensures least4.ensures least5.ensures least6.ensures start.requires.0 start.requires.1 start.requires.2 start.requires.3,
      known-zero s.first.now s.first_text.now s.second.now s.second_text.now s.records.now s.text.now least.ensures least2.ensures
          least3.ensures least4.ensures least5.ensures least6.ensures start.requires.0 start.requires.1 start.requires.2 start.requires.3,
    )

pub returns : goal.returns
returns c =
    let at_least_lem = c in
    let start = at_least_lem in
    let least2 = c.least-s in
    let least3 = c.least-b in
    let least4 = c.least-t in
    let least5 = c.least-words in
    let least6 = c.least-bytes in
    let merge-used = c.merge_used in
    let s = start.args in
    let both = known s.first.now s.first_text.now s.second.now s.second_text.now s.records.now s.text.now at_least_lem.least-a.ensures
    least2.ensures least3.ensures least4.ensures least5.ensures least6.ensures start.requires.0 start.requires.1 start.requires.2 start.requires.3
    merge-used.auto.records merge-used.auto.text merge-used.ensures.result_value merge-used.ensures.records_after merge-used.ensures.text_after in record { result_value = both.0; records_after = both.1.0; text_after = both.1.1 }
