use mathlib.Core.Path.{◌≡◌, sym, ap, ◌∙◌}
use native.Mathlib.Nat.{min-le_left}
use native.Mathlib.Omega.{arith}
use lib.Seq.{length-take-le}
use lib.ListN.{length}
use Rattle.tree_layout.specs.of_area.Limits.{most_words, most_bytes}
use Rattle.tree_layout.specs.of_area.Area.{zeros}
use Rattle.list_suites.proofs.of_list_text.Putting.{other}
use Rattle.list_suites.proofs.of_list_text.Answering.{whole-listing, short-listing}
use Rattle.lister.proofs.Used.{used-shown}
use Rattle.lister.proofs.Answered.{refused-whole, listed-whole}
use borrow.Author.Rules.{rules}
use Rattle.lister.proofs.list_known.Goals as goal

pub slice_bounds-put_report-end : goal.slice_bounds-put_report-end
slice_bounds-put_report-end c =
    let args = c.args in
    sym (length-take-le c.least-bytes.result args.text.now (omega (arith, c.least-bytes.ensures, min-le_left (length args.text.now) most_bytes)))

pub slice_bounds-put_report-end-2 : goal.slice_bounds-put_report-end-2
slice_bounds-put_report-end-2 c =
    let args = c.args in
    let least = c.least-limit in
    sym (length-take-le least.result args.records.now (omega (arith, least.ensures, min-le_left (length args.records.now) most_words)))

pub returns-in_default : goal.returns-in_default
returns-in_default c =
    let args =
    c.args in
    let clear = c.clear in
    let least = c.least-limit in
    let least2 = c.least-bytes in
    let put-report = c.put_report-put in
    let words = args.records.now in
    let text = args.text.now in
    let n = length args.out.now in
    let y = c.requires in
    let f = used-shown words text least.result least2.result least.ensures least2.ensures in
    let p = rw c.in_default.is at (other put-report.ensures f) in
    let l : length put-report.new.out ≡ n = search rules in
    let both = refused-whole words text n c.refuse.ensures (short-listing words text n y clear.ensures p (c.clear-in_default.ensures ∙ ap zeros l)) in record { value = both.0; out_after = both.1 }

pub returns : goal.returns
returns c =
    let args = c.args in
    let least = c.least-limit in
    let least2 = c.least-bytes in
    let put-report = c.put_report-put in
    let words = args.records.now in
    let text = args.text.now in
    let n = length args.out.now in
    let y = c.requires in
    let f = used-shown words text least.result least2.result least.ensures least2.ensures in
    let p = rw c.in-Some.is at (other put-report.ensures f) in
    let both = listed-whole words text n c.no_refusal.ensures
    (whole-listing words text n y _ c.clear.ensures p) in record { value = both.0; out_after = both.1 }
