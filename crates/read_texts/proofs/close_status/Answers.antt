use lib.ListN.{take, length}
use lib.Seq.{length-take-le}
use native.Mathlib.Omega.{arith}
use mathlib.Core.Path.{sym}
use Rattle.read_content.specs.Content.{cleaned}
use Rattle.read_texts.proofs.Keeping.{end_fits, none-described, some-described}
use Rattle.read_texts.proofs.close_status.Goals as goal

pub slice_bounds-description-end : goal.slice_bounds-description-end
slice_bounds-description-end c =
    let start = c in
    sym (length-take-le start.args.content.description start.args.scratch.now start.requires.description_in_bounds)

pub returns-then-trim-eq0 : goal.returns-then-trim-eq0
returns-then-trim-eq0 c = λ rooms p s m attributes source mi pa lo hd li sz. none-described hd sz p pa m lo li c.trim.ensures c.if-trim-eq0.true c.kept_text.ensures

pub kept_text-requires-2 : goal.kept_text-requires-2
kept_text-requires-2 c =
    let args = c.args in
    let pre = c.requires in
    let keep-text = c.keep_text-stored in
    let h = end_fits keep-text.result (length args.text.now) args.content.fill (cleaned (take args.content.description args.scratch.now)) pre.fill_in_bounds keep-text.ensures.result_value in
    let l = pre.text_len_bound in omega arith

pub returns : goal.returns
returns c =
    let args = c.args in
    let trim = c.trim in
    let if1 = c.if-trim-eq0 in
    let keep-text = c.keep_text-stored in
    λ rooms p s m attributes source mi pa lo hd li sz. some-described hd sz p pa m args.i mi lo li trim.ensures if1.false
    keep-text.result keep-text.ensures.result_value keep-text.ensures.records_after keep-text.ensures.text_after c.kept_text-2.ensures
