use mathlib.Core.Path.{◌≡◌, ap, ◌∙◌}
use borrow.Author.Rules.{rules}
use lib.ListN.{length}
use Rattle.explain_sentence.specs.of_area.Area.{zeros}
use Rattle.explain.proofs.Answered.{whole-line, short-line}
use Rattle.explain.proofs.explain.Goals as goal

pub returns-in_default : goal.returns-in_default
returns-in_default c =
    let clear = c.clear in
    let put-line = c.put_line-put in
    let a = c.args in
    let l : length put-line.new.out ≡ length a.out.now = search rules in
    let p = rw c.in_default.is at put-line.ensures in
    let both = short-line a.events.now a.attributes.now a.source.now a.refusal a.lent (length a.out.now)
    c.refuse.ensures clear.ensures p (c.clear-in_default.ensures ∙ ap zeros l) in record { value = both.0; out_after = both.1 }

pub returns : goal.returns
returns c =
    let clear = c.clear in
    let put-line = c.put_line-put in
    let a = c.args in
    let p = rw c.in-Some.is at put-line.ensures in
    let both = whole-line a.events.now a.attributes.now a.source.now a.refusal a.lent (length a.out.now) c.no_refusal.ensures clear.ensures p in record { value = both.0; out_after = both.1 }
