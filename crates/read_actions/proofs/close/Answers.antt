use mathlib.Core.Path.{refl, sym, ap, ◌∙◌}
use Rattle.read_texts.specs.of_tree_status.Status.{ruled}
use Rattle.read_texts.specs.of_read_place.inside.Coded.{marks_of}
use Rattle.read_actions.proofs.Acting.{closed-outer, closed-case, closed-not, closed-status}
use Rattle.read_actions.proofs.close.Goals as goal

pub returns-then-is_ruled : goal.returns-then-is_ruled
returns-then-is_ruled c =
    let args = c.args in
    λ rooms p s k j xs attributes source pa kt lo hd li sz. rw c.in-Case.is (closed-case p k (marks_of args.marks) rooms j
    xs args.content s (ap ruled kt ∙ sym c.is_ruled.ensures ∙ c.if-is_ruled.true) hd (rw c.in-Case.is at li))

pub close_status-requires : goal.close_status-requires
close_status-requires c =
    let pre = c.requires in
    record { i_in_bounds = (rw c.in-Status.is at pre.marks_in_bounds); fill_in_bounds = pre.fill_in_bounds; text_len_bound = pre.text_len_bound; description_in_bounds = pre.description_in_bounds }

pub returns-in-Top : goal.returns-in-Top
returns-in-Top c =
    let args = c.args in
    λ rooms p s k j xs attributes source pa kt lo hd li sz. closed-outer p k (marks_of args.marks) rooms j xs args.content s c.in-Top.is hd li

pub returns-else-is_ruled : goal.returns-else-is_ruled
returns-else-is_ruled c =
    let args = c.args in
    λ rooms p s k j xs attributes source pa kt lo hd li sz. rw c.in-Case.is
    (closed-not p k (marks_of args.marks) rooms j xs args.content s (ap ruled kt ∙ sym c.is_ruled.ensures ∙ c.if-is_ruled.false) pa c.refused.ensures)

pub returns-in-Status : goal.returns-in-Status
returns-in-Status c =
    let args = c.args in
    let close-status = c.close_status in
    λ rooms p s k j xs attributes source pa kt lo hd li sz. rw c.in-Status.is (closed-status p k (marks_of args.marks) rooms j xs
    args.content s (close-status.ensures rooms p s (marks_of args.marks) attributes source refl pa lo hd (rw c.in-Status.is at li) sz))
