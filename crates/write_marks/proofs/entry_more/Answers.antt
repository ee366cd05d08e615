use Rattle.write_marks.proofs.Spelling.{entry-shut, entry-goes, level-below}
use mathlib.Core.Path.{sym, ◌∙◌}
use Rattle.write_marks.proofs.entry_more.Goals as goal

pub returns-then-is_too_deep : goal.returns-then-is_too_deep
returns-then-is_too_deep c =
    let args = c.args in
    c.shut.ensures ∙ entry-shut args.k args.to args.kind (sym c.is_too_deep.ensures ∙ c.if-is_too_deep.true)

pub level_behind-level-requires : goal.level_behind-level-requires
level_behind-level-requires c =
    let args = c.args in
    λ e. level-below args.kind args.k.level (sym c.is_too_deep.ensures ∙ c.if-is_too_deep.false) e

pub returns-in_default : goal.returns-in_default
returns-in_default c =
    let is-too-deep = c.is_too_deep in
    let if1 = c.if-is_too_deep in
    let args = c.args in
    let shallow = sym is-too-deep.ensures ∙ if1.false in
    entry-goes args.k args.to args.kind shallow _ _ c.form_behind-form.ensures c.level_behind-level.ensures _ c.in_default.is

pub returns : goal.returns
returns c =
    let is-too-deep = c.is_too_deep in
    let if1 = c.if-is_too_deep in
    let form-behind = c.form_behind-form in
    let args = c.args in
    let shallow = sym is-too-deep.ensures ∙ if1.false in
    entry-goes args.k args.to args.kind shallow _ _ form-behind.ensures c.level_behind-level.ensures _ c.in-Some.is
