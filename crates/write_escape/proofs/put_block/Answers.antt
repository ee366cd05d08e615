use mathlib.Core.Path.{sym, ◌∙◌}
use Rattle.write_escape.proofs.Blocks.{plain-escaped}
use Rattle.write_escape.proofs.put_block.Goals as goal

pub returns-then-is_plain_text : goal.returns-then-is_plain_text
returns-then-is_plain_text c =
    let args = c.args in
    let is_plain = c.is_plain_text in
    let if1 = c.if-is_plain_text in
    rw (plain-escaped args.s.now (sym is_plain.ensures ∙ if1.true)) (c.copy_into.ensures)
