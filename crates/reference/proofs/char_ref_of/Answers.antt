use mathlib.Core.Path.{sym, ap, ◌∙◌}
use native.Mathlib.Omega.{arith}
use Rattle.reference.specs.Reference.{named_answer}
use Rattle.reference.proofs.Naming.{char-code, char-short, char-other, char-not, char-some, char-none}
use Rattle.reference.proofs.char_ref_of.Goals as goal

pub returns-then-name-lt2 : goal.returns-then-name-lt2
returns-then-name-lt2 c = char-short c.args.name.now c.if-name-lt2.true

pub returns-then-name-ne35 : goal.returns-then-name-ne35
returns-then-name-ne35 c = char-other c.args.name.now c.if-name-ne35.true

pub returns-in_err-v : goal.returns-in_err-v
returns-in_err-v c = ap named_answer c.from_residual.ensures ∙ char-not c.args.name.now c.in_err-v.ensures

pub overflow_cast-result : goal.overflow_cast-result
overflow_cast-result c = let h = char-code _ (sym c.is_xml_char.ensures ∙ c.if-is_xml_char.true) in omega arith

pub returns-then-is_xml_char : goal.returns-then-is_xml_char
returns-then-is_xml_char c = char-some c.args.name.now _ c.in_ok-v.ensures c.if-name-ne35.false (sym c.is_xml_char.ensures ∙ c.if-is_xml_char.true)

pub returns : goal.returns
returns c = char-none c.args.name.now _ c.in_ok-v.ensures c.if-name-ne35.false (sym c.is_xml_char.ensures ∙ c.if-is_xml_char.false)
