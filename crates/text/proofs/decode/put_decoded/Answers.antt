use mathlib.Core.Path.{sym, ◌∙◌}
use Rattle.text.proofs.Checking.{decoded-good, decoded-not-utf8, decoded-bad}
use Rattle.text.proofs.Unchanged.{put-plain}
use Rattle.text.proofs.decode.put_decoded.Goals as goal

pub returns-then-is_plain : goal.returns-then-is_plain
returns-then-is_plain c =
    let is_plain = c.is_plain in
    let if1 = c.if-is_plain in
    let a = c.args in
    let w = c.copy_into in
    let k = c.kept_of in
    let both = put-plain a.clean a.out.now a.s.now w.new.out w.result k.result (sym is_plain.ensures ∙ if1.true) w.ensures.result_value k.ensures w.ensures.out_after in record { result_value = both.0; out_after = both.1 }

pub returns-then-not-is_utf8 : goal.returns-then-not-is_utf8
returns-then-not-is_utf8 c = let a = c.args in
    let both = decoded-not-utf8 a.clean a.out.now a.s.now (sym c.is_utf8.ensures ∙ c.if-not-is_utf8.true) in record { result_value = both.0; out_after = both.1 }

pub returns-then-not-refs_ok : goal.returns-then-not-refs_ok
returns-then-not-refs_ok c = let a = c.args in
    let both = decoded-bad a.clean a.out.now a.s.now (sym c.is_utf8.ensures ∙ c.if-not-is_utf8.false) (sym c.refs_ok.ensures ∙ c.if-not-refs_ok.true) in
    record { result_value = both.0; out_after = both.1 }

pub returns : goal.returns
returns c =
    let a = c.args in
    let w = c.write_decoded in
    let k = c.kept_of-2 in
    let both = decoded-good a.clean a.out.now a.s.now w.new.out w.result k.result (sym c.is_utf8.ensures ∙ c.if-not-is_utf8.false)
    (sym c.refs_ok.ensures ∙ c.if-not-refs_ok.false) w.ensures.result_value k.ensures w.ensures.out_after in record { result_value = both.0; out_after = both.1 }
