use Rattle.text.specs.of_refusal.declared.Cause.TheVariants as cause
use Rattle.text_pieces.specs.Gather.{reference_text}
use Rattle.text.proofs.Putting.{first-fails, second-fails, kept-both}
use Rattle.text.specs.of_reference.Reference.{named_answer, is_named, char_of, unnamed}
use Rattle.text.proofs.of_utf8.Encoding.{coded-front}
use Rattle.text.specs.of_utf8.Characters.{encode}
use Rattle.text.specs.of_utf8.Utf8.{utf8}
use Rattle.text.proofs.of_area.Answers.{given, refused}
use Rattle.text.specs.of_area.Answer.{refuses}
use Rattle.text.specs.of_area.Area.{placing, laid}
use lib.Seq.{length-take-le}
use lib.ListN.{length}
use native.Mathlib.Omega.{arith}
use mathlib.Core.Path.{sym, ap, ◌∙◌}
use mathlib.Core.List.{List}
use Prim.Native.Nat.{ℕ}
use Rattle.text_pieces.proofs.gather_reference.Goals as goal

pub returns-then-not-is_utf8 : goal.returns-then-not-is_utf8
returns-then-not-is_utf8 c = let a = c.args in
    let both = first-fails (utf8 a.name.now) (is_named a.name.now) _ _ (refuses cause.NotUtf8) a.out.now _ (sym c.is_utf8.ensures ∙ c.if-not-is_utf8.true) in record { result_value = both.0; out_after = both.1 }

pub returns-in_default : goal.returns-in_default
returns-in_default c =
    let is-utf8 = c.is_utf8 in
    let if1 = c.if-not-is_utf8 in
    let a = c.args in
    let n = a.name.now in
    let e = refused (is_named n) (char_of n) cause.BadReference cause.BadReference (sym (ap named_answer c.in_default.is) ∙ c.named_by.ensures) in
    let f = second-fails (utf8 n) (is_named n) (placing cause.ScratchFull (length a.out.now) (reference_text n)) (refuses (unnamed n))
    (refuses cause.NotUtf8) a.out.now (laid a.out.now (reference_text n)) (sym is-utf8.ensures ∙ if1.false) e in
    record { result_value = c.unnamed_by.ensures ∙ f.0; out_after = f.1 }

pub shared_ref_as_front-copy_into : goal.shared_ref_as_front-copy_into
shared_ref_as_front-copy_into c =
    let d = coded-front c.in-Some.c c.encode_of-e.ensures in omega (arith, d.0, d.1)

pub slice_bounds-copy_into-end : goal.slice_bounds-copy_into-end
slice_bounds-copy_into-end c =
    let d = coded-front c.in-Some.c c.encode_of-e.ensures in
    sym (length-take-le c.encode_of-e.result.n c.encode_of-e.result.bytes (omega (arith, d.0, d.1)))

pub returns : goal.returns
returns c =
    let is-utf8 = c.is_utf8 in
    let if1 = c.if-not-is_utf8 in
    let Named-by = c.named_by in
    let encode-of = c.encode_of-e in
    let a = c.args in
    let n = a.name.now in
    let p = c.copy_into in
    let k = c.kept_of in
    let d = coded-front c.in-Some.c encode-of.ensures in
    let e = given (is_named n) (char_of n) cause.BadReference c.in-Some.c (sym (ap named_answer c.in-Some.is) ∙ Named-by.ensures) in
    let f = d.2 ∙ ap encode e.1 in
    let both = kept-both cause.ScratchFull cause.OutputFull a.out.now p.new.out (reference_text n) p.result k.result
    (p.ensures.result_value ∙ ap (λ (l : List ℕ). placing cause.OutputFull (length a.out.now) l) f) k.ensures (utf8 n) (is_named n) (refuses (unnamed n))
    (refuses cause.NotUtf8) (sym is-utf8.ensures ∙ if1.false) e.0 (p.ensures.out_after ∙ ap (λ (l : List ℕ). laid a.out.now l) f) in record { result_value = both.0; out_after = both.1 }
