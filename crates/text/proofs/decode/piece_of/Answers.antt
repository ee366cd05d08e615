use mathlib.Core.Path.{refl, sym, ap, ◌∙◌}
use native.Mathlib.Omega.{arith}
use Rattle.utf8_chars.proofs.of_area.Parts.{rest_part}
use Rattle.utf8_chars.proofs.of_utf8.Encoding.{coded-front}
use Rattle.reference.proofs.Behind.{ref-found}
use Rattle.reference.specs.Reference.{ref_at}
use Rattle.text.specs.Decode.{cleaned}
use Rattle.text.proofs.Pieces.{piece-none, piece_byte, piece-bad, piece-char, pieced_on, ref-room}
use Rattle.text.proofs.Cleaning.{cleaned-encode}
use Rattle.text.proofs.decode.piece_of.Goals as goal

pub returns-then-s-eq0 : goal.returns-then-s-eq0
returns-then-s-eq0 c = piece-none c.args.s.now c.args.clean c.if-s-eq0.true _ refl refl

pub returns-then-b-ne38 : goal.returns-then-b-ne38
returns-then-b-ne38 c =
    let a = c.args in
    let q = piece_byte a.s.now (omega (arith, c.if-s-eq0.false)) c.if-b-ne38.true in
    pieced_on c.byte_piece.ensures (sym (ap (cleaned a.clean) q.0)) (sym q.1)

pub returns-in_default : goal.returns-in_default
returns-in_default c =
    let if1 = c.if-s-eq0 in
    let if2 = c.if-b-ne38 in
    let a = c.args in
    let e = sym (ap ref_at (rest_part a.s.now 1)) ∙ sym c.ref_at.ensures ∙ c.in_default.is in
    let q = piece-bad a.s.now (omega (arith, if1.false)) if2.false e in
    pieced_on c.byte_piece-in_default.ensures (sym (ap (cleaned a.clean) q.0)) (sym q.1)

pub overflow_add-result : goal.overflow_add-result
overflow_add-result c =
    let if1 = c.if-s-eq0 in
    let ref-at = c.ref_at in
    let a = c.args in
    let e = sym (ap ref_at (rest_part a.s.now 1)) ∙ sym ref-at.ensures ∙ c.in-Some.is in
    omega (arith, ref-room a.s.now (omega (arith, if1.false)) c.in-Some.c c.in-Some.w e)

pub returns : goal.returns
returns c =
    let if1 = c.if-s-eq0 in
    let if2 = c.if-b-ne38 in
    let ref-at = c.ref_at in
    let a = c.args in
    let e = sym (ap ref_at (rest_part a.s.now 1)) ∙ sym ref-at.ensures ∙ c.in-Some.is in
    let q = piece-char a.s.now (omega (arith, if1.false)) c.in-Some.c c.in-Some.w if2.false e in
    let d = coded-front c.in-Some.c c.encode_of-e.ensures in
    record {
      fits = omega (arith, d.0, d.1);
      front = d.2 ∙ sym (ap (cleaned a.clean) q.0 ∙ cleaned-encode a.clean c.in-Some.c (ref-found _ c.in-Some.c c.in-Some.w e).char);
      takes = sym q.1;
    }
