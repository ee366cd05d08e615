use native.Mathlib.Omega.{arith}
use mathlib.Core.Path.{refl}
use Rattle.read_texts.proofs.Keeping.{kept-answer, kept-fits, kept_back, words-taken, words-dropped}
use Rattle.read_texts.proofs.keep_text.Goals as goal

pub overflow_cast-n : goal.overflow_cast-n
overflow_cast-n c =
    let a = c.args in
    let h = kept-fits a.text.now a.fill a.gathered.now c.trim-clean.result.now c.trim-clean.ensures c.requires.fill_in_bounds c.in_ok-n.ensures.result_value in
    let l = c.requires.text_len_bound in omega arith

pub returns-then-taken : goal.returns-then-taken
returns-then-taken c =
    let a = c.args in
    let t = c.trim-clean in
    let n = c.in_ok-n in record {
      result_value = kept-answer a.text.now a.fill a.gathered.now t.result.now t.ensures n.ensures.result_value;
      text_after = kept_back a.text.now a.fill a.gathered.now t.result.now t.ensures n.ensures.out_after;
      records_after = words-taken a.i a.o a.k a.fill n.n a.records.now c.if-taken.true c.put_text.ensures;
    }

pub returns-else-taken : goal.returns-else-taken
returns-else-taken c =
    let a = c.args in
    let t = c.trim-clean in
    let n = c.in_ok-n in record {
      result_value = kept-answer a.text.now a.fill a.gathered.now t.result.now t.ensures n.ensures.result_value;
      text_after = kept_back a.text.now a.fill a.gathered.now t.result.now t.ensures n.ensures.out_after;
      records_after = words-dropped a.i a.o a.k a.fill n.n a.records.now c.if-taken.false;
    }

pub returns-in_err-n : goal.returns-in_err-n
returns-in_err-n c =
    let a = c.args in
    let t = c.trim-clean in
    let e = c.in_err-n.ensures in rw c.from_residual.ensures (record {
      result_value = kept-answer a.text.now a.fill a.gathered.now t.result.now t.ensures e.result_value;
      text_after = kept_back a.text.now a.fill a.gathered.now t.result.now t.ensures e.out_after;
      records_after = refl;
    })
