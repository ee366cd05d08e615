use Rattle.document_printing.proofs.Documents.{too_long, tokenized}
use Rattle.write_printing.proofs.Printing.{same_text}
use lib.ListN.{length, length-replicate}
use mathlib.Core.Path.{sym, ◌∙◌}
use Prim.Native.Nat.{ℕ}
use Rattle.document_printing.proofs.print_document.Goals as goal

pub refuse-requires : goal.refuse-requires
refuse-requires c = tt

pub returns-then-source-gt-BUFFER : goal.returns-then-source-gt-BUFFER
returns-then-source-gt-BUFFER c =
    let a = c.args in
    let both = same_text (length a.out.now) (too_long (length a.out.now) a.source.now c.if-source-gt-BUFFER.true) (c.refuse.ensures.area, c.refuse.ensures.count) in record { out = both.0; count = both.1 }

pub slice_bounds-tokenize-end : goal.slice_bounds-tokenize-end
slice_bounds-tokenize-end c = sym (length-replicate {A = ℕ} 16384 0)

pub slice_bounds-tokenize-end-2 : goal.slice_bounds-tokenize-end-2
slice_bounds-tokenize-end-2 c = sym (length-replicate {A = ℕ} 16384 0)

pub tokenize-told-requires : goal.tokenize-told-requires
tokenize-told-requires c = tt

pub slice_bounds-print_tokens-end : goal.slice_bounds-print_tokens-end
slice_bounds-print_tokens-end c = let i = c.tokenize-told in sym (i.auto.events ∙ length-replicate {A = ℕ} 16384 0)

pub slice_bounds-print_tokens-end-2 : goal.slice_bounds-print_tokens-end-2
slice_bounds-print_tokens-end-2 c = let i = c.tokenize-told in sym (i.auto.attributes ∙ length-replicate {A = ℕ} 16384 0)

pub print_tokens-requires : goal.print_tokens-requires
print_tokens-requires c = tt

pub returns : goal.returns
returns c =
    let i = c.tokenize-told in
    let if1 = c.if-source-gt-BUFFER in
    let a = c.args in
    let both = same_text (length a.out.now)
    (tokenized (length a.out.now) a.source.now _ _ _ (length-replicate {A = ℕ} 16384 0) (length-replicate {A = ℕ} 16384 0) i.ensures if1.false)
    (c.print_tokens.ensures.out, c.print_tokens.ensures.count) in record { out = both.0; count = both.1 }
