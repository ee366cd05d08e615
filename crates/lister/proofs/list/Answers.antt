use mathlib.Core.Path.{sym, ◌∙◌}
use lib.ListN.{length}
use Rattle.list_suites.proofs.of_list_text.Answering.{no-listing}
use Rattle.lister.proofs.Answered.{refused-whole}
use Rattle.lister.proofs.list.Goals as goal

pub returns-then-not-is_layout : goal.returns-then-not-is_layout
returns-then-not-is_layout c =
    let args = c.args in
    let clear = c.clear in
    let words = args.records.now in
    let text = args.text.now in
    let n = length args.out.now in
    let both = refused-whole words text n c.refuse.ensures
    (no-listing words text n (sym c.is_layout.ensures ∙ c.if-not-is_layout.true) clear.ensures) in record { value = both.0; out_after = both.1 }

pub list_known-requires : goal.list_known-requires
list_known-requires c = sym c.is_layout.ensures ∙ c.if-not-is_layout.false

pub returns : goal.returns
returns c = c.list_known.ensures
