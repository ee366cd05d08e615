use Rattle.merger.proofs.Known.{not_first, not-second, whole-merge, cleared, cleared-zero}
use lib.ListN.{length}
use mathlib.Core.Path.{sym, ◌∙◌}
use Rattle.merger.proofs.merge.Goals as goal

pub returns-then-not-is_layout : goal.returns-then-not-is_layout
returns-then-not-is_layout c =
    let clear-tree = c.clear_tree in
    let s = c.args in
    let both = not_first s.first.now s.first_text.now s.second.now s.second_text.now (length s.records.now) (length s.text.now)
    (sym c.is_layout.ensures ∙ c.if-not-is_layout.true) c.refuse.ensures clear-tree.ensures.words_after clear-tree.ensures.bytes_after in record { value = both.0; records_after = both.1.0; text_after = both.1.1 }

pub returns-then-not-is_layout-2 : goal.returns-then-not-is_layout-2
returns-then-not-is_layout-2 c =
    let clear-tree = c.clear_tree in
    let is-layout = c.is_layout in
    let s = c.args in
    let both = not-second s.first.now s.first_text.now s.second.now s.second_text.now (length s.records.now)
    (length s.text.now) (sym is-layout.ensures ∙ c.if-not-is_layout.false)
    (sym c.is_layout-2.ensures ∙ c.if-not-is_layout-2.true) c.refuse-then-not-is_layout-2.ensures clear-tree.ensures.words_after clear-tree.ensures.bytes_after in record { value = both.0; records_after = both.1.0; text_after = both.1.1 }

pub merge_known-step-requires : goal.merge_known-step-requires
merge_known-step-requires c =
    let clear-tree = c.clear_tree in
    let is-layout = c.is_layout in
    let if1 = c.if-not-is_layout in
    let s = c.args in (
      sym is-layout.ensures ∙ if1.false,
      sym c.is_layout-2.ensures ∙ c.if-not-is_layout-2.false,
      cleared-zero (length s.records.now) clear-tree.ensures.words_after,
      cleared-zero (length s.text.now) clear-tree.ensures.bytes_after,
    )

pub returns : goal.returns
returns c =
    let clear-tree = c.clear_tree in
    let merge-known = c.merge_known-step in
    let s = c.args in
    let both = whole-merge s.first.now s.first_text.now s.second.now s.second_text.now (length s.records.now) (length s.text.now)
    (cleared (length s.records.now) clear-tree.ensures.words_after) (cleared (length s.text.now) clear-tree.ensures.bytes_after)
    c.merging_of.ensures merge-known.ensures.result_value merge-known.ensures.records_after merge-known.ensures.text_after in record { value = both.0; records_after = both.1.0; text_after = both.1.1 }
