use Rattle.merger.proofs.Steps.{enough, none-put, all-put}
use borrow.Author.Rules.{rules}
use mathlib.Core.Path.{sym}
use Rattle.merger.proofs.place.Goals as goal

pub room_for-requires : goal.room_for-requires
room_for-requires c =
    let pre = c.requires in
    (pre.3.first, pre.3.second)

pub returns-in_err-room_for : goal.returns-in_err-room_for
returns-in_err-room_for c =
    let start = c in
    let s = start.args in
    let both = none-put s.first.now s.first_text.now s.second.now s.second_text.now s.records.now
    s.text.now start.requires.4 c.in_err-room_for.ensures in
    record { result_value = search rules; records_after = both.1.0; text_after = both.1.1 }

pub put_tree-requires : goal.put_tree-requires
put_tree-requires c =
    let start = c in
    let s = start.args in
    let r = c.in_ok-room_for.ensures in
    (start.requires.0, enough s.first.now s.first_text.now s.second.now s.second_text.now s.records.now s.text.now (sym r) start.requires.3 start.requires.4.most)

pub returns : goal.returns
returns c =
    let start = c in
    let put-tree = c.put_tree in
    let s = start.args in
    let r = c.in_ok-room_for.ensures in
    let both = all-put s.first.now s.first_text.now s.second.now s.second_text.now s.records.now s.text.now start.requires.4 r
    (enough s.first.now s.first_text.now s.second.now s.second_text.now s.records.now s.text.now (sym r) start.requires.3 start.requires.4.most)
    start.requires.1 start.requires.2 put-tree.ensures.records_after put-tree.ensures.text_after in record { result_value = both.0; records_after = both.1.0; text_after = both.1.1 }
