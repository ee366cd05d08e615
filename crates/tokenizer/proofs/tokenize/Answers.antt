use Rattle.xml_skip.proofs.of_xml_records.Loop.{too_long, token-read, token-refused}
use lib.ListN.{replicate}
use mathlib.Core.Path.{sym, ◌∙◌, ap}
use Prim.Native.Nat.{ℕ}
use Rattle.tokenizer.proofs.tokenize.Goals as goal

pub returns-then-source-gt-BYTES : goal.returns-then-source-gt-BYTES
returns-then-source-gt-BYTES c =
    let args = c.args in
    let clear-words = c.clear_words in
    rw (clear-words.ensures, c.clear_words-2.ensures) (too_long args.source.now _ _ c.if-source-gt-BYTES.true)

pub run-a-requires : goal.run-a-requires
run-a-requires c =
    let clear-words = c.clear_words in
    let clear-words2 = c.clear_words-2 in record { source_len_bound = c.if-source-gt-BYTES.false; events_value = (clear-words.ensures ∙ ap (λ (k : ℕ). replicate k 0) (sym clear-words.auto.words), clear-words2.ensures ∙ ap (λ (k : ℕ). replicate k 0) (sym clear-words2.auto.words)) }

pub returns-in-Table : goal.returns-in-Table
returns-in-Table c =
    let clear-words = c.clear_words in
    let clear-words2 = c.clear_words-2 in
    let run = c.run-a in
    token-read _ _ _ _ _ _ (rw (clear-words.auto.words, clear-words2.auto.words) at run.ensures) _ _ c.in-Table.is

pub returns-in-Refused : goal.returns-in-Refused
returns-in-Refused c =
    let at-run = c in
    let at-clear-words2 = at-run in
    let clear-words = at-clear-words2.clear_words in
    let clear-words3 = c.clear_words-in-Refused in
    rw (clear-words3.ensures, c.clear_words-in-Refused-2.ensures)
    (token-refused _ _ _ _ _ _ (rw (clear-words.auto.words, at-clear-words2.clear_words-2.auto.words) at at-run.run-a.ensures) _ _ c.in-Refused.is)
