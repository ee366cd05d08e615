use Rattle.write_words.proofs.Behind.{table-parts}
use Rattle.list_text.proofs.Putting.{more, other}
use Rattle.write_words.proofs.put_table.Goals as goal

pub returns : goal.returns
returns c =
    let at-put-word2 = c in
    let at-put-word = at-put-word2 in
    let args = at-put-word.args in
    let put-word3 = c.put_word-third in
    let put-words = c.put_words-fourth in
    let put-words2 = c.put_words-fifth in
    other (more (more (more (more (more at-put-word.put_word-first.ensures at-put-word2.put_word-second.ensures) put-word3.ensures) put-words.ensures) put-words2.ensures)
    c.put.ensures) (table-parts args.events.now args.attributes.now args.bytes.now)
