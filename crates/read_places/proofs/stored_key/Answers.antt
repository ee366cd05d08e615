use Rattle.read_places.proofs.Placing.{key-words}
use Rattle.read_places.proofs.stored_key.Goals as goal

pub returns : goal.returns
returns c =
    let args = c.args in
    let word_of = c.word_of in
    key-words args.own.now args.text.now args.i c.bytes_of.ensures c.wide.ensures
    word_of.ensures c.wide-2.ensures c.word_of-2.ensures
