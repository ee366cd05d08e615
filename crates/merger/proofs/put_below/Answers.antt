use Rattle.merger.proofs.Steps.{name-fits, first-room, second-room, rows-put, texts-put}
use Rattle.merger.proofs.put_below.Goals as goal

pub put_name-fill-requires : goal.put_name-fill-requires
put_name-fill-requires c =
    let start = c in
    let s = start.args in
    name-fits s.first.now s.first_text.now s.second.now s.second_text.now s.r.now s.records.now s.text.now start.requires.0 start.requires.1

pub put_rows-behind-requires : goal.put_rows-behind-requires
put_rows-behind-requires c =
    let start = c in
    let put-name = c.put_name-fill in
    let s = start.args in
    first-room s.first.now s.first_text.now s.second.now s.second_text.now s.r.now
    s.records.now s.text.now start.requires.0 start.requires.1 put-name.ensures.value put-name.ensures.bytes_after

pub put_rows-requires : goal.put_rows-requires
put_rows-requires c =
    let at-put-name = c in
    let start = at-put-name in
    let put-rows = c.put_rows-behind in
    let s = start.args in
    second-room s.first.now s.first_text.now s.second.now s.second_text.now s.r.now s.records.now s.text.now start.requires.0 start.requires.1
    at-put-name.put_name-fill.ensures.value at-put-name.put_name-fill.ensures.bytes_after put-rows.ensures.word_value.0 put-rows.ensures.word_value.1 put-rows.ensures.out_after put-rows.ensures.bytes_after

pub returns : goal.returns
returns c =
    let at-put-name = c in
    let start = at-put-name in
    let put-rows = c.put_rows-behind in
    let put-rows2 = c.put_rows in
    let s = start.args in record {
      records_after = rows-put s.first.now s.first_text.now s.second.now s.second_text.now s.r.now s.records.now
          s.text.now start.requires.0 start.requires.1 at-put-name.put_name-fill.ensures.value at-put-name.put_name-fill.ensures.bytes_after
          put-rows.ensures.word_value.0 put-rows.ensures.word_value.1 put-rows.ensures.out_after put-rows.ensures.bytes_after put-rows2.ensures.out_after;
      text_after = texts-put s.first.now s.first_text.now s.second.now s.second_text.now s.r.now s.records.now
          s.text.now start.requires.0 start.requires.1 at-put-name.put_name-fill.ensures.value at-put-name.put_name-fill.ensures.bytes_after
          put-rows.ensures.word_value.0 put-rows.ensures.word_value.1 put-rows.ensures.out_after put-rows.ensures.bytes_after put-rows2.ensures.bytes_after;
    }
