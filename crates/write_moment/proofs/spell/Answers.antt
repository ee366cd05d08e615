use Rattle.write_moment.proofs.Spelling.{moment-stored}
use Rattle.write_moment.proofs.spell.Goals as goal

pub returns : goal.returns
returns c =
    let at-put-two4 = c in
    let at-put-two3 = at-put-two4 in
    let at-put-two2 = at-put-two3 in
    let at-put-two = at-put-two2 in
    let at-away-of = at-put-two in
    let args = at-away-of.args in
    let put-two5 = c.put_two-5 in
    let put-two6 = c.put_two-6 in
    let put-two7 = c.put_two-7 in
    let put-two8 = c.put_two-8 in
    let put-two9 = c.put_two-9 in
    let sign_of = c.sign_of in
    rw (
      c.put_two-11.ensures,
      c.put_two-10.ensures,
      put-two9.ensures,
      put-two8.ensures,
      put-two7.ensures,
      put-two6.ensures,
      put-two5.ensures,
      at-put-two4.put_two-4.ensures,
      at-put-two3.put_two-3.ensures,
      at-put-two2.put_two-2.ensures,
      at-put-two.put_two.ensures,
    ) (moment-stored args.m _ _ sign_of.ensures at-away-of.away_of-away.ensures)
