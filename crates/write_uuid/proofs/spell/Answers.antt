use Rattle.write_uuid.proofs.Spelling.{words-stored}
use Rattle.write_uuid.proofs.spell.Goals as goal

pub returns : goal.returns
returns c =
    let at-put-octets = c in
    let args = at-put-octets.args in
    let put-octets2 = c.put_octets-2 in
    let put-octets3 = c.put_octets-3 in
    let put-octets4 = c.put_octets-4 in
    let put-octets5 = c.put_octets-5 in
    let put-octets6 = c.put_octets-6 in
    rw (
      c.put_octets-8.ensures,
      c.put_octets-7.ensures,
      put-octets6.ensures,
      put-octets5.ensures,
      put-octets4.ensures,
      put-octets3.ensures,
      put-octets2.ensures,
      at-put-octets.put_octets.ensures,
    ) (words-stored args.w)
