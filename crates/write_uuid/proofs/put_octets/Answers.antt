use Rattle.write_uuid.proofs.Spelling.{octets-stored}
use Rattle.write_uuid.proofs.put_octets.Goals as goal

pub returns : goal.returns
returns c = let a = c.args in
    octets-stored a.bytes.now a.at a.n _ _ _ _ c.digit.ensures c.digit-2.ensures c.digit-3.ensures c.digit-4.ensures
