-- What the contracts of reading and of the public listing name is what stands on values. Assumes nothing.
use Rattle.read_report.proofs.Tables.{reading-agrees, reading-leaves}
use Rattle.public_claims.specs.OnValues.{OnValues}
use Rattle.public_claims.proofs.OneCall.{lists-once, leaves-once, two-calls, lists-so}

pub on_values : OnValues
on_values =
    record { answers = reading-agrees; leaves = reading-leaves; lists_once = lists-once; leaves_once = leaves-once; both_calls = two-calls; lists = lists-so }
