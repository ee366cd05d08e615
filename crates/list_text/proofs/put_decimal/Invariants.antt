use Rattle.time_text.specs.of_digits.Digits.{decimal}
use Rattle.list_text.proofs.put_decimal.Given as goal

abbrev pub ghost-put_behind : goal.ghost-put_behind
ghost-put_behind a = decimal a.write.0.now
