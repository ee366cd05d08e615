use Rattle.escape.specs.Escape.{escaped}
use Rattle.list_text.proofs.put_escaped.Given as goal

abbrev pub ghost-put_behind : goal.ghost-put_behind
ghost-put_behind a = escaped a.write.0.now
