use Rattle.time_text.specs.Written.{written_time}
use Rattle.list_text.proofs.put_time.Given as goal

abbrev pub ghost-put_behind : goal.ghost-put_behind
ghost-put_behind a = written_time a.write.0.now a.write.1.now
