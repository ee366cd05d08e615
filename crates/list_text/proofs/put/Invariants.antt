use Rattle.list_text.proofs.put.Given as goal

abbrev pub ghost-put_behind : goal.ghost-put_behind
ghost-put_behind a = a.write.0.now
