use borrow.Author.Rules.{Fits-under}
use Rattle.test_vectors.proofs.show.show_moment.Goals as goal

pub overflow_cast-m-7 : goal.overflow_cast-m-7
overflow_cast-m-7 g c = Fits-under _ _ 65536 c.well_formed.1.0.1.1.1.1.1.1.1.1.1.0.1 tt
