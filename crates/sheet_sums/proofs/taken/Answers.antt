use borrow.Author.Tests.{le-leb, lt-leb}
use Rattle.sheet_sums.proofs.taken.Goals as goal

pub returns-then-n-le-MOST_REPORTS : goal.returns-then-n-le-MOST_REPORTS
returns-then-n-le-MOST_REPORTS c = simp (le-leb c.args.n 4096 c.if-n-le-MOST_REPORTS.true)

pub returns : goal.returns
returns c = simp (lt-leb c.args.n 4096 c.if-n-le-MOST_REPORTS.false)
