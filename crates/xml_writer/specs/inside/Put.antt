-- What putting a document leaves. Definitions only.
use Rattle.std.specs.Prelude.{ℕ, List}
use Rattle.writer.specs.of_write_table.Laid.{Item}
use Rattle.writer.specs.of_write_table.inside.Putting.{Wrote}
use Rattle.writer.specs.of_write_marks.declared.Marks.{Marks}
use Rattle.writer.specs.of_write_marks.inside.Kept.{bare, kept}

-- the items were put as XML into an area that held `out`; the areas of events and attributes are of no use
pub record Put (out : List ℕ) (is : List Item) (m : Marks) (out' : List ℕ) : Type 0 where
  pub events : List ℕ
  pub attributes : List ℕ
  pub events' : List ℕ
  pub attributes' : List ℕ
  pub wrote : Wrote (kept bare events attributes out) is (kept m events' attributes' out')
