-- What a layout says of its report's own fields. Definitions only.
use Rattle.std.specs.Prelude.{◌≡◌, true}
use Rattle.tree_merge.specs.of_schema.Schema.{text, time, timestamp, may}
use Rattle.tree_merge.specs.of_schema.Texts.{stored, sound_slot}
use Rattle.tree_merge.specs.of_tree_report.Report.{Report}
use Rattle.merge_claims.specs.inside.Stands.{Clean}

-- the name is such as a layout may have, timestamp and time are in their ranges (rule M10)
pub record Fair (a : Report) : Type 0 where
  pub name : Clean (stored (may 0) text a.name)
  pub moment : sound_slot (may 3) timestamp a.timestamp ≡ true
  pub time : sound_slot (may 4) time a.time ≡ true
