-- The timestamp of a record, each number cut to the digits that are written of it. Definitions only.
use Rattle.std.specs.Prelude.{ℕ, ◌+◌, ◌-◌, ◌%◌, List, cond, ltb}
use Rattle.tree_report.specs.of_timestamp.declared.Moment.{Moment}
use Rattle.tree_report.specs.Fields.{moment_of}

-- 6000 minutes are a hundred hours; from +100:00 on they are cut
unfoldable pub cut_offset : ℕ → ℕ
cut_offset w = cond (ltb w 7439) w (1439 + (w - 1439) % 6000)

unfoldable pub cut_moment : List ℕ → Moment
cut_moment r =
    let m = moment_of r in
    record {
      year = m.year % 10000;
      month = m.month % 100;
      day = m.day % 100;
      hour = m.hour % 100;
      minute = m.minute % 100;
      second = m.second % 100;
      nanos = m.nanos;
      offset = cut_offset m.offset;
    }
