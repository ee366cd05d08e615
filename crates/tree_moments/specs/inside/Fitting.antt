-- The words of a timestamp, before they are taken for its fields. Definitions only.
use Rattle.std.specs.Prelude.{ℕ, Bool, ◌&&◌, List, leb, get_or}
use Rattle.tree_slots.specs.of_tree_record.Words as word

-- no word of a timestamp is above what its field may be in any month
unfoldable pub moment_fits : List ℕ → Bool
moment_fits r =
    (leb (get_or r word.year 0) 9999 && (leb (get_or r word.month 0) 12 && leb (get_or r word.day 0) 31))
    && ((leb (get_or r word.hour 0) 23 && (leb (get_or r word.minute 0) 59 && leb (get_or r word.second 0) 59)) && leb (get_or r word.offset 0) 2878)
