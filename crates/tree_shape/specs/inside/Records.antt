-- A record at the front of a list of words. Definitions only.
use Rattle.std.specs.Prelude.{ℕ, Bool, ◌&&◌, List, leb, length, take}
use Rattle.tree_moments.specs.of_tree_report.Layout.{good_record}

-- words begin with a record that is good by itself
unfoldable pub is_record : List ℕ → List ℕ → Bool
is_record texts words = leb 32 (length words) && good_record texts (take 32 words)
