-- A layout's records, one behind the other. Definitions only.
use Rattle.std.specs.Prelude.{ℕ, ◌+◌, ◌*◌, ◌/◌, Bool, cond, not, ◌&&◌, ◌||◌, List, leb, eqb, length, get_or, take, drop}
use Rattle.tree_shape.specs.of_tree_record.Record.{live}
use Rattle.tree_order.specs.of_tree_report.Layout.{Open, all_zero, good_record, all_good, may_follow, following, nothing, good_order, records_from}

-- a record may stand here: it is good, and a live one may follow
unfoldable pub admits : List ℕ → Open → List ℕ → Bool
admits texts o r = good_record texts r && (not (live r) || may_follow o r)

-- what is open behind it
unfoldable pub behind : Open → List ℕ → Open
behind o r = cond (live r) (following o r) o

-- a record stands at the word `at` of the first `limit`
unfoldable pub stands_at : List ℕ → ℕ → ℕ → Bool
stands_at words at limit = leb (at + 32) limit && not (eqb (get_or words at 0) 0)

-- n records at most in words are good and may follow one another; what is left of `rest` behind them is zero
unfoldable pub layout_from : List ℕ → Open → ℕ → List ℕ → List ℕ → Bool
layout_from texts o n words rest =
    let rs = records_from n words in
    all_good texts rs && (good_order o rs && all_zero (drop (length rs * 32) rest))

-- the first `limit` words
unfoldable pub walked : List ℕ → List ℕ → ℕ → Bool
walked texts words limit = layout_from texts nothing (limit / 32) words (take limit words)
