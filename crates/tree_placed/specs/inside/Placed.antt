-- A record whose texts stand anywhere in the text area. Definitions only.
use Rattle.std.specs.Prelude.{ℕ, ◌+◌, Bool, true, ◌&&◌, List, [], ◌∷◌, map, ◌≡◌, leb, length, take, drop}
use Rattle.tree_put.specs.of_utf8.Characters.{boundary}
use Rattle.tree_report.specs.inside.Cells.{Cell, absent, written, valued, constant, first_word, second_word, moment_or_zero, time_or_zero, flags_of, Row, presence}

-- where the texts of a record start
pub record Places : Type 0 where
  pub first : ℕ
  pub out : ℕ
  pub err : ℕ
  pub second : ℕ
  pub third : ℕ
  pub fourth : ℕ
  pub seventh : ℕ

-- a row (crate tree_report, Encode.antt) and where its texts start
pub record Placed : Type 0 where
  pub places : Places
  pub row : Row

-- its 32 words
unfoldable pub record_of_it : Placed → List ℕ
record_of_it p =
    p.row.kind ∷ flags_of (presence p.row)
    ∷ first_word p.places.first p.row.first ∷ second_word p.row.first
    ∷ first_word p.places.out p.row.out ∷ second_word p.row.out
    ∷ first_word p.places.err p.row.err ∷ second_word p.row.err
    ∷ (moment_or_zero p.row.timestamp).year ∷ (moment_or_zero p.row.timestamp).month
    ∷ (moment_or_zero p.row.timestamp).day ∷ (moment_or_zero p.row.timestamp).hour
    ∷ (moment_or_zero p.row.timestamp).minute ∷ (moment_or_zero p.row.timestamp).second
    ∷ (moment_or_zero p.row.timestamp).nanos ∷ (moment_or_zero p.row.timestamp).offset
    ∷ (time_or_zero p.row.time).seconds ∷ (time_or_zero p.row.time).nanos
    ∷ first_word p.places.second p.row.second ∷ second_word p.row.second
    ∷ first_word p.places.third p.row.third ∷ second_word p.row.third
    ∷ first_word p.places.fourth p.row.fourth ∷ second_word p.row.fourth
    ∷ first_word 0 p.row.fifth ∷ second_word p.row.fifth
    ∷ first_word 0 p.row.sixth ∷ second_word p.row.sixth
    ∷ first_word p.places.seventh p.row.seventh ∷ second_word p.row.seventh
    ∷ 0 ∷ 0 ∷ []

abbrev pub records_in : List Placed → List (List ℕ)
records_in ps = map record_of_it ps

abbrev pub rows_in : List Placed → List Row
rows_in ps = map (λ (p : Placed). p.row) ps

-- n bytes from x on are within the texts, and the ends are no middle of a character
abbrev pub good_at : List ℕ → ℕ → ℕ → Bool
good_at texts x n = leb (x + n) (length texts) && (boundary texts x && boundary texts (x + n))

-- a cell's text stands in the texts at x
abbrev pub StandsAt : List ℕ → ℕ → Cell → Type 0
StandsAt texts x absent = Unit {0}
StandsAt texts x (written t) = (take (length t) (drop x texts) ≡ t) × (good_at texts x (length t) ≡ true)
StandsAt texts x (valued a b) = Unit {0}
StandsAt texts x (constant a b) = Unit {0}

-- all seven cells that may hold a text
pub record InTexts (texts : List ℕ) (p : Placed) : Type 0 where
  pub first : StandsAt texts p.places.first p.row.first
  pub out : StandsAt texts p.places.out p.row.out
  pub err : StandsAt texts p.places.err p.row.err
  pub second : StandsAt texts p.places.second p.row.second
  pub third : StandsAt texts p.places.third p.row.third
  pub fourth : StandsAt texts p.places.fourth p.row.fourth
  pub seventh : StandsAt texts p.places.seventh p.row.seventh
