-- What a row that fits is made of. Assumes nothing.
use mathlib.Core.Bool.{Bool, true, ◌&&◌}
use mathlib.Core.List.{List, [], ◌∷◌}
use mathlib.Core.Path.{◌≡◌}
use Rattle.write_report.specs.of_tree_report.inside.Cells.{Cell, Row, every, fits_cell, fits_moment, fits_time, fits_row}
use Rattle.write_report.proofs.of_tree_report.EncodeLists.{and_left, and_right}

pub record Fitting (r : Row) : Type 0 where
  pub first : fits_cell r.first ≡ true
  pub out : fits_cell r.out ≡ true
  pub err : fits_cell r.err ≡ true
  pub second : fits_cell r.second ≡ true
  pub third : fits_cell r.third ≡ true
  pub fourth : fits_cell r.fourth ≡ true
  pub fifth : fits_cell r.fifth ≡ true
  pub sixth : fits_cell r.sixth ≡ true
  pub seventh : fits_cell r.seventh ≡ true
  pub timestamp : fits_moment r.timestamp ≡ true
  pub time : fits_time r.time ≡ true

every-head : (c : Cell) (cs : List Cell) → every fits_cell (c ∷ cs) ≡ true → fits_cell c ≡ true
every-head c cs e = and_left (fits_cell c) (every fits_cell cs) e

every-tail : (c : Cell) (cs : List Cell) → every fits_cell (c ∷ cs) ≡ true → every fits_cell cs ≡ true
every-tail c cs e = and_right (fits_cell c) (every fits_cell cs) e

-- a row that fits, part by part
pub fitting : (r : Row) → fits_row r ≡ true → Fitting r
unfolding fits_row
fitting r f =
    let cells : Bool = every fits_cell (r.first ∷ r.out ∷ r.err ∷ r.second ∷ r.third ∷ r.fourth ∷ r.fifth ∷ r.sixth ∷ r.seventh ∷ []) in
    let times : Bool = fits_moment r.timestamp && fits_time r.time in
    let a = and_left cells times f in
    let t = and_right cells times f in
    let b = every-tail r.first (r.out ∷ r.err ∷ r.second ∷ r.third ∷ r.fourth ∷ r.fifth ∷ r.sixth ∷ r.seventh ∷ []) a in
    let c = every-tail r.out (r.err ∷ r.second ∷ r.third ∷ r.fourth ∷ r.fifth ∷ r.sixth ∷ r.seventh ∷ []) b in
    let d = every-tail r.err (r.second ∷ r.third ∷ r.fourth ∷ r.fifth ∷ r.sixth ∷ r.seventh ∷ []) c in
    let e = every-tail r.second (r.third ∷ r.fourth ∷ r.fifth ∷ r.sixth ∷ r.seventh ∷ []) d in
    let g = every-tail r.third (r.fourth ∷ r.fifth ∷ r.sixth ∷ r.seventh ∷ []) e in
    let h = every-tail r.fourth (r.fifth ∷ r.sixth ∷ r.seventh ∷ []) g in
    let i = every-tail r.fifth (r.sixth ∷ r.seventh ∷ []) h in
    let j = every-tail r.sixth (r.seventh ∷ []) i in
    record {
      first = every-head r.first (r.out ∷ r.err ∷ r.second ∷ r.third ∷ r.fourth ∷ r.fifth ∷ r.sixth ∷ r.seventh ∷ []) a;
      out = every-head r.out (r.err ∷ r.second ∷ r.third ∷ r.fourth ∷ r.fifth ∷ r.sixth ∷ r.seventh ∷ []) b;
      err = every-head r.err (r.second ∷ r.third ∷ r.fourth ∷ r.fifth ∷ r.sixth ∷ r.seventh ∷ []) c;
      second = every-head r.second (r.third ∷ r.fourth ∷ r.fifth ∷ r.sixth ∷ r.seventh ∷ []) d;
      third = every-head r.third (r.fourth ∷ r.fifth ∷ r.sixth ∷ r.seventh ∷ []) e;
      fourth = every-head r.fourth (r.fifth ∷ r.sixth ∷ r.seventh ∷ []) g;
      fifth = every-head r.fifth (r.sixth ∷ r.seventh ∷ []) h;
      sixth = every-head r.sixth (r.seventh ∷ []) i;
      seventh = every-head r.seventh [] j;
      timestamp = and_left (fits_moment r.timestamp) (fits_time r.time) t;
      time = and_right (fits_moment r.timestamp) (fits_time r.time) t;
    }
