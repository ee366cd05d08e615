-- The move of a mode at a byte, as the tables give it. Assumes nothing.
use Prim.Native.Nat.{ℕ, ◌+◌, ◌-◌, ◌*◌, ◌≤◌, ◌<◌}
use native.Mathlib.Omega.{arith}
use mathlib.Core.Path.{◌≡◌, refl, ap, ◌∙◌}
use mathlib.Core.List.{List, []}
use lib.Dec.{T, leb, eqb, eqb→eq, leb→le}
use lib.ListN.{length, get_or}
use Rattle.xml_state.specs.declared.Move.{Move}
use Rattle.xml_state.specs.inside.Tables.{class_rows, next_rows, act_rows, class_table, next_table, act_table}
use Rattle.xml_state.specs.inside.Rows.{all_rows, move_of, always, bad}
use Rattle.xml_moves.proofs.Fit.{same, fit, classes_fit}
use Rattle.xml_moves.proofs.Entries.{both_left, both_right, byte_at, row_at, class-at, wide36, flat}

pub class-length : length class_table ≡ 256
unfolding class_rows
class-length = refl

pub next-length : length next_table ≡ 2664
unfolding next_rows
next-length = refl

pub act-length : length act_table ≡ 2664
unfolding act_rows
act-length = refl

row_count : length all_rows ≡ 74
unfolding all_rows
row_count = refl

nexts-wide : T (wide36 next_rows)
unfolding next_rows
nexts-wide = tt

acts-wide : T (wide36 act_rows)
unfolding act_rows
acts-wide = tt

abbrev pub class_at : ℕ → ℕ
class_at b = get_or class_table b 0

pub class-least : (b : ℕ) → b < 256 → 48 ≤ class_at b
class-least b h =
    let k : b < length class_table = omega (arith, class-length) in
    leb→le 48 (class_at b) (both_left (leb 48 (class_at b)) (leb (class_at b) 83) (class-at class_table classes_fit b k))

pub class-most : (b : ℕ) → b < 256 → class_at b ≤ 83
class-most b h =
    let k : b < length class_table = omega (arith, class-length) in
    leb→le (class_at b) 83 (both_right (leb 48 (class_at b)) (leb (class_at b) 83) (class-at class_table classes_fit b k))

abbrev pub moving : ℕ → ℕ → Move
moving m a = record { mode = m; act = a }

alike : (nexts acts : List ℕ) (c : ℕ) (x : Move) → T (same nexts acts c x) → moving (get_or nexts (c - 48) 0) (get_or acts (c - 48) 0) ≡ x
alike nexts acts c x t =
    let l = eqb→eq (get_or nexts (c - 48) 0) x.mode (both_left (eqb (get_or nexts (c - 48) 0) x.mode) (eqb (get_or acts (c - 48) 0) x.act) t) in
    let r = eqb→eq (get_or acts (c - 48) 0) x.act (both_right (eqb (get_or nexts (c - 48) 0) x.mode) (eqb (get_or acts (c - 48) 0) x.act) t) in
    rw (l, r) refl

pub looked-up : (m b : ℕ) → 48 ≤ m → m < 122 → b < 256 →
    moving (get_or next_table ((m - 48) * 36 + (class_at b - 48)) 0) (get_or act_table ((m - 48) * 36 + (class_at b - 48)) 0) ≡ move_of m b
unfolding move_of
looked-up m b low high h =
    let i : m - 48 < length all_rows = omega (arith, row_count) in
    let j : b < length class_table = omega (arith, class-length) in
    let k : class_at b - 48 < 36 = omega (arith, class-least b h, class-most b h) in
    let row = get_or all_rows (m - 48) (always bad) in
    rw (flat next_rows nexts-wide (m - 48) (class_at b - 48) k, flat act_rows acts-wide (m - 48) (class_at b - 48) k)
    (alike (get_or next_rows (m - 48) []) (get_or act_rows (m - 48) []) (class_at b) (row b)
    (byte_at row (get_or next_rows (m - 48) []) (get_or act_rows (m - 48) []) class_table (row_at all_rows next_rows act_rows fit (m - 48) i) b j))

-- as the code reads them
module _ {classes : List ℕ} {m b w k d : ℕ} (low : 48 ≤ m) (high : m < 122) (h : b < 256) (ec : classes ≡ class_table) (ew : w ≡ b) (ek : k ≡ get_or classes w 0) (ed : d ≡ m) where
  class-read : k ≡ class_at b
  class-read = ek ∙ rw (ec, ew) refl

  pub read-least : 48 ≤ k
  read-least = omega (arith, class-read, class-least b h)

  pub next-inside : {nexts : List ℕ} → nexts ≡ next_table → (d - 48) * 36 + (k - 48) < length nexts
  next-inside e = omega (arith, class-read, class-least b h, class-most b h, ap length e ∙ next-length)

  pub act-inside : {acts : List ℕ} → acts ≡ act_table → (d - 48) * 36 + (k - 48) < length acts
  act-inside e = omega (arith, class-read, class-least b h, class-most b h, ap length e ∙ act-length)

  pub read_up : {nexts acts : List ℕ} → nexts ≡ next_table → acts ≡ act_table → moving (get_or nexts ((d - 48) * 36 + (k - 48)) 0) (get_or acts ((d - 48) * 36 + (k - 48)) 0) ≡ move_of m b
  read_up en ea = rw (en, ea, ed, class-read) (looked-up m b low high h)
