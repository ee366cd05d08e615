-- A written table passes refusal 11, and resolves to the events that were written. Assumes nothing.
use Prim.Native.Nat.{ℕ, ◌*◌, ◌/◌, ◌%◌, ◌≤◌, min}
use mathlib.Core.Path.{◌≡◌, refl, ap, ◌∙◌}
use mathlib.Core.List.{List}
use mathlib.Core.Bool.{Bool, true, cond, ◌&&◌}
use native.Mathlib.Omega.{arith}
use borrow.Author.Tests.{leb-true, le-leb, eq-eqb}
use lib.ListN.{length}
use lib.Dec.{leb}
use Rattle.write_report.specs.of_refusal.Refusal.{nowhere, accepted}
use Rattle.write_report.specs.of_table.Table.{count_of, check_from, good_sizes, check_of, checked_answer, table_of}
use Rattle.std.specs.Prelude.{Ok, Err}
use Rattle.write_report.specs.of_table.Event.{Event, resolve_from, resolve}
use Rattle.write_report.specs.of_tree_report.Report.{Report}
use Rattle.write_report.proofs.of_tree_report.EncodeLists.{Each, both, and_left, and_right}
use Rattle.write_report.specs.Written.{numbered, written}
use Rattle.write_table.specs.Laid.{items_of, laid_out, fits}
use Rattle.write_resolved.proofs.Standing.{Standing}
use Rattle.write_resolved.proofs.Sizes.{pairs_in, length-events, length-attributes, entries_of}
use Rattle.write_resolved.proofs.Writable.{Writable, writable-report}
use Rattle.write_resolved.proofs.Laying.{laid-resolved, laid-checked}

-- ---- any events that a table can hold
module _ {es : List Event} (w : Each Writable es) where
  abbrev events : List ℕ
  events = (laid_out (numbered 0 es)).events

  abbrev attributes : List ℕ
  attributes = (laid_out (numbered 0 es)).attributes

  abbrev source : List ℕ
  source = (laid_out (numbered 0 es)).bytes

  standing : Standing events attributes source 0 0 0 (items_of (numbered 0 es))
  unfolding laid_out
  standing = record { entries = refl; pairs = refl; bytes = refl }

  event-words : length events ≡ length es * 5
  unfolding laid_out
  event-words = length-events 0 0 (items_of (numbered 0 es)) ∙ ap (λ (n : ℕ). n * 5) (entries_of 0 es)

  attribute-words : length attributes ≡ pairs_in (items_of (numbered 0 es)) * 5
  unfolding laid_out
  attribute-words = length-attributes 0 (items_of (numbered 0 es))

  count : count_of events ≡ length es
  count = omega (arith, event-words)

  pub resolve-laid : resolve events attributes source ≡ numbered 0 es
  unfolding resolve
  resolve-laid = ap (λ (n : ℕ). resolve_from events attributes source n 0) count ∙ laid-resolved events attributes source w standing

  module _ (e a b : ℕ) (f : fits (laid_out (numbered 0 es)) e a b ≡ true) where
    sized : good_sizes (length events) (length attributes) (length source) ≡ true
    unfolding good_sizes
    sized =
        let p : Bool = leb (length events) (min e 327680) in
        let q : Bool = leb (length attributes) (min a 327680) in
        let r : Bool = leb (length source) (min b 16777216) in
        let x : length events ≤ min e 327680 = leb-true (length events) (min e 327680) (and_left p (q && r) f) in
        let y : length attributes ≤ min a 327680 = leb-true (length attributes) (min a 327680) (and_left q r (and_right p (q && r) f)) in
        let z : length source ≤ min b 16777216 = leb-true (length source) (min b 16777216) (and_right q r (and_right p (q && r) f)) in
        both
        (both (eq-eqb (length events % 5) 0 (omega (arith, event-words))) (eq-eqb (length attributes % 5) 0 (omega (arith, attribute-words))))
        (both (le-leb (length events / 5) 65536 (omega arith)) (both (le-leb (length attributes / 5) 65536 (omega arith)) (le-leb (length source) 16777216 (omega arith))))

    pub check-laid : check_of events attributes source ≡ Ok tt
    unfolding check_of
    check-laid =
        ap (λ (t : Bool). cond t (check_from events attributes (length source) (count_of events) 0) (Err (nowhere, nowhere))) sized
        ∙ ap (λ (n : ℕ). check_from events attributes (length source) n 0) count ∙ laid-checked events attributes source w standing

-- ---- those of a report
-- a written table resolves to the very events that were written
pub resolve-written : (r : Report) → resolve (laid_out (written r)).events (laid_out (written r)).attributes (laid_out (written r)).bytes ≡ written r
unfolding written
resolve-written r = resolve-laid (writable-report r)

-- a report's table that fits its areas is accepted by refusal 11's test
pub table-written : (r : Report) (e a b : ℕ) → fits (laid_out (written r)) e a b ≡ true
    → table_of (laid_out (written r)).events (laid_out (written r)).attributes (laid_out (written r)).bytes ≡ accepted tt
unfolding written
table-written r e a b f = ap checked_answer (check-laid (writable-report r) e a b f)
