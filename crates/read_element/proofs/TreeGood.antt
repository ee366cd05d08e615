-- The kinds of records by their parts, and that they are good in a layout. Assumes nothing.
use Prim.Native.Nat.{ℕ, ◌≤◌}
use mathlib.Core.Bool.{Bool, true, false, cond, ◌&&◌, ◌||◌}
use mathlib.Core.List.{List, [], ◌∷◌}
use mathlib.Core.Option.{Option, none}
use mathlib.Core.Path.{◌≡◌, refl, ap, ap₂, ◌∙◌}
use native.Mathlib.Omega.{arith}
use borrow.Author.Tests.{le-leb}
use lib.Dec.{leb, lit≤}
use lib.ListN.{take, drop}
use Rattle.tree_put.specs.of_timestamp.declared.Moment.{Moment}
use Rattle.tree_report.specs.inside.Cells.{Cell, absent, is_given, first_word, second_word, flags_of, fits_moment, fits_time}
use Rattle.tree_report.specs.Report.{Duration}
use Rattle.tree_report.specs.Fields.{has_bit}
use Rattle.tree_report.proofs.ByTable as table
use Rattle.tree_report.specs.Layout.{zero_at, good_record}
use Rattle.tree_report.specs.inside.Parts.{slot, text_slot, good_text_at, good_common, good_outputs, good_counts, good_host, bits_for, good_report, good_suite, good_case, good_other}
use Rattle.tree_report.proofs.EncodeLists.{both}
use Rattle.tree_report.proofs.EncodeCells.{bit-flag, only-bits, weights, Pairing, moment-back, time-back}
use Rattle.tree_report.proofs.ByKind.{other-record}
use Rattle.read_element.proofs.TreeSheet.{Sort, text, name, number, count, nothing, Fits, textless, placed, named, numberless, numbered, counted, empty, Middle, outputs}
use Rattle.read_element.proofs.TreeSheet.{uuid, pair, hidden, InMiddle, two, idless, id, full-value, without, untimed, timed, Sorts, flags, rest, Sheet, sheet}

-- ---- the parts of each kind; a suite's, case's or property's name is missing until it is read
abbrev pub sorts : Sort → Middle → Bool → (second third fourth fifth sixth seventh : Sort) → Sorts
sorts f m t a b c d e g = record { first = f; middle = m; times = t; second = a; third = b; fourth = c; fifth = d; sixth = e; seventh = g }

abbrev pub report_sorts : Sorts
report_sorts = sorts text uuid true count count count count number nothing

abbrev pub suite_sorts : Sort → Sorts
suite_sorts x = sorts x outputs true count count count count number text

abbrev pub case_sorts : Sort → Sorts
case_sorts x = sorts x outputs true text number nothing nothing nothing nothing

abbrev pub pair_sorts : Sort → Middle → Sorts
pair_sorts x m = sorts x m false nothing nothing nothing nothing nothing nothing

abbrev pub main_sorts : Sorts
main_sorts = sorts text hidden false text text nothing nothing nothing nothing

abbrev pub run_sorts : Sorts
run_sorts = sorts text outputs true text text text nothing nothing nothing

-- a kind and its parts
pub data Final : ℕ → Sorts → Type 0 where
  report : Final 1 report_sorts
  suite : Final 2 (suite_sorts name)
  case : Final 3 (case_sorts name)
  suite_property : Final 4 (pair_sorts name pair)
  case_property : Final 5 (pair_sorts name pair)
  failure : Final 6 main_sorts
  error : Final 7 main_sorts
  skipped : Final 8 main_sorts
  flaky_failure : Final 9 run_sorts
  flaky_error : Final 10 run_sorts
  rerun_failure : Final 11 run_sorts
  rerun_error : Final 12 run_sorts
  suite_extra : Final 13 (pair_sorts name pair)
  case_extra : Final 14 (pair_sorts name pair)

-- the kinds of good records are 1 to 14
pub final_bounds : {κ : ℕ} {S : Sorts} → Final κ S → (1 ≤ κ) × (κ ≤ 14)
final_bounds report = (lit≤ tt, lit≤ tt)
final_bounds suite = (lit≤ tt, lit≤ tt)
final_bounds case = (lit≤ tt, lit≤ tt)
final_bounds suite_property = (lit≤ tt, lit≤ tt)
final_bounds case_property = (lit≤ tt, lit≤ tt)
final_bounds failure = (lit≤ tt, lit≤ tt)
final_bounds error = (lit≤ tt, lit≤ tt)
final_bounds skipped = (lit≤ tt, lit≤ tt)
final_bounds flaky_failure = (lit≤ tt, lit≤ tt)
final_bounds flaky_error = (lit≤ tt, lit≤ tt)
final_bounds rerun_failure = (lit≤ tt, lit≤ tt)
final_bounds rerun_error = (lit≤ tt, lit≤ tt)
final_bounds suite_extra = (lit≤ tt, lit≤ tt)
final_bounds case_extra = (lit≤ tt, lit≤ tt)

-- ---- slots
text-slot : {texts : List ℕ} {c : Cell} (r : List ℕ) (k o : ℕ) → Fits texts text c → has_bit k r ≡ is_given c → Pairing r o (first_word 0 c) (second_word c) → text_slot texts r k o ≡ true
unfolding good_text_at
text-slot r k o textless b w = rw (b, w.2) refl
text-slot r k o (placed p) b w = rw (b, w.0, w.1) p

number-slot : {texts : List ℕ} {c : Cell} (r : List ℕ) (k o : ℕ) → Fits texts number c → has_bit k r ≡ is_given c
    → Pairing r o (first_word 0 c) (second_word c) → slot (has_bit k r) true (zero_at r o 2) ≡ true
number-slot r k o numberless b w = rw (b, w.2) refl
number-slot r k o numbered b w = rw b refl

id-slot : {texts : List ℕ} {c d : Cell} (r : List ℕ) → InMiddle texts uuid c d → has_bit 1 r ≡ is_given c
    → take 4 (drop 4 r) ≡ first_word 0 c ∷ second_word c ∷ first_word 0 d ∷ second_word d ∷ [] → slot (has_bit 1 r) true (zero_at r 4 4) ≡ true
id-slot r idless b w = rw (b, w) refl
id-slot r id b w = rw b refl

module _ (κ : ℕ) (a b c : Cell) (m : Option Moment) (d : Option Duration) (e f g h i j : Cell) where
  abbrev words : List ℕ
  words = κ ∷ flags_of (flags a b c m d e f g i j) ∷ rest a b c m d e f g h i j

  common-good : {texts : List ℕ} → Fits texts text a → fits_moment m ≡ true → fits_time d ≡ true → good_common texts words ≡ true
  unfolding good_common
  common-good p q s =
      let bs : List Bool = flags a b c m d e f g i j in
      both (text-slot words 0 2 p (bit-flag 0 bs) (refl, refl, refl))
      (both ((moment-back words m (bit-flag 3 bs) refl refl).good q) ((time-back words d (bit-flag 4 bs) (refl, refl, refl)).good s))

  outputs-good : {texts : List ℕ} → Fits texts text b → Fits texts text c → good_outputs texts words ≡ true
  unfolding good_outputs
  outputs-good p q =
      let bs : List Bool = flags a b c m d e f g i j in
      both (text-slot words 1 4 p (bit-flag 1 bs) (refl, refl, refl)) (text-slot words 2 6 q (bit-flag 2 bs) (refl, refl, refl))

  counts-good : {texts : List ℕ} → Fits texts number i → zero_at words 28 4 ≡ true → good_counts words ≡ true
  unfolding good_counts
  counts-good p z = both (number-slot words 8 26 p (bit-flag 8 (flags a b c m d e f g i j)) (refl, refl, refl)) z

  host-good : {texts : List ℕ} → Fits texts number i → Fits texts text j → good_host texts words ≡ true
  unfolding good_host
  host-good p q =
      let bs : List Bool = flags a b c m d e f g i j in
      both (number-slot words 8 26 p (bit-flag 8 bs) (refl, refl, refl)) (both (text-slot words 10 28 q (bit-flag 10 bs) (refl, refl, refl)) refl)

other-good : {texts : List ℕ} (κ : ℕ) (a b c : Cell) (m : Option Moment) (d : Option Duration) (e f g : Cell) → 4 ≤ κ → κ ≤ 14
    → flags_of (flags a b c m d e f g absent absent) ≡ weights (bits_for κ) (flags a b c m d e f g absent absent)
    → ((leb 6 κ && leb κ 12) || (is_given a && is_given b)) ≡ true
    → Fits texts text a → Fits texts text b → Fits texts text c → fits_moment m ≡ true → fits_time d ≡ true → Fits texts text e → Fits texts text f → Fits texts text g
    → good_record texts (κ ∷ flags_of (flags a b c m d e f g absent absent) ∷ rest a b c m d e f g absent absent absent) ≡ true
unfolding good_other
other-good {texts} κ a b c m d e f g l u w q pa pb pc pm pd pe pf pg =
    let bs : List Bool = flags a b c m d e f g absent absent in
    let r : List ℕ = κ ∷ flags_of bs ∷ rest a b c m d e f g absent absent absent in
    other-record texts r l u
    (both (only-bits r bs (bits_for κ) refl w)
    (both (ap₂ (λ (x y : Bool). (leb 6 κ && leb κ 12) || (x && y)) (bit-flag 0 bs) (bit-flag 1 bs) ∙ q)
    (both (common-good κ a b c m d e f g absent absent absent pa pm pd)
    (both (outputs-good κ a b c m d e f g absent absent absent pb pc)
    (both (text-slot r 5 18 pe (bit-flag 5 bs) (refl, refl, refl))
    (both (text-slot r 6 20 pf (bit-flag 6 bs) (refl, refl, refl))
    (both (text-slot r 7 22 pg (bit-flag 7 bs) (refl, refl, refl)) refl)))))))

-- ---- the kinds
pair-good : {texts : List ℕ} {r : List ℕ} (κ : ℕ) → 4 ≤ κ → κ ≤ 14 → bits_for κ ≡ 0 ∷ 1 ∷ [] → Sheet (pair_sorts name pair) texts κ r → good_record texts r ≡ true
pair-good κ l u q (sheet a b c m d e f g h i j (named p) (full-value o) untimed empty empty empty empty empty empty) =
    other-good κ a b absent none none absent absent absent l u (rw q refl) (or_yes (leb 6 κ && leb κ 12)) (placed p) (placed o) textless refl refl textless textless textless
  where
    or_yes : (t : Bool) → (t || true) ≡ true
    or_yes true = refl
    or_yes false = refl

main-good : {texts : List ℕ} {r : List ℕ} (κ : ℕ) → 6 ≤ κ → κ ≤ 8
    → ((e f g : Cell) → flags_of (flags e absent absent none none f g absent absent absent) ≡ weights (bits_for κ) (flags e absent absent none none f g absent absent absent))
    → Sheet main_sorts texts κ r → good_record texts r ≡ true
main-good κ l u q (sheet a b c m d e f g h i j pa without untimed pe pf empty empty empty empty) =
    other-good κ a absent absent none none e f absent (omega arith) (omega arith) (q a e f) (rw (le-leb 6 κ l, le-leb κ 12 (omega arith)) refl) pa textless textless refl refl pe pf textless

run-good : {texts : List ℕ} {r : List ℕ} (κ : ℕ) → 9 ≤ κ → κ ≤ 12 → bits_for κ ≡ 0 ∷ 1 ∷ 2 ∷ 3 ∷ 4 ∷ 5 ∷ 6 ∷ 7 ∷ [] → Sheet run_sorts texts κ r → good_record texts r ≡ true
run-good κ l u q (sheet a b c m d e f g h i j pa (two pb pc) (timed pm pd) pe pf pg empty empty empty) =
    other-good κ a b c m d e f g (omega arith) (omega arith) (rw q (omega arith)) (rw (le-leb 6 κ (omega arith), le-leb κ 12 u) refl) pa pb pc pm pd pe pf pg

report-good : {texts : List ℕ} {r : List ℕ} → Sheet report_sorts texts 1 r → good_record texts r ≡ true
unfolding good_record good_report
report-good {texts} (sheet a b c m d e f g h i j pa pb (timed pm pd) counted counted counted counted pi empty) =
    let bs : List Bool = flags a b c m d e f g i j in
    let r : List ℕ = 1 ∷ flags_of bs ∷ rest a b c m d e f g h i j in
    let z : ◌≡◌ {A = ℕ} (cond (is_given c) 1 0) 0 = ap (λ (t : Bool). cond t 1 0) (back-hidden pb) in
    table.report-good texts r
    ∙ both (only-bits r bs (0 ∷ 1 ∷ 3 ∷ 4 ∷ 8 ∷ []) refl (omega arith))
    (both (common-good 1 a b c m d e f g h i j pa pm pd) (both (id-slot r pb (bit-flag 1 bs) refl) (counts-good 1 a b c m d e f g h i j pi refl)))
  where
    back-hidden : {texts : List ℕ} {j k : Cell} → InMiddle texts uuid j k → is_given k ≡ false
    back-hidden idless = refl
    back-hidden id = refl

suite-good : {texts : List ℕ} {r : List ℕ} → Sheet (suite_sorts name) texts 2 r → good_record texts r ≡ true
unfolding good_record good_suite
suite-good {texts} (sheet a b c m d e f g h i j (named p) (two pb pc) (timed pm pd) counted counted counted counted pi pj) =
    let bs : List Bool = flags a b c m d e f g i j in
    let r : List ℕ = 2 ∷ flags_of bs ∷ rest a b c m d e f g h i j in
    table.suite-good texts r
    ∙ both (only-bits r bs (0 ∷ 1 ∷ 2 ∷ 3 ∷ 4 ∷ 8 ∷ 10 ∷ []) refl (omega arith))
    (both (bit-flag 0 bs)
    (both (common-good 2 a b c m d e f g h i j (placed p) pm pd) (both (outputs-good 2 a b c m d e f g h i j pb pc) (host-good 2 a b c m d e f g h i j pi pj))))

case-good : {texts : List ℕ} {r : List ℕ} → Sheet (case_sorts name) texts 3 r → good_record texts r ≡ true
unfolding good_record good_case
case-good {texts} (sheet a b c m d e f g h i j (named p) (two pb pc) (timed pm pd) pe pf empty empty empty empty) =
    let bs : List Bool = flags a b c m d e f g i j in
    let r : List ℕ = 3 ∷ flags_of bs ∷ rest a b c m d e f g h i j in
    table.case-good texts r
    ∙ both (only-bits r bs (0 ∷ 1 ∷ 2 ∷ 3 ∷ 4 ∷ 5 ∷ 6 ∷ []) refl (omega arith))
    (both (bit-flag 0 bs)
    (both (common-good 3 a b c m d e f g h i j (placed p) pm pd)
    (both (outputs-good 3 a b c m d e f g h i j pb pc)
    (both (text-slot r 5 18 pe (bit-flag 5 bs) (refl, refl, refl)) (both (number-slot r 6 20 pf (bit-flag 6 bs) (refl, refl, refl)) refl)))))

-- a record that has the parts of its kind passes the layout's test for a record
pub sheet-good : {κ : ℕ} {S : Sorts} {texts r : List ℕ} → Final κ S → Sheet S texts κ r → good_record texts r ≡ true
unfolding bits_for
sheet-good report h = report-good h
sheet-good suite h = suite-good h
sheet-good case h = case-good h
sheet-good suite_property h = pair-good 4 (lit≤ tt) (lit≤ tt) refl h
sheet-good case_property h = pair-good 5 (lit≤ tt) (lit≤ tt) refl h
sheet-good failure h = main-good 6 (lit≤ tt) (lit≤ tt) (λ e f g. omega arith) h
sheet-good error h = main-good 7 (lit≤ tt) (lit≤ tt) (λ e f g. omega arith) h
sheet-good skipped h = main-good 8 (lit≤ tt) (lit≤ tt) (λ e f g. omega arith) h
sheet-good flaky_failure h = run-good 9 (lit≤ tt) (lit≤ tt) refl h
sheet-good flaky_error h = run-good 10 (lit≤ tt) (lit≤ tt) refl h
sheet-good rerun_failure h = run-good 11 (lit≤ tt) (lit≤ tt) refl h
sheet-good rerun_error h = run-good 12 (lit≤ tt) (lit≤ tt) refl h
sheet-good suite_extra h = pair-good 13 (lit≤ tt) (lit≤ tt) refl h
sheet-good case_extra h = pair-good 14 (lit≤ tt) (lit≤ tt) refl h
