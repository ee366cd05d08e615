-- The cases of a suite, read back. Assumes nothing.
use Prim.Native.Nat.{ℕ}
use mathlib.Core.Bool.{true}
use mathlib.Core.List.{List, [], ◌∷◌}
use mathlib.Core.Path.{◌≡◌}
use Rattle.round_rooms.specs.of_tree_report.Report.{TestCase}
use Rattle.round_rooms.specs.of_tree_report.inside.Cells.{every, fits_row, case_rows}
use Rattle.round_rooms.proofs.of_tree_report.EncodeLists.{Each, done, more}
use Rattle.round_rooms.specs.of_read_state.Control.{suite}
use Rattle.round_rooms.specs.of_read_machine.Machine.{Machine}
use Rattle.round_rooms.specs.of_write_report.Written.{each, serialize_test_case, numbered}
use Rattle.round_case.specs.of_round_elements.inside.Read.{Stands, CaseRecords}
use Rattle.round_case.specs.of_round_elements.inside.PlainCase.{PlainCase}
use Rattle.round_case.proofs.Cases.{case-read}
use Rattle.round_report.proofs.Leading.{behind, numbered-append}
use Rattle.round_report.proofs.Reading.{Sight, Reads, reads_same, reads_none, reads_then}
use Rattle.round_report.proofs.Shown.{CasesShown, no-case, a_case, case-on}

abbrev One : TestCase → Sight
One c texts rs = CaseRecords texts rs c

abbrev All : List TestCase → Sight
All cs texts rs = CasesShown texts rs cs

one-case : (n i : ℕ) (c : TestCase) → every fits_row (case_rows c) ≡ true → PlainCase c → (records : List (List ℕ)) (texts : List ℕ) (s : Machine) → Stands suite i records texts s
    → Reads (numbered n (serialize_test_case c)) s (Stands suite i) (One c) records texts
one-case n i c f p records texts s h =
    let o = case-read c f p n i records texts s h in
    record { rows = o.rows; added = o.added; goes = record { after = o.after; leads = o.leads; holds = o.stands }; read = o.read }

pub cases-read : (n i : ℕ) {cs : List TestCase} → Each (λ c. (every fits_row (case_rows c) ≡ true) × PlainCase c) cs
    → (records : List (List ℕ)) (texts : List ℕ) (s : Machine) → Stands suite i records texts s
    → Reads (numbered n (each serialize_test_case cs)) s (Stands suite i) (All cs) records texts
unfolding numbered
cases-read n i done records texts s h = reads_none (Stands suite i) (All []) records texts s h no-case
cases-read n i (more {x = c} {xs = cs} g gs) records texts s h =
    reads_same (numbered-append n (serialize_test_case c) (each serialize_test_case cs))
    (reads_then (Stands suite i) (One c) records texts (Stands suite i) (All cs) (All (c ∷ cs))
    (numbered n (serialize_test_case c)) (numbered (behind n (serialize_test_case c)) (each serialize_test_case cs)) s
    (one-case n i c g.0 g.1 records texts s h)
    (cases-read (behind n (serialize_test_case c)) i gs)
    (λ v w rs qs a b. a_case (case-on v w rs c a) b))
