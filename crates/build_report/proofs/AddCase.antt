-- A case more: the open suite's counts, its record, its name, and its main. Assumes nothing.
use Prim.Native.Nat.{ℕ, suc, ◌+◌, ◌*◌, ◌/◌, min}
use mathlib.Core.Bool.{Bool, true, false, cond, false≢true}
use mathlib.Core.List.{List, [], ◌∷◌, ◌++◌, append_assoc}
use mathlib.Core.Option.{Option, none, some}
use mathlib.Core.Path.{◌≡◌, refl, sym, ap, ap₂, subst, ◌∙◌}
use native.Mathlib.Omega.{arith}
use lib.Dec.{leb, ltb}
use lib.ListN.{length, length-set}
use Rattle.tree_placed.specs.of_refusal.Refusal.{nowhere, Outcome, accepted}
use Rattle.tree_placed.specs.of_refusal.declared.Cause.{Cause}
use Rattle.tree_placed.specs.of_refusal.declared.Cause.TheVariants as cause
use Rattle.tree_placed.specs.of_utf8.Utf8.{utf8}
use Rattle.tree_placed.specs.of_text_filter.Filter.{filtered, unfiltered}
use Rattle.tree_placed.proofs.of_text_filter.Filtering.{utf8-filtered, unfiltered-filtered}
use Rattle.tree_placed.specs.of_tree_record.Kinds as kind
use Rattle.build_draft.specs.of_tree_counts.declared.Counts.{Counts as Numbers}
use Rattle.build_draft.specs.of_tree_counts.declared.Outcome.{Outcome as Status}
use Rattle.build_draft.specs.of_tree_counts.declared.Outcome.TheVariants as status
use Rattle.build_draft.specs.of_tree_counts.Counts.{with_suite, with_case}
use Rattle.tree_placed.specs.of_tree_report.Report.{Text, Counts, TestSuite, Report}
use Rattle.tree_placed.specs.of_tree_report.inside.Cells.{Row, every, fits_row, case_row, status_rows, suite_row, rows_of}
use Rattle.tree_placed.proofs.of_tree_report.EncodeLists.{both}
use Rattle.tree_placed.specs.inside.Placed.{Placed, rows_in}
use Rattle.tree_placed.specs.inside.Changed.{blank_row, blank_placed, first_text_of}
use Rattle.build_draft.specs.declared.Builder.{Builder}
use Rattle.build_draft.specs.Draft.{Draft, ◌>>=◌, asks, room_for, bytes_for, is_of, with_builder, last_of}
use Rattle.build_draft.specs.Parts.{taking, naming, counts_at, counting}
use Rattle.build_draft.specs.Calls as call
use Rattle.build_report.specs.Operations as report
use Rattle.build_report.specs.Operations.{last_in, on_suite, with_cases, sum, one_more_of, new_case, new_status, has_main}
use Rattle.build_report.specs.Stands.{Marked, Stored, Stands, Comes, gives, Stand}
use Rattle.build_report.specs.Builders.{is_some, are_numbers, has_open_suite, open_counts, fits_records, mains_of, text_tests}
use Rattle.build_report.proofs.SpotTypes.{Spot}
use Rattle.build_report.proofs.Holding.{Holding, holding-marks, holding-more, one_more_record}
use Rattle.build_report.proofs.Storing.{holding, rows-many, room-test, is-of-at, stored, rows_append, last_taken}
use Rattle.build_report.proofs.Coming.{comes-tests}
use Rattle.build_report.proofs.Calling.{put_draft, taken_draft, asks-then, then-then, given-then, comes-same, comes-taking, comes-naming}
use Rattle.build_report.proofs.Marks.{suite-marked}
use Rattle.build_report.proofs.Spots.{spot-suite}
use Rattle.build_report.proofs.Elements.{rows-new-case, marked-new-case}
use Rattle.build_report.proofs.Counting.{numbers-case, with_counts}
use Rattle.build_report.proofs.Summing.{counted-suite, comes-passed, counts-at_spot, counting-is, stored-sums, room-sums, no-open-suite}
use Rattle.build_report.proofs.Naming.{fits-end, last-record, named-held, named-room}

-- ---- rows of a new case
case-row : (v : Text) (o : Status) (x : ℕ) → (first_text_of x v (blank_placed kind.case)).row ≡ case_row (new_case v o)
case-row v o x = refl

case-fits : (v : Text) (o : Status) → utf8 v ≡ true → unfiltered v ≡ true → fits_row (case_row (new_case v o)) ≡ true
unfolding fits_row
case-fits v o u c = both (both (both u c) refl) refl

main-fits : (κ : ℕ) → fits_row (blank_row κ) ≡ true
unfolding fits_row
main-fits κ = refl

-- the open suite with its counts raised
abbrev counted : Status → TestSuite → TestSuite
counted o t = with_cases t (sum t.counts (one_more_of o)) t.cases

-- the builder with a case more, and with its main
abbrev opened : Builder → Builder
opened b = call.marks b.report b.suite (last_of (one_more_record b)) nowhere (one_more_record b)

abbrev with_main : Builder → Builder
with_main b = call.marks b.report b.suite b.case (last_of (one_more_record b)) (one_more_record b)

-- ---- behind the counts
module _ {b : Builder} {words text : List ℕ} (r : Report) {w : TestSuite} (e : last_in r.suites ≡ some w) (m : Marked b r) (k : length (rows_of r) ≡ b.records) (o : Status) (name : List ℕ)
    (s : Stored b words text (on_suite (counted o) r)) where
  abbrev v : Text
  v = filtered name

  abbrev here : Draft
  here = record { builder = b; words = words; text = text }

  -- with the case's record, and with its name
  abbrev one : Draft
  one = with_builder (taken_draft kind.case here) (opened b)

  abbrev two : Draft
  two = put_draft (last_of (opened b)) 2 0 v one

  case-held : ltb b.records (room_for words) ≡ true → Holding (opened b) one.words text (s.placed ++ (blank_placed kind.case ∷ [])) s.texts
  case-held l = holding-marks (holding-more kind.case l (holding s)) refl refl

  module _ (l : ltb b.records (room_for words) ≡ true) (u : utf8 name ≡ true) (f : leb (b.bytes + length v) (bytes_for text) ≡ true) where
    two-held : Holding two.builder two.words two.text (s.placed ++ (first_text_of b.bytes v (blank_placed kind.case) ∷ [])) (s.texts ++ v)
    two-held = named-held s.placed (blank_placed kind.case) (case-held l) v (utf8-filtered name u) (unfiltered-filtered name) f

    two-room : room_for two.words ≡ room_for words
    two-room =
        named-room s.placed (blank_placed kind.case) (case-held l) v (utf8-filtered name u) (unfiltered-filtered name) f
        ∙ ap (λ (n : ℕ). min (n / 32) 65536) (length-set words (b.records * 32) kind.case)

    two-rows : rows_in (s.placed ++ (first_text_of b.bytes v (blank_placed kind.case) ∷ [])) ≡ rows_of (on_suite (counted o) r) ++ (case_row (new_case v o) ∷ [])
    two-rows = rows_append s.placed (first_text_of b.bytes v (blank_placed kind.case) ∷ []) ∙ ap (λ (rows : List Row). rows ++ (case_row (new_case v o) ∷ [])) s.rows

    two-fit : every fits_row (rows_of (on_suite (counted o) r) ++ (case_row (new_case v o) ∷ [])) ≡ true
    two-fit = fits-end (rows_of (on_suite (counted o) r)) (case_row (new_case v o)) s.sound (case-fits v o (utf8-filtered name u) (unfiltered-filtered name))

    -- no main is success
    without-main : status_rows (new_status o) ≡ [] → has_main (new_status o) ≡ false → Stand (report.add_test_case v o r) two
    without-main z y =
        let g : rows_of (report.add_test_case v o r) ≡ rows_of (on_suite (counted o) r) ++ (case_row (new_case v o) ∷ []) =
        rows-new-case r e v o ∙ ap (λ (rows : List Row). rows_of (on_suite (counted o) r) ++ (case_row (new_case v o) ∷ rows)) z in
        let j : last_of (one_more_record b) ≡ length (rows_of r) = last_taken b ∙ sym k in
        record {
          stored = stored (report.add_test_case v o r) two-held (two-rows ∙ sym g) (ap (every fits_row) g ∙ two-fit);
          marks = marked-new-case r e v o m.report (suite-marked r e m) j (sym (ap (λ (t : Bool). cond t (length (rows_of r) + 1) nowhere) y));
        }

    -- a main of kind κ
    module _ (κ : ℕ) where
      abbrev three : Draft
      three = with_builder (taken_draft κ two) (with_main two.builder)

      with-main : status_rows (new_status o) ≡ blank_row κ ∷ [] → has_main (new_status o) ≡ true → ltb two.builder.records (room_for two.words) ≡ true → Stand (report.add_test_case v o r) three
      with-main z y t =
          let rows : List Row = rows_of (on_suite (counted o) r) ++ (case_row (new_case v o) ∷ []) in
          let ps : List Placed = s.placed ++ (first_text_of b.bytes v (blank_placed kind.case) ∷ []) in
          let g : rows_of (report.add_test_case v o r) ≡ rows ++ (blank_row κ ∷ []) =
          rows-new-case r e v o ∙ ap (λ (l : List Row). rows_of (on_suite (counted o) r) ++ (case_row (new_case v o) ∷ l)) z
          ∙ sym (append_assoc (rows_of (on_suite (counted o) r)) (case_row (new_case v o) ∷ []) (blank_row κ ∷ [])) in
          let j : last_of (one_more_record b) ≡ length (rows_of r) = last_taken b ∙ sym k in
          let i : last_of (one_more_record two.builder) ≡ length (rows_of r) + 1 = omega arith in
          record {
            stored = stored (report.add_test_case v o r) (holding-marks (holding-more κ t two-held) refl refl)
                (rows_append ps (blank_placed κ ∷ []) ∙ ap (λ (l : List Row). l ++ (blank_row κ ∷ [])) two-rows ∙ sym g)
                (ap (every fits_row) g ∙ fits-end rows (blank_row κ) two-fit (main-fits κ));
            marks = marked-new-case r e v o m.report (suite-marked r e m) j (i ∙ sym (ap (λ (t : Bool). cond t (length (rows_of r) + 1) nowhere) y));
          }

      -- its record taken
      comes-main : {room : ℕ} → room_for two.words ≡ room → status_rows (new_status o) ≡ blank_row κ ∷ [] → has_main (new_status o) ≡ true
          → Comes (Stand (report.add_test_case v o r)) ((leb (length (rows_of r) + 2) room, cause.RecordsSpent) ∷ [])
          (taking κ two >>= λ d. accepted (with_builder d (call.marks d.builder.report d.builder.suite d.builder.case (last_of d.builder) d.builder)))
      comes-main {room} x z y =
          let c : suc (b.records + 1) ≡ length (rows_of r) + 2 = omega arith in
          let q : ltb two.builder.records (room_for two.words) ≡ leb (length (rows_of r) + 2) room = λ i. leb (c i) (x i) in
          comes-taking two (λ d. accepted (with_builder d (call.marks d.builder.report d.builder.suite d.builder.case (last_of d.builder) d.builder)))
          κ (leb (length (rows_of r) + 2) room) q
          (λ t. gives (with-main z y (q ∙ t)))

-- ---- the main, by the status
module _ {b : Builder} {words text : List ℕ} (r : Report) {w : TestSuite} (e : last_in r.suites ≡ some w) (m : Marked b r) (k : length (rows_of r) ≡ b.records) (name : List ℕ)
    {room : ℕ} (x : room_for words ≡ room) where
  comes-status : (o : Status) (s : Stored b words text (on_suite (counted o) r)) → leb (length (rows_of r) + 1) room ≡ true → ltb b.records (room_for words) ≡ true → utf8 name ≡ true
      → leb (b.bytes + length (filtered name)) (bytes_for text) ≡ true
      → Comes (Stand (report.add_test_case (filtered name) o r)) ((leb (length (rows_of r) + (1 + mains_of o)) room, cause.RecordsSpent) ∷ []) (call.open_main o (two r e m k o name s))
  unfolding call.open_main
  comes-status status.Success s y l u f = comes-passed cause.RecordsSpent y (gives (without-main r e m k status.Success name s l u f refl refl))
  comes-status status.Failure s y l u f = comes-main r e m k status.Failure name s l u f kind.failure (two-room r e m k status.Failure name s l u f ∙ x) refl refl
  comes-status status.Error s y l u f = comes-main r e m k status.Error name s l u f kind.error (two-room r e m k status.Error name s l u f ∙ x) refl refl
  comes-status status.Skipped s y l u f = comes-main r e m k status.Skipped name s l u f kind.skipped (two-room r e m k status.Skipped name s l u f ∙ x) refl refl

-- ---- the whole call
module _ {b : Builder} {words text : List ℕ} {r : Report} (n : Stands b words text r) (name : List ℕ) (o : Status) where
  abbrev draft : Draft
  draft = record { builder = b; words = words; text = text }

  abbrev taken : Draft → Outcome Draft
  taken d = taking kind.case d >>= λ f. accepted (with_builder f (call.marks f.builder.report f.builder.suite (last_of f.builder) nowhere f.builder))

  abbrev named : Draft → Outcome Draft
  named d = naming name d >>= call.open_main o

  abbrev rest : List (Bool × Cause)
  rest = (fits_records 1 r words, cause.RecordsSpent) ∷ text_tests b.bytes name text ((fits_records (1 + mains_of o) r words, cause.RecordsSpent) ∷ [])

  -- the record, the name and the main, behind the counts
  comes-taken : {w : TestSuite} → last_in r.suites ≡ some w → {words' : List ℕ} → Stored b words' text (on_suite (counted o) r) → room_for words' ≡ room_for words
      → Comes (Stand (report.add_test_case (filtered name) o r)) rest (taken (record { builder = b; words = words'; text = text }) >>= named)
  comes-taken e {words'} s x =
      let d : Draft = record { builder = b; words = words'; text = text } in
      let g : Draft → Outcome Draft = λ f. accepted (with_builder f (call.marks f.builder.report f.builder.suite (last_of f.builder) nowhere f.builder)) in
      let k : length (rows_of r) ≡ b.records = rows-many n.stored in
      let q : ltb b.records (room_for words') ≡ fits_records 1 r words = room-test s ∙ (λ i. leb ((rows-many s ∙ sym k) i + 1) (x i)) in
      let h : Draft = one r e n.marks k o name s in
      comes-same (then-then (taking kind.case d) g named)
      (comes-taking d (λ f. g f >>= named) kind.case (fits_records 1 r words) q
      (λ l. comes-same (given-then h named)
      (comes-naming h (call.open_main o) name (last-record s.placed (blank_placed kind.case) (case-held r e n.marks k o name s (q ∙ l)))
      (λ u f. comes-status r e n.marks k name x o s l (q ∙ l) u f))))

  comes-counted : {w : TestSuite} → last_in r.suites ≡ some w
      → Comes (Stand (report.add_test_case (filtered name) o r)) ((are_numbers (sum (open_counts (last_in r.suites)) (one_more_of o)), cause.CountLimit) ∷ rest)
      ((counting b.suite (with_case (counts_at words b.suite) o) draft >>= taken) >>= named)
  comes-counted {w} e =
      let s = n.stored in
      let c : Counts = sum w.counts (one_more_of o) in
      let t : Spot r b.suite (suite_row w) (on_suite (counted o) r) (with_counts c (suite_row w)) =
      subst (λ (i : ℕ). Spot r i (suite_row w) (on_suite (counted o) r) (with_counts c (suite_row w))) (sym (suite-marked r e n.marks)) (spot-suite (counted o) r e refl refl refl) in
      let q : are_numbers c ≡ are_numbers (sum (open_counts (last_in r.suites)) (one_more_of o)) = ap (λ (u : Option TestSuite). are_numbers (sum (open_counts u) (one_more_of o))) (sym e) in
      comes-same
      (then-then (counting b.suite (with_case (counts_at words b.suite) o) draft) taken named
      ∙ ap₂ (λ (x y : Numbers). counting b.suite (with_suite x y) draft >>= λ d. taken d >>= named) (counts-at_spot s t w.counts (counted-suite w)) (numbers-case o)
      ∙ counting-is b.suite w.counts (one_more_of o) draft (λ d. taken d >>= named))
      (comes-tests (are_numbers c) (are_numbers (sum (open_counts (last_in r.suites)) (one_more_of o))) cause.CountLimit q
      (λ g. comes-taken e (stored-sums (one_more_of o) s (counted-suite w) t (q ∙ g)) (room-sums (one_more_of o) s (counted-suite w) t)))

  pub add_test_case : Comes (Stand (report.add_test_case (filtered name) o r))
      ((has_open_suite r, cause.NotLayout)
      ∷ (are_numbers (sum (open_counts (last_in r.suites)) (one_more_of o)), cause.CountLimit)
      ∷ (fits_records 1 r words, cause.RecordsSpent)
      ∷ text_tests b.bytes name text ((fits_records (1 + mains_of o) r words, cause.RecordsSpent) ∷ []))
      (call.add_test_case name o draft)
  unfolding call.add_test_case call.open_case
  add_test_case =
      comes-same (then-then (call.open_case o draft) (naming name) (call.open_main o)
      ∙ asks-then (is_of b words b.suite kind.suite) cause.NotLayout (counting b.suite (with_case (counts_at words b.suite) o) draft >>= taken) named)
      (go (last_in r.suites) refl)
    where
      go : (u : Option TestSuite) → last_in r.suites ≡ u
          → Comes (Stand (report.add_test_case (filtered name) o r)) ((has_open_suite r, cause.NotLayout) ∷ (are_numbers (sum (open_counts (last_in r.suites)) (one_more_of o)), cause.CountLimit) ∷ rest)
          (asks (is_of b words b.suite kind.suite) cause.NotLayout ((counting b.suite (with_case (counts_at words b.suite) o) draft >>= taken) >>= named))
      go none e =
          let z : has_open_suite r ≡ false = ap is_some e in
          comes-tests (is_of b words b.suite kind.suite) (has_open_suite r) cause.NotLayout (no-open-suite n e ∙ sym z) (λ y. absurd (false≢true (sym z ∙ y)))
      go (some w) e =
          let v : Spot r b.suite (suite_row w) (on_suite (λ x. x) r) (suite_row w) =
          subst (λ (i : ℕ). Spot r i (suite_row w) (on_suite (λ x. x) r) (suite_row w)) (sym (suite-marked r e n.marks)) (spot-suite (λ x. x) r e refl refl refl) in
          comes-tests (is_of b words b.suite kind.suite) (has_open_suite r) cause.NotLayout (is-of-at n.stored v kind.suite ∙ sym (ap is_some e)) (λ y. comes-counted e)
