-- A suite more: the one before is added to the sums, and the new one is open. Assumes nothing.
use Prim.Native.Nat.{ℕ, ◌+◌}
use mathlib.Core.Bool.{Bool, true}
use mathlib.Core.List.{List, [], ◌∷◌, ◌++◌}
use mathlib.Core.Path.{◌≡◌, refl, sym, ap, ◌∙◌}
use lib.Dec.{leb, ltb}
use lib.ListN.{length}
use Rattle.tree_placed.specs.of_refusal.Refusal.{nowhere, Outcome, accepted}
use Rattle.tree_placed.specs.of_refusal.declared.Cause.TheVariants as cause
use Rattle.tree_placed.specs.of_utf8.Utf8.{utf8}
use Rattle.tree_placed.specs.of_text_filter.Filter.{filtered, unfiltered}
use Rattle.tree_placed.proofs.of_text_filter.Filtering.{utf8-filtered, unfiltered-filtered}
use Rattle.tree_placed.specs.of_tree_record.Kinds as kind
use Rattle.tree_placed.specs.of_tree_report.Report.{Text, Report}
use Rattle.tree_placed.specs.of_tree_report.inside.Cells.{fits_row, suite_row}
use Rattle.tree_placed.proofs.of_tree_report.EncodeLists.{both, done, more, each_append}
use Rattle.tree_placed.specs.inside.Placed.{Placed, record_of_it, records_in}
use Rattle.tree_placed.specs.inside.Changed.{blank_places, blank_placed, at_first_of, first_text_of}
use Rattle.build_draft.specs.declared.Builder.{Builder}
use Rattle.build_draft.specs.Draft.{Draft, ◌>>=◌, room_for, bytes_for, is_of, with_builder, last_of}
use Rattle.build_draft.specs.Parts.{taking, summing, naming}
use Rattle.build_draft.specs.Calls as call
use Rattle.build_report.specs.Operations as report
use Rattle.build_report.specs.Operations.{summed, new_suite}
use Rattle.build_report.specs.Stands.{Stored, Stands, Comes, gives, Stand}
use Rattle.build_report.specs.Builders.{are_numbers, fits_records, text_tests}
use Rattle.build_report.proofs.Holding.{Holding, holding-marks, holding-more, one_more_record, each-front, records-append}
use Rattle.build_report.proofs.Storing.{holding, rows-many, room-test, stored_more, last_taken}
use Rattle.build_report.proofs.Coming.{comes-anyway}
use Rattle.build_report.proofs.Calling.{put_draft, taken_draft, asks-then, then-then, given-then, comes-same, comes-taking, comes-naming, comes-last}
use Rattle.build_report.proofs.Elements.{with_suite, rows-new-suite, marked-new-suite}
use Rattle.build_report.proofs.Summing.{comes-summing}
use Rattle.build_report.proofs.Naming.{same-records, last-record, name-stands, named-held}
use Rattle.build_report.proofs.Finish.{is-report}

-- a new suite's row has the record of a suite that has a name only
abbrev suite_placed : ℕ → Text → Placed
suite_placed x v = record { places = at_first_of x blank_places; row = suite_row (new_suite v) }

suite-record : (x : ℕ) (v : Text) → record_of_it (first_text_of x v (blank_placed kind.suite)) ≡ record_of_it (suite_placed x v)
unfolding record_of_it
suite-record x v = refl

suite-fits : (v : Text) → utf8 v ≡ true → unfiltered v ≡ true → fits_row (suite_row (new_suite v)) ≡ true
unfolding fits_row
suite-fits v u c = both (both (both u c) refl) refl

-- the builder with a suite more
abbrev opened : Builder → Builder
opened b = call.marks b.report (last_of (one_more_record b)) nowhere nowhere (one_more_record b)

-- ---- behind the sums
module _ {b : Builder} {words text : List ℕ} {q : Report} (s : Stored b words text q) (name : List ℕ) where
  abbrev here : Draft
  here = record { builder = b; words = words; text = text }

  abbrev grown : Draft
  grown = with_builder (taken_draft kind.suite here) (opened b)

  taken-held : ltb b.records (room_for words) ≡ true → Holding (opened b) grown.words text (s.placed ++ (blank_placed kind.suite ∷ [])) s.texts
  taken-held l = holding-marks (holding-more kind.suite l (holding s)) refl refl

  named-suite : b.report ≡ 0 → ltb b.records (room_for words) ≡ true → utf8 name ≡ true → leb (b.bytes + length (filtered name)) (bytes_for text) ≡ true
      → Stand (with_suite q (filtered name)) (put_draft (last_of (opened b)) 2 0 (filtered name) grown)
  named-suite e l u f =
      let v : Text = filtered name in
      let w = utf8-filtered name u in
      let c = unfiltered-filtered name in
      let h = taken-held l in
      let k = named-held s.placed (blank_placed kind.suite) h v w c f in
      let j = same-records k
      (records-append s.placed (first_text_of b.bytes v (blank_placed kind.suite) ∷ [])
      ∙ ap (λ (r : List ℕ). records_in s.placed ++ (r ∷ [])) (suite-record b.bytes v)
      ∙ sym (records-append s.placed (suite_placed b.bytes v ∷ [])))
      (each_append (each-front s.placed (first_text_of b.bytes v (blank_placed kind.suite) ∷ []) k.standing)
      (more (record { first = name-stands s.placed (blank_placed kind.suite) h v w c f; out = tt; err = tt; second = tt; third = tt; fourth = tt; seventh = tt }) done)) in
      record {
        stored = stored_more s (suite_placed b.bytes v) j refl (rows-new-suite q v) (suite-fits v w c);
        marks = marked-new-suite q v e (last_taken b ∙ sym (rows-many s)) refl refl;
      }

  -- its record taken, and its name
  add-suite : b.report ≡ 0 → (u : Bool) → ltb b.records (room_for words) ≡ u
      → Comes (Stand (with_suite q (filtered name))) ((u, cause.RecordsSpent) ∷ text_tests b.bytes name text [])
      ((taking kind.suite here >>= λ f. accepted (with_builder f (call.marks f.builder.report (last_of f.builder) nowhere nowhere f.builder))) >>= naming name)
  add-suite e u t =
      let g : Draft → Outcome Draft = λ f. accepted (with_builder f (call.marks f.builder.report (last_of f.builder) nowhere nowhere f.builder)) in
      comes-same (then-then (taking kind.suite here) g (naming name))
      (comes-taking here (λ f. g f >>= naming name) kind.suite u t
      (λ l. comes-same (given-then grown (naming name))
      (comes-last (naming name grown)
      (comes-naming grown (λ d. accepted d) name (last-record s.placed (blank_placed kind.suite) (taken-held (t ∙ l)))
      (λ w f. gives (named-suite e (t ∙ l) w f))))))

pub add_test_suite : {b : Builder} {words text : List ℕ} {r : Report} → Stands b words text r → (name : List ℕ)
    → Comes (Stand (report.add_test_suite (filtered name) r))
    ((are_numbers (report.summed r).counts, cause.CountLimit) ∷ (fits_records 1 r words, cause.RecordsSpent) ∷ text_tests b.bytes name text [])
    (call.add_test_suite name (record { builder = b; words = words; text = text }))
unfolding call.add_test_suite call.open_suite
add_test_suite {b} {words} {text} {r} n name =
    let d : Draft = record { builder = b; words = words; text = text } in
    let k : Draft → Outcome Draft = λ e. taking kind.suite e >>= λ f. accepted (with_builder f (call.marks f.builder.report (last_of f.builder) nowhere nowhere f.builder)) in
    comes-same (asks-then (is_of b words b.report kind.report) cause.NotLayout (summing d >>= k) (naming name))
    (comes-anyway (is_of b words b.report kind.report) cause.NotLayout (is-report n)
    (comes-same (then-then (summing d) k (naming name))
    (comes-summing n (λ e. k e >>= naming name) (λ words' s l.
    add-suite s name n.marks.report (fits_records 1 r words)
    (room-test s ∙ (λ i. leb ((rows-many s ∙ sym (rows-many n.stored)) i + 1) (l i)))))))
