-- Counts raised: what the parts of a call that count come to. Assumes nothing.
use Prim.Native.Nat.{ℕ, ◌/◌, min}
use mathlib.Core.Bool.{Bool, true, false, cond, ◌&&◌}
use mathlib.Core.List.{List, ◌∷◌, ◌++◌}
use mathlib.Core.Option.{Option, none, some}
use mathlib.Core.Path.{◌≡◌, refl, sym, ap, ap₂, subst, ◌∙◌}
use lib.Dec.{eqb}
use lib.ListN.{length}
use Rattle.tree_placed.specs.of_refusal.Refusal.{nowhere, Outcome, accepted, refused, late}
use Rattle.tree_placed.specs.of_refusal.declared.Cause.{Cause}
use Rattle.tree_placed.specs.of_refusal.declared.Cause.TheVariants as cause
use Rattle.tree_placed.specs.of_utf8.Characters.{joined}
use Rattle.tree_placed.specs.of_tree_record.Kinds as kind
use Rattle.tree_placed.specs.of_tree_report.Report.{Counts, TestSuite, Report}
use Rattle.tree_placed.specs.of_tree_report.inside.Cells.{Row, suite_row, report_row}
use Rattle.tree_placed.specs.inside.Placed.{Placed, record_of_it, records_in, InTexts}
use Rattle.tree_placed.proofs.Putting.{record-length}
use Rattle.build_draft.specs.of_tree_counts.declared.Counts.{Counts as Numbers}
use Rattle.build_draft.specs.of_tree_counts.Counts.{are_counts, limited, with_suite}
use Rattle.build_draft.specs.declared.Builder.{Builder}
use Rattle.build_draft.specs.Draft.{Draft, ◌>>=◌, asks, room_for, is_record, kind_at, is_of, on_record_of, with_words}
use Rattle.build_draft.specs.Parts.{counts_at, put_counts, counting, summing}
use Rattle.build_report.specs.Operations.{last_in, on_suite, with_sums, sum, summed_with, summed}
use Rattle.build_report.specs.Stands.{Stored, Stands, Comes, passes}
use Rattle.build_report.specs.Builders.{are_numbers}
use Rattle.build_report.proofs.Areas.{area-length, on_record}
use Rattle.build_report.proofs.Holding.{Holding, records-at, split-sized, split-words, split-room, each_back, each-head}
use Rattle.build_report.proofs.Reading.{counts-held}
use Rattle.build_report.proofs.SpotTypes.{Spot}
use Rattle.build_report.proofs.Storing.{before-many, at-spot, is-of-at, row_fits, nowhere-record, Becomes, stored-set}
use Rattle.build_report.proofs.Becoming.{becomes_on}
use Rattle.build_report.proofs.Coming.{comes-tests}
use Rattle.build_report.proofs.Calling.{comes-same}
use Rattle.build_report.proofs.Marks.{no-suite, suite-marked}
use Rattle.build_report.proofs.Spots.{spot-report, spot-suite}
use Rattle.build_report.proofs.Counting.{numbers_of, numbers-sum, Counted, with_counts, counts-read, counts-become, sum-none, counts-fit, fits-counts}

pub counted-report : (r : Report) → Counted r.counts (report_row r)
counted-report r = record { tests = refl; failures = refl; errors = refl; skipped = refl; disabled = refl }

pub counted-suite : (s : TestSuite) → Counted s.counts (suite_row s)
counted-suite s = record { tests = refl; failures = refl; errors = refl; skipped = refl; disabled = refl }

-- a test that passes in any case
pub comes-passed : {Q : Draft → Type 0} {ts : List (Bool × Cause)} {m : Outcome Draft} {u : Bool} (why : Cause) → u ≡ true → Comes Q ts m → Comes Q ((u, why) ∷ ts) m
comes-passed {Q} {ts} {m} why e c = subst (λ (t : Bool). Comes Q ((t, why) ∷ ts) m) (sym e) (passes c)

-- a store into a record leaves the area as long as it was
pub length-held : {b : Builder} {words text texts : List ℕ} (front : List Placed) (p : Placed) (back : List Placed) {i : ℕ} → length front ≡ i → Holding b words text (front ++ (p ∷ back)) texts
    → (q : Placed) (g : List ℕ → List ℕ) → ((z : List ℕ) → g (record_of_it p ++ z) ≡ record_of_it q ++ z) → length (on_record_of i g words) ≡ length words
length-held {words = words} front p back {i} at h q g e =
    ap length
    (ap (on_record_of i g) (split-words front (p ∷ back) h)
    ∙ on_record (length words) (records_in front) (record_of_it p) (records_in back) (records-at front at) (split-sized front (p ∷ back)) (split-room front (p ∷ back) h) (record_of_it q) (record-length q) g e)
    ∙ area-length (length words) (joined (records_in front ++ (record_of_it q ∷ records_in back)))

-- ---- at the place of a row
module _ {b : Builder} {words text : List ℕ} {r r' : Report} {i : ℕ} {row row' : Row} (s : Stored b words text r) (t : Spot r i row r' row') where
  pub counts-at_spot : (c : Counts) → Counted c row → counts_at words i ≡ numbers_of c
  counts-at_spot c k =
      let d = at-spot s t in
      counts-held d.before d.here d.behind (before-many d t.at) d.held ∙ counts-read d.here c (subst (λ (x : Row). Counted c x) (sym d.row_is) k)

  pub length-at_spot : (g : List ℕ → List ℕ) → ((p : Placed) → p.row ≡ row → InTexts s.texts p → Becomes g s.texts p row') → length (on_record_of i g words) ≡ length words
  length-at_spot g f =
      let d = at-spot s t in
      let a = f d.here d.row_is (each-head (each_back d.before (d.here ∷ d.behind) d.held.standing)) in
      length-held d.before d.here d.behind (before-many d t.at) d.held a.after g a.put

-- ---- counts of a record raised, or 17
limited-then : (c : Numbers) (f : Numbers → Outcome Draft) → (limited c >>= f) ≡ asks (are_counts c) cause.CountLimit (f c)
unfolding asks ◌>>=◌
limited-then c f = go (are_counts c) f
  where
    go : (t : Bool) (f : Numbers → Outcome Draft) → (cond t (accepted c) (refused (late cause.CountLimit)) >>= f) ≡ asks t cause.CountLimit (f c)
    go true f = refl
    go false f = refl

counting-then : (i : ℕ) (o : Outcome Numbers) (d : Draft) (f : Draft → Outcome Draft) → (counting i o d >>= f) ≡ (o >>= λ k. f (with_words d (on_record_of i (put_counts k) d.words)))
unfolding counting ◌>>=◌
counting-then i (accepted k) d f = refl
counting-then i (refused w) d f = refl

added_is : (a c : Counts) → with_suite (numbers_of a) (numbers_of c) ≡ limited (numbers_of (sum a c))
unfolding with_suite
added_is a c = ap limited (numbers-sum a c)

pub counting-is : (i : ℕ) (a c : Counts) (d : Draft) (f : Draft → Outcome Draft) → (counting i (with_suite (numbers_of a) (numbers_of c)) d >>= f)
    ≡ asks (are_numbers (sum a c)) cause.CountLimit (f (with_words d (on_record_of i (put_counts (numbers_of (sum a c))) d.words)))
counting-is i a c d f =
    let g : Numbers → Outcome Draft = λ k. f (with_words d (on_record_of i (put_counts k) d.words)) in
    counting-then i (with_suite (numbers_of a) (numbers_of c)) d f ∙ ap (λ (o : Outcome Numbers). o >>= g) (added_is a c) ∙ limited-then (numbers_of (sum a c)) g

module _ {b : Builder} {words text : List ℕ} {r r' : Report} {i : ℕ} {row : Row} {a : Counts} (c : Counts) (s : Stored b words text r) (k : Counted a row)
    (t : Spot r i row r' (with_counts (sum a c) row)) where
  -- the sums in the row's place
  sums_become : (p : Placed) → p.row ≡ row → InTexts s.texts p → Becomes (put_counts (numbers_of (sum a c))) s.texts p (with_counts (sum a c) row)
  sums_become p e h =
      becomes_on (counts-become h (subst (λ (x : Row). Counted a x) (sym e) k) (sum a c) (sum-none a.disabled c.disabled)) (ap (with_counts (sum a c)) e)

  pub stored-sums : are_numbers (sum a c) ≡ true → Stored b (on_record_of i (put_counts (numbers_of (sum a c))) words) text r'
  stored-sums e = stored-set s t (put_counts (numbers_of (sum a c))) (counts-fit row (sum a c) (row_fits s t) e) sums_become

  pub room-sums : room_for (on_record_of i (put_counts (numbers_of (sum a c))) words) ≡ room_for words
  room-sums = ap (λ (n : ℕ). min (n / 32) 65536) (length-at_spot s t (put_counts (numbers_of (sum a c))) sums_become)

-- no record is the open suite's where none is open
pub no-open-suite : {b : Builder} {words text : List ℕ} {r : Report} → Stands b words text r → last_in r.suites ≡ none → is_of b words b.suite kind.suite ≡ false
unfolding is_of
no-open-suite {b} {words} {r = r} n e =
    ap (λ (i : ℕ). is_record b words i && eqb (kind_at words i) kind.suite) (no-suite r e n.marks).0
    ∙ ap (λ (t : Bool). t && eqb (kind_at words nowhere) kind.suite) (nowhere-record n.stored)

-- ---- the open suite added to the report's sums
module _ {b : Builder} {words text : List ℕ} {r : Report} (n : Stands b words text r) {Q : Draft → Type 0} {ts : List (Bool × Cause)} (f : Draft → Outcome Draft)
    (h : (words' : List ℕ) → Stored b words' text (summed r) → room_for words' ≡ room_for words → Comes Q ts (f (record { builder = b; words = words'; text = text }))) where
  abbrev draft : Draft
  draft = record { builder = b; words = words; text = text }

  -- no suite is open
  summing-none : is_of b words b.suite kind.suite ≡ false → (summing draft >>= f) ≡ f draft
  unfolding summing ◌>>=◌
  summing-none e = rw e refl

  summing-some : is_of b words b.suite kind.suite ≡ true → (summing draft >>= f) ≡ (counting b.report (with_suite (counts_at words b.report) (counts_at words b.suite)) draft >>= f)
  unfolding summing
  summing-some e = rw e refl

  pub comes-summing : Comes Q ((are_numbers (summed r).counts, cause.CountLimit) ∷ ts) (summing draft >>= f)
  comes-summing = go (last_in r.suites) refl
    where
      s : Stored b words text r
      s = n.stored

      go : (o : Option TestSuite) → last_in r.suites ≡ o → Comes Q ((are_numbers (summed r).counts, cause.CountLimit) ∷ ts) (summing draft >>= f)
      go none e =
          let q : summed r ≡ r = ap (λ (o : Option TestSuite). summed_with o r) e in
          comes-passed cause.CountLimit
          (ap (λ (x : Report). are_numbers x.counts) q ∙ fits-counts (report_row r) r.counts (row_fits s (spot-report r r refl)) (counted-report r))
          (comes-same (summing-none (no-open-suite n e)) (h words (subst (λ (x : Report). Stored b words text x) (sym q) s) refl))
      go (some u) e =
          let c : Counts = sum r.counts u.counts in
          let q : summed r ≡ with_sums r c = ap (λ (o : Option TestSuite). summed_with o r) e in
          let t : Spot r b.report (report_row r) (with_sums r c) (with_counts c (report_row r)) =
          subst (λ (i : ℕ). Spot r i (report_row r) (with_sums r c) (with_counts c (report_row r))) (sym n.marks.report) (spot-report r (with_sums r c) refl) in
          let v : Spot r b.suite (suite_row u) (on_suite (λ x. x) r) (suite_row u) =
          subst (λ (i : ℕ). Spot r i (suite_row u) (on_suite (λ x. x) r) (suite_row u)) (sym (suite-marked r e n.marks)) (spot-suite (λ x. x) r e refl refl refl) in
          comes-same
          (summing-some (is-of-at s v kind.suite)
          ∙ ap₂ (λ (x y : Numbers). counting b.report (with_suite x y) draft >>= f) (counts-at_spot s t r.counts (counted-report r)) (counts-at_spot s v u.counts (counted-suite u))
          ∙ counting-is b.report r.counts u.counts draft f)
          (comes-tests (are_numbers c) (are_numbers (summed r).counts) cause.CountLimit (sym (ap (λ (x : Report). are_numbers x.counts) q))
          (λ g. h (on_record_of b.report (put_counts (numbers_of c)) words)
          (subst (λ (x : Report). Stored b (on_record_of b.report (put_counts (numbers_of c)) words) text x) (sym q)
          (stored-sums u.counts s (counted-report r) t (sym (ap (λ (x : Report). are_numbers x.counts) q) ∙ g)))
          (room-sums u.counts s (counted-report r) t)))
