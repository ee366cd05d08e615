-- Demand 1, whole: each of its claims holds. Assumes nothing.
use Prim.Native.Nat.{ℕ}
use mathlib.Core.Path.{◌≡◌, refl}
use mathlib.Core.List.{List, [], ◌∷◌}
use mathlib.Core.Bool.{Bool, true, false, cond}
use native.Mathlib.Omega.{arith}
use lib.Dec.{ltb}
use Rattle.explain_text.specs.of_area.Area.{zeros}
use Rattle.explain_text.specs.of_area.Answer.{Answer, gives, refuses as fails}
use Rattle.explain_text.specs.of_refusal.Refusal.{Refused, Outcome, accepted, refused}
use Rattle.explain_text.specs.of_refusal.declared.Cause.TheVariants as cause
use Rattle.explain_text.specs.of_tree_report.Layout.{layout}
use Rattle.tree_merge.specs.of_tree_counts.declared.Counts.{Counts}
use Rattle.tree_merge.specs.of_tree_counts.Counts.{case_counts, with_suite, kept}
use Rattle.tree_merge.specs.of_starts.declared.Extent.{Extent}
use Rattle.tree_merge.specs.of_starts.Starts.{not_found_of, starts_of}
use Rattle.tree_merge.specs.of_starts.Answer.{given_of}
use Rattle.xml_answer.specs.of_write_table.Laid.{fits}
use Rattle.xml_answer.specs.of_write_answer.Answer.{Sizes, wrote, events_left, attributes_left, bytes_left, writing_answer, left_for}
use Rattle.xml_answer.specs.of_write_answer.Answer as writing
use Rattle.port_values.specs.Codes.{outcome_at}
use Rattle.order_report.specs.declared.Order.{Order}
use Rattle.order_report.specs.Rehearsal.{stated}
use Rattle.order_report.specs.Answer.{most_cases, ordered_table, order_answer, ordered, events_ordered, attributes_ordered, bytes_ordered}
use Rattle.call_claims.specs.Demand1.{Late, Ends, completes, WriteZero, OrderZero, coded_case, Demand1, answer_to}
use Rattle.call_claims.proofs.TokenCall.{tokenize-ends}
use Rattle.call_claims.proofs.ReadCall.{numbered, read-zero, read-placed}
use Rattle.call_claims.proofs.LateCalls.{Within, ends, ends-leaving, within-late, within-cond, within-suite}
use Rattle.call_claims.proofs.ListCalls.{list-ends, write-xml-ends, explain-ends, explain-xml-ends, time-text-ends, once-ends}
use Rattle.call_claims.proofs.SheetCalls.{release-ends, print-ends}
use Rattle.call_claims.proofs.XmlCall.{document-ends, table-ends}
use Rattle.call_claims.proofs.MergeCall.{merge-ends}
use Rattle.call_claims.proofs.BuilderCalls.{unnamed-ends, new-ends, builder-calls}
use Rattle.call_claims.proofs.CodedCalls.{within-coded, coded-calls}

-- ---- writing
left-zero : (x : Answer Sizes) (n : ℕ) (f : List ℕ) (why : Refused) → writing.outcome_of x ≡ refused why → left_for x n f ≡ zeros n
left-zero (gives s) n f why e = let z : ◌≡◌ {A = ℕ} 0 1 = cc in absurd (omega arith)
left-zero (fails c) n f why e = refl

within-writing : (b c : Bool) (s : Sizes) → Within (15 ∷ 16 ∷ []) (writing.outcome_of (cond b (cond c (gives s) (fails cause.OutputFull)) (fails cause.NotLayout)))
within-writing true true s = completes
within-writing true false s = within-late cause.OutputFull refl
within-writing false c s = within-late cause.NotLayout refl

write-ends : (words text : List ℕ) (events attributes bytes : ℕ) → Ends (Late (15 ∷ 16 ∷ [])) (WriteZero words text events attributes bytes) (wrote words text events attributes bytes)
unfolding writing_answer events_left attributes_left bytes_left
write-ends words text events attributes bytes =
    let x = writing_answer words text events attributes bytes in
    ends-leaving (within-writing (layout words text) (fits (writing.table_of words text) events attributes bytes) _) λ why e.
    record { events = left-zero x events _ why e; attributes = left-zero x attributes _ why e; bytes = left-zero x bytes _ why e }

-- ---- a report to order
within-ordering : (b c d : Bool) (s : Sizes)
    → Within (16 ∷ 23 ∷ 24 ∷ []) (writing.outcome_of (cond b (fails cause.TooManyCases) (cond c (fails cause.NoSuchReport) (cond d (gives s) (fails cause.OutputFull)))))
within-ordering true c d s = within-late cause.TooManyCases refl
within-ordering false true d s = within-late cause.NoSuchReport refl
within-ordering false false true s = completes
within-ordering false false false s = within-late cause.OutputFull refl

order-ends : (o : Order) (events attributes bytes : ℕ) → Ends (Late (16 ∷ 23 ∷ 24 ∷ [])) (OrderZero o events attributes bytes) (ordered o events attributes bytes)
unfolding order_answer events_ordered attributes_ordered bytes_ordered
order-ends o events attributes bytes =
    let x = order_answer o events attributes bytes in
    ends-leaving (within-ordering (ltb most_cases o.cases) (ltb o.cases (stated o)) (fits (ordered_table o) events attributes bytes) _) λ why e.
    record { events = left-zero x events _ why e; attributes = left-zero x attributes _ why e; bytes = left-zero x bytes _ why e }

-- ---- starts
none-given : (o : Outcome Extent) (why : Refused) → o ≡ refused why → given_of o ≡ not_found_of
none-given (accepted s) why e = let z : ◌≡◌ {A = ℕ} 0 1 = cc in absurd (omega arith)
none-given (refused r) why e = refl

starts-end : (words text : List ℕ) → Ends (Late (15 ∷ [])) (given_of (starts_of words text) ≡ not_found_of) (starts_of words text)
unfolding starts_of
starts-end words text = ends-leaving (within-cond (layout words text) completes (within-late cause.NotLayout refl)) (none-given (starts_of words text))

-- ---- counts
counts-kept : (c : Counts) (o : Outcome Counts) (why : Refused) → o ≡ refused why → kept c o ≡ c
counts-kept c (accepted d) why e = let z : ◌≡◌ {A = ℕ} 0 1 = cc in absurd (omega arith)
counts-kept c (refused r) why e = refl

counts_end : (c s : Counts) → Ends (Late (17 ∷ [])) (kept c (with_suite c s) ≡ c) (with_suite c s)
counts_end c s = ends-leaving (within-suite refl c s) (counts-kept c (with_suite c s))

coded-case-ends : (c : Counts) (outcome : ℕ) → Ends (Late (15 ∷ 17 ∷ [])) (kept c (coded_case c outcome) ≡ c) (coded_case c outcome)
coded-case-ends c outcome = ends-leaving (within-coded (ltb outcome 4) refl (within-suite refl c (case_counts (outcome_at outcome)))) (counts-kept c (coded_case c outcome))

pub demand_1 : Demand1
demand_1 =
    record {
      numbered = numbered;
      tokenize = tokenize-ends;
      read = λ t a. ends (answer_to t a) (read-placed t a) (read-zero t a);
      list = list-ends;
      write = write-ends;
      write_xml = write-xml-ends;
      rehearse = order-ends;
      read_and_list = once-ends;
      list_xml = document-ends;
      list_xml_table = table-ends;
      explain = explain-ends;
      explain_xml = explain-xml-ends;
      time_text = time-text-ends;
      starts = starts-end;
      merge = merge-ends;
      add_suite_counts = counts_end;
      add_case_counts = λ c s. counts_end c (case_counts s);
      add_coded_case = coded-case-ends;
      release_sheet = release-ends;
      print_sheet = print-ends;
      unnamed_report = unnamed-ends;
      new_report = new-ends;
      builder = builder-calls;
      from_c = coded-calls;
    }
