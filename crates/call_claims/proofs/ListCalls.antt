-- What listing, explaining, and reading and listing in one call refuse, and what they leave then. Assumes nothing.
use Prim.Native.Nat.{ℕ, min}
use mathlib.Core.Path.{◌≡◌, refl, sym, ap, subst, ◌∙◌}
use mathlib.Core.List.{List, [], ◌∷◌}
use mathlib.Core.Bool.{Bool, true, false, cond}
use mathlib.Core.Logic.{inl, inr}
use native.Mathlib.Omega.{arith}
use lib.Dec.{leb}
use lib.ListN.{length}
use Rattle.explain_text.specs.of_area.Area.{zeros, placing, laid}
use Rattle.explain_text.specs.of_area.Limits.{most_bytes}
use Rattle.explain_text.specs.of_area.Answer.{Answer, gives, refuses as fails}
use Rattle.explain_text.specs.of_refusal.Refusal.{Refused, Outcome, accepted, refused}
use Rattle.explain_text.specs.of_refusal.declared.Cause.TheVariants as cause
use Rattle.explain_text.specs.of_refusal.declared.Refusal.{Refusal}
use Rattle.explain_text.specs.of_table.Event.{resolve}
use Rattle.explain_text.specs.of_time_text.Written.{written_time, whole}
use Rattle.explain_text.specs.of_tree_report.Layout.{layout}
use Rattle.xml_listing.specs.of_read_machine.Reading.{Read, read_as}
use Rattle.xml_listing.proofs.of_read_machine.RoomsReading.{reading-accepts}
use Rattle.xml_listing.proofs.of_read_machine.TreeReading.{reading-layout, resolve-fair}
use Rattle.explain_text.specs.of_list_text.Listing.{listing_of, listing_answer, outcome_of, listed, output_for, output_of}
use Rattle.xml_answer.specs.Answer.{document_of, document_answer, wrote_xml, document_left}
use Rattle.explain_text.specs.Explanation.{line_of, line_answer, explained, explanation_in}
use Rattle.explain_xml.specs.XmlExplanation.{xml_line, xml_line_answer, xml_explanation_in}
use Rattle.xml_listing.specs.of_public_claims.Once.{printed_for}
use Rattle.xml_listing.proofs.of_public_claims.Once.{both-calls, once-accepted, once-refused, left-zero}
use Rattle.xml_listing.specs.of_read_report.Answer.{Table, Areas}
use Rattle.xml_listing.specs.of_read_report.Called.{called}
use Rattle.call_claims.specs.Demand1.{read_numbers, is_one_of, Placed, Late, OfEither, Ends, completes, refuses, answer_to, once_to, OnceZero, OnceRefused}
use Rattle.call_claims.proofs.ReadCall.{read-placed}
use Rattle.call_claims.proofs.LateCalls.{Within, ends, ends-leaving, within-late}

-- ---- texts put into an output area: listing, explaining
pub out-zero : (x : Answer ℕ) (n : ℕ) (f : List ℕ) (why : Refused) → outcome_of x ≡ refused why → output_for x n f ≡ zeros n
out-zero (gives k) n f why e = let z : ◌≡◌ {A = ℕ} 0 1 = cc in absurd (omega arith)
out-zero (fails c) n f why e = refl

-- "too short", 16
pub within-placing : {ns : List ℕ} → is_one_of 16 ns ≡ true → (n : ℕ) (f : List ℕ) → Within ns (outcome_of (placing cause.OutputFull n f))
within-placing {ns} h n f = go (leb (length f) n)
  where
    go : (b : Bool) → Within ns (outcome_of (cond b (gives (length f)) (fails cause.OutputFull)))
    go true = completes
    go false = within-late cause.OutputFull h

-- no layout, 15
within-layout : {ns : List ℕ} (b : Bool) (x : Answer ℕ) → is_one_of 15 ns ≡ true → Within ns (outcome_of x) → Within ns (outcome_of (cond b x (fails cause.NotLayout)))
within-layout true x h k = k
within-layout false x h k = within-late cause.NotLayout h

pub list-ends : (words text : List ℕ) (output : ℕ) → Ends (Late (15 ∷ 16 ∷ [])) (output_of words text output ≡ zeros output) (listed words text output)
unfolding output_of listing_answer
list-ends words text output =
    ends-leaving (within-layout (layout words text) (placing cause.OutputFull output (listing_of words text)) refl (within-placing refl output (listing_of words text)))
    (out-zero (listing_answer words text output) output (listing_of words text))

pub write-xml-ends : (words text : List ℕ) (output : ℕ) → Ends (Late (15 ∷ 16 ∷ [])) (document_left words text output ≡ zeros output) (wrote_xml words text output)
unfolding document_left document_answer
write-xml-ends words text output =
    ends-leaving (within-layout (layout words text) (placing cause.OutputFull (min output most_bytes) (document_of words text)) refl (within-placing refl (min output most_bytes) (document_of words text)))
    (out-zero (document_answer words text output) output (document_of words text))

pub explain-ends : (t : Table) (r : Refusal) (lent output : ℕ)
    → Ends (Late (16 ∷ [])) (explanation_in t.events t.attributes t.source r lent output ≡ zeros output) (explained t.events t.attributes t.source r lent output)
unfolding explanation_in line_answer
explain-ends t r lent output =
    ends-leaving (within-placing refl output (line_of t.events t.attributes t.source r lent))
    (out-zero (line_answer t.events t.attributes t.source r lent output) output (line_of t.events t.attributes t.source r lent))

pub explain-xml-ends : (source : List ℕ) (number byte events attributes output : ℕ)
    → Ends (Late (16 ∷ [])) (xml_explanation_in source number byte events attributes output ≡ zeros output) (outcome_of (xml_line_answer source number byte events attributes output))
unfolding xml_explanation_in xml_line_answer
explain-xml-ends source number byte events attributes output =
    let f = xml_line source number byte events attributes in
    ends-leaving (within-placing refl output f) (out-zero (xml_line_answer source number byte events attributes output) output f)

-- a time, cleared where it doesn't fit
pub time-text-ends : (out : List ℕ) (seconds nanos : ℕ)
    → Ends (Late (16 ∷ [])) (whole out (written_time seconds nanos) ≡ zeros (length out)) (outcome_of (placing cause.OutputFull (length out) (written_time seconds nanos)))
time-text-ends out seconds nanos = ends-leaving (within-placing refl (length out) f) (go (leb (length f) (length out)))
  where
    f : List ℕ
    f = written_time seconds nanos

    go : (b : Bool) (why : Refused) → outcome_of (cond b (gives (length f)) (fails cause.OutputFull)) ≡ refused why → cond b (laid out f) (zeros (length out)) ≡ zeros (length out)
    go true why e = let z : ◌≡◌ {A = ℕ} 0 1 = cc in absurd (omega arith)
    go false why e = refl

-- ---- reading and listing in one call
module _ (t : Table) (a : Areas) where
  -- what reading leaves is a layout
  left-layout : answer_to t a ≡ accepted tt → layout (called t a).words (called t a).text ≡ true
  unfolding read_as
  left-layout e =
      let n = a.words in
      let m = a.text in
      let k = a.scratch in
      let h = reading-accepts t.events t.attributes t.source n m k e in
      ap (λ (r : Read). layout r.words r.text) h.2
      ∙ reading-layout n m k (resolve t.events t.attributes t.source) h.0 (resolve-fair t.events t.attributes t.source) h.1

  -- so that listing it refuses for 16 only
  output-ends : answer_to t a ≡ accepted tt → Within (16 ∷ []) (listed (called t a).words (called t a).text a.output)
  unfolding listing_answer
  output-ends e = go (layout words text) (left-layout e)
    where
      words : List ℕ
      words = (called t a).words

      text : List ℕ
      text = (called t a).text

      go : (b : Bool) → b ≡ true → Within (16 ∷ []) (outcome_of (cond b (placing cause.OutputFull a.output (listing_of words text)) (fails cause.NotLayout)))
      go true q = within-placing refl a.output (listing_of words text)
      go false q = let z : ◌≡◌ {A = ℕ} 0 1 = cc in absurd (omega arith)

  -- a refusal is reading's, or listing's
  pub once-given : {numbers : List ℕ} → ((why : Refused) → answer_to t a ≡ refused why → Placed numbers why) → (why : Refused) → (once_to t a).outcome ≡ refused why → OfEither numbers why
  once-given {numbers} placed why e = go (answer_to t a) refl
    where
      late-given : (o : Outcome ℕ) → Within (16 ∷ []) o → o ≡ refused why → Late (16 ∷ []) why
      late-given (accepted n) w q = let z : ◌≡◌ {A = ℕ} 0 1 = cc in absurd (omega arith)
      late-given (refused x) (refuses g u) q = let z : x ≡ why = cc in subst (Late (16 ∷ [])) z g

      go : (o : Outcome (Unit {0})) → answer_to t a ≡ o → OfEither numbers why
      go (accepted u) q =
          inr (late-given (listed (called t a).words (called t a).text a.output) (output-ends q)
          (once-accepted t.events t.attributes t.source a.words a.text a.scratch a.output (called t a).words (called t a).text (sym q) refl refl ∙ e))
      go (refused x) q =
          let p : refused x ≡ (once_to t a).outcome = once-refused t.events t.attributes t.source a.words a.text a.scratch a.output x (sym q) in
          let z : x ≡ why = cc in
          inl (placed why (q ∙ ap refused z))

  -- zeros, and `(refused)`
  pub once-left : (why : Refused) → (once_to t a).outcome ≡ refused why → OnceRefused t a
  once-left why e =
      record {
        output = left-zero t.events t.attributes t.source a.words a.text a.scratch a.output why e;
        printed =
            sym (both-calls t.events t.attributes t.source a.words a.text a.scratch a.output)
            ∙ ap (λ (o : Outcome ℕ). printed_for o (once_to t a).output) e;
      }

  pub once-ends : OnceZero t a × Ends (OfEither read_numbers) (OnceRefused t a) (once_to t a).outcome
  once-ends = (record { words = refl; text = refl; scratch = refl }, ends (once_to t a).outcome (once-given (read-placed t a)) once-left)
