-- Demand 1, whole: every entry point takes every table and area, does nothing undefined, and completes or returns one of the refusals of
-- docs/REFUSALS.md; a refusal leaves each area lent for results zero throughout. The claims are types; proofs/Demand1.antt has a proof of each.
-- Definitions only.
--
-- "Takes every table and area, does nothing undefined, and completes" is what a contract without a `requires` says: the checker proves the body of
-- each entry point, and of all that it calls, safe and ending for every argument. What an entry point answers and leaves in each lent area is, by the
-- same contract, equal to these definitions, and of them the claims speak. Each exported call (crate port_c) stands here with the entry point that it
-- passes on to (docs/check holds this list against the exports), and under it the definitions and the numbers that it may refuse with:
--   kerzhoma_tokenize: tokenizer::tokenize
--       tokens (crate xml_machine: Tokens); 11, 16, 18, 19
--   kerzhoma_read: reader::read
--       reading (crate read_machine: Reading); 1 to 14, 20, 21
--   kerzhoma_list: lister::list
--       listed, output_of (crate list_text: Listing); 15, 16
--   kerzhoma_write: writer::write
--       wrote, events_left, attributes_left, bytes_left (crate write_answer: Answer); 15, 16
--   kerzhoma_write_xml: xml_writer::write_xml
--       wrote_xml, document_left (crate xml_answer: Answer); 15, 16
--   kerzhoma_rehearse: rehearsal::rehearse
--       ordered, events_ordered, attributes_ordered, bytes_ordered (crate order_report: Answer); 16, 23, 24
--   kerzhoma_read_and_list: public_call::read_and_list
--       once (crate public_claims: Once); 1 to 14, 16, 20, 21
--   kerzhoma_public_listing: public_call::public_listing
--       public_listing (crate public_claims: PublicListing); none: `(refused)` stands for those of read_and_list
--   kerzhoma_list_xml: xml_call::list_xml
--       xml_listing, xml_areas (crate xml_listing: XmlListing); none: `(refused)` stands for those of tokenize and read_and_list
--   kerzhoma_explain: explain::explain
--       explained, explanation_in (crate explain_text: Explanation); 16
--   kerzhoma_explain_xml: explain_xml::explain_xml
--       xml_line_answer, xml_explanation_in (crate explain_xml: XmlExplanation); 16
--   kerzhoma_time_text: time_text::write_time
--       written_time, whole (crate time_text: Written); 16
--   kerzhoma_is_layout: tree_layout::is_layout
--       layout (crate tree_report: Layout); none
--   kerzhoma_starts: starts::starts
--       starts_of, given_of (crate starts: Starts, Answer); 15
--   kerzhoma_merge: merger::merge
--       merged, records_left, text_left (crate tree_merge: Answer); 12, 13, 15, 17, 22
--   kerzhoma_case_tags: case_tags::case_tags
--       case_tags (crate case_tags: Tags); none
--   kerzhoma_refusal_byte: refusal_place::byte_of
--       byte_of (crate refusal_place: Place); none
--   kerzhoma_add_case: tree_counts::Counts::add_test_case
--       with_case, kept (crate tree_counts: Counts); 17, and 15 for a bad code
--   kerzhoma_add_suite: tree_counts::Counts::add_test_suite
--       with_suite, kept (crate tree_counts: Counts); 17
--   kerzhoma_release_sheet: sheet::release_sheet
--       release_sheet, sheet_in (crate sheet_sums: Sheet); 11, 17
--   kerzhoma_print_sheet: sheet::release_sheet, and sheet_text::print_sheet of what it answers
--       printing, sheet_area (crate sheet_text: Printed); 11, 16, 17
-- Builders (crates builder, builder_set, with the same names): these of crate build_draft (Calls), with words_left_of and text_left (Draft). 15 is a bad
-- code, too, in the calls that take one: `coded` (crate port_values: Codes).
--   kerzhoma_unnamed_report: builder::unnamed_report
--       unnamed_report; 12
--   kerzhoma_new_report: builder::new_report
--       new_report; 2, 12, 13
--   kerzhoma_add_test_suite: builder::add_test_suite
--       add_test_suite; 2, 12, 13, 15, 17
--   kerzhoma_add_test_case: builder::add_test_case
--       add_test_case; 2, 12, 13, 15, 17
--   kerzhoma_add_rerun: builder::add_rerun
--       add_rerun; 12, 15
--   kerzhoma_set_rerun_kind: builder_set::set_rerun_kind
--       set_rerun_kind; 15
--   kerzhoma_add_property: builder::add_property
--       add_property; 2, 12, 13, 15
--   kerzhoma_add_extra: builder::add_extra
--       add_extra; 2, 12, 13, 15
--   kerzhoma_set_text: builder_set::set_text
--       set_text; 2, 13, 15
--   kerzhoma_set_output_lossy: builder_set::set_output_lossy
--       set_output_lossy; 13, 15
--   kerzhoma_set_timestamp: builder_set::set_timestamp
--       set_timestamp; 4, 15
--   kerzhoma_set_time: builder_set::set_time
--       set_time; 5, 15
--   kerzhoma_set_uuid: builder_set::set_uuid
--       set_uuid; 15
--   kerzhoma_set_number: builder_set::set_number
--       set_number; 15
--   kerzhoma_finish_report: builder::finish_report
--       finish; 15, 17
-- The answer is the outcome as a struct, with `refusal_from` (crate refusal: Refusal) of what a refusal carries: answer_of (crate reader: Answer),
-- listing_from (lister), writing_from (writer, and of rehearsal), document_from (xml_writer), explained_from (explain), counted_from (tree_counts: Counts),
-- released_from (sheet_sums: Sheet), printed_from (sheet_text: Printed), started_from (starts: Answer), merging_from (merger: Answer), built_from (build_draft: Draft); and for C
-- a struct of numbers (crates port_refusal, port_values, port_c: port_outcome, built_port and their like). Tokenizing alone has no such struct: its refusal is a number,
-- 18 and 19 among them, and a byte (result, crate xml_state: Answer). `explain_xml` and `write_time` say only that a text doesn't fit; behind `write_time`
-- the call from C clears the area. All areas but the output area are zero behind `read_and_list`, `public_listing` and `list_xml`, whatever they come to.
-- The programs (crates list_printing, write_printing, document_printing: Printed) print what these calls come to, or `(refused)`.
--
-- Inputs are unchanged: they are lent as `&`, through which nothing can be stored, or go in by value.
--
-- Besides these, the claims rest on:
--   number, Refused, Outcome, late (crate refusal: Refusal)     the number of each cause; what a refusal carries; a refusal that names no place
--   zeros (crate area: Area)                                    an area that is zero throughout
--   refused_text (crate public_claims: PublicListing)            `(refused)` and a newline
--
-- Table and Areas are those of demand 3 (crate read_report: Answer). Of areas that are lent for results only the lengths count, but for a builder's,
-- which hold what was built so far. What reading and the public listing are on values stands in OnValues (crate public_claims).
use Rattle.std.specs.Prelude.{ℕ, ◌≤◌, ◌≡◌, List, [], ◌∷◌, Bool, true, false, ◌||◌, ◌⊎◌, eqb, length}
use Rattle.explain_text.specs.of_area.Area.{zeros, placing}
use Rattle.explain_text.specs.of_refusal.Refusal.{nowhere, number, Refused, Outcome, accepted, refused, late}
use Rattle.explain_text.specs.of_refusal.declared.Cause.{Cause}
use Rattle.explain_text.specs.of_refusal.declared.Cause.TheVariants as cause
use Rattle.explain_text.specs.of_refusal.declared.Refusal.{Refusal}
use Rattle.explain_text.specs.of_timestamp.declared.Moment.{Moment}
use Rattle.explain_text.specs.of_uuids.declared.Words.{Words}
use Rattle.tree_merge.specs.of_tree_counts.declared.Counts.{Counts}
use Rattle.tree_merge.specs.of_tree_counts.declared.Outcome.{Outcome as Status}
use Rattle.tree_merge.specs.of_tree_counts.Counts.{with_suite, with_case, kept}
use Rattle.sheet_text.specs.of_sheet_sums.Sheet as sheet
use Rattle.sheet_text.specs.Printed.{printing, sheet_area}
use Rattle.xml_listing.specs.of_read_report.Answer.{Table, Areas}
use Rattle.xml_listing.specs.of_read_report.Called.{called}
use Rattle.explain_text.specs.of_list_text.Listing.{outcome_of, listed, output_of}
use Rattle.explain_text.specs.of_time_text.Written.{written_time, whole}
use Rattle.explain_text.specs.Explanation.{explained, explanation_in}
use Rattle.xml_answer.specs.of_write_answer.Answer.{wrote, events_left, attributes_left, bytes_left}
use Rattle.order_report.specs.declared.Order.{Order}
use Rattle.order_report.specs.Answer.{ordered, events_ordered, attributes_ordered, bytes_ordered}
use Rattle.xml_answer.specs.Answer.{wrote_xml, document_left}
use Rattle.xml_listing.specs.of_public_claims.PublicListing as public
use Rattle.xml_listing.specs.of_public_claims.PublicListing.{refused_text}
use Rattle.xml_listing.specs.of_public_claims.Once.{Once, once}
use Rattle.tree_merge.specs.of_starts.Starts.{not_found_of, starts_of}
use Rattle.tree_merge.specs.of_starts.Answer.{given_of}
use Rattle.tree_merge.specs.Answer as merging
use Rattle.port_values.specs.of_build_draft.declared.Element.{Element}
use Rattle.port_values.specs.of_build_draft.declared.Holder.{Holder}
use Rattle.port_values.specs.of_build_draft.declared.TextField.{TextField}
use Rattle.port_values.specs.of_build_draft.declared.NumberField.{NumberField}
use Rattle.port_values.specs.of_build_draft.declared.NonSuccessKind.{NonSuccessKind}
use Rattle.port_values.specs.of_build_draft.declared.FlakyOrRerun.{FlakyOrRerun}
use Rattle.port_values.specs.of_build_draft.Draft.{Draft, words_left_of, text_left}
use Rattle.port_values.specs.of_build_draft.Calls as call
use Rattle.xml_tokens.specs.of_xml_machine.Tokens as token
use Rattle.xml_listing.specs.XmlListing.{Lent, table_in, xml_listing, xml_areas}
use Rattle.xml_listing.specs.XmlListing as xml
use Rattle.explain_xml.specs.XmlExplanation.{xml_line_answer, xml_explanation_in}
use Rattle.port_values.specs.Codes.{coded}
use Rattle.port_values.specs.Codes as code

-- ---- refusals
-- the numbers of all refusals, and those that reading gives
abbrev pub all_numbers : List ℕ
all_numbers = 1 ∷ 2 ∷ 3 ∷ 4 ∷ 5 ∷ 6 ∷ 7 ∷ 8 ∷ 9 ∷ 10 ∷ 11 ∷ 12 ∷ 13 ∷ 14 ∷ 15 ∷ 16 ∷ 17 ∷ 18 ∷ 19 ∷ 20 ∷ 21 ∷ 22 ∷ 23 ∷ 24 ∷ []

abbrev pub read_numbers : List ℕ
read_numbers = 1 ∷ 2 ∷ 3 ∷ 4 ∷ 5 ∷ 6 ∷ 7 ∷ 8 ∷ 9 ∷ 10 ∷ 11 ∷ 12 ∷ 13 ∷ 14 ∷ 20 ∷ 21 ∷ []

-- and those that reading gives for a document's table, which passes 11
abbrev pub document_numbers : List ℕ
document_numbers = 1 ∷ 2 ∷ 3 ∷ 4 ∷ 5 ∷ 6 ∷ 7 ∷ 8 ∷ 9 ∷ 10 ∷ 12 ∷ 13 ∷ 14 ∷ 20 ∷ 21 ∷ []

-- and those that tokenizing gives
abbrev pub token_numbers : List ℕ
token_numbers = 11 ∷ 16 ∷ 18 ∷ 19 ∷ []

abbrev pub is_one_of : ℕ → List ℕ → Bool
is_one_of n [] = false
is_one_of n (m ∷ ms) = eqb n m || is_one_of n ms

-- a refusal of reading names a place: its path has at most six elements, and none with 11
pub record Placed (numbers : List ℕ) (why : Refused) : Type 0 where
  pub known : is_one_of (number why.cause) numbers ≡ true
  pub short : length why.path ≤ 6
  pub of_table : number why.cause ≡ 11 → why.path ≡ []

-- a refusal of any other call but tokenizing, with 15 to 17 or another number, names none: its path is empty, and 4294967295 stands for event and attribute
pub record Late (numbers : List ℕ) (why : Refused) : Type 0 where
  pub known : is_one_of (number why.cause) numbers ≡ true
  pub placeless : why ≡ late why.cause

-- a refusal of reading and listing in one call: reading's, which names its place, or 16, which names none
abbrev pub OfEither : List ℕ → Refused → Type 0
OfEither numbers why = Placed numbers why ⊎ Late (16 ∷ []) why

-- what a call comes to: it completes, or it refuses, as `Given` says, and `Left` says what it leaves then
pub data Ends {A : Type 0} (Given : Refused → Type 0) (Left : Type 0) : Outcome A → Type 0 where
  completes : {a : A} → Ends Given Left (accepted a)
  refuses : {why : Refused} → Given why → Left → Ends Given Left (refused why)

-- a refusal of tokenizing is a number and a byte of the document, 4294967295 with 11 and 16
pub record AtByte (numbers : List ℕ) (n byte : ℕ) : Type 0 where
  pub known : is_one_of n numbers ≡ true
  pub byteless : (n ≡ 11) ⊎ (n ≡ 16) → byte ≡ nowhere

-- what tokenizing comes to, in the same way: a table, or a refusal
pub data Tokenizes (Given : ℕ → ℕ → Type 0) (Left : Type 0) : token.Answer → Type 0 where
  tabled : {events attributes : ℕ} → Tokenizes Given Left (token.done-with events attributes)
  stops : {n byte : ℕ} → Given n byte → Left → Tokenizes Given Left (token.refused n byte)

-- ---- what reading answers, and reading and listing in one call; what is printed of that
abbrev pub answer_to : Table → Areas → Outcome (Unit {0})
answer_to t a = (called t a).outcome

abbrev pub once_to : Table → Areas → Once
once_to t a = once t.events t.attributes t.source a.words a.text a.scratch a.output

abbrev pub listing : Table → Areas → List ℕ
listing t a = public.public_listing t.events t.attributes t.source a.words a.text a.scratch a.output

-- ---- areas behind a refusal, each zero throughout and as long as it was lent
pub record TokensZero (n m : ℕ) (r : token.Result) : Type 0 where
  pub events : r.events ≡ zeros n
  pub attributes : r.attributes ≡ zeros m

pub record ReadZero (t : Table) (a : Areas) : Type 0 where
  pub words : (called t a).words ≡ zeros a.words
  pub text : (called t a).text ≡ zeros a.text
  pub scratch : (called t a).scratch ≡ zeros a.scratch

-- behind reading and listing in one call, in every case
pub record OnceZero (t : Table) (a : Areas) : Type 0 where
  pub words : (once_to t a).words ≡ zeros a.words
  pub text : (once_to t a).text ≡ zeros a.text
  pub scratch : (once_to t a).scratch ≡ zeros a.scratch

-- and where it refuses; `(refused)` is printed then
pub record OnceRefused (t : Table) (a : Areas) : Type 0 where
  pub output : (once_to t a).output ≡ zeros a.output
  pub printed : listing t a ≡ refused_text

pub record WriteZero (words text : List ℕ) (n m k : ℕ) : Type 0 where
  pub events : events_left words text n m k ≡ zeros n
  pub attributes : attributes_left words text n m k ≡ zeros m
  pub bytes : bytes_left words text n m k ≡ zeros k

pub record OrderZero (o : Order) (n m k : ℕ) : Type 0 where
  pub events : events_ordered o n m k ≡ zeros n
  pub attributes : attributes_ordered o n m k ≡ zeros m
  pub bytes : bytes_ordered o n m k ≡ zeros k

pub record MergeZero (first first_text_of second second_text_of : List ℕ) (n m : ℕ) : Type 0 where
  pub records : merging.records_left first first_text_of second second_text_of n m ≡ zeros n
  pub text : merging.text_left first first_text_of second second_text_of n m ≡ zeros m

pub record BuildZero (n m : ℕ) (o : Outcome Draft) : Type 0 where
  pub words : words_left_of n o ≡ zeros n
  pub text : text_left m o ≡ zeros m

-- ---- the public listing of a document
-- a document, and how many words are lent for events and attributes
pub record Document : Type 0 where
  pub source : List ℕ
  pub events : ℕ
  pub attributes : ℕ

abbrev pub tokens_of : Document → token.Result
tokens_of d = token.tokens d.source d.events d.attributes

-- the table of n events and k attributes that tokenizing leaves
abbrev pub table_of : Document → ℕ → ℕ → Table
table_of d n k = record { events = table_in n (tokens_of d).events; attributes = table_in k (tokens_of d).attributes; source = d.source }

-- the same areas in the words of the call
abbrev pub lent_of : Areas → Lent
lent_of a = record { records = a.words; text = a.text; scratch = a.scratch; out = a.output }

-- rule N11
abbrev pub document_listing : Document → Areas → List ℕ
document_listing d a = xml_listing d.source d.events d.attributes (lent_of a)

abbrev pub document_areas : Document → Areas → xml.Areas
document_areas d a = xml_areas d.events d.attributes (lent_of a)

-- both tables, records, text and scratch, in every case (rule N11)
pub record DocumentZero (d : Document) (a : Areas) : Type 0 where
  pub events : (document_areas d a).events ≡ zeros d.events
  pub attributes : (document_areas d a).attributes ≡ zeros d.attributes
  pub words : (document_areas d a).words ≡ zeros a.words
  pub text : (document_areas d a).text ≡ zeros a.text
  pub scratch : (document_areas d a).scratch ≡ zeros a.scratch

-- ---- the calls of a builder, in areas of so many words and bytes
abbrev pub Builds : List ℕ → (words text : ℕ) → Outcome Draft → Type 0
Builds numbers words text o = Ends (Late numbers) (BuildZero words text o) o

-- in the areas of a draft
abbrev pub Continues : Draft → List ℕ → Outcome Draft → Type 0
Continues d numbers o = Builds numbers (length d.words) (length d.text) o

-- on any builder, also one that was made up, and any areas
pub record BuilderCalls (d : Draft) : Type 0 where
  pub add_test_suite : (name : List ℕ) → Continues d (2 ∷ 12 ∷ 13 ∷ 15 ∷ 17 ∷ []) (call.add_test_suite name d)
  pub add_test_case : (name : List ℕ) (s : Status) → Continues d (2 ∷ 12 ∷ 13 ∷ 15 ∷ 17 ∷ []) (call.add_test_case name s d)
  pub add_rerun : (k : NonSuccessKind) → Continues d (12 ∷ 15 ∷ []) (call.add_rerun k d)
  pub set_rerun_kind : (f : FlakyOrRerun) → Continues d (15 ∷ []) (call.set_rerun_kind f d)
  pub add_property : (h : Holder) (key value : List ℕ) → Continues d (2 ∷ 12 ∷ 13 ∷ 15 ∷ []) (call.add_property h key value d)
  pub add_extra : (h : Holder) (key value : List ℕ) → Continues d (2 ∷ 12 ∷ 13 ∷ 15 ∷ []) (call.add_extra h key value d)
  pub set_text : (e : Element) (f : TextField) (s : List ℕ) → Continues d (2 ∷ 13 ∷ 15 ∷ []) (call.set_text e f s d)
  pub set_output_lossy : (e : Element) (f : TextField) (s : List ℕ) → Continues d (13 ∷ 15 ∷ []) (call.set_output_lossy e f s d)
  pub set_timestamp : (e : Element) (m : Moment) → Continues d (4 ∷ 15 ∷ []) (call.set_timestamp e m d)
  pub set_time : (e : Element) (seconds nanos : ℕ) → Continues d (5 ∷ 15 ∷ []) (call.set_time e seconds nanos d)
  pub set_uuid : (w : Words) → Continues d (15 ∷ []) (call.set_uuid w d)
  pub set_number : (f : NumberField) (n : ℕ) → Continues d (15 ∷ []) (call.set_number f n d)
  pub finish : Continues d (15 ∷ 17 ∷ []) (call.finish d)

-- the same from C, where variants are codes: 15 for a number that is none
pub record CodedCalls (d : Draft) : Type 0 where
  pub add_test_case : (name : List ℕ) (outcome : ℕ)
      → Continues d (2 ∷ 12 ∷ 13 ∷ 15 ∷ 17 ∷ []) (coded code.outcomes outcome (call.add_test_case name (code.outcome_at outcome) d))
  pub add_rerun : (kind : ℕ) → Continues d (12 ∷ 15 ∷ []) (coded code.kinds kind (call.add_rerun (code.kind_at kind) d))
  pub set_rerun_kind : (family : ℕ) → Continues d (15 ∷ []) (coded code.families family (call.set_rerun_kind (code.family_at family) d))
  pub add_property : (holder : ℕ) (key value : List ℕ)
      → Continues d (2 ∷ 12 ∷ 13 ∷ 15 ∷ []) (coded code.holders holder (call.add_property (code.holder_at holder) key value d))
  pub add_extra : (holder : ℕ) (key value : List ℕ)
      → Continues d (2 ∷ 12 ∷ 13 ∷ 15 ∷ []) (coded code.holders holder (call.add_extra (code.holder_at holder) key value d))
  pub set_text : (element field : ℕ) (s : List ℕ)
      → Continues d (2 ∷ 13 ∷ 15 ∷ []) (coded code.elements element (coded code.fields field (call.set_text (code.element_at element) (code.field_at field) s d)))
  pub set_output_lossy : (element field : ℕ) (s : List ℕ)
      → Continues d (13 ∷ 15 ∷ []) (coded code.elements element (coded code.fields field (call.set_output_lossy (code.element_at element) (code.field_at field) s d)))
  pub set_timestamp : (element : ℕ) (m : Moment) → Continues d (4 ∷ 15 ∷ []) (coded code.elements element (call.set_timestamp (code.element_at element) m d))
  pub set_time : (element seconds nanos : ℕ) → Continues d (5 ∷ 15 ∷ []) (coded code.elements element (call.set_time (code.element_at element) seconds nanos d))
  pub set_number : (field n : ℕ) → Continues d (15 ∷ []) (coded code.numbers field (call.set_number (code.number_at field) n d))

-- a case counted from C
abbrev pub coded_case : Counts → ℕ → Outcome Counts
coded_case c outcome = coded code.outcomes outcome (with_case c (code.outcome_at outcome))

-- ---- the claims, one for each entry point that refuses anything
pub record Demand1 : Type 0 where
  -- Each cause has one of the numbers.
  pub numbered : (c : Cause) → is_one_of (number c) all_numbers ≡ true
  -- Tokenizing: 11, 16, 18 and 19; both areas are zero then.
  pub tokenize : (source : List ℕ) (events attributes : ℕ)
      → Tokenizes (AtByte token_numbers) (TokensZero events attributes (token.tokens source events attributes)) (token.tokens source events attributes).answer
  -- Reading: 1 to 14, 20 and 21; records, text and scratch are zero then.
  pub read : (t : Table) (a : Areas) → Ends (Placed read_numbers) (ReadZero t a) (answer_to t a)
  -- Listing: 15 and 16; the output area is zero then.
  pub list : (words text : List ℕ) (output : ℕ) → Ends (Late (15 ∷ 16 ∷ [])) (output_of words text output ≡ zeros output) (listed words text output)
  -- Writing: 15 and 16; its three areas are zero then.
  pub write : (words text : List ℕ) (events attributes bytes : ℕ)
      → Ends (Late (15 ∷ 16 ∷ [])) (WriteZero words text events attributes bytes) (wrote words text events attributes bytes)
  -- Writing a document: 15 and 16; its area is zero then.
  pub write_xml : (words text : List ℕ) (output : ℕ) → Ends (Late (15 ∷ 16 ∷ [])) (document_left words text output ≡ zeros output) (wrote_xml words text output)
  -- A report to order: 16, 23 and 24; its three areas are zero then.
  pub rehearse : (o : Order) (events attributes bytes : ℕ)
      → Ends (Late (16 ∷ 23 ∷ 24 ∷ [])) (OrderZero o events attributes bytes) (ordered o events attributes bytes)
  -- Reading and listing in one call: 1 to 14, 20 and 21 with their place, 16 without one; the output area is zero then, and the public listing is
  -- `(refused)`. Records, text and scratch are zero in every case.
  pub read_and_list : (t : Table) (a : Areas) → OnceZero t a × Ends (OfEither read_numbers) (OnceRefused t a) (once_to t a).outcome
  -- The public listing of a document always completes: `(refused)` where tokenizing refuses, or where reading and listing its table do, never with 11.
  -- Both tables, records, text and scratch are zero in every case.
  pub list_xml : (d : Document) (a : Areas) → DocumentZero d a × Tokenizes (AtByte token_numbers) (document_listing d a ≡ refused_text) (tokens_of d).answer
  pub list_xml_table : (d : Document) (a : Areas) (n k : ℕ) → (tokens_of d).answer ≡ token.done-with n k
      → Ends (OfEither document_numbers) (document_listing d a ≡ refused_text) (once_to (table_of d n k) a).outcome
  -- Explaining a refusal, also one that was made up, over any table: 16; the output area is zero then.
  pub explain : (t : Table) (r : Refusal) (lent output : ℕ)
      → Ends (Late (16 ∷ [])) (explanation_in t.events t.attributes t.source r lent output ≡ zeros output)
      (explained t.events t.attributes t.source r lent output)
  -- Explaining a refusal of tokenizing, also one that was made up: 16; the output area is zero then (rule N14).
  pub explain_xml : (source : List ℕ) (number byte events attributes output : ℕ)
      → Ends (Late (16 ∷ [])) (xml_explanation_in source number byte events attributes output ≡ zeros output)
      (outcome_of (xml_line_answer source number byte events attributes output))
  -- A time's text from C: 16; the area is zero then.
  pub time_text : (out : List ℕ) (seconds nanos : ℕ)
      → Ends (Late (16 ∷ [])) (whole out (written_time seconds nanos) ≡ zeros (length out))
      (outcome_of (placing cause.OutputFull (length out) (written_time seconds nanos)))
  -- The first and last start: 15; all that is answered beside the refusal is zero then.
  pub starts : (words text : List ℕ) → Ends (Late (15 ∷ [])) (given_of (starts_of words text) ≡ not_found_of) (starts_of words text)
  -- Two trees merged into a third: 12, 13, 15, 17 and 22; both areas of the third are zero then.
  pub merge : (first first_text_of second second_text_of : List ℕ) (words bytes : ℕ)
      → Ends (Late (12 ∷ 13 ∷ 15 ∷ 17 ∷ 22 ∷ [])) (MergeZero first first_text_of second second_text_of words bytes) (merging.merged first first_text_of second second_text_of words bytes)
  -- Counts: 17; the counts that come back are those that went in.
  pub add_suite_counts : (c s : Counts) → Ends (Late (17 ∷ [])) (kept c (with_suite c s) ≡ c) (with_suite c s)
  pub add_case_counts : (c : Counts) (s : Status) → Ends (Late (17 ∷ [])) (kept c (with_case c s) ≡ c) (with_case c s)
  -- From C also 15, for a bad code.
  pub add_coded_case : (c : Counts) (outcome : ℕ) → Ends (Late (15 ∷ 17 ∷ [])) (kept c (coded_case c outcome) ≡ c) (coded_case c outcome)
  -- The release sheet: 11 and 17; there is no sheet then. Printed also 16; the output area is zero then.
  pub release_sheet : (reports : List Counts)
      → Ends (Late (11 ∷ 17 ∷ [])) (sheet.sheet_in (sheet.release_sheet reports) ≡ sheet.no_sheet) (sheet.release_sheet reports)
  pub print_sheet : (reports : List Counts) (output : ℕ)
      → Ends (Late (11 ∷ 16 ∷ 17 ∷ [])) (sheet_area (sheet.release_sheet reports) output ≡ zeros output) (printing (sheet.release_sheet reports) output)
  -- Builders: a new report with 2, 12 and 13, and the other calls as listed above; both areas are zero then.
  pub unnamed_report : (words text : ℕ) → Builds (12 ∷ []) words text (call.unnamed_report words text)
  pub new_report : (name : List ℕ) (words text : ℕ) → Builds (2 ∷ 12 ∷ 13 ∷ []) words text (call.new_report name words text)
  pub builder : (d : Draft) → BuilderCalls d
  pub from_c : (d : Draft) → CodedCalls d
