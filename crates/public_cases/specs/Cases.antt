-- Cases that are proved: the worked listing, an example of each refusal from 2 to 10, of 20 and 21, values at their limits, statuses,
-- outputs, references in texts, tables that agree, Empty tags, tags at report level, attributes that are read or not, dead records; and
-- cases of writing. What is expected is written down, not computed.
-- Definitions only.
use Rattle.std.specs.Prelude.{ℕ, ◌+◌, ◌-◌, ◌≡◌, Bool, true, List, [], ◌∷◌, ◌++◌, map, length, replicate}
use Prim.Native.String.{String}
use Rattle.std.proofs.Math.Option.{Option, none, some}
use Rattle.public_claims.specs.of_names.Bytes.{bytes}
use Rattle.public_claims.specs.of_refusal.Refusal.{Outcome, accepted, refused, nowhere, number}
use Rattle.public_claims.specs.of_refusal.declared.Cause.{Cause}
use Rattle.public_claims.specs.of_refusal.declared.Cause.TheVariants as cause
use Rattle.public_claims.specs.of_refusal.declared.PathElement.{PathElement}
use Rattle.public_claims.specs.of_table.Event.{Event, resolve}
use Rattle.public_claims.specs.of_tree_report.Report.{error, success, TestRerun, TestSuite, Report}
use Rattle.public_claims.specs.of_tree_report.ReportOf.{report_of}
use Rattle.public_claims.specs.of_tree_report.Layout.{layout}
use Rattle.public_claims.specs.of_read_machine.Reading.{Read, reading}
use Rattle.public_claims.specs.of_list_text.Listing.{listing_of}
use Rattle.public_claims.specs.Agree.{agree}
use Rattle.public_claims.specs.PublicListing.{public_listing}
use Rattle.write_answer.specs.of_write_report.Written.{written}
use Rattle.write_answer.specs.Answer as answer
use Rattle.public_cases.specs.Document.{Named, Markup, ◌≔◌, start, empty, end, text, cdata, ref, comment, indent, events_of, attributes_of, source_of}
use Rattle.public_cases.specs.Reports.{no_counts, of_status, of_cases, of_suites, worked_events, full, full_events, one_flaky, one_flaky_events, empty_output, empty_output_events, live_events}

-- ---- what is expected of a table
pub data Expected : Type 0 where
  -- accepted, with this public listing
  lists : List ℕ → Expected
  -- accepted, with this report left in the areas
  reads : Report → Expected
  -- refused: number, cause, path, event, attribute
  refuses : ℕ → Cause → List PathElement → ℕ → ℕ → Expected
  -- accepted, and agrees with the table of this document; both have this public listing
  agrees : List Markup → List ℕ → Expected
  -- accepted, and the report left in the areas is written as these events
  writes : List Event → Expected

-- ---- a case: the events, attributes and source of a table, a report or the words and text of a tree, and what is expected of it
pub data Case : Type 0 where
  table : List ℕ → List ℕ → List ℕ → Expected → Case
  -- written as these events
  report : Report → List Event → Case
  -- a layout, with this listing, written as these events
  tree : List ℕ → List ℕ → List ℕ → List Event → Case

-- the areas have 10 records of 32 words, 64 bytes of text, 64 of scratch and 256 of output, which is enough for each case
abbrev pub read_in : List ℕ → List ℕ → List ℕ → Read
read_in events attributes source = reading events attributes source 320 64 64

abbrev pub HoldsOf : List ℕ → List ℕ → List ℕ → Expected → Type 0
HoldsOf events attributes source (lists t) = public_listing events attributes source 320 64 64 256 ≡ t
HoldsOf events attributes source (reads r) =
    ◌≡◌ {A = Outcome (Unit {0}) × Option Report}
    ((read_in events attributes source).outcome, report_of (read_in events attributes source).words (read_in events attributes source).text) (accepted tt, some r)
HoldsOf events attributes source (refuses n c p e a) =
    ◌≡◌ {A = Outcome (Unit {0}) × ℕ} ((read_in events attributes source).outcome, number c) (refused (record { cause = c; path = p; event = e; attribute = a }), n)
HoldsOf events attributes source (agrees ms t) =
    agree (resolve events attributes source) (resolve (events_of ms) (attributes_of ms) (source_of ms))
    × (public_listing events attributes source 320 64 64 256 ≡ t)
    × (public_listing (events_of ms) (attributes_of ms) (source_of ms) 320 64 64 256 ≡ t)
HoldsOf events attributes source (writes es) =
    ◌≡◌ {A = Outcome (Unit {0}) × List Event}
    ((read_in events attributes source).outcome, answer.events_of (read_in events attributes source).words (read_in events attributes source).text) (accepted tt, es)

abbrev pub Holds : Case → Type 0
Holds (table events attributes source e) = HoldsOf events attributes source e
Holds (report r es) = written r ≡ es
Holds (tree words texts t es) =
    ◌≡◌ {A = Bool × List ℕ × List Event} (layout words texts, listing_of words texts, answer.events_of words texts) (true, t, es)

pub data All : List Case → Type 0 where
  no-case : All []
  one-case : {c : Case} {cs : List Case} → Holds c → All cs → All (c ∷ cs)

-- ---- how the cases are written
abbrev pub document : List Markup → Expected → Case
document ms e = table (events_of ms) (attributes_of ms) (source_of ms) e

-- a text of lines, each with its newline
abbrev pub lines : List String → List ℕ
lines [] = []
lines (s ∷ ss) = bytes s ++ (10 ∷ lines ss)

-- the elements of paths by docs/REFUSALS.md: kind, index, event
abbrev pub testsuites : PathElement
testsuites = record { kind = 1; index = nowhere; event = nowhere }

abbrev pub testsuite : ℕ → ℕ → PathElement
testsuite i e = record { kind = 2; index = i; event = e }

abbrev pub testcase : ℕ → ℕ → PathElement
testcase i e = record { kind = 3; index = i; event = e }

abbrev pub properties : PathElement
properties = record { kind = 4; index = nowhere; event = nowhere }

abbrev pub property : ℕ → PathElement
property i = record { kind = 5; index = i; event = nowhere }

abbrev pub skipped : PathElement
skipped = record { kind = 8; index = nowhere; event = nowhere }

abbrev pub system-out : PathElement
system-out = record { kind = 14; index = nowhere; event = nowhere }

abbrev pub attribute : ℕ → PathElement
attribute k = record { kind = 16; index = k; event = nowhere }

-- ---- the worked listing (rules L6 to L10)
abbrev pub worked_document : List Markup
worked_document =
    start "testsuites" ("name" ≔ "r" ∷ "tests" ≔ "2" ∷ [])
    ∷ start "testsuite" ("name" ≔ "lab" ∷ "tests" ≔ "2" ∷ [])
    ∷ empty "testcase" ("name" ≔ "a" ∷ "time" ≔ "0.5" ∷ [])
    ∷ start "testcase" ("name" ≔ "b" ∷ [])
    ∷ empty "failure" ("message" ≔ "m" ∷ [])
    ∷ empty "rerunFailure" []
    ∷ end "testcase"
    ∷ end "testsuite"
    ∷ end "testsuites"
    ∷ []

abbrev pub worked : Case
worked =
    document worked_document (lists (lines ("(report \"r\" 2 0 0 0 -"
    ∷ "(suite \"lab\" 2 0 0 0 -"
    ∷ "(case \"a\" - 0.500 success flaky 0)"
    ∷ "(case \"b\" - - failure rerun 1"
    ∷ "(run failure -))))"
    ∷ [])))

-- ---- an example of each refusal from 2 to 10
-- 2, a name FF (rule X2): testsuites/testsuite[0]/@name
abbrev pub not_utf8 : Case
not_utf8 =
    document (start "testsuites" []
    ∷ empty "testsuite" (record { key = bytes "name"; value = 0xFF ∷ [] } ∷ [])
    ∷ end "testsuites"
    ∷ [])
    (refuses 2 cause.NotUtf8 (testsuites ∷ testsuite 0 nowhere ∷ attribute 1 ∷ []) 1 0)

-- 3, tests `-0` (rule V2): testsuites/@tests
abbrev pub bad_integer : Case
bad_integer =
    document (empty "testsuites" ("tests" ≔ "-0" ∷ []) ∷ [])
    (refuses 3 cause.BadInteger (testsuites ∷ attribute 6 ∷ []) 0 0)

-- 4: testsuites/testsuite[0]/@timestamp
abbrev pub bad_timestamp : Case
bad_timestamp =
    document (start "testsuites" []
    ∷ empty "testsuite" ("name" ≔ "s" ∷ "timestamp" ≔ "2023-02-29T00:00:00Z" ∷ [])
    ∷ end "testsuites"
    ∷ [])
    (refuses 4 cause.BadTimestamp (testsuites ∷ testsuite 0 nowhere ∷ attribute 4 ∷ []) 1 1)

-- 5: testsuites/testsuite[0]("s")/testcase[1]/@time
abbrev pub bad_time : Case
bad_time =
    document (start "testsuites" []
    ∷ start "testsuite" ("name" ≔ "s" ∷ [])
    ∷ empty "testcase" ("name" ≔ "t" ∷ [])
    ∷ empty "testcase" ("name" ≔ "u" ∷ "time" ≔ "8388608" ∷ [])
    ∷ end "testsuite"
    ∷ end "testsuites"
    ∷ [])
    (refuses 5 cause.BadTime (testsuites ∷ testsuite 0 1 ∷ testcase 1 nowhere ∷ attribute 5 ∷ []) 3 3)

-- 6: testsuites/@uuid
abbrev pub bad_uuid : Case
bad_uuid =
    document (empty "testsuites" ("uuid" ≔ "1" ∷ []) ∷ [])
    (refuses 6 cause.BadUuid (testsuites ∷ attribute 3 ∷ []) 0 0)

-- 7: testsuites/testsuite[0]("s")/testcase[0]/@name
abbrev pub missing_name : Case
missing_name =
    document (start "testsuites" []
    ∷ start "testsuite" ("name" ≔ "s" ∷ [])
    ∷ empty "testcase" []
    ∷ end "testsuite"
    ∷ end "testsuites"
    ∷ [])
    (refuses 7 cause.MissingAttribute (testsuites ∷ testsuite 0 1 ∷ testcase 0 nowhere ∷ attribute 1 ∷ []) 2 nowhere)

-- 8, no events (rule R9): not even an Eof
abbrev pub no_events : Case
no_events = table [] [] [] (refuses 8 cause.MissingReport [] 0 nowhere)

-- 9, `a` twice (rule A3): testsuites/testsuite[0]("s")/testcase[0], no Attribute
abbrev pub twice : Case
twice =
    document (start "testsuites" []
    ∷ start "testsuite" ("name" ≔ "s" ∷ [])
    ∷ empty "testcase" ("name" ≔ "t" ∷ "a" ≔ "1" ∷ "a" ≔ "2" ∷ [])
    ∷ end "testsuite"
    ∷ end "testsuites"
    ∷ [])
    (refuses 9 cause.RepeatedKey (testsuites ∷ testsuite 0 1 ∷ testcase 0 nowhere ∷ []) 2 3)

-- 10, a name `&x;` (rule X5): testsuites/@name
abbrev pub bad_reference : Case
bad_reference =
    document (empty "testsuites" ("name" ≔ "&x;" ∷ []) ∷ [])
    (refuses 10 cause.BadReference (testsuites ∷ attribute 1 ∷ []) 0 0)

-- ---- a count with a sign (rule V2)
abbrev pub plus_five : Case
plus_five =
    document (empty "testsuites" ("tests" ≔ "+5" ∷ []) ∷ [])
    (lists (lines ("(report - 5 0 0 0 -)" ∷ [])))

-- ---- the last time, to the nanosecond (rule V4)
abbrev pub exact : Case
exact =
    document (empty "testsuites" ("time" ≔ "8388607.999999999" ∷ []) ∷ [])
    (reads (record {
      name = none;
      uuid = none;
      timestamp = none;
      time = some (record { seconds = 8388607; nanos = 999999999 });
      counts = no_counts;
      suites = [];
    }))

-- ---- a success with a flaky run (rule S10)
abbrev pub flaky_alone : Case
flaky_alone =
    document (start "testsuites" []
    ∷ start "testsuite" ("name" ≔ "s" ∷ [])
    ∷ start "testcase" ("name" ≔ "t" ∷ [])
    ∷ empty "flakyFailure" []
    ∷ end "testcase"
    ∷ end "testsuite"
    ∷ end "testsuites"
    ∷ [])
    (lists (lines ("(report - 0 0 0 0 -"
    ∷ "(suite \"s\" 0 0 0 0 -"
    ∷ "(case \"t\" - - success flaky 1"
    ∷ "(run failure -))))"
    ∷ [])))

-- ---- white space behind a filtered character stays (rule X10)
abbrev pub space_kept : TestSuite
space_kept =
    record {
      name = bytes "s";
      counts = no_counts;
      timestamp = none;
      time = none;
      hostname = none;
      cases = [];
      properties = [];
      system_out = some (bytes " a");
      system_err = none;
      extra = [];
    }

abbrev pub output : Case
output =
    document (start "testsuites" []
    ∷ start "testsuite" ("name" ≔ "s" ∷ [])
    ∷ start "system-out" []
    ∷ text "\u{1} a"
    ∷ end "system-out"
    ∷ end "testsuite"
    ∷ end "testsuites"
    ∷ [])
    (reads (of_suites (space_kept ∷ [])))

-- ---- 20 and 21, and what remains 8: no report, and the table's end inside an element (rules S6 to S9, X7, R9 and R18)
-- a case with these status elements
abbrev pub with_statuses : List Markup → List Markup
with_statuses ms =
    start "testsuites" []
    ∷ start "testsuite" ("name" ≔ "s" ∷ [])
    ∷ start "testcase" ("name" ≔ "t" ∷ [])
    ∷ (ms ++ (end "testcase" ∷ end "testsuite" ∷ end "testsuites" ∷ []))

-- testsuites/testsuite[0]("s")/testcase[0]("t"), told at the case's End
abbrev pub muddled : ℕ → Expected
muddled e = refuses 20 cause.StatusRule (testsuites ∷ testsuite 0 1 ∷ testcase 0 2 ∷ []) e nowhere

-- rule S6
abbrev pub two_mains : Case
two_mains = document (with_statuses (empty "failure" [] ∷ empty "error" [] ∷ [])) (muddled 5)

-- rule S7
abbrev pub reruns_alone_of : Case
reruns_alone_of = document (with_statuses (empty "rerunFailure" [] ∷ [])) (muddled 4)

-- rule S8
abbrev pub skipped_flaky : Case
skipped_flaky = document (with_statuses (empty "skipped" [] ∷ empty "flakyError" [] ∷ [])) (muddled 5)

-- rule S9
abbrev pub flaky_and_rerun : Case
flaky_and_rerun = document (with_statuses (empty "failure" [] ∷ empty "flakyFailure" [] ∷ empty "rerunFailure" [] ∷ [])) (muddled 6)

-- testsuites/testsuite[0]("s")/system-out
abbrev pub unknown_name : Case
unknown_name =
    document (start "testsuites" []
    ∷ start "testsuite" ("name" ≔ "s" ∷ [])
    ∷ start "system-out" []
    ∷ ref "nbsp"
    ∷ end "system-out"
    ∷ end "testsuite"
    ∷ end "testsuites"
    ∷ [])
    (refuses 21 cause.UnknownEntity (testsuites ∷ testsuite 0 1 ∷ system-out ∷ []) 3 nowhere)

-- a suite without a report is passed over
abbrev pub no_report : Case
no_report = document (empty "testsuite" ("name" ≔ "s" ∷ []) ∷ []) (refuses 8 cause.MissingReport [] 1 nowhere)

-- cut off before the case's End, where the status rule would refuse: testsuites/testsuite[0]("s")/testcase[0]("t")
abbrev pub cut_off_of : Case
cut_off_of =
    document (start "testsuites" []
    ∷ start "testsuite" ("name" ≔ "s" ∷ [])
    ∷ start "testcase" ("name" ≔ "t" ∷ [])
    ∷ empty "rerunFailure" []
    ∷ [])
    (refuses 8 cause.EofInElement (testsuites ∷ testsuite 0 1 ∷ testcase 0 2 ∷ []) 4 nowhere)

-- ---- numbers in a Ref (rule X6)
abbrev pub numbered : List Markup → Expected → Case
numbered ms e =
    document (start "testsuites" []
    ∷ start "testsuite" ("name" ≔ "s" ∷ [])
    ∷ start "system-out" []
    ∷ ms
    ++ (end "system-out" ∷ end "testsuite" ∷ end "testsuites" ∷ []))
    e

-- U+00E9 twice
abbrev pub two_accents : TestSuite
two_accents =
    record {
      name = bytes "s";
      counts = no_counts;
      timestamp = none;
      time = none;
      hostname = none;
      cases = [];
      properties = [];
      system_out = some (0xC3 ∷ 0xA9 ∷ 0xC3 ∷ 0xA9 ∷ []);
      system_err = none;
      extra = [];
    }

-- a bad number is 10, and not 21 (rule X6); so is one with a semicolon, since a name counts whole
abbrev pub references : List Case
references =
    numbered (ref "#233" ∷ ref "#xe9" ∷ []) (reads (of_suites (two_accents ∷ [])))
    ∷ numbered (ref "#0" ∷ []) (refuses 10 cause.BadReference (testsuites ∷ testsuite 0 1 ∷ system-out ∷ []) 3 nowhere)
    ∷ numbered (ref "#" ∷ []) (refuses 10 cause.BadReference (testsuites ∷ testsuite 0 1 ∷ system-out ∷ []) 3 nowhere)
    ∷ numbered (ref "#65;" ∷ []) (refuses 10 cause.BadReference (testsuites ∷ testsuite 0 1 ∷ system-out ∷ []) 3 nowhere)
    ∷ []

-- ---- two tables that agree (rule L2)
-- the other table has Text, CData, Ref, Other and Indent, another message, and all else at other places of its source
abbrev pub agreeing : Case
agreeing =
    document (start "testsuites" ("name" ≔ "r" ∷ [])
    ∷ start "testsuite" ("name" ≔ "s" ∷ [])
    ∷ start "testcase" ("name" ≔ "t" ∷ [])
    ∷ start "failure" ("message" ≔ "m" ∷ [])
    ∷ end "failure"
    ∷ end "testcase"
    ∷ end "testsuite"
    ∷ end "testsuites"
    ∷ [])
    (agrees (comment "by hand"
    ∷ start "testsuites" ("name" ≔ "r" ∷ [])
    ∷ indent
    ∷ start "testsuite" ("name" ≔ "s" ∷ [])
    ∷ text "x"
    ∷ start "testcase" ("name" ≔ "t" ∷ [])
    ∷ start "failure" ("message" ≔ "private" ∷ [])
    ∷ text "y"
    ∷ cdata "<z>"
    ∷ ref "lt"
    ∷ end "failure"
    ∷ end "testcase"
    ∷ end "testsuite"
    ∷ end "testsuites"
    ∷ [])
    (lines ("(report \"r\" 0 0 0 0 -"
    ∷ "(suite \"s\" 0 0 0 0 -"
    ∷ "(case \"t\" - - failure rerun 0)))"
    ∷ [])))

-- ---- Empty tags, which are empty elements below report level (rules R13, R15, R16, S3 and S4)
-- a suite with these children
abbrev pub in_suite : List Markup → List Markup
in_suite ms = start "testsuites" [] ∷ start "testsuite" ("name" ≔ "s" ∷ []) ∷ (ms ++ (end "testsuite" ∷ end "testsuites" ∷ []))

-- a suite with these properties, and this output
abbrev pub of_properties : List Named → Option (List ℕ) → TestSuite
of_properties xs o =
    record {
      name = bytes "s";
      counts = no_counts;
      timestamp = none;
      time = none;
      hostname = none;
      cases = [];
      properties = map (λ (x : Named). record { key = x.key; value = x.value }) xs;
      system_out = o;
      system_err = none;
      extra = [];
    }

-- an Empty output in a status element gathers nothing: the case behind it is there
abbrev pub empty_in_status : Case
empty_in_status =
    document (in_suite (start "testcase" ("name" ≔ "t" ∷ [])
    ∷ start "failure" []
    ∷ empty "system-out" []
    ∷ end "failure"
    ∷ end "testcase"
    ∷ empty "testcase" ("name" ≔ "u" ∷ [])
    ∷ []))
    (lists (lines ("(report - 0 0 0 0 -"
    ∷ "(suite \"s\" 0 0 0 0 -"
    ∷ "(case \"t\" - - failure rerun 0)"
    ∷ "(case \"u\" - - success flaky 0)))"
    ∷ [])))

-- a run keeps it as an empty text, and a stack trace; an unknown Empty child is nothing, nor is one with a status name
abbrev pub empties_of_run : TestRerun
empties_of_run =
    record {
      kind = error;
      timestamp = none;
      time = none;
      message = none;
      type = none;
      stack_trace = some [];
      system_out = some [];
      system_err = none;
      description = some (bytes "d");
    }

abbrev pub empty_in_run : Case
empty_in_run =
    document (with_statuses (start "flakyError" []
    ∷ empty "stackTrace" []
    ∷ empty "x" []
    ∷ empty "system-out" []
    ∷ empty "failure" []
    ∷ text "d"
    ∷ end "flakyError"
    ∷ []))
    (reads (of_suites (of_cases (of_status (success (empties_of_run ∷ [])) ∷ []) ∷ [])))

-- an Empty list replaces the one before it
abbrev pub empty_list : Case
empty_list =
    document (in_suite (start "properties" [] ∷ empty "property" ("name" ≔ "a" ∷ "value" ≔ "b" ∷ []) ∷ end "properties" ∷ empty "properties" [] ∷ []))
    (reads (of_suites (of_properties [] none ∷ [])))

-- and an Empty output
abbrev pub empty_again : Case
empty_again =
    document (in_suite (start "system-out" [] ∷ text "a" ∷ end "system-out" ∷ empty "system-out" [] ∷ empty "x" [] ∷ []))
    (reads (of_suites (of_properties [] (some []) ∷ [])))

-- inside an output an Empty of its name ends nothing
abbrev pub empty_within : Case
empty_within =
    document (in_suite (start "system-out" [] ∷ text "a" ∷ empty "system-out" [] ∷ text "b" ∷ end "system-out" ∷ []))
    (reads (of_suites (of_properties [] (some (bytes "ab")) ∷ [])))

-- a property in its other spelling
abbrev pub start_property : Case
start_property =
    document (in_suite (start "properties" [] ∷ start "property" ("name" ≔ "a" ∷ "value" ≔ "b" ∷ []) ∷ empty "x" [] ∷ end "property" ∷ end "properties" ∷ []))
    (reads (of_suites (of_properties ("a" ≔ "b" ∷ []) none ∷ [])))

-- nothing in it counts, and no End in it but its own; an Empty list inside a list ends nothing
abbrev pub property_content : Case
property_content =
    document (in_suite (start "properties" []
    ∷ start "property" ("name" ≔ "a" ∷ "value" ≔ "b" ∷ [])
    ∷ empty "property" ("name" ≔ "c" ∷ "value" ≔ "d" ∷ [])
    ∷ end "properties"
    ∷ end "property"
    ∷ empty "properties" []
    ∷ empty "property" ("name" ≔ "e" ∷ "value" ≔ "f" ∷ [])
    ∷ end "properties"
    ∷ []))
    (reads (of_suites (of_properties ("a" ≔ "b" ∷ "e" ≔ "f" ∷ []) none ∷ [])))

-- cut off in its content, which is a skip; the path is that of the list: testsuites/testsuite[0]("s")/properties
abbrev pub property_cut : Case
property_cut =
    document (start "testsuites" []
    ∷ start "testsuite" ("name" ≔ "s" ∷ [])
    ∷ start "properties" []
    ∷ start "property" ("name" ≔ "a" ∷ "value" ≔ "b" ∷ [])
    ∷ end "properties"
    ∷ [])
    (refuses 1 cause.EofInSkip (testsuites ∷ testsuite 0 1 ∷ properties ∷ []) 5 nowhere)

abbrev pub empty_tags : List Case
empty_tags =
    empty_in_status
    ∷ empty_in_run
    ∷ empty_list
    ∷ empty_again
    ∷ empty_within
    ∷ start_property
    ∷ property_content
    ∷ property_cut
    ∷ []

-- ---- tags at report level (rules R3 and R7)
-- an unknown tag is passed over by itself, Start, Empty and End: what it holds is read as if it stood at report level
abbrev pub under_unknown : Case
under_unknown =
    document (start "x" []
    ∷ start "testsuites" []
    ∷ start "testcase" []
    ∷ empty "y" []
    ∷ empty "testsuite" ("name" ≔ "s" ∷ [])
    ∷ end "testcase"
    ∷ end "x"
    ∷ empty "testsuite" ("name" ≔ "t" ∷ [])
    ∷ end "testsuites"
    ∷ [])
    (lists (lines ("(report - 0 0 0 0 -"
    ∷ "(suite \"s\" 0 0 0 0 -)"
    ∷ "(suite \"t\" 0 0 0 0 -))"
    ∷ [])))

-- the first report is dead with its suite and case, and they aren't listed (rule M12)
abbrev pub second_report : Case
second_report =
    document (start "testsuites" ("name" ≔ "q" ∷ [])
    ∷ start "testsuite" ("name" ≔ "x" ∷ [])
    ∷ empty "testcase" ("name" ≔ "y" ∷ [])
    ∷ end "testsuite"
    ∷ start "testsuites" ("name" ≔ "r" ∷ [])
    ∷ empty "testsuite" ("name" ≔ "s" ∷ [])
    ∷ end "testsuites"
    ∷ [])
    (lists (lines ("(report \"r\" 0 0 0 0 -"
    ∷ "(suite \"s\" 0 0 0 0 -))"
    ∷ [])))

-- ---- attributes are read of report, suite, case, status element and property, where these count, and of no other tag (rule A1)
-- refused where they are read (rule A3)
abbrev pub repeated : List Named
repeated = "a" ≔ "" ∷ "a" ≔ "" ∷ []

-- in turn: a suite before the report; at report level; in a suite, in what is skipped there, in a list, of the outputs; in a case and a
-- status element
abbrev pub unread : Case
unread =
    document (empty "testsuite" repeated
    ∷ start "testsuites" []
    ∷ start "x" repeated
    ∷ empty "testcase" repeated
    ∷ start "testsuite" ("name" ≔ "s" ∷ [])
    ∷ start "x" repeated
    ∷ empty "testcase" repeated
    ∷ end "x"
    ∷ empty "failure" repeated
    ∷ start "properties" repeated
    ∷ start "x" repeated
    ∷ end "properties"
    ∷ start "system-out" repeated
    ∷ empty "testcase" repeated
    ∷ end "system-out"
    ∷ start "testcase" ("name" ≔ "t" ∷ [])
    ∷ empty "property" repeated
    ∷ start "failure" []
    ∷ start "stackTrace" repeated
    ∷ end "stackTrace"
    ∷ empty "system-err" repeated
    ∷ empty "failure" repeated
    ∷ end "failure"
    ∷ end "testcase"
    ∷ end "testsuite"
    ∷ end "testsuites"
    ∷ [])
    (lists (lines ("(report - 0 0 0 0 -"
    ∷ "(suite \"s\" 0 0 0 0 -"
    ∷ "(case \"t\" - - failure rerun 0)))"
    ∷ [])))

-- the elements whose attributes are read; the case is `twice`
abbrev pub read_tags : List Case
read_tags =
    document (empty "testsuites" repeated ∷ []) (refuses 9 cause.RepeatedKey (testsuites ∷ []) 0 1)
    ∷ document (start "testsuites" [] ∷ empty "testsuite" repeated ∷ []) (refuses 9 cause.RepeatedKey (testsuites ∷ testsuite 0 nowhere ∷ []) 1 1)
    ∷ document (with_statuses (empty "skipped" repeated ∷ [])) (refuses 9 cause.RepeatedKey (testsuites ∷ testsuite 0 1 ∷ testcase 0 2 ∷ skipped ∷ []) 3 3)
    ∷ document (in_suite (start "properties" [] ∷ empty "property" repeated ∷ []))
    (refuses 9 cause.RepeatedKey (testsuites ∷ testsuite 0 1 ∷ properties ∷ property 0 ∷ []) 3 2)
    ∷ []

-- a `property` without value, cut off in its content: 7 at its Start, not 1 behind it (rule A12):
-- testsuites/testsuite[0]("s")/properties/property[0]/@value
abbrev pub missing_value : Case
missing_value =
    document (start "testsuites" []
    ∷ start "testsuite" ("name" ≔ "s" ∷ [])
    ∷ start "properties" []
    ∷ start "property" ("name" ≔ "a" ∷ [])
    ∷ [])
    (refuses 7 cause.MissingAttribute (testsuites ∷ testsuite 0 1 ∷ properties ∷ property 0 ∷ attribute 14 ∷ []) 3 nowhere)

-- ---- dead records (rules M12 and M13)
-- a record of 32 words that begins with these
abbrev pub row : List ℕ → List ℕ
row ws = ws ++ replicate (32 - length ws) 0

-- a name, and a value behind it, each a byte long, from byte p of the texts on
abbrev pub pair : ℕ → ℕ → List ℕ
pair k p = row (k ∷ 3 ∷ p ∷ 1 ∷ (p + 1) ∷ 1 ∷ [])

-- nothing of a dead record is looked at but its kind
abbrev pub dead : ℕ → List ℕ
dead k = (k + 16) ∷ replicate 31 9

-- one before the report, one between each element and its first extra, one within each list, a failure and a rerun beside a flaky run
abbrev pub with_dead : List (List ℕ)
with_dead =
    dead 1
    ∷ row (1 ∷ [])
    ∷ row (2 ∷ 1 ∷ 0 ∷ 1 ∷ [])
    ∷ dead 13
    ∷ pair 13 1
    ∷ pair 4 3
    ∷ dead 3
    ∷ pair 4 5
    ∷ row (3 ∷ 1 ∷ 7 ∷ 1 ∷ [])
    ∷ dead 2
    ∷ pair 14 1
    ∷ pair 5 3
    ∷ dead 6
    ∷ pair 5 5
    ∷ dead 12
    ∷ row (9 ∷ [])
    ∷ []

abbrev pub joined : List (List ℕ) → List ℕ
joined [] = []
joined (r ∷ rs) = r ++ joined rs

abbrev pub dead_among : Case
dead_among =
    tree (joined with_dead) (bytes "skvabcdt") (lines ("(report - 0 0 0 0 -"
    ∷ "(suite \"s\" 0 0 0 0 -"
    ∷ "(case \"t\" - - success flaky 1"
    ∷ "(run failure -))))"
    ∷ []))
    live_events

abbrev pub later_cases : List Case
later_cases = under_unknown ∷ second_report ∷ unread ∷ missing_value ∷ dead_among ∷ read_tags

-- ---- the table
abbrev pub cases : List Case
cases =
    worked
    ∷ not_utf8
    ∷ bad_integer
    ∷ bad_timestamp
    ∷ bad_time
    ∷ bad_uuid
    ∷ missing_name
    ∷ no_events
    ∷ twice
    ∷ bad_reference
    ∷ plus_five
    ∷ exact
    ∷ flaky_alone
    ∷ output
    ∷ two_mains
    ∷ reruns_alone_of
    ∷ skipped_flaky
    ∷ flaky_and_rerun
    ∷ unknown_name
    ∷ no_report
    ∷ cut_off_of
    ∷ agreeing
    ∷ document worked_document (writes worked_events)
    ∷ report full full_events
    ∷ report one_flaky one_flaky_events
    ∷ report empty_output empty_output_events
    ∷ (references ++ (empty_tags ++ later_cases))
