-- Gathered texts in short areas: each has scratch for itself, and what is refused is refused where it comes (rules M6, M7 and F9). What is
-- expected is written down, not computed. Definitions only.
use Rattle.std.specs.Prelude.{ℕ, ◌≡◌, List, [], ◌∷◌, ◌++◌}
use Prim.Native.String.{String}
use Rattle.std.proofs.Math.Option.{Option, none, some}
use Rattle.public_claims.specs.of_names.Bytes.{bytes}
use Rattle.public_claims.specs.of_refusal.Refusal.{Outcome, accepted, refused, nowhere}
use Rattle.public_claims.specs.of_refusal.declared.Cause.{Cause}
use Rattle.public_claims.specs.of_refusal.declared.Cause.TheVariants as cause
use Rattle.public_claims.specs.of_refusal.declared.PathElement.{PathElement}
use Rattle.public_claims.specs.of_tree_report.Report.{failure, error, rerun, success, non_success, Report}
use Rattle.public_claims.specs.of_tree_report.ReportOf.{report_of}
use Rattle.public_claims.specs.of_read_element.Outcome.{◌>>=◌}
use Rattle.public_claims.specs.of_read_machine.Reading.{Read, reading}
use Rattle.public_cases.specs.Document.{Markup, ◌≔◌, start, end, text, cdata, ref, events_of, attributes_of, source_of}
use Rattle.public_cases.specs.Reports.{of_status, of_cases, of_suites}
use Rattle.public_cases.specs.Cases.{testsuites, testsuite, testcase, attribute}

-- a document, the bytes of the text area and of scratch, and the answer; there are 10 records of 32 words
pub record Short : Type 0 where
  pub document : List Markup
  pub text : ℕ
  pub scratch : ℕ
  pub answer : Outcome Report

abbrev pub read_short_of : Short → Read
read_short_of c = reading (events_of c.document) (attributes_of c.document) (source_of c.document) 320 c.text c.scratch

-- this answer, and the report that it accepts left in the areas
abbrev pub Answers : Short → Type 0
Answers c =
    ◌≡◌ {A = Outcome (Option Report)}
    ((read_short_of c).outcome >>= λ _. accepted (report_of (read_short_of c).words (read_short_of c).text))
    (c.answer >>= λ r. accepted (some r))

-- ---- how the cases are written
-- one case with one element, whose content begins with event 4
abbrev pub within : String → List Markup → List Markup
within n ms =
    start "testsuites" [] ∷ start "testsuite" ("name" ≔ "s" ∷ []) ∷ start "testcase" ("name" ≔ "t" ∷ []) ∷ start n []
    ∷ ms ++ (end n ∷ end "testcase" ∷ end "testsuite" ∷ end "testsuites" ∷ [])

-- kind by docs/REFUSALS.md: failure 6, error 7
abbrev pub element : ℕ → PathElement
element k = record { kind = k; index = nowhere; event = nowhere }

-- refused in the case: cause, event, the path behind it
abbrev pub no : Cause → ℕ → List PathElement → Outcome Report
no why e p = refused (record { cause = why; path = testsuites ∷ testsuite 0 1 ∷ testcase 0 2 ∷ p; event = e; attribute = nowhere })

-- ---- a description that goes on behind its stack trace
abbrev pub goes_on_of : List Markup
goes_on_of = within "failure" (text "abc" ∷ start "stackTrace" [] ∷ text "de" ∷ end "stackTrace" ∷ text "f" ∷ [])

-- as long as the longer text; a main keeps no stack trace
abbrev pub longest_fits : Short
longest_fits =
    record {
      document = goes_on_of;
      text = 64;
      scratch = 4;
      answer = accepted (of_suites (of_cases (of_status (non_success failure (record { message = none; type = none; description = some (bytes "abcf") }) rerun []) ∷ []) ∷ []));
    }

-- a byte less: 14 where the description passes the end
abbrev pub one_short : Short
one_short = record { document = goes_on_of; text = 64; scratch = 3; answer = no cause.ScratchFull 8 (element 6 ∷ []) }

-- 13 at the child's End, with one byte of text left behind the two names: testsuites/testsuite[0]/testcase[0]/failure/@stack_trace
abbrev pub text_short : Short
text_short =
    record {
      document = within "failure" (text "ab" ∷ start "stackTrace" [] ∷ text "cd" ∷ end "stackTrace" ∷ []);
      text = 3;
      scratch = 2;
      answer = no cause.TextFull 7 (element 6 ∷ attribute 15 ∷ []);
    }

-- 10 of a later piece, which comes before its 14
abbrev pub bad_first : Short
bad_first =
    record {
      document = within "error" (text "ab" ∷ start "system-err" [] ∷ text "xy" ∷ end "system-err" ∷ text "c&;" ∷ []);
      text = 64;
      scratch = 2;
      answer = no cause.BadReference 8 (element 7 ∷ []);
    }

-- four texts of one run, pieces of the description between them, none longer than scratch
abbrev pub texts_apart : Short
texts_apart =
    record {
      document = within "flakyError" (text "a" ∷ start "stackTrace" [] ∷ text "1234" ∷ end "stackTrace" ∷ text "b" ∷ start "system-out" [] ∷ text "5678" ∷ end "system-out"
          ∷ cdata "c" ∷ start "system-err" [] ∷ text "90" ∷ end "system-err" ∷ ref "amp" ∷ []);
      text = 16;
      scratch = 4;
      answer = accepted (of_suites (of_cases (of_status (success (record {
        kind = error;
        timestamp = none;
        time = none;
        message = none;
        type = none;
        stack_trace = some (bytes "1234");
        system_out = some (bytes "5678");
        system_err = some (bytes "90");
        description = some (bytes "abc&");
      } ∷ [])) ∷ []) ∷ []));
    }

pub record ShortCases : Type 0 where
  pub fits : Answers longest_fits
  pub short : Answers one_short
  pub stored : Answers text_short
  pub bad : Answers bad_first
  pub apart : Answers texts_apart
