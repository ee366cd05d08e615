-- Reports and their documents (rules W17 to W19), as the crate's serialize.rs has them over quick-xml's indenting writer: written down, not
-- computed. Definitions only.
use Rattle.std.specs.Prelude.{ℕ, ◌≡◌, List, [], ◌∷◌, ◌++◌}
use Prim.Native.String.{String}
use Rattle.std.proofs.Math.Option.{Option, none, some}
use Rattle.list_text.specs.of_names.Bytes.{bytes}
use Rattle.list_text.specs.of_tree_report.Report.{Text, Pair, Counts, failure, error, rerun, TestRerun, Reason, TestCaseStatus, success, non_success, skipped, TestCase, TestSuite, Report}
use Rattle.xml_answer.specs.Answer.{document}

-- the lines of a file, each ended by a newline
abbrev pub lines : List String → List ℕ
lines [] = []
lines (s ∷ ls) = bytes s ++ (10 ∷ lines ls)

-- ---- how the reports are written down
abbrev counts : ℕ → Counts
counts n = record { tests = n; failures = 0; errors = 0; skipped = 0; disabled = none }

abbrev report_of : Option Text → ℕ → List TestSuite → Report
report_of name n suites = record { name = name; uuid = none; timestamp = none; time = none; counts = counts n; suites = suites }

abbrev suite_of : Text → ℕ → List TestCase → List Pair → List Pair → Option Text → Option Text → TestSuite
suite_of name n cases extra properties out err =
    record { name = name; counts = counts n; timestamp = none; time = none; hostname = none; cases = cases; properties = properties; system_out = out; system_err = err; extra = extra }

abbrev plain_suite : Text → ℕ → List TestCase → TestSuite
plain_suite name n cases = suite_of name n cases [] [] none none

abbrev case_of : Text → TestCaseStatus → List Pair → TestCase
case_of name status properties = record {
  name = name;
  classname = none;
  assertions = none;
  timestamp = none;
  time = none;
  status = status;
  system_out = none;
  system_err = none;
  extra = [];
  properties = properties;
}

abbrev because : Option Text → Option Text → Reason
because message description = record { message = message; type = none; description = description }

abbrev pair_of : String → String → Pair
pair_of key value = record { key = bytes key; value = bytes value }

-- ---- the cases
-- no suites: the report's Start and End, on two lines
abbrev pub nothing : Report
nothing = report_of none 0 []

abbrev pub nothing_text : List ℕ
nothing_text =
    lines
    ("<?xml version=\"1.0\" encoding=\"UTF-8\"?>"
    ∷ "<testsuites tests=\"0\" skipped=\"0\" failures=\"0\" errors=\"0\">"
    ∷ "</testsuites>"
    ∷ [])

-- a suite without children is Empty
abbrev pub childless : Report
childless = report_of none 0 (plain_suite (bytes "s") 0 [] ∷ [])

abbrev pub childless_text : List ℕ
childless_text =
    lines
    ("<?xml version=\"1.0\" encoding=\"UTF-8\"?>"
    ∷ "<testsuites tests=\"0\" skipped=\"0\" failures=\"0\" errors=\"0\">"
    ∷ "    <testsuite name=\"s\" tests=\"0\" skipped=\"0\" errors=\"0\" failures=\"0\"/>"
    ∷ "</testsuites>"
    ∷ [])

-- the five escapes and no others: a newline stays raw, in a value, too
abbrev pub escapes : Report
escapes =
    report_of (some (bytes "&<>'\"" ++ (10 ∷ bytes "]]>"))) 0
    (suite_of (bytes "s") 0
    (case_of (bytes "c") (non_success error (because none (some (bytes "]]> a&b <c> \"d\" 'e'" ++ (10 ∷ bytes "&")))) rerun []) [] ∷ [])
    (record { key = bytes "k"; value = bytes "a\"b" ++ (10 ∷ bytes "c") } ∷ []) [] none none
    ∷ [])

abbrev pub escapes_text : List ℕ
escapes_text =
    lines
    ("<?xml version=\"1.0\" encoding=\"UTF-8\"?>"
    ∷ "<testsuites name=\"&amp;&lt;&gt;&apos;&quot;"
    ∷ "]]&gt;\" tests=\"0\" skipped=\"0\" failures=\"0\" errors=\"0\">"
    ∷ "    <testsuite name=\"s\" tests=\"0\" skipped=\"0\" errors=\"0\" failures=\"0\" k=\"a&quot;b"
    ∷ "c\">"
    ∷ "        <testcase name=\"c\">"
    ∷ "            <error>]]&gt; a&amp;b &lt;c&gt; &quot;d&quot; &apos;e&apos;"
    ∷ "&amp;</error>"
    ∷ "        </testcase>"
    ∷ "    </testsuite>"
    ∷ "</testsuites>"
    ∷ [])

-- properties, outputs, and an empty output; no indent beside text
abbrev pub outputs : Report
outputs =
    report_of none 0
    (suite_of (bytes "s") 0 [] [] (pair_of "p" "v" ∷ pair_of "q" "w" ∷ []) (some []) (some (bytes "a" ++ (10 ∷ bytes "b")))
    ∷ plain_suite (bytes "t") 0 (case_of (bytes "c") (skipped (because none none)) (pair_of "p" "v" ∷ []) ∷ [])
    ∷ [])

abbrev pub outputs_text : List ℕ
outputs_text =
    lines
    ("<?xml version=\"1.0\" encoding=\"UTF-8\"?>"
    ∷ "<testsuites tests=\"0\" skipped=\"0\" failures=\"0\" errors=\"0\">"
    ∷ "    <testsuite name=\"s\" tests=\"0\" skipped=\"0\" errors=\"0\" failures=\"0\">"
    ∷ "        <properties>"
    ∷ "            <property name=\"p\" value=\"v\"/>"
    ∷ "            <property name=\"q\" value=\"w\"/>"
    ∷ "        </properties>"
    ∷ "        <system-out></system-out>"
    ∷ "        <system-err>a"
    ∷ "b</system-err>"
    ∷ "    </testsuite>"
    ∷ "    <testsuite name=\"t\" tests=\"0\" skipped=\"0\" errors=\"0\" failures=\"0\">"
    ∷ "        <testcase name=\"c\">"
    ∷ "            <properties>"
    ∷ "                <property name=\"p\" value=\"v\"/>"
    ∷ "            </properties>"
    ∷ "            <skipped/>"
    ∷ "        </testcase>"
    ∷ "    </testsuite>"
    ∷ "</testsuites>"
    ∷ [])

-- runs: an Indent behind a description that a child follows; a run without content stands on two lines
abbrev empty_run : TestRerun
empty_run = record {
  kind = error;
  timestamp = none;
  time = none;
  message = none;
  type = none;
  stack_trace = none;
  system_out = none;
  system_err = none;
  description = none;
}

abbrev pub runs : Report
runs =
    report_of none 0
    (plain_suite (bytes "s") 0
    (case_of (bytes "c")
    (success
    (record {
      kind = failure;
      timestamp = none;
      time = none;
      message = some (bytes "m");
      type = some (bytes "t");
      stack_trace = some (bytes "st");
      system_out = some (bytes "o");
      system_err = some (bytes "e");
      description = some (bytes "d");
    }
    ∷ empty_run
    ∷ record { kind = error; timestamp = none; time = none; message = none; type = none; stack_trace = none; system_out = none; system_err = none; description = some (bytes "only") }
    ∷ record { kind = failure; timestamp = none; time = none; message = none; type = none; stack_trace = none; system_out = none; system_err = some []; description = none }
    ∷ [])) [] ∷ []) ∷ [])

abbrev pub runs_text : List ℕ
runs_text =
    lines
    ("<?xml version=\"1.0\" encoding=\"UTF-8\"?>"
    ∷ "<testsuites tests=\"0\" skipped=\"0\" failures=\"0\" errors=\"0\">"
    ∷ "    <testsuite name=\"s\" tests=\"0\" skipped=\"0\" errors=\"0\" failures=\"0\">"
    ∷ "        <testcase name=\"c\">"
    ∷ "            <flakyFailure message=\"m\" type=\"t\">d"
    ∷ "                <stackTrace>st</stackTrace>"
    ∷ "                <system-out>o</system-out>"
    ∷ "                <system-err>e</system-err>"
    ∷ "            </flakyFailure>"
    ∷ "            <flakyError>"
    ∷ "            </flakyError>"
    ∷ "            <flakyError>only</flakyError>"
    ∷ "            <flakyFailure>"
    ∷ "                <system-err></system-err>"
    ∷ "            </flakyFailure>"
    ∷ "        </testcase>"
    ∷ "    </testsuite>"
    ∷ "</testsuites>"
    ∷ [])

-- the report of example/worked.bin
abbrev pub worked : Report
worked =
    report_of (some (bytes "r")) 2
    (plain_suite (bytes "lab") 2
    (record {
      name = bytes "a";
      classname = none;
      assertions = none;
      timestamp = none;
      time = some (record { seconds = 0; nanos = 500000000 });
      status = success [];
      system_out = none;
      system_err = none;
      extra = [];
      properties = [];
    }
    ∷ case_of (bytes "b") (non_success failure (because (some (bytes "m")) none) rerun
    (record { kind = failure; timestamp = none; time = none; message = none; type = none; stack_trace = none; system_out = none; system_err = none; description = none } ∷ [])) []
    ∷ []) ∷ [])

abbrev pub worked_text : List ℕ
worked_text =
    lines
    ("<?xml version=\"1.0\" encoding=\"UTF-8\"?>"
    ∷ "<testsuites name=\"r\" tests=\"2\" skipped=\"0\" failures=\"0\" errors=\"0\">"
    ∷ "    <testsuite name=\"lab\" tests=\"2\" skipped=\"0\" errors=\"0\" failures=\"0\">"
    ∷ "        <testcase name=\"a\" time=\"0.500\"/>"
    ∷ "        <testcase name=\"b\">"
    ∷ "            <failure message=\"m\"/>"
    ∷ "            <rerunFailure>"
    ∷ "            </rerunFailure>"
    ∷ "        </testcase>"
    ∷ "    </testsuite>"
    ∷ "</testsuites>"
    ∷ [])

-- each report has this document
pub record Cases : Type 0 where
  pub nothing_is : document nothing ≡ nothing_text
  pub childless_is : document childless ≡ childless_text
  pub escapes_is : document escapes ≡ escapes_text
  pub outputs_is : document outputs ≡ outputs_text
  pub runs_is : document runs ≡ runs_text
  pub worked_is : document worked ≡ worked_text
