-- Orders worked out: their tables, a listing, and answers on both sides of a border. Assumes nothing.
use mathlib.Core.Path.{◌≡◌, refl}
use mathlib.Core.List.{[], ◌∷◌, ◌++◌}
use Rattle.order_report.specs.of_names.Bytes.{bytes}
use Rattle.order_report.specs.of_digits.Digits.{decimal, places}
use Rattle.order_report.specs.of_escape.Escape.{letter, listed}
use Rattle.order_report.specs.of_refusal.Refusal.{accepted, refused, late}
use Rattle.order_report.specs.of_refusal.declared.Cause.TheVariants as cause
use Rattle.order_report.specs.of_write_escape.Escape as escape
use Rattle.order_report.specs.of_write_report.Written as write
use Rattle.order_report.specs.of_write_table.Laid.{items_of, event_words, attribute_words, laid_bytes, laid_out}
use Rattle.round_claims.specs.of_list_text.Listing.{render, render_public, header, suite_text, case_text, run_text}
use Rattle.order_report.specs.Rehearsal.{order_of, kinds_in, rehearsal}
use Rattle.order_report.specs.Answer.{ordered_table, order_answer, ordered}

-- no cases: the suite is Empty
no_cases : ordered_table (order_of 0 0 0 0 0)
    ≡ record {
      events =
          6 ∷ 0 ∷ 34 ∷ 0 ∷ 0
          ∷ 0 ∷ 34 ∷ 10 ∷ 0 ∷ 5
          ∷ 1 ∷ 87 ∷ 9 ∷ 5 ∷ 5
          ∷ 2 ∷ 139 ∷ 10 ∷ 0 ∷ 0
          ∷ 7 ∷ 0 ∷ 0 ∷ 0 ∷ 0
          ∷ 9 ∷ 0 ∷ 0 ∷ 0 ∷ 0
          ∷ [];
      attributes =
          0 ∷ 44 ∷ 4 ∷ 48 ∷ 9
          ∷ 0 ∷ 57 ∷ 5 ∷ 62 ∷ 1
          ∷ 0 ∷ 63 ∷ 7 ∷ 70 ∷ 1
          ∷ 0 ∷ 71 ∷ 8 ∷ 79 ∷ 1
          ∷ 0 ∷ 80 ∷ 6 ∷ 86 ∷ 1
          ∷ 0 ∷ 96 ∷ 4 ∷ 100 ∷ 9
          ∷ 0 ∷ 109 ∷ 5 ∷ 114 ∷ 1
          ∷ 0 ∷ 115 ∷ 7 ∷ 122 ∷ 1
          ∷ 0 ∷ 123 ∷ 6 ∷ 129 ∷ 1
          ∷ 0 ∷ 130 ∷ 8 ∷ 138 ∷ 1
          ∷ [];
      bytes =
          bytes "xml version=\"1.0\" encoding=\"UTF-8\"testsuitesnamerehearsaltests0skipped0failures0errors0testsuitenamerehearsaltests0skipped0errors0failures0testsuites";
    }
unfolding ordered_table kinds_in decimal places escape.written
    write.serialize_outputs write.serialize_properties write.serialize_status write.serialize_rerun write.serialize_elements write.serialize_test_case
    write.serialize_test_suite write.declaration write.serialize_report write.numbered write.written items_of event_words attribute_words laid_bytes laid_out
no_cases = refl

-- one case of each kind
one-of-each : ordered_table (order_of 5 1 1 1 1)
    ≡ record {
      events =
          6 ∷ 0 ∷ 34 ∷ 0 ∷ 0
          ∷ 0 ∷ 34 ∷ 10 ∷ 0 ∷ 5
          ∷ 0 ∷ 87 ∷ 9 ∷ 5 ∷ 5
          ∷ 0 ∷ 139 ∷ 8 ∷ 10 ∷ 1
          ∷ 1 ∷ 156 ∷ 7 ∷ 0 ∷ 0
          ∷ 2 ∷ 163 ∷ 8 ∷ 0 ∷ 0
          ∷ 0 ∷ 171 ∷ 8 ∷ 11 ∷ 1
          ∷ 1 ∷ 188 ∷ 5 ∷ 0 ∷ 0
          ∷ 2 ∷ 193 ∷ 8 ∷ 0 ∷ 0
          ∷ 0 ∷ 201 ∷ 8 ∷ 12 ∷ 1
          ∷ 1 ∷ 218 ∷ 7 ∷ 0 ∷ 0
          ∷ 2 ∷ 225 ∷ 8 ∷ 0 ∷ 0
          ∷ 0 ∷ 233 ∷ 8 ∷ 13 ∷ 1
          ∷ 0 ∷ 250 ∷ 12 ∷ 0 ∷ 0
          ∷ 2 ∷ 262 ∷ 12 ∷ 0 ∷ 0
          ∷ 2 ∷ 274 ∷ 8 ∷ 0 ∷ 0
          ∷ 1 ∷ 282 ∷ 8 ∷ 14 ∷ 1
          ∷ 2 ∷ 299 ∷ 9 ∷ 0 ∷ 0
          ∷ 2 ∷ 308 ∷ 10 ∷ 0 ∷ 0
          ∷ 7 ∷ 0 ∷ 0 ∷ 0 ∷ 0
          ∷ 9 ∷ 0 ∷ 0 ∷ 0 ∷ 0
          ∷ [];
      attributes =
          0 ∷ 44 ∷ 4 ∷ 48 ∷ 9
          ∷ 0 ∷ 57 ∷ 5 ∷ 62 ∷ 1
          ∷ 0 ∷ 63 ∷ 7 ∷ 70 ∷ 1
          ∷ 0 ∷ 71 ∷ 8 ∷ 79 ∷ 1
          ∷ 0 ∷ 80 ∷ 6 ∷ 86 ∷ 1
          ∷ 0 ∷ 96 ∷ 4 ∷ 100 ∷ 9
          ∷ 0 ∷ 109 ∷ 5 ∷ 114 ∷ 1
          ∷ 0 ∷ 115 ∷ 7 ∷ 122 ∷ 1
          ∷ 0 ∷ 123 ∷ 6 ∷ 129 ∷ 1
          ∷ 0 ∷ 130 ∷ 8 ∷ 138 ∷ 1
          ∷ 0 ∷ 147 ∷ 4 ∷ 151 ∷ 5
          ∷ 0 ∷ 179 ∷ 4 ∷ 183 ∷ 5
          ∷ 0 ∷ 209 ∷ 4 ∷ 213 ∷ 5
          ∷ 0 ∷ 241 ∷ 4 ∷ 245 ∷ 5
          ∷ 0 ∷ 290 ∷ 4 ∷ 294 ∷ 5
          ∷ [];
      bytes =
          (bytes "xml version=\"1.0\" encoding=\"UTF-8\"testsuitesnamerehearsaltests5skipped1failures1errors1testsuitenamerehearsaltests5skipped1errors1failures1testcasenam"
          ++ (bytes "ecase0failuretestcasetestcasenamecase1errortestcasetestcasenamecase2skippedtestcasetestcasenamecase3flakyFailureflakyFailuretestcasetestcasenamecase4t"
          ++ bytes "estsuitetestsuites"));
    }
unfolding ordered_table kinds_in decimal places escape.written
    write.serialize_outputs write.serialize_properties write.serialize_status write.serialize_rerun write.serialize_elements write.serialize_test_case
    write.serialize_test_suite write.declaration write.serialize_report write.numbered write.written items_of event_words attribute_words laid_bytes laid_out
one-of-each = refl

listing : render (rehearsal (order_of 5 1 1 1 1))
    ≡ (bytes "(report \"rehearsal\" 5 1 1 1 -\n(suite \"rehearsal\" 5 1 1 1 -\n"
    ++ (bytes "(case \"case0\" - - failure rerun 0)\n(case \"case1\" - - error rerun 0)\n(case \"case2\" - - skipped none 0)\n"
    ++ bytes "(case \"case3\" - - success flaky 1\n(run failure -))\n(case \"case4\" - - success flaky 0)))\n"))
unfolding kinds_in decimal places letter listed render render_public header suite_text case_text run_text
listing = refl

-- 23 comes before 24, and 24 before 16
past_cases : ordered (order_of 4097 0 0 0 0) 0 0 0 ≡ refused (late cause.TooManyCases)
unfolding order_answer
past_cases = refl

first-23 : ordered (order_of 4097 9 9 9 4097) 0 0 0 ≡ refused (late cause.TooManyCases)
unfolding order_answer
first-23 = refl

one-over : ordered (order_of 5 1 1 1 3) 0 0 0 ≡ refused (late cause.NoSuchReport)
unfolding order_answer
one-over = refl

kinds-alone : ordered (order_of 4096 4097 0 0 0) 0 0 0 ≡ refused (late cause.NoSuchReport)
unfolding order_answer
kinds-alone = refl

-- the sum of the four isn't taken by 64 bits
no_wrap : ordered (order_of 4096 18446744073709551615 1 0 0) 0 0 0 ≡ refused (late cause.NoSuchReport)
unfolding order_answer
no_wrap = refl

-- just enough, and a word of events, a word of attributes or a byte less
enough : ordered (order_of 0 0 0 0 0) 30 50 149 ≡ accepted (record { events = 6; attributes = 10; bytes = 149 })
unfolding order_answer ordered_table kinds_in decimal places escape.written
    write.serialize_outputs write.serialize_properties write.serialize_status write.serialize_rerun write.serialize_elements write.serialize_test_case
    write.serialize_test_suite write.declaration write.serialize_report write.numbered write.written items_of event_words attribute_words laid_bytes laid_out
enough = refl

events-short : ordered (order_of 0 0 0 0 0) 29 50 149 ≡ refused (late cause.OutputFull)
unfolding order_answer ordered_table kinds_in decimal places escape.written
    write.serialize_outputs write.serialize_properties write.serialize_status write.serialize_rerun write.serialize_elements write.serialize_test_case
    write.serialize_test_suite write.declaration write.serialize_report write.numbered write.written items_of event_words attribute_words laid_bytes laid_out
events-short = refl

attributes-short : ordered (order_of 0 0 0 0 0) 30 49 149 ≡ refused (late cause.OutputFull)
unfolding order_answer ordered_table kinds_in decimal places escape.written
    write.serialize_outputs write.serialize_properties write.serialize_status write.serialize_rerun write.serialize_elements write.serialize_test_case
    write.serialize_test_suite write.declaration write.serialize_report write.numbered write.written items_of event_words attribute_words laid_bytes laid_out
attributes-short = refl

bytes-short : ordered (order_of 0 0 0 0 0) 30 50 148 ≡ refused (late cause.OutputFull)
unfolding order_answer ordered_table kinds_in decimal places escape.written
    write.serialize_outputs write.serialize_properties write.serialize_status write.serialize_rerun write.serialize_elements write.serialize_test_case
    write.serialize_test_suite write.declaration write.serialize_report write.numbered write.written items_of event_words attribute_words laid_bytes laid_out
bytes-short = refl
