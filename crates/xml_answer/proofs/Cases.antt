-- The cases computed. Assumes nothing.
use lib.Ieee.{add, sum, div, of_int, round, units, odd, size, span, climb}
use lib.Count.{count_trailing_zeros}
use mathlib.Core.Path.{refl}
use Rattle.list_text.specs.of_digits.Digits as digits
use Rattle.list_text.specs.of_time_text.Written.{time_text, thousandths_of, float_sum}
use Rattle.write_answer.specs.of_write_escape.Escape as escape
use Rattle.write_answer.specs.of_write_report.Written as write
use Rattle.write_answer.specs.of_write_spelled.Spelled.{spelled}
use Rattle.xml_answer.specs.Answer.{document}
use Rattle.xml_answer.specs.Cases.{Cases}

pub cases : Cases
unfolding
    digits.digit digits.places digits.decimal time_text thousandths_of float_sum add sum div of_int round units odd size span climb count_trailing_zeros escape.written
    write.serialize_output write.serialize_property write.serialize_properties write.serialize_outputs write.serialize_status write.serialize_rerun
    write.serialize_elements write.serialize_test_case write.serialize_test_suite write.declaration write.serialize_report write.numbered write.written
    spelled document
cases = record { nothing_is = refl; childless_is = refl; escapes_is = refl; outputs_is = refl; runs_is = refl; worked_is = refl }
