-- The attributes of a report, suite or case, key by key. Assumes nothing.
use Prim.Native.Nat.{ℕ}
use mathlib.Core.Path.{◌≡◌, refl, sym, ap, ◌∙◌}
use mathlib.Core.List.{List, [], ◌∷◌, ◌++◌, append-nil}
use mathlib.Core.Bool.{Bool, true, false, cond}
use lib.ListN.{get_or}
use Rattle.write_report.specs.of_names.Bytes.{bytes}
use Rattle.write_report.specs.of_names.Keys.{keys}
use Rattle.write_report.specs.of_names.Keys as key
use Rattle.write_report.specs.of_timestamp.declared.Moment.{Moment}
use Rattle.write_report.specs.of_uuids.declared.Words.{Words}
use Rattle.write_report.specs.of_table.Event.{Attribute}
use Rattle.write_report.specs.of_tree_record.Bits as bit
use Rattle.write_report.specs.of_tree_record.Words as word
use Rattle.write_report.specs.of_tree_report.Fields.{given, has_bit, text_at, number_at, moment_of, first, second, hostname, uuid, timestamp, time, counts, assertions}
use Rattle.write_report.specs.of_write_moment.Written.{timestamp_text}
use Rattle.write_report.specs.of_write_uuid.Written.{uuid_text}
use Rattle.write_report.specs.Written.{attribute, textual, numeric, optional, stamped, timed}
use Rattle.write_items.specs.inside.Values.{report_name, key_name, words_of, offset_of, value_of}
use Rattle.write_items.specs.inside.Slots.{bit_of, is_present, slot_of, slots}
use Rattle.write_items.specs.inside.Case.{case_codes}
use Rattle.write_items.specs.inside.Suite.{suite_codes}
use Rattle.write_items.specs.inside.Document.{report_codes}

module _ {A : Type 0} (f : A → List Attribute) (x : A) (a : Attribute) (l tail rest : List Attribute) (h : l ++ tail ≡ rest) where
  may-miss : (b : Bool) → f x ≡ a ∷ [] → cond b (a ∷ l) l ++ tail ≡ optional f (given b x) ++ rest
  may-miss true e = rw (e, h) refl
  may-miss false e = h

-- one key, and what follows
module _ (text r : List ℕ) (tail : List Attribute) (cs : List ℕ) {rest : List Attribute} (h : slots text r cs ++ tail ≡ rest) where
  always-slot : (c : ℕ) → is_present r c ≡ true → slots text r (c ∷ cs) ++ tail ≡ slot_of text r c ∷ rest
  always-slot c e = rw e (ap (λ (l : List Attribute). slot_of text r c ∷ l) h)

  name-slot : slots text r (key.name ∷ cs) ++ tail ≡ textual (bytes "name") (text_at text r word.name) ++ rest
  unfolding is_present bit_of key_name keys value_of offset_of
  name-slot = always-slot key.name refl

  tests-slot : slots text r (key.tests ∷ cs) ++ tail ≡ numeric (bytes "tests") (number_at r word.tests) ++ rest
  unfolding is_present bit_of key_name keys value_of offset_of
  tests-slot = always-slot key.tests refl

  failures-slot : slots text r (key.failures ∷ cs) ++ tail ≡ numeric (bytes "failures") (number_at r word.failures) ++ rest
  unfolding is_present bit_of key_name keys value_of offset_of
  failures-slot = always-slot key.failures refl

  errors-slot : slots text r (key.errors ∷ cs) ++ tail ≡ numeric (bytes "errors") (number_at r word.errors) ++ rest
  unfolding is_present bit_of key_name keys value_of offset_of
  errors-slot = always-slot key.errors refl

  skipped-slot : slots text r (key.skipped ∷ cs) ++ tail ≡ numeric (bytes "skipped") (number_at r word.skipped) ++ rest
  unfolding is_present bit_of key_name keys value_of offset_of
  skipped-slot = always-slot key.skipped refl

  report-name-slot : slots text r (report_name ∷ cs) ++ tail ≡ optional (textual (bytes "name")) (first text r) ++ rest
  unfolding is_present bit_of key_name keys value_of offset_of
  report-name-slot = may-miss (textual (bytes "name")) (text_at text r word.name) (slot_of text r report_name) (slots text r cs) tail rest h (has_bit bit.name r) refl

  classname-slot : slots text r (key.classname ∷ cs) ++ tail ≡ optional (textual (bytes "classname")) (second text r) ++ rest
  unfolding is_present bit_of key_name keys value_of offset_of
  classname-slot = may-miss (textual (bytes "classname")) (text_at text r word.classname) (slot_of text r key.classname) (slots text r cs) tail rest h (has_bit bit.classname r) refl

  hostname-slot : slots text r (key.hostname ∷ cs) ++ tail ≡ optional (textual (bytes "hostname")) (hostname text r) ++ rest
  unfolding is_present bit_of key_name keys value_of offset_of
  hostname-slot = may-miss (textual (bytes "hostname")) (text_at text r word.hostname) (slot_of text r key.hostname) (slots text r cs) tail rest h (has_bit bit.hostname r) refl

  assertions-slot : slots text r (key.assertions ∷ cs) ++ tail ≡ optional (numeric (bytes "assertions")) (assertions r) ++ rest
  unfolding is_present bit_of key_name keys value_of offset_of
  assertions-slot = may-miss (numeric (bytes "assertions")) (number_at r word.assertions) (slot_of text r key.assertions) (slots text r cs) tail rest h (has_bit bit.assertions r) refl

  disabled-slot : slots text r (key.disabled ∷ cs) ++ tail ≡ optional (numeric (bytes "disabled")) (counts r).disabled ++ rest
  unfolding is_present bit_of key_name keys value_of offset_of
  disabled-slot = may-miss (numeric (bytes "disabled")) (number_at r word.disabled) (slot_of text r key.disabled) (slots text r cs) tail rest h (has_bit bit.disabled r) refl

  uuid-slot : slots text r (key.uuid ∷ cs) ++ tail ≡ optional (λ (u : Words). attribute (bytes "uuid") (uuid_text u) ∷ []) (uuid r) ++ rest
  unfolding is_present bit_of key_name keys value_of offset_of
  uuid-slot = may-miss (λ (u : Words). attribute (bytes "uuid") (uuid_text u) ∷ []) (words_of r) (slot_of text r key.uuid) (slots text r cs) tail rest h (has_bit bit.uuid r) refl

  timestamp-slot : slots text r (key.timestamp ∷ cs) ++ tail ≡ stamped (timestamp r) ++ rest
  unfolding is_present bit_of key_name keys value_of offset_of
  timestamp-slot =
      may-miss (λ (m : Moment). attribute (bytes "timestamp") (timestamp_text m) ∷ []) (moment_of r) (slot_of text r key.timestamp) (slots text r cs) tail rest h (has_bit bit.timestamp r) refl

  time-slot : slots text r (key.time ∷ cs) ++ tail ≡ timed (time r) ++ rest
  unfolding is_present bit_of key_name keys value_of offset_of
  time-slot = go (has_bit bit.time r)
    where
      go : (b : Bool)
          → cond b (slot_of text r key.time ∷ slots text r cs) (slots text r cs) ++ tail ≡ timed (given b (record { seconds = get_or r word.seconds 0; nanos = get_or r word.time_nanos 0 })) ++ rest
      go true = ap (λ (l : List Attribute). slot_of text r key.time ∷ l) h
      go false = h

-- ---- all keys of an element, and its extras
module _ (text r : List ℕ) (tail : List Attribute) where
  time-last : slots text r (key.time ∷ []) ++ tail ≡ timed (time r) ++ tail
  time-last = time-slot text r tail [] refl

  moment-last : slots text r (key.timestamp ∷ key.time ∷ []) ++ tail ≡ stamped (timestamp r) ++ (timed (time r) ++ tail)
  moment-last = timestamp-slot text r tail (key.time ∷ []) time-last

  pub case-slots : slots text r case_codes ++ tail
      ≡ textual (bytes "name") (text_at text r word.name)
      ++ (optional (textual (bytes "classname")) (second text r)
      ++ (optional (numeric (bytes "assertions")) (assertions r)
      ++ (stamped (timestamp r)
      ++ (timed (time r) ++ tail))))
  case-slots =
      name-slot text r tail (key.classname ∷ key.assertions ∷ key.timestamp ∷ key.time ∷ [])
      (classname-slot text r tail (key.assertions ∷ key.timestamp ∷ key.time ∷ [])
      (assertions-slot text r tail (key.timestamp ∷ key.time ∷ []) moment-last))

  pub suite-slots : slots text r suite_codes ++ tail
      ≡ textual (bytes "name") (text_at text r word.name)
      ++ (numeric (bytes "tests") (counts r).tests
      ++ (numeric (bytes "skipped") (counts r).skipped
      ++ (numeric (bytes "errors") (counts r).errors
      ++ (numeric (bytes "failures") (counts r).failures
      ++ (optional (numeric (bytes "disabled")) (counts r).disabled
      ++ (stamped (timestamp r)
      ++ (timed (time r)
      ++ (optional (textual (bytes "hostname")) (hostname text r) ++ tail))))))))
  suite-slots =
      name-slot text r tail (key.tests ∷ key.skipped ∷ key.errors ∷ key.failures ∷ key.disabled ∷ key.timestamp ∷ key.time ∷ key.hostname ∷ [])
      (tests-slot text r tail (key.skipped ∷ key.errors ∷ key.failures ∷ key.disabled ∷ key.timestamp ∷ key.time ∷ key.hostname ∷ [])
      (skipped-slot text r tail (key.errors ∷ key.failures ∷ key.disabled ∷ key.timestamp ∷ key.time ∷ key.hostname ∷ [])
      (errors-slot text r tail (key.failures ∷ key.disabled ∷ key.timestamp ∷ key.time ∷ key.hostname ∷ [])
      (failures-slot text r tail (key.disabled ∷ key.timestamp ∷ key.time ∷ key.hostname ∷ [])
      (disabled-slot text r tail (key.timestamp ∷ key.time ∷ key.hostname ∷ [])
      (timestamp-slot text r tail (key.time ∷ key.hostname ∷ []) (time-slot text r tail (key.hostname ∷ []) (hostname-slot text r tail [] refl))))))))

module _ (text r : List ℕ) where
  pub report-slots : slots text r report_codes
      ≡ optional (textual (bytes "name")) (first text r)
      ++ (numeric (bytes "tests") (counts r).tests
      ++ (numeric (bytes "skipped") (counts r).skipped
      ++ (numeric (bytes "failures") (counts r).failures
      ++ (numeric (bytes "errors") (counts r).errors
      ++ (optional (numeric (bytes "disabled")) (counts r).disabled
      ++ (optional (λ (u : Words). attribute (bytes "uuid") (uuid_text u) ∷ []) (uuid r)
      ++ (stamped (timestamp r) ++ timed (time r))))))))
  report-slots =
      sym (append-nil (slots text r report_codes))
      ∙ report-name-slot text r [] (key.tests ∷ key.skipped ∷ key.failures ∷ key.errors ∷ key.disabled ∷ key.uuid ∷ key.timestamp ∷ key.time ∷ [])
      (tests-slot text r [] (key.skipped ∷ key.failures ∷ key.errors ∷ key.disabled ∷ key.uuid ∷ key.timestamp ∷ key.time ∷ [])
      (skipped-slot text r [] (key.failures ∷ key.errors ∷ key.disabled ∷ key.uuid ∷ key.timestamp ∷ key.time ∷ [])
      (failures-slot text r [] (key.errors ∷ key.disabled ∷ key.uuid ∷ key.timestamp ∷ key.time ∷ [])
      (errors-slot text r [] (key.disabled ∷ key.uuid ∷ key.timestamp ∷ key.time ∷ [])
      (disabled-slot text r [] (key.uuid ∷ key.timestamp ∷ key.time ∷ [])
      (uuid-slot text r [] (key.timestamp ∷ key.time ∷ [])
      (timestamp-slot text r [] (key.time ∷ []) (time-slot text r [] [] refl ∙ append-nil (timed (time r))))))))))
