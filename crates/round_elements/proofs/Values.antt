-- Each written value is read back, whatever the role of its key. Assumes nothing.
use Prim.Native.Nat.{ℕ, ◌*◌, ◌/◌, ◌%◌}
use mathlib.Core.Bool.{true}
use mathlib.Core.List.{List, ◌++◌}
use mathlib.Core.Option.{some}
use mathlib.Core.Path.{◌≡◌, refl, subst}
use native.Mathlib.Omega.{arith}
use borrow.Author.Tests.{leb-true, eqb-true}
use lib.Dec.{leb, eqb}
use lib.ListN.{length}
use Rattle.read_machine.specs.of_area.Answer.{gives}
use Rattle.read_machine.specs.of_digits.Digits.{decimal}
use Rattle.read_machine.specs.of_integer.Integer.{integer_of}
use Rattle.read_machine.proofs.of_integer.Integers.{integer-decimal}
use Rattle.read_machine.specs.of_refusal.Refusal.{accepted}
use Rattle.read_machine.specs.of_text_filter.Filter.{unfiltered}
use Rattle.write_back.specs.of_text.Value.{value_text, checked_of}
use Rattle.read_machine.specs.of_time.Time.{time_of}
use Rattle.write_report.specs.of_time_text.Written.{written_time}
use Rattle.write_report.proofs.of_time_text.ReadBack.{time-read-back}
use Rattle.read_machine.specs.of_timestamp.Timestamp.{in_range}
use Rattle.read_machine.specs.of_timestamp.declared.Moment.{Moment}
use Rattle.read_machine.specs.of_utf8.Utf8.{utf8}
use Rattle.read_machine.specs.of_uuids.declared.Words.{Words}
use Rattle.read_machine.specs.of_tree_record.Record.{marked}
use Rattle.write_report.specs.of_tree_report.Report.{Duration}
use Rattle.write_report.specs.of_tree_report.inside.Cells.{written, fits_cell, of_count, fits_time, uuid_front, uuid_back}
use Rattle.write_report.proofs.of_tree_report.EncodeLists.{and_left, and_right}
use Rattle.read_machine.specs.of_tree_put.Put.{put_text, put_count_of, put_uuid, put_moment, put_time}
use Rattle.read_machine.specs.of_read_keys.declared.Role.TheVariants as role
use Rattle.read_machine.specs.of_read_element.Outcome.{◌>>=◌, Place, there, need, within, unlimited, fits}
use Rattle.read_machine.specs.of_read_element.Attributes.{Given, with_main, read_text, by_role}
use Rattle.write_back.proofs.Escaped.{value-escaped, checked-escaped}
use Rattle.write_back.proofs.Moments.{timestamp-back}
use Rattle.write_back.proofs.Uuids.{uuid-back}
use Rattle.write_back.specs.of_write_escape.Escape.{escaped}
use Rattle.write_back.specs.of_write_moment.Written.{timestamp_text}
use Rattle.write_back.specs.of_write_uuid.Written.{uuid_text}
use Rattle.write_report.specs.Written.{attribute}

-- a text stored behind the others
abbrev pub with_text : ℕ → ℕ → List ℕ → Given → Given
with_text o k v g = record { main = put_text o k (length g.texts) (length v) g.main; extras = g.extras; texts = g.texts ++ v }

text-given : (q : Place) (g : Given) (o k : ℕ) (value v : List ℕ) → checked_of value ≡ gives tt → value_text value ≡ v → read_text unlimited q o k value g ≡ accepted (with_text o k v g)
unfolding read_text there need fits ◌>>=◌
text-given q g o k value v e f = rw (e, f) refl

number-given : (n : ℕ) → fits_cell (of_count n) ≡ true → integer_of (decimal n) ≡ gives n
number-given n f =
    let l = leb-true (n % 4294967296) 4294967295 (and_left (leb (n % 4294967296) 4294967295) (leb (n / 4294967296) 4294967295) f) in
    let h = leb-true (n / 4294967296) 4294967295 (and_right (leb (n % 4294967296) 4294967295) (leb (n / 4294967296) 4294967295) f) in
    integer-decimal n (omega arith)

module _ (used κ : ℕ) (key : List ℕ) (g : Given) (q : Place) (c : ℕ) where
  pub role-text : (o k : ℕ) (v : List ℕ) → fits_cell (written v) ≡ true → by_role unlimited q used κ c (role.Text o k) (attribute key (escaped v)) g ≡ accepted (with_text o k v g)
  unfolding by_role
  role-text o k v f =
      let u : utf8 v ≡ true = and_left (utf8 v) (unfiltered v) f in
      text-given (within q c) g o k (escaped v) v (checked-escaped v u) (value-escaped v (and_right (utf8 v) (unfiltered v) f))

  pub role-count : (o n : ℕ) → fits_cell (of_count n) ≡ true → by_role unlimited q used κ c (role.Count o) (attribute key (decimal n)) g ≡ accepted (with_main g (put_count_of o n g.main))
  unfolding by_role there ◌>>=◌
  role-count o n f = rw (number-given n f) refl

  pub role-number : (o k n : ℕ) → fits_cell (of_count n) ≡ true → by_role unlimited q used κ c (role.Number o k) (attribute key (decimal n)) g ≡ accepted (with_main g (marked k (put_count_of o n g.main)))
  unfolding by_role there ◌>>=◌
  role-number o k n f = rw (number-given n f) refl

  pub role-uuid : (w : Words) → fits_cell (uuid_front (some w)) ≡ true → fits_cell (uuid_back (some w)) ≡ true
      → by_role unlimited q used κ c role.Uuid (attribute key (uuid_text w)) g ≡ accepted (with_main g (put_uuid w g.main))
  unfolding by_role there ◌>>=◌
  role-uuid w f b =
      let i = leb-true w.a 4294967295 (and_left (leb w.a 4294967295) (leb w.b 4294967295) f) in
      let j = leb-true w.b 4294967295 (and_right (leb w.a 4294967295) (leb w.b 4294967295) f) in
      let k = leb-true w.c 4294967295 (and_left (leb w.c 4294967295) (leb w.d 4294967295) b) in
      let l = leb-true w.d 4294967295 (and_right (leb w.c 4294967295) (leb w.d 4294967295) b) in
      rw (uuid-back w (omega arith) (omega arith) (omega arith) (omega arith)) refl

  pub role-moment : (m : Moment) → in_range m ≡ true → eqb (m.nanos % 1000000) 0 ≡ true
      → by_role unlimited q used κ c (role.Timestamp true) (attribute key (timestamp_text m)) g ≡ accepted (with_main g (put_moment m g.main))
  unfolding by_role there ◌>>=◌
  role-moment m f w = rw (timestamp-back m f (eqb-true (m.nanos % 1000000) 0 w)) refl

  pub role-time : (d : Duration) → fits_time (some d) ≡ true → eqb (d.nanos % 1000000) 0 ≡ true
      → by_role unlimited q used κ c (role.Time true) (attribute key (written_time d.seconds d.nanos)) g ≡ accepted (with_main g (put_time (d.seconds, d.nanos) g.main))
  unfolding by_role there ◌>>=◌
  role-time d f w =
      let s : ℕ = d.seconds in
      let n : ℕ = d.nanos in
      let i = leb-true s 8388607 (and_left (leb s 8388607) (leb n 999999999) f) in
      let j = leb-true n 999999999 (and_right (leb s 8388607) (leb n 999999999) f) in
      let z = eqb-true (n % 1000000) 0 w in
      let e : n / 1000000 * 1000000 ≡ n = omega arith in
      let b : time_of (written_time s n) ≡ gives (s, n) = subst (λ (x : ℕ). time_of (written_time s x) ≡ gives (s, x)) e (time-read-back s (n / 1000000) (omega arith) (omega arith)) in
      rw b refl
