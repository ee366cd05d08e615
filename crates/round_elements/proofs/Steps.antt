-- Each written attribute of an element fills its part of the record, and one that is missing leaves it empty. Assumes nothing.
use Prim.Native.Nat.{ℕ}
use mathlib.Core.Bool.{true}
use mathlib.Core.List.{List, [], ◌∷◌, ◌++◌, append-nil}
use mathlib.Core.Option.{Option, none, some}
use mathlib.Core.Path.{◌≡◌, refl, ap, sym, subst, ◌∙◌}
use lib.ListN.{length}
use Rattle.read_machine.specs.of_names.Bytes.{bytes}
use Rattle.read_machine.specs.of_names.Keys.{key_of}
use Rattle.read_machine.specs.of_refusal.Refusal.{Outcome, accepted}
use Rattle.read_machine.specs.of_timestamp.declared.Moment.{Moment}
use Rattle.read_machine.specs.of_uuids.declared.Words.{Words}
use Rattle.write_report.specs.of_table.Event.{Attribute}
use Rattle.write_report.specs.of_tree_report.Report.{Text, Duration}
use Rattle.write_report.specs.of_tree_report.inside.Cells.{Cell, absent, valued, stored, of_text, of_number, of_count, uuid_front, uuid_back, Row, fits_cell, fits_moment, fits_time}
use Rattle.write_report.proofs.of_tree_report.EncodeLists.{and_left}
use Rattle.read_machine.specs.of_tree_put.Put.{put_text, put_count_of}
use Rattle.read_machine.specs.of_read_keys.declared.Role.{Role}
use Rattle.read_machine.specs.of_read_keys.declared.Role.TheVariants as role
use Rattle.read_machine.specs.of_read_keys.Roles.{role_of}
use Rattle.read_machine.specs.of_read_element.Outcome.{Place, unlimited}
use Rattle.read_machine.specs.of_read_element.Attributes.{Given, with_main, by_role}
use Rattle.write_back.specs.of_write_escape.Escape.{escaped}
use Rattle.read_machine.specs.of_digits.Digits.{decimal}
use Rattle.write_back.specs.of_write_moment.Written.{timestamp_text}
use Rattle.write_back.specs.of_write_uuid.Written.{uuid_text}
use Rattle.write_report.specs.of_time_text.Written.{written_time}
use Rattle.write_report.specs.Written.{attribute, textual, numeric, optional, stamped, timed}
use Rattle.round_elements.specs.inside.PlainCase.{whole_time, whole_moment, WholeTime, WholeMoment}
use Rattle.round_elements.proofs.Reading.{Reads, read-end, read-skip, read-role, read-last}
use Rattle.round_elements.proofs.Values.{role-text, role-count, role-number, role-uuid, role-moment, role-time}
use Rattle.round_elements.proofs.Rows.{words, with_first_of, with_middle, with_timestamp, with_time, with_second, with_third, with_fourth, with_fifth, with_sixth, with_seventh, put_first, put-value}
use Rattle.round_elements.proofs.Rows.{put_second, put-assertions, put-disabled, put-moment, put-time, put-uuid, put-tests, put-failures, put-errors, put-skipped, put-seventh}

-- a text of this length, or none, at x
abbrev pub text_cell : ℕ → Option Text → Cell
text_cell x none = absent
text_cell x (some v) = valued x (length v)

-- an element's record so far, before its extras
abbrev pub filled : Row → List ℕ → Given
filled r texts = record { main = words r; extras = []; texts = texts }

pub record Filling (p : Place) (used κ : ℕ) (ks : List (List ℕ)) (xs : List Attribute) (r : Row) (texts : List ℕ) (o : Outcome Given) : Type 0 where
  pub reads : Reads p used κ ks xs (filled r texts) o

pub fill_end : {p : Place} {used κ : ℕ} {r : Row} {texts : List ℕ} → Filling p used κ [] [] r texts (accepted (filled r texts))
fill_end = record { reads = read-end }

module _ {p : Place} {used κ : ℕ} {ks : List (List ℕ)} {xs : List Attribute} {r : Row} {texts : List ℕ} {o : Outcome Given} where
  -- nothing comes behind them
  pub fill-last : Filling p used κ ks (xs ++ []) r texts o → Filling p used κ ks xs r texts o
  fill-last w = record { reads = read-last xs w.reads }

  skip : {s : Row} {t : List ℕ} (key : List ℕ) → s ≡ r → t ≡ texts → Filling p used κ ks xs s t o → Filling p used κ (key ∷ ks) xs r texts o
  skip {s} key e f w = record {
    reads = read-skip (subst (λ (x : Row). Reads p used κ ks xs (filled x texts) o) e (subst (λ (x : List ℕ). Reads p used κ ks xs (filled s x) o) f w.reads));
  }

  step : {s : Row} {t : List ℕ} {h : Given} {role : Role} (key value : List ℕ) → role_of κ (key_of key) ≡ role
      → ((q : Place) (c : ℕ) → by_role unlimited q used κ c role (attribute key value) (filled r texts) ≡ accepted h) → h ≡ filled s t
      → Filling p used κ ks xs s t o → Filling p used κ (key ∷ ks) (attribute key value ∷ xs) r texts o
  step key value e b f w = record { reads = read-role key value e (λ q c. b q c ∙ ap accepted f) w.reads }

  -- ---- texts
  text-step : (i k : ℕ) (put : Cell → Row) (key : List ℕ) (t : Option Text) → role_of κ (key_of key) ≡ role.Text i k → fits_cell (of_text t) ≡ true
      → ((x n : ℕ) → put_text i k x n (words r) ≡ words (put (valued x n))) → put absent ≡ r
      → Filling p used κ ks xs (put (text_cell (length texts) t)) (texts ++ stored (of_text t)) o → Filling p used κ (key ∷ ks) (optional (textual key) t ++ xs) r texts o
  text-step i k put key none e f g h w = skip key h (append-nil texts) w
  text-step i k put key (some v) e f g h w =
      step key (escaped v) e (λ q c. role-text used κ key (filled r texts) q c i k v f)
      (ap (λ (m : List ℕ). record { main = m; extras = []; texts = texts ++ v }) (g (length texts) (length v))) w

  pub fill-first : (key : List ℕ) (t : Option Text) → role_of κ (key_of key) ≡ role.Text 2 0 → fits_cell (of_text t) ≡ true → r.first ≡ absent
      → Filling p used κ ks xs (with_first_of (text_cell (length texts) t) r) (texts ++ stored (of_text t)) o → Filling p used κ (key ∷ ks) (optional (textual key) t ++ xs) r texts o
  fill-first key t e f z w = text-step 2 0 (λ c. with_first_of c r) key t e f (put_first r) (ap (λ (c : Cell). with_first_of c r) (sym z)) w

  pub fill-value : (key : List ℕ) (t : Option Text) → role_of κ (key_of key) ≡ role.Text 4 1 → fits_cell (of_text t) ≡ true → r.out ≡ absent
      → Filling p used κ ks xs (with_middle (text_cell (length texts) t) r.err r) (texts ++ stored (of_text t)) o → Filling p used κ (key ∷ ks) (optional (textual key) t ++ xs) r texts o
  fill-value key t e f z w = text-step 4 1 (λ c. with_middle c r.err r) key t e f (put-value r) (ap (λ (c : Cell). with_middle c r.err r) (sym z)) w

  pub fill-second : (key : List ℕ) (t : Option Text) → role_of κ (key_of key) ≡ role.Text 18 5 → fits_cell (of_text t) ≡ true → r.second ≡ absent
      → Filling p used κ ks xs (with_second (text_cell (length texts) t) r) (texts ++ stored (of_text t)) o → Filling p used κ (key ∷ ks) (optional (textual key) t ++ xs) r texts o
  fill-second key t e f z w = text-step 18 5 (λ c. with_second c r) key t e f (put_second r) (ap (λ (c : Cell). with_second c r) (sym z)) w

  pub fill-seventh : (key : List ℕ) (t : Option Text) → role_of κ (key_of key) ≡ role.Text 28 10 → fits_cell (of_text t) ≡ true → r.seventh ≡ absent
      → Filling p used κ ks xs (with_seventh (text_cell (length texts) t) r) (texts ++ stored (of_text t)) o → Filling p used κ (key ∷ ks) (optional (textual key) t ++ xs) r texts o
  fill-seventh key t e f z w = text-step 28 10 (λ c. with_seventh c r) key t e f (put-seventh r) (ap (λ (c : Cell). with_seventh c r) (sym z)) w

  -- ---- counts
  count-step : {s : Row} (i : ℕ) (key : List ℕ) (n : ℕ) → role_of κ (key_of key) ≡ role.Count i → fits_cell (of_count n) ≡ true → put_count_of i n (words r) ≡ words s
      → Filling p used κ ks xs s texts o → Filling p used κ (key ∷ ks) (numeric key n ++ xs) r texts o
  count-step i key n e f g w =
      step key (decimal n) e (λ q c. role-count used κ key (filled r texts) q c i n f) (ap (with_main (filled r texts)) g) w

  pub fill-tests : (key : List ℕ) (n : ℕ) → role_of κ (key_of key) ≡ role.Count 18 → fits_cell (of_count n) ≡ true → r.second ≡ absent
      → Filling p used κ ks xs (with_second (of_count n) r) texts o → Filling p used κ (key ∷ ks) (numeric key n ++ xs) r texts o
  fill-tests key n e f z w = count-step 18 key n e f (put-tests r n z) w

  pub fill-failures : (key : List ℕ) (n : ℕ) → role_of κ (key_of key) ≡ role.Count 20 → fits_cell (of_count n) ≡ true → r.third ≡ absent
      → Filling p used κ ks xs (with_third (of_count n) r) texts o → Filling p used κ (key ∷ ks) (numeric key n ++ xs) r texts o
  fill-failures key n e f z w = count-step 20 key n e f (put-failures r n z) w

  pub fill-errors : (key : List ℕ) (n : ℕ) → role_of κ (key_of key) ≡ role.Count 22 → fits_cell (of_count n) ≡ true → r.fourth ≡ absent
      → Filling p used κ ks xs (with_fourth (of_count n) r) texts o → Filling p used κ (key ∷ ks) (numeric key n ++ xs) r texts o
  fill-errors key n e f z w = count-step 22 key n e f (put-errors r n z) w

  pub fill-skipped : (key : List ℕ) (n : ℕ) → role_of κ (key_of key) ≡ role.Count 24 → fits_cell (of_count n) ≡ true
      → Filling p used κ ks xs (with_fifth (of_count n) r) texts o → Filling p used κ (key ∷ ks) (numeric key n ++ xs) r texts o
  fill-skipped key n e f w = count-step 24 key n e f (put-skipped r n) w

  -- ---- numbers that may be missing
  pub fill-assertions : (key : List ℕ) (n : Option ℕ) → role_of κ (key_of key) ≡ role.Number 20 6 → fits_cell (of_number n) ≡ true → r.third ≡ absent
      → Filling p used κ ks xs (with_third (of_number n) r) texts o → Filling p used κ (key ∷ ks) (optional (numeric key) n ++ xs) r texts o
  fill-assertions key none e f z w = skip key (ap (λ (c : Cell). with_third c r) (sym z)) refl w
  fill-assertions key (some n) e f z w =
      step key (decimal n) e (λ q c. role-number used κ key (filled r texts) q c 20 6 n f) (ap (with_main (filled r texts)) (put-assertions r n)) w

  pub fill-disabled : (key : List ℕ) (n : Option ℕ) → role_of κ (key_of key) ≡ role.Number 26 8 → fits_cell (of_number n) ≡ true → r.sixth ≡ absent
      → Filling p used κ ks xs (with_sixth (of_number n) r) texts o → Filling p used κ (key ∷ ks) (optional (numeric key) n ++ xs) r texts o
  fill-disabled key none e f z w = skip key (ap (λ (c : Cell). with_sixth c r) (sym z)) refl w
  fill-disabled key (some n) e f z w =
      step key (decimal n) e (λ q c. role-number used κ key (filled r texts) q c 26 8 n f) (ap (with_main (filled r texts)) (put-disabled r n)) w

  -- ---- UUID, timestamp, time
  pub fill-uuid : (u : Option Words) → role_of κ (key_of (bytes "uuid")) ≡ role.Uuid → fits_cell (uuid_front u) ≡ true → fits_cell (uuid_back u) ≡ true → r.out ≡ absent → r.err ≡ absent
      → Filling p used κ ks xs (with_middle (uuid_front u) (uuid_back u) r) texts o
      → Filling p used κ (bytes "uuid" ∷ ks) (optional (λ (u : Words). attribute (bytes "uuid") (uuid_text u) ∷ []) u ++ xs) r texts o
  fill-uuid none e f g y z w = skip (bytes "uuid") (ap (λ (c : Cell). with_middle c absent r) (sym y) ∙ ap (λ (c : Cell). with_middle r.out c r) (sym z)) refl w
  fill-uuid (some u) e f g y z w =
      step (bytes "uuid") (uuid_text u) e (λ q c. role-uuid used κ (bytes "uuid") (filled r texts) q c u f g) (ap (with_main (filled r texts)) (put-uuid r u z)) w

  pub fill-moment : (m : Option Moment) → role_of κ (key_of (bytes "timestamp")) ≡ role.Timestamp true → fits_moment m ≡ true → WholeMoment m → r.timestamp ≡ none
      → Filling p used κ ks xs (with_timestamp m r) texts o → Filling p used κ (bytes "timestamp" ∷ ks) (stamped m ++ xs) r texts o
  fill-moment none e f g z w = skip (bytes "timestamp") (ap (λ (m : Option Moment). with_timestamp m r) (sym z)) refl w
  fill-moment (some m) e f g z w =
      step (bytes "timestamp") (timestamp_text m) e (λ q c. role-moment used κ (bytes "timestamp") (filled r texts) q c m f (and_left (whole_moment m) true g))
      (ap (with_main (filled r texts)) (put-moment r m)) w

  pub fill-time : (d : Option Duration) → role_of κ (key_of (bytes "time")) ≡ role.Time true → fits_time d ≡ true → WholeTime d → r.time ≡ none
      → Filling p used κ ks xs (with_time d r) texts o → Filling p used κ (bytes "time" ∷ ks) (timed d ++ xs) r texts o
  fill-time none e f g z w = skip (bytes "time") (ap (λ (d : Option Duration). with_time d r) (sym z)) refl w
  fill-time (some d) e f g z w =
      step (bytes "time") (written_time d.seconds d.nanos) e (λ q c. role-time used κ (bytes "time") (filled r texts) q c d f (and_left (whole_time d) true g))
      (ap (with_main (filled r texts)) (put-time r d)) w
