-- What the calls of a builder are made of: a record taken, a text stored, counts raised. Definitions only.
use Rattle.std.specs.Prelude.{ℕ, zero, suc, ◌+◌, ◌-◌, ◌*◌, List, ◌++◌, Bool, true, false, cond, ◌&&◌, ◌||◌, length, set, take, drop, leb, ltb, eqb}
use Rattle.tree_put.specs.of_names.Names.{same_bytes}
use Rattle.text_lossy.specs.of_utf8.Utf8.{utf8}
use Rattle.text_lossy.specs.of_text_filter.Filter.{filtered}
use Rattle.text_lossy.specs.LossyText.{lossy_text}
use Rattle.tree_counts.specs.of_refusal.Refusal.{Outcome, accepted}
use Rattle.tree_counts.specs.of_refusal.declared.Cause.TheVariants as cause
use Rattle.tree_put.specs.of_tree_record.Words as word
use Rattle.tree_put.specs.of_tree_record.Bits as bit
use Rattle.tree_put.specs.of_tree_record.Kinds as kind
use Rattle.tree_put.specs.of_tree_record.Record.{kind_of, has_bit, marked, text_at, number_at}
use Rattle.tree_put.specs.Put.{put_text, put_count_of}
use Rattle.tree_counts.specs.declared.Counts.{Counts}
use Rattle.tree_counts.specs.Counts.{with_suite}
use Rattle.build_draft.specs.declared.TextField.{TextField}
use Rattle.build_draft.specs.declared.TextField.TheVariants.{Classname, Message, Ty, Description, StackTrace, SystemOut, SystemErr, Hostname}
use Rattle.build_draft.specs.declared.NonSuccessKind.{NonSuccessKind}
use Rattle.build_draft.specs.declared.NonSuccessKind.TheVariants.{Failure, Error}
use Rattle.build_draft.specs.declared.FlakyOrRerun.{FlakyOrRerun}
use Rattle.build_draft.specs.declared.FlakyOrRerun.TheVariants.{Flaky, Rerun}
use Rattle.build_draft.specs.Draft.{Draft, ◌>>=◌, asks, room_for, bytes_for, is_record, kind_at, is_of, on_record_of, last_of, with_words}

-- ---- records
-- a record more, of a kind; the words behind the records that are used are zero (12)
unfoldable pub taking : ℕ → Draft → Outcome Draft
taking k d =
    let b = d.builder in
    asks (ltb b.records (room_for d.words)) cause.RecordsSpent
    (accepted (record {
      builder = record { records = b.records + 1; bytes = b.bytes; report = b.report; suite = b.suite; case = b.case; main = b.main };
      words = set d.words (b.records * 32) k;
      text = d.text;
    }))

-- ---- texts
-- filtered as `XmlString::new` does; lossily, what isn't UTF-8 becomes U+FFFD before (rule B6)
abbrev pub text_for : Bool → List ℕ → List ℕ
text_for lossy s = cond lossy (lossy_text s) (filtered s)

-- the area with f put at x
abbrev pub put_at : ℕ → List ℕ → List ℕ → List ℕ
put_at x f text = take x text ++ (f ++ drop (x + length f) text)

-- UTF-8 (2), and room behind the texts that are there (13): rules B6 and M4
unfoldable pub keeping : Bool → List ℕ → Draft → Outcome Draft
keeping lossy s d =
    let b = d.builder in
    let f = text_for lossy s in
    asks (lossy || utf8 s) cause.NotUtf8
    (asks (leb (b.bytes + length f) (bytes_for d.text)) cause.TextFull
    (accepted (record {
      builder = record { records = b.records; bytes = b.bytes + length f; report = b.report; suite = b.suite; case = b.case; main = b.main };
      words = d.words;
      text = put_at b.bytes f d.text;
    })))

-- a text of record i, at word o with bit k
unfoldable pub putting : ℕ → ℕ → ℕ → Bool → List ℕ → Draft → Outcome Draft
putting i o k lossy s d =
    asks (is_record d.builder d.words i) cause.NotLayout
    (keeping lossy s d >>= λ e. accepted (with_words e (on_record_of i (put_text o k d.builder.bytes (length (text_for lossy s))) e.words)))

-- the name of the record that was taken last
unfoldable pub naming : List ℕ → Draft → Outcome Draft
naming s d = putting (last_of d.builder) word.name bit.name false s d

-- ---- counts
abbrev pub counts_in : List ℕ → Counts
counts_in r =
    record {
      tests = number_at r word.tests;
      failures = number_at r word.failures;
      errors = number_at r word.errors;
      skipped = number_at r word.skipped;
      presence = has_bit bit.disabled r;
      disabled = number_at r word.disabled;
    }

abbrev pub counts_at : List ℕ → ℕ → Counts
counts_at words i = counts_in (drop (i * 32) words)

abbrev pub put_number : ℕ → ℕ → ℕ → List ℕ → List ℕ
put_number o k n r = marked k (put_count_of o n r)

-- only where the sum has a `disabled` (rule C2)
abbrev pub put_disabled : Bool → ℕ → List ℕ → List ℕ
put_disabled presence n r = cond presence (put_number word.disabled bit.disabled n r) r

unfoldable pub put_counts : Counts → List ℕ → List ℕ
put_counts c r =
    put_disabled c.presence c.disabled
    (put_count_of word.skipped c.skipped (put_count_of word.errors c.errors (put_count_of word.failures c.failures (put_count_of word.tests c.tests r))))

-- the counts of record i, or 17 (rule B8)
unfoldable pub counting : ℕ → Outcome Counts → Draft → Outcome Draft
counting i o d = o >>= λ c. accepted (with_words d (on_record_of i (put_counts c) d.words))

-- the open suite, if there is one, is added to the report's counts (rule B8)
unfoldable pub summing : Draft → Outcome Draft
summing d =
    let b = d.builder in
    cond (is_of b d.words b.suite kind.suite) (counting b.report (with_suite (counts_at d.words b.report) (counts_at d.words b.suite)) d) (accepted d)

-- ---- properties and extras
abbrev pub is_main_kind : ℕ → Bool
is_main_kind k = leb kind.failure k && leb k kind.skipped

-- a case's main stands behind its extras and properties: the number that a new one of these gets
abbrev pub place_for : Draft → ℕ
place_for d = cond (is_main_kind (kind_at d.words (last_of d.builder))) (last_of d.builder) d.builder.records

-- docs/TREE.md: an element's extras stand directly behind it, and its properties, which stand together, behind its extras (rule B3)
abbrev pub may_stand_behind : ℕ → ℕ → Bool
may_stand_behind κ k =
    cond (eqb κ kind.suite_extra) (eqb k kind.suite || eqb k kind.suite_extra)
    (cond (eqb κ kind.suite_property) (eqb k kind.suite || (eqb k kind.suite_extra || eqb k kind.suite_property))
    (cond (eqb κ kind.case_extra) (eqb k kind.case || eqb k kind.case_extra) (eqb k kind.case || (eqb k kind.case_extra || eqb k kind.case_property))))

-- of n records from number i on the first whose key is `key`, and i + n where there is none
abbrev pub key_place : List ℕ → List ℕ → List ℕ → ℕ → ℕ → ℕ
key_place text words key i zero = i
key_place text words key i (suc n) = cond (same_bytes (text_at text (drop (i * 32) words) word.key) key) i (key_place text words key (i + 1) n)

-- the records i and i + 1 exchanged
abbrev pub exchanged : ℕ → List ℕ → List ℕ
exchanged i words =
    let r = drop (i * 32) words in
    take (i * 32) words ++ (take 32 (drop 32 r) ++ (take 32 r ++ drop 64 r))

-- ---- runs
-- by the crate's `FlakyOrRerun` and `NonSuccessKind`
abbrev pub run_kind : FlakyOrRerun → NonSuccessKind → ℕ
run_kind Flaky Failure = kind.flaky_failure
run_kind Flaky Error = kind.flaky_error
run_kind Rerun Failure = kind.rerun_failure
run_kind Rerun Error = kind.rerun_error

-- the kind of a run in the other family
abbrev pub turned_kind : FlakyOrRerun → ℕ → ℕ
turned_kind Flaky k = cond (leb kind.rerun_failure k) (k - 2) k
turned_kind Rerun k = cond (leb k kind.flaky_error) (k + 2) k

abbrev pub turned : FlakyOrRerun → List ℕ → List ℕ
turned f r = set r word.kind (turned_kind f (kind_of r))

-- n records from number i on
unfoldable pub turn_runs : FlakyOrRerun → ℕ → ℕ → List ℕ → List ℕ
turn_runs f i zero words = words
turn_runs f i (suc n) words = turn_runs f (i + 1) n (on_record_of i (turned f) words)

-- ---- fields
-- which kinds of records have a text
abbrev pub is_status : ℕ → Bool
is_status k = leb kind.failure k && leb k kind.rerun_error

abbrev pub is_run : ℕ → Bool
is_run k = leb kind.flaky_failure k && leb k kind.rerun_error

-- rule B4
abbrev pub has_text : ℕ → TextField → Bool
has_text k Classname = eqb k kind.case
has_text k Message = is_status k
has_text k Ty = is_status k
has_text k Description = is_status k
has_text k StackTrace = is_run k
has_text k SystemOut = eqb k kind.suite || (eqb k kind.case || is_run k)
has_text k SystemErr = eqb k kind.suite || (eqb k kind.case || is_run k)
has_text k Hostname = eqb k kind.suite

abbrev pub word_for : TextField → ℕ
word_for Classname = word.classname
word_for Message = word.message
word_for Ty = word.type
word_for Description = word.description
word_for StackTrace = word.stack_trace
word_for SystemOut = word.out
word_for SystemErr = word.err
word_for Hostname = word.hostname

abbrev pub bit_for : TextField → ℕ
bit_for Classname = bit.classname
bit_for Message = bit.message
bit_for Ty = bit.type
bit_for Description = bit.description
bit_for StackTrace = bit.stack_trace
bit_for SystemOut = bit.out
bit_for SystemErr = bit.err
bit_for Hostname = bit.hostname

-- the crate takes only outputs lossily
abbrev pub is_output : TextField → Bool
is_output SystemOut = true
is_output SystemErr = true
is_output Classname = false
is_output Message = false
is_output Ty = false
is_output Description = false
is_output StackTrace = false
is_output Hostname = false

-- which kinds of records have a timestamp and a time (rule B4)
abbrev pub has_times : ℕ → Bool
has_times k = eqb k kind.report || (eqb k kind.suite || (eqb k kind.case || is_run k))
