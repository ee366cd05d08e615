-- A value read by its role, against the definition. Assumes nothing.
use Prim.Native.Nat.{ℕ, ◌+◌, ◌-◌, ◌≤◌, ◌<◌, ◌%◌, ◌/◌, ◌^◌}
use mathlib.Core.Path.{◌≡◌, refl, ap, subst, ◌∙◌}
use mathlib.Core.Bool.{Bool, true, false, cond, ◌&&◌}
use mathlib.Core.List.{List, [], ◌∷◌, ◌++◌}
use native.Mathlib.Omega.{arith}
use borrow.Author.Tests.{leb-true, leb-false}
use lib.Dec.{leb}
use lib.ListN.{length, set, take, drop, length-append, length-set}
use lib.Seq.{set-append_left}
use Rattle.read_values.specs.of_area.Answer.{Answer, gives, refuses}
use Rattle.read_values.specs.of_area.Area.{zeros, laid}
use Rattle.read_values.specs.of_utf8.Utf8.{utf8}
use Rattle.read_values.specs.of_reference.Reference.{refs_ok}
use Rattle.read_values.specs.of_refusal.Refusal.{accepted}
use Rattle.read_values.specs.of_table.Event.{Attribute}
use Rattle.read_values.specs.of_integer.Integer.{integer_of}
use Rattle.read_values.specs.of_time.Time.{time_of}
use Rattle.read_values.specs.of_timestamp.Timestamp.{timestamp_of}
use Rattle.read_values.specs.of_timestamp.declared.Moment.{Moment}
use Rattle.read_values.specs.of_uuids.Uuid.{uuid_of}
use Rattle.read_values.specs.of_uuids.declared.Words.{Words}
use Rattle.read_values.specs.of_text.Value.{value_text, value_of, value_laid}
use Rattle.read_values.specs.of_tree_record.Record.{marked}
use Rattle.read_values.specs.of_tree_put.Put.{put_text, put_count_of, put_words, put_uuid, uuid_words, put_moment, moment_words, put_time}
use Rattle.read_values.proofs.of_tree_put.Puts.{pair-length, words-length, text-length, uuid-length, moment-length, time-length}
use Rattle.read_values.specs.of_read_keys.declared.Role.{Role}
use Rattle.read_values.specs.of_read_keys.declared.Role.TheVariants as role
use Rattle.read_values.specs.of_read_element.Outcome.{Place, Rooms, there, within, ◌>>=◌}
use Rattle.read_values.specs.of_read_element.Attributes.{Given, storing, read_text, by_role, keep}
use Rattle.read_values.specs.of_utf8.Characters.{joined}
use Rattle.read_values.specs.of_read_element.inside.Held.{unmoved, moved, putting, Held, Roomy, Meets}
use Rattle.read_values.specs.of_read_element.inside.Refines.{went, stopped}
use Rattle.read_values.specs.inside.Answers.{took_answer}
use Rattle.read_role.specs.inside.Roles.{RoleFits, took_given}
use Rattle.std.specs.Prelude.{Result, Ok, Err}
use Rattle.read_extra_record.proofs.Storing.{Local, pair-local, keyed-more}
use Rattle.read_extra_record.proofs.Extras.{meets-need, meets-refused, text-grown, text-room, text-none}
use Rattle.read_extra_record.proofs.NewExtras.{marked-local, text-local}
use Rattle.read_role.proofs.Valuing.{value-meets}
use Rattle.read_values.specs.of_refusal.declared.Cause.TheVariants as cause
use Rattle.read_values.specs.of_refusal.declared.Cause.{Cause}

-- what is put into a record changes that record only
row-local : (o : ℕ) (vs : List ℕ) → o + length vs ≤ 32 → Local (put_words o vs)
row-local o [] h r t e = refl
row-local o (v ∷ vs) h r t e =
    ap (put_words (o + 1) vs) (set-append_left r t o v (omega arith))
    ∙ row-local (o + 1) vs (omega arith) (set r o v) t (length-set r o v ∙ e)

uuid-local : (w : Words) → Local (put_uuid w)
uuid-local w r t e = ap (marked 1) (row-local 4 (uuid_words w) (omega arith) r t e) ∙ marked-local 1 (put_words 4 (uuid_words w) r) t (words-length 4 (uuid_words w) r ∙ e)

moment-local : (m : Moment) → Local (put_moment m)
moment-local m r t e = ap (marked 3) (row-local 8 (moment_words m) (omega arith) r t e) ∙ marked-local 3 (put_words 8 (moment_words m) r) t (words-length 8 (moment_words m) r ∙ e)

time-local : (a : ℕ × ℕ) → Local (put_time a)
time-local a = text-local 16 4 a.0 a.1 (omega arith)

module _ (f : List ℕ → List ℕ) where
  keep_local : (kept : Bool) → Local f → Local (λ x. keep kept (f x) x)
  keep_local true loc r t e = loc r t e
  keep_local false loc r t e = refl

  keep-length : (kept : Bool) (r : List ℕ) → length (f r) ≡ length r → length (keep kept (f r) r) ≡ length r
  keep-length true r e = e
  keep-length false r e = refl

-- a value's answer with the number of extras
module _ (extras : ℕ) where
  took-gives : (took : Result ℕ Cause) {n : ℕ} → took_answer took ≡ gives n → took_given extras took ≡ gives (extras, n)
  took-gives (Ok k) {n} e = let z : k ≡ n = cc in ap (λ (j : ℕ). gives (extras, j)) z
  took-gives (Err why) e = let z : ◌≡◌ {A = ℕ} 0 1 = cc in absurd (omega arith)

  took-refuses : (took : Result ℕ Cause) {n : Cause} → took_answer took ≡ refuses n → took_given extras took ≡ refuses n
  took-refuses (Ok k) e = let z : ◌≡◌ {A = ℕ} 0 1 = cc in absurd (omega arith)
  took-refuses (Err why) {n} e = cc

-- a form by its two tests
abbrev formed : Bool → Bool → Answer (Unit {0})
formed t u = cond t (cond u (gives tt) (refuses cause.BadReference)) (refuses cause.NotUtf8)

-- a text read into the record
module _ {own text : List ℕ} {extras fill : ℕ} {g : Given} (hd : Held own text extras fill g) {rooms : Rooms} {used : ℕ}
    (ro : Roomy rooms used (length own) (length text)) (p : Place) (o k : ℕ) (fit : o + 1 < 32) (v : List ℕ) where
  text-record : {own' text' : List ℕ} → length v ≤ length text - fill → own' ≡ put_text o k fill (length v) own → text' ≡ take fill text ++ laid (drop fill text) v
      → Held own' text' extras (fill + length v) (record { main = put_text o k (length g.texts) (length v) g.main; extras = g.extras; texts = g.texts ++ v })
  text-record {own'} {text'} h q t =
      let a = length g.texts in
      let s = length-append g.texts v in
      record {
        room = hd.room;
        left = hd.left - length v;
        records =
            q ∙ ap (λ (n : ℕ). put_text o k n (length v) own) hd.filled ∙ ap (put_text o k a (length v)) hd.records
            ∙ text-local o k a (length v) fit g.main (joined g.extras ++ zeros hd.room) hd.main-words;
        main-words = text-length o k a (length v) g.main ∙ hd.main-words;
        keyed = keyed-more a (length (g.texts ++ v)) g.extras (omega arith) hd.keyed;
        count = hd.count;
        stored = text-grown hd v text' h t;
        filled = let f = hd.filled in omega arith;
      }

  text-by : {own' text' : List ℕ} (took : Result ℕ Cause) (t u f : Bool) → leb (length v) (length text - fill) ≡ f
      → took_answer took ≡ moved fill (cond t (cond u (cond f (gives (length v)) (refuses cause.TextFull)) (refuses cause.BadReference)) (refuses cause.NotUtf8))
      → own' ≡ putting (put_text o k fill) (cond t (cond u (cond f (gives (length v)) (refuses cause.TextFull)) (refuses cause.BadReference)) (refuses cause.NotUtf8)) own
      → text' ≡ take fill text ++ cond (t && u) (laid (drop fill text) v) (drop fill text)
      → Meets p own' text'
      (there p (formed t u) >>= λ _. storing rooms p g.texts v λ texts.
      accepted (record { main = put_text o k (length g.texts) (length v) g.main; extras = g.extras; texts = texts }))
      (took_given extras took)
  unfolding there ◌>>=◌
  text-by took false u f b e q tx = rw (took-refuses extras took e) stopped
  text-by took true false f b e q tx = rw (took-refuses extras took e) stopped
  text-by took true true false b e q tx = rw (took-refuses extras took e) (meets-refused cause.TextFull _ (text-none hd ro v (leb-false (length v) (length text - fill) b)))
  text-by took true true true b e q tx =
      let h = leb-true (length v) (length text - fill) b in
      rw (took-gives extras took e) (meets-need cause.TextFull _ (text-room hd ro v h) (went (text-record h q tx)))

-- each role's value
module _ {own text : List ℕ} {extras fill : ℕ} {g : Given} (hd : Held own text extras fill g) (rooms : Rooms) (p : Place) (used kind key : ℕ)
    (x : Attribute) {value : List ℕ} (ev : x.value ≡ value) {r : Role} (fits : RoleFits r) (took : Result ℕ Cause) {own' : List ℕ} where
  pub text-role : {text' : List ℕ} (o k : ℕ) → Roomy rooms used (length own) (length text) → r ≡ role.Text o k
      → took_answer took ≡ moved fill (value_of (length text - fill) value) → own' ≡ putting (put_text o k fill) (value_of (length text - fill) value) own
      → text' ≡ take fill text ++ value_laid (drop fill text) value → Meets (within p key) own' text' (by_role rooms p used kind key r x g) (took_given extras took)
  unfolding by_role read_text
  text-role o k ro er e q tx =
      let fit : o + 1 < 32 = subst RoleFits er fits in
      rw (er, ev) (text-by hd ro (within p key) o k fit (value_text value) took (utf8 value) (refs_ok value 0) (leb (length (value_text value)) (length text - fill)) refl e q tx)

  pub count-role : (o : ℕ) → r ≡ role.Count o → took_answer took ≡ unmoved fill (integer_of value) → own' ≡ putting (put_count_of o) (integer_of value) own
      → Meets (within p key) own' text (by_role rooms p used kind key r x g) (took_given extras took)
  unfolding by_role
  count-role o er e q =
      let fit : o + 1 < 32 = subst RoleFits er fits in
      rw (er, ev) (value-meets hd (put_count_of o) (λ n. pair-local o (n % 2 ^ 32) (n / 2 ^ 32) fit) (λ n. pair-length o (n % 2 ^ 32) (n / 2 ^ 32)) (within p key) (integer_of value) took e q)

  pub number-role : (o k : ℕ) → r ≡ role.Number o k → took_answer took ≡ unmoved fill (integer_of value) → own' ≡ putting (λ n l. marked k (put_count_of o n l)) (integer_of value) own
      → Meets (within p key) own' text (by_role rooms p used kind key r x g) (took_given extras took)
  unfolding by_role
  number-role o k er e q =
      let fit : o + 1 < 32 = subst RoleFits er fits in
      rw (er, ev) (value-meets hd (λ n l. marked k (put_count_of o n l)) (λ n. text-local o k (n % 2 ^ 32) (n / 2 ^ 32) fit)
      (λ n. text-length o k (n % 2 ^ 32) (n / 2 ^ 32)) (within p key) (integer_of value) took e q)

  pub uuid-role : r ≡ role.Uuid → took_answer took ≡ unmoved fill (uuid_of value) → own' ≡ putting put_uuid (uuid_of value) own
      → Meets (within p key) own' text (by_role rooms p used kind key r x g) (took_given extras took)
  unfolding by_role
  uuid-role er e q = rw (er, ev) (value-meets hd put_uuid uuid-local uuid-length (within p key) (uuid_of value) took e q)

  pub timestamp-role : (kept : Bool) → r ≡ role.Timestamp kept → took_answer took ≡ unmoved fill (timestamp_of value)
      → own' ≡ putting (λ m l. keep kept (put_moment m l) l) (timestamp_of value) own → Meets (within p key) own' text (by_role rooms p used kind key r x g) (took_given extras took)
  unfolding by_role
  timestamp-role kept er e q =
      rw (er, ev) (value-meets hd (λ m l. keep kept (put_moment m l) l) (λ m. keep_local (put_moment m) kept (moment-local m))
      (λ m l. keep-length (put_moment m) kept l (moment-length m l)) (within p key) (timestamp_of value) took e q)

  pub time-role : (kept : Bool) → r ≡ role.Time kept → took_answer took ≡ unmoved fill (time_of value)
      → own' ≡ putting (λ t l. keep kept (put_time t l) l) (time_of value) own → Meets (within p key) own' text (by_role rooms p used kind key r x g) (took_given extras took)
  unfolding by_role
  time-role kept er e q =
      rw (er, ev) (value-meets hd (λ t l. keep kept (put_time t l) l) (λ t. keep_local (put_time t) kept (time-local t))
      (λ t l. keep-length (put_time t) kept l (time-length t l)) (within p key) (time_of value) took e q)

-- an ignored value changes nothing
pub ignored_role : {own text : List ℕ} {extras fill : ℕ} {g : Given} → Held own text extras fill g → (rooms : Rooms) (p : Place) (used kind key : ℕ) (x : Attribute) {r : Role} → r ≡ role.Ignored
    → Meets (within p key) own text (by_role rooms p used kind key r x g) (gives (extras, fill))
unfolding by_role
ignored_role hd rooms p used kind key x er = rw er (went hd)
