-- A property or extra more: what `add_property` and `add_extra` mean. Assumes nothing.
use Prim.Native.Nat.{ℕ, ◌+◌, ◌-◌, ◌≤◌, min}
use mathlib.Core.Bool.{Bool, true, false, cond, ◌&&◌, ◌||◌}
use mathlib.Core.List.{List, [], ◌∷◌, ◌++◌, map}
use mathlib.Core.Option.{Option, none, some}
use mathlib.Core.Path.{◌≡◌, refl, sym, ap, ap₂, subst, ◌∙◌}
use native.Mathlib.Omega.{arith}
use borrow.Author.Tests.{le-ltb, leb-true}
use lib.Dec.{leb, ltb}
use lib.ListN.{length, length-append, length-map}
use Rattle.tree_placed.specs.of_area.Limits.{most_bytes}
use Rattle.tree_placed.specs.of_refusal.Refusal.{Outcome, accepted}
use Rattle.tree_placed.specs.of_refusal.declared.Cause.{Cause}
use Rattle.tree_placed.specs.of_refusal.declared.Cause.TheVariants as cause
use Rattle.tree_placed.specs.of_utf8.Utf8.{utf8}
use Rattle.tree_placed.specs.of_text_filter.Filter.{filtered}
use Rattle.tree_placed.proofs.of_text_filter.Filtering.{utf8-filtered, unfiltered-filtered}
use Rattle.tree_placed.specs.of_tree_put.Put.{put_pair, put_text}
use Rattle.tree_placed.specs.of_tree_report.Report.{Pair, TestCase, TestSuite, Report}
use Rattle.tree_placed.specs.of_tree_report.inside.Cells.{Row, written, pair_row_of, fits_row}
use Rattle.tree_placed.specs.inside.Placed.{StandsAt}
use Rattle.tree_placed.proofs.Growing.{text-new, stands-more}
use Rattle.build_draft.specs.declared.Builder.{Builder}
use Rattle.build_draft.specs.declared.Holder.{Holder}
use Rattle.build_draft.specs.declared.Holder.TheVariants as holder
use Rattle.build_draft.specs.Draft.{Draft, ◌>>=◌, room_for, bytes_for, kind_at, on_record_of, last_of, with_words}
use Rattle.build_draft.specs.Parts.{taking, place_for, may_stand_behind, key_place, exchanged}
use Rattle.build_draft.specs.Calls as call
use Rattle.build_draft.specs.Calls.{marks, is_extra, holder_of, is_held, old_place, put_pair_in, add_pair, property_kind, extra_kind}
use Rattle.build_report.specs.Operations as report
use Rattle.build_report.specs.Operations.{last_in, open_case, is_empty, runs_in}
use Rattle.build_report.specs.Stands.{Stands, Stand, Comes, gives, passes}
use Rattle.build_report.specs.Builders.{is_some, of_case, of_suite, fits_records, fits_text, takes_property, takes_extra, extras_in, has_key, text_tests, pair_tests, pair_of}
use Rattle.build_report.proofs.Coming.{comes-tests}
use Rattle.build_report.proofs.Calling.{kept_draft, taken_draft, comes-taking, comes-keeping}
use Rattle.build_report.proofs.Holding.{Holding, holding-text, more_bytes}
use Rattle.build_report.proofs.Storing.{holding, room-test}
use Rattle.build_report.proofs.Keys.{key_index}
use Rattle.build_report.proofs.Opens.{suite-open, case_open}
use Rattle.build_report.proofs.PairPlaces.{ends}
use Rattle.build_report.proofs.PairRows.{New, Old, same-marks, new-property, Extras, extras}
use Rattle.build_report.proofs.PairKeys.{key-among, known-test}
use Rattle.build_report.proofs.PairStores.{place_is, may-stand, put-length, pair_fits, value-stored, new-stands}

-- what the key's place says: an old pair, or a new one
data Found (κ : ℕ) (p : Pair) (r r' : Report) (i place : ℕ) : Bool → Type 0 where
  old : ltb i place ≡ true → Old κ p i r r' → Found κ p r r' i place true
  new : ltb i place ≡ false → New κ p r r' → Found κ p r r' i place false

-- the tests of a text, where the area is as long as another
comes-room : {Q : Draft → Type 0} {ts : List (Bool × Cause)} {o : Outcome Draft} (s : List ℕ) (used : ℕ) (text text' : List ℕ) → bytes_for text' ≡ bytes_for text
    → Comes Q (text_tests used s text' ts) o → Comes Q (text_tests used s text ts) o
comes-room {Q} {ts} {o} s used text text' e c =
    subst (λ (n : ℕ). Comes Q ((utf8 s, cause.NotUtf8) ∷ (leb (used + length (filtered s)) n, cause.TextFull) ∷ ts) o) e c

-- the record that was taken last, with both texts, where their lengths are said
put-pair_in : (place x m n : ℕ) (d : Draft) → put_pair_in place x (x + m) (x + m + n) d
    ≡ (let b = d.builder in
    let words = on_record_of (last_of b) (λ r. put_text 4 1 (x + m) n (put_text 2 0 x m r)) d.words in
    cond (ltb place (last_of b)) (record { builder = marks b.report b.suite b.case (place + 1) b; words = exchanged place words; text = d.text }) (with_words d words))
unfolding put_pair_in
put-pair_in place x m n d =
    let i : x + m - x ≡ m = omega arith in
    let j : x + m + n - (x + m) ≡ n = omega arith in
    ap₂ (λ (m' n' : ℕ).
    let b = d.builder in
    let words = on_record_of (last_of b) (λ r. put_text 4 1 (x + m) n' (put_text 2 0 x m' r)) d.words in
    cond (ltb place (last_of b)) (record { builder = marks b.report b.suite b.case (place + 1) b; words = exchanged place words; text = d.text }) (with_words d words)) i j

module _ {b : Builder} {words text : List ℕ} {r : Report} (st : Stands b words text r) (key value : List ℕ) where
  abbrev start : Draft
  start = record { builder = b; words = words; text = text }

  -- both texts as they are stored, and the draft that has them
  abbrev v : List ℕ
  v = filtered key

  abbrev w : List ℕ
  w = filtered value

  abbrev kept : Draft
  kept = kept_draft w (kept_draft v start)

  abbrev texts : List ℕ
  texts = (st.stored.texts ++ v) ++ w

  abbrev Kept : Type 0
  Kept = Holding kept.builder words kept.text st.stored.placed texts

  module _ (u : utf8 key ≡ true) (l : fits_text b.bytes v text ≡ true) where
    same-room : bytes_for (kept_draft v start).text ≡ bytes_for text
    same-room =
        let m : b.bytes + length v ≤ bytes_for text = leb-true (b.bytes + length v) (bytes_for text) l in
        ap (λ (n : ℕ). min n most_bytes) (put-length b.bytes v text (omega arith))

    held_first : Holding (more_bytes (length v) b) words (kept_draft v start).text st.stored.placed (st.stored.texts ++ v)
    held_first = holding-text v (utf8-filtered key u) (unfiltered-filtered key) l (holding st.stored)

    held_both : utf8 value ≡ true → fits_text (b.bytes + length v) w (kept_draft v start).text ≡ true → Kept
    held_both x m = holding-text w (utf8-filtered value x) (unfiltered-filtered value) m held_first

  key-stands : utf8 key ≡ true → utf8 value ≡ true → StandsAt texts b.bytes (written v)
  key-stands x y =
      subst (λ (n : ℕ). StandsAt texts n (written v)) (sym st.stored.bytes)
      (stands-more (st.stored.texts ++ v) w (utf8-filtered value y) (length st.stored.texts) (written v) (text-new st.stored.texts v (utf8-filtered key x)))

  value-stands : utf8 value ≡ true → StandsAt texts (b.bytes + length v) (written w)
  value-stands y =
      let n : b.bytes ≡ length st.stored.texts = st.stored.bytes in
      let m : length (st.stored.texts ++ v) ≡ length st.stored.texts + length v = length-append st.stored.texts v in
      subst (λ (n : ℕ). StandsAt texts n (written w)) {x = length (st.stored.texts ++ v)} (omega arith) (text-new (st.stored.texts ++ v) w (utf8-filtered value y))

  module _ (κ : ℕ) (r' : Report) where
    abbrev place : ℕ
    place = old_place κ v kept.text start

    -- a new value in the old place
    old-done : utf8 value ≡ true → Kept → Old κ (pair_of key value) place r r'
        → Stand r' (with_words kept (on_record_of place (put_pair 4 (b.bytes + length v) (b.bytes + length v + length w - (b.bytes + length v))) words))
    old-done y h o =
        let i : b.bytes + length v + length w - (b.bytes + length v) ≡ length w = omega arith in
        subst (λ (n : ℕ). Stand r' (with_words kept (on_record_of place (put_pair 4 (b.bytes + length v) n) words))) (sym i)
        (record {
          stored = value-stored h st.stored.rows st.stored.sound o (utf8-filtered value y) (unfiltered-filtered value) (b.bytes + length v) (value-stands y);
          marks = same-marks (o.marks st.marks) refl refl refl refl;
        })

    -- a new record
    new-done : utf8 key ≡ true → utf8 value ≡ true → Kept → New κ (pair_of key value) r r' → ltb b.records (room_for words) ≡ true
        → Stand r' (put_pair_in (place_for start) b.bytes (b.bytes + length v) (b.bytes + length v + length w) (taken_draft κ kept))
    new-done x y h n l =
        let k : fits_row (pair_row_of κ (pair_of key value)) ≡ true = pair_fits κ (pair_of key value) (utf8-filtered key x) (unfiltered-filtered key) (utf8-filtered value y) (unfiltered-filtered value) in
        subst (λ (i : ℕ). Stand r' (put_pair_in i b.bytes (b.bytes + length v) (b.bytes + length v + length w) (taken_draft κ kept))) (sym (place_is st.stored n.cut))
        (subst (Stand r') (sym (put-pair_in (length n.before) b.bytes (length v) (length w) (taken_draft κ kept)))
        (new-stands h st.stored.rows st.stored.sound n k b.bytes (b.bytes + length v) (key-stands x y) (value-stands y) l (same-marks st.marks refl refl refl refl)))

    -- what follows the texts
    found-comes : (known : Bool) → utf8 key ≡ true → utf8 value ≡ true → Kept → Found κ (pair_of key value) r r' place (place_for start) known
        → Comes (Stand r') ((known || fits_records 1 r words, cause.RecordsSpent) ∷ [])
        (cond (ltb place (place_for start))
        (accepted (with_words kept (on_record_of place (put_pair 4 (b.bytes + length v) (b.bytes + length v + length w - (b.bytes + length v))) words)))
        (taking κ kept >>= λ g. accepted (put_pair_in (place_for start) b.bytes (b.bytes + length v) (b.bytes + length v + length w) g)))
    found-comes known x y h (old t o) = rw t (passes (gives (old-done y h o)))
    found-comes known x y h (new t n) =
        rw t (comes-taking kept (λ g. accepted (put_pair_in (place_for start) b.bytes (b.bytes + length v) (b.bytes + length v + length w) g)) κ (fits_records 1 r words) (room-test st.stored)
        (λ l. gives (new-done x y h n (room-test st.stored ∙ l))))

    -- the whole call
    comes-pair : (may known : Bool) → (is_held κ b words && may_stand_behind κ (kind_at words (place_for start - 1))) ≡ may
        → (may ≡ true → Kept → Found κ (pair_of key value) r r' place (place_for start) known)
        → Comes (Stand r') ((may, cause.NotLayout) ∷ pair_tests b.bytes key value text ((known || fits_records 1 r words, cause.RecordsSpent) ∷ [])) (add_pair κ key value start)
    unfolding add_pair
    comes-pair may known e f =
        comes-tests (is_held κ b words && may_stand_behind κ (kind_at words (place_for start - 1))) may cause.NotLayout e
        (λ t. comes-keeping start _ key
        (λ x l. comes-room value (b.bytes + length v) text (kept_draft v start).text (same-room x l)
        (comes-keeping (kept_draft v start) _ value (λ y m. found-comes known x y (held_both x l y m) (f t (held_both x l y m))))))

is-extra : (h : Holder) → is_extra (extra_kind h) ≡ true
is-extra holder.Suite = refl
is-extra holder.Case = refl

is-no-extra : (h : Holder) → is_extra (property_kind h) ≡ false
is-no-extra holder.Suite = refl
is-no-extra holder.Case = refl

-- ---- who takes one is open
some-suite : (p : TestSuite → Bool) (o : Option TestSuite) → of_suite p o ≡ true → is_some o ≡ true
some-suite p none t = t
some-suite p (some s) t = refl

some-case : (p : TestCase → Bool) (o : Option TestCase) → of_case p o ≡ true → is_some o ≡ true
some-case p none t = t
some-case p (some c) t = refl

-- a test that is no narrower than the one behind it
wider : (v t u : Bool) → u ≡ v → (v ≡ true → t ≡ true) → (t && u) ≡ v
wider true t u e h = ap₂ (λ (x y : Bool). x && y) (h refl) e
wider false true u e h = e
wider false false u e h = refl

module _ {b : Builder} {words text : List ℕ} {r : Report} (st : Stands b words text r) where
  property-held : (h : Holder) → takes_property h r ≡ true → is_held (property_kind h) b words ≡ true
  property-held holder.Suite t = suite-open st ∙ some-suite (λ s. is_empty s.cases) (last_in r.suites) t
  property-held holder.Case t = case_open st ∙ some-case (λ c. is_empty (runs_in c.status)) (open_case (last_in r.suites)) t

  extra-held : (h : Holder) → takes_extra h r ≡ true → is_held (extra_kind h) b words ≡ true
  extra-held holder.Suite t = suite-open st ∙ some-suite (λ s. is_empty s.properties && is_empty s.cases) (last_in r.suites) t
  extra-held holder.Case t = case_open st ∙ some-case (λ c. is_empty c.properties && is_empty (runs_in c.status)) (open_case (last_in r.suites)) t

  -- ---- a property is new
  property-found : (h : Holder) (key value : List ℕ) → takes_property h r ≡ true
      → Found (property_kind h) (pair_of key value) r (report.add_property h (pair_of key value) r) (place st key value (property_kind h) r) (place_for (start st key value)) false
  property-found h key value t =
      let i : place st key value (property_kind h) r ≡ place_for (start st key value) =
      ap (λ (t : Bool). cond t (key_place (kept st key value).text words (filtered key)
      (holder_of (property_kind h) b + 1) (place_for (start st key value) - (holder_of (property_kind h) b + 1))) (place_for (start st key value))) (is-no-extra h) in
      new (le-ltb (place st key value (property_kind h) r) (place_for (start st key value)) (omega arith)) (new-property h r (pair_of key value) t)

  pub add_property : (h : Holder) (key value : List ℕ)
      → Comes (Stand (report.add_property h (pair_of key value) r))
      ((takes_property h r, cause.NotLayout) ∷ pair_tests b.bytes key value text ((fits_records 1 r words, cause.RecordsSpent) ∷ []))
      (call.add_property h key value (record { builder = b; words = words; text = text }))
  unfolding call.add_property
  add_property h key value =
      comes-pair st key value (property_kind h) (report.add_property h (pair_of key value) r) (takes_property h r) false
      (wider (takes_property h r) (is_held (property_kind h) b words) _ (may-stand st.stored (property_kind h) (ends r).cut ∙ (ends r).property h) (property-held h))
      (λ t k. property-found h key value t)

  -- ---- an extra is new or has an old key
  extra-found : (h : Holder) (key value : List ℕ) → takes_extra h r ≡ true → Kept st key value
      → Found (extra_kind h) (pair_of key value) r (report.add_extra h (pair_of key value) r) (place st key value (extra_kind h) r) (place_for (start st key value)) (has_key (filtered key) (extras_in h r))
  extra-found h key value t k = go (has_key (filtered key) (extras_in h r)) refl
    where
      x : Extras h r
      x = extras h r t

      here : place_for (start st key value) ≡ length x.front + length (extras_in h r)
      here =
          place_is st.stored x.cut ∙ ap length x.is ∙ length-append x.front (map (pair_row_of (extra_kind h)) (extras_in h r))
          ∙ ap (λ (n : ℕ). length x.front + n) (length-map (extras_in h r) (pair_row_of (extra_kind h)))

      many : place_for (start st key value) - (holder_of (extra_kind h) b + 1) ≡ length (extras_in h r)
      many = let n = here in let m : holder_of (extra_kind h) b + 1 ≡ length x.front = x.mark st.marks in omega arith

      there : place st key value (extra_kind h) r ≡ length x.front + key_index (filtered key) (extras_in h r)
      there =
          ap (λ (t : Bool). cond t (key_place (kept st key value).text words (filtered key)
          (holder_of (extra_kind h) b + 1) (place_for (start st key value) - (holder_of (extra_kind h) b + 1))) (place_for (start st key value))) (is-extra h)
          ∙ ap₂ (λ (i n : ℕ). key_place (kept st key value).text words (filtered key) i n) (x.mark st.marks) many
          ∙ key-among (extra_kind h) x.front (extras_in h r) x.back (filtered key) k (st.stored.rows ∙ x.cut.is ∙ ap (λ (l : List Row). l ++ x.back) x.is)

      test : ltb (place st key value (extra_kind h) r) (place_for (start st key value)) ≡ has_key (filtered key) (extras_in h r)
      test = ap₂ ltb there here ∙ known-test (length x.front) (filtered key) (extras_in h r)

      go : (u : Bool) → has_key (filtered key) (extras_in h r) ≡ u
          → Found (extra_kind h) (pair_of key value) r (report.add_extra h (pair_of key value) r) (place st key value (extra_kind h) r) (place_for (start st key value)) u
      go true e =
          old (test ∙ e) (subst (λ (i : ℕ). Old (extra_kind h) (pair_of key value) i r (report.add_extra h (pair_of key value) r)) (sym there) (x.old (pair_of key value) e))
      go false e = new (test ∙ e) (x.new (pair_of key value) e)

  pub add_extra : (h : Holder) (key value : List ℕ)
      → Comes (Stand (report.add_extra h (pair_of key value) r))
      ((takes_extra h r, cause.NotLayout)
      ∷ pair_tests b.bytes key value text ((has_key (filtered key) (extras_in h r) || fits_records 1 r words, cause.RecordsSpent) ∷ []))
      (call.add_extra h key value (record { builder = b; words = words; text = text }))
  unfolding call.add_extra
  add_extra h key value =
      comes-pair st key value (extra_kind h) (report.add_extra h (pair_of key value) r) (takes_extra h r) (has_key (filtered key) (extras_in h r))
      (wider (takes_extra h r) (is_held (extra_kind h) b words) _ (may-stand st.stored (extra_kind h) (ends r).cut ∙ (ends r).extra h) (extra-held h))
      (λ t k. extra-found h key value t k)
