-- What reading an element leaves: a good record of its kind, good extras, and texts that grew by whole characters. Assumes nothing.
use Prim.Native.Nat.{ℕ, zero, suc, ◌+◌}
use mathlib.Core.Bool.{Bool, true, false, cond, not, ◌&&◌, ◌||◌}
use mathlib.Core.List.{List, [], ◌∷◌, ◌++◌, append_assoc, append-nil}
use mathlib.Core.Option.{none, some}
use mathlib.Core.Path.{◌≡◌, refl, sym, ap, ◌∙◌}
use native.Mathlib.Omega.{arith}
use borrow.Author.Tests.{le-leb}
use lib.Dec.{leb}
use lib.ListN.{length, length-append}
use Rattle.integer.specs.of_area.Answer.{Answer, gives, refuses}
use Rattle.integer.specs.of_names.Keys.{key_of}
use Rattle.integer.specs.of_utf8.Utf8.{utf8}
use Rattle.integer.proofs.of_utf8.Rules.{utf8_append}
use Rattle.text.specs.of_text_filter.Filter.{unfiltered}
use Rattle.text.specs.Value.{value_text, checked_of}
use Rattle.text.proofs.Values.{utf8-value, unfiltered-value}
use Rattle.text.proofs.of_text_filter.Filtering.{unfiltered-append}
use Rattle.integer.specs.Integer.{integer_of}
use Rattle.time.specs.Time.{time_of}
use Rattle.time.proofs.Times.{time-range}
use Rattle.tree_put.specs.of_timestamp.Timestamp.{timestamp_of}
use Rattle.tree_put.proofs.of_timestamp.Ranges.{timestamp-range}
use Rattle.tree_put.specs.of_uuids.Uuid.{uuid_of}
use Rattle.integer.specs.of_refusal.Refusal.{Outcome}
use Rattle.table.specs.Event.{Attribute}
use Rattle.tree_report.specs.inside.Cells.{absent, valued, fits_time}
use Rattle.tree_report.proofs.EncodeLists.{both, Each, done, more, each_append, each_on}
use Rattle.read_element.specs.Outcome.{Place, need, within, Rooms, fits}
use Rattle.read_keys.specs.declared.Role.{Role}
use Rattle.read_keys.specs.Roles.{role_of}
use Rattle.tree_put.specs.of_tree_record.Record.{marked, has_bit}
use Rattle.tree_put.specs.Put.{blank, put_pair, put_text}
use Rattle.read_element.specs.Attributes.{Given, with_main, read_text, place_of, changed, extra_kind, old_extra, new_extra, read_extra}
use Rattle.read_element.specs.Attributes.{keep, by_role, among, numbered, read_attributes, complete, Grown, read_element}
use Rattle.read_element.proofs.TreeOutcome.{Holds, accept, bind, needed, answered, either}
use Rattle.read_element.proofs.TreeSheet.{text, name, value, pair, named, empty, full-value, untimed, Sorts, Sheet, sheet, good_at, Grows, good_new, good_more, sheet-more}
use Rattle.read_element.proofs.TreeSheet.{put_first, put-value, put_second, put-assertions, put-disabled, put-moment, put-time, put-uuid}
use Rattle.read_element.proofs.TreeSheet.{put-tests, put-failures, put-errors, put-skipped, put-seventh}
use Rattle.read_element.proofs.TreeGood.{pair_sorts}
use Rattle.read_element.proofs.TreeRoles.{Wide, Suits, as_first, as-value, as-second, as-tests, as-failures, as-errors, as-skipped, as-disabled, as-host}
use Rattle.read_element.proofs.TreeRoles.{as-assertions, as-uuid, as-moment, as-time, as-extra, as_ignored, Class, class_roles, class-blank, class-named}
use Rattle.integer.specs.of_refusal.declared.Cause.TheVariants as cause

-- ---- texts
pub record Stored (rooms : Rooms) (t : List ℕ) : Type 0 where
  pub sound : utf8 t ≡ true
  pub clean : unfiltered t ≡ true
  pub room : fits rooms.text (length t) ≡ true

pub grows-refl : (s : List ℕ) → Grows s s
grows-refl s = record { more = []; whole = sym (append-nil s); sound = refl }

-- a text of UTF-8 put behind the texts is growth by whole characters
pub grows-by : (s v : List ℕ) → utf8 v ≡ true → Grows s (s ++ v)
grows-by s v e = record { more = v; whole = refl; sound = e }

pub grows-on : {s t u : List ℕ} → Grows s t → Grows t u → Grows s u
grows-on {s} g h = record {
  more = g.more ++ h.more;
  whole = h.whole ∙ ap (λ (l : List ℕ). l ++ h.more) g.whole ∙ append_assoc s g.more h.more;
  sound = utf8_append g.more h.more g.sound ∙ h.sound;
}

-- a clean text is stored if it fits: what is to hold behind it is shown with the longer texts
pub stores : {A : Type 0} {Q : A → Type 0} {rooms : Rooms} {texts : List ℕ} (p : Place) (v : List ℕ) {m : Outcome A}
    → utf8 v ≡ true → unfiltered v ≡ true → Stored rooms texts → (Stored rooms (texts ++ v) → Holds Q m) → Holds Q (need (fits rooms.text (length texts + length v)) p cause.TextFull m)
stores {rooms = rooms} {texts = texts} p v u c s k =
    needed (fits rooms.text (length texts + length v)) p cause.TextFull
    (λ e. k (record {
      sound = utf8_append texts v s.sound ∙ u;
      clean = unfiltered-append texts v ∙ both s.clean c;
      room = ap (fits rooms.text) (length-append texts v) ∙ e;
    }))

-- ---- leaves
checked-utf8 : (s : List ℕ) (x : Unit {0}) → checked_of s ≡ gives x → utf8 s ≡ true
checked-utf8 s x e = go (utf8 s) refl _ e
  where
    go : (t : Bool) → utf8 s ≡ t → (y : Answer (Unit {0})) → cond t y (refuses cause.NotUtf8) ≡ gives x → utf8 s ≡ true
    go true q y e = q
    go false q y e = let z : ◌≡◌ {A = ℕ} 0 1 = cc in absurd (omega arith)

time-fits : (s : List ℕ) (t : ℕ × ℕ) → time_of s ≡ gives t → fits_time (some (record { seconds = t.0; nanos = t.1 })) ≡ true
time-fits s t e = let h = time-range s t.0 t.1 e in both (le-leb t.0 8388607 (let l = h.0 in omega arith)) (le-leb t.1 999999999 (let l = h.1 in omega arith))

-- ---- what an element's attributes have given so far
-- only suites and cases have extras
pub data Few (κ : ℕ) : List (List ℕ) → Type 0 where
  no-extras : Few κ []
  extras-of : {rs : List (List ℕ)} → Wide κ → Few κ rs

record Going (rooms : Rooms) (S : Sorts) (κ used : ℕ) (start : List ℕ) (g : Given) : Type 0 where
  main : Sheet S g.texts κ g.main
  extras : Each (Sheet (pair_sorts name pair) g.texts (extra_kind κ)) g.extras
  few : Few κ g.extras
  grows : Grows start g.texts
  stored : Stored rooms g.texts
  space : fits rooms.records (used + 1 + length g.extras) ≡ true

-- a change of one record leaves the number of records
pub length-changed : (i : ℕ) (f : List ℕ → List ℕ) (rs : List (List ℕ)) → length (changed i f rs) ≡ length rs
length-changed i f [] = refl
length-changed zero f (r ∷ rs) = refl
length-changed (suc i) f (r ∷ rs) = ap suc (length-changed i f rs)

-- what holds of each record stays so if one is changed by what keeps it
pub each-changed : {P : List ℕ → Type 0} (i : ℕ) (f : List ℕ → List ℕ) → ((r : List ℕ) → P r → P (f r)) → {rs : List (List ℕ)} → Each P rs → Each P (changed i f rs)
each-changed i f h done = done
each-changed zero f h (more {x = r} p ps) = more (h r p) ps
each-changed (suc i) f h (more p ps) = more p (each-changed i f h ps)

pair_put : {texts : List ℕ} {κ : ℕ} {r : List ℕ} (x n : ℕ) → good_at texts x n ≡ true → Sheet (pair_sorts name pair) texts κ r → Sheet (pair_sorts name pair) texts κ (put_pair 4 x n r)
pair_put x n q (sheet a b c m d e f g h i j pa (full-value o) pt pe pf pg ph pi pj) = sheet a (valued x n) absent m d e f g h i j pa (full-value q) pt pe pf pg ph pi pj

pair-new : {texts : List ℕ} (κ x n y k : ℕ) → good_at texts x n ≡ true → good_at texts y k ≡ true → Sheet (pair_sorts name pair) texts κ (put_text 4 1 y k (put_text 2 0 x n (blank κ)))
unfolding marked
pair-new κ x n y k p q =
    sheet (valued x n) (valued y k) absent none none absent absent absent absent absent absent (named p) (full-value q) untimed empty empty empty empty empty empty

keep-sheet : {S : Sorts} {κ : ℕ} {texts : List ℕ} (b : Bool) (new old : List ℕ) → (b ≡ true → Sheet S texts κ new) → Sheet S texts κ old → Sheet S texts κ (keep b new old)
keep-sheet true new old h o = h refl
keep-sheet false new old h o = o

module _ {rooms : Rooms} {S : Sorts} {κ used : ℕ} {start : List ℕ} where
  with-main : {g : Given} (r : List ℕ) → Going rooms S κ used start g → Sheet S g.texts κ r → Going rooms S κ used start (with_main g r)
  with-main r w h = record { main = h; extras = w.extras; few = w.few; grows = w.grows; stored = w.stored; space = w.space }

  text-read : {g : Given} (p : Place) (o k : ℕ) (s : List ℕ)
      → ((t r : List ℕ) (x n : ℕ) → good_at t x n ≡ true → Sheet S t κ r → Sheet S t κ (put_text o k x n r))
      → Going rooms S κ used start g → Holds (Going rooms S κ used start) (read_text rooms p o k s g)
  unfolding read_text
  text-read {g} p o k s put w =
      bind (answered p (checked_of s)) λ x e.
      (let u = utf8-value s (checked-utf8 s x e) in
      let v : List ℕ = value_text s in
      let b : Grows g.texts (g.texts ++ v) = grows-by g.texts v u in
      stores p v u (unfiltered-value s) w.stored λ t.
      accept (record {
        main = put (g.texts ++ v) g.main (length g.texts) (length v) (good_new g.texts v u) (sheet-more b w.main);
        extras = each_on (λ r h. sheet-more b h) w.extras;
        few = w.few;
        grows = grows-on w.grows b;
        stored = t;
        space = w.space;
      }))

  old-extra : {g : Given} (p : Place) (v : List ℕ) (i : ℕ) → Wide κ → utf8 v ≡ true → unfiltered v ≡ true → Going rooms S κ used start g → Holds (Going rooms S κ used start) (old_extra rooms p v i g)
  unfolding old_extra
  old-extra {g} p v i wide u c w =
      let b : Grows g.texts (g.texts ++ v) = grows-by g.texts v u in
      let f : List ℕ → List ℕ = put_pair 4 (length g.texts) (length v) in
      stores p v u c w.stored λ t.
      accept (record {
        main = sheet-more b w.main;
        extras = each-changed i f (λ r h. pair_put (length g.texts) (length v) (good_new g.texts v u) h) (each_on (λ r h. sheet-more b h) w.extras);
        few = extras-of wide;
        grows = grows-on w.grows b;
        stored = t;
        space = ap (λ (n : ℕ). fits rooms.records (used + 1 + n)) (length-changed i f g.extras) ∙ w.space;
      })

  new-extra : {g : Given} (p : Place) (key v : List ℕ) → Wide κ → utf8 key ≡ true → unfiltered key ≡ true → utf8 v ≡ true → unfiltered v ≡ true
      → Going rooms S κ used start g → Holds (Going rooms S κ used start) (new_extra rooms p used κ key v g)
  unfolding new_extra
  new-extra {g} p key v wide uk ck u c w =
      let keyed : List ℕ = g.texts ++ key in
      let b : Grows g.texts keyed = grows-by g.texts key uk in
      let d : Grows keyed (keyed ++ v) = grows-by keyed v u in
      let r : List ℕ = put_text 4 1 (length keyed) (length v) (put_text 2 0 (length g.texts) (length key) (blank (extra_kind κ))) in
      needed (fits rooms.records (used + 1 + length g.extras + 1)) p cause.RecordsSpent λ e.
      stores p key uk ck w.stored λ s.
      stores p v u c s λ t.
      accept (record {
        main = sheet-more d (sheet-more b w.main);
        extras =
            each_append (each_on (λ q h. sheet-more d (sheet-more b h)) w.extras)
            (more (pair-new (extra_kind κ) (length g.texts) (length key) (length keyed) (length v) (good_more (length g.texts) (length key) d (good_new g.texts key uk)) (good_new keyed v u))
            done);
        few = extras-of wide;
        grows = grows-on w.grows (grows-on b d);
        stored = t;
        space =
            let l : length (g.extras ++ (r ∷ [])) ≡ length g.extras + 1 = length-append g.extras (r ∷ []) in
            let z : used + 1 + length (g.extras ++ (r ∷ [])) ≡ used + 1 + length g.extras + 1 = omega arith in
            ap (fits rooms.records) z ∙ e;
      })

  extra-read : {g : Given} (p : Place) (x : Attribute) → Wide κ → Going rooms S κ used start g → Holds (Going rooms S κ used start) (read_extra rooms p used κ x g)
  unfolding read_extra
  extra-read {g} p x wide w =
      bind (answered p (checked_of x.key)) λ a e.
      bind (answered p (checked_of x.value)) λ b f.
      (let uk = utf8-value x.key (checked-utf8 x.key a e) in
      let u = utf8-value x.value (checked-utf8 x.value b f) in
      either (leb (length g.extras) (place_of g.texts (value_text x.key) g.extras))
      (λ q. new-extra p (value_text x.key) (value_text x.value) wide uk (unfiltered-value x.key) u (unfiltered-value x.value) w)
      (λ q. old-extra p (value_text x.value) (place_of g.texts (value_text x.key) g.extras) wide u (unfiltered-value x.value) w))

  by-role : {role : Role} (p : Place) (key : ℕ) (x : Attribute) {g : Given} → Suits S κ role → Going rooms S κ used start g → Holds (Going rooms S κ used start) (by_role rooms p used κ key role x g)
  unfolding by_role
  by-role p key x (as_first q) w = text-read (within p key) 2 0 x.value (λ t r a n h s. put_first a n h q s) w
  by-role p key x (as-value q) w = text-read (within p key) 4 1 x.value (λ t r a n h s. put-value a n h q s) w
  by-role p key x (as-second q) w = text-read (within p key) 18 5 x.value (λ t r a n h s. put_second a n h q s) w
  by-role p key x (as-tests q) w = bind (answered (within p key) (integer_of x.value)) λ n e. accept (with-main _ w (put-tests n q w.main))
  by-role p key x (as-failures q) w = bind (answered (within p key) (integer_of x.value)) λ n e. accept (with-main _ w (put-failures n q w.main))
  by-role p key x (as-errors q) w = bind (answered (within p key) (integer_of x.value)) λ n e. accept (with-main _ w (put-errors n q w.main))
  by-role p key x (as-skipped q) w = bind (answered (within p key) (integer_of x.value)) λ n e. accept (with-main _ w (put-skipped n q w.main))
  by-role p key x (as-disabled q) w = bind (answered (within p key) (integer_of x.value)) λ n e. accept (with-main _ w (put-disabled n q w.main))
  by-role p key x (as-host q) w = text-read (within p key) 28 10 x.value (λ t r a n h s. put-seventh a n h q s) w
  by-role p key x (as-assertions q) w = bind (answered (within p key) (integer_of x.value)) λ n e. accept (with-main _ w (put-assertions n q w.main))
  by-role p key x (as-uuid q) w = bind (answered (within p key) (uuid_of x.value)) λ u e. accept (with-main _ w (put-uuid u q w.main))
  by-role p key x (as-moment {kept = k} q) w =
      bind (answered (within p key) (timestamp_of x.value)) λ m e. accept (with-main _ w (keep-sheet k _ _ (λ y. put-moment m (timestamp-range x.value m e) (q y) w.main) w.main))
  by-role p key x (as-time {kept = k} q) w =
      bind (answered (within p key) (time_of x.value)) λ t e. accept (with-main _ w (keep-sheet k _ _ (λ y. put-time t (time-fits x.value t e) (q y) w.main) w.main))
  by-role p key x (as-extra wide) w = extra-read p x wide w
  by-role p key x as_ignored w = accept w

  attributes-read : ((key : ℕ) → Suits S κ (role_of κ key)) → (p : Place) (before : List (List ℕ)) (j : ℕ) (xs : List Attribute) {g : Given}
      → Going rooms S κ used start g → Holds (Going rooms S κ used start) (read_attributes rooms p used κ before j xs g)
  unfolding read_attributes
  attributes-read roles p before j [] w = accept w
  attributes-read roles p before j (x ∷ xs) w =
      bind (needed x.good (numbered p j) cause.FaultyAttribute λ _.
      needed (not (among x.key before)) (numbered p j) cause.RepeatedKey (λ e. by-role (numbered p j) (key_of x.key) x (roles (key_of x.key)) w)) λ h v.
      attributes-read roles p (before ++ (x.key ∷ [])) (j + 1) xs v

-- ---- the element
pub record Added (rooms : Rooms) (κ : ℕ) (T : Sorts) (records : List (List ℕ)) (texts : List ℕ) (g : Grown) : Type 0 where
  pub main : List ℕ
  pub extras : List (List ℕ)
  pub whole : g.records ≡ records ++ (main ∷ extras)
  pub sheet : Sheet T g.texts κ main
  pub each : Each (Sheet (pair_sorts name pair) g.texts (extra_kind κ)) extras
  pub few : Few κ extras
  pub grows : Grows texts g.texts
  pub stored : Stored rooms g.texts
  pub space : fits rooms.records (length g.records) ≡ true

-- reading an element where it is accepted: its record and extras stand behind the others, good in a layout
pub element-read : {rooms : Rooms} {κ : ℕ} {S T : Sorts} (p : Place) (j : ℕ) (xs : List Attribute) (records : List (List ℕ)) (texts : List ℕ)
    → Class κ S T → Stored rooms texts → Holds (Added rooms κ T records texts) (read_element rooms p κ j xs records texts)
unfolding read_element complete
element-read {rooms} {κ} {S} {T} p j xs records texts class stored =
    bind
    (needed (fits rooms.records (length records + 1)) p cause.RecordsSpent λ e.
    attributes-read {rooms = rooms} {S = S} {κ = κ} {used = length records} {start = texts} (class_roles class) p [] j xs
    (record {
      main = class-blank class;
      extras = done;
      few = no-extras;
      grows = grows-refl texts;
      stored = stored;
      space = (let z : length records + 1 + 0 ≡ length records + 1 = omega arith in ap (fits rooms.records) z ∙ e);
    }))
    λ g w.
    bind {Q = λ h. Sheet T h.texts κ h.main × Going rooms S κ (length records) texts h}
    (needed (not (leb 2 κ && leb κ 5) || has_bit 0 g.main) (within p 1) cause.MissingAttribute λ a.
    needed (not (leb 4 κ && leb κ 5) || has_bit 1 g.main) (within p 14) cause.MissingAttribute λ b. accept (class-named class a b w.main, w))
    λ h v.
    accept (record {
      main = h.main;
      extras = h.extras;
      whole = refl;
      sheet = v.0;
      each = v.1.extras;
      few = v.1.few;
      grows = v.1.grows;
      stored = v.1.stored;
      space =
          (let l : length (records ++ (h.main ∷ h.extras)) ≡ length records + suc (length h.extras) = length-append records (h.main ∷ h.extras) in
          let z : length (records ++ (h.main ∷ h.extras)) ≡ length records + 1 + length h.extras = omega arith in
          ap (fits rooms.records) z ∙ v.1.space);
    })
