-- The kinds of the records that an element adds: its own, behind it its extras'. Assumes nothing.
use Prim.Native.Nat.{ℕ, zero, suc, ◌+◌, ◌%◌, ◌/◌, ◌^◌, ◌≤◌}
use mathlib.Core.Path.{◌≡◌, refl, ◌∙◌}
use mathlib.Core.Bool.{Bool, true, false, not, ◌&&◌, ◌||◌}
use mathlib.Core.List.{List, [], ◌∷◌, ◌++◌}
use native.Mathlib.Omega.{arith}
use lib.Dec.{leb, lit≤}
use lib.ListN.{length, get_or}
use Rattle.read_lists.specs.of_names.Keys.{key_of}
use Rattle.read_lists.specs.of_text.Value.{value_text, checked_of}
use Rattle.read_lists.specs.of_integer.Integer.{integer_of}
use Rattle.read_lists.specs.of_time.Time.{time_of}
use Rattle.read_lists.specs.of_timestamp.Timestamp.{timestamp_of}
use Rattle.read_lists.specs.of_timestamp.declared.Moment.{Moment}
use Rattle.read_lists.specs.of_uuids.Uuid.{uuid_of}
use Rattle.read_lists.specs.of_uuids.declared.Words.{Words}
use Rattle.read_lists.specs.of_table.Event.{Attribute}
use Rattle.read_lists.proofs.of_tree_report.EncodeLists.{Each, done, more, each_append}
use Rattle.read_lists.specs.of_tree_record.Record.{marked, has_bit}
use Rattle.read_lists.specs.of_tree_put.Put.{blank, put_pair, put_text, put_count_of, put_words, uuid_words, put_uuid, moment_words, put_moment, put_time}
use Rattle.read_lists.proofs.of_tree_put.Puts.{pair-other, words-before}
use Rattle.read_lists.proofs.of_tree_record.Marks.{marked_other}
use Rattle.read_lists.specs.of_read_keys.declared.Role.{Role}
use Rattle.read_lists.specs.of_read_keys.Roles.{role_of}
use Rattle.read_lists.specs.of_read_element.Outcome.{Place, within, Rooms, fits}
use Rattle.read_lists.specs.of_read_element.Attributes.{Given, with_main, read_text, place_of, extra_kind, old_extra, new_extra, read_extra, keep, by_role, among, numbered, read_attributes, complete, Grown, read_element}
use Rattle.read_lists.proofs.of_read_element.TreeOutcome.{Holds, accept, bind, needed, answered, either}
use Rattle.read_lists.proofs.of_read_element.TreeSheet.{Sorts}
use Rattle.read_lists.proofs.of_read_element.TreeRoles.{Wide, Suits, as_first, as-value, as-second, as-tests, as-failures, as-errors, as-skipped, as-disabled, as-host}
use Rattle.read_lists.proofs.of_read_element.TreeRoles.{as-assertions, as-uuid, as-moment, as-time, as-extra, as_ignored, Class, report, suite, case, suite_property}
use Rattle.read_lists.proofs.of_read_element.TreeRoles.{case_property, failure, error, skipped, flaky_failure, flaky_error, rerun_failure, rerun_error, class_roles}
use Rattle.read_lists.proofs.of_read_element.TreeElement.{Few, no-extras, extras-of, each-changed}
use Rattle.read_lists.specs.of_refusal.declared.Cause.TheVariants as cause

-- ---- words put behind the first leave the kind
text-kind : (o k s n : ℕ) → 2 ≤ o → (r : List ℕ) → get_or (put_text o k s n r) 0 0 ≡ get_or r 0 0
text-kind o k s n h r = marked_other k (put_pair o s n r) 0 (omega arith) ∙ pair-other o s n r 0 (omega arith) (omega arith)

count-kind : (o n : ℕ) → 2 ≤ o → (r : List ℕ) → get_or (put_count_of o n r) 0 0 ≡ get_or r 0 0
count-kind o n h r = pair-other o (n % 2 ^ 32) (n / 2 ^ 32) r 0 (omega arith) (omega arith)

number-kind : (o k n : ℕ) → 2 ≤ o → (r : List ℕ) → get_or (marked k (put_count_of o n r)) 0 0 ≡ get_or r 0 0
number-kind o k n h r = marked_other k (put_count_of o n r) 0 (omega arith) ∙ count-kind o n h r

uuid-kind : (w : Words) (r : List ℕ) → get_or (put_uuid w r) 0 0 ≡ get_or r 0 0
uuid-kind w r = marked_other 1 (put_words 4 (uuid_words w) r) 0 (omega arith) ∙ words-before 4 (uuid_words w) r 0 (lit≤ tt)

moment-kind : (m : Moment) (r : List ℕ) → get_or (put_moment m r) 0 0 ≡ get_or r 0 0
moment-kind m r = marked_other 3 (put_words 8 (moment_words m) r) 0 (omega arith) ∙ words-before 8 (moment_words m) r 0 (lit≤ tt)

time-kind : (t : ℕ × ℕ) (r : List ℕ) → get_or (put_time t r) 0 0 ≡ get_or r 0 0
time-kind t r = marked_other 4 (put_pair 16 t.0 t.1 r) 0 (omega arith) ∙ pair-other 16 t.0 t.1 r 0 (omega arith) (omega arith)

keep-kind : (b : Bool) (new old : List ℕ) → get_or new 0 0 ≡ get_or old 0 0 → get_or (keep b new old) 0 0 ≡ get_or old 0 0
keep-kind true new old h = h
keep-kind false new old h = refl

-- ---- what an element's attributes have given so far
record Going (κ : ℕ) (g : Given) : Type 0 where
  main : get_or g.main 0 0 ≡ κ
  extras : Each (λ r. get_or r 0 0 ≡ extra_kind κ) g.extras
  few : Few κ g.extras

module _ (rooms : Rooms) {κ : ℕ} (used : ℕ) where
  with-main : {g : Given} (r : List ℕ) → Going κ g → get_or r 0 0 ≡ get_or g.main 0 0 → Going κ (with_main g r)
  with-main r w h = record { main = h ∙ w.main; extras = w.extras; few = w.few }

  text-read : {g : Given} (p : Place) (o k : ℕ) (s : List ℕ) → 2 ≤ o → Going κ g → Holds (Going κ) (read_text rooms p o k s g)
  unfolding read_text
  text-read {g} p o k s h w =
      bind (answered p (checked_of s)) λ x e.
      needed (fits rooms.text (length g.texts + length (value_text s))) p cause.TextFull λ f.
      accept (record { main = text-kind o k (length g.texts) (length (value_text s)) h g.main ∙ w.main; extras = w.extras; few = w.few })

  old-extra : {g : Given} (p : Place) (v : List ℕ) (i : ℕ) → Wide κ → Going κ g → Holds (Going κ) (old_extra rooms p v i g)
  unfolding old_extra
  old-extra {g} p v i wide w =
      let f : List ℕ → List ℕ = put_pair 4 (length g.texts) (length v) in
      needed (fits rooms.text (length g.texts + length v)) p cause.TextFull λ e.
      accept (record {
        main = w.main;
        extras = each-changed i f (λ r h. pair-other 4 (length g.texts) (length v) r 0 (omega arith) (omega arith) ∙ h) w.extras;
        few = extras-of wide;
      })

  new-extra : {g : Given} (p : Place) (key v : List ℕ) → Wide κ → Going κ g → Holds (Going κ) (new_extra rooms p used κ key v g)
  unfolding new_extra
  new-extra {g} p key v wide w =
      let keyed : List ℕ = g.texts ++ key in
      let r : List ℕ = put_text 2 0 (length g.texts) (length key) (blank (extra_kind κ)) in
      needed (fits rooms.records (used + 1 + length g.extras + 1)) p cause.RecordsSpent λ e.
      needed (fits rooms.text (length g.texts + length key)) p cause.TextFull λ a.
      needed (fits rooms.text (length keyed + length v)) p cause.TextFull λ b.
      accept (record {
        main = w.main;
        extras = each_append w.extras (more (text-kind 4 1 (length keyed) (length v) (lit≤ tt) r ∙ text-kind 2 0 (length g.texts) (length key) (lit≤ tt) (blank (extra_kind κ))) done);
        few = extras-of wide;
      })

  extra-read : {g : Given} (p : Place) (x : Attribute) → Wide κ → Going κ g → Holds (Going κ) (read_extra rooms p used κ x g)
  unfolding read_extra
  extra-read {g} p x wide w =
      bind (answered p (checked_of x.key)) λ a e.
      bind (answered p (checked_of x.value)) λ b f.
      either (leb (length g.extras) (place_of g.texts (value_text x.key) g.extras))
      (λ q. new-extra p (value_text x.key) (value_text x.value) wide w)
      (λ q. old-extra p (value_text x.value) (place_of g.texts (value_text x.key) g.extras) wide w)

  by-role : {S : Sorts} {role : Role} (p : Place) (key : ℕ) (x : Attribute) {g : Given} → Suits S κ role → Going κ g → Holds (Going κ) (by_role rooms p used κ key role x g)
  unfolding by_role
  by-role p key x (as_first q) w = text-read (within p key) 2 0 x.value (lit≤ tt) w
  by-role p key x (as-value q) w = text-read (within p key) 4 1 x.value (lit≤ tt) w
  by-role p key x (as-second q) w = text-read (within p key) 18 5 x.value (lit≤ tt) w
  by-role p key x {g} (as-tests q) w = bind (answered (within p key) (integer_of x.value)) λ n e. accept (with-main _ w (count-kind 18 n (lit≤ tt) g.main))
  by-role p key x {g} (as-failures q) w = bind (answered (within p key) (integer_of x.value)) λ n e. accept (with-main _ w (count-kind 20 n (lit≤ tt) g.main))
  by-role p key x {g} (as-errors q) w = bind (answered (within p key) (integer_of x.value)) λ n e. accept (with-main _ w (count-kind 22 n (lit≤ tt) g.main))
  by-role p key x {g} (as-skipped q) w = bind (answered (within p key) (integer_of x.value)) λ n e. accept (with-main _ w (count-kind 24 n (lit≤ tt) g.main))
  by-role p key x {g} (as-disabled q) w = bind (answered (within p key) (integer_of x.value)) λ n e. accept (with-main _ w (number-kind 26 8 n (lit≤ tt) g.main))
  by-role p key x (as-host q) w = text-read (within p key) 28 10 x.value (lit≤ tt) w
  by-role p key x {g} (as-assertions q) w = bind (answered (within p key) (integer_of x.value)) λ n e. accept (with-main _ w (number-kind 20 6 n (lit≤ tt) g.main))
  by-role p key x {g} (as-uuid q) w = bind (answered (within p key) (uuid_of x.value)) λ u e. accept (with-main _ w (uuid-kind u g.main))
  by-role p key x {g} (as-moment {kept = k} q) w =
      bind (answered (within p key) (timestamp_of x.value)) λ m e. accept (with-main _ w (keep-kind k (put_moment m g.main) g.main (moment-kind m g.main)))
  by-role p key x {g} (as-time {kept = k} q) w =
      bind (answered (within p key) (time_of x.value)) λ t e. accept (with-main _ w (keep-kind k (put_time t g.main) g.main (time-kind t g.main)))
  by-role p key x (as-extra wide) w = extra-read p x wide w
  by-role p key x as_ignored w = accept w

  attributes-read : {S : Sorts} → ((key : ℕ) → Suits S κ (role_of κ key)) → (p : Place) (before : List (List ℕ)) (j : ℕ) (xs : List Attribute) {g : Given}
      → Going κ g → Holds (Going κ) (read_attributes rooms p used κ before j xs g)
  unfolding read_attributes
  attributes-read roles p before j [] w = accept w
  attributes-read roles p before j (x ∷ xs) w =
      bind (needed x.good (numbered p j) cause.FaultyAttribute λ _.
      needed (not (among x.key before)) (numbered p j) cause.RepeatedKey (λ e. by-role (numbered p j) (key_of x.key) x (roles (key_of x.key)) w)) λ h v.
      attributes-read roles p (before ++ (x.key ∷ [])) (j + 1) xs v

-- ---- the element
pub record NewKinds (κ : ℕ) (before : List (List ℕ)) (g : Grown) : Type 0 where
  pub main : List ℕ
  pub extras : List (List ℕ)
  pub whole : g.records ≡ before ++ (main ∷ extras)
  pub main-kind : get_or main 0 0 ≡ κ
  pub each : Each (λ r. get_or r 0 0 ≡ extra_kind κ) extras
  pub few : Few κ extras

of_class : (rooms : Rooms) {κ : ℕ} {S T : Sorts} (p : Place) (j : ℕ) (xs : List Attribute) (before : List (List ℕ)) (texts : List ℕ)
    → Class κ S T → Holds (NewKinds κ before) (read_element rooms p κ j xs before texts)
unfolding read_element complete
of_class rooms {κ} p j xs before texts class =
    bind
    (needed (fits rooms.records (length before + 1)) p cause.RecordsSpent λ e.
    attributes-read rooms {κ = κ} (length before) (class_roles class) p [] j xs (record { main = refl; extras = done; few = no-extras }))
    λ g w.
    bind {Q = Going κ}
    (needed (not (leb 2 κ && leb κ 5) || has_bit 0 g.main) (within p 1) cause.MissingAttribute λ a.
    needed (not (leb 4 κ && leb κ 5) || has_bit 1 g.main) (within p 14) cause.MissingAttribute λ b. accept w)
    λ h v.
    accept (record { main = h.main; extras = h.extras; whole = refl; main-kind = v.main; each = v.extras; few = v.few })

pub element-kinds : (rooms : Rooms) (κ : ℕ) (p : Place) (j : ℕ) (xs : List Attribute) (before : List (List ℕ)) (texts : List ℕ)
    → 1 ≤ κ → κ ≤ 12 → Holds (NewKinds κ before) (read_element rooms p κ j xs before texts)
element-kinds rooms zero p j xs before texts l h = absurd (omega arith)
element-kinds rooms (suc zero) p j xs before texts l h = of_class rooms p j xs before texts report
element-kinds rooms (suc (suc zero)) p j xs before texts l h = of_class rooms p j xs before texts suite
element-kinds rooms (suc (suc (suc zero))) p j xs before texts l h = of_class rooms p j xs before texts case
element-kinds rooms (suc (suc (suc (suc zero)))) p j xs before texts l h = of_class rooms p j xs before texts suite_property
element-kinds rooms (suc (suc (suc (suc (suc zero))))) p j xs before texts l h = of_class rooms p j xs before texts case_property
element-kinds rooms (suc (suc (suc (suc (suc (suc zero)))))) p j xs before texts l h = of_class rooms p j xs before texts failure
element-kinds rooms (suc (suc (suc (suc (suc (suc (suc zero))))))) p j xs before texts l h = of_class rooms p j xs before texts error
element-kinds rooms (suc (suc (suc (suc (suc (suc (suc (suc zero)))))))) p j xs before texts l h = of_class rooms p j xs before texts skipped
element-kinds rooms (suc (suc (suc (suc (suc (suc (suc (suc (suc zero))))))))) p j xs before texts l h = of_class rooms p j xs before texts flaky_failure
element-kinds rooms (suc (suc (suc (suc (suc (suc (suc (suc (suc (suc zero)))))))))) p j xs before texts l h = of_class rooms p j xs before texts flaky_error
element-kinds rooms (suc (suc (suc (suc (suc (suc (suc (suc (suc (suc (suc zero))))))))))) p j xs before texts l h = of_class rooms p j xs before texts rerun_failure
element-kinds rooms (suc (suc (suc (suc (suc (suc (suc (suc (suc (suc (suc (suc zero)))))))))))) p j xs before texts l h = of_class rooms p j xs before texts rerun_error
element-kinds rooms (suc (suc (suc (suc (suc (suc (suc (suc (suc (suc (suc (suc (suc κ))))))))))))) p j xs before texts l h = absurd (omega arith)
