-- The stored keys of extras stay while attributes are read, and at most one comes behind them. Assumes nothing.
use Prim.Native.Nat.{ℕ, zero, suc, ◌+◌, ◌≤◌}
use mathlib.Core.Path.{◌≡◌, refl, sym, ap, subst, ◌∙◌}
use mathlib.Core.Bool.{Bool, true, false, not, ◌||◌}
use mathlib.Core.List.{List, [], ◌∷◌, ◌++◌, append_assoc, append-nil}
use native.Mathlib.Omega.{arith}
use lib.Dec.{leb}
use lib.ListN.{length, get_or, set, take, drop, length-drop}
use lib.Seq.{get_or-set_other, take-append-le, drop-append-le, take_at, drop_at}
use Rattle.read_free.specs.of_names.Names.{same_bytes}
use Rattle.read_free.specs.of_names.Keys.{key_of}
use Rattle.read_free.specs.of_table.Event.{Attribute, mark_at, key_at, attribute_at, attributes_from}
use Rattle.read_free.specs.of_integer.Integer.{integer_of}
use Rattle.read_free.specs.of_time.Time.{time_of}
use Rattle.read_free.specs.of_timestamp.Timestamp.{timestamp_of}
use Rattle.read_free.specs.of_uuids.Uuid.{uuid_of}
use Rattle.read_free.specs.of_text.Value.{value_text, checked_of}
use Rattle.read_free.specs.of_tree_record.Record.{text_at, marked}
use Rattle.read_free.specs.of_tree_put.Put.{blank, put_pair, put_text}
use Rattle.read_free.specs.of_read_keys.declared.Role.{Role}
use Rattle.read_free.specs.of_read_keys.declared.Role.TheVariants as role
use Rattle.read_free.specs.of_read_keys.Roles.{role_of}
use Rattle.read_free.specs.of_read_element.Outcome.{Place, Rooms, within, fits}
use Rattle.read_free.specs.of_read_element.Attributes.{Given, place_of, changed, extra_kind, read_text, old_extra, new_extra, read_extra, by_role, among, numbered}
use Rattle.read_free.specs.of_read_element.inside.Held.{Keyed, keys_of}
use Rattle.read_free.proofs.of_read_element.TreeOutcome.{Holds, accept, bind, needed, answered, either}
use Rattle.read_each.proofs.Apart.{key_texts, Apart, apart_more, not_found}
use Rattle.read_each.proofs.Stepping.{attribute_step}
use Rattle.read_free.specs.of_refusal.declared.Cause.TheVariants as cause

text-stays : (texts z r : List ℕ) → get_or r 2 0 + get_or r 3 0 ≤ length texts → text_at (texts ++ z) r 2 ≡ text_at texts r 2
text-stays texts z r h =
    let d : length (drop (get_or r 2 0) texts) ≡ _ = length-drop (get_or r 2 0) texts in
    ap (take (get_or r 3 0)) (drop-append-le (get_or r 2 0) texts z (omega arith)) ∙ take-append-le (get_or r 3 0) (drop (get_or r 2 0) texts) z (omega arith)

-- texts behind those that there are
keys-grown : (texts z : List ℕ) (rs : List (List ℕ)) → Keyed (length texts) rs → key_texts (texts ++ z) rs ≡ key_texts texts rs
keys-grown texts z [] k = refl
keys-grown texts z (r ∷ rs) k =
    ap (λ (l : List ℕ). l ∷ key_texts (texts ++ z) rs) (text-stays texts z r k.1.0) ∙ ap (λ (l : List (List ℕ)). text_at texts r 2 ∷ l) (keys-grown texts z rs k.1.1)

keys-more : (texts : List ℕ) (rs : List (List ℕ)) (r : List ℕ) → key_texts texts (rs ++ (r ∷ [])) ≡ key_texts texts rs ++ (text_at texts r 2 ∷ [])
keys-more texts [] r = refl
keys-more texts (x ∷ rs) r = ap (λ (l : List (List ℕ)). text_at texts x 2 ∷ l) (keys-more texts rs r)

-- an extra's value is another
pair-stays : (texts r : List ℕ) (a b : ℕ) → text_at texts (put_pair 4 a b r) 2 ≡ text_at texts r 2
pair-stays texts r a b =
    let other : (i : ℕ) → i ≤ 3 → get_or (put_pair 4 a b r) i 0 ≡ get_or r i 0 = λ i h. get_or-set_other (set r 4 a) 5 i b 0 (λ e. omega arith) ∙ get_or-set_other r 4 i a 0 (λ e. omega arith) in
    ap (λ (n : ℕ). take n (drop (get_or (put_pair 4 a b r) 2 0) texts)) (other 3 (omega arith)) ∙ ap (λ (n : ℕ). take (get_or r 3 0) (drop n texts)) (other 2 (omega arith))

keys-changed : (texts : List ℕ) (i a b : ℕ) (rs : List (List ℕ)) → key_texts texts (changed i (put_pair 4 a b) rs) ≡ key_texts texts rs
keys-changed texts i a b [] = refl
keys-changed texts zero a b (r ∷ rs) = ap (λ (l : List ℕ). l ∷ key_texts texts rs) (pair-stays texts r a b)
keys-changed texts (suc i) a b (r ∷ rs) = ap (λ (l : List (List ℕ)). text_at texts r 2 ∷ l) (keys-changed texts i a b rs)

-- the stored keys stay behind an attribute with this key, and at most one comes behind them, which is its cleaned key and none of them
pub record Kept (key : List ℕ) (g h : Given) : Type 0 where
  pub more : List (List ℕ)
  pub few : length more ≤ 1
  pub same : key_texts h.texts h.extras ≡ key_texts g.texts g.extras ++ more
  pub from : (k : List ℕ) → same_bytes (value_text key) k ≡ false → among k more ≡ false
  pub apart : Apart (key_texts g.texts g.extras) → Apart (key_texts h.texts h.extras)

none_more : (key : List ℕ) (g h : Given) → key_texts h.texts h.extras ≡ key_texts g.texts g.extras → Kept key g h
none_more key g h e = record { more = []; few = omega arith; same = e ∙ sym (append-nil (key_texts g.texts g.extras)); from = λ k q. refl; apart = λ a. subst Apart (sym e) a }

-- a new extra's record
abbrev new_words : ℕ → ℕ → ℕ → ℕ → ℕ → List ℕ
new_words kind start n start' n' = put_text 4 1 start' n' (put_text 2 0 start n (blank (extra_kind kind)))

-- its key is read back
new-key : (kind : ℕ) (texts key value : List ℕ) → text_at ((texts ++ key) ++ value) (new_words kind (length texts) (length key) (length (texts ++ key)) (length value)) 2 ≡ key
unfolding marked
new-key kind texts key value =
    ap (λ (s : List ℕ). take (length key) (drop (length texts) s)) (append_assoc texts key value)
    ∙ ap (take (length key)) (drop_at texts (key ++ value) (length texts) refl)
    ∙ take_at key value (length key) refl

module _ (rooms : Rooms) (p : Place) (used kind : ℕ) (g : Given) (keyed : Keyed (length g.texts) g.extras) where
  kept-text : (key : List ℕ) (q : Place) (o k : ℕ) (value : List ℕ) → Holds (λ h. Kept key g h) (read_text rooms q o k value g)
  unfolding read_text
  kept-text key q o k value =
      bind (answered q (checked_of value)) λ _ _.
      needed (fits rooms.text (length g.texts + length (value_text value))) q cause.TextFull λ _.
      accept (none_more key g (record { main = put_text o k (length g.texts) (length (value_text value)) g.main; extras = g.extras; texts = g.texts ++ value_text value })
      (keys-grown g.texts (value_text value) g.extras keyed))

  kept-old : (key value : List ℕ) (i : ℕ) → Holds (λ h. Kept key g h) (old_extra rooms p value i g)
  unfolding old_extra
  kept-old key value i =
      needed (fits rooms.text (length g.texts + length value)) p cause.TextFull λ _.
      accept (none_more key g (record { main = g.main; extras = changed i (put_pair 4 (length g.texts) (length value)) g.extras; texts = g.texts ++ value })
      (keys-changed (g.texts ++ value) i (length g.texts) (length value) g.extras ∙ keys-grown g.texts value g.extras keyed))

  kept_new : (raw value : List ℕ) → leb (length g.extras) (place_of g.texts (value_text raw) g.extras) ≡ true → Holds (λ h. Kept raw g h) (new_extra rooms p used kind (value_text raw) value g)
  unfolding new_extra
  kept_new raw value found =
      let key : List ℕ = value_text raw in
      let r : List ℕ = new_words kind (length g.texts) (length key) (length (g.texts ++ key)) (length value) in
      needed (fits rooms.records (used + 1 + length g.extras + 1)) p cause.RecordsSpent λ _.
      needed (fits rooms.text (length g.texts + length key)) p cause.TextFull λ _.
      needed (fits rooms.text (length (g.texts ++ key) + length value)) p cause.TextFull λ _.
      let texts : List ℕ = (g.texts ++ key) ++ value in
      let same : key_texts texts (g.extras ++ (r ∷ [])) ≡ key_texts g.texts g.extras ++ (text_at texts r 2 ∷ []) =
      keys-more texts g.extras r
      ∙ ap (λ (l : List (List ℕ)). l ++ (text_at texts r 2 ∷ []))
      (ap (λ (t : List ℕ). key_texts t g.extras) (append_assoc g.texts key value) ∙ keys-grown g.texts (key ++ value) g.extras keyed) in
      accept (record {
        more = text_at texts r 2 ∷ [];
        few = omega arith;
        same = same;
        from = λ k q. ap (λ (l : List ℕ). same_bytes l k || false) (new-key kind g.texts key value) ∙ ap (λ (t : Bool). t || false) q;
        apart = λ a. subst Apart (sym same) (apart_more (key_texts g.texts g.extras) (text_at texts r 2) a
            (ap (λ (l : List ℕ). among l (key_texts g.texts g.extras)) (new-key kind g.texts key value) ∙ not_found g.texts key g.extras found));
      })

  kept-extra : (x : Attribute) → Holds (λ h. Kept x.key g h) (read_extra rooms p used kind x g)
  unfolding read_extra
  kept-extra x =
      bind (answered p (checked_of x.key)) λ _ _.
      bind (answered p (checked_of x.value)) λ _ _.
      either (leb (length g.extras) (place_of g.texts (value_text x.key) g.extras))
      (λ e. kept_new x.key (value_text x.value) e)
      (λ _. kept-old x.key (value_text x.value) (place_of g.texts (value_text x.key) g.extras))

  same-extras : (key : List ℕ) (h : Given) → h.extras ≡ g.extras → h.texts ≡ g.texts → Kept key g h
  same-extras key h e t = none_more key g h (ap (λ (l : List ℕ). key_texts l h.extras) t ∙ ap (key_texts g.texts) e)

  kept-role : (key : ℕ) (r : Role) (x : Attribute) → Holds (λ h. Kept x.key g h) (by_role rooms p used kind key r x g)
  unfolding by_role
  kept-role key (role.Text o k) x = kept-text x.key (within p key) o k x.value
  kept-role key (role.Count o) x = bind (answered (within p key) (integer_of x.value)) λ n _. accept (same-extras x.key _ refl refl)
  kept-role key (role.Number o k) x = bind (answered (within p key) (integer_of x.value)) λ n _. accept (same-extras x.key _ refl refl)
  kept-role key role.Uuid x = bind (answered (within p key) (uuid_of x.value)) λ n _. accept (same-extras x.key _ refl refl)
  kept-role key (role.Timestamp kept) x = bind (answered (within p key) (timestamp_of x.value)) λ n _. accept (same-extras x.key _ refl refl)
  kept-role key (role.Time kept) x = bind (answered (within p key) (time_of x.value)) λ n _. accept (same-extras x.key _ refl refl)
  kept-role key role.Extra x = kept-extra x
  kept-role key role.Ignored x = accept (same-extras x.key g refl refl)

-- attribute j
pub kept_step : (attributes source : List ℕ) (kind first : ℕ) (rooms : Rooms) (p : Place) (used j : ℕ) (g : Given)
    → Keyed (length g.texts) g.extras → Holds (λ h. Kept (key_at attributes source j) g h) (attribute_step attributes source kind first rooms p used j g)
kept_step attributes source kind first rooms p used j g keyed =
    needed (mark_at attributes j) (numbered p j) cause.FaultyAttribute λ _.
    needed (not (among (key_at attributes source j) (keys_of (attributes_from attributes source _ first)))) (numbered p j) cause.RepeatedKey λ _.
    kept-role rooms (numbered p j) used kind g keyed (key_of (key_at attributes source j)) (role_of kind (key_of (key_at attributes source j))) (attribute_at attributes source j)
