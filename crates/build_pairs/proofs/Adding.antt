-- A property or extra added: both texts, and the key's record, an old one or a new one. Assumes nothing.
use Prim.Native.Nat.{ℕ, ◌+◌, ◌-◌, ◌≤◌, ◌<◌}
use mathlib.Core.Path.{◌≡◌, refl, sym, ap, ◌∙◌}
use mathlib.Core.Bool.{Bool, true, false, cond, ◌&&◌}
use mathlib.Core.List.{List, ◌++◌}
use native.Mathlib.Omega.{arith}
use lib.Dec.{leb, ltb, eqb}
use lib.ListN.{length, take, drop, length-append, length-drop}
use lib.Seq.{length-take-le, take-add, take_at, drop_at}
use borrow.Author.Tests.{lt-ltb, le-ltb, ltb-true, leb-true}
use Rattle.std.specs.Prelude.{Result, Ok, Err}
use Rattle.list_values.specs.of_text_filter.Filter.{filtered}
use Rattle.list_values.specs.of_refusal.Refusal.{Outcome, accepted, refused}
use Rattle.list_values.specs.of_refusal.declared.Cause.{Cause}
use Rattle.list_values.specs.of_refusal.declared.Cause.TheVariants as cause
use Rattle.list_values.specs.of_tree_record.Words as word
use Rattle.build_kinds.specs.of_tree_put.Put.{put_pair}
use Rattle.build_kinds.specs.of_build_draft.declared.Builder.{Builder}
use Rattle.build_kinds.specs.of_build_draft.Draft.{Draft, draft_of, ◌>>=◌, next, asks, room_for, is_record, kind_at, is_of, on_record_of, last_of, with_words}
use Rattle.build_kinds.specs.of_build_draft.Parts.{put_at, keeping, taking, is_main_kind, place_for, may_stand_behind}
use Rattle.list_values.specs.of_tree_record.Kinds as kind
use Rattle.build_kinds.specs.of_build_draft.Calls.{is_suites, is_held, old_place, put_pair_in, add_pair}
use Rattle.build_text.proofs.Keeping.{with_bytes, Kept, is-kept}
use Rattle.build_kinds.proofs.of_build_draft.Steps.{plain, then-refused, then-done, is-done}
use Rattle.build_pairs.specs.inside.Adding.{putting_kept}

both_true : (t u : Bool) → (t && u) ≡ true → (t ≡ true) × (u ≡ true)
both_true true u h = (refl, h)
both_true false u h = (h, absurd (let z : ◌≡◌ {A = ℕ} 0 1 = ap (λ (b : Bool). cond b 1 0) h in omega arith))

-- ---- where a record lies in the area, the last one does
of-last : (b : Builder) (words : List ℕ) (i k : ℕ) → is_of b words i k ≡ true → is_record b words (last_of b) ≡ true
unfolding is_of is_record
of-last b words i k h =
    let p = both_true (ltb i b.records) (leb b.records (room_for words)) (both_true (is_record b words i) (eqb (kind_at words i) k) h).0 in
    let l = ltb-true i b.records p.0 in
    let m = lt-ltb (last_of b) b.records (omega arith) in
    λ j. m j && p.1 j

pub held-last : (k : ℕ) (b : Builder) (words : List ℕ) → is_held k b words ≡ true → is_record b words (last_of b) ≡ true
held-last k b words h = go (is_suites k) h
  where
    go : (t : Bool) → cond t (is_of b words b.suite kind.suite) (is_of b words b.case kind.case) ≡ true → is_record b words (last_of b) ≡ true
    go true q = of-last b words b.suite kind.suite q
    go false q = of-last b words b.case kind.case q

-- ---- the place lies in the area
module _ (b : Builder) (words : List ℕ) (r : is_record b words (last_of b) ≡ true) where
  used-fits : (last_of b < b.records) × (b.records ≤ room_for words)
  unfolding is_record
  used-fits = let p = both_true (ltb (last_of b) b.records) (leb b.records (room_for words)) r in (ltb-true (last_of b) b.records p.0, leb-true b.records (room_for words) p.1)

  place-used : (t : Bool) → cond t (last_of b) b.records ≤ b.records
  place-used true = omega arith
  place-used false = omega arith

  pub place-within : {place : ℕ} → ((text : List ℕ) → place ≡ place_for (plain b words text)) → place ≤ b.records
  place-within {place} p = let e = p words in let h = place-used (is_main_kind (kind_at words (last_of b))) in omega arith

  pub place-fits : {place : ℕ} → ((text : List ℕ) → place ≡ place_for (plain b words text)) → place ≤ 65536
  place-fits {place} p = let h = place-within p in let u = used-fits.1 in omega arith

-- ---- both texts are stored
module _ (b d : Builder) (words text : List ℕ) (k y : ℕ) {place i : ℕ} (p : (t : List ℕ) → place ≡ place_for (plain b words t))
    (o : (t : List ℕ) → place_for (plain b words t) ≡ place → i ≡ old_place k (take (y - b.bytes) (drop b.bytes text)) text (plain b words t)) where
  old : i ≡ old_place k (take (y - b.bytes) (drop b.bytes text)) text (plain b words text)
  old = o text (sym (p text))

  -- the draft by the code's own test
  chosen : Bool → ℕ → ℕ → Outcome Draft
  chosen t j q = cond t (accepted (with_words (plain d words text) (on_record_of j (put_pair word.value y (d.bytes - y)) words)))
      (next (taking k (plain d words text)) (λ g. accepted (put_pair_in q b.bytes y d.bytes g)))

  chosen_is : (t : Bool) → ltb i place ≡ t → chosen t i place ≡ putting_kept k b y (plain d words text)
  unfolding chosen
  chosen_is t e = (λ n. chosen (sym e n) i place) ∙ (λ n. chosen (ltb (old n) (p text n)) (old n) (p text n))

  pub kept-old : {words₁ : List ℕ} → i < place → words₁ ≡ on_record_of i (put_pair word.value y (d.bytes - y)) words → draft_of (Ok d) words₁ text ≡ putting_kept k b y (plain d words text)
  unfolding draft_of chosen
  kept-old h w = ap (λ (v : List ℕ). accepted (plain d v text)) w ∙ chosen_is true (lt-ltb i place h)

  pub kept_new : {m : Outcome Draft} → place ≤ i → m ≡ next (taking k (plain d words text)) (λ g. accepted (put_pair_in place b.bytes y d.bytes g)) → m ≡ putting_kept k b y (plain d words text)
  unfolding chosen
  kept_new h e = e ∙ chosen_is false (le-ltb i place h)

-- ---- the key stays where it was stored
module _ (x : ℕ) (f t : List ℕ) (h : x + length f ≤ length t) where
  front : length (take x t) ≡ x
  front = length-take-le x t (omega arith)

  put-length : length (put_at x f t) ≡ length t
  put-length =
      length-append (take x t) (f ++ drop (x + length f) t)
      ∙ (let a = front in let b = length-append f (drop (x + length f) t) in let c = length-drop (x + length f) t in omega arith)

  put-there : take (length f) (drop x (put_at x f t)) ≡ f
  put-there = ap (take (length f)) (drop_at (take x t) (f ++ drop (x + length f) t) x front) ∙ take_at f (drop (x + length f) t) (length f) refl

  put_front : take x (put_at x f t) ≡ take x t
  put_front = take_at (take x t) (f ++ drop (x + length f) t) x front

-- a part is told by the list up to its end
part-of-front : (x n : ℕ) (l : List ℕ) → x ≤ length l → take n (drop x l) ≡ drop x (take (x + n) l)
part-of-front x n l h = sym (ap (drop x) (take-add x n l) ∙ drop_at (take x l) (take n (drop x l)) x (length-take-le x l h))

pub put-stays : (x : ℕ) (f g t : List ℕ) → x + length f ≤ length t → x + length f + length g ≤ length t
    → take (length f) (drop x (put_at (x + length f) g (put_at x f t))) ≡ f
put-stays x f g t h k =
    let u : List ℕ = put_at x f t in
    let n : length u ≡ length t = put-length x f t h in
    let j : x + length f + length g ≤ length u = omega arith in
    let v : List ℕ = put_at (x + length f) g u in
    let m : length v ≡ length u = put-length (x + length f) g u j in
    part-of-front x (length f) v (omega arith)
    ∙ ap (drop x) (put_front (x + length f) g u j)
    ∙ sym (part-of-front x (length f) u (omega arith))
    ∙ put-there x f t h

-- ---- the value
module _ (b c : Builder) (words text value : List ℕ) (valued : Result Builder Cause) (text₁ : List ℕ) (vv : (w : List ℕ) → draft_of valued w text₁ ≡ keeping false value (plain c w text))
    {d : Builder} (q : valued ≡ Ok d) where
  pub value-fits : (is_record b words (last_of b) ≡ true) × (c.records ≡ b.records) × (b.bytes ≤ c.bytes)
      → (is_record b words (last_of b) ≡ true) × (d.records ≡ b.records) × (b.bytes ≤ c.bytes) × (c.bytes ≤ d.bytes) × (c.bytes ≤ length text₁)
  value-fits h =
      let v = is-kept false value (plain c words text) (plain d words text₁) (is-done valued words text₁ q (vv words)) in
      let f = v.fits in
      let e : d.bytes ≡ c.bytes + length (filtered value) = ap (λ (x : Draft). x.builder.bytes) v.made in
      let n : length text₁ ≡ length text = ap (λ (x : Draft). length x.text) v.made ∙ put-length c.bytes (filtered value) text (omega arith) in
      (h.0, ap (λ (x : Draft). x.builder.records) v.made ∙ h.1, h.2, omega arith, omega arith)

-- two ways on that agree on what the first part may come to
then_same : (m : Outcome Draft) (f g : Draft → Outcome Draft) → ((d : Draft) → accepted d ≡ m → f d ≡ g d) → (m >>= f) ≡ (m >>= g)
unfolding ◌>>=◌
then_same (accepted d) f g h = h d refl
then_same (refused r) f g h = refl

-- ---- the call
module _ (b : Builder) (words text : List ℕ) (k : ℕ) (key value : List ℕ) {place : ℕ} {t : Bool} (p : (v : List ℕ) → place ≡ place_for (plain b words v))
    (m : t ≡ (is_held k b words && may_stand_behind k (kind_at words (place - 1)))) where
  tested : (is_held k b words && may_stand_behind k (kind_at words (place_for (plain b words text) - 1))) ≡ t
  tested = sym (m ∙ ap (λ (q : ℕ). is_held k b words && may_stand_behind k (kind_at words (q - 1))) (p text))

  pub added-nowhere : t ≡ false → (words' text' : List ℕ) → draft_of (Err cause.NotLayout) words' text' ≡ add_pair k key value (plain b words text)
  unfolding add_pair asks draft_of
  added-nowhere h words' text' = rw (tested ∙ h) refl

  module _ (h : t ≡ true) where
    is_last : is_record b words (last_of b) ≡ true
    is_last = held-last k b words (both_true (is_held k b words) (may_stand_behind k (kind_at words (place_for (plain b words text) - 1))) (tested ∙ h)).0

    -- what follows both texts, s being the key that is looked for
    abbrev rest : List ℕ → Draft → Draft → Outcome Draft
    rest s e f =
        let i : ℕ = old_place k s f.text (plain b words text) in
        cond (ltb i (place_for (plain b words text))) (accepted (with_words f (on_record_of i (put_pair word.value e.builder.bytes (f.builder.bytes - e.builder.bytes)) f.words)))
        (taking k f >>= λ g. accepted (put_pair_in (place_for (plain b words text)) b.bytes e.builder.bytes f.builder.bytes g))

    abbrev behind-key : Draft → Outcome Draft
    behind-key e = keeping false value e >>= rest (filtered key) e

    is-added : (keeping false key (plain b words text) >>= behind-key) ≡ add_pair k key value (plain b words text)
    unfolding add_pair asks
    is-added = rw (tested ∙ h) refl

    module _ (keyed : Result Builder Cause) (t₁ : List ℕ) (kk : (w : List ℕ) → draft_of keyed w t₁ ≡ keeping false key (plain b w text)) where
      pub key-refused : {why : Cause} → keyed ≡ Err why → draft_of keyed words t₁ ≡ add_pair k key value (plain b words text)
      key-refused e = then-refused keyed words t₁ behind-key words t₁ e (kk words) ∙ is-added

      module _ {c : Builder} (g : keyed ≡ Ok c) where
        key-kept : Kept false key (plain b words text) (plain c words t₁)
        key-kept = is-kept false key (plain b words text) (plain c words t₁) (is-done keyed words t₁ g (kk words))

        key-end : c.bytes ≡ b.bytes + length (filtered key)
        key-end = ap (λ (x : Draft). x.builder.bytes) key-kept.made

        key-text : t₁ ≡ put_at b.bytes (filtered key) text
        key-text = ap (λ (x : Draft). x.text) key-kept.made

        key_fits : b.bytes + length (filtered key) ≤ length text
        key_fits = let f = key-kept.fits in omega arith

        pub added-fits : (is_record b words (last_of b) ≡ true) × (c.records ≡ b.records) × (b.bytes ≤ c.bytes)
        added-fits = (is_last, ap (λ (x : Draft). x.builder.records) key-kept.made, (let e = key-end in omega arith))

        -- the key in the text that the value was stored in
        key-stays : c.bytes + length (filtered value) ≤ length t₁ → take (c.bytes - b.bytes) (drop b.bytes (put_at c.bytes (filtered value) t₁)) ≡ filtered key
        key-stays f =
            let e = key-end in
            let r : length t₁ ≡ length text = ap length key-text ∙ put-length b.bytes (filtered key) text key_fits in
            let n : c.bytes - b.bytes ≡ length (filtered key) = omega arith in
            (λ i. take (n i) (drop b.bytes (put_at (e i) (filtered value) (key-text i)))) ∙ put-stays b.bytes (filtered key) (filtered value) text key_fits (omega arith)

        same_key : (f : Draft) → accepted f ≡ keeping false value (plain c words t₁) → putting_kept k b c.bytes f ≡ rest (filtered key) (plain c words t₁) f
        same_key f q =
            let v = is-kept false value (plain c words t₁) f q in
            let w = v.fits in
            let x : Draft = plain (with_bytes (c.bytes + length (filtered value)) c) words (put_at c.bytes (filtered value) t₁) in
            ap (putting_kept k b c.bytes) v.made
            ∙ ap (λ (s : List ℕ). rest s (plain c words t₁) x) (key-stays (omega arith))
            ∙ sym (ap (rest (filtered key) (plain c words t₁)) v.made)

        pub added-done : {o : Outcome Draft} → o ≡ next (keeping false value (plain c words t₁)) (putting_kept k b c.bytes) → o ≡ add_pair k key value (plain b words text)
        added-done e =
            e
            ∙ then_same (keeping false value (plain c words t₁)) (putting_kept k b c.bytes) (rest (filtered key) (plain c words t₁)) same_key
            ∙ then-done keyed words t₁ behind-key g (kk words)
            ∙ is-added
