-- Records laid out as words, and read as a table again. Assumes nothing.
use Prim.Native.Nat.{ℕ, zero, suc, ◌+◌, ◌-◌, ◌*◌, ◌/◌, ◌%◌, ◌≤◌}
use mathlib.Core.Path.{◌≡◌, refl, sym, ap, ◌∙◌}
use mathlib.Core.List.{List, [], ◌∷◌, ◌++◌, map}
use mathlib.Core.Bool.{Bool, true, cond, ◌&&◌, ◌||◌, and-eq-true_iff}
use mathlib.Core.Logic.{◌⊎◌, inl, inr}
use native.Mathlib.Omega.{arith}
use borrow.Author.Tests.{le-leb, eq-eqb}
use lib.Dec.{leb, eqb, eqb-suc-zero}
use lib.ListN.{length, get_or, take, drop, replicate}
use lib.Seq.{take_at, drop_at, drop-drop, drop-nil}
use Rattle.xml_complete.specs.of_refusal.Refusal.{nowhere}
use Rattle.xml_complete.specs.of_area.Limits.{most_entries, most_bytes}
use Rattle.xml_complete.specs.of_table.Event.{Attribute, Event, part, attribute_at, attributes_from, event_of, event_at, resolve_from, resolve}
use Rattle.xml_complete.specs.of_table.Table.{word, count_of, good_attribute, good_shape, bad_from, check_event, and_then, check_from, good_sizes, check_of, Checked}
use Rattle.std.specs.Prelude.{Ok, Err}
use Rattle.xml_complete.proofs.of_table.Words.{word_at}
use Rattle.xml_complete.specs.of_xml_machine.Tokens.{Rec, rec, flat, laid_out}

-- ---- words
pub flat-length : (rs : List Rec) → length (flat rs) ≡ length rs * 5
flat-length [] = refl
flat-length (rec a b c d e ∷ rs) = let z = flat-length rs in omega arith

pub laid-front : (rs : List Rec) (words : ℕ) → take (length rs * 5) (laid_out rs words) ≡ flat rs
unfolding laid_out
laid-front rs words = take_at (flat rs) (replicate (words - length rs * 5) 0) (length rs * 5) (flat-length rs)

pub laid-behind : (rs : List Rec) (words : ℕ) → drop (length rs * 5) (laid_out rs words) ≡ replicate (words - length rs * 5) 0
unfolding laid_out
laid-behind rs words = drop_at (flat rs) (replicate (words - length rs * 5) 0) (length rs * 5) (flat-length rs)

pub flat-count : (rs : List Rec) → count_of (flat rs) ≡ length rs
flat-count rs = omega (arith, flat-length rs)

-- the words of the records behind the first n
flat-drop : (n : ℕ) (rs : List Rec) → drop (n * 5) (flat rs) ≡ flat (drop n rs)
flat-drop zero rs = refl
flat-drop (suc n) [] = drop-nil (suc n * 5)
flat-drop (suc n) (rec a b c d e ∷ rs) = let z : suc n * 5 ≡ 5 + n * 5 = omega arith in ap (λ (k : ℕ). drop k (flat (rec a b c d e ∷ rs))) z ∙ sym (drop-drop (n * 5) 5 (flat (rec a b c d e ∷ rs))) ∙ flat-drop n rs

past : (words : List ℕ) (n : ℕ) (r : Rec) (rs : List Rec) → drop (n * 5) words ≡ flat (r ∷ rs) → drop ((n + 1) * 5) words ≡ flat rs
past words n (rec a b c d e) rs h = let z : (n + 1) * 5 ≡ n * 5 + 5 = omega arith in ap (λ (k : ℕ). drop k words) z ∙ sym (drop-drop 5 (n * 5) words) ∙ ap (drop 5) h

first_word : (words : List ℕ) (n : ℕ) (rs : List Rec) → drop (n * 5) words ≡ flat rs → (k : ℕ) → word words n k ≡ get_or (flat rs) k 0
first_word words n rs h k = word_at words n k ∙ ap (λ (w : List ℕ). get_or w k 0) h

-- ---- resolved
abbrev pub attribute_of : List ℕ → Rec → Attribute
attribute_of source (rec m a b c d) = record { good = eqb m 0; key = part source a b; value = part source c d }

abbrev pub event_from : List ℕ → List Rec → Rec → Event
event_from source attributes (rec k from len first count) = event_of k (part source from len) first (map (attribute_of source) (take count (drop first attributes)))

-- ---- good: in a source of `size` bytes, with n attributes
abbrev pub Each : (Rec → Type 0) → List Rec → Type 0
Each P [] = Unit {0}
Each P (r ∷ rs) = P r × Each P rs

abbrev pub AttributeIn : ℕ → Rec → Type 0
AttributeIn size (rec m a b c d) = (m ≤ 1) × (a + b ≤ size) × (c + d ≤ size)

abbrev pub EventIn : ℕ → ℕ → Rec → Type 0
EventIn size n (rec k from len first count) = (k ≤ 9) × (from + len ≤ size) × (first + count ≤ n) × ((count ≡ 0) ⊎ (k ≤ 1))

each-drop : (P : Rec → Type 0) (n : ℕ) (rs : List Rec) → Each P rs → Each P (drop n rs)
each-drop P zero rs h = h
each-drop P (suc n) [] h = tt
each-drop P (suc n) (r ∷ rs) h = each-drop P n rs h.1

pub each_append : (P : Rec → Type 0) (rs ts : List Rec) → Each P rs → Each P ts → Each P (rs ++ ts)
each_append P [] ts h k = k
each_append P (r ∷ rs) ts h k = (h.0, each_append P rs ts h.1 k)

module _ (attributes source : List ℕ) where
  -- ---- attributes
  attribute-at : (j : ℕ) (r : Rec) (rs : List Rec) → drop (j * 5) attributes ≡ flat (r ∷ rs) → attribute_at attributes source j ≡ attribute_of source r
  attribute-at j (rec m a b c d) rs h =
      let w : (k : ℕ) → word attributes j k ≡ get_or (flat (rec m a b c d ∷ rs)) k 0 = first_word attributes j (rec m a b c d ∷ rs) h in
      λ x. record { good = eqb (w 0 x) 0; key = part source (w 1 x) (w 2 x); value = part source (w 3 x) (w 4 x) }

  attributes-resolved : (n j : ℕ) (rs : List Rec) → drop (j * 5) attributes ≡ flat rs → n ≤ length rs → attributes_from attributes source n j ≡ map (attribute_of source) (take n rs)
  unfolding attributes_from
  attributes-resolved zero j rs h l = refl
  attributes-resolved (suc n) j [] h l = absurd (omega arith)
  attributes-resolved (suc n) j (r ∷ rs) h l = λ x. attribute-at j r rs h x ∷ attributes-resolved n (j + 1) rs (past attributes j r rs h) (omega arith) x

  attribute-good : (j : ℕ) (r : Rec) (rs : List Rec) → drop (j * 5) attributes ≡ flat (r ∷ rs) → AttributeIn (length source) r → good_attribute (drop (j * 5) attributes) (length source) ≡ true
  unfolding good_attribute
  attribute-good j (rec m a b c d) rs h g =
      ap (λ (w : List ℕ). good_attribute w (length source)) h
      ∙ (and-eq-true_iff _ _).1 (le-leb m 1 g.0, (and-eq-true_iff _ _).1 (le-leb (a + b) (length source) g.1, le-leb (c + d) (length source) g.2))

  attributes-good : (n j : ℕ) (rs : List Rec) → drop (j * 5) attributes ≡ flat rs → n ≤ length rs → Each (AttributeIn (length source)) rs → bad_from attributes (length source) n j ≡ j + n
  unfolding bad_from
  attributes-good zero j rs h l g = omega arith
  attributes-good (suc n) j [] h l g = absurd (omega arith)
  attributes-good (suc n) j (r ∷ rs) h l g =
      ap (λ (u : Bool). cond u (bad_from attributes (length source) n (j + 1)) j) (attribute-good j r rs h g.0) ∙ attributes-good n (j + 1) rs (past attributes j r rs h) (omega arith) g.1 ∙ omega arith

module _ (events : List ℕ) (attributes : List Rec) (source : List ℕ) where
  rest-long : (first count : ℕ) → first + count ≤ length attributes → count ≤ length (drop first attributes)
  rest-long first count l = let z = lib.ListN.length-drop first attributes in omega arith

  -- ---- events
  event-resolved : (i : ℕ) (r : Rec) (rs : List Rec) → drop (i * 5) events ≡ flat (r ∷ rs) → EventIn (length source) (length attributes) r → event_at events (flat attributes) source i ≡ event_from source attributes r
  unfolding event_at
  event-resolved i (rec k from len first count) rs h g =
      let w : (n : ℕ) → word events i n ≡ get_or (flat (rec k from len first count ∷ rs)) n 0 = first_word events i (rec k from len first count ∷ rs) h in
      (λ x. event_of (w 0 x) (part source (w 1 x) (w 2 x)) (w 3 x) (attributes_from (flat attributes) source (w 4 x) (w 3 x)))
      ∙ ap (event_of k (part source from len) first) (attributes-resolved (flat attributes) source count first (drop first attributes) (flat-drop first attributes) (rest-long first count g.2))

  events-resolved : (i : ℕ) (rs : List Rec) → drop (i * 5) events ≡ flat rs → Each (EventIn (length source) (length attributes)) rs →
      resolve_from events (flat attributes) source (length rs) i ≡ map (event_from source attributes) rs
  unfolding resolve_from
  events-resolved i [] h g = refl
  events-resolved i (r ∷ rs) h g = λ x. event-resolved i r rs h g.0 x ∷ events-resolved (i + 1) rs (past events i r rs h) g.1 x

  ranged : (k first count : ℕ) → first + count ≤ length attributes → (count ≡ 0) ⊎ (k ≤ 1) → (eqb count 0 || (leb k 1 && leb (first + count) (count_of (flat attributes)))) ≡ true
  ranged k first zero l h = refl
  ranged k first (suc n) l (inl z) = absurd (omega arith)
  ranged k first (suc n) l (inr h) =
      ap (λ (u : Bool). u || (leb k 1 && leb (first + suc n) (count_of (flat attributes)))) (eqb-suc-zero n)
      ∙ (and-eq-true_iff _ _).1 (le-leb k 1 h, le-leb (first + suc n) (count_of (flat attributes)) (omega (arith, flat-count attributes)))

  event-shaped : (i : ℕ) (r : Rec) (rs : List Rec) → drop (i * 5) events ≡ flat (r ∷ rs) → EventIn (length source) (length attributes) r → good_shape (drop (i * 5) events) (count_of (flat attributes)) (length source) ≡ true
  unfolding good_shape
  event-shaped i (rec k from len first count) rs h g =
      ap (λ (w : List ℕ). good_shape w (count_of (flat attributes)) (length source)) h
      ∙ (and-eq-true_iff _ _).1 (le-leb k 9 g.0, (and-eq-true_iff _ _).1 (le-leb (from + len) (length source) g.1, ranged k first count g.2 g.3))

  event-good : (i : ℕ) (r : Rec) (rs : List Rec) → drop (i * 5) events ≡ flat (r ∷ rs) → EventIn (length source) (length attributes) r → Each (AttributeIn (length source)) attributes →
      check_event events (flat attributes) (length source) i ≡ Ok tt
  unfolding check_event
  event-good i (rec k from len first count) rs h g o =
      let w : (n : ℕ) → word events i n ≡ get_or (flat (rec k from len first count ∷ rs)) n 0 = first_word events i (rec k from len first count ∷ rs) h in
      let bad : ℕ = bad_from (flat attributes) (length source) (word events i 4) (word events i 3) in
      let all : bad_from (flat attributes) (length source) (word events i 4) (word events i 3) ≡ word events i 3 + word events i 4 =
      (λ x. bad_from (flat attributes) (length source) (w 4 x) (w 3 x))
      ∙ attributes-good (flat attributes) source count first (drop first attributes) (flat-drop first attributes) (rest-long first count g.2) (each-drop (AttributeIn (length source)) first attributes o)
      ∙ sym (λ x. w 3 x + w 4 x) in
      ap (λ (u : Bool). cond {A = Checked} u (cond {A = Checked} (eqb bad (word events i 3 + word events i 4)) (Ok tt) (Err (i, bad))) (Err (i, nowhere))) (event-shaped i (rec k from len first count) rs h g)
      ∙ ap (λ (u : Bool). cond {A = Checked} u (Ok tt) (Err (i, bad))) (eq-eqb bad (word events i 3 + word events i 4) all)

  events-good : (i : ℕ) (rs : List Rec) → drop (i * 5) events ≡ flat rs → Each (EventIn (length source) (length attributes)) rs → Each (AttributeIn (length source)) attributes →
      check_from events (flat attributes) (length source) (length rs) i ≡ Ok tt
  unfolding check_from
  events-good i [] h g o = refl
  events-good i (r ∷ rs) h g o =
      ap (λ (c : Checked). and_then c (check_from events (flat attributes) (length source) (length rs) (i + 1))) (event-good i r rs h g.0 o) ∙ events-good (i + 1) rs (past events i r rs h) g.1 o

module _ (events attributes : List Rec) (source : List ℕ) (g : Each (EventIn (length source) (length attributes)) events) where
  pub flat-resolved : resolve (flat events) (flat attributes) source ≡ map (event_from source attributes) events
  unfolding resolve
  flat-resolved = ap (λ (n : ℕ). resolve_from (flat events) (flat attributes) source n 0) (flat-count events) ∙ events-resolved (flat events) attributes source 0 events refl g

  flat-sized : length events ≤ most_entries → length attributes ≤ most_entries → length source ≤ most_bytes → good_sizes (length (flat events)) (length (flat attributes)) (length source) ≡ true
  unfolding good_sizes
  flat-sized e a l =
      let p = flat-length events in
      let q = flat-length attributes in
      (and-eq-true_iff _ _).1 (
        (and-eq-true_iff _ _).1 (eq-eqb (length (flat events) % 5) 0 (omega arith), eq-eqb (length (flat attributes) % 5) 0 (omega arith)),
        (and-eq-true_iff _ _).1 (le-leb (length (flat events) / 5) most_entries (omega arith), (and-eq-true_iff _ _).1 (le-leb (length (flat attributes) / 5) most_entries (omega arith), le-leb (length source) most_bytes l)),
      )

  pub flat_good : Each (AttributeIn (length source)) attributes → length events ≤ most_entries → length attributes ≤ most_entries → length source ≤ most_bytes → check_of (flat events) (flat attributes) source ≡ Ok tt
  unfolding check_of
  flat_good o e a l =
      ap (λ (b : Bool). cond b (check_from (flat events) (flat attributes) (length source) (count_of (flat events)) 0) (Err (nowhere, nowhere))) (flat-sized e a l)
      ∙ ap (λ (n : ℕ). check_from (flat events) (flat attributes) (length source) n 0) (flat-count events) ∙ events-good (flat events) attributes source 0 events refl g o
