-- What is known of a table that refusal 11 finds good. Assumes nothing.
use Prim.Native.Nat.{ℕ, zero, suc, ◌+◌, ◌*◌, ◌/◌, ◌%◌, ◌≤◌, ◌<◌}
use mathlib.Core.Path.{◌≡◌, refl, sym, ap, ◌∙◌}
use mathlib.Core.List.{List, []}
use mathlib.Core.Bool.{Bool, true, false, cond, ◌&&◌, ◌||◌, and-eq-true_iff}
use mathlib.Core.Logic.{⊎_elim}
use native.Mathlib.Nat.{eq-or-lt_of_le}
use native.Mathlib.Omega.{arith}
use borrow.Author.Tests.{leb-true, eqb-true}
use lib.ListN.{length, get_or, drop}
use lib.Dec.{leb, eqb}
use Rattle.table_parts.specs.of_refusal.Refusal.{nowhere, Refused}
use Rattle.table_parts.specs.Parts.{within}
use Rattle.table.specs.Table.{word, count_of, good_attribute, good_shape, good_sizes, bad_from, check_event, and_then, check_from, check_of, Checked, checked_answer}
use Rattle.std.specs.Prelude.{Ok, Err}
use Rattle.table.proofs.Words.{word_at}
use Rattle.table.proofs.Scanning.{bad-none}
use Rattle.table_parts.specs.of_refusal.declared.Cause.TheVariants as cause

-- whole entries, within the limits (rules T7 and T8), for so many words and bytes
pub record ValidSizes (events attributes size : ℕ) : Type 0 where
  pub event-words : events % 5 ≡ 0
  pub attribute-words : attributes % 5 ≡ 0
  pub event-limit : events / 5 ≤ 65536
  pub attribute-limit : attributes / 5 ≤ 65536
  pub source-limit : size ≤ 16777216

-- kind, byte range, attribute range (rules T9 to T11), of the entry at the front of `words`, where there are n attributes
pub record ValidShape (words : List ℕ) (n size : ℕ) : Type 0 where
  pub kind : get_or words 0 0 ≤ 9
  pub bytes : get_or words 1 0 + get_or words 2 0 ≤ size
  pub tag : 0 < get_or words 4 0 → get_or words 0 0 ≤ 1
  pub range : 0 < get_or words 4 0 → get_or words 3 0 + get_or words 4 0 ≤ n

pub record ValidAttribute (attributes : List ℕ) (size j : ℕ) : Type 0 where
  pub mark : word attributes j 0 ≤ 1
  pub key : word attributes j 1 + word attributes j 2 ≤ size
  pub value : word attributes j 3 + word attributes j 4 ≤ size

pub record ValidEvent (events attributes : List ℕ) (size i : ℕ) : Type 0 where
  pub kind : word events i 0 ≤ 9
  pub bytes : word events i 1 + word events i 2 ≤ size
  pub tag : 0 < word events i 4 → word events i 0 ≤ 1
  pub range : 0 < word events i 4 → word events i 3 + word events i 4 ≤ count_of attributes
  pub each : (j : ℕ) → word events i 3 ≤ j → j < word events i 3 + word events i 4 → ValidAttribute attributes size j

pub sizes-valid : (events attributes size : ℕ) → good_sizes events attributes size ≡ true → ValidSizes events attributes size
unfolding good_sizes
sizes-valid events attributes size e =
    let p = (and-eq-true_iff (eqb (events % 5) 0 && eqb (attributes % 5) 0) (leb (events / 5) 65536 && (leb (attributes / 5) 65536 && leb size 16777216))).0 e in
    let q = (and-eq-true_iff (eqb (events % 5) 0) (eqb (attributes % 5) 0)).0 p.0 in
    let r = (and-eq-true_iff (leb (events / 5) 65536) (leb (attributes / 5) 65536 && leb size 16777216)).0 p.1 in
    let t = (and-eq-true_iff (leb (attributes / 5) 65536) (leb size 16777216)).0 r.1 in
    record {
      event-words = eqb-true (events % 5) 0 q.0;
      attribute-words = eqb-true (attributes % 5) 0 q.1;
      event-limit = leb-true (events / 5) 65536 r.0;
      attribute-limit = leb-true (attributes / 5) 65536 t.0;
      source-limit = leb-true size 16777216 t.1;
    }

-- attributes, where there are any
some-attributes : (count : ℕ) (b : Bool) → (eqb count 0 || b) ≡ true → 0 < count → b ≡ true
some-attributes count b e h = go (eqb count 0) refl e
  where
    go : (t : Bool) → eqb count 0 ≡ t → (t || b) ≡ true → b ≡ true
    go true q p = let z = eqb-true count 0 q in absurd (omega arith)
    go false q p = p

pub shape-valid : (words : List ℕ) (n size : ℕ) → good_shape words n size ≡ true → ValidShape words n size
unfolding good_shape
shape-valid words n size e =
    let tagged : Bool = leb (get_or words 0 0) 1 && within n (get_or words 3 0) (get_or words 4 0) in
    let p = (and-eq-true_iff (leb (get_or words 0 0) 9) (within size (get_or words 1 0) (get_or words 2 0) && (eqb (get_or words 4 0) 0 || tagged))).0 e in
    let q = (and-eq-true_iff (within size (get_or words 1 0) (get_or words 2 0)) (eqb (get_or words 4 0) 0 || tagged)).0 p.1 in
    let r : 0 < get_or words 4 0 → (leb (get_or words 0 0) 1 ≡ true) × (within n (get_or words 3 0) (get_or words 4 0) ≡ true) =
    λ h. (and-eq-true_iff (leb (get_or words 0 0) 1) (within n (get_or words 3 0) (get_or words 4 0))).0 (some-attributes (get_or words 4 0) tagged q.1 h) in
    record {
      kind = leb-true (get_or words 0 0) 9 p.0;
      bytes = leb-true (get_or words 1 0 + get_or words 2 0) size q.0;
      tag = λ h. leb-true (get_or words 0 0) 1 (r h).0;
      range = λ h. leb-true (get_or words 3 0 + get_or words 4 0) n (r h).1;
    }

-- where there are attributes, their end
pub shape-room : (words : List ℕ) (n size first count : ℕ) → good_shape words n size ≡ true → first ≡ get_or words 3 0 → count ≡ get_or words 4 0 → (count ≡ 0 → ⊥) → first + count ≤ n
shape-room words n size first count e p q h = let r = (shape-valid words n size e).range (omega arith) in omega arith

attribute-valid : (attributes : List ℕ) (size j : ℕ) → good_attribute (drop (j * 5) attributes) size ≡ true → ValidAttribute attributes size j
unfolding good_attribute
attribute-valid attributes size j e =
    let w : List ℕ = drop (j * 5) attributes in
    let p = (and-eq-true_iff (leb (get_or w 0 0) 1) (within size (get_or w 1 0) (get_or w 2 0) && within size (get_or w 3 0) (get_or w 4 0))).0 e in
    let q = (and-eq-true_iff (within size (get_or w 1 0) (get_or w 2 0)) (within size (get_or w 3 0) (get_or w 4 0))).0 p.1 in
    record {
      mark = omega (arith, word_at attributes j 0, leb-true (get_or w 0 0) 1 p.0);
      key = omega (arith, word_at attributes j 1, word_at attributes j 2, leb-true (get_or w 1 0 + get_or w 2 0) size q.0);
      value = omega (arith, word_at attributes j 3, word_at attributes j 4, leb-true (get_or w 3 0 + get_or w 4 0) size q.1);
    }

module _ (events attributes : List ℕ) (size i : ℕ) where
  event-good : check_event events attributes size i ≡ Ok tt
      → (good_shape (drop (i * 5) events) (count_of attributes) size ≡ true) × (bad_from attributes size (word events i 4) (word events i 3) ≡ word events i 3 + word events i 4)
  unfolding check_event
  event-good e = go (good_shape (drop (i * 5) events) (count_of attributes) size) refl (eqb (bad_from attributes size (word events i 4) (word events i 3)) (word events i 3 + word events i 4)) refl e
    where
      go : (s : Bool) → good_shape (drop (i * 5) events) (count_of attributes) size ≡ s → (b : Bool) → eqb (bad_from attributes size (word events i 4) (word events i 3))
          (word events i 3 + word events i 4) ≡ b → cond {A = Checked} s (cond {A = Checked} b (Ok tt) (Err (i, bad_from attributes size (word events i 4) (word events i 3)))) (Err (i, nowhere)) ≡ Ok tt
          → (good_shape (drop (i * 5) events) (count_of attributes) size ≡ true) × (bad_from attributes size (word events i 4) (word events i 3) ≡ word events i 3 + word events i 4)
      go true p true q r = (p, eqb-true (bad_from attributes size (word events i 4) (word events i 3)) (word events i 3 + word events i 4) q)
      go true p false q r = let z : ◌≡◌ {A = ℕ} 0 1 = cc in absurd (omega arith)
      go false p b q r = let z : ◌≡◌ {A = ℕ} 0 1 = cc in absurd (omega arith)

  event-valid : check_event events attributes size i ≡ Ok tt → ValidEvent events attributes size i
  event-valid e =
      let g = event-good e in
      let w : List ℕ = drop (i * 5) events in
      let v : ValidShape (drop (i * 5) events) (count_of attributes) size = shape-valid (drop (i * 5) events) (count_of attributes) size g.0 in
      let some : 0 < word events i 4 → 0 < get_or (drop (i * 5) events) 4 0 = λ h. omega (arith, word_at events i 4) in
      record {
        kind = omega (arith, word_at events i 0, v.kind);
        bytes = omega (arith, word_at events i 1, word_at events i 2, v.bytes);
        tag = λ h. omega (arith, word_at events i 0, v.tag (some h));
        range = λ h. omega (arith, word_at events i 3, word_at events i 4, v.range (some h));
        each = λ j l h. attribute-valid attributes size j (bad-none attributes size (word events i 4) (word events i 3) j g.1 l h);
      }

both-good : (c d : Checked) → and_then c d ≡ Ok tt → (c ≡ Ok tt) × (d ≡ Ok tt)
both-good (Ok u) d e = (refl, e)
both-good (Err (a, b)) d e = let z : ◌≡◌ {A = ℕ} 0 1 = cc in absurd (omega arith)

module _ (events attributes : List ℕ) (size : ℕ) where
  from-good : (n i k : ℕ) → check_from events attributes size n i ≡ Ok tt → i ≤ k → k < i + n → check_event events attributes size k ≡ Ok tt
  unfolding check_from
  from-good zero i k e l h = absurd (omega arith)
  from-good (suc n) i k e l h =
      let p = both-good (check_event events attributes size i) (check_from events attributes size n (i + 1)) e in
      ⊎_elim (λ z. ap (check_event events attributes size) (sym z) ∙ p.0) (λ z. from-good n (i + 1) k p.1 (omega arith) (omega arith)) (eq-or-lt_of_le l)

module _ (events attributes source : List ℕ) where
  of-good : check_of events attributes source ≡ Ok tt → (good_sizes (length events) (length attributes) (length source) ≡ true) × (check_from events attributes (length source) (count_of events) 0 ≡ Ok tt)
  unfolding check_of
  of-good e = go (good_sizes (length events) (length attributes) (length source)) refl e
    where
      go : (b : Bool) → good_sizes (length events) (length attributes) (length source) ≡ b → cond b (check_from events attributes (length source) (count_of events) 0) (Err (nowhere, nowhere)) ≡ Ok tt
          → (good_sizes (length events) (length attributes) (length source) ≡ true) × (check_from events attributes (length source) (count_of events) 0 ≡ Ok tt)
      go true p q = (p, q)
      go false p q = let z : ◌≡◌ {A = ℕ} 0 1 = cc in absurd (omega arith)

  -- a table that passed refusal 11 has sizes in range
  pub good-sizes : check_of events attributes source ≡ Ok tt → ValidSizes (length events) (length attributes) (length source)
  good-sizes e = sizes-valid (length events) (length attributes) (length source) (of-good e).0

  -- each event of a table that passed refusal 11 is valid: its bytes and attributes lie in the table
  pub good-event : check_of events attributes source ≡ Ok tt → (i : ℕ) → i < count_of events → ValidEvent events attributes (length source) i
  good-event e i h = event-valid events attributes (length source) i (from-good events attributes (length source) (count_of events) 0 i (of-good e).1 (omega arith) (omega arith))

-- a check is told by its values
pub same_check : (c d : Checked) → checked_answer c ≡ checked_answer d → c ≡ d
same_check (Ok a) (Ok b) e = refl
same_check (Ok u) (Err (a, b)) e = let z : ◌≡◌ {A = ℕ} 0 1 = cc in absurd (omega arith)
same_check (Err (a, b)) (Ok u) e = let z : ◌≡◌ {A = ℕ} 0 1 = cc in absurd (omega arith)
same_check (Err (a, b)) (Err (x, y)) e =
    let q : ◌≡◌ {A = Refused} (record { cause = cause.BadTable; path = []; event = a; attribute = b }) (record { cause = cause.BadTable; path = []; event = x; attribute = y }) = cc in
    let p : a ≡ x = ap (λ (r : Refused). r.event) q in
    let r : b ≡ y = ap (λ (r : Refused). r.attribute) q in
    cc
