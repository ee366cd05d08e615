-- Words of an event, in the terms of code that is lent the table from the event on, or nothing behind its end. Assumes nothing.
use Prim.Native.Nat.{ℕ, ◌+◌, ◌*◌, ◌-◌, ◌≤◌, ◌<◌}
use mathlib.Core.Path.{◌≡◌, refl, sym, ap, ◌∙◌}
use mathlib.Core.List.{List, []}
use mathlib.Core.Bool.{Bool, true, false, cond}
use borrow.Author.Tests.{le-leb, lt-leb, leb-false, eq-eqb, ne_eqb}
use lib.Dec.{leb, eqb}
use lib.ListN.{length, get_or, take, drop}
use lib.Seq.{drop-length}
use Rattle.names.proofs.of_area.Parts.{rest_part}
use Rattle.table.specs.Table.{word, count_of}
use Rattle.table.specs.Event.{part, kind_at, bytes_at}
use Rattle.table.proofs.Words.{word_at}
use Rattle.table_events.specs.inside.Ranges.{attributes_at, first_at, end_at}

-- the words from event i on
abbrev pub words_at : List ℕ → ℕ → List ℕ
words_at events i = cond (leb (count_of events) i) [] (drop (i * 5) events)

module _ (events : List ℕ) (i : ℕ) where
  pub words-past : count_of events ≤ i → take (length events - length events) (drop (length events) events) ≡ words_at events i
  words-past h = rest_part events (length events) ∙ drop-length events ∙ sym (ap (λ (t : Bool). cond t [] (drop (i * 5) events)) (le-leb (count_of events) i h))

  pub words-in : i < count_of events → take (length events - i * 5) (drop (i * 5) events) ≡ words_at events i
  words-in h = rest_part events (i * 5) ∙ sym (ap (λ (t : Bool). cond t [] (drop (i * 5) events)) (lt-leb (count_of events) i h))

  pub kind-past : count_of events ≤ i → 7 ≡ cond (leb (count_of events) i) 7 (kind_at events i)
  kind-past h = sym (ap (λ (t : Bool). cond t 7 (kind_at events i)) (le-leb (count_of events) i h))

  module _ (ws : List ℕ) (e : ws ≡ words_at events i) where
    pub word-lent : (k : ℕ) → get_or ws k 0 ≡ cond (leb (count_of events) i) 0 (word events i k)
    word-lent k = ap (λ (l : List ℕ). get_or l k 0) e ∙ go (leb (count_of events) i)
      where
        go : (t : Bool) → get_or (cond t [] (drop (i * 5) events)) k 0 ≡ cond t 0 (word events i k)
        go true = refl
        go false = sym (word_at events i k)

    pub kind-in : i < count_of events → get_or ws 0 0 ≡ cond (leb (count_of events) i) 7 (kind_at events i)
    kind-in h = let f = lt-leb (count_of events) i h in word-lent 0 ∙ ap (λ (t : Bool). cond t 0 (kind_at events i)) f ∙ sym (ap (λ (t : Bool). cond t 7 (kind_at events i)) f)

    pub bytes-lent : (source : List ℕ) (a b : ℕ) → a ≡ get_or ws 1 0 → b ≡ get_or ws 2 0 → part source a b ≡ cond (leb (count_of events) i) [] (bytes_at events source i)
    bytes-lent source a b p q =
        ap (λ (n : ℕ). part source n b) (p ∙ word-lent 1) ∙ ap (part source (cond (leb (count_of events) i) 0 (word events i 1))) (q ∙ word-lent 2) ∙ go (leb (count_of events) i)
      where
        go : (t : Bool) → part source (cond t 0 (word events i 1)) (cond t 0 (word events i 2)) ≡ cond t [] (bytes_at events source i)
        go true = refl
        go false = refl

    none : get_or ws 4 0 ≡ 0 → eqb (attributes_at events i) 0 ≡ true
    none h = eq-eqb (attributes_at events i) 0 (sym (word-lent 4) ∙ h)

    pub first-none : get_or ws 4 0 ≡ 0 → 0 ≡ first_at events i
    first-none h = sym (ap (λ (t : Bool). cond t 0 (word events i 3)) (none h))

    pub end_none : get_or ws 4 0 ≡ 0 → 0 ≡ end_at events i
    end_none h = sym (ap (λ (t : Bool). cond t 0 (word events i 3 + word events i 4)) (none h))

    module _ (h : get_or ws 4 0 ≡ 0 → ⊥) where
      some : eqb (attributes_at events i) 0 ≡ false
      some = ne_eqb (attributes_at events i) 0 (λ z. h (word-lent 4 ∙ z))

      -- what the table's end has is 0
      there : (k : ℕ) → get_or ws k 0 ≡ word events i k
      there k = go (leb (count_of events) i) (word-lent 4) (word-lent k)
        where
          go : (t : Bool) → get_or ws 4 0 ≡ cond t 0 (word events i 4) → get_or ws k 0 ≡ cond t 0 (word events i k) → get_or ws k 0 ≡ word events i k
          go true p q = absurd (h p)
          go false p q = q

      pub first_some : get_or ws 3 0 ≡ first_at events i
      first_some = there 3 ∙ sym (ap (λ (t : Bool). cond t 0 (word events i 3)) some)

      pub end-some : (a b : ℕ) → a ≡ get_or ws 3 0 → b ≡ get_or ws 4 0 → a + b ≡ end_at events i
      end-some a b p q =
          ap (λ (n : ℕ). n + b) (p ∙ there 3) ∙ ap (λ (n : ℕ). word events i 3 + n) (q ∙ there 4)
          ∙ sym (ap (λ (t : Bool). cond t 0 (word events i 3 + word events i 4)) some)

-- a kind other than 7 is one within the table
module _ (events : List ℕ) (i k : ℕ) (e : k ≡ cond (leb (count_of events) i) 7 (kind_at events i)) (h : k ≡ 7 → ⊥) where
  before : leb (count_of events) i ≡ false
  before = go (leb (count_of events) i) e
    where
      go : (t : Bool) → k ≡ cond t 7 (kind_at events i) → t ≡ false
      go true q = absurd (h q)
      go false q = refl

  pub kind-within : i < count_of events
  kind-within = leb-false (count_of events) i before

  pub kind-is : kind_at events i ≡ k
  kind-is = sym (e ∙ ap (λ (t : Bool). cond t 7 (kind_at events i)) before)

-- within the table the bytes are those of the event
pub bytes-in : (events source : List ℕ) (i : ℕ) → i < count_of events → (s : List ℕ) → s ≡ cond (leb (count_of events) i) [] (bytes_at events source i) → s ≡ bytes_at events source i
bytes-in events source i h s e = e ∙ ap (λ (t : Bool). cond t [] (bytes_at events source i)) (lt-leb (count_of events) i h)
