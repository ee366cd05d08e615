-- The record of an element by its parts, what may be put into it, and that it is good in a layout. Assumes nothing.
use Prim.Native.Nat.{ℕ, ◌+◌, ◌/◌, ◌%◌, ◌≤◌}
use mathlib.Core.Bool.{Bool, true, false, not, ◌&&◌, ◌||◌}
use mathlib.Core.List.{List, [], ◌∷◌, ◌++◌}
use mathlib.Core.Option.{Option, none, some}
use mathlib.Core.Path.{◌≡◌, refl, sym, ap, subst, ◌∙◌}
use native.Mathlib.Omega.{arith}
use borrow.Author.Tests.{eqb-true, eq-eqb, ne_eqb, leb-true, le-leb, ltb-true, lt-ltb}
use lib.Dec.{eqb, leb, ltb, lit≤}
use lib.ListN.{length, get_or, length-append, get_or-append}
use Rattle.integer.specs.of_utf8.Utf8.{utf8, within}
use Rattle.integer.specs.of_utf8.Characters.{boundary}
use Rattle.integer.proofs.of_utf8.Boundaries.{boundary-append, boundary-in}
use Rattle.tree_put.specs.of_timestamp.Timestamp.{in_range}
use Rattle.tree_put.specs.of_timestamp.declared.Moment.{Moment}
use Rattle.tree_put.specs.of_uuids.declared.Words.{Words}
use Rattle.tree_report.specs.inside.Cells.{Cell, absent, valued, constant, is_given, first_word, second_word, is_some, moment_or_zero, time_or_zero, flags_of, fits_moment, fits_time}
use Rattle.tree_report.specs.Report.{Duration}
use Rattle.tree_report.specs.Fields.{kind_of, has_bit}
use Rattle.tree_report.proofs.EncodeLists.{both, and_left, and_right}
use Rattle.tree_report.proofs.EncodeCells.{bit-flag}
use Rattle.tree_put.specs.of_tree_record.Record.{marked}
use Rattle.tree_put.specs.Put.{put_text, put_count_of, put_uuid, put_moment, put_time}
use Rattle.read_element.proofs.TreeBits.{marked-flags}

-- ---- a text that stands within the texts
abbrev pub good_at : List ℕ → ℕ → ℕ → Bool
good_at texts a n = leb (a + n) (length texts) && (boundary texts a && boundary texts (a + n))

-- texts that grew by whole characters
pub record Grows (s t : List ℕ) : Type 0 where
  pub more : List ℕ
  pub whole : t ≡ s ++ more
  pub sound : utf8 more ≡ true

boundary-more : (s v : List ℕ) (i : ℕ) → utf8 v ≡ true → boundary s i ≡ true → boundary (s ++ v) i ≡ true
boundary-more s v i u e = go (eqb i (length s)) refl
  where
    go : (t : Bool) → eqb i (length s) ≡ t → boundary (s ++ v) i ≡ true
    go true q = ap (boundary (s ++ v)) (eqb-true i (length s) q) ∙ boundary-append s v u
    go false q =
        let n : length (s ++ v) ≡ length s + length v = length-append s v in
        let h = boundary-in s i e in
        let f : (ltb i (length s) && not (within 0x80 0xBF (get_or s i 0))) ≡ true = sym (ap (λ (t : Bool). t || (ltb i (length s) && not (within 0x80 0xBF (get_or s i 0)))) q) ∙ e in
        let l = ltb-true i (length s) (and_left (ltb i (length s)) (not (within 0x80 0xBF (get_or s i 0))) f) in
        let w = and_right (ltb i (length s)) (not (within 0x80 0xBF (get_or s i 0))) f in
        rw (ne_eqb i (length (s ++ v)) (λ z. omega arith), lt-ltb i (length (s ++ v)) (omega arith), get_or-append s v 0 i (omega arith)) w

pub good_more : {s t : List ℕ} (a n : ℕ) → Grows s t → good_at s a n ≡ true → good_at t a n ≡ true
good_more {s} a n g e =
    let v : List ℕ = g.more in
    let p = and_left (leb (a + n) (length s)) (boundary s a && boundary s (a + n)) e in
    let q = and_right (leb (a + n) (length s)) (boundary s a && boundary s (a + n)) e in
    let l : length (s ++ v) ≡ length s + length v = length-append s v in
    let h = leb-true (a + n) (length s) p in
    ap (λ (t : List ℕ). good_at t a n) g.whole
    ∙ both (le-leb (a + n) (length (s ++ v)) (omega arith))
    (both (boundary-more s v a g.sound (and_left (boundary s a) (boundary s (a + n)) q)) (boundary-more s v (a + n) g.sound (and_right (boundary s a) (boundary s (a + n)) q)))

-- the text just stored
pub good_new : (s v : List ℕ) → utf8 v ≡ true → good_at (s ++ v) (length s) (length v) ≡ true
good_new s v u =
    let l : length (s ++ v) ≡ length s + length v = length-append s v in
    both (le-leb (length s + length v) (length (s ++ v)) (omega arith))
    (both (boundary-append s v u) (rw (eq-eqb (length s + length v) (length (s ++ v)) (sym l)) refl))

-- ---- what may stand in two words: a text that may be missing, one that may not, a number that may be missing, a count, zeros
pub data Sort : Type 0 where
  text name number count nothing : Sort

pub data Fits (texts : List ℕ) : Sort → Cell → Type 0 where
  textless : Fits texts text absent
  placed : {a n : ℕ} → good_at texts a n ≡ true → Fits texts text (valued a n)
  named : {a n : ℕ} → good_at texts a n ≡ true → Fits texts name (valued a n)
  numberless : Fits texts number absent
  numbered : {a b : ℕ} → Fits texts number (valued a b)
  counted : {a b : ℕ} → Fits texts count (constant a b)
  empty : Fits texts nothing absent

-- the words from 4 to 7: two outputs, a UUID, a value that may be missing, one that may not, zeros
pub data Middle : Type 0 where
  outputs uuid value pair hidden : Middle

pub data InMiddle (texts : List ℕ) : Middle → Cell → Cell → Type 0 where
  two : {b c : Cell} → Fits texts text b → Fits texts text c → InMiddle texts outputs b c
  idless : InMiddle texts uuid absent absent
  id : {p q r s : ℕ} → InMiddle texts uuid (valued p q) (constant r s)
  open-value : {b : Cell} → Fits texts text b → InMiddle texts value b absent
  full-value : {a n : ℕ} → good_at texts a n ≡ true → InMiddle texts pair (valued a n) absent
  without : InMiddle texts hidden absent absent

pub data Timed : Bool → Option Moment → Option Duration → Type 0 where
  untimed : Timed false none none
  timed : {m : Option Moment} {d : Option Duration} → fits_moment m ≡ true → fits_time d ≡ true → Timed true m d

pub record Sorts : Type 0 where
  pub first : Sort
  pub middle : Middle
  pub times : Bool
  pub second : Sort
  pub third : Sort
  pub fourth : Sort
  pub fifth : Sort
  pub sixth : Sort
  pub seventh : Sort

-- ---- a record of 32 words
abbrev pub flags : (a b c : Cell) (m : Option Moment) (d : Option Duration) (e f g i j : Cell) → List Bool
flags a b c m d e f g i j = is_given a ∷ is_given b ∷ is_given c ∷ is_some m ∷ is_some d ∷ is_given e ∷ is_given f ∷ is_given g ∷ is_given i ∷ false ∷ is_given j ∷ []

abbrev pub rest : (a b c : Cell) (m : Option Moment) (d : Option Duration) (e f g h i j : Cell) → List ℕ
rest a b c m d e f g h i j =
    first_word 0 a ∷ second_word a ∷ first_word 0 b ∷ second_word b ∷ first_word 0 c ∷ second_word c
    ∷ (moment_or_zero m).year ∷ (moment_or_zero m).month ∷ (moment_or_zero m).day ∷ (moment_or_zero m).hour
    ∷ (moment_or_zero m).minute ∷ (moment_or_zero m).second ∷ (moment_or_zero m).nanos ∷ (moment_or_zero m).offset
    ∷ (time_or_zero d).seconds ∷ (time_or_zero d).nanos
    ∷ first_word 0 e ∷ second_word e ∷ first_word 0 f ∷ second_word f ∷ first_word 0 g ∷ second_word g
    ∷ first_word 0 h ∷ second_word h ∷ first_word 0 i ∷ second_word i ∷ first_word 0 j ∷ second_word j ∷ 0 ∷ 0 ∷ []

pub data Sheet (S : Sorts) (texts : List ℕ) (κ : ℕ) : List ℕ → Type 0 where
  sheet : (a b c : Cell) (m : Option Moment) (d : Option Duration) (e f g h i j : Cell)
      → Fits texts S.first a → InMiddle texts S.middle b c → Timed S.times m d
      → Fits texts S.second e → Fits texts S.third f → Fits texts S.fourth g → Fits texts S.fifth h → Fits texts S.sixth i → Fits texts S.seventh j
      → Sheet S texts κ (κ ∷ flags_of (flags a b c m d e f g i j) ∷ rest a b c m d e f g h i j)

-- a record's kind, from its parts
pub sheet-kind : {S : Sorts} {texts : List ℕ} {κ : ℕ} {r : List ℕ} → Sheet S texts κ r → kind_of r ≡ κ
sheet-kind (sheet a b c m d e f g h i j pa pb pt pe pf pg ph pi pj) = refl

-- a record has 32 words
pub sheet-size : {S : Sorts} {texts : List ℕ} {κ : ℕ} {r : List ℕ} → Sheet S texts κ r → length r ≡ 32
sheet-size (sheet a b c m d e f g h i j pa pb pt pe pf pg ph pi pj) = refl

-- its flaky bit isn't set
pub sheet-plain : {S : Sorts} {texts : List ℕ} {κ : ℕ} {r : List ℕ} → Sheet S texts κ r → has_bit 9 r ≡ false
sheet-plain (sheet a b c m d e f g h i j pa pb pt pe pf pg ph pi pj) = bit-flag 9 (flags a b c m d e f g i j)

-- ---- texts that grow
module _ {s t : List ℕ} (w : Grows s t) where
  fits_more : {x : Sort} {c : Cell} → Fits s x c → Fits t x c
  fits_more textless = textless
  fits_more (placed {a = a} {n = n} p) = placed (good_more a n w p)
  fits_more (named {a = a} {n = n} p) = named (good_more a n w p)
  fits_more numberless = numberless
  fits_more numbered = numbered
  fits_more counted = counted
  fits_more empty = empty

  middle-more : {x : Middle} {b c : Cell} → InMiddle s x b c → InMiddle t x b c
  middle-more (two p q) = two (fits_more p) (fits_more q)
  middle-more idless = idless
  middle-more id = id
  middle-more (open-value p) = open-value (fits_more p)
  middle-more (full-value {a = a} {n = n} p) = full-value (good_more a n w p)
  middle-more without = without

  -- a record stays good when the texts grow
  pub sheet-more : {S : Sorts} {κ : ℕ} {r : List ℕ} → Sheet S s κ r → Sheet S t κ r
  sheet-more (sheet a b c m d e f g h i j pa pb pt pe pf pg ph pi pj) =
      sheet a b c m d e f g h i j (fits_more pa) (middle-more pb) pt (fits_more pe) (fits_more pf) (fits_more pg) (fits_more ph) (fits_more pi) (fits_more pj)

-- ---- what is put into it
into : {texts : List ℕ} {x y : Sort} {c : Cell} → x ≡ y → Fits texts y c → Fits texts x c
into {texts} {c = c} q p = subst (λ (s : Sort). Fits texts s c) (sym q) p

count-hidden : {texts : List ℕ} {x : Sort} {c : Cell} → x ≡ count → Fits texts x c → is_given c ≡ false
count-hidden {texts} {c = c} q p = go (subst (λ (s : Sort). Fits texts s c) q p)
  where
    go : {k : Cell} → Fits texts count k → is_given k ≡ false
    go counted = refl

module _ {texts : List ℕ} {x : Middle} {b c : Cell} where
  middle_hidden : x ≡ uuid → InMiddle texts x b c → is_given c ≡ false
  middle_hidden q p = go (subst (λ (s : Middle). InMiddle texts s b c) q p)
    where
      go : {j k : Cell} → InMiddle texts uuid j k → is_given k ≡ false
      go idless = refl
      go id = refl

  new-out : {a n : ℕ} → x ≡ outputs → good_at texts a n ≡ true → InMiddle texts x b c → InMiddle texts x (valued a n) c
  new-out {a} {n} q h p = subst (λ (s : Middle). InMiddle texts s (valued a n) c) (sym q) (go (subst (λ (s : Middle). InMiddle texts s b c) q p))
    where
      go : {j k : Cell} → InMiddle texts outputs j k → InMiddle texts outputs (valued a n) k
      go (two u v) = two (placed h) v

  new-err : {a n : ℕ} → x ≡ outputs → good_at texts a n ≡ true → InMiddle texts x b c → InMiddle texts x b (valued a n)
  new-err {a} {n} q h p = subst (λ (s : Middle). InMiddle texts s b (valued a n)) (sym q) (go (subst (λ (s : Middle). InMiddle texts s b c) q p))
    where
      go : {j k : Cell} → InMiddle texts outputs j k → InMiddle texts outputs j (valued a n)
      go (two u v) = two u (placed h)

  new-value : {a n : ℕ} → x ≡ value → good_at texts a n ≡ true → InMiddle texts x b c → InMiddle texts x (valued a n) c
  new-value {a} {n} q h p = subst (λ (s : Middle). InMiddle texts s (valued a n) c) (sym q) (go (subst (λ (s : Middle). InMiddle texts s b c) q p))
    where
      go : {j k : Cell} → InMiddle texts value j k → InMiddle texts value (valued a n) k
      go (open-value u) = open-value (placed h)

new-id : {texts : List ℕ} {x : Middle} {j k l m : ℕ} → x ≡ uuid → InMiddle texts x (valued j k) (constant l m)
new-id {texts} {j = j} {k = k} {l = l} {m = m} q = subst (λ (s : Middle). InMiddle texts s (valued j k) (constant l m)) (sym q) id

new-moment : {x : Bool} {m : Option Moment} {d : Option Duration} (t : Moment) → x ≡ true → in_range t ≡ true → Timed x m d → Timed x (some t) d
new-moment {x} {m} {d} t q h p = subst (λ (s : Bool). Timed s (some t) d) (sym q) (go (subst (λ (s : Bool). Timed s m d) q p))
  where
    go : {m : Option Moment} {d : Option Duration} → Timed true m d → Timed true (some t) d
    go (timed u v) = timed h v

new-time : {x : Bool} {m : Option Moment} {d : Option Duration} (t : Duration) → x ≡ true → fits_time (some t) ≡ true → Timed x m d → Timed x m (some t)
new-time {x} {m} {d} t q h p = subst (λ (s : Bool). Timed s m (some t)) (sym q) (go (subst (λ (s : Bool). Timed s m d) q p))
  where
    go : {m : Option Moment} {d : Option Duration} → Timed true m d → Timed true m (some t)
    go (timed u v) = timed u h

module _ {S : Sorts} {texts : List ℕ} {κ : ℕ} where
  pub put_first : {r : List ℕ} (x n : ℕ) → good_at texts x n ≡ true → S.first ≡ text → Sheet S texts κ r → Sheet S texts κ (put_text 2 0 x n r)
  put_first x n h' q (sheet a b c m d e f g h i j pa pb pt pe pf pg ph pi pj) =
      subst (Sheet S texts κ) (sym (marked-flags κ 0 (flags a b c m d e f g i j) (rest (valued x n) b c m d e f g h i j) (lit≤ tt) (lit≤ tt)))
      (sheet (valued x n) b c m d e f g h i j (into q (placed h')) pb pt pe pf pg ph pi pj)

  -- standard output may be put where the kind has outputs
  pub put-out : {r : List ℕ} (x n : ℕ) → good_at texts x n ≡ true → S.middle ≡ outputs → Sheet S texts κ r → Sheet S texts κ (put_text 4 1 x n r)
  put-out x n h' q (sheet a b c m d e f g h i j pa pb pt pe pf pg ph pi pj) =
      subst (Sheet S texts κ) (sym (marked-flags κ 1 (flags a b c m d e f g i j) (rest a (valued x n) c m d e f g h i j) (lit≤ tt) (lit≤ tt)))
      (sheet a (valued x n) c m d e f g h i j pa (new-out q h' pb) pt pe pf pg ph pi pj)

  pub put-value : {r : List ℕ} (x n : ℕ) → good_at texts x n ≡ true → S.middle ≡ value → Sheet S texts κ r → Sheet S texts κ (put_text 4 1 x n r)
  put-value x n h' q (sheet a b c m d e f g h i j pa pb pt pe pf pg ph pi pj) =
      subst (Sheet S texts κ) (sym (marked-flags κ 1 (flags a b c m d e f g i j) (rest a (valued x n) c m d e f g h i j) (lit≤ tt) (lit≤ tt)))
      (sheet a (valued x n) c m d e f g h i j pa (new-value q h' pb) pt pe pf pg ph pi pj)

  -- standard error may be put where the kind has outputs
  pub put-err : {r : List ℕ} (x n : ℕ) → good_at texts x n ≡ true → S.middle ≡ outputs → Sheet S texts κ r → Sheet S texts κ (put_text 6 2 x n r)
  put-err x n h' q (sheet a b c m d e f g h i j pa pb pt pe pf pg ph pi pj) =
      subst (Sheet S texts κ) (sym (marked-flags κ 2 (flags a b c m d e f g i j) (rest a b (valued x n) m d e f g h i j) (lit≤ tt) (lit≤ tt)))
      (sheet a b (valued x n) m d e f g h i j pa (new-err q h' pb) pt pe pf pg ph pi pj)

  pub put_second : {r : List ℕ} (x n : ℕ) → good_at texts x n ≡ true → S.second ≡ text → Sheet S texts κ r → Sheet S texts κ (put_text 18 5 x n r)
  put_second x n h' q (sheet a b c m d e f g h i j pa pb pt pe pf pg ph pi pj) =
      subst (Sheet S texts κ) (sym (marked-flags κ 5 (flags a b c m d e f g i j) (rest a b c m d (valued x n) f g h i j) (lit≤ tt) (lit≤ tt)))
      (sheet a b c m d (valued x n) f g h i j pa pb pt (into q (placed h')) pf pg ph pi pj)

  -- a text may be put at word 20 where the kind has one there: descriptions
  pub put-third : {r : List ℕ} (x n : ℕ) → good_at texts x n ≡ true → S.third ≡ text → Sheet S texts κ r → Sheet S texts κ (put_text 20 6 x n r)
  put-third x n h' q (sheet a b c m d e f g h i j pa pb pt pe pf pg ph pi pj) =
      subst (Sheet S texts κ) (sym (marked-flags κ 6 (flags a b c m d e f g i j) (rest a b c m d e (valued x n) g h i j) (lit≤ tt) (lit≤ tt)))
      (sheet a b c m d e (valued x n) g h i j pa pb pt pe (into q (placed h')) pg ph pi pj)

  -- a text may be put at word 22 where the kind has one there: stack traces
  pub put-fourth : {r : List ℕ} (x n : ℕ) → good_at texts x n ≡ true → S.fourth ≡ text → Sheet S texts κ r → Sheet S texts κ (put_text 22 7 x n r)
  put-fourth x n h' q (sheet a b c m d e f g h i j pa pb pt pe pf pg ph pi pj) =
      subst (Sheet S texts κ) (sym (marked-flags κ 7 (flags a b c m d e f g i j) (rest a b c m d e f (valued x n) h i j) (lit≤ tt) (lit≤ tt)))
      (sheet a b c m d e f (valued x n) h i j pa pb pt pe pf (into q (placed h')) ph pi pj)

  -- a text may be put at word 28 where the kind has one there: a suite's host
  pub put-seventh : {r : List ℕ} (x n : ℕ) → good_at texts x n ≡ true → S.seventh ≡ text → Sheet S texts κ r → Sheet S texts κ (put_text 28 10 x n r)
  put-seventh x n h' q (sheet a b c m d e f g h i j pa pb pt pe pf pg ph pi pj) =
      subst (Sheet S texts κ) (sym (marked-flags κ 10 (flags a b c m d e f g i j) (rest a b c m d e f g h i (valued x n)) (lit≤ tt) (lit≤ tt)))
      (sheet a b c m d e f g h i (valued x n) pa pb pt pe pf pg ph pi (into q (placed h')))

  pub put-assertions : {r : List ℕ} (n : ℕ) → S.third ≡ number → Sheet S texts κ r → Sheet S texts κ (marked 6 (put_count_of 20 n r))
  put-assertions n q (sheet a b c m d e f g h i j pa pb pt pe pf pg ph pi pj) =
      subst (Sheet S texts κ) (sym (marked-flags κ 6 (flags a b c m d e f g i j) (rest a b c m d e (valued (n % 4294967296) (n / 4294967296)) g h i j) (lit≤ tt) (lit≤ tt)))
      (sheet a b c m d e (valued (n % 4294967296) (n / 4294967296)) g h i j pa pb pt pe (into q numbered) pg ph pi pj)

  pub put-disabled : {r : List ℕ} (n : ℕ) → S.sixth ≡ number → Sheet S texts κ r → Sheet S texts κ (marked 8 (put_count_of 26 n r))
  put-disabled n q (sheet a b c m d e f g h i j pa pb pt pe pf pg ph pi pj) =
      subst (Sheet S texts κ) (sym (marked-flags κ 8 (flags a b c m d e f g i j) (rest a b c m d e f g h (valued (n % 4294967296) (n / 4294967296)) j) (lit≤ tt) (lit≤ tt)))
      (sheet a b c m d e f g h (valued (n % 4294967296) (n / 4294967296)) j pa pb pt pe pf pg ph (into q numbered) pj)

  pub put-moment : {r : List ℕ} (t : Moment) → in_range t ≡ true → S.times ≡ true → Sheet S texts κ r → Sheet S texts κ (put_moment t r)
  put-moment t h' q (sheet a b c m d e f g h i j pa pb pt pe pf pg ph pi pj) =
      subst (Sheet S texts κ) (sym (marked-flags κ 3 (flags a b c m d e f g i j) (rest a b c (some t) d e f g h i j) (lit≤ tt) (lit≤ tt)))
      (sheet a b c (some t) d e f g h i j pa pb (new-moment t q h' pt) pe pf pg ph pi pj)

  pub put-time : {r : List ℕ} (t : ℕ × ℕ) → fits_time (some (record { seconds = t.0; nanos = t.1 })) ≡ true → S.times ≡ true → Sheet S texts κ r → Sheet S texts κ (put_time t r)
  put-time t h' q (sheet a b c m d e f g h i j pa pb pt pe pf pg ph pi pj) =
      subst (Sheet S texts κ) (sym (marked-flags κ 4 (flags a b c m d e f g i j) (rest a b c m (some (record { seconds = t.0; nanos = t.1 })) e f g h i j) (lit≤ tt) (lit≤ tt)))
      (sheet a b c m (some (record { seconds = t.0; nanos = t.1 })) e f g h i j pa pb (new-time (record { seconds = t.0; nanos = t.1 }) q h' pt) pe pf pg ph pi pj)

  pub put-uuid : {r : List ℕ} (w : Words) → S.middle ≡ uuid → Sheet S texts κ r → Sheet S texts κ (put_uuid w r)
  put-uuid w q (sheet a b c m d e f g h i j pa pb pt pe pf pg ph pi pj) =
      subst (Sheet S texts κ)
      (sym (marked-flags κ 1 (flags a b c m d e f g i j) (rest a (valued w.a w.b) (constant w.c w.d) m d e f g h i j) (lit≤ tt) (lit≤ tt)
      ∙ ap (λ (u : Bool). κ ∷ flags_of (is_given a ∷ true ∷ u ∷ is_some m ∷ is_some d ∷ is_given e ∷ is_given f ∷ is_given g ∷ is_given i ∷ false ∷ is_given j ∷ [])
      ∷ rest a (valued w.a w.b) (constant w.c w.d) m d e f g h i j) (middle_hidden q pb)))
      (sheet a (valued w.a w.b) (constant w.c w.d) m d e f g h i j pa (new-id q) pt pe pf pg ph pi pj)

  pub put-tests : {r : List ℕ} (n : ℕ) → S.second ≡ count → Sheet S texts κ r → Sheet S texts κ (put_count_of 18 n r)
  put-tests n q (sheet a b c m d e f g h i j pa pb pt pe pf pg ph pi pj) =
      subst (Sheet S texts κ)
      (sym (ap (λ (u : Bool). κ ∷ flags_of (is_given a ∷ is_given b ∷ is_given c ∷ is_some m ∷ is_some d ∷ u ∷ is_given f ∷ is_given g ∷ is_given i ∷ false ∷ is_given j ∷ [])
      ∷ rest a b c m d (constant (n % 4294967296) (n / 4294967296)) f g h i j) (count-hidden q pe)))
      (sheet a b c m d (constant (n % 4294967296) (n / 4294967296)) f g h i j pa pb pt (into q counted) pf pg ph pi pj)

  pub put-failures : {r : List ℕ} (n : ℕ) → S.third ≡ count → Sheet S texts κ r → Sheet S texts κ (put_count_of 20 n r)
  put-failures n q (sheet a b c m d e f g h i j pa pb pt pe pf pg ph pi pj) =
      subst (Sheet S texts κ)
      (sym (ap (λ (u : Bool). κ ∷ flags_of (is_given a ∷ is_given b ∷ is_given c ∷ is_some m ∷ is_some d ∷ is_given e ∷ u ∷ is_given g ∷ is_given i ∷ false ∷ is_given j ∷ [])
      ∷ rest a b c m d e (constant (n % 4294967296) (n / 4294967296)) g h i j) (count-hidden q pf)))
      (sheet a b c m d e (constant (n % 4294967296) (n / 4294967296)) g h i j pa pb pt pe (into q counted) pg ph pi pj)

  pub put-errors : {r : List ℕ} (n : ℕ) → S.fourth ≡ count → Sheet S texts κ r → Sheet S texts κ (put_count_of 22 n r)
  put-errors n q (sheet a b c m d e f g h i j pa pb pt pe pf pg ph pi pj) =
      subst (Sheet S texts κ)
      (sym (ap (λ (u : Bool). κ ∷ flags_of (is_given a ∷ is_given b ∷ is_given c ∷ is_some m ∷ is_some d ∷ is_given e ∷ is_given f ∷ u ∷ is_given i ∷ false ∷ is_given j ∷ [])
      ∷ rest a b c m d e f (constant (n % 4294967296) (n / 4294967296)) h i j) (count-hidden q pg)))
      (sheet a b c m d e f (constant (n % 4294967296) (n / 4294967296)) h i j pa pb pt pe pf (into q counted) ph pi pj)

  pub put-skipped : {r : List ℕ} (n : ℕ) → S.fifth ≡ count → Sheet S texts κ r → Sheet S texts κ (put_count_of 24 n r)
  put-skipped n q (sheet a b c m d e f g h i j pa pb pt pe pf pg ph pi pj) =
      sheet a b c m d e f g (constant (n % 4294967296) (n / 4294967296)) i j pa pb pt pe pf pg (into q counted) pi pj
