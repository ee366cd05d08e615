-- A record of another kind by its table, in the parts that laws are about: a property or extra, a main, a run. Assumes nothing.
use Prim.Native.Nat.{ℕ, ◌+◌, ◌/◌, ◌%◌, ◌≤◌}
use mathlib.Core.Bool.{Bool, true, false, cond, ◌&&◌}
use mathlib.Core.List.{List, [], ◌∷◌, ◌++◌}
use mathlib.Core.Path.{◌≡◌, refl, ap, ◌∙◌}
use native.Mathlib.Omega.{arith}
use borrow.Author.Tests.{eqb-true, ne_eqb}
use lib.Dec.{leb, eqb}
use lib.ListN.{get_or, take, drop}
use lib.Seq.{take-add, drop-drop}
use Rattle.tree_report.specs.Fields.{kind_of}
use Rattle.tree_report.specs.inside.Parts.{good_other, good_common, good_outputs, good_text_at, bits_for, pair_bits, main_bits, skipped_bits, run_bits, bits_of}
use Rattle.schema.specs.Schema.{text, time, timestamp, may, main, skipped, run, property}
use Rattle.schema.specs.Records.{all_zero, zero_at, good, good_from, good_slot, good_value, value_at, is_set, bits_in}

-- ---- zeros in parts
zero-append : (a b : List ℕ) → all_zero (a ++ b) ≡ (all_zero a && all_zero b)
zero-append [] b = refl
zero-append (x ∷ a) b = go (eqb x 0) (zero-append a b)
  where
    go : (t : Bool) → all_zero (a ++ b) ≡ (all_zero a && all_zero b) → (t && all_zero (a ++ b)) ≡ ((t && all_zero a) && all_zero b)
    go true e = e
    go false e = refl

zero-split : (r : List ℕ) (o a b : ℕ) → zero_at r o (a + b) ≡ (zero_at r o a && zero_at r (o + a) b)
zero-split r o a b =
    ap all_zero (take-add a b (drop o r)) ∙ zero-append (take a (drop o r)) (take b (drop a (drop o r)))
    ∙ ap (λ (l : List ℕ). zero_at r o a && all_zero (take b l)) (drop-drop a o r)

-- ---- the slots that no table but a run's has, and the words behind them
module _ (texts r : List ℕ) where
  abbrev outs : Bool
  outs = good_slot texts r (may 1) text 4 && good_slot texts r (may 2) text 6

  abbrev times : Bool
  times = good_slot texts r (may 3) timestamp 8 && good_slot texts r (may 4) time 16

  abbrev ends : Bool
  ends = good_slot texts r (may 5) text 18 && (good_slot texts r (may 6) text 20 && (good_slot texts r (may 7) text 22 && zero_at r 24 8))

  -- what every record but a report's, suite's or case's is asked, behind its bits
  abbrev asked : Bool
  asked = (good_slot texts r (may 0) text 2 && times) && (outs && ends)

  unset : (n : ℕ) → (get_or r 1 0 / n % 2 ≡ 0) → eqb (get_or r 1 0 / n % 2) 1 ≡ false
  unset n e = ne_eqb (get_or r 1 0 / n % 2) 1 (λ q. omega arith)

  -- ---- a run
  run-parts : (m s₁ s₂ t₁ t₂ y : Bool) → (m && (s₁ && (s₂ && (t₁ && (t₂ && y))))) ≡ ((m && (t₁ && t₂)) && ((s₁ && s₂) && y))
  run-parts false s₁ s₂ t₁ t₂ y = refl
  run-parts true false s₂ true true y = refl
  run-parts true false s₂ true false y = refl
  run-parts true false s₂ false t₂ y = refl
  run-parts true true false true true y = refl
  run-parts true true false true false y = refl
  run-parts true true false false t₂ y = refl
  run-parts true true true true true y = refl
  run-parts true true true true false y = refl
  run-parts true true true false t₂ y = refl

  pub run-good : bits_for (kind_of r) ≡ run_bits → (leb 6 (kind_of r) && leb (kind_of r) 12) ≡ true → good run texts r ≡ good_other texts r
  unfolding good good_other good_common good_outputs good_text_at
  run-good b n =
      let e : bits_in run r ≡ bits_of run_bits r = omega arith in
      rw (b, n)
      (ap (λ (m : ℕ). eqb (get_or r 1 0) m && good_from texts r 2 run) e
      ∙ ap (λ (t : Bool). eqb (get_or r 1 0) (bits_of run_bits r) && t)
      (run-parts (good_slot texts r (may 0) text 2) (good_slot texts r (may 1) text 4) (good_slot texts r (may 2) text 6)
      (good_slot texts r (may 3) timestamp 8) (good_slot texts r (may 4) time 16) ends))

  -- ---- a main: words 4 to 17 and from 22 on are zero
  abbrev Bare : Type 0
  Bare = (is_set 1 r ≡ false) × (is_set 2 r ≡ false) × (is_set 3 r ≡ false) × (is_set 4 r ≡ false) × (is_set 7 r ≡ false)

  middle : zero_at r 4 14 ≡ (zero_at r 4 2 && (zero_at r 6 2 && (zero_at r 8 8 && zero_at r 16 2)))
  middle =
      zero-split r 4 2 12 ∙ ap (λ (x : Bool). zero_at r 4 2 && x) (zero-split r 6 2 10 ∙ ap (λ (x : Bool). zero_at r 6 2 && x) (zero-split r 8 8 2))

  main-parts : (m z₁ z₂ z₃ z₄ y : Bool) → (m && ((z₁ && (z₂ && (z₃ && z₄))) && y)) ≡ ((m && (z₃ && z₄)) && ((z₁ && z₂) && y))
  main-parts false z₁ z₂ z₃ z₄ y = refl
  main-parts true false z₂ true true y = refl
  main-parts true false z₂ true false y = refl
  main-parts true false z₂ false z₄ y = refl
  main-parts true true false true true y = refl
  main-parts true true false true false y = refl
  main-parts true true false false z₄ y = refl
  main-parts true true true true true y = refl
  main-parts true true true true false y = refl
  main-parts true true true false z₄ y = refl

  abbrev tail : Bool
  tail = good_slot texts r (may 5) text 18 && (good_slot texts r (may 6) text 20 && zero_at r 22 10)

  bare-asked : Bare → (good_slot texts r (may 0) text 2 && (zero_at r 4 14 && tail)) ≡ asked
  bare-asked h =
      rw (h.0, h.1, h.2, h.3, h.4, middle, zero-split r 22 2 8)
      (main-parts (good_slot texts r (may 0) text 2) (zero_at r 4 2) (zero_at r 6 2) (zero_at r 8 8) (zero_at r 16 2)
      (good_slot texts r (may 5) text 18 && (good_slot texts r (may 6) text 20 && (zero_at r 22 2 && zero_at r 24 8))))

  bare : (w : ℕ) → get_or r 1 0 ≡ w → (w / 2 % 2 ≡ 0) → (w / 4 % 2 ≡ 0) → (w / 8 % 2 ≡ 0) → (w / 16 % 2 ≡ 0) → (w / 128 % 2 ≡ 0) → Bare
  bare w e p₁ p₂ p₃ p₄ p₇ = (unset 2 (rw e p₁), unset 4 (rw e p₂), unset 8 (rw e p₃), unset 16 (rw e p₄), unset 128 (rw e p₇))

  few-skipped : (a b c : Bool) → get_or r 1 0 ≡ cond a 1 0 + (cond b 32 0 + (cond c 64 0 + 0)) → Bare
  few-skipped true true true e = bare 97 e refl refl refl refl refl
  few-skipped true true false e = bare 33 e refl refl refl refl refl
  few-skipped true false true e = bare 65 e refl refl refl refl refl
  few-skipped true false false e = bare 1 e refl refl refl refl refl
  few-skipped false true true e = bare 96 e refl refl refl refl refl
  few-skipped false true false e = bare 32 e refl refl refl refl refl
  few-skipped false false true e = bare 64 e refl refl refl refl refl
  few-skipped false false false e = bare 0 e refl refl refl refl refl

  few-main : (a b c d : Bool) → get_or r 1 0 ≡ cond a 1 0 + (cond b 32 0 + (cond c 64 0 + (cond d 512 0 + 0))) → Bare
  few-main a b c false e = few-skipped a b c e
  few-main true true true true e = bare 609 e refl refl refl refl refl
  few-main true true false true e = bare 545 e refl refl refl refl refl
  few-main true false true true e = bare 577 e refl refl refl refl refl
  few-main true false false true e = bare 513 e refl refl refl refl refl
  few-main false true true true e = bare 608 e refl refl refl refl refl
  few-main false true false true e = bare 544 e refl refl refl refl refl
  few-main false false true true e = bare 576 e refl refl refl refl refl
  few-main false false false true e = bare 512 e refl refl refl refl refl

  -- a bit alone has no words
  bit-alone : (b t : Bool) → (cond b true true && t) ≡ t
  bit-alone true t = refl
  bit-alone false t = refl

  pub skipped-good : bits_for (kind_of r) ≡ skipped_bits → (leb 6 (kind_of r) && leb (kind_of r) 12) ≡ true → good skipped texts r ≡ good_other texts r
  unfolding good good_other good_common good_outputs good_text_at
  skipped-good b n =
      let e : bits_in skipped r ≡ bits_of skipped_bits r = omega arith in
      rw (b, n) (ap (λ (m : ℕ). eqb (get_or r 1 0) m && good_from texts r 2 skipped) e ∙ go (eqb (get_or r 1 0) (bits_of skipped_bits r)) refl)
    where
      go : (t : Bool) → eqb (get_or r 1 0) (bits_of skipped_bits r) ≡ t → (t && good_from texts r 2 skipped) ≡ (t && asked)
      go false e = refl
      go true e = bare-asked (few-skipped (is_set 0 r) (is_set 5 r) (is_set 6 r) (eqb-true (get_or r 1 0) (bits_of skipped_bits r) e))

  pub main-good : bits_for (kind_of r) ≡ main_bits → (leb 6 (kind_of r) && leb (kind_of r) 12) ≡ true → good main texts r ≡ good_other texts r
  unfolding good good_other good_common good_outputs good_text_at
  main-good b n =
      let e : bits_in main r ≡ bits_of main_bits r = omega arith in
      rw (b, n) (ap (λ (m : ℕ). eqb (get_or r 1 0) m && good_from texts r 2 main) e ∙ go (eqb (get_or r 1 0) (bits_of main_bits r)) refl)
    where
      go : (t : Bool) → eqb (get_or r 1 0) (bits_of main_bits r) ≡ t → (t && good_from texts r 2 main) ≡ (t && asked)
      go false e = refl
      go true e =
          ap (λ (x : Bool). good_slot texts r (may 0) text 2 && (zero_at r 4 14 && (good_slot texts r (may 5) text 18 && (good_slot texts r (may 6) text 20 && x))))
          (bit-alone (is_set 9 r) (zero_at r 22 10))
          ∙ bare-asked (few-main (is_set 0 r) (is_set 5 r) (is_set 6 r) (is_set 9 r) (eqb-true (get_or r 1 0) (bits_of main_bits r) e))

  -- ---- a property or extra: words from 6 on are zero
  pair-rest : zero_at r 6 26 ≡ (zero_at r 6 2 && (zero_at r 8 8 && (zero_at r 16 2 && (zero_at r 18 2 && (zero_at r 20 2 && (zero_at r 22 2 && zero_at r 24 8))))))
  pair-rest =
      zero-split r 6 2 24 ∙ ap (λ (x : Bool). zero_at r 6 2 && x) (zero-split r 8 8 16 ∙ ap (λ (x : Bool). zero_at r 8 8 && x)
      (zero-split r 16 2 14 ∙ ap (λ (x : Bool). zero_at r 16 2 && x) (zero-split r 18 2 12 ∙ ap (λ (x : Bool). zero_at r 18 2 && x)
      (zero-split r 20 2 10 ∙ ap (λ (x : Bool). zero_at r 20 2 && x) (zero-split r 22 2 8)))))

  pair_ends : (g₁ a b c x : Bool) → (g₁ && (a && (b && (c && x)))) ≡ ((b && c) && ((g₁ && a) && x))
  pair_ends false a true true x = refl
  pair_ends false a true false x = refl
  pair_ends false a false c x = refl
  pair_ends true true true c x = refl
  pair_ends true true false c x = refl
  pair_ends true false true true x = refl
  pair_ends true false true false x = refl
  pair_ends true false false c x = refl

  pair_parts : (h₀ g₀ z₀ h₁ g₁ z₁ a b c x : Bool)
      → ((h₀ && g₀) && ((h₁ && g₁) && (a && (b && (c && x))))) ≡ ((h₀ && h₁) && ((cond h₀ g₀ z₀ && (b && c)) && ((cond h₁ g₁ z₁ && a) && x)))
  pair_parts false g₀ z₀ h₁ g₁ z₁ a b c x = refl
  pair_parts true true z₀ false g₁ z₁ a b c x = refl
  pair_parts true false z₀ false g₁ z₁ a b c x = refl
  pair_parts true false z₀ true g₁ z₁ a b c x = refl
  pair_parts true true z₀ true g₁ z₁ a b c x = pair_ends g₁ a b c x

  few-pair : (w : ℕ) (a b : Bool) → w ≡ cond a 1 0 + (cond b 2 0 + 0) → w ≤ 3
  few-pair w true true e = omega arith
  few-pair w true false e = omega arith
  few-pair w false true e = omega arith
  few-pair w false false e = omega arith

  pub pair-good : bits_for (kind_of r) ≡ pair_bits → (leb 6 (kind_of r) && leb (kind_of r) 12) ≡ false → good property texts r ≡ good_other texts r
  unfolding good good_other good_common good_outputs good_text_at
  pair-good b n = rw (b, n) (go (eqb (get_or r 1 0) (bits_of pair_bits r)) refl)
    where
      go : (t : Bool) → eqb (get_or r 1 0) (bits_of pair_bits r) ≡ t → (t && good_from texts r 2 property) ≡ (t && ((is_set 0 r && is_set 1 r) && asked))
      go false e = refl
      go true e =
          let w = get_or r 1 0 in
          let l : w ≤ 3 = few-pair w (is_set 0 r) (is_set 1 r) (eqb-true w (bits_of pair_bits r) e) in
          rw (
            unset 4 (omega arith),
            unset 8 (omega arith),
            unset 16 (omega arith),
            unset 32 (omega arith),
            unset 64 (omega arith),
            unset 128 (omega arith),
            pair-rest,
          )
          (pair_parts (is_set 0 r) (good_value texts text (value_at text r 2)) (zero_at r 2 2) (is_set 1 r) (good_value texts text (value_at text r 4)) (zero_at r 4 2)
          (zero_at r 6 2) (zero_at r 8 8) (zero_at r 16 2) (zero_at r 18 2 && (zero_at r 20 2 && (zero_at r 22 2 && zero_at r 24 8))))
