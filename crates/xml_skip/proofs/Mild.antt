-- Runs of ASCII that end nothing are left out. Assumes nothing.
use Prim.Native.Nat.{ℕ, zero, suc, ◌+◌, ◌-◌, ◌≤◌, ◌<◌}
use mathlib.Core.Path.{◌≡◌, refl, sym, ap, subst, ◌∙◌}
use mathlib.Core.List.{List}
use mathlib.Core.Bool.{Bool, true, false, not, ◌&&◌, ◌||◌, and-eq-true_iff, false≢true}
use native.Mathlib.Omega.{arith}
use native.Mathlib.Decide.{dec_lt}
use borrow.Author.Tests.{ltb-true, eqb-true}
use lib.Dec.{ltb, eqb}
use lib.ListN.{get_or}
use Rattle.xml_agree.specs.of_xml_chars.Chars.{crosses}
use Rattle.xml_agree.proofs.of_xml_chars.CharLaws.{or_cases}
use Rattle.xml_checks.specs.of_xml_state.inside.Rows as row
use Rattle.xml_calm.specs.inside.Calm.{mild, stop_of, Calm}
use Rattle.xml_skip.specs.inside.Passes.{Passes}
use Rattle.xml_skip.proofs.Passing.{pass-nothing, pass-byte}

-- ---- one computed test a mode
abbrev every : (ℕ → Bool) → ℕ → Bool
every f zero = true
every f (suc n) = f n && every f n

every-at : (f : ℕ → Bool) (n : ℕ) → every f n ≡ true → (k : ℕ) → k < n → f k ≡ true
every-at f zero e k h = absurd (omega arith)
every-at f (suc n) e k h = go (dec_lt k n) (every-at f n both.1 k)
  where
    both : (f n ≡ true) × (every f n ≡ true)
    both = (and-eq-true_iff (f n) (every f n)).0 e

    go : Dec (k < n) → (k < n → f k ≡ true) → f k ≡ true
    go (yes p) ih = ih p
    go (no p) ih = let z : k ≡ n = omega arith in ap f z ∙ both.0

abbrev stays : ℕ → ℕ → ℕ → Bool
stays mode stop b = not (mild stop b) || (eqb (row.move_of mode b).mode mode && eqb (row.move_of mode b).act row.stay)

text-stays : every (stays row.text_in_of 0x5D) 128 ≡ true
unfolding row.move_of row.all_rows row.char_row crosses
text-stays = refl

double-stays : every (stays row.value_d 0x22) 128 ≡ true
unfolding row.move_of row.all_rows row.char_row crosses
double-stays = refl

single-stays : every (stays row.value_s 0x27) 128 ≡ true
unfolding row.move_of row.all_rows row.char_row crosses
single-stays = refl

-- ---- one byte
mild-low : (stop b : ℕ) → mild stop b ≡ true → b < 128
mild-low stop b e =
    or_cases (ltb 0x1F b && (ltb b 0x80 && (not (eqb b 0x3C) && (not (eqb b 0x26) && not (eqb b stop))))) (eqb b 0xA || eqb b 0x9) e
    (λ x.
    let p = (and-eq-true_iff (ltb 0x1F b) (ltb b 0x80 && (not (eqb b 0x3C) && (not (eqb b 0x26) && not (eqb b stop))))).0 x in
    let q = (and-eq-true_iff (ltb b 0x80) (not (eqb b 0x3C) && (not (eqb b 0x26) && not (eqb b stop)))).0 p.1 in
    ltb-true b 0x80 q.0)
    (λ y. or_cases (eqb b 0xA) (eqb b 0x9) y (λ x. let z = eqb-true b 0xA x in omega arith) (λ x. let z = eqb-true b 0x9 x in omega arith))

abbrev Stays : ℕ → ℕ → Type 0
Stays mode b = ((row.move_of mode b).mode ≡ mode) × ((row.move_of mode b).act ≡ row.stay)

stay-at : (mode stop b : ℕ) → every (stays mode stop) 128 ≡ true → mild stop b ≡ true → Stays mode b
stay-at mode stop b e m =
    let own = eqb (row.move_of mode b).mode mode in
    let still = eqb (row.move_of mode b).act row.stay in
    let p = (and-eq-true_iff own still).0 (go (mild stop b) (own && still) m (every-at (stays mode stop) 128 e b (mild-low stop b m))) in
    (eqb-true (row.move_of mode b).mode mode p.0, eqb-true (row.move_of mode b).act row.stay p.1)
  where
    go : (x y : Bool) → x ≡ true → (not x || y) ≡ true → y ≡ true
    go true y p q = q
    go false y p q = absurd (false≢true p)

stay-in : (mode k stop b : ℕ) → mode ≡ k → stop_of k ≡ stop → every (stays k stop) 128 ≡ true → mild (stop_of mode) b ≡ true → Stays mode b
stay-in mode k stop b e s t m = subst (λ (z : ℕ). Stays z b) (sym e) (stay-at k stop b t (ap (λ (z : ℕ). mild z b) (sym (ap stop_of e ∙ s)) ∙ m))

mild-stays : (mode b : ℕ) → (stop_of mode ≡ 0 → ⊥) → mild (stop_of mode) b ≡ true → Stays mode b
mild-stays mode b n m = in-text (eqb mode row.text_in_of) refl
  where
    in-single : (t : Bool) → eqb mode row.value_s ≡ t → eqb mode row.value_d ≡ false → eqb mode row.text_in_of ≡ false → Stays mode b
    in-single true e f g = stay-in mode row.value_s 0x27 b (eqb-true mode row.value_s e) refl single-stays m
    in-single false e f g = absurd (n (rw (g, f, e) refl))

    in-double : (t : Bool) → eqb mode row.value_d ≡ t → eqb mode row.text_in_of ≡ false → Stays mode b
    in-double true e f = stay-in mode row.value_d 0x22 b (eqb-true mode row.value_d e) refl double-stays m
    in-double false e f = in-single (eqb mode row.value_s) refl e f

    in-text : (t : Bool) → eqb mode row.text_in_of ≡ t → Stays mode b
    in-text true e = stay-in mode row.text_in_of 0x5D b (eqb-true mode row.text_in_of e) refl text-stays m
    in-text false e = in-double (eqb mode row.value_d) refl e

-- ---- a run
run_on : (src : List ℕ) (mode start n : ℕ) → Calm src mode start (start + n) → Passes src mode start (start + n)
run_on src mode start zero k = pass-nothing src mode start
run_on src mode start (suc n) k =
    let f = k (start + n) (omega arith) (omega arith) in
    let s = mild-stays mode (get_or src (start + n) 0) f.1 f.2 in
    let z : start + n + 1 ≡ start + suc n = omega arith in
    subst (λ (e : ℕ). Passes src mode start e) z
    (pass-byte (run_on src mode start n (λ i lo hi. k i lo (omega arith))) f.0 (row.move_of mode (get_or src (start + n) 0)) refl s.1 s.0)

pub pass-run : (src : List ℕ) (mode start end : ℕ) → start ≤ end → Calm src mode start end → Passes src mode start end
pass-run src mode start end h k =
    let z : start + (end - start) ≡ end = omega arith in
    subst (λ (e : ℕ). Passes src mode start e) z (run_on src mode start (end - start) (λ i lo hi. k i lo (omega arith)))
