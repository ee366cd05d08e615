-- The test `utf8` is the grammar of RFC 3629, and goes with `++`. Assumes nothing.
use Prim.Native.Nat.{ℕ, zero, suc, ◌≤◌, ◌<◌}
use mathlib.Core.Bool.{Bool, true, false, cond, ◌&&◌, false≢true, and-eq-true_iff}
use mathlib.Core.List.{List, [], ◌∷◌, ◌++◌, append-nil}
use mathlib.Core.Logic.{◌↔◌}
use mathlib.Core.Path.{◌≡◌, refl, sym, ap, ◌∙◌}
use native.Mathlib.Decide.{dec_lt}
use native.Mathlib.Omega.{arith}
use borrow.Author.Tests.{le-leb, le-ltb, lt-ltb, ne_eqb, leb-true, ltb-true}
use lib.Dec.{leb, ltb, lit≤}
use lib.ListN.{length, take, drop, length-drop, take-append-drop}
use Rattle.utf8.specs.Grammar.{In, Tail, Char, one, two, three-e0, three-e1, three-ed, three-ee, four_f0, four_f1, four_f4, Text, none, some}
use Rattle.utf8.specs.Utf8.{need, low, high, within, runs, ok, utf8, width}
use Rattle.utf8.specs.inside.Ascii.{ascii}
use Rattle.utf8.proofs.Runs.{need-ascii, ok-zero, ok-runs}

-- UTF-8 in front of anything
pub ok-append : (a b : List ℕ) (n lo hi : ℕ) → ok a n lo hi ≡ true → ok (a ++ b) n lo hi ≡ utf8 b
ok-append [] b zero lo hi e = ok-zero b lo hi
ok-append [] b (suc n) lo hi e = absurd (false≢true e)
ok-append (x ∷ a) b zero lo hi e = ok-append a b (need x) (low x) (high x) e
ok-append (x ∷ a) b (suc n) lo hi e =
    let p = (and-eq-true_iff (within lo hi x) (ok a n 0x80 0xBF)).0 e in rw p.0 (ok-append a b n 0x80 0xBF p.1)

-- UTF-8 in front of a text changes nothing about its being UTF-8
pub utf8_append : (a b : List ℕ) → utf8 a ≡ true → utf8 (a ++ b) ≡ utf8 b
utf8_append a b e = ok-append a b 0 0x80 0xBF e

-- ---- the rows of the grammar: what follows a lead byte
abbrev Row : ℕ → ℕ → ℕ → ℕ → Type 0
Row b n lo hi = (need b ≡ n) × (low b ≡ lo) × (high b ≡ hi)

module _ (b : ℕ) where
  need-1 : 0x80 ≤ b → b < 0xE0 → need b ≡ 1
  unfolding need
  need-1 l h = simp (le-ltb b 0x80 l, lt-ltb b 0xE0 h)

  need-2 : 0xE0 ≤ b → b < 0xF0 → need b ≡ 2
  unfolding need
  need-2 l h = simp (le-ltb b 0x80 (omega arith), le-ltb b 0xE0 l, lt-ltb b 0xF0 h)

  need-3 : 0xF0 ≤ b → b < 0xF5 → need b ≡ 3
  unfolding need
  need-3 l h = simp (le-ltb b 0x80 (omega arith), le-ltb b 0xE0 (omega arith), le-ltb b 0xF0 l, lt-ltb b 0xF5 h)

  need-none : 0xF5 ≤ b → need b ≡ 1
  unfolding need
  need-none l = simp (le-ltb b 0x80 (omega arith), le-ltb b 0xE0 (omega arith), le-ltb b 0xF0 (omega arith), le-ltb b 0xF5 l)

  low-plain : (b ≡ 0xE0 → ⊥) → (b ≡ 0xF0 → ⊥) → low b ≡ 0x80
  unfolding low
  low-plain p q = simp (ne_eqb b 0xE0 p, ne_eqb b 0xF0 q)

  high-plain : 0xC2 ≤ b → b < 0xF5 → (b ≡ 0xED → ⊥) → (b ≡ 0xF4 → ⊥) → high b ≡ 0xBF
  unfolding high
  high-plain l h p q = simp (le-ltb b 0xC2 l, le-ltb 0xF4 b (omega arith), ne_eqb b 0xED p, ne_eqb b 0xF4 q)

  high-first : b < 0xC2 → high b ≡ 0
  unfolding high
  high-first h = simp (lt-ltb b 0xC2 h)

  high-last : 0xF5 ≤ b → high b ≡ 0
  unfolding high
  high-last l = simp (le-ltb b 0xC2 (omega arith), lt-ltb 0xF4 b (omega arith))

  row-two : In 0xC2 0xDF b → Row b 1 0x80 0xBF
  row-two h = (need-1 (omega arith) (omega arith), low-plain (omega arith) (omega arith), high-plain (omega arith) (omega arith) (omega arith) (omega arith))

  row-three : 0xE1 ≤ b → b < 0xF0 → (b ≡ 0xED → ⊥) → Row b 2 0x80 0xBF
  row-three l h p = (need-2 (omega arith) h, low-plain (omega arith) (omega arith), high-plain (omega arith) (omega arith) p (omega arith))

  row-four : In 0xF1 0xF3 b → Row b 3 0x80 0xBF
  row-four h = (need-3 (omega arith) (omega arith), low-plain (omega arith) (omega arith), high-plain (omega arith) (omega arith) (omega arith) (omega arith))

  row-e0 : In 0xE0 0xE0 b → Row b 2 0xA0 0xBF
  unfolding need low high
  row-e0 h = let e : b ≡ 0xE0 = omega arith in rw e (refl, refl, refl)

  row-ed : In 0xED 0xED b → Row b 2 0x80 0x9F
  unfolding need low high
  row-ed h = let e : b ≡ 0xED = omega arith in rw e (refl, refl, refl)

  row-f0 : In 0xF0 0xF0 b → Row b 3 0x90 0xBF
  unfolding need low high
  row-f0 h = let e : b ≡ 0xF0 = omega arith in rw e (refl, refl, refl)

  row-f4 : In 0xF4 0xF4 b → Row b 3 0x80 0x8F
  unfolding need low high
  row-f4 h = let e : b ≡ 0xF4 = omega arith in rw e (refl, refl, refl)

  -- a byte that leads nothing
  row-tail : In 0x80 0xC1 b → Row b 1 0x80 0
  row-tail h = (need-1 (omega arith) (omega arith), low-plain (omega arith) (omega arith), high-first (omega arith))

  row-over : 0xF5 ≤ b → Row b 1 0x80 0
  row-over h = (need-none h, low-plain (omega arith) (omega arith), high-last h)

pub in_within : (lo hi b : ℕ) → In lo hi b → within lo hi b ≡ true
in_within lo hi b h = simp (le-leb lo b h.0, le-leb b hi h.1)

pub within_in : (lo hi b : ℕ) → within lo hi b ≡ true → In lo hi b
within_in lo hi b e = let p = (and-eq-true_iff (leb lo b) (leb b hi)).0 e in (leb-true lo b p.0, leb-true b hi p.1)

-- ---- from the grammar to the test: a lead byte and the bytes of its row, in front of anything
module _ (s : List ℕ) (a n lo hi : ℕ) (r : Row a n lo hi) where
  ok-row : utf8 (a ∷ s) ≡ ok s n lo hi
  ok-row = rw (r.0, r.1, r.2)

  width-row : width (a ∷ s) ≡ cond (runs s n lo hi) (suc n) 0
  width-row = rw (r.0, r.1, r.2)

module _ (a : ℕ) {lo hi b : ℕ} (p : In lo hi b) (s : List ℕ) where
  on_1 : Row a 1 lo hi → (utf8 (a ∷ b ∷ s) ≡ utf8 s) × (width (a ∷ b ∷ s) ≡ 2)
  on_1 r = (ok-row (b ∷ s) a _ _ _ r ∙ simp (in_within lo hi b p), width-row (b ∷ s) a _ _ _ r ∙ simp (in_within lo hi b p))

  on_2 : {c : ℕ} → Row a 2 lo hi → Tail c → (utf8 (a ∷ b ∷ c ∷ s) ≡ utf8 s) × (width (a ∷ b ∷ c ∷ s) ≡ 3)
  on_2 {c} r q = (
    ok-row (b ∷ c ∷ s) a _ _ _ r ∙ simp (in_within lo hi b p, in_within 0x80 0xBF c q),
    width-row (b ∷ c ∷ s) a _ _ _ r ∙ simp (in_within lo hi b p, in_within 0x80 0xBF c q),
  )

  on_3 : {c d : ℕ} → Row a 3 lo hi → Tail c → Tail d → (utf8 (a ∷ b ∷ c ∷ d ∷ s) ≡ utf8 s) × (width (a ∷ b ∷ c ∷ d ∷ s) ≡ 4)
  on_3 {c} {d} r q t = (
    ok-row (b ∷ c ∷ d ∷ s) a _ _ _ r ∙ simp (in_within lo hi b p, in_within 0x80 0xBF c q, in_within 0x80 0xBF d t),
    width-row (b ∷ c ∷ d ∷ s) a _ _ _ r ∙ simp (in_within lo hi b p, in_within 0x80 0xBF c q, in_within 0x80 0xBF d t),
  )

-- an ASCII byte in front changes nothing about a text's being UTF-8
pub ascii-on : (b : ℕ) (s : List ℕ) → b < 0x80 → utf8 (b ∷ s) ≡ utf8 s
ascii-on b s h = ap (λ (n : ℕ). ok s n (low b) (high b)) (need-ascii b h) ∙ ok-zero s (low b) (high b)

in-front : {c : List ℕ} → Char c → (s : List ℕ) → (utf8 (c ++ s) ≡ utf8 s) × (width (c ++ s) ≡ length c)
in-front (one {a = a} h) s = (ascii-on a s (omega arith), rw (need-ascii a (omega arith)) refl)
in-front (two {a = a} h p) s = on_1 a p s (row-two a h)
in-front (three-e0 {a = a} h p q) s = on_2 a p s (row-e0 a h) q
in-front (three-e1 {a = a} h p q) s = on_2 a p s (row-three a (omega arith) (omega arith) (omega arith)) q
in-front (three-ed {a = a} h p q) s = on_2 a p s (row-ed a h) q
in-front (three-ee {a = a} h p q) s = on_2 a p s (row-three a (omega arith) (omega arith) (omega arith)) q
in-front (four_f0 {a = a} h p q t) s = on_3 a p s (row-f0 a h) q t
in-front (four_f1 {a = a} h p q t) s = on_3 a p s (row-four a h) q t
in-front (four_f4 {a = a} h p q t) s = on_3 a p s (row-f4 a h) q t

-- a character in front of UTF-8 is UTF-8, and in front of anything else it is not
pub char-on : {c : List ℕ} → Char c → (s : List ℕ) → utf8 (c ++ s) ≡ utf8 s
char-on h s = (in-front h s).0

-- a character by itself is UTF-8
pub char-utf8 : {c : List ℕ} → Char c → utf8 c ≡ true
char-utf8 {c} h = sym (ap utf8 (append-nil c)) ∙ char-on h []

-- a character is as wide as it is long
pub width-char : {c : List ℕ} → Char c → (s : List ℕ) → width (c ++ s) ≡ length c
width-char h s = (in-front h s).1

-- a character has one to four bytes
pub char-size : {c : List ℕ} → Char c → (1 ≤ length c) × (length c ≤ 4)
char-size (one h) = (lit≤ tt, lit≤ tt)
char-size (two h p) = (lit≤ tt, lit≤ tt)
char-size (three-e0 h p q) = (lit≤ tt, lit≤ tt)
char-size (three-e1 h p q) = (lit≤ tt, lit≤ tt)
char-size (three-ed h p q) = (lit≤ tt, lit≤ tt)
char-size (three-ee h p q) = (lit≤ tt, lit≤ tt)
char-size (four_f0 h p q t) = (lit≤ tt, lit≤ tt)
char-size (four_f1 h p q t) = (lit≤ tt, lit≤ tt)
char-size (four_f4 h p q t) = (lit≤ tt, lit≤ tt)

text-utf8 : {s : List ℕ} → Text s → utf8 s ≡ true
text-utf8 none = refl
text-utf8 (some {s = s} c t) = char-on c s ∙ text-utf8 t

-- ASCII in front changes nothing about a text's being UTF-8
pub ascii_append : (a s : List ℕ) → ascii a ≡ true → utf8 (a ++ s) ≡ utf8 s
ascii_append [] s e = refl
ascii_append (b ∷ a) s e =
    let p = (and-eq-true_iff (ltb b 0x80) (ascii a)).0 e in ascii-on b (a ++ s) (ltb-true b 0x80 p.0) ∙ ascii_append a s p.1

-- ASCII is UTF-8
pub ascii-utf8 : (a : List ℕ) → ascii a ≡ true → utf8 a ≡ true
ascii-utf8 a e = sym (ap utf8 (append-nil a)) ∙ ascii_append a [] e

-- ---- from the test to the grammar: the bytes of a row make a character
both : (lo hi b : ℕ) (t : Bool) → (within lo hi b && t) ≡ true → In lo hi b × (t ≡ true)
both lo hi b t e = let p = (and-eq-true_iff (within lo hi b) t).0 e in (within_in lo hi b p.0, p.1)

module _ (a lo hi : ℕ) where
  run-1 : ((b : ℕ) → In lo hi b → Char (a ∷ b ∷ [])) → (s : List ℕ) → runs s 1 lo hi ≡ true → Char (a ∷ take 1 s)
  run-1 k [] e = absurd (false≢true e)
  run-1 k (b ∷ s) e = k b (both lo hi b true e).0

  run-2 : ((b c : ℕ) → In lo hi b → Tail c → Char (a ∷ b ∷ c ∷ [])) → (s : List ℕ) → runs s 2 lo hi ≡ true → Char (a ∷ take 2 s)
  run-2 k [] e = absurd (false≢true e)
  run-2 k (b ∷ []) e = absurd (false≢true (both lo hi b false e).1)
  run-2 k (b ∷ c ∷ s) e =
      let p = both lo hi b (runs (c ∷ s) 1 0x80 0xBF) e in
      k b c p.0 (both 0x80 0xBF c true p.1).0

  run-3 : ((b c d : ℕ) → In lo hi b → Tail c → Tail d → Char (a ∷ b ∷ c ∷ d ∷ [])) → (s : List ℕ) → runs s 3 lo hi ≡ true → Char (a ∷ take 3 s)
  run-3 k [] e = absurd (false≢true e)
  run-3 k (b ∷ []) e = absurd (false≢true (both lo hi b false e).1)
  run-3 k (b ∷ c ∷ []) e = absurd (false≢true (both 0x80 0xBF c false (both lo hi b (runs (c ∷ []) 2 0x80 0xBF) e).1).1)
  run-3 k (b ∷ c ∷ d ∷ s) e =
      let p = both lo hi b (runs (c ∷ d ∷ s) 2 0x80 0xBF) e in
      let q = both 0x80 0xBF c (runs (d ∷ s) 1 0x80 0xBF) p.1 in
      k b c d p.0 q.0 (both 0x80 0xBF d true q.1).0

run_none : (s : List ℕ) → runs s 1 0x80 0 ≡ true → ⊥
run_none [] e = false≢true e
run_none (b ∷ s) e = let p = (both 0x80 0 b true e).0 in omega arith

-- a lead byte with the bytes that its row asks for is a character
pub run-char : (b : ℕ) (s : List ℕ) → runs s (need b) (low b) (high b) ≡ true → Char (b ∷ take (need b) s)
run-char b s e = from-80 (dec_lt b 0x80)
  where
    by : (n lo hi : ℕ) → Row b n lo hi → (runs s n lo hi ≡ true → Char (b ∷ take n s)) → Char (b ∷ take (need b) s)
    by n lo hi r k = rw r.0 (k (rw (r.0, r.1, r.2) at e))

    from-f5 : Dec (b < 0xF5) → 0xF4 ≤ b → Char (b ∷ take (need b) s)
    from-f5 (yes h) l = by _ _ _ (row-f4 b (omega arith)) (run-3 b _ _ (λ x y z. four_f4 {a = b} {b = x} {c = y} {d = z} (omega arith)) s)
    from-f5 (no h) l = by _ _ _ (row-over b (omega arith)) (λ q. absurd (run_none s q))

    from-f4 : Dec (b < 0xF4) → 0xF1 ≤ b → Char (b ∷ take (need b) s)
    from-f4 (yes h) l = by _ _ _ (row-four b (omega arith)) (run-3 b _ _ (λ x y z. four_f1 {a = b} {b = x} {c = y} {d = z} (omega arith)) s)
    from-f4 (no h) l = from-f5 (dec_lt b 0xF5) (omega arith)

    from-f1 : Dec (b < 0xF1) → 0xF0 ≤ b → Char (b ∷ take (need b) s)
    from-f1 (yes h) l = by _ _ _ (row-f0 b (omega arith)) (run-3 b _ _ (λ x y z. four_f0 {a = b} {b = x} {c = y} {d = z} (omega arith)) s)
    from-f1 (no h) l = from-f4 (dec_lt b 0xF4) (omega arith)

    from-f0 : Dec (b < 0xF0) → 0xEE ≤ b → Char (b ∷ take (need b) s)
    from-f0 (yes h) l = by _ _ _ (row-three b (omega arith) (omega arith) (omega arith)) (run-2 b _ _ (λ x y. three-ee {a = b} {b = x} {c = y} (omega arith)) s)
    from-f0 (no h) l = from-f1 (dec_lt b 0xF1) (omega arith)

    from-ee : Dec (b < 0xEE) → 0xED ≤ b → Char (b ∷ take (need b) s)
    from-ee (yes h) l = by _ _ _ (row-ed b (omega arith)) (run-2 b _ _ (λ x y. three-ed {a = b} {b = x} {c = y} (omega arith)) s)
    from-ee (no h) l = from-f0 (dec_lt b 0xF0) (omega arith)

    from-ed : Dec (b < 0xED) → 0xE1 ≤ b → Char (b ∷ take (need b) s)
    from-ed (yes h) l = by _ _ _ (row-three b (omega arith) (omega arith) (omega arith)) (run-2 b _ _ (λ x y. three-e1 {a = b} {b = x} {c = y} (omega arith)) s)
    from-ed (no h) l = from-ee (dec_lt b 0xEE) (omega arith)

    from-e1 : Dec (b < 0xE1) → 0xE0 ≤ b → Char (b ∷ take (need b) s)
    from-e1 (yes h) l = by _ _ _ (row-e0 b (omega arith)) (run-2 b _ _ (λ x y. three-e0 {a = b} {b = x} {c = y} (omega arith)) s)
    from-e1 (no h) l = from-ed (dec_lt b 0xED) (omega arith)

    from-e0 : Dec (b < 0xE0) → 0xC2 ≤ b → Char (b ∷ take (need b) s)
    from-e0 (yes h) l = by _ _ _ (row-two b (omega arith)) (run-1 b _ _ (λ x. two {a = b} {b = x} (omega arith)) s)
    from-e0 (no h) l = from-e1 (dec_lt b 0xE1) (omega arith)

    from-c2 : Dec (b < 0xC2) → 0x80 ≤ b → Char (b ∷ take (need b) s)
    from-c2 (yes h) l = by _ _ _ (row-tail b (omega arith)) (λ q. absurd (run_none s q))
    from-c2 (no h) l = from-e0 (dec_lt b 0xE0) (omega arith)

    from-80 : Dec (b < 0x80) → Char (b ∷ take (need b) s)
    from-80 (yes h) = rw (need-ascii b h) (one {a = b} (omega arith))
    from-80 (no h) = from-c2 (dec_lt b 0xC2) (omega arith)

-- what UTF-8 that is not empty begins with
pub utf8-first : (b : ℕ) (s : List ℕ) → utf8 (b ∷ s) ≡ true → (runs s (need b) (low b) (high b) ≡ true) × (utf8 (drop (need b) s) ≡ true)
utf8-first b s e = (and-eq-true_iff (runs s (need b) (low b) (high b)) (utf8 (drop (need b) s))).0 (sym (ok-runs s (need b) (low b) (high b)) ∙ e)

text_of : (n : ℕ) (s : List ℕ) → length s ≤ n → utf8 s ≡ true → Text s
text_of zero [] h e = none
text_of (suc n) [] h e = none
text_of zero (b ∷ s) h e = absurd (omega arith)
text_of (suc n) (b ∷ s) h e =
    let p = utf8-first b s e in
    let t : Text (b ∷ (take (need b) s ++ drop (need b) s)) = some (run-char b s p.0) (text_of n (drop (need b) s) (simp length-drop (omega arith)) p.1) in
    rw take-append-drop at t

-- the test is the grammar
pub utf8-grammar : (s : List ℕ) → (utf8 s ≡ true) ↔ Text s
utf8-grammar s = (text_of (length s) s (omega arith), text-utf8)

-- UTF-8 never begins with a UTF8-tail
pub tail-first : (b : ℕ) (s : List ℕ) → utf8 (b ∷ s) ≡ true → In 0x80 0xBF b → ⊥
tail-first b s e h =
    let r = row-tail b (omega arith) in
    let p : runs s (need b) (low b) (high b) ≡ true = (utf8-first b s e).0 in
    run_none s (rw (r.0, r.1, r.2) at p)
