-- Values that are written as they are: numbers, times, timestamps and UUIDs. Assumes nothing.
use Prim.Native.Nat.{ℕ, zero, suc, ◌+◌, ◌/◌, ◌%◌, ◌≤◌, ◌<◌}
use mathlib.Core.Path.{◌≡◌, refl, sym, ap, ◌∙◌}
use mathlib.Core.List.{List, [], ◌∷◌, ◌++◌}
use mathlib.Core.Bool.{Bool, true, false, cond, ◌&&◌}
use native.Mathlib.Omega.{arith}
use borrow.Author.Tests.{lt-ltb, ltb-true, ne_eqb}
use lib.Dec.{ltb}
use Rattle.document_events.specs.of_digits.Digits.{last_digits_of, places, decimal}
use Rattle.round_elements.specs.of_time_text.Written.{time_text, written_time, thousandths_of, float_sum}
use Rattle.document_events.specs.of_timestamp.declared.Moment.{Moment}
use Rattle.document_events.specs.of_uuids.declared.Words.{Words}
use Rattle.round_elements.specs.of_write_moment.Written.{date_text, clock_text, offset_text, timestamp_text, sign}
use Rattle.round_elements.specs.of_write_uuid.Written.{hex_digit, uuid_text}
use Rattle.document_events.specs.of_tree_report.Encode.{every}
use Rattle.document_events.proofs.of_tree_report.EncodeLists.{both, and_left, and_right}
use Rattle.xml_grammar.specs.of_xml_chars.Chars.{crosses, double}
use Rattle.xml_grammar.specs.of_xml_chars.Bytes.{utf8}
use Rattle.xml_grammar.proofs.of_xml_chars.Encoding.{utf8-ascii}
use Rattle.xml_grammar.specs.Grammar.{Value, no_value, value-char, in_value}
use Rattle.document_grammar.proofs.Characters.{low-in, Spelt}

-- ASCII that a value may hold
unfoldable harmless : ℕ → Bool
harmless c = in_value double c && ltb c 0x80

harmless_of : (c : ℕ) → 0x28 ≤ c → c < 0x80 → ¬ (c ≡ 0x3C) → harmless c ≡ true
unfolding harmless
harmless_of c l h n =
    both (both (low-in c (omega arith) (omega arith)) (rw (ne_eqb c 0x22 (λ e. absurd (omega (arith, l, e))), ne_eqb c 0x3C n, ne_eqb c 0x26 (λ e. absurd (omega (arith, l, e)))) refl))
    (lt-ltb c 0x80 h)

plain_value : (s : List ℕ) → every harmless s ≡ true → Value double s
unfolding harmless
plain_value [] e = no_value
plain_value (c ∷ s) e =
    let p = and_left (harmless c) (every harmless s) e in
    value-char (and_left (in_value double c) (ltb c 0x80) p) (plain_value s (and_right (harmless c) (every harmless s) e))

plain-same : (s : List ℕ) → every harmless s ≡ true → s ≡ utf8 s
unfolding harmless
plain-same [] e = refl
plain-same (c ∷ s) e =
    let p = and_left (harmless c) (every harmless s) e in
    ap (λ x. c ∷ x) (plain-same s (and_right (harmless c) (every harmless s) e)) ∙ sym (utf8-ascii c s (ltb-true c 0x80 (and_right (in_value double c) (ltb c 0x80) p)))

plain-spelt : (s : List ℕ) → every harmless s ≡ true → Spelt (Value double) s
plain-spelt s e = record { chars = s; same = plain-same s e; are = plain_value s e }

-- ---- digits
every_append : {A : Type 0} (p : A → Bool) (xs ys : List A) → every p xs ≡ true → every p ys ≡ true → every p (xs ++ ys) ≡ true
every_append p [] ys e f = f
every_append p (x ∷ xs) ys e f = both (and_left (p x) (every p xs) e) (every_append p xs ys (and_right (p x) (every p xs) e) f)

digit-harmless : (n : ℕ) → harmless (0x30 + n % 10) ≡ true
digit-harmless n = harmless_of (0x30 + n % 10) (omega arith) (omega arith) (λ e. absurd (omega (arith, e)))

digits-harmless : (k n : ℕ) → every harmless (last_digits_of k n) ≡ true
digits-harmless zero n = refl
digits-harmless (suc k) n = every_append harmless (last_digits_of k (n / 10)) ((0x30 + n % 10) ∷ []) (digits-harmless k (n / 10)) (both (digit-harmless n) refl)

decimal-harmless : (n : ℕ) → every harmless (decimal n) ≡ true
unfolding decimal
decimal-harmless n = digits-harmless (places n) n

hex_harmless : (n : ℕ) → harmless (hex_digit (n % 16)) ≡ true
unfolding hex_digit
hex_harmless n = go (ltb (n % 16) 10) refl
  where
    go : (t : Bool) → ltb (n % 16) 10 ≡ t → harmless (cond t (0x30 + n % 16) (0x57 + n % 16)) ≡ true
    go true e = let l = ltb-true (n % 16) 10 e in harmless_of (0x30 + n % 16) (omega arith) (omega arith) (λ x. absurd (omega (arith, l, x)))
    go false e = harmless_of (0x57 + n % 16) (omega arith) (omega arith) (λ x. absurd (omega (arith, x)))

sign-harmless : (offset : ℕ) → harmless (sign offset) ≡ true
unfolding harmless crosses
sign-harmless offset = go (ltb offset 1439)
  where
    go : (t : Bool) → (in_value double (cond t 0x2D 0x2B) && ltb (cond t 0x2D 0x2B) 0x80) ≡ true
    go true = refl
    go false = refl

dash : harmless 0x2D ≡ true
unfolding harmless crosses
dash = refl

point : harmless 0x2E ≡ true
unfolding harmless crosses
point = refl

colon : harmless 0x3A ≡ true
unfolding harmless crosses
colon = refl

letter-t : harmless 0x54 ≡ true
unfolding harmless crosses
letter-t = refl

-- ---- what is written
pub number-spelt : (n : ℕ) → Spelt (Value double) (decimal n)
number-spelt n = plain-spelt (decimal n) (decimal-harmless n)

pub time-spelt : (secs nanos : ℕ) → Spelt (Value double) (written_time secs nanos)
unfolding time_text
time-spelt secs nanos =
    let ms : ℕ = thousandths_of (float_sum secs nanos) in
    plain-spelt (written_time secs nanos) (every_append harmless (decimal (ms / 1000)) (0x2E ∷ last_digits_of 3 ms) (decimal-harmless (ms / 1000)) (both point (digits-harmless 3 ms)))

timestamp-harmless : (m : Moment) → every harmless (timestamp_text m) ≡ true
unfolding date_text clock_text offset_text timestamp_text
timestamp-harmless m = simp (digit-harmless, sign-harmless m.offset, dash, point, colon, letter-t)

pub timestamp-spelt : (m : Moment) → Spelt (Value double) (timestamp_text m)
timestamp-spelt m = plain-spelt (timestamp_text m) (timestamp-harmless m)

uuid-harmless : (w : Words) → every harmless (uuid_text w) ≡ true
unfolding uuid_text
uuid-harmless w = simp (hex_harmless, dash)

pub uuid-spelt : (w : Words) → Spelt (Value double) (uuid_text w)
uuid-spelt w = plain-spelt (uuid_text w) (uuid-harmless w)
