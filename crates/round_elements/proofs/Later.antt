-- A text put into a record later: what it changes, and what stays. Assumes nothing.
use Prim.Native.Nat.{ℕ, zero, suc, ◌+◌, ◌*◌, ◌<◌, min}
use mathlib.Core.Bool.{Bool, true, not, ◌&&◌}
use mathlib.Core.List.{List, [], ◌∷◌, ◌++◌, append_assoc}
use mathlib.Core.Option.{some}
use mathlib.Core.Path.{◌≡◌, refl, ap, ap₂, ◌∙◌}
use native.Mathlib.Omega.{arith}
use borrow.Author.Tests.{eqb-false, not-true}
use lib.Dec.{eqb, lit<}
use lib.ListN.{length, get_or, take, drop}
use lib.Seq.{take_at, drop-append_seam}
use Rattle.read_machine.specs.of_tree_record.Words as word
use Rattle.read_machine.specs.of_tree_record.Bits as bit
use Rattle.read_machine.proofs.of_tree_record.Marks.{marked_other, marked-bit, marked-bits}
use Rattle.write_report.specs.of_tree_report.Report.{Text}
use Rattle.write_report.specs.of_tree_report.Fields.{kind_of, has_bit, given, text_at, number_at, first, system_out, system_err, second, description, stack_trace, hostname, timestamp, time, counts, assertions}
use Rattle.write_report.specs.of_tree_report.Encode.{every}
use Rattle.write_report.proofs.of_tree_report.EncodeLists.{and_left, and_right}
use Rattle.read_machine.specs.of_tree_put.Put.{put_pair, put_text}
use Rattle.read_machine.proofs.of_tree_put.Puts.{pair-length, pair-first, pair-second, pair-other, pair-bits, text-length}
use Rattle.round_elements.specs.inside.Opened.{Lasting}

-- ---- any text
module _ (o k a n : ℕ) (r : List ℕ) where
  later-word : (p : ℕ) → (p ≡ 1 → ⊥) → (p ≡ o → ⊥) → (p ≡ o + 1 → ⊥) → get_or (put_text o k a n r) p 0 ≡ get_or r p 0
  later-word p h i j = marked_other k (put_pair o a n r) p h ∙ pair-other o a n r p i j

  module _ (low : 1 < o) where
    bits-apart : (j : ℕ) → (min j 31 ≡ min k 31 → ⊥) → has_bit j (put_text o k a n r) ≡ has_bit j r
    bits-apart j h = marked-bits k (put_pair o a n r) j h ∙ pair-bits o a n r j low

    module _ (high : o + 1 < length r) where
      later-own : has_bit k (put_text o k a n r) ≡ true
      later-own = marked-bit k (put_pair o a n r) (rw (pair-length o a n r) (omega arith))

      later-start : get_or (put_text o k a n r) o 0 ≡ a
      later-start = marked_other k (put_pair o a n r) o (λ e. omega arith) ∙ pair-first o a n r (omega arith)

      later-size : get_or (put_text o k a n r) (o + 1) 0 ≡ n
      later-size = marked_other k (put_pair o a n r) (o + 1) (λ e. omega arith) ∙ pair-second o a n r high

-- the text itself, stored behind the others
pub later-text : (o k : ℕ) (texts v r : List ℕ) → length r ≡ 32 → 1 < o → o + 1 < 32
    → Lasting (texts ++ v) (λ t. given (has_bit k (put_text o k (length texts) (length v) r)) (text_at t (put_text o k (length texts) (length v) r) o)) (some v)
later-text o k texts v r h low high z =
    let l : o + 1 < length r = omega arith in
    rw (later-own o k (length texts) (length v) r low l, later-start o k (length texts) (length v) r low l, later-size o k (length texts) (length v) r low l)
    (ap (λ (t : Text). some t) (rw (append_assoc texts v z, drop-append_seam texts (v ++ z)) (take_at v z (length v) refl)))

-- ---- what stays, by tests that compute
-- word p isn't one that a text at o changes; bit j isn't k
abbrev apart : ℕ → ℕ → Bool
apart o p = not (eqb p 1) && (not (eqb p o) && not (eqb p (o + 1)))

abbrev differs : ℕ → ℕ → Bool
differs k j = not (eqb (min j 31) (min k 31))

-- two records that differ in the words and the bit of a text at most
record Beside (o k : ℕ) (r r' : List ℕ) : Type 0 where
  word : (p : ℕ) → apart o p ≡ true → get_or r' p 0 ≡ get_or r p 0
  bit : (j : ℕ) → differs k j ≡ true → has_bit j r' ≡ has_bit j r

put-beside : (o k a n : ℕ) (r : List ℕ) → 1 < o → Beside o k r (put_text o k a n r)
put-beside o k a n r low = record {
  word = λ p e.
      let f = and_right (not (eqb p 1)) (not (eqb p o) && not (eqb p (o + 1))) e in
      later-word o k a n r p
      (eqb-false p 1 (not-true (eqb p 1) (and_left (not (eqb p 1)) (not (eqb p o) && not (eqb p (o + 1))) e)))
      (eqb-false p o (not-true (eqb p o) (and_left (not (eqb p o)) (not (eqb p (o + 1))) f)))
      (eqb-false p (o + 1) (not-true (eqb p (o + 1)) (and_right (not (eqb p o)) (not (eqb p (o + 1))) f)));
  bit = λ j e. bits-apart o k a n r low j (eqb-false (min j 31) (min k 31) (not-true (eqb (min j 31) (min k 31)) e));
}

module _ {o k : ℕ} {r r' : List ℕ} (b : Beside o k r r') where
  text-kept : (p : ℕ) → apart o p ≡ true → apart o (p + 1) ≡ true → (t : List ℕ) → text_at t r' p ≡ text_at t r p
  text-kept p e f t = ap₂ (λ (x y : ℕ). take y (drop x t)) (b.word p e) (b.word (p + 1) f)

  given-kept : (j p : ℕ) → differs k j ≡ true → apart o p ≡ true → apart o (p + 1) ≡ true → (t : List ℕ) → given (has_bit j r') (text_at t r' p) ≡ given (has_bit j r) (text_at t r p)
  given-kept j p d e f t = ap₂ (λ (x : Bool) (y : Text). given x y) (b.bit j d) (text-kept p e f t)

  number-kept : (p : ℕ) → apart o p ≡ true → apart o (p + 1) ≡ true → number_at r' p ≡ number_at r p
  number-kept p e f = ap₂ (λ (x y : ℕ). x + y * 4294967296) (b.word p e) (b.word (p + 1) f)

each_at : (p : ℕ → Bool) (ns : List ℕ) → every p ns ≡ true → (i : ℕ) → i < length ns → p (get_or ns i 0) ≡ true
each_at p [] e i h = absurd (omega arith)
each_at p (n ∷ ns) e zero h = and_left (p n) (every p ns) e
each_at p (n ∷ ns) e (suc i) h = each_at p ns (and_right (p n) (every p ns) e) i (omega arith)

-- ---- what no text that comes later changes: kind, first and second text, timestamp, time, the flaky bit
abbrev common_words : List ℕ
common_words = 0 ∷ 2 ∷ 3 ∷ 8 ∷ 9 ∷ 10 ∷ 11 ∷ 12 ∷ 13 ∷ 14 ∷ 15 ∷ 16 ∷ 17 ∷ 18 ∷ 19 ∷ []

abbrev common_bits : List ℕ
common_bits = bit.name ∷ bit.timestamp ∷ bit.time ∷ bit.classname ∷ bit.flaky ∷ []

pub record Kept (r r' : List ℕ) : Type 0 where
  pub long : length r' ≡ length r
  pub kind : kind_of r' ≡ kind_of r
  pub name : (t : List ℕ) → text_at t r' word.name ≡ text_at t r word.name
  pub first : (t : List ℕ) → first t r' ≡ first t r
  pub second : (t : List ℕ) → second t r' ≡ second t r
  pub timestamp : timestamp r' ≡ timestamp r
  pub time : time r' ≡ time r
  pub flaky : has_bit bit.flaky r' ≡ has_bit bit.flaky r

common-kept : {o k : ℕ} {r r' : List ℕ} → length r' ≡ length r → Beside o k r r' → every (apart o) common_words ≡ true → every (differs k) common_bits ≡ true → Kept r r'
common-kept {o} {k} {r} {r'} l b e f =
    let w : (i : ℕ) → i < 15 → get_or r' (get_or common_words i 0) 0 ≡ get_or r (get_or common_words i 0) 0 = λ i h. b.word (get_or common_words i 0) (each_at (apart o) common_words e i h) in
    let u : (i : ℕ) → i < 15 → apart o (get_or common_words i 0) ≡ true = λ i h. each_at (apart o) common_words e i h in
    let v : (i : ℕ) → i < 5 → differs k (get_or common_bits i 0) ≡ true = λ i h. each_at (differs k) common_bits f i h in
    record {
      long = l;
      kind = w 0 (lit< tt);
      name = text-kept b 2 (u 1 (lit< tt)) (u 2 (lit< tt));
      first = given-kept b 0 2 (v 0 (lit< tt)) (u 1 (lit< tt)) (u 2 (lit< tt));
      second = given-kept b 5 18 (v 3 (lit< tt)) (u 13 (lit< tt)) (u 14 (lit< tt));
      timestamp =
          let d = b.bit 3 (v 1 (lit< tt)) in
          let year = w 3 (lit< tt) in
          let month = w 4 (lit< tt) in
          let day = w 5 (lit< tt) in
          let hour = w 6 (lit< tt) in
          let minute = w 7 (lit< tt) in
          let second = w 8 (lit< tt) in
          let nanos = w 9 (lit< tt) in
          let offset = w 10 (lit< tt) in
          λ i. given (d i) (record { year = year i; month = month i; day = day i; hour = hour i; minute = minute i; second = second i; nanos = nanos i; offset = offset i });
      time =
          let d = b.bit 4 (v 2 (lit< tt)) in
          let seconds = w 11 (lit< tt) in
          let nanos = w 12 (lit< tt) in
          λ i. given (d i) (record { seconds = seconds i; nanos = nanos i });
      flaky = b.bit 9 (v 4 (lit< tt));
    }

-- ---- the texts that come later, by their words; a is where the text starts, n its length
-- system-out
pub record OutKept (r r' : List ℕ) : Type 0 where
  pub common : Kept r r'
  pub counts : counts r' ≡ counts r
  pub assertions : assertions r' ≡ assertions r
  pub hostname : (t : List ℕ) → hostname t r' ≡ hostname t r
  pub err : (t : List ℕ) → system_err t r' ≡ system_err t r
  pub description : (t : List ℕ) → description t r' ≡ description t r
  pub stack_trace : (t : List ℕ) → stack_trace t r' ≡ stack_trace t r

-- system-err
pub record ErrKept (r r' : List ℕ) : Type 0 where
  pub common : Kept r r'
  pub counts : counts r' ≡ counts r
  pub assertions : assertions r' ≡ assertions r
  pub hostname : (t : List ℕ) → hostname t r' ≡ hostname t r
  pub out : (t : List ℕ) → system_out t r' ≡ system_out t r
  pub description : (t : List ℕ) → description t r' ≡ description t r
  pub stack_trace : (t : List ℕ) → stack_trace t r' ≡ stack_trace t r

-- a description stands where a case's assertions are, a stack trace where a count is
pub record DescriptionKept (r r' : List ℕ) : Type 0 where
  pub common : Kept r r'
  pub out : (t : List ℕ) → system_out t r' ≡ system_out t r
  pub err : (t : List ℕ) → system_err t r' ≡ system_err t r
  pub stack_trace : (t : List ℕ) → stack_trace t r' ≡ stack_trace t r

pub record TraceKept (r r' : List ℕ) : Type 0 where
  pub common : Kept r r'
  pub assertions : assertions r' ≡ assertions r
  pub out : (t : List ℕ) → system_out t r' ≡ system_out t r
  pub err : (t : List ℕ) → system_err t r' ≡ system_err t r
  pub description : (t : List ℕ) → description t r' ≡ description t r

abbrev count_words : List ℕ
count_words = 18 ∷ 19 ∷ 20 ∷ 21 ∷ 22 ∷ 23 ∷ 24 ∷ 25 ∷ 26 ∷ 27 ∷ []

counts-kept : {o k : ℕ} {r r' : List ℕ} → Beside o k r r' → every (apart o) count_words ≡ true → differs k bit.disabled ≡ true → counts r' ≡ counts r
counts-kept {o} b e d =
    let u : (i : ℕ) → i < 10 → apart o (get_or count_words i 0) ≡ true = λ i h. each_at (apart o) count_words e i h in
    let tests = number-kept b 18 (u 0 (lit< tt)) (u 1 (lit< tt)) in
    let failures = number-kept b 20 (u 2 (lit< tt)) (u 3 (lit< tt)) in
    let errors = number-kept b 22 (u 4 (lit< tt)) (u 5 (lit< tt)) in
    let skipped = number-kept b 24 (u 6 (lit< tt)) (u 7 (lit< tt)) in
    let disabled = number-kept b 26 (u 8 (lit< tt)) (u 9 (lit< tt)) in
    let present = b.bit 8 d in
    λ i. record { tests = tests i; failures = failures i; errors = errors i; skipped = skipped i; disabled = given (present i) (disabled i) }

assertions-kept : {o k : ℕ} {r r' : List ℕ} → Beside o k r r' → differs k bit.assertions ≡ true → apart o 20 ≡ true → apart o 21 ≡ true → assertions r' ≡ assertions r
assertions-kept b d e f = ap₂ (λ (x : Bool) (y : ℕ). given x y) (b.bit 6 d) (number-kept b 20 e f)

module _ (a n : ℕ) (r : List ℕ) where
  pub out-kept : OutKept r (put_text word.out bit.out a n r)
  out-kept =
      let b : Beside 4 1 r (put_text 4 1 a n r) = put-beside 4 1 a n r (lit< tt) in
      record {
        common = common-kept (text-length 4 1 a n r) b refl refl;
        counts = counts-kept b refl refl;
        assertions = assertions-kept b refl refl refl;
        hostname = given-kept b 10 28 refl refl refl;
        err = given-kept b 2 6 refl refl refl;
        description = given-kept b 6 20 refl refl refl;
        stack_trace = given-kept b 7 22 refl refl refl;
      }

  pub err-kept : ErrKept r (put_text word.err bit.err a n r)
  err-kept =
      let b : Beside 6 2 r (put_text 6 2 a n r) = put-beside 6 2 a n r (lit< tt) in
      record {
        common = common-kept (text-length 6 2 a n r) b refl refl;
        counts = counts-kept b refl refl;
        assertions = assertions-kept b refl refl refl;
        hostname = given-kept b 10 28 refl refl refl;
        out = given-kept b 1 4 refl refl refl;
        description = given-kept b 6 20 refl refl refl;
        stack_trace = given-kept b 7 22 refl refl refl;
      }

  pub description-kept : DescriptionKept r (put_text word.description bit.description a n r)
  description-kept =
      let b : Beside 20 6 r (put_text 20 6 a n r) = put-beside 20 6 a n r (lit< tt) in
      record {
        common = common-kept (text-length 20 6 a n r) b refl refl;
        out = given-kept b 1 4 refl refl refl;
        err = given-kept b 2 6 refl refl refl;
        stack_trace = given-kept b 7 22 refl refl refl;
      }

  pub trace-kept : TraceKept r (put_text word.stack_trace bit.stack_trace a n r)
  trace-kept =
      let b : Beside 22 7 r (put_text 22 7 a n r) = put-beside 22 7 a n r (lit< tt) in
      record {
        common = common-kept (text-length 22 7 a n r) b refl refl;
        assertions = assertions-kept b refl refl refl;
        out = given-kept b 1 4 refl refl refl;
        err = given-kept b 2 6 refl refl refl;
        description = given-kept b 6 20 refl refl refl;
      }
