-- The cells of a record: numbers and times are good in a layout, and are read back. Assumes nothing.
use Prim.Native.Nat.{ℕ, ◌+◌, ◌*◌, ◌/◌, ◌%◌, min}
use mathlib.Core.Bool.{Bool, true, false, cond}
use mathlib.Core.List.{List, [], ◌∷◌}
use mathlib.Core.Option.{Option, none, some}
use mathlib.Core.Path.{◌≡◌, refl, sym, ap, ◌∙◌}
use native.Mathlib.Nat.{mod-add-div'}
use native.Mathlib.Omega.{arith}
use borrow.Author.Tests.{eq-eqb}
use lib.Dec.{eqb}
use lib.ListN.{get_or, take, drop}
use Rattle.tree_status.specs.of_tree_record.Record.{mask_of}
use Rattle.tree_report.specs.inside.Cells.{is_given, first_word, second_word, of_number, uuid_back, is_some, moment_or_zero, time_or_zero, fits_moment, fits_time, flags_of}
use Rattle.tree_report.specs.Fields.{has_bit, given, number_at, moment_of, timestamp, time}
use Rattle.tree_report.specs.Layout.{zero_at}
use Rattle.tree_report.specs.inside.Parts.{slot, moment_slot, time_slot, bits_of, only_bits}
use Rattle.schema.specs.of_timestamp.declared.Moment.{Moment}
use Rattle.schema.specs.of_uuids.declared.Words.{Words}
use Rattle.tree_report.specs.Report.{Duration}
pub use Rattle.schema.proofs.Tests.{bit-flag}

-- ---- the presence bits
-- what these bits come to, of all that are set
abbrev pub weights : List ℕ → List Bool → ℕ
weights [] bs = 0
weights (k ∷ ks) bs = mask_of k * cond (get_or bs (min k 31) false) 1 0 + weights ks bs

weight : (b : Bool) (n : ℕ) → cond b n 0 ≡ n * cond b 1 0
weight true n = omega arith
weight false n = omega arith

bits-weights : (r : List ℕ) (bs : List Bool) → get_or r 1 0 ≡ flags_of bs → (ks : List ℕ) → bits_of ks r ≡ weights ks bs
bits-weights r bs e [] = refl
bits-weights r bs e (k ∷ ks) =
    let b : has_bit k r ≡ get_or bs (min k 31) false = ap (λ (n : ℕ). eqb (n / mask_of k % 2) 1) e ∙ bit-flag (min k 31) bs in
    rw (b, weight (get_or bs (min k 31) false) (mask_of k), bits-weights r bs e ks) refl

-- a record whose flags come to no more than these bits' has only these bits set
pub only-bits : (r : List ℕ) (bs : List Bool) (ks : List ℕ) → get_or r 1 0 ≡ flags_of bs → flags_of bs ≡ weights ks bs → only_bits ks r ≡ true
only-bits r bs ks e h = eq-eqb (get_or r 1 0) (bits_of ks r) (e ∙ h ∙ sym (bits-weights r bs e ks))

-- ---- cells in a record r that has their words, and k for the place of their presence bit
-- the two words at o
abbrev pub Pairing : List ℕ → ℕ → ℕ → ℕ → Type 0
Pairing r o a b = (get_or r o 0 ≡ a) × (get_or r (o + 1) 0 ≡ b) × (take 2 (drop o r) ≡ a ∷ b ∷ [])

pub record NumberBack (r : List ℕ) (k o : ℕ) (n : Option ℕ) : Type 0 where
  pub good : slot (has_bit k r) true (zero_at r o 2) ≡ true
  pub back : given (has_bit k r) (number_at r o) ≡ n

-- a number's cell in a record is good, and the number is read back
pub number-back : (fill : ℕ) (r : List ℕ) (k o : ℕ) (n : Option ℕ) → has_bit k r ≡ is_given (of_number n) → Pairing r o (first_word fill (of_number n)) (second_word (of_number n)) → NumberBack r k o n
number-back fill r k o none b w = record { good = rw (b, w.2) refl; back = rw b refl }
number-back fill r k o (some n) b w = record { good = rw b refl; back = rw (b, w.0, w.1) (ap (λ (m : ℕ). some m) (mod-add-div' n 4294967296)) }

abbrev pub moment_words : Moment → List ℕ
moment_words m = m.year ∷ m.month ∷ m.day ∷ m.hour ∷ m.minute ∷ m.second ∷ m.nanos ∷ m.offset ∷ []

pub record MomentBack (r : List ℕ) (m : Option Moment) : Type 0 where
  pub good : fits_moment m ≡ true → moment_slot r ≡ true
  pub back : timestamp r ≡ m

-- a timestamp's words in a record are good, and the timestamp is read back
pub moment-back : (r : List ℕ) (m : Option Moment) → has_bit 3 r ≡ is_some m → moment_of r ≡ moment_or_zero m → take 8 (drop 8 r) ≡ moment_words (moment_or_zero m) → MomentBack r m
moment-back r none b e w = record { good = λ f. rw (b, w) refl; back = rw b refl }
moment-back r (some m) b e w = record { good = λ f. rw (b, e) f; back = rw (b, e) refl }

pub record TimeBack (r : List ℕ) (d : Option Duration) : Type 0 where
  pub good : fits_time d ≡ true → time_slot r ≡ true
  pub back : time r ≡ d

-- a time's words in a record are good, and the time is read back
pub time-back : (r : List ℕ) (d : Option Duration) → has_bit 4 r ≡ is_some d → Pairing r 16 (time_or_zero d).seconds (time_or_zero d).nanos → TimeBack r d
time-back r none b w = record { good = λ f. rw (b, w.2) refl; back = rw b refl }
time-back r (some d) b w = record { good = λ f. rw (b, w.0, w.1) f; back = rw (b, w.0, w.1) refl }

-- the second half of a UUID has no presence bit of its own
pub back-hidden : (u : Option Words) → is_given (uuid_back u) ≡ false
back-hidden none = refl
back-hidden (some u) = refl
