-- `proofs/Pattern.antt` says what the digits of x's bit pattern are.
use mathlib.Core.Path.{◌≡◌, sym, subst}
use mathlib.Core.Bool.{true}
use Rattle.time_text.specs.Written.{small}
use Prim.Native.Nat.{ℕ, ◌+◌, ◌*◌, ◌/◌, ◌%◌, ◌^◌, ◌≤◌, ◌<◌}
use native.Mathlib.Nat.{le_antisymm, div-le_self, mod-le}
use native.Mathlib.Omega.{arith}
use lib.Dec.{T}
use lib.Ieee.{Float, binary64, fits}
use Rattle.time_text.proofs.Pattern.{no_nan, exponent_le, far, all-fits, unit-pos, lower-is, upper_is, level-is, D, U}
use Rattle.time_text.proofs.nearest_thousandth.Goals as goal

held : (x : Float) → fits binary64 x ≡ true → T (fits binary64 x)
held x e = subst T (sym e) tt

-- ---- past the first test: the product, at most half of 2 ^ 64, and the unit
abbrev A : (x : Float) → fits binary64 x ≡ true → T (small x) → ℕ
A x e r = D x (held x e) r * 1000

abbrev Unit-of : (x : Float) → fits binary64 x ≡ true → T (small x) → ℕ
Unit-of x e r = U x (held x e) r

half : (x : Float) (e : fits binary64 x ≡ true) (r : T (small x)) → A x e r * 2 < 2 ^ 64
half x e r = all-fits x (held x e) r

all-lt : (n : ℕ) → n * 2 < 2 ^ 64 → n < 2 ^ 64
all-lt n h = omega arith

twice-lt : (n m : ℕ) → n * 2 < 2 ^ 64 → m ≤ n → m * 2 < 2 ^ 64
twice-lt n m h k = omega arith

more_lt : (n q d : ℕ) → n * 2 < 2 ^ 64 → q ≤ n → d < 2 → q + d < 2 ^ 64
more_lt n q d h k l = omega arith

pub float_to_bits-bits : goal.float_to_bits-bits
float_to_bits-bits c = no_nan c.args.x c.requires

pub overflow_sub-shift : goal.overflow_sub-shift
overflow_sub-shift c = let h = exponent_le c.args.x (held c.args.x c.well_formed.0.1) c.requires in omega arith

pub returns-then-shift-ge64 : goal.returns-then-shift-ge64
returns-then-shift-ge64 c = far c.args.x (held c.args.x c.well_formed.0.1) c.requires c.if-shift-ge64.true

pub overflow_mul-all : goal.overflow_mul-all
overflow_mul-all c = record { fits = all-lt (A c.args.x c.well_formed.0.1 c.requires) (half c.args.x c.well_formed.0.1 c.requires) }

pub nonzero_div-whole : goal.nonzero_div-whole
nonzero_div-whole c = unit-pos c.args.x (held c.args.x c.well_formed.0.1) c.requires c.if-shift-ge64.false

pub nonzero_rem-left : goal.nonzero_rem-left
nonzero_rem-left c = unit-pos c.args.x (held c.args.x c.well_formed.0.1) c.requires c.if-shift-ge64.false

pub overflow_mul-left : goal.overflow_mul-left
overflow_mul-left c =
    record { fits = twice-lt (A c.args.x c.well_formed.0.1 c.requires) (A c.args.x c.well_formed.0.1 c.requires % Unit-of c.args.x c.well_formed.0.1 c.requires) (half c.args.x c.well_formed.0.1 c.requires) (mod-le (A c.args.x c.well_formed.0.1 c.requires) (Unit-of c.args.x c.well_formed.0.1 c.requires)) }

pub returns-then-left-unit : goal.returns-then-left-unit
returns-then-left-unit c =
    lower-is c.args.x (held c.args.x c.well_formed.0.1) c.requires c.if-shift-ge64.false c.if-left-unit.true

pub overflow_add-result : goal.overflow_add-result
overflow_add-result c =
    record { fits = more_lt (A c.args.x c.well_formed.0.1 c.requires) (A c.args.x c.well_formed.0.1 c.requires / Unit-of c.args.x c.well_formed.0.1 c.requires) 1 (half c.args.x c.well_formed.0.1 c.requires) (div-le_self (A c.args.x c.well_formed.0.1 c.requires) (Unit-of c.args.x c.well_formed.0.1 c.requires)) (omega arith) }

pub returns-then-left-unit-2 : goal.returns-then-left-unit-2
returns-then-left-unit-2 c =
    upper_is c.args.x (held c.args.x c.well_formed.0.1) c.requires c.if-shift-ge64.false c.if-left-unit-2.true

pub overflow_add-result-2 : goal.overflow_add-result-2
overflow_add-result-2 c =
    record { fits = more_lt (A c.args.x c.well_formed.0.1 c.requires) (A c.args.x c.well_formed.0.1 c.requires / Unit-of c.args.x c.well_formed.0.1 c.requires) (A c.args.x c.well_formed.0.1 c.requires / Unit-of c.args.x c.well_formed.0.1 c.requires % 2) (half c.args.x c.well_formed.0.1 c.requires) (div-le_self (A c.args.x c.well_formed.0.1 c.requires) (Unit-of c.args.x c.well_formed.0.1 c.requires)) (omega arith) }

pub returns : goal.returns
returns c =
    level-is c.args.x (held c.args.x c.well_formed.0.1) c.requires c.if-shift-ge64.false (le_antisymm c.if-left-unit-2.false c.if-left-unit.false)
