-- What is printed for an input: the same where the same was found in it. Assumes nothing.
use Prim.Native.Nat.{ℕ, ◌+◌, ◌-◌, ◌≤◌, min}
use mathlib.Core.Path.{◌≡◌, refl, sym, ap, ◌∙◌}
use mathlib.Core.List.{List}
use mathlib.Core.Option.{Option, none, some}
use native.Mathlib.Omega.{arith}
use lib.ListN.{length, take, drop}
use lib.Seq.{take-length}
use Rattle.list_input.specs.of_area.Area.{zeros, laid}
use Rattle.list_input.specs.Input.{Table, found_of, Lies}
use Rattle.std.specs.Prelude.{Option as Maybe, Some, None}
use Rattle.list_input.specs.declared.Parts.{Parts}
use Rattle.list_printing.specs.Printed.{Buffers, buffers, listing_for, printed, program_prints}

-- the output area holds f, and n bytes of it fit
abbrev pub Prints : (k : ℕ) (f out : List ℕ) (n : ℕ) → Type 0
Prints k f out n = (out ≡ laid (zeros k) f) × (n ≡ min k (length f))

pub same-found : (b : Buffers) (k : ℕ) (o q : Option Table) → o ≡ q → (out : List ℕ) (n : ℕ) → Prints k (listing_for b o) out n → Prints k (listing_for b q) out n
same-found b k o q e out n h = rw e at h

module _ (found : Maybe Parts) (x : Parts) (e : found ≡ Some x) where
  -- the three slices that the code takes by the answer's numbers are the input's table
  pub found-is : (events attributes input : List ℕ) →
      some (record { events = take x.events events; attributes = take x.attributes attributes; source = take (x.at + x.source - x.at) (drop x.at input) })
      ≡ found_of found events attributes input
  found-is events attributes input =
      let s : x.at + x.source - x.at ≡ x.source = omega arith in
      ap (λ (n : ℕ). some (record { events = take x.events events; attributes = take x.attributes attributes; source = take n (drop x.at input) })) s
      ∙ sym (ap (λ (f : Maybe Parts). found_of f events attributes input) e)

  -- the slices by the answer's numbers lie in the areas and in the input: the bounds that the code needs
  pub found-lies : (m n k : ℕ) → Lies found m n k → (x.events ≤ m) × ((x.attributes ≤ n) × (x.at + x.source ≤ k))
  found-lies m n k l = let q : Lies (Some x) m n k = rw e at l in (q.0, (q.1, q.3))

-- the answer None means that the input holds no table
pub found-not : (found : Maybe Parts) → found ≡ None → (events attributes input : List ℕ) → none ≡ found_of found events attributes input
found-not found e events attributes input = sym (ap (λ (f : Maybe Parts). found_of f events attributes input) e)

-- areas of the program's sizes; b are those lent
pub program : (m n : ℕ) (b : Buffers) (out : List ℕ) (k : ℕ) (input : List ℕ) → m ≡ 16384 → n ≡ 16384 → b ≡ buffers →
    Prints b.out (printed m n b (take (length input) input)) out k → Prints 65536 (program_prints input) out k
program m n b out k input p q r h = rw (p, q, r, take-length input) at h

pub sized : (records text scratch out : ℕ) → records ≡ 16384 → text ≡ 65536 → scratch ≡ 65536 → out ≡ 65536 → record { records = records; text = text; scratch = scratch; out = out } ≡ buffers
sized records text scratch out p q r t = rw (p, q, r, t) refl
