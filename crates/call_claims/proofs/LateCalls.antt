-- The parts of a builder's call refuse without a place, each with its own numbers. Assumes nothing.
use Prim.Native.Nat.{ℕ}
use mathlib.Core.Path.{◌≡◌, refl}
use mathlib.Core.List.{List}
use mathlib.Core.Bool.{Bool, true, false, cond, false≢true}
use Rattle.explain_text.specs.of_refusal.Refusal.{number, Refused, Outcome, accepted, refused, late}
use Rattle.explain_text.specs.of_refusal.declared.Cause.{Cause}
use Rattle.explain_text.specs.of_refusal.declared.Cause.TheVariants as cause
use Rattle.explain_text.specs.of_tree_record.Kinds as kind
use Rattle.tree_merge.specs.of_tree_counts.declared.Counts.{Counts}
use Rattle.tree_merge.specs.of_tree_counts.Counts.{are_counts, added, limited, with_suite}
use Rattle.port_values.specs.of_build_draft.Draft.{Draft, ◌>>=◌, asks, is_record, is_of, last_of}
use Rattle.port_values.specs.of_build_draft.Parts.{taking, keeping, putting, naming, counting, summing}
use Rattle.call_claims.specs.Demand1.{is_one_of, Late, Ends, completes, refuses}

-- o completes, or refuses with one of these numbers and without a place
abbrev pub Within : {A : Type 0} → List ℕ → Outcome A → Type 0
Within numbers o = Ends (Late numbers) (Unit {0}) o

pub ends : {A : Type 0} {Given : Refused → Type 0} {Left : Type 0} (o : Outcome A) → ((why : Refused) → o ≡ refused why → Given why) → ((why : Refused) → o ≡ refused why → Left)
    → Ends Given Left o
ends (accepted a) g l = completes
ends (refused why) g l = refuses (g why refl) (l why refl)

pub ends-leaving : {A : Type 0} {Given : Refused → Type 0} {Left : Type 0} {o : Outcome A} → Ends Given (Unit {0}) o → ((why : Refused) → o ≡ refused why → Left) → Ends Given Left o
ends-leaving completes l = completes
ends-leaving (refuses {why = why} g u) l = refuses g (l why refl)

module _ {ns : List ℕ} where
  pub within-late : {A : Type 0} (why : Cause) → is_one_of (number why) ns ≡ true → Within {A = A} ns (refused (late why))
  within-late why h = refuses (record { known = h; placeless = refl }) tt

  pub within-asks : {A : Type 0} (b : Bool) (why : Cause) {m : Outcome A} → is_one_of (number why) ns ≡ true → Within ns m → Within ns (asks b why m)
  unfolding asks
  within-asks true why h k = k
  within-asks false why h k = within-late why h

  -- a test that passes
  within-anyway : {A : Type 0} (b : Bool) (why : Cause) {m : Outcome A} → b ≡ true → Within ns m → Within ns (asks b why m)
  unfolding asks
  within-anyway true why e k = k
  within-anyway false why e k = absurd (false≢true e)

  pub within-then : {A B : Type 0} {m : Outcome A} {f : A → Outcome B} → Within ns m → ((a : A) → Within ns (f a)) → Within ns (m >>= f)
  unfolding ◌>>=◌
  within-then (completes {a = a}) k = k a
  within-then (refuses g u) k = refuses g u

  pub within-cond : {A : Type 0} (b : Bool) {m n : Outcome A} → Within ns m → Within ns n → Within ns (cond b m n)
  within-cond true h k = h
  within-cond false h k = k

  -- ---- records (12)
  pub within-taking : is_one_of 12 ns ≡ true → (k : ℕ) (d : Draft) → Within ns (taking k d)
  unfolding taking
  within-taking h k d = within-asks _ cause.RecordsSpent h completes

  -- ---- texts (2, 13), lossily (13), of a record that may be none (15)
  pub within-keeping : is_one_of 2 ns ≡ true → is_one_of 13 ns ≡ true → (lossy : Bool) (s : List ℕ) (d : Draft) → Within ns (keeping lossy s d)
  unfolding keeping
  within-keeping h k lossy s d = within-asks _ cause.NotUtf8 h (within-asks _ cause.TextFull k completes)

  within-lossy : is_one_of 13 ns ≡ true → (s : List ℕ) (d : Draft) → Within ns (keeping true s d)
  unfolding keeping
  within-lossy k s d = within-anyway true cause.NotUtf8 refl (within-asks _ cause.TextFull k completes)

  pub within-putting : is_one_of 2 ns ≡ true → is_one_of 13 ns ≡ true → is_one_of 15 ns ≡ true → (i o k : ℕ) (s : List ℕ) (d : Draft) → Within ns (putting i o k false s d)
  unfolding putting
  within-putting a b c i o k s d = within-asks _ cause.NotLayout c (within-then (within-keeping a b false s d) λ e. completes)

  pub within-putting-lossy : is_one_of 13 ns ≡ true → is_one_of 15 ns ≡ true → (i o k : ℕ) (s : List ℕ) (d : Draft) → Within ns (putting i o k true s d)
  unfolding putting
  within-putting-lossy b c i o k s d = within-asks _ cause.NotLayout c (within-then (within-lossy b s d) λ e. completes)

  pub within-naming : is_one_of 2 ns ≡ true → is_one_of 13 ns ≡ true → is_one_of 15 ns ≡ true → (s : List ℕ) (d : Draft) → Within ns (naming s d)
  unfolding naming
  within-naming a b c s d = within-putting a b c _ _ _ s d

  -- there is a record to name
  pub within-naming-one : is_one_of 2 ns ≡ true → is_one_of 13 ns ≡ true → (s : List ℕ) (d : Draft) → is_record d.builder d.words (last_of d.builder) ≡ true → Within ns (naming s d)
  unfolding naming putting
  within-naming-one a b s d e = within-anyway _ cause.NotLayout e (within-then (within-keeping a b false s d) λ f. completes)

  -- ---- counts (17)
  pub within-limited : is_one_of 17 ns ≡ true → (c : Counts) → Within ns (limited c)
  within-limited h c = within-cond (are_counts c) completes (within-late cause.CountLimit h)

  pub within-suite : is_one_of 17 ns ≡ true → (c s : Counts) → Within ns (with_suite c s)
  unfolding with_suite
  within-suite h c s = within-limited h (added c s)

  pub within-counting : (i : ℕ) {o : Outcome Counts} (d : Draft) → Within ns o → Within ns (counting i o d)
  unfolding counting
  within-counting i d h = within-then h λ c. completes

  pub within-summing : is_one_of 17 ns ≡ true → (d : Draft) → Within ns (summing d)
  unfolding summing
  within-summing h d = within-cond (is_of d.builder d.words d.builder.suite kind.suite) (within-counting _ d (within-suite h _ _)) completes
