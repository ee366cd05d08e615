-- A record's words and presence bits behind a store. Assumes nothing.
use Prim.Native.Nat.{ℕ, ◌+◌, ◌/◌, ◌%◌, min, ◌≤◌, ◌<◌}
use mathlib.Core.Path.{◌≡◌, refl, ap, ◌∙◌}
use mathlib.Core.List.{List, [], ◌∷◌, ◌++◌, append_assoc}
use mathlib.Core.Bool.{true}
use mathlib.Core.Logic.{◌⊎◌, inl, inr}
use native.Mathlib.Omega.{arith}
use native.Mathlib.Nat.{mod-add-div'}
use lib.Dec.{eqb}
use lib.ListN.{length, get_or, take, drop, set, length-set}
use lib.Seq.{get_or-set_same, get_or-set_other, drop_at, take_at}
use Rattle.tree_placed.specs.of_tree_report.Fields.{kind_of, text_at, number_at}
use Rattle.tree_placed.specs.of_tree_record.Record.{mask_of, has_bit, marked}
use Rattle.tree_placed.specs.of_tree_put.Put.{put_pair, put_text, put_count_of, put_words}
use Rattle.tree_placed.proofs.of_tree_record.Marks.{marked-length, marked_other, marked-bit, marked-bits}

-- ---- a change of the words from lo to below hi, and of the bit k, which is at most 31
pub record Keeps (k lo hi : ℕ) (r s : List ℕ) : Type 0 where
  pub long : length s ≡ length r
  pub kind : kind_of s ≡ kind_of r
  pub word : (p : ℕ) → 2 ≤ p → (p < lo) ⊎ (hi ≤ p) → get_or s p 0 ≡ get_or r p 0
  pub bits : (j : ℕ) → (min j 31 ≡ k → ⊥) → has_bit j s ≡ has_bit j r

pub keeps-all : (k lo hi : ℕ) (r : List ℕ) → Keeps k lo hi r r
keeps-all k lo hi r = record { long = refl; kind = refl; word = λ p h o. refl; bits = λ j h. refl }

pub keeps_then : {k lo hi : ℕ} {r s t : List ℕ} → Keeps k lo hi r s → Keeps k lo hi s t → Keeps k lo hi r t
keeps_then a b =
    record {
      long = b.long ∙ a.long;
      kind = b.kind ∙ a.kind;
      word = λ p h o. b.word p h o ∙ a.word p h o;
      bits = λ j h. b.bits j h ∙ a.bits j h;
    }

outside : (lo hi o p : ℕ) → lo ≤ o → o < hi → (p < lo) ⊎ (hi ≤ p) → p ≡ o → ⊥
outside lo hi o p a b (inl h) e = omega arith
outside lo hi o p a b (inr h) e = omega arith

pub set_keeps : (k lo hi : ℕ) (r : List ℕ) (o v : ℕ) → 2 ≤ lo → lo ≤ o → o < hi → Keeps k lo hi r (set r o v)
set_keeps k lo hi r o v h a b =
    record {
      long = length-set r o v;
      kind = get_or-set_other r o 0 v 0 (λ e. omega arith);
      word = λ p g s. get_or-set_other r o p v 0 (outside lo hi o p a b s);
      bits = λ j g. ap (λ (n : ℕ). eqb (n / mask_of j % 2) 1) (get_or-set_other r o 1 v 0 (λ e. omega arith));
    }

pub marked-keeps : (k lo hi : ℕ) (r : List ℕ) → Keeps (min k 31) lo hi r (marked k r)
marked-keeps k lo hi r =
    record {
      long = marked-length k r;
      kind = marked_other k r 0 (λ e. omega arith);
      word = λ p g s. marked_other k r p (λ e. omega arith);
      bits = λ j g. marked-bits k r j g;
    }

pub pair_keeps : (k o a b : ℕ) (r : List ℕ) → 2 ≤ o → Keeps k o (o + 2) r (put_pair o a b r)
pair_keeps k o a b r h =
    keeps_then (set_keeps k o (o + 2) r o a h (omega arith) (omega arith)) (set_keeps k o (o + 2) (set r o a) (o + 1) b h (omega arith) (omega arith))

pub text-keeps : (k o a b : ℕ) (r : List ℕ) → 2 ≤ o → Keeps (min k 31) o (o + 2) r (put_text o k a b r)
text-keeps k o a b r h = keeps_then (pair_keeps (min k 31) o a b r h) (marked-keeps k o (o + 2) (put_pair o a b r))

pub words-keep : (k lo hi : ℕ) (o : ℕ) (vs : List ℕ) (r : List ℕ) → 2 ≤ lo → lo ≤ o → o + length vs ≤ hi → Keeps k lo hi r (put_words o vs r)
words-keep k lo hi o [] r h a b = keeps-all k lo hi r
words-keep k lo hi o (v ∷ vs) r h a b =
    keeps_then (set_keeps k lo hi r o v h a (omega arith)) (words-keep k lo hi (o + 1) vs (set r o v) h (omega arith) (omega arith))

-- ---- what is stored is there
module _ (o a b : ℕ) (r : List ℕ) (l : length r ≡ 32) (h : 2 ≤ o) (m : o + 1 < 32) where
  pub pair-first : get_or (put_pair o a b r) o 0 ≡ a
  pair-first = get_or-set_other (set r o a) (o + 1) o b 0 (λ e. omega arith) ∙ get_or-set_same r o a 0 (omega arith)

  pub pair-second : get_or (put_pair o a b r) (o + 1) 0 ≡ b
  pair-second = get_or-set_same (set r o a) (o + 1) b 0 (omega (arith, length-set r o a))

  module _ (k : ℕ) where
    pub marked-first : get_or (marked k (put_pair o a b r)) o 0 ≡ a
    marked-first = marked_other k (put_pair o a b r) o (λ e. omega arith) ∙ pair-first

    pub marked-second : get_or (marked k (put_pair o a b r)) (o + 1) 0 ≡ b
    marked-second = marked_other k (put_pair o a b r) (o + 1) (λ e. omega arith) ∙ pair-second

    pub marked-there : has_bit k (marked k (put_pair o a b r)) ≡ true
    marked-there = marked-bit k (put_pair o a b r) (let e : length (put_pair o a b r) ≡ length r = (pair_keeps k o a b r h).long in omega arith)

-- a count's words make it
pub count-there : (o n : ℕ) (r : List ℕ) → length r ≡ 32 → 2 ≤ o → o + 1 < 32 → number_at (put_count_of o n r) o ≡ n
count-there o n r l h m =
    rw (pair-first o (n % 4294967296) (n / 4294967296) r l h m, pair-second o (n % 4294967296) (n / 4294967296) r l h m) (mod-add-div' n 4294967296)

pub number-there : (k o n : ℕ) (r : List ℕ) → length r ≡ 32 → 2 ≤ o → o + 1 < 32 → number_at (marked k (put_count_of o n r)) o ≡ n
number-there k o n r l h m =
    rw (marked-first o (n % 4294967296) (n / 4294967296) r l h m k, marked-second o (n % 4294967296) (n / 4294967296) r l h m k) (mod-add-div' n 4294967296)

-- a text stored behind the others is read back, whatever comes behind it
pub text-there : (k o : ℕ) (t v u r : List ℕ) → length r ≡ 32 → 2 ≤ o → o + 1 < 32 →
    text_at ((t ++ v) ++ u) (put_text o k (length t) (length v) r) o ≡ v
text-there k o t v u r l h m =
    rw (marked-first o (length t) (length v) r l h m k, marked-second o (length t) (length v) r l h m k)
    (ap (λ (s : List ℕ). take (length v) (drop (length t) s)) (append_assoc t v u)
    ∙ ap (take (length v)) (drop_at t (v ++ u) (length t) refl) ∙ take_at v u (length v) refl)
