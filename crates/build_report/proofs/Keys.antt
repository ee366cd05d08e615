-- Extras by their keys: `IndexMap::insert` puts a new value in the old place, or a new pair at the end. Assumes nothing.
use Prim.Native.Nat.{ℕ, ◌+◌, ◌<◌}
use mathlib.Core.Bool.{Bool, true, false, cond, ◌||◌}
use mathlib.Core.List.{List, [], ◌∷◌, ◌++◌}
use mathlib.Core.Path.{◌≡◌, refl, sym, ap, ◌∙◌}
use native.Mathlib.Omega.{arith}
use lib.ListN.{length}
use Rattle.tree_placed.specs.of_names.Names.{same_bytes}
use Rattle.tree_placed.specs.of_tree_report.Report.{Text, Pair}
use Rattle.build_report.specs.Operations.{insert, is_empty}
use Rattle.build_report.specs.Builders.{has_key}

pub empty-list : {A : Type 0} (xs : List A) → is_empty xs ≡ true → xs ≡ []
empty-list [] e = refl
empty-list (x ∷ xs) e = let z : ◌≡◌ {A = ℕ} 0 1 = cc in absurd (omega arith)

-- the number of the first with this key, and how many there are where none has it
abbrev pub key_index : Text → List Pair → ℕ
key_index key [] = 0
key_index key (q ∷ qs) = cond (same_bytes q.key key) 0 (key_index key qs + 1)

-- the old pair's key with the new pair's value
abbrev pub renewed : Pair → Pair → Pair
renewed p q = record { key = q.key; value = p.value }

pub record OldKey (p : Pair) (ps : List Pair) : Type 0 where
  pub before : List Pair
  pub old : Pair
  pub behind : List Pair
  pub here : ps ≡ before ++ (old ∷ behind)
  pub there : insert p ps ≡ before ++ (renewed p old ∷ behind)
  pub at : length before ≡ key_index p.key ps

old-next : {p : Pair} (q : Pair) {qs : List Pair} → same_bytes q.key p.key ≡ false → OldKey p qs → OldKey p (q ∷ qs)
old-next {p} q {qs} t k = record {
  before = q ∷ k.before;
  old = k.old;
  behind = k.behind;
  here = ap (λ (l : List Pair). q ∷ l) k.here;
  there = rw t (ap (λ (l : List Pair). q ∷ l) k.there);
  at = let a = k.at in rw t (omega arith);
}

pub old-key : (p : Pair) (ps : List Pair) → has_key p.key ps ≡ true → OldKey p ps
old-key p [] e = let z : ◌≡◌ {A = ℕ} 0 1 = cc in absurd (omega arith)
old-key p (q ∷ qs) e = go (old-key p qs) (same_bytes q.key p.key) refl
  where
    go : (has_key p.key qs ≡ true → OldKey p qs) → (t : Bool) → same_bytes q.key p.key ≡ t → OldKey p (q ∷ qs)
    go f true t = record { before = []; old = q; behind = qs; here = refl; there = rw t refl; at = rw t refl }
    go f false t = old-next q t (f (sym (ap (λ (a : Bool). a || has_key p.key qs) t) ∙ e))

-- ---- a new key
new-both : (a b : Bool) → (a || b) ≡ false → (a ≡ false) × (b ≡ false)
new-both true b e = let z : ◌≡◌ {A = ℕ} 0 1 = cc in absurd (omega arith)
new-both false b e = (refl, e)

pub new-key : (p : Pair) (ps : List Pair) → has_key p.key ps ≡ false → insert p ps ≡ ps ++ (p ∷ [])
new-key p [] e = refl
new-key p (q ∷ qs) e =
    let t = new-both (same_bytes q.key p.key) (has_key p.key qs) e in
    rw t.0 (ap (λ (l : List Pair). q ∷ l) (new-key p qs t.1))

pub index-new : (key : Text) (ps : List Pair) → has_key key ps ≡ false → key_index key ps ≡ length ps
index-new key [] e = refl
index-new key (q ∷ qs) e =
    let t = new-both (same_bytes q.key key) (has_key key qs) e in
    let n = index-new key qs t.1 in
    rw t.0 (omega arith)

pub index_old : (key : Text) (ps : List Pair) → has_key key ps ≡ true → key_index key ps < length ps
index_old key [] e = let z : ◌≡◌ {A = ℕ} 0 1 = cc in absurd (omega arith)
index_old key (q ∷ qs) e = go (index_old key qs) (same_bytes q.key key) refl
  where
    go : (has_key key qs ≡ true → key_index key qs < length qs) → (t : Bool) → same_bytes q.key key ≡ t → key_index key (q ∷ qs) < length (q ∷ qs)
    go f true t = rw t (omega arith)
    go f false t = let n = f (sym (ap (λ (a : Bool). a || has_key key qs) t) ∙ e) in rw t (omega arith)
