-- Along the order of records: what a case's status elements come to. Assumes nothing.
use Prim.Native.Nat.{ℕ, suc, ◌+◌, ◌≤◌}
use mathlib.Core.Bool.{Bool, true, false, cond, false≢true}
use mathlib.Core.List.{List, [], ◌∷◌}
use mathlib.Core.Path.{◌≡◌, refl, sym, ◌∙◌}
use native.Mathlib.Omega.{arith}
use borrow.Author.Tests.{leb-true, leb-false, lt-ltb, le-leb, lt-leb, ne_eqb}
use lib.Dec.{leb}
use lib.ListN.{length}
use Rattle.round_rooms.specs.of_tree_report.Fields.{kind_of, is_main, is_run, is_case_extra, is_case_property}
use Rattle.round_rooms.specs.of_tree_report.Layout.{Open, may_end, may_follow, following}
use Rattle.round_rooms.specs.of_tree_report.ReportOf.{only}
use Rattle.round_rooms.proofs.of_tree_report.EncodeLists.{and_right, Each, done, more}
use Rattle.round_rooms.proofs.of_read_machine.TreeOrder.{only-kind, Path, end, past, next}
use Rattle.round_case.specs.of_round_elements.inside.Read.{BelowCase, none, more as own, extra as an-extra}

-- ---- the path by its first record
pub path-first : {o p : Open} {κ : ℕ} {ks : List ℕ} → κ ≤ 14 → Path o (κ ∷ ks) p → (may_follow o (only-kind κ) ≡ true) × Path (following o (only-kind κ)) ks p
path-first {κ = κ} h (past e a) = absurd (false≢true (sym e ∙ lt-ltb κ 16 (omega arith)))
path-first h (next e m a) = (m, a)

-- what follows is nothing, a case or a suite
pub data High : List ℕ → Type 0 where
  over : High []
  a-suite : {ks : List ℕ} → High (2 ∷ ks)
  a_case : {ks : List ℕ} → High (3 ∷ ks)

-- then what is open may end
pub ends_there : {o p : Open} {ks : List ℕ} → High ks → Path o ks p → may_end p ≡ true → may_end o ≡ true
unfolding may_follow
ends_there over end e = e
ends_there {o} a-suite w e = and_right (leb 1 o.level) (may_end o) (path-first (omega arith) w).0
ends_there {o} a_case w e = and_right (leb 2 o.level) (may_end o) (path-first (omega arith) w).0

-- ---- records below a case, by sort
pub data Sorted (r : List ℕ) : Type 0 where
  property : kind_of r ≡ 5 → Sorted r
  main : 6 ≤ kind_of r → kind_of r ≤ 8 → Sorted r
  run : 9 ≤ kind_of r → kind_of r ≤ 12 → Sorted r
  extra : kind_of r ≡ 14 → Sorted r

sort-own : (r : List ℕ) → 5 ≤ kind_of r → kind_of r ≤ 12 → Sorted r
sort-own r a b = go (leb (kind_of r) 5) (leb (kind_of r) 8) refl refl
  where
    go : (x y : Bool) → leb (kind_of r) 5 ≡ x → leb (kind_of r) 8 ≡ y → Sorted r
    go true y p q = property (let h = leb-true (kind_of r) 5 p in omega arith)
    go false true p q = main (leb-false (kind_of r) 5 p) (leb-true (kind_of r) 8 q)
    go false false p q = run (leb-false (kind_of r) 8 q) b

pub sorted : {rs : List (List ℕ)} → BelowCase rs → Each Sorted rs
sorted none = done
sorted (own {r = r} h hs) = more (sort-own r h.0 h.1) (sorted hs)
sorted (an-extra {r = r} h hs) = more (extra h) (sorted hs)

-- the tests of each sort
pub record Tests (r : List ℕ) (x p m n : Bool) : Type 0 where
  pub extra : is_case_extra r ≡ x
  pub property : is_case_property r ≡ p
  pub main : is_main r ≡ m
  pub run : is_run r ≡ n

pub tests-property : (r : List ℕ) → kind_of r ≡ 5 → Tests r false true false false
tests-property r e = record { extra = rw e refl; property = rw e refl; main = rw e refl; run = rw e refl }

pub tests-extra : (r : List ℕ) → kind_of r ≡ 14 → Tests r true false false false
tests-extra r e = record { extra = rw e refl; property = rw e refl; main = rw e refl; run = rw e refl }

pub tests-main : (r : List ℕ) → 6 ≤ kind_of r → kind_of r ≤ 8 → Tests r false false true false
tests-main r a b = record {
  extra = ne_eqb (kind_of r) 14 (λ e. omega arith);
  property = ne_eqb (kind_of r) 5 (λ e. omega arith);
  main = rw (le-leb 6 (kind_of r) a, le-leb (kind_of r) 8 b) refl;
  run = rw (lt-leb 9 (kind_of r) (omega arith)) refl;
}

pub tests-run : (r : List ℕ) → 9 ≤ kind_of r → kind_of r ≤ 12 → Tests r false false false true
tests-run r a b = record {
  extra = ne_eqb (kind_of r) 14 (λ e. omega arith);
  property = ne_eqb (kind_of r) 5 (λ e. omega arith);
  main = rw (le-leb 6 (kind_of r) (omega arith), lt-leb (kind_of r) 8 (omega arith)) refl;
  run = rw (le-leb 9 (kind_of r) a, le-leb (kind_of r) 12 b) refl;
}

-- ---- how many there are of each
abbrev size : (List ℕ → Bool) → List (List ℕ) → ℕ
size p rs = length (only p rs)

one_more : (p : List ℕ → Bool) (b : Bool) (r : List ℕ) (rs : List (List ℕ)) → p r ≡ b → size p (r ∷ rs) ≡ cond b 1 0 + size p rs
one_more p true r rs e = rw e (omega arith)
one_more p false r rs e = rw e (omega arith)

pub sorts-count : {rs : List (List ℕ)} → Each Sorted rs → length rs ≡ length (only is_case_extra rs) + (length (only is_case_property rs) + (length (only is_main rs) + length (only is_run rs)))
sorts-count done = refl
sorts-count (more {x = r} {xs = rs} s hs) = go s (sorts-count hs)
  where
    by : (x p m n : Bool) → Tests r x p m n → cond x 1 0 + (cond p 1 0 + (cond m 1 0 + cond n 1 0)) ≡ 1 → length rs ≡ size is_case_extra rs + (size is_case_property rs + (size is_main rs + size is_run rs))
        → suc (length rs) ≡ size is_case_extra (r ∷ rs) + (size is_case_property (r ∷ rs) + (size is_main (r ∷ rs) + size is_run (r ∷ rs)))
    by x p m n t e h =
        let a = one_more is_case_extra x r rs t.extra in
        let b = one_more is_case_property p r rs t.property in
        let c = one_more is_main m r rs t.main in
        let d = one_more is_run n r rs t.run in
        omega arith

    go : Sorted r → length rs ≡ size is_case_extra rs + (size is_case_property rs + (size is_main rs + size is_run rs))
        → suc (length rs) ≡ size is_case_extra (r ∷ rs) + (size is_case_property (r ∷ rs) + (size is_main (r ∷ rs) + size is_run (r ∷ rs)))
    go (property e) h = by false true false false (tests-property r e) refl h
    go (main a b) h = by false false true false (tests-main r a b) refl h
    go (run a b) h = by false false false true (tests-run r a b) refl h
    go (extra e) h = by true false false false (tests-extra r e) refl h
