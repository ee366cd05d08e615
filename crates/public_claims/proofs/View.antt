-- What the records show, and which changes show nothing. Assumes nothing.
use Prim.Native.Nat.{ℕ, zero, suc, ◌+◌, ◌≤◌, ◌<◌}
use mathlib.Core.Path.{◌≡◌, refl, sym, ap, ap₂, ◌∙◌, subst}
use mathlib.Core.List.{List, [], ◌∷◌, ◌++◌, append_assoc}
use mathlib.Core.Bool.{Bool, true, false, cond}
use mathlib.Core.Option.{Option}
use mathlib.Core.Logic.{◌⊎◌, inl, inr}
use native.Mathlib.Omega.{arith}
use borrow.Author.Tests.{eqb-true, ne_eqb, leb-true, leb-false, le-leb, lt-leb, ltb-false}
use lib.Dec.{eqb, leb, ltb}
use lib.ListN.{get_or, set}
use Rattle.list_text.specs.of_tree_report.Report.{Text, Counts, Duration}
use Rattle.list_text.specs.of_tree_report.Fields.{kind_of, has_bit, given, text_at, number_at, first, second, time, counts}
use Rattle.read_report.specs.of_read_element.Attributes.{changed}
use Rattle.read_report.specs.of_read_content.Content.{killed, kill_all, kill_kind}
use Rattle.public_claims.specs.inside.PublicMachine.{Node, report_node, suite_node, case_node, main_node, run_node, Sort, a_report, a_suite, a_case_of, a_main, a_run, unlisted, sort_of}
use Rattle.read_report.proofs.Words.{Keeps}

abbrev pub look_as : Sort → List ℕ → List ℕ → List Node
look_as a_report t r = report_node (first t r) (counts r) ∷ []
look_as a_suite t r = suite_node (text_at t r 2) (counts r) ∷ []
look_as a_case_of t r = case_node (text_at t r 2) (second t r) (time r) ∷ []
look_as a_main t r = main_node (kind_of r) ∷ []
look_as a_run t r = run_node (kind_of r) (time r) ∷ []
look_as unlisted t r = []

-- what a record shows, with the texts t
abbrev pub look : List ℕ → List ℕ → List Node
look t r = look_as (sort_of (kind_of r)) t r

abbrev pub looks : List ℕ → List (List ℕ) → List Node
looks t [] = []
looks t (r ∷ rs) = look t r ++ looks t rs

pub looks_append : (t : List ℕ) (rs ss : List (List ℕ)) → looks t (rs ++ ss) ≡ looks t rs ++ looks t ss
looks_append t [] ss = refl
looks_append t (r ∷ rs) ss = ap (look t r ++◌) (looks_append t rs ss) ∙ sym (append_assoc (look t r) (looks t rs) (looks t ss))

-- ---- sorts
pub sort-dead : (k : ℕ) → 13 ≤ k → sort_of k ≡ unlisted
unfolding sort_of
sort-dead k h =
    rw (
      ne_eqb k 1 (λ e. omega arith),
      ne_eqb k 2 (λ e. omega arith),
      ne_eqb k 3 (λ e. omega arith),
      le-leb 6 k (omega arith),
      lt-leb k 8 (omega arith),
      le-leb 9 k (omega arith),
      lt-leb k 12 (omega arith),
    )

pub sort-main : (k : ℕ) → 6 ≤ k → k ≤ 8 → sort_of k ≡ a_main
unfolding sort_of
sort-main k h m = rw (ne_eqb k 1 (λ e. omega arith), ne_eqb k 2 (λ e. omega arith), ne_eqb k 3 (λ e. omega arith), le-leb 6 k (omega arith), le-leb k 8 m)

pub sort-run : (k : ℕ) → 9 ≤ k → k ≤ 12 → sort_of k ≡ a_run
unfolding sort_of
sort-run k h m =
    rw (ne_eqb k 1 (λ e. omega arith), ne_eqb k 2 (λ e. omega arith), ne_eqb k 3 (λ e. omega arith), le-leb 6 k (omega arith), lt-leb k 8 (omega arith), le-leb 9 k h, le-leb k 12 m)

-- the sort of a status element or of a dead or hidden record
pub data Low : Sort → Type 0 where
  low-main : Low a_main
  low_run : Low a_run
  low-none : Low unlisted

pub sort-low : (k : ℕ) → 6 ≤ k → Low (sort_of k)
sort-low k h = go (leb k 8) refl
  where
    go₂ : (b : Bool) → leb k 12 ≡ b → 9 ≤ k → Low (sort_of k)
    go₂ true e g = subst Low (sym (sort-run k g (leb-true k 12 e))) low_run
    go₂ false e g = subst Low (sym (sort-dead k (leb-false k 12 e))) low-none

    go : (b : Bool) → leb k 8 ≡ b → Low (sort_of k)
    go true e = subst Low (sym (sort-main k h (leb-true k 8 e))) low-main
    go false e = go₂ (leb k 12) refl (leb-false k 8 e)

-- ---- fields that a change keeps
module _ {k lo hi : ℕ} {r s : List ℕ} (c : Keeps k lo hi r s) where
  pub keeps-text : (t : List ℕ) (o : ℕ) → 2 ≤ o → (o + 1 < lo) ⊎ (hi ≤ o) → text_at t s o ≡ text_at t r o
  keeps-text t o h (inl a) = rw (c.word o h (inl (omega arith)), c.word (o + 1) (omega arith) (inl a))
  keeps-text t o h (inr a) = rw (c.word o h (inr a), c.word (o + 1) (omega arith) (inr (omega arith)))

  pub keeps-number : (o : ℕ) → 2 ≤ o → (o + 1 < lo) ⊎ (hi ≤ o) → number_at s o ≡ number_at r o
  keeps-number o h (inl a) = rw (c.word o h (inl (omega arith)), c.word (o + 1) (omega arith) (inl a))
  keeps-number o h (inr a) = rw (c.word o h (inr a), c.word (o + 1) (omega arith) (inr (omega arith)))

  pub keeps-first : (t : List ℕ) → (0 ≡ k → ⊥) → (3 < lo) ⊎ (hi ≤ 2) → first t s ≡ first t r
  keeps-first t n h = ap₂ (λ (b : Bool) (v : Text). given b v) (c.bits 0 n) (keeps-text t 2 (omega arith) h)

  pub keeps-second : (t : List ℕ) → (5 ≡ k → ⊥) → (19 < lo) ⊎ (hi ≤ 18) → second t s ≡ second t r
  keeps-second t n h = ap₂ (λ (b : Bool) (v : Text). given b v) (c.bits 5 n) (keeps-text t 18 (omega arith) h)

  pub keeps-time : (4 ≡ k → ⊥) → (17 < lo) ⊎ (hi ≤ 16) → time s ≡ time r
  keeps-time n (inl h) = rw (c.bits 4 n, c.word 16 (omega arith) (inl (omega arith)), c.word 17 (omega arith) (inl h))
  keeps-time n (inr h) = rw (c.bits 4 n, c.word 16 (omega arith) (inr h), c.word 17 (omega arith) (inr (omega arith)))

  pub keeps-disabled : (8 ≡ k → ⊥) → (27 < lo) ⊎ (hi ≤ 26) → given (has_bit 8 s) (number_at s 26) ≡ given (has_bit 8 r) (number_at r 26)
  keeps-disabled n h = ap₂ (λ (b : Bool) (v : ℕ). given b v) (c.bits 8 n) (keeps-number 26 (omega arith) h)

  pub keeps-counts : (8 ≡ k → ⊥) → (27 < lo) ⊎ (hi ≤ 18) → counts s ≡ counts r
  keeps-counts n (inl h) =
      rw (
        keeps-number 18 (omega arith) (inl (omega arith)),
        keeps-number 20 (omega arith) (inl (omega arith)),
        keeps-number 22 (omega arith) (inl (omega arith)),
        keeps-number 24 (omega arith) (inl (omega arith)),
        keeps-disabled n (inl h),
      )
  keeps-counts n (inr h) =
      rw (
        keeps-number 18 (omega arith) (inr h),
        keeps-number 20 (omega arith) (inr (omega arith)),
        keeps-number 22 (omega arith) (inr (omega arith)),
        keeps-number 24 (omega arith) (inr (omega arith)),
        keeps-disabled n (inr (omega arith)),
      )

  -- words 4 to 15, with bit 1, 2 or 3, show nothing
  pub look-outputs : (t : List ℕ) → 4 ≤ lo → hi ≤ 16 → (0 ≡ k → ⊥) → (4 ≡ k → ⊥) → (5 ≡ k → ⊥) → (8 ≡ k → ⊥) → look t s ≡ look t r
  look-outputs t a b n₀ n₄ n₅ n₈ = ap (λ (x : ℕ). look_as (sort_of x) t s) c.kind ∙ go (sort_of (kind_of r))
    where
      go : (σ : Sort) → look_as σ t s ≡ look_as σ t r
      go a_report = ap₂ (λ (x : Option Text) (y : Counts). report_node x y ∷ []) (keeps-first t n₀ (inl (omega arith))) (keeps-counts n₈ (inr (omega arith)))
      go a_suite = ap₂ (λ (x : Text) (y : Counts). suite_node x y ∷ []) (keeps-text t 2 (omega arith) (inl (omega arith))) (keeps-counts n₈ (inr (omega arith)))
      go a_case_of =
          ap₂ (λ (x : Text) (y : Option Text). case_node x y (time s) ∷ []) (keeps-text t 2 (omega arith) (inl (omega arith))) (keeps-second t n₅ (inr (omega arith)))
          ∙ ap (λ (x : Option Duration). case_node (text_at t r 2) (second t r) x ∷ []) (keeps-time n₄ (inr b))
      go a_main = ap (λ (x : ℕ). main_node x ∷ []) c.kind
      go a_run = ap₂ (λ (x : ℕ) (y : Option Duration). run_node x y ∷ []) c.kind (keeps-time n₄ (inr b))
      go unlisted = refl

  -- a status element shows its kind and its time
  pub look-status : (t : List ℕ) → 6 ≤ kind_of r → 18 ≤ lo → (4 ≡ k → ⊥) → look t s ≡ look t r
  look-status t h a n₄ = ap (λ (x : ℕ). look_as (sort_of x) t s) c.kind ∙ go (sort_of (kind_of r)) (sort-low (kind_of r) h)
    where
      go : (σ : Sort) → Low σ → look_as σ t s ≡ look_as σ t r
      go a_report l = elim l [ ]
      go a_suite l = elim l [ ]
      go a_case_of l = elim l [ ]
      go a_main l = ap (λ (x : ℕ). main_node x ∷ []) c.kind
      go a_run l = ap₂ (λ (x : ℕ) (y : Option Duration). run_node x y ∷ []) c.kind (keeps-time n₄ (inl (omega arith)))
      go unlisted l = refl

-- ---- one record changed
pub looks-changed : (t : List ℕ) (i : ℕ) (f : List ℕ → List ℕ) (rs : List (List ℕ)) → look t (f (get_or rs i [])) ≡ look t (get_or rs i []) →
    looks t (changed i f rs) ≡ looks t rs
looks-changed t i f [] e = refl
looks-changed t zero f (r ∷ rs) e = ap (◌++ looks t rs) e
looks-changed t (suc i) f (r ∷ rs) e = ap (look t r ++◌) (looks-changed t i f rs e)

-- ---- dead records
killed-kind : (r : List ℕ) → (13 ≤ kind_of (killed r)) ⊎ (kind_of (killed r) ≡ 0)
killed-kind r = go r (ltb (get_or r 0 0) 16) refl
  where
    go : (r : List ℕ) (b : Bool) → ltb (get_or r 0 0) 16 ≡ b → (13 ≤ kind_of (cond b (set r 0 (get_or r 0 0 + 16)) r)) ⊎ (kind_of (cond b (set r 0 (get_or r 0 0 + 16)) r) ≡ 0)
    go [] true e = inr refl
    go [] false e = inr refl
    go (x ∷ r) true e = inl (omega arith)
    go (x ∷ r) false e = inl (let h : 16 ≤ x = ltb-false x 16 e in omega arith)

pub killed-look : (t r : List ℕ) → look t (killed r) ≡ []
unfolding sort_of
killed-look t r = go (killed r) (killed-kind r)
  where
    go : (s : List ℕ) → (13 ≤ kind_of s) ⊎ (kind_of s ≡ 0) → look t s ≡ []
    go s (inl h) = ap (λ (σ : Sort). look_as σ t s) (sort-dead (kind_of s) h)
    go s (inr h) = ap (λ (k : ℕ). look_as (sort_of k) t s) h

pub looks-kill_all : (t : List ℕ) (rs : List (List ℕ)) → looks t (kill_all rs) ≡ []
looks-kill_all t [] = refl
looks-kill_all t (r ∷ rs) = ap₂ (λ (x y : List Node). x ++ y) (killed-look t r) (looks-kill_all t rs)

pub looks-kill_kind : (t : List ℕ) (kind : ℕ) → sort_of kind ≡ unlisted → (i : ℕ) (rs : List (List ℕ)) → looks t (kill_kind kind i rs) ≡ looks t rs
looks-kill_kind t kind u i [] = refl
looks-kill_kind t kind u zero (r ∷ rs) = ap₂ (λ (x y : List Node). x ++ y) (one (eqb (get_or r 0 0) kind) refl) (looks-kill_kind t kind u zero rs)
  where
    one : (b : Bool) → eqb (get_or r 0 0) kind ≡ b → look t (cond b (killed r) r) ≡ look t r
    one true e = killed-look t r ∙ sym (ap (λ (k : ℕ). look_as (sort_of k) t r) (eqb-true (get_or r 0 0) kind e) ∙ ap (λ (σ : Sort). look_as σ t r) u)
    one false e = refl
looks-kill_kind t kind u (suc i) (r ∷ rs) = ap (look t r ++◌) (looks-kill_kind t kind u i rs)
