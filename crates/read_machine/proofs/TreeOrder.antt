-- The order of live records by their kinds: how it goes on behind records, and when records are marked dead. Assumes nothing.
use Prim.Native.Nat.{ℕ, zero, suc, ◌+◌, ◌≤◌, ◌<◌}
use mathlib.Core.Bool.{Bool, true, false, cond}
use mathlib.Core.List.{List, [], ◌∷◌, ◌++◌}
use mathlib.Core.Path.{◌≡◌, refl, sym, ap, subst, ◌∙◌}
use native.Mathlib.Omega.{arith}
use borrow.Author.Tests.{ltb-false, le-ltb, le-leb, ne_eqb}
use lib.Dec.{ltb, eqb}
use lib.ListN.{length, get_or, length-append, get_or-append}
use Rattle.read_path.specs.of_tree_report.Fields.{kind_of, live, has_bit}
use Rattle.read_path.specs.of_tree_report.Layout.{Open, may_end, may_follow, following, good_order}
use Rattle.read_path.proofs.of_tree_report.EncodeLists.{both, Each, done, more}
use Rattle.read_content.specs.Content.{killed, kill_all, kill_kind}

-- ---- kinds
abbrev pub kinds : List (List ℕ) → List ℕ
kinds [] = []
kinds (r ∷ rs) = kind_of r ∷ kinds rs

-- the kinds of records behind records
pub kinds-append : (rs qs : List (List ℕ)) → kinds (rs ++ qs) ≡ kinds rs ++ kinds qs
kinds-append [] qs = refl
kinds-append (r ∷ rs) qs = ap (λ (l : List ℕ). kind_of r ∷ l) (kinds-append rs qs)

pub kinds-length : (rs : List (List ℕ)) → length (kinds rs) ≡ length rs
kinds-length [] = refl
kinds-length (r ∷ rs) = ap suc (kinds-length rs)

abbrev pub dead : ℕ → ℕ
dead k = cond (ltb k 16) (k + 16) k

pub dead-past : (k : ℕ) → ltb (dead k) 16 ≡ false
dead-past k = go (ltb k 16) refl
  where
    go : (t : Bool) → ltb k 16 ≡ t → ltb (cond t (k + 16) k) 16 ≡ false
    go true q = le-ltb (k + 16) 16 (omega arith)
    go false q = q

abbrev pub kill_from : ℕ → ℕ → List ℕ → List ℕ
kill_from κ i [] = []
kill_from κ zero (k ∷ ks) = cond (eqb k κ) (dead k) k ∷ kill_from κ zero ks
kill_from κ (suc i) (k ∷ ks) = k ∷ kill_from κ i ks

-- a record that has words
abbrev pub Some : List ℕ → Type 0
Some r = 1 ≤ length r

pub kind-killed : (r : List ℕ) → Some r → kind_of (killed r) ≡ dead (kind_of r)
kind-killed [] h = absurd (omega arith)
kind-killed (w ∷ ws) h = go (ltb w 16)
  where
    go : (t : Bool) → kind_of (cond t ((w + 16) ∷ ws) (w ∷ ws)) ≡ cond t (w + 16) w
    go true = refl
    go false = refl

kind-cond : (t : Bool) (r q : List ℕ) → kind_of (cond t r q) ≡ cond t (kind_of r) (kind_of q)
kind-cond true r q = refl
kind-cond false r q = refl

pub kinds-killed : (κ i : ℕ) {rs : List (List ℕ)} → Each Some rs → kinds (kill_kind κ i rs) ≡ kill_from κ i (kinds rs)
kinds-killed κ i done = refl
kinds-killed κ zero (more {x = r} {xs = rs} h hs) =
    rw (kind-cond (eqb (kind_of r) κ) (killed r) r, kind-killed r h, kinds-killed κ zero hs) refl
kinds-killed κ (suc i) (more {x = r} h hs) = ap (λ (l : List ℕ). kind_of r ∷ l) (kinds-killed κ i hs)

pub length-kill : (κ i : ℕ) (ks : List ℕ) → length (kill_from κ i ks) ≡ length ks
length-kill κ i [] = refl
length-kill κ zero (k ∷ ks) = ap suc (length-kill κ zero ks)
length-kill κ (suc i) (k ∷ ks) = ap suc (length-kill κ i ks)

pub kill-append : (κ i : ℕ) (ks js : List ℕ) → i ≤ length ks → kill_from κ i (ks ++ js) ≡ kill_from κ i ks ++ kill_from κ 0 js
kill-append κ zero [] js h = refl
kill-append κ (suc i) [] js h = absurd (omega arith)
kill-append κ zero (k ∷ ks) js h = ap (λ (l : List ℕ). cond (eqb k κ) (dead k) k ∷ l) (kill-append κ zero ks js (omega arith))
kill-append κ (suc i) (k ∷ ks) js h = ap (λ (l : List ℕ). k ∷ l) (kill-append κ i ks js (omega arith))

pub kill-end : (κ : ℕ) (ks : List ℕ) → kill_from κ (length ks) ks ≡ ks
kill-end κ [] = refl
kill-end κ (k ∷ ks) = ap (λ (l : List ℕ). k ∷ l) (kill-end κ ks)

pub kill-free : (κ : ℕ) {ks : List ℕ} → Each (λ k. eqb k κ ≡ false) ks → kill_from κ 0 ks ≡ ks
kill-free κ done = refl
kill-free κ (more {x = k} h hs) = rw (h, kill-free κ hs) refl

kill-one : (κ k : ℕ) → κ < 16 → eqb (cond (eqb k κ) (dead k) k) κ ≡ false
kill-one κ k h = go (eqb k κ) refl
  where
    go : (t : Bool) → eqb k κ ≡ t → eqb (cond t (dead k) k) κ ≡ false
    go true q = ne_eqb (dead k) κ (λ z. let d = ltb-false (dead k) 16 (dead-past k) in omega arith)
    go false q = q

pub kill-twice : (κ i : ℕ) (ks : List ℕ) → κ < 16 → kill_from κ i (kill_from κ i ks) ≡ kill_from κ i ks
kill-twice κ i [] h = refl
kill-twice κ zero (k ∷ ks) h = rw (kill-one κ k h, kill-twice κ zero ks h) refl
kill-twice κ (suc i) (k ∷ ks) h = ap (λ (l : List ℕ). k ∷ l) (kill-twice κ i ks h)

-- the record of number i has the kind
pub record There (i κ : ℕ) (ks : List ℕ) : Type 0 where
  pub inside : i < length ks
  pub there : get_or ks i 0 ≡ κ

pub there-append : {i κ : ℕ} {ks : List ℕ} (js : List ℕ) → There i κ ks → There i κ (ks ++ js)
there-append {i} {κ} {ks} js t = record {
  inside = let l : length (ks ++ js) ≡ length ks + length js = length-append ks js in let h = t.inside in omega arith;
  there = get_or-append ks js 0 i t.inside ∙ t.there;
}

pub there-new : (κ : ℕ) (ks js : List ℕ) → There (length ks) κ (ks ++ (κ ∷ js))
there-new κ ks js = record { inside = (let l : length (ks ++ (κ ∷ js)) ≡ length ks + suc (length js) = length-append ks (κ ∷ js) in omega arith); there = go ks }
  where
    go : (l : List ℕ) → get_or (l ++ (κ ∷ js)) (length l) 0 ≡ κ
    go [] = refl
    go (k ∷ l) = go l

kept-kind : (κ i j k : ℕ) (ks : List ℕ) → eqb k κ ≡ false → get_or ks j 0 ≡ k → get_or (kill_from κ i ks) j 0 ≡ k
kept-kind κ i j k [] e q = q
kept-kind κ zero zero k (x ∷ ks) e q = rw (ap (λ (n : ℕ). eqb n κ) q ∙ e) q
kept-kind κ zero (suc j) k (x ∷ ks) e q = kept-kind κ zero j k ks e q
kept-kind κ (suc i) zero k (x ∷ ks) e q = q
kept-kind κ (suc i) (suc j) k (x ∷ ks) e q = kept-kind κ i j k ks e q

pub there-kept : {j k : ℕ} {ks : List ℕ} (κ i : ℕ) → eqb k κ ≡ false → There j k ks → There j k (kill_from κ i ks)
there-kept {j} {k} {ks} κ i e t = record { inside = rw (length-kill κ i ks) t.inside; there = kept-kind κ i j k ks e t.there }

-- ---- the order
-- a record of which only the kind is looked at
abbrev pub only-kind : ℕ → List ℕ
only-kind κ = κ ∷ []

pub data Path : Open → List ℕ → Open → Type 0 where
  end : {o : Open} → Path o [] o
  past : {o p : Open} {κ : ℕ} {ks : List ℕ} → ltb κ 16 ≡ false → Path o ks p → Path o (κ ∷ ks) p
  next : {o p : Open} {κ : ℕ} {ks : List ℕ} → ltb κ 16 ≡ true → may_follow o (only-kind κ) ≡ true → Path (following o (only-kind κ)) ks p → Path o (κ ∷ ks) p

pub path-append : {o p q : Open} {ks js : List ℕ} → Path o ks p → Path p js q → Path o (ks ++ js) q
path-append end b = b
path-append (past e a) b = past e (path-append a b)
path-append (next e m a) b = next e m (path-append a b)

follow-kind : (o : Open) (r : List ℕ) → has_bit 9 r ≡ false → following o (only-kind (kind_of r)) ≡ following o r
unfolding following
follow-kind o r e = rw e refl

follow-may : (o : Open) (r : List ℕ) → may_follow o (only-kind (kind_of r)) ≡ may_follow o r
unfolding may_follow
follow-may o r = refl

pub path-order : {o p : Open} {rs : List (List ℕ)} → Each (λ r. live r ≡ true → has_bit 9 r ≡ false) rs → Path o (kinds rs) p → 1 ≤ p.level → may_end p ≡ true → good_order o rs ≡ true
unfolding good_order
path-order {o} {p} done end l m = both (le-leb 1 p.level l) m
path-order {o} (more h hs) (past e a) l m = rw e (path-order {o = o} hs a l m)
path-order {o} {p} (more {x = r} {xs = rs} h hs) (next e f a) l m =
    rw e (both (sym (follow-may o r) ∙ f) (path-order {o = following o r} hs (subst (λ (q : Open). Path q (kinds rs) p) (follow-kind o r (h e)) a) l m))

-- all dead: nothing is open
pub path-dead : {ks : List ℕ} → Each (λ k. ltb k 16 ≡ false) ks → (o : Open) → Path o ks o
path-dead done o = end
path-dead (more h hs) o = past h (path-dead hs o)

pub killed-all : {rs : List (List ℕ)} → Each Some rs → Each (λ k. ltb k 16 ≡ false) (kinds (kill_all rs))
killed-all done = done
killed-all (more {x = r} h hs) = more (ap (λ (k : ℕ). ltb k 16) (kind-killed r h) ∙ dead-past (kind_of r)) (killed-all hs)
