-- Records marked dead in the area are those of the list. Assumes nothing.
use Prim.Native.Nat.{ℕ, zero, suc, ◌+◌, ◌-◌, ◌≤◌, ◌<◌}
use mathlib.Core.Path.{◌≡◌, refl, sym, ap, ◌∙◌}
use mathlib.Core.Bool.{Bool, true, false, cond}
use mathlib.Core.List.{List, [], ◌∷◌, ◌++◌}
use native.Mathlib.Omega.{arith}
use lib.Dec.{ltb, leb, eqb}
use lib.ListN.{length, get_or}
use lib.Seq.{ext_get_or}
use borrow.Author.Tests.{ltb-true, ltb-false, leb-true, leb-false, eqb-true, eqb-false}
use Rattle.trim.specs.of_utf8.Characters.{joined}
use Rattle.read_attributes.specs.of_read_element.Attributes.{changed}
use Rattle.read_content.specs.Content.{killed, kill_all, kill_kind}
use Rattle.read_content.specs.inside.Holds.{kill_words, Whole, kind_in, Dead, Listed}
use Rattle.read_content.specs.declared.List.{List as CodedList}
use Rattle.read_content.proofs.Records.{joined-changed, killed-local, killed-size, killed-dead, changed-size, changed-whole, changed-here, changed-there}

-- n records from number i on
abbrev pub kill_span : ℕ → ℕ → List (List ℕ) → List (List ℕ)
kill_span zero i rs = rs
kill_span (suc n) i rs = kill_span n (i + 1) (changed i killed rs)

-- the code's marking of n records in the words is that of the list's
pub kill-words : (n i : ℕ) (rs : List (List ℕ)) (z : List ℕ) → Whole rs → i + n ≤ length rs → kill_words n i (joined rs ++ z) ≡ joined (kill_span n i rs) ++ z
unfolding kill_words
kill-words zero i rs z w h = refl
kill-words (suc n) i rs z w h =
    let l = changed-size killed i rs in
    ap (kill_words n (i + 1)) (joined-changed killed killed-local rs i z w (omega arith))
    ∙ kill-words n (i + 1) (changed i killed rs) z (changed-whole killed killed-size i rs w) (omega arith)

pub span-size : (n i : ℕ) (rs : List (List ℕ)) → length (kill_span n i rs) ≡ length rs
span-size zero i rs = refl
span-size (suc n) i rs = span-size n (i + 1) (changed i killed rs) ∙ changed-size killed i rs

pub span-miss : (n i : ℕ) (rs : List (List ℕ)) (j : ℕ) → (i ≤ j → j < i + n → ⊥) → get_or (kill_span n i rs) j [] ≡ get_or rs j []
span-miss zero i rs j h = refl
span-miss (suc n) i rs j h =
    span-miss n (i + 1) (changed i killed rs) j (λ a b. h (omega arith) (omega arith))
    ∙ changed-there killed i j rs (λ e. h (omega arith) (omega arith))

pub span-hit : (n i : ℕ) (rs : List (List ℕ)) (j : ℕ) → i ≤ j → j < i + n → get_or (kill_span n i rs) j [] ≡ killed (get_or rs j [])
span-hit zero i rs j a b = absurd (omega arith)
span-hit (suc n) i rs j a b = go (eqb j i) refl (λ x y. span-hit n (i + 1) (changed i killed rs) j x y)
  where
    go : (t : Bool) → eqb j i ≡ t → (i + 1 ≤ j → j < i + 1 + n → get_or (kill_span n (i + 1) (changed i killed rs)) j [] ≡ killed (get_or (changed i killed rs) j []))
        → get_or (kill_span n (i + 1) (changed i killed rs)) j [] ≡ killed (get_or rs j [])
    go true q ih =
        let e = eqb-true j i q in
        span-miss n (i + 1) (changed i killed rs) j (λ x y. omega arith)
        ∙ ap (λ (k : ℕ). get_or (changed i killed rs) k []) e ∙ changed-here killed refl i rs ∙ ap (λ (k : ℕ). killed (get_or rs k [])) (sym e)
    go false q ih =
        let d = eqb-false j i q in
        ih (omega arith) (omega arith) ∙ ap killed (changed-there killed i j rs d)

-- those of a kind from a number on
pub kind-size : (κ i : ℕ) (rs : List (List ℕ)) → length (kill_kind κ i rs) ≡ length rs
kind-size κ i [] = refl
kind-size κ zero (r ∷ rs) = ap suc (kind-size κ zero rs)
kind-size κ (suc i) (r ∷ rs) = ap suc (kind-size κ i rs)

pub kind-hit : (κ i : ℕ) (rs : List (List ℕ)) (j : ℕ) → i ≤ j → kind_in rs j ≡ κ → get_or (kill_kind κ i rs) j [] ≡ killed (get_or rs j [])
kind-hit κ i [] j a e = refl
kind-hit κ zero (r ∷ rs) zero a e = go (eqb (get_or r 0 0) κ) refl
  where
    go : (t : Bool) → eqb (get_or r 0 0) κ ≡ t → cond t (killed r) r ≡ killed r
    go true q = refl
    go false q = absurd (eqb-false (get_or r 0 0) κ q e)
kind-hit κ zero (r ∷ rs) (suc j) a e = kind-hit κ zero rs j (omega arith) e
kind-hit κ (suc i) (r ∷ rs) zero a e = absurd (omega arith)
kind-hit κ (suc i) (r ∷ rs) (suc j) a e = kind-hit κ i rs j (omega arith) e

pub kind-miss : (κ i : ℕ) (rs : List (List ℕ)) (j : ℕ) → (i ≤ j → kind_in rs j ≡ κ → ⊥) → get_or (kill_kind κ i rs) j [] ≡ get_or rs j []
kind-miss κ i [] j h = refl
kind-miss κ zero (r ∷ rs) zero h = go (eqb (get_or r 0 0) κ) refl
  where
    go : (t : Bool) → eqb (get_or r 0 0) κ ≡ t → cond t (killed r) r ≡ r
    go true q = absurd (h (omega arith) (eqb-true (get_or r 0 0) κ q))
    go false q = refl
kind-miss κ zero (r ∷ rs) (suc j) h = kind-miss κ zero rs j (λ a e. h (omega arith) e)
kind-miss κ (suc i) (r ∷ rs) zero h = refl
kind-miss κ (suc i) (r ∷ rs) (suc j) h = kind-miss κ i rs j (λ a e. h (omega arith) e)

-- all
pub all-size : (rs : List (List ℕ)) → length (kill_all rs) ≡ length rs
all-size [] = refl
all-size (r ∷ rs) = ap suc (all-size rs)

pub all-hit : (rs : List (List ℕ)) (j : ℕ) → get_or (kill_all rs) j [] ≡ killed (get_or rs j [])
all-hit [] j = refl
all-hit (r ∷ rs) zero = refl
all-hit (r ∷ rs) (suc j) = all-hit rs j

-- marking the records of a kind dead leaves all records whole
pub kind-whole : (κ i : ℕ) (rs : List (List ℕ)) → Whole rs → Whole (kill_kind κ i rs)
kind-whole κ i [] w = w
kind-whole κ zero (r ∷ rs) w = (go (eqb (get_or r 0 0) κ), kind-whole κ zero rs w.1)
  where
    go : (t : Bool) → length (cond t (killed r) r) ≡ 32
    go true = killed-size r ∙ w.0
    go false = w.0
kind-whole κ (suc i) (r ∷ rs) w = (w.0, kind-whole κ i rs w.1)

-- marking all records dead leaves them whole
pub all_whole : (rs : List (List ℕ)) → Whole rs → Whole (kill_all rs)
all_whole [] w = w
all_whole (r ∷ rs) w = (killed-size r ∙ w.0, all_whole rs w.1)

-- ---- a list's records are those of the kind
-- the records that the code marks by a list's place and count are those that the definition marks by kind
pub span-kind : (κ from : ℕ) (list : CodedList) (rs : List (List ℕ)) → Listed κ from list rs → kill_span list.count list.first rs ≡ kill_kind κ from rs
span-kind κ from list rs l =
    ext_get_or [] (kill_span list.count list.first rs) (kill_kind κ from rs) (span-size list.count list.first rs ∙ sym (kind-size κ from rs))
    λ j h. go j (leb list.first j) refl (ltb j (list.first + list.count)) refl
  where
    go : (j : ℕ) (a : Bool) → leb list.first j ≡ a → (b : Bool) → ltb j (list.first + list.count) ≡ b → get_or (kill_span list.count list.first rs) j [] ≡ get_or (kill_kind κ from rs) j []
    go j true p true q =
        let x = leb-true list.first j p in
        let y = ltb-true j (list.first + list.count) q in
        let t = l.each j x y in
        span-hit list.count list.first rs j x y ∙ sym (kind-hit κ from rs j t.0 t.1)
    go j true p false q =
        let y = ltb-false j (list.first + list.count) q in
        span-miss list.count list.first rs j (λ c d. omega arith) ∙ sym (kind-miss κ from rs j (λ c d. let t = (l.only j c d).1 in omega arith))
    go j false p b q =
        let x = leb-false list.first j p in
        span-miss list.count list.first rs j (λ c d. omega arith) ∙ sym (kind-miss κ from rs j (λ c d. let t = (l.only j c d).0 in omega arith))

-- all are those behind the dead ones
pub span-all : (n : ℕ) (rs : List (List ℕ)) → n ≤ length rs → Dead n rs → kill_span (length rs - n) n rs ≡ kill_all rs
span-all n rs h d =
    ext_get_or [] (kill_span (length rs - n) n rs) (kill_all rs) (span-size (length rs - n) n rs ∙ sym (all-size rs))
    λ j l. go j (rw (← span-size (length rs - n) n rs) l) (leb n j) refl
  where
    go : (j : ℕ) → j < length rs → (a : Bool) → leb n j ≡ a → get_or (kill_span (length rs - n) n rs) j [] ≡ get_or (kill_all rs) j []
    go j l true p =
        let x = leb-true n j p in
        span-hit (length rs - n) n rs j x (omega arith) ∙ sym (all-hit rs j)
    go j l false p =
        let x = leb-false n j p in
        span-miss (length rs - n) n rs j (λ c e. omega arith) ∙ sym (killed-dead (get_or rs j []) (d j x)) ∙ sym (all-hit rs j)
