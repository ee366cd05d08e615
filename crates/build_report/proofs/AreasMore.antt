-- An area of whole records and zeros: what is read off it, a record taken, a text kept, two records exchanged. Assumes nothing.
use Prim.Native.Nat.{ℕ, zero, suc, ◌+◌, ◌-◌, ◌*◌, ◌/◌, ◌%◌, ◌≤◌, ◌<◌}
use mathlib.Core.List.{List, [], ◌∷◌, ◌++◌, append_assoc, append-nil}
use mathlib.Core.Path.{◌≡◌, refl, sym, ap, ap₂, ◌∙◌}
use native.Mathlib.Omega.{arith}
use lib.Dec.{eqb}
use lib.ListN.{length, get_or, set, take, drop, length-append, get_or-append, replicate-append-replicate}
use lib.Seq.{take_at, drop_at, set_at, get_or-drop, get_or-append-add, drop-append-add, drop-drop}
use Rattle.tree_placed.specs.of_area.Area.{zeros, laid}
use Rattle.tree_placed.proofs.of_area.Laying.{laid-zeros}
use Rattle.tree_placed.proofs.of_area.Lists.{drop-zeros}
use Rattle.tree_placed.specs.of_utf8.Characters.{joined}
use Rattle.tree_placed.specs.of_tree_record.Record.{kind_of, mask_of, has_bit, text_at, number_at}
use Rattle.tree_placed.specs.of_tree_put.Put.{blank}
use Rattle.tree_placed.proofs.of_tree_report.EncodeLists.{done, more, each_append}
use Rattle.build_draft.specs.Draft.{kind_at}
use Rattle.build_draft.specs.Parts.{put_at, exchanged, counts_in, counts_at}
use Rattle.build_report.proofs.Areas.{Sized, sized-length, sized-front, sized-back, sized-first, joined-append, area-is, behind, on-records, drop-record}

-- ---- what stands in a record
module _ (n : ℕ) (front : List (List ℕ)) (x : List ℕ) (back : List (List ℕ)) {i : ℕ} (at : length front ≡ i)
    (sized : Sized (front ++ (x ∷ back))) (room : length (front ++ (x ∷ back)) * 32 ≤ n) where
  pub word-here : (o : ℕ) → o < 32 → get_or (drop (i * 32) (laid (zeros n) (joined (front ++ (x ∷ back))))) o 0 ≡ get_or x o 0
  word-here o l =
      let h : length x ≡ 32 = sized-first (sized-back front (x ∷ back) sized) in
      ap (λ (s : List ℕ). get_or s o 0) (drop-record n front x back at sized room)
      ∙ get_or-append x (joined back ++ behind n (front ++ (x ∷ back))) 0 o (omega arith)

  pub kind-here : kind_at (laid (zeros n) (joined (front ++ (x ∷ back)))) i ≡ kind_of x
  kind-here =
      let e : i * 32 ≡ i * 32 + 0 = omega arith in
      ap (λ (k : ℕ). get_or (laid (zeros n) (joined (front ++ (x ∷ back)))) k 0) e
      ∙ sym (get_or-drop (i * 32) (laid (zeros n) (joined (front ++ (x ∷ back)))) 0 0) ∙ word-here 0 (omega arith)

  pub bit-here : (k : ℕ) → has_bit k (drop (i * 32) (laid (zeros n) (joined (front ++ (x ∷ back))))) ≡ has_bit k x
  bit-here k = ap (λ (m : ℕ). eqb (m / mask_of k % 2) 1) (word-here 1 (omega arith))

  pub number-here : (o : ℕ) → o ≤ 30 → number_at (drop (i * 32) (laid (zeros n) (joined (front ++ (x ∷ back))))) o ≡ number_at x o
  number-here o l = ap₂ (λ (a b : ℕ). a + b * 4294967296) (word-here o (omega arith)) (word-here (o + 1) (omega arith))

  pub text-here : (text : List ℕ) (o : ℕ) → o ≤ 30 → text_at text (drop (i * 32) (laid (zeros n) (joined (front ++ (x ∷ back))))) o ≡ text_at text x o
  text-here text o l = ap₂ (λ (a b : ℕ). take b (drop a text)) (word-here o (omega arith)) (word-here (o + 1) (omega arith))

  pub counts-here : counts_at (laid (zeros n) (joined (front ++ (x ∷ back)))) i ≡ counts_in x
  counts-here = λ j. record {
    tests = number-here 18 (omega arith) j;
    failures = number-here 20 (omega arith) j;
    errors = number-here 22 (omega arith) j;
    skipped = number-here 24 (omega arith) j;
    presence = bit-here 8 j;
    disabled = number-here 26 (omega arith) j;
  }

-- ---- behind the records there are zeros
zero-at : (k m : ℕ) → get_or (zeros k) m 0 ≡ 0
zero-at zero m = refl
zero-at (suc k) zero = refl
zero-at (suc k) (suc m) = zero-at k m

pub kind-none : (n : ℕ) (rs : List (List ℕ)) (i : ℕ) → Sized rs → length rs * 32 ≤ n → length rs ≤ i → kind_at (laid (zeros n) (joined rs)) i ≡ 0
kind-none n rs i h l m =
    let s = sized-length h in
    let e : i * 32 ≡ length (joined rs) + (i * 32 - length (joined rs)) = omega arith in
    ap₂ (λ (a : List ℕ) (k : ℕ). get_or a k 0) (area-is n h l) e
    ∙ get_or-append-add (joined rs) (behind n rs) (i * 32 - length (joined rs)) 0
    ∙ zero-at (n - length rs * 32) (i * 32 - length (joined rs))

-- ---- a record more
pub more-sized : {rs : List (List ℕ)} (x : List ℕ) → Sized rs → length x ≡ 32 → Sized (rs ++ (x ∷ []))
more-sized x h e = each_append h (more e done)

pub taken : (n : ℕ) (rs : List (List ℕ)) (κ : ℕ) → Sized rs → (length rs + 1) * 32 ≤ n
    → set (laid (zeros n) (joined rs)) (length rs * 32) κ ≡ laid (zeros n) (joined (rs ++ (blank κ ∷ [])))
taken n rs κ h l =
    let m : ℕ = n - (length rs + 1) * 32 in
    let k : n - length rs * 32 ≡ 32 + m = omega arith in
    let e : length (rs ++ (blank κ ∷ [])) ≡ length rs + 1 = length-append rs (blank κ ∷ []) in
    let q : joined (rs ++ (blank κ ∷ [])) ≡ joined rs ++ blank κ = joined-append rs (blank κ ∷ []) ∙ ap (λ (a : List ℕ). joined rs ++ a) (append-nil (blank κ)) in
    ap (λ (a : List ℕ). set a (length rs * 32) κ) (area-is n h (omega arith) ∙ ap (λ (a : List ℕ). joined rs ++ a) (ap zeros k ∙ sym (replicate-append-replicate 32 m 0)))
    ∙ set_at (joined rs) 0 (zeros 31 ++ zeros m) κ (length rs * 32) (sized-length h)
    ∙ sym (append_assoc (joined rs) (blank κ) (zeros m))
    ∙ ap₂ (λ (a : List ℕ) (j : ℕ). a ++ zeros (n - j * 32)) (sym q) (sym e)
    ∙ sym (area-is n (more-sized (blank κ) h refl) (omega arith))

-- ---- a text behind the others
pub kept : (m : ℕ) (texts v : List ℕ) → length texts + length v ≤ m → put_at (length texts) v (laid (zeros m) texts) ≡ laid (zeros m) (texts ++ v)
kept m texts v l =
    let k : ℕ = m - length texts in
    let e : length (texts ++ v) ≡ length texts + length v = length-append texts v in
    let d : m - length texts - length v ≡ m - length (texts ++ v) = omega arith in
    ap (put_at (length texts) v) (laid-zeros m texts (omega arith))
    ∙ ap₂ (λ (a b : List ℕ). a ++ (v ++ b)) (take_at texts (zeros k) (length texts) refl) (drop-append-add texts (zeros k) (length v) ∙ drop-zeros (length v) k ∙ ap zeros d)
    ∙ sym (append_assoc texts v (zeros (m - length (texts ++ v))))
    ∙ sym (laid-zeros m (texts ++ v) (omega arith))

-- ---- a record and the one behind it
abbrev swap : List ℕ → List ℕ
swap r = take 32 (drop 32 r) ++ (take 32 r ++ drop 64 r)

swapped : (x y z : List ℕ) → length x ≡ 32 → length y ≡ 32 → swap (x ++ (y ++ z)) ≡ y ++ (x ++ z)
swapped x y z h k =
    let d : drop 32 (x ++ (y ++ z)) ≡ y ++ z = drop_at x (y ++ z) 32 h in
    let e : drop 64 (x ++ (y ++ z)) ≡ z = sym (drop-drop 32 32 (x ++ (y ++ z))) ∙ ap (drop 32) d ∙ drop_at y z 32 k in
    ap₂ (λ (a b : List ℕ). a ++ (b ++ drop 64 (x ++ (y ++ z)))) (ap (take 32) d ∙ take_at y z 32 k) (take_at x (y ++ z) 32 h)
    ∙ ap (λ (a : List ℕ). y ++ (x ++ a)) e

pub exchanged-records : (n : ℕ) (front : List (List ℕ)) (x y : List ℕ) (back : List (List ℕ)) {i : ℕ} → length front ≡ i
    → Sized (front ++ (x ∷ (y ∷ back))) → length (front ++ (x ∷ (y ∷ back))) * 32 ≤ n
    → exchanged i (laid (zeros n) (joined (front ++ (x ∷ (y ∷ back))))) ≡ laid (zeros n) (joined (front ++ (y ∷ (x ∷ back))))
exchanged-records n front x y back {i} at s l = go (sized-back front (x ∷ (y ∷ back)) s)
  where
    go : Sized (x ∷ (y ∷ back)) → exchanged i (laid (zeros n) (joined (front ++ (x ∷ (y ∷ back))))) ≡ laid (zeros n) (joined (front ++ (y ∷ (x ∷ back))))
    go (more h (more k hs)) =
        on-records n front (x ∷ (y ∷ back)) (y ∷ (x ∷ back)) at s (each_append (sized-front front (x ∷ (y ∷ back)) s) (more k (more h hs))) refl l swap
        (λ z. ap swap (flat x y z) ∙ swapped x y (joined back ++ z) h k ∙ sym (flat y x z))
      where
        flat : (a b z : List ℕ) → (a ++ (b ++ joined back)) ++ z ≡ a ++ (b ++ (joined back ++ z))
        flat a b z = append_assoc a (b ++ joined back) z ∙ ap (λ (l : List ℕ). a ++ l) (append_assoc b (joined back) z)
