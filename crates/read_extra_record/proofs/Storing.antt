-- Texts and records put behind those that the areas hold. Assumes nothing.
use Prim.Native.Nat.{ℕ, zero, suc, ◌+◌, ◌-◌, ◌*◌, ◌≤◌, ◌<◌}
use mathlib.Core.Path.{◌≡◌, refl, sym, ap, ◌∙◌}
use mathlib.Core.Bool.{Bool, true, false, cond}
use mathlib.Core.List.{List, [], ◌∷◌, ◌++◌, append_assoc}
use native.Mathlib.Omega.{arith}
use borrow.Author.Tests.{leb-false}
use lib.Dec.{leb}
use lib.ListN.{length, get_or, set, take, drop, length-append, length-replicate, length-set}
use lib.Seq.{take_at, drop_at, drop-drop, take-add, set-append_left}
use Rattle.read_element.specs.of_area.Answer.{Answer, gives, refuses}
use Rattle.read_element.specs.of_area.Area.{zeros, placing, laid}
use Rattle.read_element.proofs.of_area.Laying.{laid-zeros, put-fits}
use Rattle.read_element.specs.of_tree_put.Put.{put_pair}
use Rattle.read_element.proofs.of_tree_put.Puts.{pair-length}
use Rattle.read_element.specs.Attributes.{changed}
use Rattle.read_element.specs.of_utf8.Characters.{joined}
use Rattle.read_element.specs.inside.Held.{moved, Keyed}
use Rattle.read_element.specs.of_refusal.declared.Cause.TheVariants as cause
use Rattle.read_element.specs.of_refusal.declared.Cause.{Cause}

-- what the end of a text that was laid tells
module _ (fill n : ℕ) (v : List ℕ) where
  pub end-put : {end : ℕ} → gives end ≡ moved fill (placing cause.TextFull n v) → (length v ≤ n) × (end ≡ fill + length v)
  end-put {end} e = go (placing cause.TextFull n v) refl e
    where
      go : (m : Answer ℕ) → placing cause.TextFull n v ≡ m → gives end ≡ moved fill m → (length v ≤ n) × (end ≡ fill + length v)
      go (gives k) q p =
          let h = put-fits cause.TextFull n v k (sym q) in
          let z : end ≡ fill + k = cc in (h.0, z ∙ ap (λ (j : ℕ). fill + j) h.1)
      go (refuses k) q p = let z : ◌≡◌ {A = ℕ} 0 1 = cc in absurd (omega arith)

  pub end-full : {why : Cause} → refuses why ≡ moved fill (placing cause.TextFull n v) → (why ≡ cause.TextFull) × (n < length v)
  end-full {why} e = go (leb (length v) n) refl e
    where
      go : (t : Bool) → leb (length v) n ≡ t → refuses why ≡ moved fill (cond t (gives (length v)) (refuses cause.TextFull)) → (why ≡ cause.TextFull) × (n < length v)
      go true q p = let z : ◌≡◌ {A = ℕ} 0 1 = cc in absurd (omega arith)
      go false q p = (cc, leb-false (length v) n q)

-- a text behind texts
module _ (text t : List ℕ) (left : ℕ) (e : text ≡ t ++ zeros left) where
  -- the text area's length: the texts, and what is left
  pub text-size : length text ≡ length t + left
  text-size = ap length e ∙ length-append t (zeros left) ∙ ap (λ (n : ℕ). length t + n) (length-replicate {A = ℕ} left 0)

  pub text-behind : (v : List ℕ) → length v ≤ left → take (length t) text ++ laid (drop (length t) text) v ≡ (t ++ v) ++ zeros (left - length v)
  text-behind v h =
      ap (λ (x : List ℕ). take (length t) x ++ laid (drop (length t) x) v) e
      ∙ ap (λ (x : List ℕ). x ++ laid (drop (length t) (t ++ zeros left)) v) (take_at t (zeros left) (length t) refl)
      ∙ ap (λ (x : List ℕ). t ++ laid x v) (drop_at t (zeros left) (length t) refl)
      ∙ ap (λ (x : List ℕ). t ++ x) (laid-zeros left v h)
      ∙ sym (append_assoc t v (zeros (left - length v)))

-- a change of the record at the front of a part
abbrev pub Local : (List ℕ → List ℕ) → Type 0
Local f = (r t : List ℕ) → length r ≡ 32 → f (r ++ t) ≡ f r ++ t

-- it changes just that record
pub extras-changed : (f : List ℕ → List ℕ) → Local f → (n : ℕ) (rs : List (List ℕ)) (i : ℕ) (z : List ℕ) → Keyed n rs → i < length rs
    → take (i * 32) (joined rs ++ z) ++ f (drop (i * 32) (joined rs ++ z)) ≡ joined (changed i f rs) ++ z
extras-changed f loc n [] i z k h = absurd (omega arith)
extras-changed f loc n (r ∷ rs) zero z k h = ap f (append_assoc r (joined rs) z) ∙ loc r (joined rs ++ z) k.0 ∙ sym (append_assoc (f r) (joined rs) z)
extras-changed f loc n (r ∷ rs) (suc i) z k h =
    let a : (r ++ joined rs) ++ z ≡ r ++ (joined rs ++ z) = append_assoc r (joined rs) z in
    let s : suc i * 32 ≡ 32 + i * 32 = omega arith in
    let d : drop 32 (r ++ (joined rs ++ z)) ≡ joined rs ++ z = drop_at r (joined rs ++ z) 32 k.0 in
    let t : take 32 (r ++ (joined rs ++ z)) ≡ r = take_at r (joined rs ++ z) 32 k.0 in
    let ih = extras-changed f loc n rs i z k.1.1 (omega arith) in
    ap (λ (x : List ℕ). take (suc i * 32) x ++ f (drop (suc i * 32) x)) a
    ∙ ap (λ (m : ℕ). take m (r ++ (joined rs ++ z)) ++ f (drop m (r ++ (joined rs ++ z)))) s
    ∙ ap (λ (x : List ℕ). x ++ f (drop (32 + i * 32) (r ++ (joined rs ++ z)))) (take-add 32 (i * 32) (r ++ (joined rs ++ z)))
    ∙ ap (λ (x : List ℕ). (take 32 (r ++ (joined rs ++ z)) ++ take (i * 32) (drop 32 (r ++ (joined rs ++ z)))) ++ f x) (sym (drop-drop (i * 32) 32 (r ++ (joined rs ++ z))))
    ∙ ap (λ (x : List ℕ). (x ++ take (i * 32) (drop 32 (r ++ (joined rs ++ z)))) ++ f (drop (i * 32) (drop 32 (r ++ (joined rs ++ z))))) t
    ∙ ap (λ (x : List ℕ). (r ++ take (i * 32) x) ++ f (drop (i * 32) x)) d
    ∙ append_assoc r (take (i * 32) (joined rs ++ z)) (f (drop (i * 32) (joined rs ++ z)))
    ∙ ap (λ (x : List ℕ). r ++ x) ih
    ∙ sym (append_assoc r (joined (changed i f rs)) z)

-- putting two words touches the first record alone
pub pair-local : (o a b : ℕ) → o + 1 < 32 → Local (put_pair o a b)
pair-local o a b h r t e =
    ap (λ (x : List ℕ). set x (o + 1) b) (set-append_left r t o a (omega arith))
    ∙ set-append_left (set r o a) t (o + 1) b (let l = pair-length o a b r in rw (length-set r o a) (omega arith))

-- an extra that is changed keeps its key
pub changed-keyed : (f : List ℕ → List ℕ) → ((r : List ℕ) → length (f r) ≡ length r) → ((r : List ℕ) → get_or (f r) 2 0 ≡ get_or r 2 0) → ((r : List ℕ) → get_or (f r) 3 0 ≡ get_or r 3 0)
    → (n : ℕ) (rs : List (List ℕ)) (i : ℕ) → Keyed n rs → Keyed n (changed i f rs)
changed-keyed f l a b n [] i k = k
changed-keyed f l a b n (r ∷ rs) zero k = (l r ∙ k.0, ((let p = a r in let q = b r in let h = k.1.0 in omega arith), k.1.1))
changed-keyed f l a b n (r ∷ rs) (suc i) k = (k.0, (k.1.0, changed-keyed f l a b n rs i k.1.1))

pub changed-length : (f : List ℕ → List ℕ) (rs : List (List ℕ)) (i : ℕ) → length (changed i f rs) ≡ length rs
changed-length f [] i = refl
changed-length f (r ∷ rs) zero = refl
changed-length f (r ∷ rs) (suc i) = ap suc (changed-length f rs i)

-- texts that grow hold the keys still
pub keyed-more : (n m : ℕ) (rs : List (List ℕ)) → n ≤ m → Keyed n rs → Keyed m rs
keyed-more n m [] h k = k
keyed-more n m (r ∷ rs) h k = (k.0, ((let q = k.1.0 in omega arith), keyed-more n m rs h k.1.1))
