-- A path put element by element. Assumes nothing.
use Prim.Native.Nat.{ℕ, zero, suc, ◌+◌, ◌≤◌, ◌<◌, min}
use mathlib.Core.Path.{◌≡◌, refl, sym, ap, ◌∙◌}
use mathlib.Core.List.{List, [], ◌∷◌, ◌++◌, append_assoc}
use mathlib.Core.Bool.{Bool, true, false, not, ◌&&◌, true≢false}
use native.Mathlib.Decide.{dec_le}
use native.Mathlib.Nat.{min-eq_left, min-eq_right, min-le_right}
use native.Mathlib.Numerals.{add-one}
use native.Mathlib.Omega.{arith}
use borrow.Author.Tests.{eq-eqb, ne_eqb}
use lib.ListN.{length, get_or, take, drop, drop_of_length-le}
use lib.Seq.{length-take-le, take_all, drop-cons, get_or-take}
use Rattle.std.specs.Prelude.{Option}
use Rattle.explain_element.specs.of_refusal.Refusal.{filler}
use Rattle.explain_element.specs.of_refusal.declared.PathElement.{PathElement}
use Rattle.explain_element.specs.of_refusal.declared.Path.{Path}
use Rattle.explain_element.specs.of_names.Bytes.{bytes}
use Rattle.explain_element.specs.of_list_text.inside.Behind.{filled, is_full, Puts}
use Rattle.explain_element.proofs.of_list_text.Putting.{Coming, coming-start, coming_on, coming_puts, coming-done, coming-stop}
use Rattle.explain_element.specs.of_explain_text.Explanation.{six, element_text, elements_text, path_text}
use Rattle.explain_place.specs.inside.Marks.{mark_at}

pub at_most : (len n : ℕ) → n ≡ min len 6 → n ≤ 6
at_most len n e = rw e (min-le_right len 6)

pub first-mark : (i : ℕ) → i ≡ 0 → bytes " at " ≡ mark_at i
first-mark i e = sym (rw (eq-eqb i 0 e) refl)

pub other-mark : (i : ℕ) → (i ≡ 0 → ⊥) → bytes "/" ≡ mark_at i
other-mark i e = sym (rw (ne_eqb i 0 e) refl)

-- ---- the array of six
six-at : (es : List PathElement) (i : ℕ) → i < 6 → get_or (six es) i filler ≡ get_or es i filler
six-at es zero h = refl
six-at es (suc zero) h = refl
six-at es (suc (suc zero)) h = refl
six-at es (suc (suc (suc zero))) h = refl
six-at es (suc (suc (suc (suc zero)))) h = refl
six-at es (suc (suc (suc (suc (suc zero))))) h = refl
six-at es (suc (suc (suc (suc (suc (suc i)))))) h = absurd (omega arith)

take-six : (es : List PathElement) (len n : ℕ) → n ≡ min len 6 → take n (six es) ≡ take len (six es)
take-six es len n e = go (dec_le len 6)
  where
    go : Dec (len ≤ 6) → take n (six es) ≡ take len (six es)
    go (yes h) = ap (λ (m : ℕ). take m (six es)) (e ∙ min-eq_left h)
    go (no h) = let z : n ≡ 6 = e ∙ min-eq_right (omega arith) in take_all n (six es) (omega arith) ∙ sym (take_all len (six es) (omega arith))

module _ (es : List PathElement) (n : ℕ) (m : n ≤ 6) where
  long : length (take n (six es)) ≡ n
  long = length-take-le n (six es) m

  next : (i : ℕ) → i < n → drop i (take n (six es)) ≡ get_or es i filler ∷ drop (i + 1) (take n (six es))
  next i h =
      let l : i < length (take n (six es)) = omega (arith, long) in
      drop-cons (take n (six es)) i filler l
      ∙ ap (λ (e : PathElement). e ∷ drop (suc i) (take n (six es))) (get_or-take n (six es) i filler h ∙ six-at es i (omega arith))
      ∙ ap (λ (j : ℕ). get_or es i filler ∷ drop j (take n (six es))) (sym (add-one i))

  over : (i : ℕ) → n ≤ i → drop i (take n (six es)) ≡ []
  over i h = drop_of_length-le (take n (six es)) {i = i} (omega (arith, long))

module _ (events attributes source : List ℕ) where
  -- what is to come from element i on
  abbrev rest : List PathElement → ℕ → ℕ → List ℕ
  rest es n i = elements_text events attributes source (mark_at i) (drop i (take n (six es)))

  -- n elements of es are put up to number i
  pub record Walking (es : List PathElement) (n : ℕ) (out₀ : List ℕ) (k₀ : Option ℕ) (out : List ℕ) (i : ℕ) (k : Option ℕ) : Type 0 where
    pub coming : Coming (filled k₀ out₀) (rest es n 0) (filled k out) (rest es n i)

  pub walking_start : (es : List PathElement) (n : ℕ) (out : List ℕ) (k : Option ℕ) → Walking es n out k out 0 k
  walking_start es n out k = record { coming = coming-start (filled k out) (rest es n 0) }

  pub whole-path : (p : Path) (n : ℕ) → n ≡ min p.len 6 → rest p.elements n 0 ≡ path_text events attributes source p
  unfolding path_text
  whole-path p n e = ap (elements_text events attributes source (bytes " at ")) (take-six p.elements p.len n e)

  module _ {es : List PathElement} {n : ℕ} {out₀ : List ℕ} {k₀ : Option ℕ} {out : List ℕ} {i : ℕ} {k : Option ℕ} (g : Walking es n out₀ k₀ out i k) (m : n ≤ 6) where
    rest-next : i < n → rest es n i ≡ (mark_at i ++ element_text events attributes source (get_or es i filler)) ++ rest es n (i + 1)
    unfolding elements_text
    rest-next h =
        ap (elements_text events attributes source (mark_at i)) (next es n m i h)
        ∙ sym (append_assoc (mark_at i) (element_text events attributes source (get_or es i filler)) (elements_text events attributes source (bytes "/") (drop (i + 1) (take n (six es)))))
        ∙ ap (λ (l : List ℕ). (mark_at i ++ element_text events attributes source (get_or es i filler)) ++ elements_text events attributes source l (drop (i + 1) (take n (six es))))
        (other-mark (i + 1) (λ z. omega arith))

    pub walking-more : {out' : List ℕ} {k' : Option ℕ} → i < n → Puts (filled k out) (mark_at i ++ element_text events attributes source (get_or es i filler)) (filled k' out')
        → Walking es n out₀ k₀ out' (i + 1) k'
    walking-more h q = record { coming = coming_puts (coming_on g.coming (rest-next h)) q }

    rest_over : n ≤ i → rest es n i ≡ []
    unfolding elements_text
    rest_over h = ap (elements_text events attributes source (mark_at i)) (over es n m i h)

    -- there is no room for more
    pub walking-full : (a : Bool) → a ≡ not (is_full k) → a ≡ false → Puts (filled k₀ out₀) (rest es n 0) (filled k out)
    walking-full a p e = coming-stop k true g.coming (ap (λ (x : Bool). x && true) (sym p ∙ e)) (λ z. absurd (true≢false z))

    pub walking-done : n ≤ i → Puts (filled k₀ out₀) (rest es n 0) (filled k out)
    walking-done h = coming-done (coming_on g.coming (rest_over h))
