-- White space is taken off character by character. Assumes nothing.
use Prim.Native.Nat.{ℕ, ◌+◌, ◌-◌, ◌≤◌, ◌<◌}
use mathlib.Core.Bool.{Bool, true, false, cond, ◌&&◌, false≢true}
use mathlib.Core.List.{List, [], ◌∷◌, ◌++◌}
use mathlib.Core.Path.{◌≡◌, refl, sym, ap, ◌∙◌}
use native.Mathlib.Nat.{add-zero, add_assoc}
use native.Mathlib.Omega.{arith}
use lib.ListN.{length, take, drop, length-append, length-drop, drop_of_length-le}
use lib.Seq.{drop-drop, length-take-le, take-append-add}
use Rattle.utf8_chars.specs.of_utf8.Characters.{step, chars, joined, first_scalar}
use Rattle.utf8_chars.specs.of_utf8.Utf8.{width}
use Rattle.utf8_chars.proofs.of_area.Parts.{rest_part}
use Rattle.utf8_chars.proofs.of_utf8.Rules.{char-utf8}
use Rattle.utf8_chars.proofs.of_utf8.Splitting.{chars-step, step-length, step-some, step-width, step-stray, first_char, first-stray, joined-chars}
use Rattle.trim.specs.Trim.{white, blank, no_start_of, empty, no_end_of, trimmed}

-- l begins with a character of n bytes, white or not
abbrev pub Begins : List ℕ → ℕ → Bool → Type 0
Begins l n t = (n ≡ step l) × (t ≡ blank (take (step l) l))

module _ (s : List ℕ) (n : ℕ) (h : 0 < length s) (e : n ≡ width s) where
  pub begins-stray : n ≡ 0 → Begins s 1 false
  begins-stray z =
      let w = step-stray s h (sym e ∙ z) in
      (sym w, sym (rw (w, first-stray s h (sym e ∙ z)) refl))

  pub begins-char : (c : ℕ) (t : Bool) → (n ≡ 0 → ⊥) → c ≡ first_scalar s → t ≡ white c → Begins s n t
  begins-char c t z ec et =
      let m : 0 < width s = omega arith in
      let w = step-width s m in
      (e ∙ sym w, et ∙ ap white ec ∙ sym (rw (w, char-utf8 (first_char s m)) refl))

-- ---- at the start
start-turn : (l : List ℕ) (n : ℕ) (t : Bool) → 0 < length l → Begins l n t → no_start_of (chars l) ≡ cond t (no_start_of (chars (drop n l))) (chars l)
start-turn l n t h f =
    ap no_start_of (chars-step l h)
    ∙ ap (λ (u : Bool). cond u (no_start_of (chars (drop (step l) l))) (take (step l) l ∷ chars (drop (step l) l))) (sym f.1)
    ∙ ap (λ (cs : List (List ℕ)). cond t (no_start_of (chars (drop (step l) l))) cs) (sym (chars-step l h))
    ∙ ap (λ (k : ℕ). cond t (no_start_of (chars (drop k l))) (chars l)) (sym f.0)

-- ---- at the end
-- how long the text is without white space at its end
abbrev pub size : List (List ℕ) → ℕ
size cs = length (joined (no_end_of cs))

-- the end, if the last character that is not white before j ends at to, and cs stands from j on
abbrev pub end_from : ℕ → ℕ → List (List ℕ) → ℕ
end_from to j cs = cond (empty (no_end_of cs)) to (j + size cs)

no_more : (cs : List (List ℕ)) → empty cs ≡ true → length (joined cs) ≡ 0
no_more [] e = refl
no_more (c ∷ cs) e = absurd (false≢true e)

-- one character more
end-over : (c : List ℕ) (cs : List (List ℕ)) (to j : ℕ) (t : Bool) → blank c ≡ t → end_from to j (c ∷ cs) ≡ end_from (cond t to (j + length c)) (j + length c) cs
end-over c cs to j t e =
    ap (λ (b : Bool). cond (empty (cond (b && empty (no_end_of cs)) [] (c ∷ no_end_of cs))) to (j + length (joined (cond (b && empty (no_end_of cs)) [] (c ∷ no_end_of cs))))) e ∙ go t (empty (no_end_of cs)) refl
  where
    long : j + length (c ++ joined (no_end_of cs)) ≡ j + length c + size cs
    long = ap (λ (n : ℕ). j + n) (length-append c (joined (no_end_of cs))) ∙ sym (add_assoc j (length c) (size cs))

    go : (b u : Bool) → empty (no_end_of cs) ≡ u
        → cond (empty (cond (b && u) [] (c ∷ no_end_of cs))) to (j + length (joined (cond (b && u) [] (c ∷ no_end_of cs)))) ≡ cond u (cond b to (j + length c)) (j + length c + size cs)
    go true true q = refl
    go true false q = long
    go false true q = long ∙ ap (λ (n : ℕ). j + length c + n) (no_more (no_end_of cs) q) ∙ add-zero (j + length c)
    go false false q = long

end-turn : (l : List ℕ) (n to j : ℕ) (t : Bool) → 0 < length l → Begins l n t → end_from to j (chars l) ≡ end_from (cond t to (j + n)) (j + n) (chars (drop n l))
end-turn l n to j t h f =
    ap (end_from to j) (chars-step l h)
    ∙ end-over (take (step l) l) (chars (drop (step l) l)) to j t (sym f.1)
    ∙ ap (λ (k : ℕ). end_from (cond t to (j + k)) (j + k) (chars (drop (step l) l))) (length-take-le (step l) l (step-length l))
    ∙ ap (λ (k : ℕ). end_from (cond t to (j + k)) (j + k) (chars (drop k l))) (sym f.0)

-- without its end it is a front part
pub no-end-part : (cs : List (List ℕ)) → joined (no_end_of cs) ≡ take (size cs) (joined cs)
no-end-part [] = refl
no-end-part (c ∷ cs) = go (no-end-part cs) (blank c && empty (no_end_of cs)) refl
  where
    go : joined (no_end_of cs) ≡ take (size cs) (joined cs) → (t : Bool) → (blank c && empty (no_end_of cs)) ≡ t → joined (no_end_of (c ∷ cs)) ≡ take (size (c ∷ cs)) (joined (c ∷ cs))
    go ih true q = rw q
    go ih false q = rw q (ap (λ (l : List ℕ). c ++ l) ih ∙ sym (take-append-add c (joined cs) (size cs)) ∙ sym (ap (λ (n : ℕ). take n (c ++ joined cs)) (length-append c (joined (no_end_of cs)))))

end-first : (cs : List (List ℕ)) → end_from 0 0 cs ≡ size cs
end-first cs = go (no_end_of cs)
  where
    go : (x : List (List ℕ)) → cond (empty x) 0 (0 + length (joined x)) ≡ length (joined x)
    go [] = refl
    go (c ∷ x) = omega arith

-- ---- at a place of the list, in the terms of the code
pub rest_some : (s : List ℕ) (i : ℕ) → i < length s → 0 < length (take (length s - i) (drop i s))
rest_some s i h = rw (rest_part s i, length-drop i s) (omega arith)

module _ (s : List ℕ) (i n : ℕ) (t : Bool) (h : i < length s) (f : Begins (take (length s - i) (drop i s)) n t) where
  here : Begins (drop i s) n t
  here = rw (rest_part s i) at f

  more : 0 < length (drop i s)
  more = simp length-drop (omega arith)

  pub turn-fits : (0 < n) × (i + n ≤ length s)
  turn-fits = let e = here.0 in let m = step-length (drop i s) in let p = step-some (drop i s) more in (omega arith, omega (arith, length-drop i s))

  pub turn-start : (u : Bool) → t ≡ u → no_start_of (chars (drop i s)) ≡ cond u (no_start_of (chars (drop (i + n) s))) (chars (drop i s))
  turn-start u e = start-turn (drop i s) n u more (rw e at here) ∙ ap (λ (l : List ℕ). cond u (no_start_of (chars l)) (chars (drop i s))) (drop-drop n i s)

  pub turn_end : (to : ℕ) (u : Bool) → t ≡ u → end_from to i (chars (drop i s)) ≡ end_from (cond u to (i + n)) (i + n) (chars (drop (i + n) s))
  turn_end to u e = end-turn (drop i s) n to i u more (rw e at here) ∙ ap (λ (l : List ℕ). end_from (cond u to (i + n)) (i + n) (chars l)) (drop-drop n i s)

module _ (s : List ℕ) (i : ℕ) (h : length s ≤ i) where
  pub start-end : no_start_of (chars (drop i s)) ≡ chars (drop i s)
  start-end = ap (λ (l : List ℕ). no_start_of (chars l)) (drop_of_length-le s h) ∙ sym (ap chars (drop_of_length-le s h))

  pub end-end : (to : ℕ) → end_from 0 0 (chars s) ≡ end_from to i (chars (drop i s)) → joined (no_end_of (chars s)) ≡ take to s
  end-end to e =
      let n : size (chars s) ≡ to = sym (end-first (chars s)) ∙ e ∙ ap (λ (l : List ℕ). end_from to i (chars l)) (drop_of_length-le s h) in
      no-end-part (chars s) ∙ ap (take (size (chars s))) (joined-chars s) ∙ ap (λ (k : ℕ). take k s) n

-- both ends
pub both_ends : (s : List ℕ) (from to : ℕ) → no_start_of (chars s) ≡ chars (drop from s)
    → joined (no_end_of (chars (take (length s - from) (drop from s)))) ≡ take to (take (length s - from) (drop from s)) → take to (take (length s - from) (drop from s)) ≡ trimmed s
both_ends s from to e q = sym q ∙ ap (λ (l : List ℕ). joined (no_end_of (chars l))) (rest_part s from) ∙ sym (ap (λ (cs : List (List ℕ)). joined (no_end_of cs)) e)
