-- What trimming leaves. Assumes nothing.
use Prim.Native.Nat.{ℕ, ◌≤◌, ◌<◌}
use mathlib.Core.Bool.{Bool, true, false, cond, ◌&&◌, and-false}
use mathlib.Core.List.{List, [], ◌∷◌, ◌++◌, append_assoc, append-nil}
use mathlib.Core.Path.{◌≡◌, refl, sym, ap, ◌∙◌}
use native.Mathlib.Omega.{arith}
use borrow.Author.Tests.{le-leb, lt-leb, ne_eqb}
use lib.ListN.{length, drop, length-append, take-append-drop}
use Rattle.utf8_chars.specs.of_utf8.Characters.{chars, joined}
use Rattle.utf8_chars.specs.of_utf8.Grammar.{Char, one}
use Rattle.utf8_chars.specs.of_utf8.Utf8.{utf8}
use Rattle.utf8_chars.proofs.of_utf8.Splitting.{Each, chars-each, joined-utf8, joined-chars, chars-joined, chars-append, chars-char}
use Rattle.trim.specs.Trim.{white, blank, no_start_of, empty, no_end_of, trimmed}
use Rattle.trim.proofs.Trimming.{size, no-end-part}

-- ---- UTF-8 stays UTF-8
module _ (P : List ℕ → Type 0) where
  start-each : (cs : List (List ℕ)) → Each P cs → Each P (no_start_of cs)
  start-each [] a = a
  start-each (c ∷ cs) a = go (blank c) (start-each cs a.1)
    where
      go : (t : Bool) → Each P (no_start_of cs) → Each P (cond t (no_start_of cs) (c ∷ cs))
      go true ih = ih
      go false ih = a

  end-each : (cs : List (List ℕ)) → Each P cs → Each P (no_end_of cs)
  end-each [] a = a
  end-each (c ∷ cs) a = go (blank c && empty (no_end_of cs)) (end-each cs a.1)
    where
      go : (t : Bool) → Each P (no_end_of cs) → Each P (cond t [] (c ∷ no_end_of cs))
      go true ih = tt
      go false ih = (a.0, ih)

trimmed-each : (s : List ℕ) → utf8 s ≡ true → Each Char (no_end_of (no_start_of (chars s)))
trimmed-each s e = end-each Char (no_start_of (chars s)) (start-each Char (chars s) (chars-each s e))

-- UTF-8 stays UTF-8, since whole characters are trimmed
pub utf8-trimmed : (s : List ℕ) → utf8 s ≡ true → utf8 (trimmed s) ≡ true
utf8-trimmed s e = joined-utf8 (no_end_of (no_start_of (chars s))) (trimmed-each s e)

-- ---- a part of the text
pub record Part (t s : List ℕ) : Type 0 where
  pub before : List ℕ
  pub after : List ℕ
  pub whole : s ≡ before ++ (t ++ after)

start-part : (cs : List (List ℕ)) → Part (joined (no_start_of cs)) (joined cs)
start-part [] = record { before = []; after = []; whole = refl }
start-part (c ∷ cs) = go (blank c) (start-part cs)
  where
    go : (t : Bool) → Part (joined (no_start_of cs)) (joined cs) → Part (joined (cond t (no_start_of cs) (c ∷ cs))) (joined (c ∷ cs))
    go true p = record {
      before = c ++ p.before;
      after = p.after;
      whole = ap (λ (l : List ℕ). c ++ l) p.whole ∙ sym (append_assoc c p.before (joined (no_start_of cs) ++ p.after));
    }
    go false p = record { before = []; after = []; whole = sym (append-nil (joined (c ∷ cs))) }

pub trimmed-part : (s : List ℕ) → Part (trimmed s) s
trimmed-part s =
    let cs = no_start_of (chars s) in
    let p = start-part (chars s) in
    let rest = drop (size cs) (joined cs) in
    let e : joined cs ≡ trimmed s ++ rest = sym (take-append-drop (size cs) (joined cs)) ∙ ap (λ (l : List ℕ). l ++ rest) (sym (no-end-part cs)) in
    record {
      before = p.before;
      after = rest ++ p.after;
      whole =
          sym (joined-chars s) ∙ p.whole ∙ ap (λ (l : List ℕ). p.before ++ (l ++ p.after)) e
          ∙ ap (λ (l : List ℕ). p.before ++ l) (append_assoc (trimmed s) rest p.after);
    }

-- trimming never lengthens
pub trimmed-length : (s : List ℕ) → length (trimmed s) ≤ length s
trimmed-length s = let p = trimmed-part s in omega (arith, simp length-append at (ap length p.whole))

-- ---- nothing is left to trim
module _ (c : List ℕ) (black : blank c ≡ false) where
  start-black : (cs : List (List ℕ)) → no_start_of (c ∷ cs) ≡ c ∷ cs
  start-black cs = rw black

  some_end : (cs : List (List ℕ)) → empty (cs ++ (c ∷ [])) ≡ false
  some_end [] = refl
  some_end (x ∷ cs) = refl

  pub end-black : (cs : List (List ℕ)) → no_end_of (cs ++ (c ∷ [])) ≡ cs ++ (c ∷ [])
  end-black [] = rw black
  end-black (x ∷ cs) = rw (end-black cs, some_end cs, and-false (blank x)) refl

-- a text whose first and last character are not white
pub trimmed-same : (s c d : List ℕ) (cs ds : List (List ℕ)) → chars s ≡ c ∷ cs → chars s ≡ ds ++ (d ∷ []) → blank c ≡ false → blank d ≡ false → trimmed s ≡ s
trimmed-same s c d cs ds e q b b' =
    let f : no_start_of (chars s) ≡ chars s = ap no_start_of e ∙ start-black c b cs ∙ sym e in
    let g : no_end_of (chars s) ≡ chars s = ap no_end_of q ∙ end-black d b' ds ∙ sym q in
    ap (λ (x : List (List ℕ)). joined (no_end_of x)) f ∙ ap joined g ∙ joined-chars s

black-ascii : (b : ℕ) → 0x21 ≤ b → b < 0x80 → blank (b ∷ []) ≡ false
black-ascii b l h =
    let w : white b ≡ false =
    simp (
      lt-leb b 0x0D (omega arith),
      le-leb 0x09 b (omega arith),
      ne_eqb b 0x20 (omega arith),
      ne_eqb b 0x85 (omega arith),
      ne_eqb b 0xA0 (omega arith),
      ne_eqb b 0x1680 (omega arith),
      lt-leb 0x2000 b (omega arith),
      ne_eqb b 0x2028 (omega arith),
      ne_eqb b 0x2029 (omega arith),
      ne_eqb b 0x202F (omega arith),
      ne_eqb b 0x205F (omega arith),
      ne_eqb b 0x3000 (omega arith),
    ) in
    ap (λ (t : Bool). utf8 (b ∷ []) && t) w ∙ and-false (utf8 (b ∷ []))

-- a text whose first and last byte are ASCII from 21 on
pub trimmed-ascii : (b d : ℕ) (r m : List ℕ) → b ∷ r ≡ m ++ (d ∷ []) → utf8 m ≡ true → 0x21 ≤ b → b < 0x80 → 0x21 ≤ d → d < 0x80 → trimmed (b ∷ r) ≡ b ∷ r
trimmed-ascii b d r m e u bl bh dl dh =
    trimmed-same (b ∷ r) (b ∷ []) (d ∷ []) (chars r) (chars m)
    (chars-char (one {a = b} (omega arith)) r)
    (ap chars e ∙ chars-append m (d ∷ []) u ∙ ap (λ (cs : List (List ℕ)). chars m ++ cs) (chars-char (one {a = d} (omega arith)) []))
    (black-ascii b bl bh)
    (black-ascii d dl dh)

start-end-start : (cs : List (List ℕ)) → no_start_of (no_end_of (no_start_of cs)) ≡ no_end_of (no_start_of cs)
start-end-start [] = refl
start-end-start (c ∷ cs) = go (blank c) refl (start-end-start cs)
  where
    go : (t : Bool) → blank c ≡ t → no_start_of (no_end_of (no_start_of cs)) ≡ no_end_of (no_start_of cs) → no_start_of (no_end_of (no_start_of (c ∷ cs))) ≡ no_end_of (no_start_of (c ∷ cs))
    go true q ih = rw q ih
    go false q ih =
        let f : no_end_of (c ∷ cs) ≡ c ∷ no_end_of cs = ap (λ (t : Bool). cond (t && empty (no_end_of cs)) [] (c ∷ no_end_of cs)) q in
        let g : no_start_of (c ∷ cs) ≡ c ∷ cs = start-black c q cs in
        ap (λ (x : List (List ℕ)). no_start_of (no_end_of x)) g ∙ ap no_start_of f ∙ start-black c q (no_end_of cs) ∙ sym f ∙ ap no_end_of (sym g)

end-end : (cs : List (List ℕ)) → no_end_of (no_end_of cs) ≡ no_end_of cs
end-end [] = refl
end-end (c ∷ cs) = go (blank c && empty (no_end_of cs)) refl (end-end cs)
  where
    go : (t : Bool) → (blank c && empty (no_end_of cs)) ≡ t → no_end_of (no_end_of cs) ≡ no_end_of cs
        → no_end_of (cond (blank c && empty (no_end_of cs)) [] (c ∷ no_end_of cs)) ≡ cond (blank c && empty (no_end_of cs)) [] (c ∷ no_end_of cs)
    go true q ih = rw q
    go false q ih = rw q (ap (λ (x : List (List ℕ)). cond (blank c && empty x) [] (c ∷ x)) ih ∙ ap (λ (t : Bool). cond t [] (c ∷ no_end_of cs)) q)

pub trimmed-twice : (s : List ℕ) → utf8 s ≡ true → trimmed (trimmed s) ≡ trimmed s
trimmed-twice s e =
    let cs = no_start_of (chars s) in
    ap (λ (x : List (List ℕ)). joined (no_end_of (no_start_of x))) (chars-joined (no_end_of cs) (trimmed-each s e))
    ∙ ap (λ (x : List (List ℕ)). joined (no_end_of x)) (start-end-start (chars s))
    ∙ ap joined (end-end cs)
