-- What stands around an entry, by the parts in which it is put. Assumes nothing.
use Prim.Native.Nat.{ℕ, suc, ◌+◌, ◌-◌, ◌*◌, ◌≤◌, min}
use mathlib.Core.Path.{◌≡◌, refl, sym, ap, ap₂, ◌∙◌}
use mathlib.Core.List.{List, [], ◌∷◌, ◌++◌}
use mathlib.Core.Bool.{Bool, true, false, cond, ◌||◌}
use native.Mathlib.Omega.{arith}
use borrow.Author.Tests.{ne_eqb}
use lib.Dec.{eqb}
use lib.ListN.{take, drop, replicate, length-replicate, replicate-append-replicate}
use lib.Seq.{take_at}
use Rattle.list_values.specs.of_names.Bytes.{bytes}
use Rattle.write_form.specs.of_write_spelled.Spelled.{newline}
use Rattle.write_form.specs.of_write_table.inside.Forms.{closing, lead, is_text, before_entry, behind_entry, key_text, before, behind, key_in, quote_in}

-- how many bytes of `/>` are left out
abbrev skipped : ℕ → ℕ
skipped form = cond (eqb form 1) 0 (cond (eqb form 2) 1 2)

pub closing-part : (form n : ℕ) → n ≡ skipped form → take 2 (drop n (0x2F ∷ 0x3E ∷ [])) ≡ closing form
closing-part form n e = ap (λ (m : ℕ). take 2 (drop m (0x2F ∷ 0x3E ∷ []))) e ∙ go (eqb form 1) (eqb form 2)
  where
    go : (a b : Bool) → take 2 (drop (cond a 0 (cond b 1 2)) (0x2F ∷ 0x3E ∷ [])) ≡ cond a (bytes "/>") (cond b (bytes ">") [])
    go true b = refl
    go false true = refl
    go false false = refl

-- at most two
pub skipped-least : (form n : ℕ) → n ≡ skipped form → n ≤ 2
skipped-least form n e = go (eqb form 1) (eqb form 2) e
  where
    go : (a b : Bool) → n ≡ cond a 0 (cond b 1 2) → n ≤ 2
    go true b q = omega arith
    go false true q = omega arith
    go false false q = omega arith

spaces : (n : ℕ) → n ≤ 32 → take n (replicate 32 32) ≡ replicate {A = ℕ} n 32
spaces n h =
    let m = 32 - n in
    let z : n + m ≡ 32 = omega arith in
    ap (λ (k : ℕ). take n (replicate {A = ℕ} k 32)) (sym z)
    ∙ ap (take n) (sym (replicate-append-replicate {A = ℕ} n m 32))
    ∙ take_at (replicate n 32) (replicate m 32) n (length-replicate {A = ℕ} n 32)

abbrev pub leading : List ℕ
leading = 0x2F ∷ 0x3E ∷ 10 ∷ replicate 32 32

-- the end of the tag before, a newline, the near levels, and the others behind them
pub break-parts : (form level n len left : ℕ) → n ≡ skipped form → len ≡ 3 - n + min level 8 * 4 → left ≡ level - min level 8
    → take len (drop n leading) ++ replicate (left * 4) 32 ≡ closing form ++ newline level
break-parts form level n len left e f g =
    ap₂ (λ (x y : List ℕ). x ++ y) (ap₂ (λ (a b : ℕ). take a (drop b leading)) f e ∙ ap (λ (a : ℕ). take (3 - a + near) (drop (skipped form) leading)) e)
    (ap (λ (a : ℕ). replicate {A = ℕ} (a * 4) 32) g)
    ∙ go (eqb form 1) (eqb form 2)
  where
    near : ℕ
    near = min level 8 * 4

    far : ℕ
    far = (level - min level 8) * 4

    short : take near (replicate 32 32) ≡ replicate {A = ℕ} near 32
    short = spaces (min level 8 * 4) (omega arith)

    all : take near (replicate 32 32) ++ replicate far 32 ≡ replicate {A = ℕ} (level * 4) 32
    all =
        let z : min level 8 * 4 + (level - min level 8) * 4 ≡ level * 4 = omega arith in
        ap (λ (x : List ℕ). x ++ replicate far 32) short ∙ replicate-append-replicate {A = ℕ} near far 32 ∙ ap (λ (k : ℕ). replicate {A = ℕ} k 32) z

    three : (a : ℕ) → 3 + a ≡ suc (suc (suc a))
    three a = omega arith

    two : (a : ℕ) → 2 + a ≡ suc (suc a)
    two a = omega arith

    one : (a : ℕ) → 1 + a ≡ suc a
    one a = omega arith

    go : (a b : Bool) → take (3 - cond a 0 (cond b 1 2) + near) (drop (cond a 0 (cond b 1 2)) leading) ++ replicate far 32 ≡ cond a (bytes "/>") (cond b (bytes ">") []) ++ newline level
    go true b = ap (λ (k : ℕ). take k leading ++ replicate far 32) (three near) ∙ ap (λ (l : List ℕ). 0x2F ∷ 0x3E ∷ 10 ∷ l) all
    go false true = ap (λ (k : ℕ). take k (0x3E ∷ 10 ∷ replicate 32 32) ++ replicate far 32) (two near) ∙ ap (λ (l : List ℕ). 0x3E ∷ 10 ∷ l) all
    go false false = ap (λ (k : ℕ). take k (10 ∷ replicate 32 32) ++ replicate far 32) (one near) ∙ ap (λ (l : List ℕ). 10 ∷ l) all

-- a level more
pub level-more : (n : ℕ) → replicate {A = ℕ} (n * 4) 32 ++ (32 ∷ 32 ∷ 32 ∷ 32 ∷ []) ≡ replicate ((n + 1) * 4) 32
level-more n =
    let z : n * 4 + 4 ≡ (n + 1) * 4 = omega arith in
    replicate-append-replicate {A = ℕ} (n * 4) 4 32 ∙ ap (λ (k : ℕ). replicate {A = ℕ} k 32) z

module _ (form level : ℕ) where
  pub lead-line : (form ≡ 4 → ⊥) → closing form ++ newline level ≡ lead form level
  lead-line h = rw (ne_eqb form 4 h) refl

  module _ (k : ℕ) where
    pub before-open : (eqb k 0 || eqb k 1) ≡ true → lead form level ++ bytes "<" ≡ before_entry form level k
    unfolding before_entry
    before-open h = rw h refl

    pub before-end : k ≡ 2 → lead form (level - 1) ++ bytes "</" ≡ before_entry form level k
    unfolding before_entry
    before-end h = sym (ap (before_entry form level) h)

    pub before-other : k ≡ 6 → lead form level ++ bytes "<?" ≡ before_entry form level k
    unfolding before_entry
    before-other h = sym (ap (before_entry form level) h)

    pub before-indent : k ≡ 9 → closing form ++ newline level ≡ before_entry form level k
    unfolding before_entry
    before-indent h = sym (ap (before_entry form level) h)

    module _ (h : (eqb k 0 || eqb k 1) ≡ false) (h2 : k ≡ 2 → ⊥) (h6 : k ≡ 6 → ⊥) where
      pub before_text : is_text k ≡ true → closing form ≡ before_entry form level k
      unfolding before_entry
      before_text t = rw (h, ne_eqb k 2 h2, ne_eqb k 6 h6, t) refl

      pub before-none : is_text k ≡ false → (k ≡ 9 → ⊥) → [] ≡ before_entry form level k
      unfolding before_entry
      before-none t h9 = rw (h, ne_eqb k 2 h2, ne_eqb k 6 h6, t, ne_eqb k 9 h9) refl

    pub before-xml : (form ≡ 0 → ⊥) → before_entry form level k ≡ before form level k
    before-xml h = rw (ne_eqb form 0 h) refl

module _ (form k : ℕ) where
  pub behind-other : (form ≡ 0 → ⊥) → k ≡ 6 → bytes "?>" ≡ behind form k
  unfolding behind_entry
  behind-other h e = rw (ne_eqb form 0 h, e) refl

  pub behind-none : (form ≡ 0 → ⊥) → (k ≡ 6 → ⊥) → [] ≡ behind form k
  unfolding behind_entry
  behind-none h e = rw (ne_eqb form 0 h, ne_eqb k 6 e) refl

module _ (form : ℕ) (key : List ℕ) where
  pub key-table : form ≡ 0 → key ≡ key_in form key
  key-table e = rw e refl

  pub key-xml : (form ≡ 0 → ⊥) → key_text key ≡ key_in form key
  key-xml h = rw (ne_eqb form 0 h) refl

  pub quote-xml : (form ≡ 0 → ⊥) → bytes "\"" ≡ quote_in form
  quote-xml h = rw (ne_eqb form 0 h) refl
