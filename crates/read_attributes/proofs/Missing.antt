-- The first attribute that an element lacks. Assumes nothing.
use Prim.Native.Nat.{ℕ}
use mathlib.Core.Path.{◌≡◌, sym, ap, ◌∙◌}
use mathlib.Core.Bool.{Bool, true, false, cond, not, ◌&&◌}
use mathlib.Core.List.{List}
use lib.Dec.{leb}
use Rattle.read_all.specs.of_tree_record.Record.{has_bit}
use Rattle.read_attributes.specs.inside.Elements.{missing_of}

module _ (kind : ℕ) (r : List ℕ) {t : Bool} (e : t ≡ has_bit 0 r) where
  first : {b : Bool} → ((leb 2 kind && leb kind 5) && not t) ≡ b → missing_of kind r ≡ cond b 1 (cond ((leb 4 kind && leb kind 5) && not (has_bit 1 r)) 14 0)
  first q = ap (λ (x : Bool). cond x 1 (cond ((leb 4 kind && leb kind 5) && not (has_bit 1 r)) 14 0)) (ap (λ (u : Bool). (leb 2 kind && leb kind 5) && not u) (sym e) ∙ q)

  pub missing-first : ((leb 2 kind && leb kind 5) && not t) ≡ true → 1 ≡ missing_of kind r
  missing-first q = sym (first q)

  module _ {u : Bool} (e' : u ≡ has_bit 1 r) (q : ((leb 2 kind && leb kind 5) && not t) ≡ false) where
    second : {b : Bool} → ((leb 4 kind && leb kind 5) && not u) ≡ b → missing_of kind r ≡ cond b 14 0
    second q' = first q ∙ ap (λ (x : Bool). cond x 14 0) (ap (λ (v : Bool). (leb 4 kind && leb kind 5) && not v) (sym e') ∙ q')

    pub missing-second : ((leb 4 kind && leb kind 5) && not u) ≡ true → 14 ≡ missing_of kind r
    missing-second q' = sym (second q')

    pub missing-none : ((leb 4 kind && leb kind 5) && not u) ≡ false → 0 ≡ missing_of kind r
    missing-none q' = sym (second q')
