-- Areas that are longer by words that are zero. Assumes nothing.
use Rattle.std.specs.Prelude.{Result}
use Prim.Native.Nat.{ℕ, ◌+◌, ◌-◌, ◌≤◌, ◌<◌}
use mathlib.Core.Path.{◌≡◌, refl, sym, ap, subst, ◌∙◌}
use mathlib.Core.Bool.{Bool, true, false, ◌||◌}
use mathlib.Core.List.{List, ◌++◌, append_assoc}
use native.Mathlib.Omega.{arith}
use borrow.Author.Tests.{leb-false, ltb-false}
use lib.Dec.{leb, ltb}
use lib.ListN.{length, take, drop, length-append, length-replicate, replicate-append-replicate}
use lib.Seq.{drop_at, drop-drop, take-append-add}
use Rattle.read_indexed.specs.of_area.Area.{zeros}
use Rattle.read_indexed.proofs.of_area.Lists.{take-zeros, drop-zeros}
use Rattle.read_indexed.specs.of_refusal.Refusal.{Outcome}
use Rattle.read_indexed.specs.of_utf8.Characters.{joined}
use Rattle.read_indexed.specs.of_read_element.Outcome.{Place}
use Rattle.read_indexed.specs.of_read_element.Attributes.{Given}
use Rattle.read_indexed.specs.of_read_element.inside.Held.{Held}
use Rattle.read_indexed.specs.of_read_attribute.inside.Steps.{Matches}
use Rattle.read_indexed.specs.of_read_element.inside.Refines.{went, stopped}
use Rattle.read_indexed.specs.of_read_each.inside.Fresh.{fresh}
use Rattle.read_indexed.specs.of_read_extra_record.declared.Given.{Given as Counted}
use Rattle.read_indexed.specs.of_read_fault.declared.Fault.{Fault}

held-wider : {own text : List ℕ} {extras fill : ℕ} {g : Given} (z : ℕ) → Held own text extras fill g → Held (own ++ zeros z) text extras fill g
held-wider {own} {text} {extras} {fill} {g} z hd = record {
  room = hd.room + z;
  left = hd.left;
  records = ap (λ (l : List ℕ). l ++ zeros z) hd.records
      ∙ append_assoc g.main (joined g.extras ++ zeros hd.room) (zeros z)
      ∙ ap (λ (l : List ℕ). g.main ++ l)
      (append_assoc (joined g.extras) (zeros hd.room) (zeros z) ∙ ap (λ (l : List ℕ). joined g.extras ++ l) (replicate-append-replicate {A = ℕ} hd.room z 0));
  main-words = hd.main-words;
  keyed = hd.keyed;
  count = hd.count;
  stored = hd.stored;
  filled = hd.filled;
}

pub matches_wider : {p : Place} {own text : List ℕ} {o : Outcome Given} {s : Result Counted Fault} (z : ℕ) → Matches p own text o s → Matches p (own ++ zeros z) text o s
matches_wider z (went h) = went (held-wider z h)
matches_wider z stopped = stopped

-- an element before its attributes, in the first words
module _ (kind fill : ℕ) (texts own text : List ℕ) (hd : Held own text 0 fill (fresh kind texts)) where
  size : length own ≡ 32 + hd.room
  size = ap length hd.records ∙ length-append (fresh kind texts).main (zeros hd.room) ∙ ap (λ (n : ℕ). 32 + n) (length-replicate {A = ℕ} hd.room 0)

  module _ (k : ℕ) (low : 32 ≤ k) (high : k ≤ length own) where
    pub rest-zero : drop k own ≡ zeros (length own - k)
    rest-zero =
        let z : k ≡ 32 + (k - 32) = omega arith in
        let s = size in
        let y : hd.room - (k - 32) ≡ length own - k = omega arith in
        ap (λ (n : ℕ). drop n own) z ∙ sym (drop-drop (k - 32) 32 own)
        ∙ ap (drop (k - 32)) (ap (drop 32) hd.records ∙ drop_at (fresh kind texts).main (zeros hd.room) 32 refl) ∙ drop-zeros (k - 32) hd.room ∙ ap zeros y

    pub front-held : Held (take k own) text 0 fill (fresh kind texts)
    front-held =
        let z : k ≡ 32 + (k - 32) = omega arith in
        let s = size in
        record {
          room = k - 32;
          left = hd.left;
          records = ap (λ (n : ℕ). take n own) z ∙ ap (take (32 + (k - 32))) hd.records ∙ take-append-add (fresh kind texts).main (zeros hd.room) (k - 32)
              ∙ ap (λ (l : List ℕ). (fresh kind texts).main ++ l) (take-zeros (k - 32) hd.room (omega arith));
          main-words = refl;
          keyed = tt;
          count = refl;
          stored = hd.stored;
          filled = hd.filled;
        }

-- the words behind the first k were cleared
pub cleared : {p : Place} (k n : ℕ) (own : List ℕ) {own' text back : List ℕ} {o : Outcome Given} {s : Result Counted Fault}
    → own' ≡ take k own ++ back → back ≡ zeros n → Matches p (take k own) text o s → Matches p own' text o s
cleared {p} k n own {own'} {text} {back} {o} {s} e z x = subst (λ (l : List ℕ). Matches p l text o s) (sym (e ∙ ap (λ (l : List ℕ). take k own ++ l) z)) (matches_wider n x)

-- the words behind the part came back as they were
pub behind : {p : Place} (n : ℕ) {front rest text : List ℕ} {o : Outcome Given} {s : Result Counted Fault} → rest ≡ zeros n → Matches p front text o s → Matches p (front ++ rest) text o s
behind {p} n {front} {rest} {text} {o} {s} z x = subst (λ (l : List ℕ). Matches p (front ++ l) text o s) (sym z) (matches_wider n x)

or-false : (a b : Bool) → (a || b) ≡ false → (a ≡ false) × (b ≡ false)
or-false true b e = let z : ◌≡◌ {A = ℕ} 0 1 = cc in absurd (omega arith)
or-false false b e = (refl, e)

pub many : (n lent e text room : ℕ) (a t : Bool) → ((leb n 8 || a) || (ltb lent e || (ltb text room || t))) ≡ false → (8 < n) × (e ≤ lent) × (room ≤ text)
many n lent e text room a t q =
    let u = or-false (leb n 8 || a) (ltb lent e || (ltb text room || t)) q in
    let v = or-false (leb n 8) a u.0 in
    let w = or-false (ltb lent e) (ltb text room || t) u.1 in
    let x = or-false (ltb text room) t w.1 in
    (leb-false n 8 v.0, ltb-false lent e w.0, ltb-false text room x.0)
