-- Marks behind the records, and the text area that lent its room for them. Assumes nothing.
use Rattle.std.specs.Prelude.{Result}
use Prim.Native.Nat.{ℕ, ◌-◌, ◌≤◌, ◌<◌}
use mathlib.Core.Path.{◌≡◌, sym, ap, subst, ◌∙◌}
use mathlib.Core.List.{List, ◌++◌}
use native.Mathlib.Omega.{arith}
use native.Mathlib.Decide.{dec_lt}
use lib.ListN.{length, get_or, take, drop, take-append-drop, length-drop, length-append, length-replicate, get_or-replicate, get_or-eq_default}
use lib.Seq.{drop_at, length-take-le}
use Rattle.read_indexed.specs.of_area.Area.{zeros}
use Rattle.read_indexed.proofs.of_area.Parts.{rest_part}
use Rattle.read_indexed.specs.of_read_element.Attributes.{Given}
use Rattle.read_indexed.specs.of_read_element.inside.Held.{Held, Roomy}
use Rattle.read_indexed.specs.of_read_element.inside.Refines.{Table, Areas, areas}
use Rattle.read_indexed.specs.of_read_attribute.declared.Range.{Range}
use Rattle.read_indexed.specs.of_read_attribute.inside.Steps.{Matches}
use Rattle.read_indexed.specs.of_read_each.inside.Fresh.{fresh}
use Rattle.read_indexed.specs.of_read_each.inside.Promises.{read_from, ReadsWithin}
use Rattle.read_indexed.specs.of_read_marks.inside.Marks.{Marks}
use Rattle.read_indexed.proofs.of_read_places.Noting.{front-is, rest-is}
use Rattle.read_indexed.specs.of_read_extra_record.declared.Given.{Given as Counted}
use Rattle.read_indexed.specs.of_read_fault.declared.Fault.{Fault}

zero-at : (n i : ℕ) → get_or (zeros n) i 0 ≡ 0
zero-at n i = go (dec_lt i n)
  where
    go : Dec (i < n) → get_or (zeros n) i 0 ≡ 0
    go (yes h) = get_or-replicate {A = ℕ} n i 0 0 h
    go (no h) = let l = length-replicate {A = ℕ} n 0 in get_or-eq_default (zeros n) 0 (omega arith)

-- zeros mark nothing
pub marks-none : (attributes source : List ℕ) (first : ℕ) {words : List ℕ} (n : ℕ) → words ≡ zeros n → Marks attributes source first words
marks-none attributes source first n e i h = let z = sym h ∙ ap (λ (l : List ℕ). get_or l i 0) e ∙ zero-at n i in absurd (omega arith)

-- the words came back with the marks
module _ (k : ℕ) (own words : List ℕ) {own' : List ℕ} (fits : k ≤ length own) (e : own' ≡ take k own ++ words) where
  pub marked-front : take k own' ≡ take k own
  marked-front = front-is k (take k own) words (length-take-le k own fits) e

  pub marked-rest : (attributes source : List ℕ) (first : ℕ) → Marks attributes source first words → Marks attributes source first (drop k own')
  marked-rest attributes source first m i h = m i (ap (λ (l : List ℕ). get_or l i 0) (sym (rest-is k (take k own) words (length-take-le k own fits) e)) ∙ h)

-- the bytes behind the fill came back as zeros
pub text-back : (fill : ℕ) (text : List ℕ) {text' part : List ℕ} → drop fill text ≡ zeros (length text - fill) → text' ≡ take fill text ++ part
    → part ≡ zeros (length (take (length text - fill) (drop fill text))) → text' ≡ text
text-back fill text z e p =
    let l = ap length (rest_part text fill) ∙ length-drop fill text in
    e ∙ ap (λ (s : List ℕ). take fill text ++ s) (p ∙ ap zeros l ∙ sym z) ∙ take-append-drop fill text

-- the texts in use are followed by zeros
pub text-zero : {own text : List ℕ} {extras fill : ℕ} {g : Given} → Held own text extras fill g → drop fill text ≡ zeros (length text - fill)
text-zero {own} {text} {extras} {fill} {g} hd =
    let s = hd.stored in
    let f = hd.filled in
    let l = ap length s ∙ length-append g.texts (zeros hd.left) in
    let r = length-replicate {A = ℕ} hd.left 0 in
    let y : hd.left ≡ length text - fill = omega arith in
    ap (drop fill) s ∙ drop_at g.texts (zeros hd.left) fill (sym f) ∙ ap zeros y

-- the element before its attributes, once the marks are there
pub begun : (kind fill k : ℕ) (own text own' text' : List ℕ) → take k own' ≡ take k own → text' ≡ text → Held (take k own) text 0 fill (fresh kind (take fill text))
    → Held (take k own') text' 0 fill (fresh kind (take fill text'))
begun kind fill k own text own' text' e f h =
    subst (λ (l : List ℕ). Held l text' 0 fill (fresh kind (take fill text'))) (sym e)
    (subst (λ (t : List ℕ). Held (take k own) t 0 fill (fresh kind (take fill t))) (sym f) h)

-- what was read once they were there
pub within_same : (kind fill : ℕ) (table : Table) (range : Range) (own text own' text' : List ℕ) (after : Areas) (r : Result Counted Fault) → text' ≡ text → length own' ≡ length own
    → ReadsWithin kind table range fill (areas own' text') after r → ReadsWithin kind table range fill (areas own text) after r
within_same kind fill table range own text own' text' after r e l x rooms p used whole w ro =
    subst (λ (t : List ℕ). Matches p after.records after.text (read_from rooms p used kind table range (take fill t)) r) e
    (x rooms p used whole (omega arith) (subst (λ (t : List ℕ). Roomy rooms used whole (length t)) (sym e) ro))
