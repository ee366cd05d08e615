-- A tag with its attributes, and an element with what is in it. Assumes nothing.
use Prim.Native.Nat.{ℕ, ◌+◌}
use mathlib.Core.Path.{◌≡◌, refl, sym, ap, ap₂, ◌∙◌}
use mathlib.Core.List.{List, [], ◌∷◌, ◌++◌, append_assoc, append-nil}
use mathlib.Core.Bool.{Bool, true, false, cond, not, ◌&&◌, ◌||◌, and-false, and-true}
use lib.ListN.{length, length-append}
use Rattle.write_report.specs.of_table.Event.{Attribute, Event, TagKind, Empty, Tag}
use Rattle.write_report.specs.of_table.Kinds as event
use Rattle.write_report.specs.of_tree_report.Fields.{given, has_bit, text_at, system_out, system_err}
use Rattle.write_report.specs.of_tree_record.Bits as bit
use Rattle.write_report.specs.of_tree_record.Words as word
use Rattle.write_report.specs.of_names.Bytes.{bytes}
use Rattle.write_report.specs.Written.{is_empty, optional, start_tag, end_tag, element, serialize_output, serialize_outputs}
use Rattle.write_table.specs.Laid.{Item, entry, pair, pairs_of_it, tag_number, items_of_event, items_of}
use Rattle.write_table.proofs.Writing.{items_append}
use Rattle.write_items.proofs.Lists.{empty-append}

pairs-append : (xs ys : List Attribute) → pairs_of_it (xs ++ ys) ≡ pairs_of_it xs ++ pairs_of_it ys
pairs-append [] ys = refl
pairs-append (x ∷ xs) ys = ap (λ (l : List Item). pair x.key x.value ∷ l) (pairs-append xs ys)

-- attributes by key, then extras
pub tag-items : (kind : TagKind) (name : List ℕ) (have extra : List Attribute) {n : ℕ} {rows : List Item} → n ≡ length extra → rows ≡ pairs_of_it extra
    → entry (tag_number kind) name (length have + n) ∷ (pairs_of_it have ++ rows) ≡ items_of (Tag kind name 0 (have ++ extra) ∷ [])
unfolding items_of
tag-items kind name have extra p q =
    rw (p, q)
    (ap₂ (λ (n : ℕ) (l : List Item). entry (tag_number kind) name n ∷ l) (sym (length-append have extra)) (sym (pairs-append have extra))
    ∙ sym (append-nil (items_of_event (Tag kind name 0 (have ++ extra)))))

-- ---- an element in the parts in which it is put
end-items : (name : List ℕ) → entry event.end name 0 ∷ [] ≡ items_of (end_tag name ∷ [])
unfolding items_of
end-items name = refl

three : (a b c : List Event) (end : List Item) → (items_of a ++ items_of b) ++ (items_of c ++ end) ≡ items_of (a ++ (b ++ c)) ++ end
three a b c end = rw (items_append a (b ++ c), items_append b c) (simp append_assoc)

module _ (name : List ℕ) (attributes : List Attribute) where
  element-items : (children : List Event) (b : Bool) → b ≡ is_empty children
      → cond b (items_of (Tag Empty name 0 attributes ∷ [])) (items_of (start_tag name attributes ∷ []) ++ (items_of children ++ (entry event.end name 0 ∷ [])))
      ≡ items_of (element name attributes children)
  element-items [] b e = rw e refl
  element-items (c ∷ cs) b e =
      rw (e, end-items name)
      (ap (λ (l : List Item). items_of (start_tag name attributes ∷ []) ++ l) (sym (items_append (c ∷ cs) (end_tag name ∷ [])))
      ∙ sym (items_append (start_tag name attributes ∷ []) ((c ∷ cs) ++ (end_tag name ∷ []))))

  -- properties, what is in between, outputs
  pub element-parts : (a b c : List Event) {empty : Bool} {opened alone inside closing : List Item} → empty ≡ is_empty (a ++ (b ++ c))
      → alone ≡ items_of (Tag Empty name 0 attributes ∷ []) → opened ≡ items_of (start_tag name attributes ∷ []) → inside ≡ items_of a ++ items_of b → closing ≡ items_of c ++ (entry event.end name 0 ∷ [])
      → cond empty alone (opened ++ (inside ++ closing)) ≡ items_of (element name attributes (a ++ (b ++ c)))
  element-parts a b c {empty} e p q u v =
      rw (p, q, u, v, three a b c (entry event.end name 0 ∷ [])) (element-items (a ++ (b ++ c)) empty e)

-- ---- nothing in it
nothing_left : (o p q : Bool) → cond o false (p && q) ≡ (p && (q && not o))
nothing_left true p q = sym (ap (λ (b : Bool). p && b) (and-false q) ∙ and-false p)
nothing_left false p q = sym (ap (λ (b : Bool). p && b) (and-true q))

module _ (text r : List ℕ) where
  outputs-empty : is_empty (serialize_outputs (system_out text r) (system_err text r)) ≡ not (has_bit bit.out r || has_bit bit.err r)
  unfolding serialize_outputs serialize_output
  outputs-empty = go (has_bit bit.out r) (has_bit bit.err r)
    where
      go : (a b : Bool) → is_empty (optional (serialize_output (bytes "system-out")) (given a (text_at text r word.out))
          ++ optional (serialize_output (bytes "system-err")) (given b (text_at text r word.err))) ≡ not (a || b)
      go true b = refl
      go false true = refl
      go false false = refl

  pub parts-empty : (a b : List Event) {p q : Bool} → p ≡ is_empty a → q ≡ is_empty b
      → cond (has_bit bit.out r || has_bit bit.err r) false (p && q) ≡ is_empty (a ++ (b ++ serialize_outputs (system_out text r) (system_err text r)))
  parts-empty a b {p} {q} u v =
      rw (empty-append a (b ++ serialize_outputs (system_out text r) (system_err text r)), empty-append b (serialize_outputs (system_out text r) (system_err text r)), outputs-empty, sym u, sym v)
      (nothing_left (has_bit bit.out r || has_bit bit.err r) p q)
