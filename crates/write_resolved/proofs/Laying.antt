-- Events laid out and resolved again, one after the other. Assumes nothing.
use Prim.Native.Nat.{ℕ, suc, ◌+◌, ◌≤◌, ◌<◌}
use mathlib.Core.Path.{◌≡◌, refl, sym, ap, subst, ◌∙◌}
use mathlib.Core.List.{List, [], ◌∷◌, ◌++◌}
use mathlib.Core.Bool.{Bool, cond}
use native.Mathlib.Omega.{arith}
use lib.ListN.{length}
use Rattle.write_report.specs.of_table.Table.{count_of, bad_from, check_event, and_then, check_from, Checked}
use Rattle.std.specs.Prelude.{Ok}
use Rattle.write_report.specs.of_table.Event.{Attribute, Event, Start, Empty, Tag, Piece, Eof, Fault, attributes_from, event_of, event_at, resolve_from}
use Rattle.write_report.proofs.of_tree_report.EncodeLists.{Each, done, more}
use Rattle.write_report.specs.Written.{attributes_of, numbered_tag, numbered}
use Rattle.write_table.specs.Laid.{Item, entry, pairs_of_it, items_of_event, items_of, place}
use Rattle.write_resolved.proofs.Standing.{Standing, past-entry, past-pair, place-some}
use Rattle.write_resolved.proofs.Sizes.{pairs-within}
use Rattle.write_resolved.proofs.Entries.{pair-resolved, pair-checked, entry-resolved, entry-checked}
use Rattle.write_resolved.proofs.Writable.{Marked, good, Writable, start, empty, end, text, cdata, ref, other, newline, eof, fault}

module _ (events attributes source : List ℕ) where
  abbrev Stands : ℕ → ℕ → ℕ → List Item → Type 0
  Stands = Standing events attributes source

  -- ---- attributes, one behind the other
  pairs-past : {i j b : ℕ} (xs : List Attribute) (is : List Item) → Stands i j b (pairs_of_it xs ++ is) → (c : ℕ) × Stands i (j + length xs) c is
  pairs-past {i} {j} {b} [] is t = (b, subst (λ (n : ℕ). Standing events attributes source i n b is) (omega arith) t)
  pairs-past {i} {j} (x ∷ xs) is t =
      let u = pairs-past {j = j + 1} xs is (past-pair t) in
      let z : (j + 1) + length xs ≡ j + suc (length xs) = omega arith in
      (u.0, subst (λ (n : ℕ). Standing events attributes source i n u.0 is) z u.1)

  pairs-resolved : {i j b : ℕ} {xs : List Attribute} → Each Marked xs → (is : List Item) → Stands i j b (pairs_of_it xs ++ is) → attributes_from attributes source (length xs) j ≡ xs
  unfolding attributes_from
  pairs-resolved done is t = refl
  pairs-resolved {i = i} {j = j} {b = b} (more {xs = xs} (good key value) ms) is t = λ x. pair-resolved t x ∷ pairs-resolved {j = j + 1} ms is (past-pair t) x

  pairs-checked : {i j b : ℕ} (xs : List Attribute) (is : List Item) → Stands i j b (pairs_of_it xs ++ is) → bad_from attributes (length source) (length xs) j ≡ j + length xs
  unfolding bad_from
  pairs-checked [] is t = omega arith
  pairs-checked {j = j} (x ∷ xs) is t =
      ap (λ (u : Bool). cond u (bad_from attributes (length source) (length xs) (j + 1)) j) (pair-checked t) ∙ pairs-checked {j = j + 1} xs is (past-pair t) ∙ omega arith

  -- a first attribute without count is 0 (rule W12)
  placed-resolved : {i j b : ℕ} {xs : List Attribute} → Each Marked xs → (is : List Item) → Stands i j b (pairs_of_it xs ++ is) →
      attributes_from attributes source (length xs) (place (length xs) j) ≡ xs
  unfolding attributes_from
  placed-resolved done is t = refl
  placed-resolved {j = j} (more {xs = xs} m ms) is t = ap (attributes_from attributes source (suc (length xs))) (place-some (length xs) j) ∙ pairs-resolved (more m ms) is t

  placed-checked : {i j b : ℕ} (xs : List Attribute) (is : List Item) → Stands i j b (pairs_of_it xs ++ is) →
      bad_from attributes (length source) (length xs) (place (length xs) j) ≡ place (length xs) j + length xs
  unfolding bad_from
  placed-checked [] is t = refl
  placed-checked {j = j} (x ∷ xs) is t =
      ap (bad_from attributes (length source) (suc (length xs))) (place-some (length xs) j) ∙ pairs-checked (x ∷ xs) is t ∙ ap (λ (n : ℕ). n + suc (length xs)) (sym (place-some (length xs) j))

  placed-within : {i j b : ℕ} (xs : List Attribute) (is : List Item) → Stands i j b (pairs_of_it xs ++ is) → 0 < length xs → place (length xs) j + length xs ≤ count_of attributes
  placed-within [] is t h = absurd (omega arith)
  placed-within {j = j} (x ∷ xs) is t h = rw (place-some (length xs) j) (pairs-within (x ∷ xs) is t h)

  -- ---- an event
  module _ {i j b : ℕ} (is : List Item) where
    event-past : (e : Event) → Stands i j b (items_of_event (numbered_tag j e) ++ is) → (c : ℕ) × Stands (i + 1) (j + length (attributes_of e)) c is
    event-past (Tag kind name first xs) t = pairs-past xs is (past-entry t)
    event-past (Piece kind s) t = pairs-past [] is (past-entry t)
    event-past Eof t = pairs-past [] is (past-entry t)
    event-past Fault t = pairs-past [] is (past-entry t)

    event-resolved : {e : Event} → Writable e → Stands i j b (items_of_event (numbered_tag j e) ++ is) → event_at events attributes source i ≡ numbered_tag j e
    unfolding event_of attributes_from
    event-resolved (start {name = name} {xs = xs} ms) t = entry-resolved t ∙ ap (Tag Start name (place (length xs) j)) (placed-resolved ms is (past-entry t))
    event-resolved (empty {name = name} {xs = xs} ms) t = entry-resolved t ∙ ap (Tag Empty name (place (length xs) j)) (placed-resolved ms is (past-entry t))
    event-resolved end t = entry-resolved t
    event-resolved text t = entry-resolved t
    event-resolved cdata t = entry-resolved t
    event-resolved ref t = entry-resolved t
    event-resolved other t = entry-resolved t
    event-resolved newline t = entry-resolved t
    event-resolved eof t = entry-resolved t
    event-resolved fault t = entry-resolved t

    bare-checked : {kind : ℕ} {s : List ℕ} → kind ≤ 9 → Stands i j b (entry kind s 0 ∷ is) → check_event events attributes (length source) i ≡ Ok tt
    unfolding bad_from
    bare-checked k t = entry-checked t k (λ h. absurd (omega arith)) refl

    event-checked : {e : Event} → Writable e → Stands i j b (items_of_event (numbered_tag j e) ++ is) → check_event events attributes (length source) i ≡ Ok tt
    event-checked (start {xs = xs} ms) t = entry-checked t (omega arith) (λ h. (omega arith, placed-within xs is (past-entry t) h)) (placed-checked xs is (past-entry t))
    event-checked (empty {xs = xs} ms) t = entry-checked t (omega arith) (λ h. (omega arith, placed-within xs is (past-entry t) h)) (placed-checked xs is (past-entry t))
    event-checked end t = bare-checked (omega arith) t
    event-checked text t = bare-checked (omega arith) t
    event-checked cdata t = bare-checked (omega arith) t
    event-checked ref t = bare-checked (omega arith) t
    event-checked other t = bare-checked (omega arith) t
    event-checked newline t = bare-checked (omega arith) t
    event-checked eof t = bare-checked (omega arith) t
    event-checked fault t = bare-checked (omega arith) t

  -- ---- all of them
  pub laid-resolved : {i j b : ℕ} {es : List Event} → Each Writable es → Stands i j b (items_of (numbered j es)) → resolve_from events attributes source (length es) i ≡ numbered j es
  unfolding resolve_from items_of numbered
  laid-resolved done t = refl
  laid-resolved {i = i} {j = j} {b = b} (more {x = e} {xs = es} p ps) t =
      let is : List Item = items_of (numbered (j + length (attributes_of e)) es) in
      λ x. event-resolved is p t x ∷ laid-resolved {i = i + 1} ps (event-past is e t).1 x

  pub laid-checked : {i j b : ℕ} {es : List Event} → Each Writable es → Stands i j b (items_of (numbered j es)) → check_from events attributes (length source) (length es) i ≡ Ok tt
  unfolding check_from items_of numbered
  laid-checked done t = refl
  laid-checked {i} {j} (more {x = e} {xs = es} p ps) t =
      let is : List Item = items_of (numbered (j + length (attributes_of e)) es) in
      ap (λ (c : Checked). and_then c (check_from events attributes (length source) (length es) (i + 1))) (event-checked is p t) ∙ laid-checked {i = i + 1} ps (event-past is e t).1
