-- Items one behind the other. Assumes nothing.
use mathlib.Core.Path.{◌≡◌, refl, sym, ap, ◌∙◌}
use mathlib.Core.List.{List, [], ◌∷◌, ◌++◌, append_assoc}
use Rattle.std.specs.Prelude.{ℕ, Option, None}
use Rattle.write_spelled.specs.of_table.Event.{Event}
use Rattle.write_table.specs.Laid.{Item, items_of_event, items_of}
use Rattle.write_table.specs.inside.Putting.{Held, Spelling, Kept, none, some, xml, put, spell, put_all, Areas, held_by_of, held, Wrote}

put-none : (is : List Item) → put_all none is ≡ none
unfolding put_all
put-none [] = refl
put-none (i ∷ is) = refl

put-append : (s : Kept) (is js : List Item) → put_all (put_all s is) js ≡ put_all s (is ++ js)
unfolding put_all
put-append s [] js = refl
put-append none (i ∷ is) js = put-none js ∙ sym (put-none ((i ∷ is) ++ js))
put-append (some h) (i ∷ is) js = put-append (put h i) is js
put-append (xml h) (i ∷ is) js = put-append (spell h i) is js

-- nothing put
pub wrote_nothing : (s : Areas) → Wrote s [] s
unfolding put_all
wrote_nothing s = record { same = refl }

-- two lists, one behind the other
pub then : {s t u : Areas} {is js : List Item} → Wrote s is t → Wrote t js u → Wrote s (is ++ js) u
then {s} {t} {u} {is} {js} p q = record { same = q.same ∙ ap (λ (x : Kept). put_all x js) p.same ∙ put-append (held s) is js }

-- the same items, said otherwise
pub said : {s t : Areas} {is js : List Item} → Wrote s is t → is ≡ js → Wrote s js t
said {s} p e = record { same = p.same ∙ ap (put_all (held s)) e }

-- once something didn't fit, nothing more is put
pub wrote-shut : (s t : Areas) (is : List Item) → s.mark ≡ None → t.mark ≡ None → Wrote s is t
wrote-shut s t is p q = record { same = ap (λ (m : Option ℕ). held_by_of m t) q ∙ sym (put-none is) ∙ ap (λ (m : Option ℕ). put_all (held_by_of m s) is) (sym p) }

-- one item
pub wrote_one : (s t : Areas) {h : Held} (i : Item) → held s ≡ some h → held t ≡ put h i → Wrote s (i ∷ []) t
unfolding put_all
wrote_one s t {h} i p q = record { same = q ∙ ap (λ (x : Kept). put_all x (i ∷ [])) (sym p) }

-- one item in the XML form
pub wrote-text : (s t : Areas) {h : Spelling} (i : Item) → held s ≡ xml h → held t ≡ spell h i → Wrote s (i ∷ []) t
unfolding put_all
wrote-text s t {h} i p q = record { same = q ∙ ap (λ (x : Kept). put_all x (i ∷ [])) (sym p) }

-- the items of events behind events
pub items_append : (es fs : List Event) → items_of (es ++ fs) ≡ items_of es ++ items_of fs
unfolding items_of
items_append [] fs = refl
items_append (e ∷ es) fs = ap (λ (l : List Item). items_of_event e ++ l) (items_append es fs) ∙ sym (append_assoc (items_of_event e) (items_of es) (items_of fs))

-- ---- a loop that puts: of the items w those of f are still to come, s₀ is what was kept at the start, s what is kept now
pub record Coming (s₀ : Areas) (w : List Item) (s : Areas) (f : List Item) : Type 0 where
  pub left : put_all (held s) f ≡ put_all (held s₀) w

-- before the first call all items are to come
pub coming-start : (s : Areas) (w : List Item) → Coming s w s w
coming-start s w = record { left = refl }

-- what is to come, said otherwise
pub coming_on : {s₀ s : Areas} {w f g : List Item} → Coming s₀ w s f → f ≡ g → Coming s₀ w s g
coming_on {s₀} {s} c e = record { left = ap (put_all (held s)) (sym e) ∙ c.left }

-- a call puts the next of what is to come
pub coming-wrote : {s₀ s t : Areas} {w f g : List Item} → Coming s₀ w s (f ++ g) → Wrote s f t → Coming s₀ w t g
coming-wrote {s₀} {s} {t} {w} {f} {g} c p = record { left = ap (λ (x : Kept). put_all x g) p.same ∙ put-append (held s) f g ∙ c.left }

-- nothing is to come: all items were put
pub coming-done : {s₀ s : Areas} {w : List Item} → Coming s₀ w s [] → Wrote s₀ w s
unfolding put_all
coming-done {s₀} {s} c = record { same = c.left }

-- an area is full: the rest would change nothing, so all items count as put
pub coming-shut : {s₀ s : Areas} {w f : List Item} → Coming s₀ w s f → s.mark ≡ None → Wrote s₀ w s
coming-shut {s₀} {s} {w} {f} c e =
    let n : held s ≡ none = ap (λ (m : Option ℕ). held_by_of m s) e in
    record { same = n ∙ sym (put-none f) ∙ ap (λ (x : Kept). put_all x f) (sym n) ∙ c.left }
