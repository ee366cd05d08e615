-- An element's attributes, one after the other, with marks behind its records. Assumes nothing.
use Rattle.std.specs.Prelude.{Result, Ok, Err}
use Prim.Native.Nat.{ℕ, ◌+◌, ◌-◌, ◌*◌, ◌≤◌, ◌<◌}
use mathlib.Core.Path.{◌≡◌, refl, sym, ap, subst, ◌∙◌}
use mathlib.Core.List.{List, [], ◌∷◌, ◌++◌}
use native.Mathlib.Omega.{arith}
use borrow.Author.Tests.{ltb-true}
use lib.ListN.{length, get_or, take, drop, length-drop, length-append}
use lib.Seq.{length-take-le}
use lib.Dec.{ltb}
use Rattle.read_places.specs.of_refusal.Refusal.{Outcome}
use Rattle.read_places.specs.of_names.Names.{same_bytes}
use Rattle.read_places.specs.of_text.Value.{value_text}
use Rattle.read_places.specs.of_table.Event.{Attribute, key_at, attributes_from}
use Rattle.read_places.proofs.of_table.Resolving.{attributes-end, attributes-next}
use Rattle.read_places.specs.of_read_element.Outcome.{◌>>=◌, Place, Rooms}
use Rattle.read_places.specs.of_read_element.Attributes.{Given, read_attributes}
use Rattle.read_places.specs.of_read_element.inside.Held.{keys_of, place_at, Held, Roomy}
use Rattle.read_places.proofs.of_read_element.TreeOutcome.{Holds, held}
use Rattle.read_each.specs.of_read_attribute.inside.Steps.{Matches}
use Rattle.read_places.specs.of_read_element.inside.Refines.{went, stopped}
use Rattle.read_each.specs.of_read_free.inside.Unrepeated.{Unrepeated}
use Rattle.read_each.proofs.of_read_extras.Choosing.{place-held}
use Rattle.read_each.specs.of_read_extra_record.declared.Given.{Given as Counted}
use Rattle.read_each.specs.of_read_fault.declared.Fault.{Fault}
use Rattle.read_places.specs.of_read_marks.inside.Marks.{stored_for, Marks}
use Rattle.read_places.specs.inside.Told.{Quiet, Told}
use Rattle.read_each.proofs.HeldBounds.{held-fill, held-extras}
use Rattle.read_each.proofs.KeysBefore.{keys-next, free-key}
use Rattle.read_each.proofs.Stepping.{attribute_step}
use Rattle.read_each.proofs.Going.{spacious, somewhere, roomy_spacious, Gone, gone, halted, Stepped, Along}
use Rattle.read_each.proofs.Apart.{key_texts, Apart, place-apart}
use Rattle.read_each.proofs.Kept.{Kept, kept_step}
use Rattle.read_each.proofs.Sourced.{Sourced, sourced-none, sourced-more, place-fresh}
use Rattle.read_indexed.proofs.StoredKeys.{kept-most, stored-held}
use Rattle.read_indexed.proofs.Narrow.{narrow, roomy_narrow, step-narrow}
use Rattle.read_places.proofs.Noting.{front-is, rest-is}

pub itself : (n : ℕ) → n ≤ n
itself n = omega arith

pub record Indexing (kind : ℕ) (attributes source : List ℕ) (first end k : ℕ) (own₀ text₀ : List ℕ) (g₀ : Given) (own text : List ℕ) (j : ℕ) (given : Counted) : Type 0 where
  pub own_same : length own ≡ length own₀
  pub text_same : length text ≡ length text₀
  pub low : first ≤ j
  pub high : j ≤ end
  pub few : given.extras ≤ j - first
  pub along : (rooms : Rooms) (p : Place) (used whole : ℕ) → length own₀ ≤ whole → Roomy rooms used whole (length text₀)
      → Along kind attributes source first end g₀ rooms p used (take k own) text j given
  pub marks : Marks attributes source first (drop k own)
  pub sourced : Sourced attributes source first j (along (spacious (length own₀) (length text₀)) somewhere 0 (length own₀) (itself (length own₀)) (roomy_spacious (length own₀) (length text₀))).said
  pub apart : Apart
      (key_texts (along (spacious (length own₀) (length text₀)) somewhere 0 (length own₀) (itself (length own₀)) (roomy_spacious (length own₀) (length text₀))).said.texts
      (along (spacious (length own₀) (length text₀)) somewhere 0 (length own₀) (itself (length own₀)) (roomy_spacious (length own₀) (length text₀))).said.extras)

module _ (kind : ℕ) (attributes source : List ℕ) (first end k : ℕ) (own₀ text₀ : List ℕ) (g₀ : Given) where
  pub indexing-start : (fill : ℕ) → first ≤ end → Held (take k own₀) text₀ 0 fill g₀ → g₀.extras ≡ [] → Marks attributes source first (drop k own₀)
      → Indexing kind attributes source first end k own₀ text₀ g₀ own₀ text₀ first (record { extras = 0; fill = fill })
  indexing-start fill h hd z m =
      record {
        own_same = refl;
        text_same = refl;
        low = omega arith;
        high = h;
        few = omega arith;
        along = λ rooms p used whole w ro. record {
          said = g₀;
          holds = hd;
          same = ap (λ (xs : List Attribute). read_attributes rooms p used kind (keys_of xs) first (attributes_from attributes source (end - first) first) g₀)
              (sym (attributes-end attributes source first first (omega arith)));
        };
        marks = m;
        sourced = sourced-none attributes source first first g₀ z;
        apart = subst (λ (rs : List (List ℕ)). Apart (key_texts g₀.texts rs)) (sym z) tt;
      }

module _ {kind : ℕ} {attributes source : List ℕ} {first end k : ℕ} {own₀ text₀ : List ℕ} {g₀ : Given} {own text : List ℕ} {j : ℕ} {given : Counted}
    (x : Indexing kind attributes source first end k own₀ text₀ g₀ own text j given) where
  -- where the rooms are those of the areas
  abbrev plain : Along kind attributes source first end g₀ (spacious (length own₀) (length text₀)) somewhere 0 (take k own) text j given
  plain = x.along (spacious (length own₀) (length text₀)) somewhere 0 (length own₀) (itself (length own₀)) (roomy_spacious (length own₀) (length text₀))

  pub indexing-fill : given.fill ≤ length text
  indexing-fill = held-fill plain.holds

  pub indexing-extras : given.extras * 32 + 32 ≤ length (take k own)
  indexing-extras = held-extras plain.holds

  -- what is known of attribute j's extra
  pub indexing-told : Told attributes source first j k given.extras own text
  indexing-told =
      let c = plain.holds.count in
      record {
        marks = x.marks;
        new = λ n. place-held plain.holds (stored_for attributes source j) ∙ place-fresh attributes source first j plain.said (stored_for attributes source j) x.sourced n ∙ sym c;
        place = λ key i l e. place-held plain.holds key
            ∙ place-apart plain.said.texts key plain.said.extras i x.apart (omega arith)
            (ap (λ (s : List ℕ). same_bytes s key) (sym (stored-held plain.holds i l)) ∙ e);
      }

  pub indexing-done : end ≤ j → (rooms : Rooms) (p : Place) (used whole : ℕ) → length own₀ ≤ whole → Roomy rooms used whole (length text₀)
      → Matches p (take k own) text (read_attributes rooms p used kind [] first (attributes_from attributes source (end - first) first) g₀) (Ok given)
  unfolding read_attributes
  indexing-done h rooms p used whole w ro =
      let a = x.along rooms p used whole w ro in
      let e = a.same
      ∙ ap (λ (xs : List Attribute). read_attributes rooms p used kind (keys_of (attributes_from attributes source (j - first) first)) j xs a.said) (attributes-end attributes source end j h) in
      subst (λ (o : Outcome Given). Matches p (take k own) text o (Ok given)) (sym e) (went a.holds)

  -- the definition with attribute j taken first
  turn : j < end → (rooms : Rooms) (p : Place) (used whole : ℕ) (w : length own₀ ≤ whole) (ro : Roomy rooms used whole (length text₀))
      → read_attributes rooms p used kind [] first (attributes_from attributes source (end - first) first) g₀
      ≡ (attribute_step attributes source kind first rooms p used j (x.along rooms p used whole w ro).said
      >>= λ g. read_attributes rooms p used kind (keys_of (attributes_from attributes source (j - first) first) ++ (key_at attributes source j ∷ []))
      (j + 1) (attributes_from attributes source (end - (j + 1)) (j + 1)) g)
  unfolding read_attributes
  turn h rooms p used whole w ro =
      let a = x.along rooms p used whole w ro in
      a.same ∙ ap (λ (xs : List Attribute). read_attributes rooms p used kind (keys_of (attributes_from attributes source (j - first) first)) j xs a.said) (attributes-next attributes source end j h)

  module _ (h : j < end) (room : (end - first) * 32 + 32 ≤ k) (inside : k ≤ length own₀) {clear hint : ℕ} (f : Unrepeated attributes source first clear)
      (hinted : hint ≤ given.extras → place_at (take k own) text (value_text (key_at attributes source j)) given.extras 0 ≡ hint)
      {front text' : List ℕ} {r : Result Counted Fault} (s : Stepped attributes source kind first (ltb j clear) hint j given (take k own) text front text' r) where
    front-size : length (take k own) ≡ k
    front-size = length-take-le k own (let q = x.own_same in omega arith)

    -- attribute j at a place and in rooms
    taking : {t : Result Counted Fault} → r ≡ t → (rooms : Rooms) (p : Place) (used whole : ℕ) (w : length own₀ ≤ whole) (ro : Roomy rooms used whole (length text₀))
        → Matches p front text' (attribute_step attributes source kind first rooms p used j (x.along rooms p used whole w ro).said) t
    taking {t} q rooms p used whole w ro =
        let a = x.along rooms p used whole w ro in
        let c = a.holds.count in
        let l = x.low in
        let few = x.few in
        let y : Roomy (narrow rooms used k) used (length (take k own)) (length text) =
        subst (λ (n : ℕ). Roomy (narrow rooms used k) used n (length text)) (sym front-size) (subst (λ (n : ℕ). Roomy (narrow rooms used k) used k n) (sym x.text_same) (roomy_narrow k ro)) in
        subst (λ (o : Outcome Given). Matches p front text' o t) (step-narrow attributes source kind first rooms p used j a.said k ro (omega arith) (omega arith))
        (subst (λ (u : Result Counted Fault). Matches p front text' (attribute_step attributes source kind first (narrow rooms used k) p used j a.said) u) q
        (s a.said (narrow rooms used k) p used a.holds y
        (λ e. free-key attributes source first clear j f x.low (ltb-true j clear e))
        (λ u. sym (place-held a.holds (value_text (key_at attributes source j))) ∙ hinted (omega arith))))

    indexing-stopped : {fault : Fault} → r ≡ Err fault → (rooms : Rooms) (p : Place) (used whole : ℕ) → length own₀ ≤ whole → Roomy rooms used whole (length text₀)
        → Matches p front text' (read_attributes rooms p used kind [] first (attributes_from attributes source (end - first) first) g₀) (Err fault)
    unfolding ◌>>=◌
    indexing-stopped {fault} q rooms p used whole w ro =
        let e = turn h rooms p used whole w ro
        ∙ ap (λ (o : Outcome Given). o >>= λ g. read_attributes rooms p used kind (keys_of (attributes_from attributes source (j - first) first) ++ (key_at attributes source j ∷ []))
        (j + 1) (attributes_from attributes source (end - (j + 1)) (j + 1)) g)
        (halted (taking q rooms p used whole w ro)) in
        subst (λ (o : Outcome Given). Matches p front text' o (Err fault)) (sym e) stopped

    -- the areas once the first k words came back
    module _ {between : List ℕ} (size : length front ≡ k) (back : between ≡ front ++ drop k own) where
      pub between-size : length between ≡ length own
      between-size = let a = ap length back ∙ length-append front (drop k own) in let b = length-drop k own in let c = x.own_same in omega arith

      pub indexing-halted : {fault : Fault} → r ≡ Err fault → (rooms : Rooms) (p : Place) (used whole : ℕ) → length own₀ ≤ whole → Roomy rooms used whole (length text₀)
          → Matches p (take k between) text' (read_attributes rooms p used kind [] first (attributes_from attributes source (end - first) first) g₀) (Err fault)
      indexing-halted {fault} q rooms p used whole w ro =
          subst (λ (z : List ℕ). Matches p z text' (read_attributes rooms p used kind [] first (attributes_from attributes source (end - first) first) g₀) (Err fault))
          (sym (front-is k front (drop k own) size back)) (indexing-stopped q rooms p used whole w ro)

    module _ {next : Counted} (q : r ≡ Ok next) where
      abbrev went_on : Gone front text' (attribute_step attributes source kind first (spacious (length own₀) (length text₀)) somewhere 0 j plain.said) next
      went_on = gone (taking q (spacious (length own₀) (length text₀)) somewhere 0 (length own₀) (itself (length own₀)) (roomy_spacious (length own₀) (length text₀)))

      kept : Kept (key_at attributes source j) plain.said went_on.said
      kept = held (subst (λ (o : Outcome Given). Holds (λ g. Kept (key_at attributes source j) plain.said g) o) went_on.same
          (kept_step attributes source kind first (spacious (length own₀) (length text₀)) somewhere 0 j plain.said plain.holds.keyed))

      pub next-most : next.extras ≤ given.extras + 1
      next-most = kept-most plain.holds went_on.holds kept

      module _ {between : List ℕ} (size : length front ≡ k) (back : between ≡ front ++ drop k own) where
        pub indexing_on : {own' : List ℕ} → take k own' ≡ take k between → length own' ≡ length between → length text' ≡ length text → Quiet (drop k between) (drop k own')
            → Indexing kind attributes source first end k own₀ text₀ g₀ own' text' (j + 1) next
        unfolding ◌>>=◌
        indexing_on {own'} t l o c =
            let lw = x.low in
            let fw = x.few in
            let nm = next-most in
            let e : take k own' ≡ front = t ∙ front-is k front (drop k own) size back in
            record {
              own_same = l ∙ between-size size back ∙ x.own_same;
              text_same = o ∙ x.text_same;
              low = omega arith;
              high = omega arith;
              few = omega arith;
              along = λ rooms p used whole w ro. (let d = gone (taking q rooms p used whole w ro) in record {
                said = d.said;
                holds = subst (λ (z : List ℕ). Held z text' next.extras next.fill d.said) (sym e) d.holds;
                same = turn h rooms p used whole w ro
                    ∙ ap (λ (o : Outcome Given). o >>= λ g. read_attributes rooms p used kind (keys_of (attributes_from attributes source (j - first) first) ++ (key_at attributes source j ∷ []))
                    (j + 1) (attributes_from attributes source (end - (j + 1)) (j + 1)) g) d.same
                    ∙ ap (λ (ks : List (List ℕ)). read_attributes rooms p used kind ks (j + 1) (attributes_from attributes source (end - (j + 1)) (j + 1)) d.said)
                    (sym (keys-next attributes source first j x.low));
              });
              marks = λ i e. x.marks i (ap (λ (l : List ℕ). get_or l i 0) (sym (rest-is k front (drop k own) size back)) ∙ c i e);
              sourced = sourced-more attributes source first j x.low x.sourced kept;
              apart = kept.apart x.apart;
            }
