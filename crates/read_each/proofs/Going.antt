-- An element's attributes, one after the other, against the definition. Assumes nothing.
use Rattle.std.specs.Prelude.{Result, Ok, Err}
use Prim.Native.Nat.{ℕ, ◌+◌, ◌-◌, ◌*◌, ◌/◌, ◌≤◌, ◌<◌}
use mathlib.Core.Path.{◌≡◌, refl, sym, ap, subst, ◌∙◌}
use mathlib.Core.Bool.{Bool, true, false, cond, ◌&&◌}
use mathlib.Core.List.{List, [], ◌∷◌, ◌++◌}
use mathlib.Core.Option.{none, some}
use native.Mathlib.Omega.{arith}
use borrow.Author.Tests.{le-leb, lt-leb, leb-true, leb-false, ltb-true}
use lib.ListN.{length}
use lib.Dec.{leb, ltb}
use Rattle.read_free.specs.of_refusal.Refusal.{Outcome, accepted, refused}
use Rattle.read_free.specs.of_table.Event.{Attribute, key_at, attributes_from}
use Rattle.read_free.proofs.of_table.Resolving.{attributes-end, attributes-next}
use Rattle.read_free.specs.of_read_element.Outcome.{◌>>=◌, Place, Rooms, fits}
use Rattle.read_free.specs.of_read_element.Attributes.{Given, place_of, among, read_attributes}
use Rattle.read_free.proofs.of_read_element.TreeOutcome.{Holds, held}
use Rattle.read_free.specs.of_read_element.inside.Held.{keys_of, Held, Roomy}
use Rattle.read_attribute.specs.inside.Steps.{fault_at, Matches}
use Rattle.read_free.specs.of_read_element.inside.Refines.{went, stopped}
use Rattle.read_free.specs.inside.Unrepeated.{Unrepeated}
use Rattle.read_plain.specs.inside.Plain.{Plain}
use Rattle.read_free.specs.of_text.Value.{value_text}
use Rattle.read_attribute.specs.of_read_extras.inside.Hinted.{Hinted}
use Rattle.read_attribute.specs.of_read_extra_record.declared.Given.{Given as Counted}
use Rattle.read_attribute.specs.of_read_fault.declared.Fault.{Fault}
use Rattle.read_each.proofs.Stepping.{attribute_step}
use Rattle.read_each.proofs.Kept.{Kept, kept_step}
use Rattle.read_each.proofs.Sourced.{Sourced, sourced-none, sourced-more, place-new}
use Rattle.read_each.proofs.HeldBounds.{held-fill, held-extras}
use Rattle.read_each.proofs.KeysBefore.{keys-next, free-key}

-- areas of any lengths have rooms
abbrev pub spacious : ℕ → ℕ → Rooms
spacious own text = record { records = some (own / 32); text = some text; scratch = none }

abbrev pub somewhere : Place
somewhere = record { path = []; event = 0; attribute = 0 }

-- areas are always roomy enough for rooms made of their own lengths: to use a contract once for its bounds
pub roomy_spacious : (own text : ℕ) → Roomy (spacious own text) 0 own text
unfolding fits
roomy_spacious own text = record { for-records = λ n. go n (leb (n * 32) own) refl; for-text = λ n. refl }
  where
    go : (n : ℕ) (t : Bool) → leb (n * 32) own ≡ t → leb (0 + n) (own / 32) ≡ leb (n * 32) own
    go n true e = let h = leb-true (n * 32) own e in le-leb (0 + n) (own / 32) (omega arith) ∙ sym e
    go n false e = let h = leb-false (n * 32) own e in lt-leb (0 + n) (own / 32) (omega arith) ∙ sym e

-- what a step that went on, or one that stopped, tells of the outcome
pub record Gone (own text : List ℕ) (m : Outcome Given) (given : Counted) : Type 0 where
  pub said : Given
  pub holds : Held own text given.extras given.fill said
  pub same : m ≡ accepted said

-- what a step that went on tells, with the place left out
pub gone : {p : Place} {own text : List ℕ} {m : Outcome Given} {given : Counted} → Matches p own text m (Ok given) → Gone own text m given
gone (went {s = g} h) = record { said = g; holds = h; same = refl }

-- a step that halted tells that the definition refuses with this fault
pub halted : {p : Place} {own text : List ℕ} {m : Outcome Given} {f : Fault} → Matches p own text m (Err f) → m ≡ refused (fault_at p f)
halted stopped = refl

-- what `step_attribute` says of attribute j
abbrev pub Stepped : List ℕ → List ℕ → ℕ → ℕ → Bool → ℕ → ℕ → Counted → List ℕ → List ℕ → List ℕ → List ℕ → Result Counted Fault → Type 0
Stepped attributes source kind first free hint j given own text own' text' r =
    (g : Given) (rooms : Rooms) (p : Place) (used : ℕ) → Held own text given.extras given.fill g → Roomy rooms used (length own) (length text)
    → (free ≡ true → among (key_at attributes source j) (keys_of (attributes_from attributes source (j - first) first)) ≡ false)
    → Hinted hint g (value_text (key_at attributes source j))
    → Matches p own' text' (attribute_step attributes source kind first rooms p used j g) r

-- the definition from attribute j on, behind what was given, is the definition from the first
pub record Along (kind : ℕ) (attributes source : List ℕ) (first end : ℕ) (g₀ : Given) (rooms : Rooms) (p : Place) (used : ℕ) (own text : List ℕ) (j : ℕ) (given : Counted) : Type 0 where
  pub said : Given
  pub holds : Held own text given.extras given.fill said
  pub same : read_attributes rooms p used kind [] first (attributes_from attributes source (end - first) first) g₀
      ≡ read_attributes rooms p used kind (keys_of (attributes_from attributes source (j - first) first)) j (attributes_from attributes source (end - j) j) said

pub record Going (kind : ℕ) (attributes source : List ℕ) (first end : ℕ) (own₀ text₀ : List ℕ) (g₀ : Given) (own text : List ℕ) (j : ℕ) (given : Counted) : Type 0 where
  pub own_same : length own ≡ length own₀
  pub text_same : length text ≡ length text₀
  pub low : first ≤ j
  pub high : j ≤ end
  pub along : (rooms : Rooms) (p : Place) (used : ℕ) → Roomy rooms used (length own₀) (length text₀) → Along kind attributes source first end g₀ rooms p used own text j given
  pub sourced : (rooms : Rooms) (p : Place) (used : ℕ) (ro : Roomy rooms used (length own₀) (length text₀)) → Sourced attributes source first j (along rooms p used ro).said

module _ (kind : ℕ) (attributes source : List ℕ) (first end : ℕ) (own₀ text₀ : List ℕ) (g₀ : Given) where
  pub going_start : {given : Counted} → first ≤ end → g₀.extras ≡ [] → Held own₀ text₀ given.extras given.fill g₀ → Going kind attributes source first end own₀ text₀ g₀ own₀ text₀ first given
  going_start h z hd = record {
    own_same = refl;
    text_same = refl;
    low = omega arith;
    high = h;
    along = λ rooms p used ro. record {
      said = g₀;
      holds = hd;
      same = ap (λ (xs : List Attribute). read_attributes rooms p used kind (keys_of xs) first (attributes_from attributes source (end - first) first) g₀)
          (sym (attributes-end attributes source first first (omega arith)));
    };
    sourced = λ rooms p used ro. sourced-none attributes source first first g₀ z;
  }

module _ {kind : ℕ} {attributes source : List ℕ} {first end : ℕ} {own₀ text₀ : List ℕ} {g₀ : Given} {own text : List ℕ} {j : ℕ} {given : Counted}
    (x : Going kind attributes source first end own₀ text₀ g₀ own text j given) where
  pub going-fill : given.fill ≤ length text
  going-fill = held-fill (x.along (spacious (length own₀) (length text₀)) somewhere 0 (roomy_spacious (length own₀) (length text₀))).holds

  pub going-extras : given.extras * 32 + 32 ≤ length own
  going-extras = held-extras (x.along (spacious (length own₀) (length text₀)) somewhere 0 (roomy_spacious (length own₀) (length text₀))).holds

  pub going_done : end ≤ j → (rooms : Rooms) (p : Place) (used : ℕ) → Roomy rooms used (length own₀) (length text₀)
      → Matches p own text (read_attributes rooms p used kind [] first (attributes_from attributes source (end - first) first) g₀) (Ok given)
  unfolding read_attributes
  going_done h rooms p used ro =
      let a = x.along rooms p used ro in
      let e = a.same
      ∙ ap (λ (xs : List Attribute). read_attributes rooms p used kind (keys_of (attributes_from attributes source (j - first) first)) j xs a.said) (attributes-end attributes source end j h) in
      subst (λ (m : Outcome Given). Matches p own text m (Ok given)) (sym e) (went a.holds)

  -- the definition with attribute j taken first
  turn : j < end → (rooms : Rooms) (p : Place) (used : ℕ) (ro : Roomy rooms used (length own₀) (length text₀))
      → read_attributes rooms p used kind [] first (attributes_from attributes source (end - first) first) g₀
      ≡ (attribute_step attributes source kind first rooms p used j (x.along rooms p used ro).said
      >>= λ g. read_attributes rooms p used kind (keys_of (attributes_from attributes source (j - first) first) ++ (key_at attributes source j ∷ []))
      (j + 1) (attributes_from attributes source (end - (j + 1)) (j + 1)) g)
  unfolding read_attributes
  turn h rooms p used ro =
      let a = x.along rooms p used ro in
      a.same ∙ ap (λ (xs : List Attribute). read_attributes rooms p used kind (keys_of (attributes_from attributes source (j - first) first)) j xs a.said) (attributes-next attributes source end j h)

  module _ (h : j < end) {clear plain hint : ℕ} (f : Unrepeated attributes source first clear) (o : Plain attributes source first plain)
      (t : hint ≡ cond (ltb j clear && ltb j plain) given.extras (given.extras + 1)) {own' text' : List ℕ} {r : Result Counted Fault}
      (s : Stepped attributes source kind first (ltb j clear) hint j given own text own' text' r) where
    -- the hint says that there is no extra with j's key, or says nothing
    hinted : (rooms : Rooms) (p : Place) (used : ℕ) (ro : Roomy rooms used (length own₀) (length text₀)) → Hinted hint (x.along rooms p used ro).said (value_text (key_at attributes source j))
    hinted rooms p used ro l = go (ltb j clear) refl (ltb j plain) refl t
      where
        c : given.extras ≡ length (x.along rooms p used ro).said.extras
        c = (x.along rooms p used ro).holds.count

        go : (a : Bool) → ltb j clear ≡ a → (b : Bool) → ltb j plain ≡ b → hint ≡ cond (a && b) given.extras (given.extras + 1)
            → place_of (x.along rooms p used ro).said.texts (value_text (key_at attributes source j)) (x.along rooms p used ro).said.extras ≡ hint
        go true q true u e =
            place-new attributes source first j (x.along rooms p used ro).said f o (x.sourced rooms p used ro) x.low (ltb-true j clear q) (ltb-true j plain u) ∙ sym c ∙ sym e
        go true q false u e = absurd (omega (arith, c))
        go false q b u e = absurd (omega (arith, c))

    -- attribute j at a place and in rooms
    taking : {t : Result Counted Fault} → r ≡ t → (rooms : Rooms) (p : Place) (used : ℕ) (ro : Roomy rooms used (length own₀) (length text₀))
        → Matches p own' text' (attribute_step attributes source kind first rooms p used j (x.along rooms p used ro).said) t
    taking q rooms p used ro =
        let a = x.along rooms p used ro in
        subst (λ (t : Result Counted Fault). Matches p own' text' (attribute_step attributes source kind first rooms p used j a.said) t) q
        (s a.said rooms p used a.holds
        (subst (λ (n : ℕ). Roomy rooms used n (length text)) (sym x.own_same) (subst (λ (n : ℕ). Roomy rooms used (length own₀) n) (sym x.text_same) ro))
        (λ e. free-key attributes source first clear j f x.low (ltb-true j clear e))
        (hinted rooms p used ro))

    pub going-stopped : {fault : Fault} → r ≡ Err fault → (rooms : Rooms) (p : Place) (used : ℕ) → Roomy rooms used (length own₀) (length text₀)
        → Matches p own' text' (read_attributes rooms p used kind [] first (attributes_from attributes source (end - first) first) g₀) (Err fault)
    unfolding ◌>>=◌
    going-stopped {fault} q rooms p used ro =
        let e = turn h rooms p used ro
        ∙ ap (λ (m : Outcome Given). m >>= λ g. read_attributes rooms p used kind (keys_of (attributes_from attributes source (j - first) first) ++ (key_at attributes source j ∷ []))
        (j + 1) (attributes_from attributes source (end - (j + 1)) (j + 1)) g)
        (halted (taking q rooms p used ro)) in
        subst (λ (m : Outcome Given). Matches p own' text' m (Err fault)) (sym e) stopped

    -- the stored keys stay
    kept_on : {next : Counted} (q : r ≡ Ok next) (rooms : Rooms) (p : Place) (used : ℕ) (ro : Roomy rooms used (length own₀) (length text₀))
        → Kept (key_at attributes source j) (x.along rooms p used ro).said (gone (taking q rooms p used ro)).said
    kept_on q rooms p used ro =
        held (subst (λ (m : Outcome Given). Holds (λ g. Kept (key_at attributes source j) (x.along rooms p used ro).said g) m) (gone (taking q rooms p used ro)).same
        (kept_step attributes source kind first rooms p used j (x.along rooms p used ro).said (x.along rooms p used ro).holds.keyed))

    pub going_on : {next : Counted} → r ≡ Ok next → length own' ≡ length own → length text' ≡ length text
        → Going kind attributes source first end own₀ text₀ g₀ own' text' (j + 1) next
    unfolding ◌>>=◌
    going_on {next} q l m = let lw = x.low in record {
      own_same = l ∙ x.own_same;
      text_same = m ∙ x.text_same;
      low = omega arith;
      high = omega arith;
      along = λ rooms p used ro. (let w = gone (taking q rooms p used ro) in record {
        said = w.said;
        holds = w.holds;
        same = turn h rooms p used ro
            ∙ ap (λ (m : Outcome Given). m >>= λ g. read_attributes rooms p used kind (keys_of (attributes_from attributes source (j - first) first) ++ (key_at attributes source j ∷ []))
            (j + 1) (attributes_from attributes source (end - (j + 1)) (j + 1)) g) w.same
            ∙ ap (λ (ks : List (List ℕ)). read_attributes rooms p used kind ks (j + 1) (attributes_from attributes source (end - (j + 1)) (j + 1)) w.said)
            (sym (keys-next attributes source first j x.low));
      });
      sourced = λ rooms p used ro. sourced-more attributes source first j x.low (x.sourced rooms p used ro) (kept_on q rooms p used ro);
    }
