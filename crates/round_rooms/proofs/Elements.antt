-- Where an element's records and texts fit, reading it never lacked room. Assumes nothing.
use Prim.Native.Nat.{ℕ, ◌+◌, ◌≤◌}
use mathlib.Core.List.{List, [], ◌∷◌, ◌++◌}
use mathlib.Core.Option.{none, some}
use native.Mathlib.Omega.{arith}
use lib.ListN.{length, length-append}
use lib.Dec.{leb}
use Rattle.read_machine.specs.of_names.Keys.{key_of}
use Rattle.read_machine.specs.of_refusal.Refusal.{Outcome}
use Rattle.write_report.specs.of_table.Event.{Attribute}
use Rattle.read_machine.specs.of_text.Value.{value_text}
use Rattle.read_machine.specs.of_tree_put.Put.{put_pair}
use Rattle.read_machine.specs.of_read_keys.declared.Role.{Role}
use Rattle.read_machine.specs.of_read_keys.declared.Role.TheVariants as role
use Rattle.read_machine.specs.of_read_keys.Roles.{role_of}
use Rattle.read_machine.specs.of_read_element.Outcome.{Place, need, within, Rooms, unlimited, fits}
use Rattle.read_machine.specs.of_read_element.Attributes.{Given, Grown, place_of, numbered, read_text, old_extra, new_extra, read_extra, by_role, read_attributes, complete, read_element}
use Rattle.read_machine.proofs.of_read_element.TreeElement.{length-changed}
use Rattle.round_rooms.proofs.Suiting.{Suits, comes, leaf, bind, needing, choosing, fitting}
use Rattle.read_machine.specs.of_refusal.declared.Cause.TheVariants as cause

-- r records and t bytes of text where n and m have room
pub record Fit (n m r t : ℕ) : Type 0 where
  pub records : r ≤ n
  pub texts : t ≤ m

module _ (n m k : ℕ) where
  abbrev pub rooms : Rooms
  rooms = record { records = some n; text = some m; scratch = some k }

  abbrev GivenFits : ℕ → Given → Type 0
  GivenFits used g = Fit n m (used + 1 + length g.extras) (length g.texts)

  abbrev pub GrownFits : Grown → Type 0
  GrownFits g = Fit n m (length g.records) (length g.texts)

  pub stored : {A : Type 0} {F : A → Type 0} (r : ℕ) (p : Place) (texts v : List ℕ) {x y : Outcome A} → Suits (Fit n m r (length (texts ++ v))) F x y
      → Suits (Fit n m r (length texts)) F (need (fits (some m) (length texts + length v)) p cause.TextFull x) (need (fits none (length texts + length v)) p cause.TextFull y)
  stored r p texts v h = fitting m (length texts + length v) p cause.TextFull
      (λ f. (record { records = f.records; texts = omega (arith, length-append texts v, f.texts) }, omega (arith, length-append texts v, f.texts))) h

  text-suits : (used : ℕ) (p : Place) (o b : ℕ) (value : List ℕ) (g : Given) → Suits (GivenFits used g) (GivenFits used) (read_text rooms p o b value g) (read_text unlimited p o b value g)
  unfolding read_text
  text-suits used p o b value g = bind (leaf _) λ _. stored (used + 1 + length g.extras) p g.texts (value_text value) (comes λ f. f)

  old_suits : (used : ℕ) (p : Place) (value : List ℕ) (i : ℕ) (g : Given) → Suits (GivenFits used g) (GivenFits used) (old_extra rooms p value i g) (old_extra unlimited p value i g)
  unfolding old_extra
  old_suits used p value i g =
      stored (used + 1 + length g.extras) p g.texts value
      (comes λ f. record { records = omega (arith, length-changed i (put_pair 4 (length g.texts) (length value)) g.extras, f.records); texts = f.texts })

  new-suits : (used : ℕ) (p : Place) (kind : ℕ) (key value : List ℕ) (g : Given)
      → Suits (GivenFits used g) (GivenFits used) (new_extra rooms p used kind key value g) (new_extra unlimited p used kind key value g)
  unfolding new_extra
  new-suits used p kind key value g =
      fitting n (used + 1 + length g.extras + 1) p cause.RecordsSpent
      (λ (f : Fit n m (used + 1 + length g.extras + 1) (length g.texts)). (record { records = omega (arith, f.records); texts = f.texts }, f.records))
      (stored (used + 1 + length g.extras + 1) p g.texts key
      (stored (used + 1 + length g.extras + 1) p (g.texts ++ key) value
      (comes λ f. record { records = last _ f; texts = f.texts })))
    where
      last : (r : List ℕ) {t : ℕ} → Fit n m (used + 1 + length (g.extras ++ (r ∷ []))) t → used + 1 + length g.extras + 1 ≤ n
      last r f = omega (arith, length-append g.extras (r ∷ []), f.records)

  extra-suits : (used : ℕ) (p : Place) (kind : ℕ) (x : Attribute) (g : Given) → Suits (GivenFits used g) (GivenFits used) (read_extra rooms p used kind x g) (read_extra unlimited p used kind x g)
  unfolding read_extra
  extra-suits used p kind x g =
      bind (leaf _) λ _.
      bind (leaf _) λ _.
      (let i = place_of g.texts (value_text x.key) g.extras in
      choosing (leb (length g.extras) i) (new-suits used p kind (value_text x.key) (value_text x.value) g) (old_suits used p (value_text x.value) i g))

  role_suits : (used : ℕ) (p : Place) (kind key : ℕ) (role : Role) (x : Attribute) (g : Given)
      → Suits (GivenFits used g) (GivenFits used) (by_role rooms p used kind key role x g) (by_role unlimited p used kind key role x g)
  unfolding by_role
  role_suits used p kind key (role.Text o b) x g = text-suits used (within p key) o b x.value g
  role_suits used p kind key (role.Count o) x g = bind (leaf _) λ _. comes λ f. f
  role_suits used p kind key (role.Number o b) x g = bind (leaf _) λ _. comes λ f. f
  role_suits used p kind key role.Uuid x g = bind (leaf _) λ _. comes λ f. f
  role_suits used p kind key (role.Timestamp kept) x g = bind (leaf _) λ _. comes λ f. f
  role_suits used p kind key (role.Time kept) x g = bind (leaf _) λ _. comes λ f. f
  role_suits used p kind key role.Extra x g = extra-suits used p kind x g
  role_suits used p kind key role.Ignored x g = comes λ f. f

  attributes-suit : (used : ℕ) (p : Place) (kind : ℕ) (before : List (List ℕ)) (j : ℕ) (xs : List Attribute) (g : Given)
      → Suits (GivenFits used g) (GivenFits used) (read_attributes rooms p used kind before j xs g) (read_attributes unlimited p used kind before j xs g)
  unfolding read_attributes
  attributes-suit used p kind before j [] g = comes λ f. f
  attributes-suit used p kind before j (x ∷ xs) g =
      bind (needing _ (numbered p j) cause.FaultyAttribute (needing _ (numbered p j) cause.RepeatedKey (role_suits used (numbered p j) kind (key_of x.key) (role_of kind (key_of x.key)) x g))) λ h.
      attributes-suit used p kind (before ++ (x.key ∷ [])) (j + 1) xs h

  complete-suits : (used : ℕ) (p : Place) (kind : ℕ) (g : Given) → Suits (GivenFits used g) (GivenFits used) (complete p kind g) (complete p kind g)
  unfolding complete
  complete-suits used p kind g = needing _ (within p 1) cause.MissingAttribute (needing _ (within p 14) cause.MissingAttribute (comes λ f. f))

  pub element-suits : (p : Place) (kind j : ℕ) (xs : List Attribute) (records : List (List ℕ)) (texts : List ℕ)
      → Suits (Fit n m (length records) (length texts)) GrownFits (read_element rooms p kind j xs records texts) (read_element unlimited p kind j xs records texts)
  unfolding read_element
  element-suits p kind j xs records texts =
      bind (fitting n (length records + 1) p cause.RecordsSpent
      (λ (f : Fit n m (length records + 1 + 0) (length texts)). (record { records = omega (arith, f.records); texts = f.texts }, omega (arith, f.records)))
      (attributes-suit (length records) p kind [] j xs _)) λ g.
      bind (complete-suits (length records) p kind g) λ h.
      comes λ f. record { records = omega (arith, length-append records (h.main ∷ h.extras), f.records); texts = f.texts }
