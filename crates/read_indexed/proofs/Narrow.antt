-- Rooms of fewer words, where an attribute's extra has room in them. Assumes nothing.
use Prim.Native.Nat.{ℕ, ◌+◌, ◌-◌, ◌*◌, ◌/◌, ◌≤◌}
use mathlib.Core.Path.{◌≡◌, refl, sym, ap, ◌∙◌}
use mathlib.Core.Bool.{Bool, true, false, cond, not}
use mathlib.Core.List.{List, [], ◌∷◌, ◌++◌}
use mathlib.Core.Option.{some}
use native.Mathlib.Omega.{arith}
use borrow.Author.Tests.{le-leb, lt-leb, leb-true, leb-false}
use lib.Dec.{leb}
use lib.ListN.{length}
use Rattle.read_places.specs.of_refusal.Refusal.{Outcome, accepted}
use Rattle.read_places.specs.of_names.Keys.{key_of}
use Rattle.read_places.specs.of_table.Event.{Attribute, mark_at, key_at, attribute_at, attributes_from}
use Rattle.read_places.specs.of_text.Value.{value_text, checked_of}
use Rattle.read_places.specs.of_tree_put.Put.{blank, put_text}
use Rattle.read_places.specs.of_read_keys.declared.Role.{Role}
use Rattle.read_places.specs.of_read_keys.declared.Role.TheVariants as role
use Rattle.read_places.specs.of_read_keys.Roles.{role_of}
use Rattle.read_places.specs.of_read_element.Outcome.{Place, Rooms, need, there, ◌>>=◌, fits}
use Rattle.read_places.specs.of_read_element.Attributes.{Given, place_of, extra_kind, storing, read_text, old_extra, new_extra, read_extra, by_role, among, numbered}
use Rattle.read_places.specs.of_read_element.inside.Held.{keys_of, Roomy}
use Rattle.read_each.proofs.Stepping.{attribute_step}
use Rattle.read_places.specs.of_refusal.declared.Cause.TheVariants as cause

-- rooms for `used` records and so many words
abbrev pub narrow : Rooms → ℕ → ℕ → Rooms
narrow rooms used k = record { records = some (used + k / 32); text = rooms.text; scratch = rooms.scratch }

pub roomy_narrow : {rooms : Rooms} {used whole text : ℕ} (k : ℕ) → Roomy rooms used whole text → Roomy (narrow rooms used k) used k text
unfolding fits
roomy_narrow {rooms} {used} k ro = record { for-records = λ n. go n (leb (n * 32) k) refl; for-text = ro.for-text }
  where
    go : (n : ℕ) (t : Bool) → leb (n * 32) k ≡ t → leb (used + n) (used + k / 32) ≡ leb (n * 32) k
    go n true e = let h = leb-true (n * 32) k e in le-leb (used + n) (used + k / 32) (omega arith) ∙ sym e
    go n false e = let h = leb-false (n * 32) k e in lt-leb (used + n) (used + k / 32) (omega arith) ∙ sym e

module _ (rooms : Rooms) (k : ℕ) (p : Place) (used kind : ℕ) (g : Given)
    (e : fits rooms.records (used + 1 + length g.extras + 1) ≡ fits (some (used + k / 32)) (used + 1 + length g.extras + 1)) where
  new-narrow : (key value : List ℕ) → new_extra (narrow rooms used k) p used kind key value g ≡ new_extra rooms p used kind key value g
  unfolding new_extra
  new-narrow key value =
      ap (λ (t : Bool). need t p cause.RecordsSpent
      (storing rooms p g.texts key λ keyed.
      storing rooms p keyed value λ texts.
      accepted (record {
        main = g.main;
        extras = g.extras ++ (put_text 4 1 (length keyed) (length value) (put_text 2 0 (length g.texts) (length key) (blank (extra_kind kind))) ∷ []);
        texts = texts;
      }))) (sym e)

  extra-narrow : (x : Attribute) → read_extra (narrow rooms used k) p used kind x g ≡ read_extra rooms p used kind x g
  unfolding read_extra old_extra
  extra-narrow x =
      let i = place_of g.texts (value_text x.key) g.extras in
      ap (λ (m : Outcome Given). there p (checked_of x.key) >>= λ _. there p (checked_of x.value) >>= λ _. cond (leb (length g.extras) i) m (old_extra rooms p (value_text x.value) i g))
      (new-narrow (value_text x.key) (value_text x.value))

  role_narrow : (key : ℕ) (r : Role) (x : Attribute) → by_role (narrow rooms used k) p used kind key r x g ≡ by_role rooms p used kind key r x g
  unfolding by_role read_text
  role_narrow key (role.Text o b) x = refl
  role_narrow key (role.Count o) x = refl
  role_narrow key (role.Number o b) x = refl
  role_narrow key role.Uuid x = refl
  role_narrow key (role.Timestamp kept) x = refl
  role_narrow key (role.Time kept) x = refl
  role_narrow key role.Extra x = extra-narrow x
  role_narrow key role.Ignored x = refl

-- attribute j, in rooms of k words of which its extra needs no more
pub step-narrow : (attributes source : List ℕ) (kind first : ℕ) (rooms : Rooms) (p : Place) (used j : ℕ) (g : Given) {whole text : ℕ} (k : ℕ)
    → Roomy rooms used whole text → (length g.extras + 2) * 32 ≤ k → k ≤ whole
    → attribute_step attributes source kind first (narrow rooms used k) p used j g ≡ attribute_step attributes source kind first rooms p used j g
unfolding fits
step-narrow attributes source kind first rooms p used j g {whole} k ro h l =
    let n : ℕ = used + 1 + length g.extras + 1 in
    let z : n ≡ used + (length g.extras + 2) = omega arith in
    let a : fits rooms.records n ≡ true = ap (fits rooms.records) z ∙ ro.for-records (length g.extras + 2) ∙ le-leb ((length g.extras + 2) * 32) whole (omega arith) in
    let b : leb n (used + k / 32) ≡ true = le-leb n (used + k / 32) (omega arith) in
    ap (λ (m : Outcome Given). need (mark_at attributes j) (numbered p j) cause.FaultyAttribute
    (need (not (among (key_at attributes source j) (keys_of (attributes_from attributes source (j - first) first)))) (numbered p j) cause.RepeatedKey m))
    (role_narrow rooms k (numbered p j) used kind g (a ∙ sym b) (key_of (key_at attributes source j)) (role_of kind (key_of (key_at attributes source j))) (attribute_at attributes source j))
