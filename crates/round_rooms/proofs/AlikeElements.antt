-- An element whose attributes have room is read with rooms as without. Assumes nothing.
use Prim.Native.Nat.{ℕ, ◌+◌, ◌≤◌}
use mathlib.Core.List.{List, [], ◌∷◌, ◌++◌}
use native.Mathlib.Omega.{arith}
use lib.ListN.{length, length-append}
use lib.Dec.{leb}
use Rattle.read_machine.specs.of_names.Keys.{key_of}
use Rattle.write_report.specs.of_table.Event.{Attribute}
use Rattle.read_machine.specs.of_text.Value.{value_text}
use Rattle.read_machine.proofs.of_text.Values.{length-value}
use Rattle.read_machine.specs.of_tree_put.Put.{put_pair}
use Rattle.read_machine.specs.of_read_keys.declared.Role.{Role}
use Rattle.read_machine.specs.of_read_keys.declared.Role.TheVariants as role
use Rattle.read_machine.specs.of_read_keys.Roles.{role_of}
use Rattle.read_machine.specs.of_read_element.Outcome.{Place, within, unlimited}
use Rattle.read_machine.specs.of_read_element.Attributes.{Given, Grown, place_of, numbered, read_text, old_extra, new_extra, read_extra, by_role, read_attributes, complete, read_element}
use Rattle.read_machine.proofs.of_read_element.TreeElement.{length-changed}
use Rattle.round_rooms.specs.Needs.{attribute_bytes}
use Rattle.round_rooms.proofs.Elements.{rooms}
use Rattle.round_rooms.proofs.Alike.{Alike, gives, leaf, weaken, bind, needing, choosing, fitting}
use Rattle.read_machine.specs.of_refusal.declared.Cause.TheVariants as cause

-- at most r extras, and t bytes of texts
record Upto (r t : ℕ) (g : Given) : Type 0 where
  extras : length g.extras ≤ r
  texts : length g.texts ≤ t

pub record Grows (r t : ℕ) (g : Grown) : Type 0 where
  pub records : length g.records ≤ r
  pub texts : length g.texts ≤ t

-- nothing is added
stays : (r t x : ℕ) (g : Given) → length g.extras ≤ r → length g.texts ≤ t → Upto (r + 1) (t + x) g
stays r t x g h l = record { extras = omega (arith, h); texts = omega (arith, l) }

module _ (n m k : ℕ) where
  text-alike : (p : Place) (o b : ℕ) (value : List ℕ) (g : Given) → length g.texts + length value ≤ m
      → Alike (Upto (length g.extras) (length g.texts + length value)) (read_text (rooms n m k) p o b value g) (read_text unlimited p o b value g)
  unfolding read_text
  text-alike p o b value g l =
      bind (leaf _) λ _ _.
      fitting m (length g.texts + length (value_text value)) p cause.TextFull (omega (arith, length-value value, l))
      (gives (record { extras = omega arith; texts = omega (arith, length-append g.texts (value_text value), length-value value) }))

  old-alike : (p : Place) (value : List ℕ) (i : ℕ) (g : Given) → length g.texts + length value ≤ m
      → Alike (Upto (length g.extras) (length g.texts + length value)) (old_extra (rooms n m k) p value i g) (old_extra unlimited p value i g)
  unfolding old_extra
  old-alike p value i g l =
      fitting m (length g.texts + length value) p cause.TextFull l
      (gives (record { extras = omega (arith, length-changed i (put_pair 4 (length g.texts) (length value)) g.extras); texts = omega (arith, length-append g.texts value) }))

  new-alike : (p : Place) (used kind : ℕ) (key value : List ℕ) (g : Given) → used + 1 + length g.extras + 1 ≤ n → length g.texts + (length key + length value) ≤ m
      → Alike (Upto (length g.extras + 1) (length g.texts + (length key + length value))) (new_extra (rooms n m k) p used kind key value g) (new_extra unlimited p used kind key value g)
  unfolding new_extra
  new-alike p used kind key value g h l =
      fitting n (used + 1 + length g.extras + 1) p cause.RecordsSpent h
      (fitting m (length g.texts + length key) p cause.TextFull (omega (arith, l))
      (fitting m (length (g.texts ++ key) + length value) p cause.TextFull (omega (arith, length-append g.texts key, l))
      (gives (record { extras = one_more _; texts = omega (arith, length-append (g.texts ++ key) value, length-append g.texts key) }))))
    where
      one_more : (r : List ℕ) → length (g.extras ++ (r ∷ [])) ≤ length g.extras + 1
      one_more r = omega (arith, length-append g.extras (r ∷ []))

  extra-alike : (p : Place) (used kind : ℕ) (x : Attribute) (g : Given) → used + 1 + length g.extras + 1 ≤ n → length g.texts + (length x.key + length x.value) ≤ m
      → Alike (Upto (length g.extras + 1) (length g.texts + (length x.key + length x.value))) (read_extra (rooms n m k) p used kind x g) (read_extra unlimited p used kind x g)
  unfolding read_extra
  extra-alike p used kind x g h l =
      bind (leaf _) λ _ _.
      bind (leaf _) λ _ _.
      (let a = length-value x.key in
      let b = length-value x.value in
      let i = place_of g.texts (value_text x.key) g.extras in
      choosing (leb (length g.extras) i)
      (weaken (new-alike p used kind (value_text x.key) (value_text x.value) g h (omega (arith, a, b, l))) (λ q u. record { extras = u.extras; texts = omega (arith, a, b, u.texts) }))
      (weaken (old-alike p (value_text x.value) i g (omega (arith, b, l))) (λ q u. record { extras = omega (arith, u.extras); texts = omega (arith, b, u.texts) })))

  role-alike : (p : Place) (used kind key : ℕ) (role : Role) (x : Attribute) (g : Given) → used + 1 + length g.extras + 1 ≤ n → length g.texts + (length x.key + length x.value) ≤ m
      → Alike (Upto (length g.extras + 1) (length g.texts + (length x.key + length x.value))) (by_role (rooms n m k) p used kind key role x g) (by_role unlimited p used kind key role x g)
  unfolding by_role
  role-alike p used kind key (role.Text o b) x g h l =
      weaken (text-alike (within p key) o b x.value g (omega (arith, l))) (λ q u. record { extras = omega (arith, u.extras); texts = omega (arith, u.texts) })
  role-alike p used kind key (role.Count o) x g h l = bind (leaf _) λ _ _. gives (stays (length g.extras) (length g.texts) (length x.key + length x.value) _ (omega arith) (omega arith))
  role-alike p used kind key (role.Number o b) x g h l =
      bind (leaf _) λ _ _. gives (stays (length g.extras) (length g.texts) (length x.key + length x.value) _ (omega arith) (omega arith))
  role-alike p used kind key role.Uuid x g h l = bind (leaf _) λ _ _. gives (stays (length g.extras) (length g.texts) (length x.key + length x.value) _ (omega arith) (omega arith))
  role-alike p used kind key (role.Timestamp kept) x g h l =
      bind (leaf _) λ _ _. gives (stays (length g.extras) (length g.texts) (length x.key + length x.value) _ (omega arith) (omega arith))
  role-alike p used kind key (role.Time kept) x g h l = bind (leaf _) λ _ _. gives (stays (length g.extras) (length g.texts) (length x.key + length x.value) _ (omega arith) (omega arith))
  role-alike p used kind key role.Extra x g h l = extra-alike p used kind x g h l
  role-alike p used kind key role.Ignored x g h l = gives (stays (length g.extras) (length g.texts) (length x.key + length x.value) g (omega arith) (omega arith))

  attributes-alike : (p : Place) (used kind : ℕ) (before : List (List ℕ)) (j : ℕ) (xs : List Attribute) (g : Given)
      → used + 1 + length g.extras + length xs ≤ n → length g.texts + attribute_bytes xs ≤ m
      → Alike (Upto (length g.extras + length xs) (length g.texts + attribute_bytes xs))
      (read_attributes (rooms n m k) p used kind before j xs g) (read_attributes unlimited p used kind before j xs g)
  unfolding read_attributes
  attributes-alike p used kind before j [] g h l = gives {a = g} (record { extras = omega arith; texts = omega arith })
  attributes-alike p used kind before j (x ∷ xs) g h l =
      bind (needing _ (numbered p j) cause.FaultyAttribute (needing _ (numbered p j) cause.RepeatedKey
      (role-alike (numbered p j) used kind (key_of x.key) (role_of kind (key_of x.key)) x g (omega (arith, h)) (omega (arith, l))))) λ q u.
      weaken (attributes-alike p used kind (before ++ (x.key ∷ [])) (j + 1) xs q (omega (arith, h, u.extras)) (omega (arith, l, u.texts)))
      (λ r v. record { extras = omega (arith, u.extras, v.extras); texts = omega (arith, u.texts, v.texts) })

  complete-alike : (p : Place) (kind : ℕ) (g : Given) (r t : ℕ) → Upto r t g → Alike (Upto r t) (complete p kind g) (complete p kind g)
  unfolding complete
  complete-alike p kind g r t u = needing _ (within p 1) cause.MissingAttribute (needing _ (within p 14) cause.MissingAttribute (gives u))

  pub element-alike : (p : Place) (kind j : ℕ) (xs : List Attribute) (records : List (List ℕ)) (texts : List ℕ) → length records + (1 + length xs) ≤ n → length texts + attribute_bytes xs ≤ m
      → Alike (Grows (length records + (1 + length xs)) (length texts + attribute_bytes xs)) (read_element (rooms n m k) p kind j xs records texts) (read_element unlimited p kind j xs records texts)
  unfolding read_element
  element-alike p kind j xs records texts h l =
      bind (fitting n (length records + 1) p cause.RecordsSpent (omega (arith, h)) (attributes-alike p (length records) kind [] j xs _ (omega (arith, h)) l)) λ g u.
      bind (complete-alike p kind g (length xs) (length texts + attribute_bytes xs) (record { extras = omega (arith, u.extras); texts = u.texts })) λ q v.
      gives (record { records = omega (arith, length-append records (q.main ∷ q.extras), v.extras); texts = v.texts })
