-- Attributes read one by one, none of them refused. Assumes nothing.
use Prim.Native.Nat.{ℕ, ◌+◌}
use mathlib.Core.List.{List, [], ◌∷◌, ◌++◌, append-nil}
use mathlib.Core.Path.{◌≡◌, refl, ap, subst, ◌∙◌}
use Rattle.read_machine.specs.of_names.Keys.{key_of}
use Rattle.read_machine.specs.of_refusal.Refusal.{Outcome, accepted}
use Rattle.write_report.specs.of_table.Event.{Attribute}
use Rattle.read_machine.specs.of_read_keys.declared.Role.{Role}
use Rattle.read_machine.specs.of_read_keys.Roles.{role_of}
use Rattle.read_machine.specs.of_read_element.Outcome.{◌>>=◌, Place, need, unlimited}
use Rattle.read_machine.specs.of_read_element.Attributes.{Given, by_role, numbered, read_attributes}
use Rattle.write_report.specs.Written.{attribute}
use Rattle.round_elements.proofs.Keys.{Fresh, fresh-new, fresh-skip, fresh-next}

-- reading these attributes, whose keys are some of ks, from g on comes to o
pub record Reads (p : Place) (used κ : ℕ) (ks : List (List ℕ)) (xs : List Attribute) (g : Given) (o : Outcome Given) : Type 0 where
  pub run : (before : List (List ℕ)) (j : ℕ) → Fresh before ks → read_attributes unlimited p used κ before j xs g ≡ o

module _ {p : Place} {used κ : ℕ} where
  pub read-end : {g : Given} → Reads p used κ [] [] g (accepted g)
  unfolding read_attributes
  read-end = record { run = λ before j f. refl }

  pub read-skip : {k : List ℕ} {ks : List (List ℕ)} {xs : List Attribute} {g : Given} {o : Outcome Given} → Reads p used κ ks xs g o → Reads p used κ (k ∷ ks) xs g o
  read-skip r = record { run = λ before j f. r.run before j (fresh-skip f) }

  -- one attribute by its role
  pub read-role : {ks : List (List ℕ)} {xs : List Attribute} {g h : Given} {o : Outcome Given} {role : Role} (key value : List ℕ) → role_of κ (key_of key) ≡ role
      → ((q : Place) (c : ℕ) → by_role unlimited q used κ c role (attribute key value) g ≡ accepted h)
      → Reads p used κ ks xs h o → Reads p used κ (key ∷ ks) (attribute key value ∷ xs) g o
  unfolding read_attributes need ◌>>=◌
  read-role {xs = xs} {g = g} key value e b r = record {
    run = λ before j f.
        let t : by_role unlimited (numbered p j) used κ (key_of key) (role_of κ (key_of key)) (attribute key value) g ≡ accepted _ =
        ap (λ (x : Role). by_role unlimited (numbered p j) used κ (key_of key) x (attribute key value) g) e ∙ b (numbered p j) (key_of key) in
        rw (fresh-new f, t) (r.run (before ++ (key ∷ [])) (j + 1) (fresh-next f));
  }

  -- nothing comes behind them
  pub read-last : {ks : List (List ℕ)} {g : Given} {o : Outcome Given} (xs : List Attribute) → Reads p used κ ks (xs ++ []) g o → Reads p used κ ks xs g o
  read-last {ks} {g} {o} xs r = subst (λ (l : List Attribute). Reads p used κ ks l g o) (append-nil xs) r
