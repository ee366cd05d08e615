-- A path element's text, by the parts in which it is put. Assumes nothing.
use Prim.Native.Nat.{ℕ, min}
use mathlib.Core.Path.{◌≡◌, refl, sym, ap, ◌∙◌}
use mathlib.Core.List.{List, [], ◌++◌, append-nil}
use mathlib.Core.Bool.{Bool, true, false, cond, ◌||◌, true≢false}
use borrow.Author.Tests.{eq-eqb, ne_eqb, eqb-true}
use lib.Dec.{eqb}
use Rattle.explain_name.specs.of_refusal.declared.PathElement.{PathElement}
use Rattle.explain_name.specs.of_names.Bytes.{bytes}
use Rattle.explain_name.specs.of_names.Keys.{keys}
use Rattle.explain_name.specs.of_digits.Digits.{decimal}
use Rattle.explain_name.specs.of_explain_text.Explanation.{kind_names, attribute_names, named, attribute, has_name, has_index, index_text, bracketed, name_at, name_text, element_text}
use Rattle.explain_name.specs.of_explain_lines.Lines.{line_in}
use Rattle.explain_name.proofs.of_explain_lines.Tables.{table_at}

-- ---- names by their codes
abbrev pub kind_table : List ℕ
kind_table = bytes "?\ntestsuites\ntestsuite\ntestcase\nproperties\nproperty\nfailure\nerror\nskipped\nflakyFailure\nflakyError\nrerunFailure\nrerunError\n?\nsystem-out\nsystem-err\n@\n?"

pub kind-at : (k : ℕ) → line_in (min k 17) kind_table ≡ named kind_names k
unfolding kind_names
kind-at k = table_at kind_table kind_names (bytes "?") 17 refl refl k

abbrev pub attribute_table : List ℕ
attribute_table = bytes "?\nname\nclassname\nuuid\ntimestamp\ntime\ntests\nfailures\nerrors\nskipped\ndisabled\nassertions\nmessage\ntype\nvalue\nstackTrace\nhostname\n?"

pub attribute-at : (k : ℕ) → line_in (min k 17) attribute_table ≡ named attribute_names k
unfolding attribute_names keys
attribute-at k = table_at attribute_table attribute_names (bytes "?") 17 refl refl k

-- ---- the index
module _ (kind index : ℕ) {r : Bool} (p : r ≡ has_name kind) where
  test : (r || eqb kind 5) ≡ has_index kind
  test = ap (λ (b : Bool). b || eqb kind 5) p

  pub index-shown : (r || eqb kind 5) ≡ true → bytes "[" ++ (decimal index ++ bytes "]") ≡ index_text kind index
  unfolding index_text
  index-shown e = sym (ap (λ (b : Bool). cond b (bytes "[" ++ (decimal index ++ bytes "]")) []) (sym test ∙ e))

  pub index-none : (r || eqb kind 5) ≡ false → [] ≡ index_text kind index
  unfolding index_text
  index-none e = sym (ap (λ (b : Bool). cond b (bytes "[" ++ (decimal index ++ bytes "]")) []) (sym test ∙ e))

-- ---- the whole
module _ (events attributes source : List ℕ) (kind index event : ℕ) where
  abbrev e : PathElement
  e = record { kind = kind; index = index; event = event }

  abbrev front : List ℕ → List ℕ
  front l = named kind_names kind ++ (index_text kind index ++ l)

  whole : (s t : Bool) → has_name kind ≡ s → eqb kind attribute ≡ t
      → front (cond s (bracketed (name_at events attributes source event)) [] ++ cond t (named attribute_names index) []) ≡ element_text events attributes source e
  unfolding element_text
  whole s t p q =
      ap (λ (b : Bool). front (cond b (bracketed (name_at events attributes source event)) [] ++ cond t (named attribute_names index) [])) (sym p)
      ∙ ap (λ (b : Bool). front (name_text events attributes source kind event ++ cond b (named attribute_names index) [])) (sym q)

  no-attribute : has_name kind ≡ true → eqb kind attribute ≡ false
  no-attribute p = go (eqb kind attribute) refl
    where
      go : (t : Bool) → eqb kind attribute ≡ t → t ≡ false
      go true q = absurd (true≢false (sym p ∙ ap has_name (eqb-true kind attribute q)))
      go false q = refl

  pub with-name : has_name kind ≡ true → front (bracketed (name_at events attributes source event)) ≡ element_text events attributes source e
  with-name p = ap front (sym (append-nil (bracketed (name_at events attributes source event)))) ∙ whole true false p (no-attribute p)

  pub with-attribute : has_name kind ≡ false → kind ≡ attribute → front (named attribute_names index) ≡ element_text events attributes source e
  with-attribute p q = whole false true p (eq-eqb kind attribute q)

  pub plain : has_name kind ≡ false → (kind ≡ attribute → ⊥) → named kind_names kind ++ index_text kind index ≡ element_text events attributes source e
  plain p q = ap (λ (l : List ℕ). named kind_names kind ++ l) (sym (append-nil (index_text kind index))) ∙ whole false false p (ne_eqb kind attribute q)
