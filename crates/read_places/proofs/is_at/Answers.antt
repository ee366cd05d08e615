use Prim.Native.Nat.{ℕ}
use mathlib.Core.Path.{sym, ap, ◌∙◌}
use mathlib.Core.Bool.{false≢true}
use mathlib.Core.List.{List}
use borrow.Author.Tests.{eqb-true}
use native.Mathlib.Omega.{arith}
use Rattle.read_element.specs.of_names.Names.{same_bytes}
use Rattle.read_element.specs.of_text.Value.{value_text}
use Rattle.read_places.proofs.is_at.Goals as goal

pub returns-then-extras-i : goal.returns-then-extras-i
returns-then-extras-i c = record { i_lt_extras = λ e. absurd (false≢true e); key_value = λ e. absurd (false≢true e) }

pub returns-then-stored-cleaned_length : goal.returns-then-stored-cleaned_length
returns-then-stored-cleaned_length c = record {
  i_lt_extras = λ e. omega (arith, c.if-extras-i.false);
  key_value = λ e. ap (λ (l : List ℕ). same_bytes l (value_text c.args.key.now)) (sym c.stored_key-stored.ensures) ∙ sym c.is_cleaned.ensures ∙ e;
}

pub returns-else-stored-cleaned_length : goal.returns-else-stored-cleaned_length
returns-else-stored-cleaned_length c = record {
  i_lt_extras = λ e. omega (arith, c.if-extras-i.false);
  key_value = λ e. absurd (c.if-stored-cleaned_length.false (eqb-true _ _ e));
}
