-- They are acts as all others. Assumes nothing.
use Prim.Native.Nat.{ℕ}
use mathlib.Core.Path.{◌≡◌, refl, ap, ◌∙◌}
use mathlib.Core.List.{List}
use mathlib.Core.Bool.{true, ◌||◌}
use borrow.Author.Tests.{eqb-true}
use lib.Dec.{eqb}
use Rattle.xml_checks.proofs.of_xml_chars.CharLaws.{or_cases}
use Rattle.xml_checks.specs.of_xml_state.declared.Move.{Move}
use Rattle.xml_checks.specs.of_xml_state.declared.State.{State}
use Rattle.xml_checks.specs.of_xml_state.declared.Step.TheVariants.{Go}
use Rattle.xml_checks.specs.of_xml_state.inside.Rows as row
use Rattle.xml_checks.specs.of_xml_state.inside.Acts.{acted_of}
use Rattle.xml_checks.specs.of_xml_state.inside.Puts.{turned, act_on}
use Rattle.xml_quick.specs.inside.Quick.{quick_act, quick_of}

module _ (s : State) (m : Move) (b at : ℕ) (src events attributes : List ℕ) where
  here-turns : m.act ≡ row.here → turned (Go (quick_of s m at)) events attributes ≡ act_on s m b at src events attributes
  unfolding quick_of act_on acted_of
  here-turns e = rw e refl

  key-turns : m.act ≡ row.key_end → turned (Go (quick_of s m at)) events attributes ≡ act_on s m b at src events attributes
  unfolding quick_of act_on acted_of
  key-turns e = rw e refl

  quote-turns : m.act ≡ row.quoted → turned (Go (quick_of s m at)) events attributes ≡ act_on s m b at src events attributes
  unfolding quick_of act_on acted_of
  quote-turns e = rw e refl

  name-turns : m.act ≡ row.name_end → turned (Go (quick_of s m at)) events attributes ≡ act_on s m b at src events attributes
  unfolding quick_of act_on acted_of
  name-turns e = rw e refl

  quick-turns : quick_act m.act ≡ true → turned (Go (quick_of s m at)) events attributes ≡ act_on s m b at src events attributes
  quick-turns e =
      or_cases (eqb m.act row.here) (eqb m.act row.key_end || (eqb m.act row.quoted || eqb m.act row.name_end)) e (λ x. here-turns (eqb-true m.act row.here x))
      (λ y. or_cases (eqb m.act row.key_end) (eqb m.act row.quoted || eqb m.act row.name_end) y (λ x. key-turns (eqb-true m.act row.key_end x))
      (λ z. or_cases (eqb m.act row.quoted) (eqb m.act row.name_end) z (λ x. quote-turns (eqb-true m.act row.quoted x)) (λ x. name-turns (eqb-true m.act row.name_end x))))

  pub quick-go : (r : State) → r ≡ quick_of s m at → quick_act m.act ≡ true → turned (Go r) events attributes ≡ act_on s m b at src events attributes
  quick-go r e t = ap (λ (z : State). turned (Go z) events attributes) e ∙ quick-turns t
