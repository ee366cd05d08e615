-- A refusal with no attribute. Assumes nothing.
use Prim.Native.Nat.{ℕ}
use mathlib.Core.Path.{◌≡◌, sym, ap, subst, ◌∙◌}
use mathlib.Core.List.{List}
use Rattle.std.specs.Prelude.{Err}
use Rattle.trim.specs.of_refusal.Refusal.{nowhere, Outcome, refused}
use Rattle.trim.specs.of_refusal.declared.Cause.{Cause}
use Rattle.read_attributes.specs.of_read_element.Outcome.{Place, refused_at}
use Rattle.read_attributes.specs.of_read_attribute.inside.Steps.{fault_at}
use Rattle.read_content.specs.Content.{Content}
use Rattle.read_content.specs.inside.Holds.{Comes, Performed, fault_of}
use Rattle.read_attributes.specs.of_read_element.inside.Refines.{stopped}
use Rattle.read_content.specs.declared.Content.{Content as CodedContent}

pub fault-place : (p : Place) (why : Cause) → p.attribute ≡ nowhere → ◌≡◌ {A = Outcome Content} (refused_at p why) (refused (fault_at p (fault_of why)))
fault-place p why e = ap (λ (n : ℕ). refused (record { cause = why; path = p.path; event = p.event; attribute = n })) e

-- the code's fault is the definition's refusal, where no attribute is to be named
pub halts : {Q : CodedContent → Content → Type 0} {words text scratch attributes source : List ℕ} (p : Place) (why : Cause) {o : Outcome Content} {r : Performed}
    → p.attribute ≡ nowhere → o ≡ refused_at p why → r ≡ Err (fault_of why) → Comes Q p words text scratch attributes source o r
halts {Q} {words} {text} {scratch} {attributes} {source} p why {o} {r} a e q =
    rw q (subst (λ (x : Outcome Content). Comes Q p words text scratch attributes source x (Err (fault_of why))) (sym (e ∙ fault-place p why a)) stopped)
