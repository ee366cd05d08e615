-- The code's paths with one element more. Assumes nothing.
use Prim.Native.Nat.{ℕ, zero, suc, ◌≤◌}
use mathlib.Core.List.{List, [], ◌∷◌, ◌++◌, append_assoc}
use mathlib.Core.Path.{◌≡◌, refl, ap, ◌∙◌, subst}
use native.Mathlib.Omega.{arith}
use lib.ListN.{length, length-append}
use Rattle.read_rules.specs.of_refusal.Refusal.{path_from, empty_path, longer}
use Rattle.read_rules.specs.of_refusal.declared.PathElement.{PathElement}
use Rattle.read_rules.specs.of_refusal.declared.Path.{Path}
use Rattle.read_rules.proofs.of_refusal.PathLaws.{longer-path}
use Rattle.read_fault.specs.of_read_element.Outcome.{attribute_element, path_to}
use Rattle.read_place.specs.of_read_state.Control.{Level}
use Rattle.read_place.specs.of_read_state.inside.Coded.{level_of, level_in_of, mode_of, closing}
use Rattle.read_place.specs.of_read_state.declared.Control.{Control as CodedControl}
use Rattle.read_place.proofs.Lasting.{level-of}
pub use Rattle.read_place.proofs.of_read_state.Turning.{opening_other}
use Rattle.read_fault.specs.inside.Faults.{with_attribute}
use Rattle.read_place.specs.Marks.{Marks}
use Rattle.read_path.specs.Paths.{path_of}
use Rattle.read_path.specs.inside.Coded.{Leads}

pub inside : (f : Level → List PathElement) (c : CodedControl) {p : Path} → Leads p (f (level_of c.level)) → Leads p (f (level_in_of (mode_of c)))
inside f c {p} h = subst (λ (l : Level). Leads p (f l)) (level-of c) h

pub leads_close : (c : CodedControl) (m : Marks) {p : Path} → Leads p (path_of (closing (level_of c.level)) (mode_of c) m) → Leads p (path_of (closing (level_in_of (mode_of c))) (mode_of c) m)
leads_close c m h = inside (λ (l : Level). path_of (closing l) (mode_of c) m) c h

pub leads_new : {p : Path} → p ≡ empty_path → Leads p []
leads_new e = record { whole = e }

pub leads_with : {p q : Path} {es : List PathElement} {e f : PathElement} → Leads p es → q ≡ longer p e → e ≡ f → length es ≤ 5 → Leads q (es ++ (f ∷ []))
leads_with {p} {q} {es} {e} {f} l s t h =
    record { whole = s ∙ ap (λ (x : Path). longer x e) l.whole ∙ ap (λ (x : PathElement). longer (path_from es) x) t ∙ longer-path es f (omega (arith, h)) }

pub leads_two : {p q r : Path} {es : List PathElement} {a b e f : PathElement} → Leads p es → q ≡ longer p a → a ≡ e → r ≡ longer q b → b ≡ f → length es ≤ 4 → Leads r (es ++ (e ∷ f ∷ []))
leads_two {p} {q} {r} {es} {a} {b} {e} {f} l s t u v h =
    subst (λ (x : List PathElement). Leads r x) (append_assoc es (e ∷ []) (f ∷ [])) (leads_with (leads_with l s t (omega arith)) u v (omega (arith, length-append es (e ∷ []))))

-- a path of at most five elements has room for an Attribute, and the code puts it there
pub leads-within : {p : Path} {es : List PathElement} (key : ℕ) → Leads p es → length es ≤ 5 → Leads (with_attribute p key) (path_to es key)
leads-within zero l h = l
leads-within {p} {es} (suc k) l h = leads_with {e = attribute_element (suc k)} l refl refl h
