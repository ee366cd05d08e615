-- Events read one behind another, and the number of a tag's first attribute. Assumes nothing.
use Prim.Native.Nat.{ℕ, ◌+◌}
use mathlib.Core.List.{List, [], ◌∷◌, ◌++◌, append_assoc}
use mathlib.Core.Path.{◌≡◌, refl, ap, ◌∙◌}
use lib.ListN.{length}
use Rattle.round_rooms.specs.of_refusal.Refusal.{Outcome, accepted}
use Rattle.round_rooms.specs.of_table.Event.{Event}
use Rattle.round_rooms.specs.of_read_element.Outcome.{◌>>=◌, unlimited}
use Rattle.round_rooms.specs.of_read_machine.Machine.{Machine, step, run}
use Rattle.round_rooms.specs.of_write_report.Written.{numbered_tag, attributes_of, numbered}
use Rattle.round_case.specs.of_round_elements.inside.Read.{Leads}

pub leads-none : (s : Machine) → Leads [] s s
leads-none s rest = refl

pub leads_one : (e : Event) (s t : Machine) → step unlimited e s ≡ accepted t → Leads (e ∷ []) s t
unfolding run ◌>>=◌
leads_one e s t h rest = ap (λ (o : Outcome Machine). o >>= λ u. run unlimited rest u) h

pub leads-then : (xs ys : List Event) (s t u : Machine) → Leads xs s t → Leads ys t u → Leads (xs ++ ys) s u
leads-then xs ys s t u p q rest = ap (λ (l : List Event). run unlimited l s) (append_assoc xs ys rest) ∙ p (ys ++ rest) ∙ q rest

-- ---- reading these events leads to a machine of which P holds
pub record Goes (es : List Event) (s : Machine) (P : Machine → Type 0) : Type 0 where
  pub after : Machine
  pub leads : Leads es s after
  pub holds : P after

pub goes_none : {P : Machine → Type 0} (s : Machine) → P s → Goes [] s P
goes_none s p = record { after = s; leads = leads-none s; holds = p }

pub goes_one : {P : Machine → Type 0} (e : Event) (s t : Machine) → step unlimited e s ≡ accepted t → P t → Goes (e ∷ []) s P
goes_one e s t h p = record { after = t; leads = leads_one e s t h; holds = p }

pub goes_then : {P Q : Machine → Type 0} (xs ys : List Event) (s : Machine) → Goes xs s P → ((t : Machine) → P t → Goes ys t Q) → Goes (xs ++ ys) s Q
goes_then xs ys s a k =
    let b = k a.after a.holds in
    record { after = b.after; leads = leads-then xs ys s a.after b.after a.leads b.leads; holds = b.holds }

pub goes_on : {P Q : Machine → Type 0} {es : List Event} {s : Machine} → Goes es s P → ((t : Machine) → P t → Q t) → Goes es s Q
goes_on a f = record { after = a.after; leads = a.leads; holds = f a.after a.holds }

-- ---- numbers
-- the number behind these events
abbrev pub behind : ℕ → List Event → ℕ
behind n [] = n
behind n (e ∷ es) = behind (n + length (attributes_of e)) es

pub numbered-append : (n : ℕ) (xs ys : List Event) → numbered n (xs ++ ys) ≡ numbered n xs ++ numbered (behind n xs) ys
unfolding numbered
numbered-append n [] ys = refl
numbered-append n (x ∷ xs) ys = ap (λ (l : List Event). numbered_tag n x ∷ l) (numbered-append (n + length (attributes_of x)) xs ys)
