-- Events one behind the other lead on. Assumes nothing.
use Prim.Native.Nat.{ℕ, ◌+◌}
use mathlib.Core.List.{List, [], ◌∷◌, ◌++◌, append_assoc}
use mathlib.Core.Path.{◌≡◌, refl, sym, ap, subst, ◌∙◌}
use native.Mathlib.Nat.{add-zero, add_assoc}
use lib.ListN.{length}
use Rattle.round_elements.specs.of_refusal.Refusal.{Outcome, accepted}
use Rattle.round_elements.specs.of_table.Event.{Event}
use Rattle.round_elements.specs.of_tree_status.declared.Tally.{Tally}
use Rattle.round_elements.specs.of_read_element.Outcome.{◌>>=◌, unlimited}
use Rattle.round_elements.specs.of_read_state.Control.{Mode}
use Rattle.round_elements.specs.of_read_place.Marks.{Marks}
use Rattle.round_elements.specs.of_read_content.Content.{Content}
use Rattle.round_elements.specs.of_read_machine.Machine.{Machine, step, run}
use Rattle.round_elements.specs.of_write_report.Written.{numbered_tag, attributes_of, numbered}
use Rattle.round_elements.specs.inside.Read.{Leads}
use Rattle.round_case.specs.inside.Amid.{machine, Spots, spots_of, Amid, Reads}

-- ---- one behind the other
leads-then : (xs ys : List Event) (s t u : Machine) → Leads xs s t → Leads ys t u → Leads (xs ++ ys) s u
leads-then xs ys s t u p q rest = ap (λ (es : List Event). run unlimited es s) (append_assoc xs ys rest) ∙ p (ys ++ rest) ∙ q rest

leads-step : (e : Event) (s t : Machine) → step unlimited e s ≡ accepted t → Leads (e ∷ []) s t
unfolding run ◌>>=◌
leads-step e s t p rest = ap (λ (o : Outcome Machine). o >>= λ u. run unlimited rest u) p

-- how many attributes stand in these events
abbrev attribute_count : List Event → ℕ
attribute_count [] = 0
attribute_count (e ∷ es) = length (attributes_of e) + attribute_count es

numbered-append : (n : ℕ) (xs ys : List Event) → numbered n (xs ++ ys) ≡ numbered n xs ++ numbered (n + attribute_count xs) ys
unfolding numbered
numbered-append n [] ys = ap (λ (k : ℕ). numbered k ys) (sym (add-zero n))
numbered-append n (x ∷ xs) ys =
    ap (λ (l : List Event). numbered_tag n x ∷ l)
    (numbered-append (n + length (attributes_of x)) xs ys
    ∙ ap (λ (k : ℕ). numbered (n + length (attributes_of x)) xs ++ numbered k ys) (add_assoc n (length (attributes_of x)) (attribute_count xs)))

-- ---- to a machine with P
module _ {P : Machine → Type 0} where
  pub reads_none : {n : ℕ} {s : Machine} → P s → Reads n [] s P
  unfolding numbered
  reads_none {s = s} h = record { after = s; leads = λ rest. refl; holds = h }

  pub reads-step : {n : ℕ} {s : Machine} (t : Machine) (e : Event) → step unlimited (numbered_tag n e) s ≡ accepted t → P t → Reads n (e ∷ []) s P
  unfolding numbered
  reads-step {n} {s} t e p h = record { after = t; leads = leads-step (numbered_tag n e) s t p; holds = h }

  pub reads_then : {n : ℕ} {s : Machine} {Q : Machine → Type 0} (xs ys : List Event) → Reads n xs s P → ((j : ℕ) (t : Machine) → P t → Reads j ys t Q) → Reads n (xs ++ ys) s Q
  reads_then {n} {s} xs ys p q =
      let r = q (n + attribute_count xs) p.after p.holds in
      record {
        after = r.after;
        leads = subst (λ (es : List Event). Leads es s r.after) (sym (numbered-append n xs ys))
            (leads-then (numbered n xs) (numbered (n + attribute_count xs) ys) s p.after r.after p.leads r.leads);
        holds = r.holds;
      }

  pub reads_as : {n : ℕ} {es : List Event} {s : Machine} {Q : Machine → Type 0} → Reads n es s P → ((t : Machine) → P t → Q t) → Reads n es s Q
  reads_as p f = record { after = p.after; leads = p.leads; holds = f p.after p.holds }

  -- from any marks with these spots
  pub amid-reads : {n : ℕ} {es : List Event} {mode : Mode} {tally : Tally} {c : Content} {spots : Spots} {s : Machine} → Amid mode tally c spots s
      → ((m : Marks) → spots_of m ≡ spots → Reads n es (machine mode tally c m) P) → Reads n es s P
  amid-reads {n} {es} a f = subst (λ (x : Machine). Reads n es x P) (sym a.here) (f a.marks a.same)
