use Prim.Native.Nat.{ℕ, ◌+◌, ◌-◌}
use Rattle.read_chains.proofs.Chaining.{bucket-fits, entered, never}
use Rattle.chains.specs.Chains.{bucket_of, Chained}
use Rattle.read_chains.specs.inside.Falls.{falls}
use Rattle.read_element.specs.Attributes.{among}
use Rattle.read_chains.specs.inside.Falls.{keys_in}
use mathlib.Core.List.{List}
use mathlib.Core.Path.{sym, ap, subst, ◌∙◌}
use Rattle.read_chains.proofs.enter.Goals as goal

pub returns-then-is_chained : goal.returns-then-is_chained
returns-then-is_chained c = record { j_value = λ e. absurd (never e); chained_2 = λ e. absurd (never e) }

pub link-requires : goal.link-requires
link-requires c =
    let pre = c.requires in
    let key-at = c.key_at-key in
    let bucket = c.bucket-b in
    record { b_lt_m = bucket-fits pre.chained key-at.result.now bucket.ensures; i_in_bounds = pre.first_in_bounds; i_bound = pre.first_bound }

pub returns : goal.returns
returns c =
    let start = c in
    let key-at-step = c.key_at-key in
    let bucket-step = c.bucket-b in
    let is-chained = c.is_chained in
    let if1 = c.if-is_chained in
    let s = start.args in record {
      j_value = λ e. sym (ap (λ (k : List ℕ). among k (keys_in s.attributes.now s.source.now s.first s.j)) key-at-step.ensures) ∙ is-chained.ensures if1.false;
      chained_2 = λ _. subst (λ (w : List ℕ). Chained (falls s.attributes.now s.source.now s.first s.m) (s.j + 1 - s.first) s.m w) (sym c.link.ensures)
          (entered s.attributes.now s.source.now s.first s.j s.m start.requires.first_le_j start.requires.chained
          start.requires.first_in_bounds (bucket-step.ensures ∙ ap (bucket_of s.m) key-at-step.ensures));
    }
