use Rattle.write_values.proofs.Naming.{key-texts, key-text-starts, key-text-cut}
use Rattle.write_bytes.proofs.of_list_text.Putting.{other}
use Rattle.write_codes.specs.of_write_items.inside.Values.{cut_at}
use mathlib.Core.Path.{ap, ◌∙◌}
use Prim.Native.Nat.{ℕ}
use Rattle.write_values.proofs.put_key_text.Goals as goal

pub returns : goal.returns
returns c =
    let args = c.args in
    other c.put_named.ensures (ap (λ (n : ℕ). cut_at key-texts key-text-starts n) c.known.ensures ∙ key-text-cut args.code)
