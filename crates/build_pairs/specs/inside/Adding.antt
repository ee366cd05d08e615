-- A property or extra whose texts are stored. Definitions only.
use Rattle.std.specs.Prelude.{ℕ, ◌-◌, cond, take, drop, ltb}
use Rattle.list_values.specs.of_refusal.Refusal.{Outcome, accepted}
use Rattle.list_values.specs.of_tree_record.Words as word
use Rattle.build_kinds.specs.of_tree_put.Put.{put_pair}
use Rattle.build_kinds.specs.of_build_draft.declared.Builder.{Builder}
use Rattle.build_kinds.specs.of_build_draft.Draft.{Draft, next, on_record_of, with_words}
use Rattle.build_kinds.specs.of_build_draft.Parts.{taking, place_for}
use Rattle.build_kinds.specs.of_build_draft.Calls.{old_place, put_pair_in}

-- what the draft f becomes, which holds the key from the end of b's texts to before y and the value behind it
abbrev pub putting_kept : ℕ → Builder → ℕ → Draft → Outcome Draft
putting_kept κ b y f =
    let d : Draft = record { builder = b; words = f.words; text = f.text } in
    let i : ℕ = old_place κ (take (y - b.bytes) (drop b.bytes f.text)) f.text d in
    cond (ltb i (place_for d)) (accepted (with_words f (on_record_of i (put_pair word.value y (f.builder.bytes - y)) f.words)))
    (next (taking κ f) (λ g. accepted (put_pair_in (place_for d) b.bytes y f.builder.bytes g)))
