-- An output is read back into the record of its element. Assumes nothing.
use Prim.Native.Nat.{ℕ}
use mathlib.Core.Bool.{true}
use mathlib.Core.List.{List, [], ◌∷◌, ◌++◌, append_assoc}
use mathlib.Core.Option.{Option, none, some}
use mathlib.Core.Path.{◌≡◌, refl, subst}
use lib.ListN.{length}
use Rattle.round_elements.specs.of_names.Bytes.{bytes}
use Rattle.round_elements.specs.of_names.Names.{same_bytes, code_from}
use Rattle.round_elements.specs.of_names.Tags.{tags}
use Rattle.round_elements.specs.of_table.Event.{Start, End, Text as TextPiece}
use Rattle.round_elements.specs.of_tree_status.declared.Tally.{Tally}
use Rattle.round_elements.specs.of_tree_report.Report.{Text}
use Rattle.round_elements.specs.of_tree_put.Put.{put_text}
use Rattle.round_elements.specs.of_read_state.Control.{Level, case, status, Output, trace, out, err, at, gathering, open_text, close_text, gathers}
use Rattle.round_elements.specs.of_read_rules.Rules.{outputs, at_case, at_status, child, in_text, plan_at}
use Rattle.round_elements.specs.of_read_content.Content.{word_of, bit_of}
use Rattle.round_elements.specs.of_read_machine.Machine.{Machine}
use Rattle.round_elements.specs.of_write_escape.Escape.{escaped}
use Rattle.round_elements.specs.of_write_report.Written.{optional, start_tag, text_event, end_tag, serialize_output}
use Rattle.round_case.specs.inside.Amid.{holding, Spots, Amid, Reads, record_in, takes_in, Holder}
use Rattle.round_case.proofs.Following.{reads_none, reads_then, reads_as}
use Rattle.round_case.proofs.Clean.{Clean, Cleans, clean-piece, clean-same}
use Rattle.round_case.proofs.Steps.{piece-reads, text-opens, text-closes}

-- ---- the names of outputs
pub record Named (l : Level) (u : Output) (name : List ℕ) : Type 0 where
  pub begins : plan_at (at l) true Start name ≡ open_text l u
  pub ends : plan_at (gathering l u) true End name ≡ close_text l u

pub case-out : Named case out (bytes "system-out")
unfolding plan_at at_case outputs in_text tags code_from same_bytes
case-out = record { begins = refl; ends = refl }

pub case-err : Named case err (bytes "system-err")
unfolding plan_at at_case outputs in_text tags code_from same_bytes
case-err = record { begins = refl; ends = refl }

pub run-trace : Named status trace (bytes "stackTrace")
unfolding plan_at at_status child outputs in_text tags code_from same_bytes
run-trace = record { begins = refl; ends = refl }

pub run_out : Named status out (bytes "system-out")
unfolding plan_at at_status child outputs in_text tags code_from same_bytes
run_out = record { begins = refl; ends = refl }

pub run-err : Named status err (bytes "system-err")
unfolding plan_at at_status child outputs in_text tags code_from same_bytes
run-err = record { begins = refl; ends = refl }

-- ---- one output, of the element whose record stands between xs and ys
module _ {l : Level} {u : Output} {name : List ℕ} (named : Named l u name) (xs ys : List (List ℕ)) {spots : Spots} (there : record_in l spots ≡ length xs) (taken : takes_in l spots ≡ true) where
  output-reads : {n : ℕ} {tally : Tally} {s : Machine} {texts d : List ℕ} (r : List ℕ) {t : Text} → Clean t → Amid (at l) tally (holding (xs ++ (r ∷ ys)) texts d []) spots s
      → Reads n (serialize_output name t) s (Amid (at l) tally (holding (xs ++ (put_text (word_of u) (bit_of u) (length texts) (length t) r ∷ ys)) (texts ++ t) d []) spots)
  unfolding serialize_output gathers
  output-reads r {t} c a =
      reads_then (start_tag name [] ∷ []) (text_event t ∷ end_tag name ∷ []) (text-opens l u name named.begins a) (λ j s₁ a₁.
      reads_then (text_event t ∷ []) (end_tag name ∷ []) (piece-reads TextPiece (escaped t) t refl (clean-piece c) a₁) (λ j s₂ a₂.
      text-closes xs r ys t l u name (clean-same c t refl) named.ends there taken a₂))

  -- one that may be missing; what the record shows is by the output's text
  module _ (Shown : Option Text → List ℕ → List ℕ → Type 0)
      (put : (t : Text) (texts r : List ℕ) → Shown none texts r → Shown (some t) (texts ++ t) (put_text (word_of u) (bit_of u) (length texts) (length t) r)) where
    pub output-held : {n : ℕ} {tally : Tally} {s : Machine} {base d : List ℕ} (v : Option Text) → Cleans v → Holder l tally base xs ys d spots (Shown none) s
        → Reads n (optional (serialize_output name) v) s (Holder l tally base xs ys d spots (Shown v))
    output-held none c h = reads_none h
    output-held {tally = tally} {base = base} {d = d} (some t) c h =
        let r : List ℕ = h.row in
        let texts : List ℕ = base ++ h.added in
        let r' : List ℕ = put_text (word_of u) (bit_of u) (length texts) (length t) r in
        let e : texts ++ t ≡ base ++ (h.added ++ t) = append_assoc base h.added t in
        reads_as (output-reads r c h.amid) (λ s' a. record {
          row = r';
          added = h.added ++ t;
          shown = subst (λ (x : List ℕ). Shown (some t) x r') e (put t texts r h.shown);
          amid = subst (λ (x : List ℕ). Amid (at l) tally (holding (xs ++ (r' ∷ ys)) x d []) spots s') e a;
        })
