-- An output of a suite: its Start, its text and its End store the text in the suite's record. Assumes nothing.
use Prim.Native.Nat.{ℕ}
use mathlib.Core.Bool.{true, cond}
use mathlib.Core.List.{List, [], ◌∷◌, ◌++◌}
use mathlib.Core.Path.{◌≡◌, refl, ap, ap₂, ◌∙◌}
use lib.ListN.{length}
use Rattle.round_rooms.specs.of_names.Bytes.{bytes}
use Rattle.round_rooms.specs.of_names.Names.{same_bytes, code_from}
use Rattle.round_rooms.specs.of_names.Tags.{tags}
use Rattle.round_rooms.specs.of_refusal.Refusal.{nowhere, Outcome, accepted}
use Rattle.round_rooms.specs.of_table.Event.{Start, End, Text, Piece}
use Rattle.round_rooms.specs.of_tree_put.Put.{put_text}
use Rattle.round_rooms.specs.of_read_element.Outcome.{◌>>=◌, Place, there, need, fits, unlimited}
use Rattle.round_rooms.specs.of_read_element.Attributes.{changed}
use Rattle.round_rooms.specs.of_read_state.Control.{suite, Output, out, err, Mode, at, gathering, open_text, close_text, gathers, turn}
use Rattle.round_rooms.specs.of_read_rules.Rules.{outputs, at_suite, in_text, plan_at}
use Rattle.round_rooms.specs.of_read_place.Marks.{marks_after, onward}
use Rattle.round_rooms.specs.of_read_path.Paths.{mode_path}
use Rattle.round_rooms.specs.of_read_content.Content.{Content, word_of, bit_of, gather, keeping, outputting, perform}
use Rattle.round_rooms.specs.of_read_machine.Machine.{Machine, step}
use Rattle.round_rooms.specs.of_write_escape.Escape.{escaped}
use Rattle.round_rooms.specs.of_write_report.Written.{start_tag, text_event, end_tag}
use Rattle.round_case.specs.of_round_elements.inside.Read.{settled, Stands}
use Rattle.round_case.proofs.Clean.{Clean, clean-piece, clean-same}
use Rattle.round_report.proofs.Leading.{Goes, goes_one, goes_then, goes_on}
use Rattle.round_report.proofs.Acting.{Held, stands-held, held-stands, tag-goes}

-- the name of an output, and what its tags do in a suite
pub record Named (o : Output) (name : List ℕ) : Type 0 where
  pub opens : plan_at (at suite) true Start name ≡ open_text suite o
  pub closes : plan_at (gathering suite o) true End name ≡ close_text suite o

pub out-named : Named out (bytes "system-out")
unfolding plan_at at_suite outputs in_text tags code_from same_bytes
out-named = record { opens = refl; closes = refl }

pub err-named : Named err (bytes "system-err")
unfolding plan_at at_suite outputs in_text tags code_from same_bytes
err-named = record { opens = refl; closes = refl }

module _ (t : List ℕ) (g : Clean t) where
  module _ (o : Output) (records : List (List ℕ)) (texts : List ℕ) where
    abbrev holding : Content
    holding = record { records = records; texts = texts; description = []; gathered = t }

    gather-same : (p : Place) → gather unlimited p (gathering suite o) Text (escaped t) (settled records texts) ≡ accepted holding
    unfolding gather there need fits ◌>>=◌
    gather-same p = rw (clean-piece g) refl

    abbrev stored : ℕ → List (List ℕ)
    stored i = changed i (put_text (word_of o) (bit_of o) (length texts) (length t)) records

    text-goes : (i : ℕ) (s : Machine) → Held (gathering suite o) i (settled records texts) s → Goes (Piece Text (escaped t) ∷ []) s (Held (gathering suite o) i holding)
    unfolding step gathers ◌>>=◌
    text-goes i s h =
        goes_one (Piece Text (escaped t)) s (record { control = s.control; content = holding; marks = onward s.marks })
        (ap (λ (q : Outcome Content). q >>= λ c. accepted (record { control = s.control; content = c; marks = onward s.marks }))
        (ap₂
        (λ (m : Mode) (c : Content). cond (gathers m) (gather unlimited (record { path = mode_path m s.marks; event = s.marks.event; attribute = nowhere }) m Text (escaped t) c) (accepted c))
        h.mode h.content
        ∙ gather-same (record { path = mode_path (gathering suite o) s.marks; event = s.marks.event; attribute = nowhere })))
        (record { mode = h.mode; seen = h.seen; closed = h.closed; content = refl; suite_at_of = h.suite_at_of })

    end_goes : (i : ℕ) (name : List ℕ) (s : Machine) → Named o name → Held (gathering suite o) i holding s → Goes (end_tag name ∷ []) s (Stands suite i (stored i) (texts ++ t))
    unfolding perform outputting keeping need fits ◌>>=◌ turn marks_after
    end_goes i name s n h =
        goes_on
        (tag-goes {n = at suite} {l = i} End name 0 [] (close_text suite o) h n.closes (rw (h.suite_at_of, clean-same g t refl) refl)
        (record { mode = refl; seen = h.seen; closed = h.closed; content = refl; suite_at_of = h.suite_at_of }))
        (held-stands suite i (stored i) (texts ++ t))

    start-goes : (i : ℕ) (name : List ℕ) (s : Machine) → Named o name → Stands suite i records texts s → Goes (start_tag name [] ∷ []) s (Held (gathering suite o) i (settled records texts))
    unfolding perform turn marks_after
    start-goes i name s n h =
        tag-goes Start name 0 [] (open_text suite o) (stands-held h) n.opens refl
        (record { mode = refl; seen = h.seen; closed = h.closed; content = refl; suite_at_of = h.suite_at_of })

    -- the whole output
    pub output-goes : (i : ℕ) (name : List ℕ) (s : Machine) → Named o name → Stands suite i records texts s
        → Goes (start_tag name [] ∷ text_event t ∷ end_tag name ∷ []) s (Stands suite i (stored i) (texts ++ t))
    output-goes i name s n h =
        goes_then (start_tag name [] ∷ []) (text_event t ∷ end_tag name ∷ []) s (start-goes i name s n h) λ u k.
        goes_then (text_event t ∷ []) (end_tag name ∷ []) u (text-goes i u k) λ v l. end_goes i name v n l
