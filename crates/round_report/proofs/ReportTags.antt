-- The events of a report around its suites, one by one. Assumes nothing.
use Prim.Native.Nat.{ℕ}
use mathlib.Core.Bool.{true, false, cond}
use mathlib.Core.List.{List, [], ◌∷◌}
use mathlib.Core.Path.{◌≡◌, refl, ap, ap₂, ◌∙◌}
use Rattle.round_rooms.specs.of_names.Bytes.{bytes}
use Rattle.round_rooms.specs.of_names.Names.{same_bytes, code_from}
use Rattle.round_rooms.specs.of_names.Tags.{tags}
use Rattle.round_rooms.specs.of_refusal.Refusal.{nowhere, Outcome, accepted}
use Rattle.round_rooms.specs.of_table.Event.{Attribute, Start, End, Indent, Tag, Eof}
use Rattle.round_rooms.specs.of_tree_record.Kinds as kind
use Rattle.round_rooms.specs.of_tree_report.Report.{Pair}
use Rattle.round_rooms.specs.of_read_element.Outcome.{◌>>=◌, unlimited}
use Rattle.round_rooms.specs.of_read_element.Attributes.{read_element}
use Rattle.round_rooms.specs.of_read_state.Control.{top, Mode, at, finished, pass, open_report, stop, gathers, turn}
use Rattle.round_rooms.specs.of_read_rules.Rules.{at_top, plan_at, plan_eof}
use Rattle.round_rooms.specs.of_read_place.Marks.{marks_after, onward}
use Rattle.round_rooms.specs.of_read_path.Paths.{mode_path}
use Rattle.round_rooms.specs.of_read_content.Content.{Content, gather, perform}
use Rattle.round_rooms.specs.of_read_machine.Machine.{Machine, act, step, begin}
use Rattle.round_rooms.specs.of_write_report.Written.{declaration, indent, end_tag}
use Rattle.round_case.specs.of_round_elements.inside.Opened.{Opened}
use Rattle.round_case.specs.of_round_elements.inside.Read.{settled, Stands}
use Rattle.round_report.proofs.Leading.{Goes, goes_one, goes_then}
use Rattle.round_report.proofs.Acting.{Held, stands-held, behind_act, place_of, tag-step, tag-goes, adds}

-- ---- plans
start-report : plan_at (at top) false Start (bytes "testsuites") ≡ open_report false
unfolding plan_at at_top tags code_from same_bytes
start-report = refl

end-report : plan_at (at top) true End (bytes "testsuites") ≡ stop
unfolding plan_at at_top tags code_from same_bytes
end-report = refl

-- ---- before the suites
-- behind the declaration
abbrev pub declared : Machine
declared = record { control = begin.control; content = begin.content; marks = onward begin.marks }

pub declaration-goes : step unlimited declaration begin ≡ accepted declared
unfolding step declaration gathers ◌>>=◌
declaration-goes = refl

pub report-starts : {Shown : List ℕ → List ℕ → Type 0} {extra : List Pair} (j : ℕ) (xs : List Attribute)
    → (o : Opened kind.report Shown extra [] [] (read_element unlimited (place_of (open_report false) declared) kind.report j xs [] []))
    → Goes (Tag Start (bytes "testsuites") j xs ∷ []) declared (Stands top 0 (o.main ∷ o.extras) o.added)
unfolding perform turn marks_after
report-starts j xs o =
    let c = settled (o.main ∷ o.extras) o.added in
    goes_one (Tag Start (bytes "testsuites") j xs) declared (behind_act (open_report false) c declared)
    (tag-step Start (bytes "testsuites") j xs (open_report false) (at top) false (settled [] []) c declared refl refl refl start-report
    (adds (place_of (open_report false) declared) kind.report j xs [] [] (o.main ∷ o.extras) o.added o.answer))
    (record { mode = refl; seen = refl; closed = refl; content = refl; suite_at_of = refl })

-- ---- behind them
pub report-ends : (i : ℕ) (records : List (List ℕ)) (texts : List ℕ) (s : Machine) → Stands top i records texts s → Goes (end_tag (bytes "testsuites") ∷ []) s (Held finished i (settled records texts))
unfolding perform turn marks_after
report-ends i records texts s h =
    tag-goes End (bytes "testsuites") 0 [] stop (stands-held h) end-report refl (record { mode = refl; seen = h.seen; closed = h.closed; content = refl; suite_at_of = h.suite_at_of })

module _ (i : ℕ) (c : Content) (s : Machine) (h : Held finished i c s) where
  pub eof-step : step unlimited Eof s ≡ accepted (behind_act (pass finished) c s)
  unfolding step act perform plan_eof ◌>>=◌
  eof-step =
      ap (λ (m : Mode). act unlimited (plan_eof m s.control.seen s.control.closed) 0 [] s) h.mode
      ∙ ap (λ (d : Content). accepted (behind_act (pass finished) d s)) h.content

  pub eof-held : Held finished i c (behind_act (pass finished) c s)
  unfolding turn marks_after
  eof-held = record { mode = refl; seen = h.seen; closed = h.closed; content = refl; suite_at_of = h.suite_at_of }

  indent-goes : Goes (indent ∷ []) s (Held finished i c)
  unfolding step gathers ◌>>=◌
  indent-goes =
      goes_one indent s (record { control = s.control; content = c; marks = onward s.marks })
      (ap (λ (q : Outcome Content). q >>= λ d. accepted (record { control = s.control; content = d; marks = onward s.marks }))
      (ap₂
      (λ (m : Mode) (d : Content). cond (gathers m) (gather unlimited (record { path = mode_path m s.marks; event = s.marks.event; attribute = nowhere }) m Indent (10 ∷ []) d) (accepted d))
      h.mode h.content))
      (record { mode = h.mode; seen = h.seen; closed = h.closed; content = refl; suite_at_of = h.suite_at_of })

pub tail-goes : (i : ℕ) (c : Content) (s : Machine) → Held finished i c s → Goes (Eof ∷ indent ∷ []) s (Held finished i c)
tail-goes i c s h = goes_then (Eof ∷ []) (indent ∷ []) s (goes_one Eof s (behind_act (pass finished) c s) (eof-step i c s h) (eof-held i c s h)) (indent-goes i c)
