-- A main status element is read back. Assumes nothing.
use Prim.Native.Nat.{ℕ}
use mathlib.Core.Bool.{true, false}
use mathlib.Core.List.{List, [], ◌∷◌, ◌++◌}
use mathlib.Core.Option.{Option, none, some}
use mathlib.Core.Path.{◌≡◌, refl}
use lib.ListN.{length}
use Rattle.round_elements.specs.of_area.Answer.{gives}
use Rattle.round_elements.specs.of_names.Bytes.{bytes}
use Rattle.round_elements.specs.of_names.Names.{same_bytes, code_from}
use Rattle.round_elements.specs.of_names.Tags.{tags}
use Rattle.round_elements.specs.of_table.Event.{Start, Empty, End, PieceKind, Text as TextPiece, Piece}
use Rattle.round_elements.specs.of_tree_status.declared.Tally.{Tally}
use Rattle.round_elements.specs.of_tree_status.Status.{tallied}
use Rattle.round_elements.specs.of_tree_report.Report.{Text, NonSuccessKind, failure, error, Reason}
use Rattle.round_elements.specs.of_tree_report.inside.Cells.{of_text, fits_cell, kind_of_main}
use Rattle.round_elements.specs.of_read_state.Control.{Level, case, status, at, open_status, close_status, gathers}
use Rattle.round_elements.specs.of_read_rules.Rules.{at_case, at_status, plan_at}
use Rattle.round_elements.specs.of_read_content.Content.{piece_of}
use Rattle.round_elements.specs.of_read_machine.Machine.{Machine}
use Rattle.round_elements.specs.of_write_escape.Escape.{escaped}
use Rattle.round_elements.specs.of_write_report.Written.{start_tag, text_event, end_tag, status_attributes, described, main_name, serialize_status}
use Rattle.round_elements.specs.inside.Held.{MainHeld}
use Rattle.round_elements.proofs.Elements.{IsMain, is_failure, is_error, is_skipped, main-opened}
use Rattle.round_elements.proofs.Gathered.{main-begun, main-description}
use Rattle.round_case.specs.inside.Amid.{holding, Spots, in_status, Amid, Reads, Holder}
use Rattle.round_case.proofs.Following.{reads_then, reads_as}
use Rattle.round_case.proofs.Clean.{Describes, clean-piece}
use Rattle.round_case.proofs.Steps.{piece-reads}
use Rattle.round_case.proofs.Opening.{status-opens}
use Rattle.round_case.proofs.Closing.{status-closes}

-- ---- inside an element
module _ {l : Level} {tally : Tally} {base d : List ℕ} {xs ys : List (List ℕ)} {spots : Spots} {Shown : List ℕ → List ℕ → Type 0} {s : Machine} (h : Holder l tally base xs ys d spots Shown s) where
  pub holder_as : {Shown' : List ℕ → List ℕ → Type 0} → ((t r : List ℕ) → Shown t r → Shown' t r) → Holder l tally base xs ys d spots Shown' s
  holder_as f = record { row = h.row; added = h.added; shown = f (base ++ h.added) h.row h.shown; amid = h.amid }

  -- a piece of its description
  pub piece-held : {n : ℕ} (k : PieceKind) (b v : List ℕ) → gathers (at l) ≡ true → piece_of k b ≡ gives v → Reads n (Piece k b ∷ []) s (Holder l tally base xs ys (d ++ v) spots Shown)
  piece-held k b v g e = reads_as (piece-reads k b v g e h.amid) (λ t a. record { row = h.row; added = h.added; shown = h.shown; amid = a })

-- ---- the names of mains
pub record MainNamed (κ : ℕ) (name : List ℕ) : Type 0 where
  pub is_main : IsMain κ
  pub begins : plan_at (at case) true Start name ≡ open_status κ false
  pub stands : plan_at (at case) true Empty name ≡ open_status κ true
  pub ends : plan_at (at status) true End name ≡ close_status

pub main-named : (k : NonSuccessKind) → MainNamed (kind_of_main k) (main_name k)
unfolding plan_at at_case at_status tags code_from same_bytes
main-named failure = record { is_main = is_failure; begins = refl; stands = refl; ends = refl }
main-named error = record { is_main = is_error; begins = refl; stands = refl; ends = refl }

pub skipped-named : MainNamed 8 (bytes "skipped")
unfolding plan_at at_case at_status tags code_from same_bytes
skipped-named = record { is_main = is_skipped; begins = refl; stands = refl; ends = refl }

-- ---- one main
module _ {κ : ℕ} {name : List ℕ} (named : MainNamed κ name) (m : Reason) (message : fits_cell (of_text m.message) ≡ true) (type : fits_cell (of_text m.type) ≡ true)
    {tally : Tally} {records : List (List ℕ)} {texts : List ℕ} {spots : Spots} where
  by-description : {n : ℕ} {s : Machine} (v : Option Text) → Describes v → Amid (at case) tally (holding records texts [] []) spots s
      → Reads n (described name (status_attributes m.message m.type) v) s (Holder case (tallied tally κ) texts records [] [] (in_status spots (length records) κ) (MainHeld κ m v))
  unfolding gathers
  by-description none c a =
      reads_as (status-opens Empty true name κ (status_attributes m.message m.type) named.stands (λ p j. main-opened p j records texts κ named.is_main m message type) a)
      (λ t h. holder_as h (λ x r y. main-begun y))
  by-description (some d) c a =
      reads_then (start_tag name (status_attributes m.message m.type) ∷ []) (text_event d ∷ end_tag name ∷ [])
      (status-opens Start false name κ (status_attributes m.message m.type) named.begins (λ p j. main-opened p j records texts κ named.is_main m message type) a) (λ j t h.
      reads_then (text_event d ∷ []) (end_tag name ∷ []) (piece-held (holder_as h (λ x r y. main-begun y)) TextPiece (escaped d) d refl (clean-piece c.0)) (λ j t h.
      status-closes (MainHeld κ m) (λ x t r y. main-description t r x y) name (some d) c refl named.ends refl h))

  pub main-reads : {n : ℕ} {s : Machine} → Describes m.description → Amid (at case) tally (holding records texts [] []) spots s
      → Reads n (serialize_status name m) s (Holder case (tallied tally κ) texts records [] [] (in_status spots (length records) κ) (MainHeld κ m m.description))
  unfolding serialize_status
  main-reads c a = by-description m.description c a
