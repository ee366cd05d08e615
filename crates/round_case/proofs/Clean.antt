-- A text that is kept as it is: gathered from its escaped form, trimmed and filtered. Assumes nothing.
use Prim.Native.Nat.{ℕ}
use mathlib.Core.Bool.{Bool, true, false, cond, not, and-eq-true_iff}
use mathlib.Core.List.{List, [], ◌∷◌, ◌++◌}
use mathlib.Core.Option.{Option, none, some}
use mathlib.Core.Path.{◌≡◌, refl, sym, ap, ◌∙◌}
use borrow.Author.Tests.{not-true}
use Rattle.round_elements.specs.of_area.Answer.{gives, refuses}
use Rattle.round_elements.proofs.of_names.NameLaws.{same_true}
use Rattle.round_elements.specs.of_utf8.Utf8.{utf8, need, low, high}
use Rattle.round_elements.specs.of_utf8.Characters.{chars, joined}
use Rattle.round_elements.proofs.of_utf8.Splitting.{chars-append}
use Rattle.round_elements.specs.of_trim.Trim.{blank, no_start_of, no_end_of, trimmed}
use Rattle.round_elements.specs.of_reference.Reference.{refs_ok, decoded}
use Rattle.round_elements.specs.of_text_filter.Filter.{filtered, unfiltered}
use Rattle.round_elements.proofs.of_text_filter.Filtering.{filtered-same}
use Rattle.round_elements.proofs.of_text.Putting.{both_yes}
use Rattle.round_elements.specs.of_table.Event.{Text as TextPiece}
use Rattle.round_elements.specs.of_tree_report.Report.{Text}
use Rattle.round_elements.specs.of_tree_report.inside.Cells.{of_text, fits_cell, every}
use Rattle.round_elements.specs.of_write_escape.Escape.{escaped}
use Rattle.round_elements.proofs.of_write_escape.Keeping.{utf8-escaped}
use Rattle.round_elements.proofs.of_write_back.Escaped.{refs-escaped, decoded-escaped}
use Rattle.round_elements.specs.of_write_report.Written as writing
use Rattle.round_elements.specs.of_read_content.Content.{piece_of, cleaned, is_empty}
use Rattle.round_elements.specs.Plain.{listed, bare}
use Rattle.round_elements.specs.of_refusal.declared.Cause.TheVariants as cause

-- ---- white space behind a text
module _ (w : List ℕ) (white : blank w ≡ true) where
  end-blank : (cs : List (List ℕ)) → no_end_of (cs ++ (w ∷ [])) ≡ no_end_of cs
  end-blank [] = rw white refl
  end-blank (c ∷ cs) = rw (end-blank cs) refl

  ends-blank : (cs : List (List ℕ)) → no_end_of (no_start_of (cs ++ (w ∷ []))) ≡ no_end_of (no_start_of cs)
  ends-blank [] = rw white refl
  ends-blank (c ∷ cs) = go (blank c) (ends-blank cs)
    where
      go : (t : Bool) → no_end_of (no_start_of (cs ++ (w ∷ []))) ≡ no_end_of (no_start_of cs) → no_end_of (cond t (no_start_of (cs ++ (w ∷ []))) (c ∷ (cs ++ (w ∷ [])))) ≡ no_end_of (cond t (no_start_of cs) (c ∷ cs))
      go true ih = ih
      go false ih = end-blank (c ∷ cs)

newline : chars (10 ∷ []) ≡ (10 ∷ []) ∷ []
unfolding need low high
newline = refl

newline-blank : blank (10 ∷ []) ≡ true
unfolding need low high
newline-blank = refl

pub trimmed-newline : (s : List ℕ) → utf8 s ≡ true → trimmed (s ++ (10 ∷ [])) ≡ trimmed s
trimmed-newline s u =
    ap (λ (cs : List (List ℕ)). joined (no_end_of (no_start_of cs))) (chars-append s (10 ∷ []) u ∙ ap (λ (cs : List (List ℕ)). chars s ++ cs) newline)
    ∙ ap joined (ends-blank (10 ∷ []) newline-blank (chars s))

-- ---- a text as it is
pub record Clean (t : Text) : Type 0 where
  pub good : utf8 t ≡ true
  pub plain : unfiltered t ≡ true
  pub bare : trimmed t ≡ t

-- a clean text written as a Text event is gathered as itself
pub clean-piece : {t : Text} → Clean t → piece_of TextPiece (escaped t) ≡ gives t
unfolding piece_of
clean-piece {t} c =
    sym (both_yes (utf8 (escaped t)) (refs_ok (escaped t) 0) (gives (decoded (escaped t) 0)) (refuses cause.BadReference) (refuses cause.NotUtf8) (utf8-escaped t ∙ c.good) (refs-escaped t))
    ∙ ap (λ (l : List ℕ). gives l) (decoded-escaped t)

-- gathered text that differs from a clean one only in white space at its ends is stored as that one
pub clean-same : {t : Text} → Clean t → (v : List ℕ) → trimmed v ≡ trimmed t → cleaned v ≡ t
clean-same {t} c v e = ap filtered (e ∙ c.bare) ∙ filtered-same t c.plain

-- ---- a text that may be missing
abbrev pub Cleans : Option Text → Type 0
Cleans none = Unit {0}
Cleans (some t) = Clean t

-- and isn't empty
abbrev pub Describes : Option Text → Type 0
Describes none = Unit {0}
Describes (some t) = Clean t × (is_empty t ≡ false)

-- a text that may be missing is clean where it fits a cell and has no white space at its ends
pub cleans : (v : Option Text) → fits_cell (of_text v) ≡ true → every bare (listed v) ≡ true → Cleans v
cleans none f b = tt
cleans (some t) f b =
    let p = (and-eq-true_iff (utf8 t) (unfiltered t)).0 f in
    let q = (and-eq-true_iff (bare t) true).0 b in
    record { good = p.0; plain = p.1; bare = same_true (trimmed t) t q.0 }

same-empty : (t : Text) → writing.is_empty t ≡ is_empty t
same-empty [] = refl
same-empty (b ∷ t) = refl

pub describes : (v : Option Text) → fits_cell (of_text v) ≡ true → every bare (listed v) ≡ true → every (λ (t : Text). not (writing.is_empty t)) (listed v) ≡ true → Describes v
describes none f b e = tt
describes (some t) f b e = (cleans (some t) f b, sym (same-empty t) ∙ not-true (writing.is_empty t) ((and-eq-true_iff (not (writing.is_empty t)) true).0 e).0)
