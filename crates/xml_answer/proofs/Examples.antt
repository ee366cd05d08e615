-- What writing a document answers and leaves, computed. Assumes nothing.
use Prim.Native.Nat.{ℕ, min}
use mathlib.Core.Path.{◌≡◌, refl}
use mathlib.Core.List.{List, [], ◌∷◌}
use mathlib.Core.Bool.{false}
use lib.ListN.{length}
use Rattle.list_text.specs.of_refusal.declared.Cause.TheVariants as cause
use Rattle.list_text.specs.of_area.Answer.{gives, refuses}
use Rattle.list_text.specs.of_area.Area.{placing}
use Rattle.list_text.specs.of_area.Limits.{most_bytes}
use Rattle.list_text.specs.of_tree_report.Layout.{layout}
use Rattle.list_text.specs.Listing.{output_for}
use Rattle.xml_answer.specs.Answer.{document_answer}
use Rattle.xml_answer.specs.Cases.{nothing_text}

-- behind the document all is zero; at a refusal everything
behind-document : output_for (gives 2) 4 (7 ∷ 8 ∷ []) ≡ 7 ∷ 8 ∷ 0 ∷ 0 ∷ []
behind-document = refl

at-refusal : output_for (refuses cause.OutputFull) 3 (7 ∷ 8 ∷ []) ≡ 0 ∷ 0 ∷ 0 ∷ []
at-refusal = refl

-- the smallest document has 112 bytes
one-byte-short : placing cause.OutputFull (min 111 most_bytes) nothing_text ≡ refuses cause.OutputFull
one-byte-short = refl

just_enough : placing cause.OutputFull (min 112 most_bytes) nothing_text ≡ gives 112
just_enough = refl

-- exactly the limit passes, and one byte more doesn't, however long the area is
at-limit : (f : List ℕ) → length f ≡ 16777216 → placing cause.OutputFull (min 20000000 most_bytes) f ≡ gives 16777216
at-limit f h = rw h refl

over-limit : (f : List ℕ) → length f ≡ 16777217 → placing cause.OutputFull (min 20000000 most_bytes) f ≡ refuses cause.OutputFull
over-limit f h = rw h refl

-- 15 before 16, also where the area has no byte
no-layout-first : (words text : List ℕ) (n : ℕ) → layout words text ≡ false → document_answer words text n ≡ refuses cause.NotLayout
unfolding document_answer
no-layout-first words text n h = rw h refl
