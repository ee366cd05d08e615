-- Two answers of reading are not the same where their reports have different records. Assumes nothing.
use Prim.Native.Nat.{ℕ}
use mathlib.Core.Bool.{false, false≢true}
use mathlib.Core.List.{List, []}
use mathlib.Core.Option.{Option, none, some}
use mathlib.Core.Path.{◌≡◌, sym, ap, ◌∙◌}
use Rattle.public_cases.specs.of_utf8.Characters.{joined}
use Rattle.public_cases.specs.of_names.Names.{same_bytes}
use Rattle.public_cases.proofs.of_names.NameLaws.{same_refl}
use Rattle.public_cases.specs.of_refusal.Refusal.{Outcome, accepted, refused}
use Rattle.public_cases.specs.of_tree_report.Report.{Report}
use Rattle.public_cases.specs.of_tree_report.Encode.{encode}

-- the words of the report, if there is one
abbrev pub words : Outcome (Option Report) → List ℕ
words (accepted (some r)) = joined (encode r).records
words (accepted none) = []
words (refused x) = []

pub apart : {a b : Outcome (Option Report)} → same_bytes (words a) (words b) ≡ false → a ≡ b → ⊥
apart {a} {b} d e = false≢true (sym d ∙ (ap (λ (x : Outcome (Option Report)). same_bytes (words x) (words b)) e ∙ same_refl (words b)))
