-- Two trees as one, whole: what is claimed of the call. The claims are types; proofs/Merging.antt has a proof of each. Definitions only.
--
-- Whoever wants to be sure that this is what the rules ask for reads these definitions, with docs/RULES.md beside them:
--   merged_report (crate tree_merge: Merged)                   the report that two come to
--   merged, records_left, text_left (crate tree_merge: Answer)  what the call answers and leaves in its areas: its promise
--   layout, report_of (crate tree_report: Layout, ReportOf)    whether two areas are a tree, and the report that it holds
--   listed, output_of, render (crate list_text: Listing)       what listing a tree answers and leaves; the text of a report's listing
--   CountsPast, TimePast, RecordsShort, BytesShort (Needs)    what stands against merging, in numbers of the two trees
--
-- Of the areas that are lent only the lengths count.
use Rattle.std.specs.Prelude.{ℕ, ◌-◌, ◌≡◌, List, ◌++◌, true, false, ◌⊎◌, ◌↔◌, length}
use Rattle.std.proofs.Math.Option.{some}
use Rattle.tree_merge.specs.of_area.Area.{zeros}
use Rattle.tree_merge.specs.of_refusal.Refusal.{Refused, Outcome, accepted, refused, late}
use Rattle.tree_merge.specs.of_refusal.declared.Cause.{Cause}
use Rattle.tree_merge.specs.of_refusal.declared.Cause.TheVariants as cause
use Rattle.tree_merge.specs.of_tree_report.Fields.{live}
use Rattle.tree_merge.specs.of_tree_report.Layout.{layout, records_of}
use Rattle.tree_merge.specs.of_tree_report.Report.{Report}
use Rattle.tree_merge.specs.of_tree_report.ReportOf.{only, report_of}
use Rattle.merge_listing.specs.of_list_text.Listing.{render, listed, output_of}
use Rattle.tree_merge.specs.Merged.{merged_report}
use Rattle.tree_merge.specs.Answer.{merged, records_left, text_left}
use Rattle.merge_claims.specs.Needs.{CountsPast, TimePast, RecordsShort, BytesShort}

-- ---- what the claims speak of
pub record Tree : Type 0 where
  pub words : List ℕ
  pub text : List ℕ

-- the lengths of the two result areas
pub record Room : Type 0 where
  pub words : ℕ
  pub bytes : ℕ

abbrev pub answer_of : Tree → Tree → Room → Outcome (Unit {0})
answer_of a b n = merged a.words a.text b.words b.text n.words n.bytes

-- the two areas afterwards
abbrev pub left : Tree → Tree → Room → Tree
left a b n =
    record {
      words = records_left a.words a.text b.words b.text n.words n.bytes;
      text = text_left a.words a.text b.words b.text n.words n.bytes;
    }

abbrev pub zeroed : Room → Tree
zeroed n = record { words = zeros n.words; text = zeros n.bytes }

-- rule M8
abbrev pub IsTree : Tree → Type 0
IsTree a = layout a.words a.text ≡ true

abbrev pub Holds : Tree → Report → Type 0
Holds a r = report_of a.words a.text ≡ some r

-- two trees and the reports that they hold
pub record Both (a b : Tree) (p q : Report) : Type 0 where
  pub first : IsTree a
  pub second : IsTree b
  pub first_report : Holds a p
  pub second_report : Holds b q

-- listed with room enough, a tree gives these bytes, and zeros behind them (rules L11 and L12)
pub record Listed (a : Tree) (bytes : List ℕ) : Type 0 where
  pub output : ℕ
  pub answer : listed a.words a.text output ≡ accepted (length bytes)
  pub area : output_of a.words a.text output ≡ bytes ++ zeros (output - length bytes)

-- 22
abbrev pub time_limit : Cause
time_limit = cause.TimeLimit

-- ---- the claims
pub record Merging : Type 0 where
  -- A. What is left is a tree, whose records are all live.
  pub is_tree : (a b : Tree) (n : Room) → answer_of a b n ≡ accepted tt → IsTree (left a b n)
  pub none_dead : (a b : Tree) (n : Room) → answer_of a b n ≡ accepted tt → only live (records_of (left a b n).words) ≡ records_of (left a b n).words
  -- B. It holds the merged report of the reports that the two hold; each holds one.
  pub holds : (a b : Tree) (n : Room) (p q : Report) → answer_of a b n ≡ accepted tt → Holds a p → Holds b q → Holds (left a b n) (merged_report p q)
  pub a_report : (a : Tree) → IsTree a → (p : Report) × Holds a p
  -- C. 15 comes exactly where one of the two is no tree.
  pub fifteen : (a b : Tree) (n : Room) → (answer_of a b n ≡ refused (late cause.NotLayout)) ↔ ((layout a.words a.text ≡ false) ⊎ (layout b.words b.text ≡ false))
  -- C. 17 comes exactly where both are, and a sum of counts passes the limit;
  pub seventeen : (a b : Tree) (n : Room) (p q : Report) → Both a b p q → (answer_of a b n ≡ refused (late cause.CountLimit)) ↔ CountsPast p q
  -- C. 22 where none does, and the times together reach 8,388,608 seconds;
  pub twenty_two : (a b : Tree) (n : Room) (p q : Report) → Both a b p q
      → (answer_of a b n ≡ refused (late time_limit)) ↔ ((¬ CountsPast p q) × TimePast p q)
  -- C. 12 where they don't, and the records don't fit;
  pub twelve : (a b : Tree) (n : Room) (p q : Report) → Both a b p q
      → (answer_of a b n ≡ refused (late cause.RecordsSpent)) ↔ ((¬ CountsPast p q) × (¬ TimePast p q) × RecordsShort a.words b.words n.words)
  -- C. 13 where they do, and the texts don't.
  pub thirteen : (a b : Tree) (n : Room) (p q : Report) → Both a b p q
      → (answer_of a b n ≡ refused (late cause.TextFull))
      ↔ ((¬ CountsPast p q) × (¬ TimePast p q) × (¬ RecordsShort a.words b.words n.words) × BytesShort p a.words b.words n.bytes)
  -- C. Otherwise the two are merged.
  pub merges : (a b : Tree) (n : Room) (p q : Report) → Both a b p q
      → (answer_of a b n ≡ accepted tt)
      ↔ ((¬ CountsPast p q) × (¬ TimePast p q) × (¬ RecordsShort a.words b.words n.words) × (¬ BytesShort p a.words b.words n.bytes))
  -- C. There is no other refusal, and each leaves both areas zero.
  pub refuses_only : (a b : Tree) (n : Room) (why : Refused) → answer_of a b n ≡ refused why
      → ((why ≡ late cause.NotLayout) ⊎ ((why ≡ late cause.CountLimit) ⊎ ((why ≡ late time_limit) ⊎ ((why ≡ late cause.RecordsSpent) ⊎ (why ≡ late cause.TextFull)))))
      × (left a b n ≡ zeroed n)
  -- D. Where both merges succeed, in areas of any lengths, two pairs of trees with equal listings give merged trees with equal listings (rule J11);
  pub same_listing : (a b c d : Tree) (n m : Room) (x y v w : List ℕ) → Listed a x → Listed c x → Listed b y → Listed d y
      → answer_of a b n ≡ accepted tt → answer_of c d m ≡ accepted tt → Listed (left a b n) v → Listed (left c d m) w → v ≡ w
  -- D. a tree has one listing, that of its report.
  pub own_listing : (a : Tree) (p : Report) → IsTree a → Holds a p → Listed a (render p)
  pub one_listing : (a : Tree) (x y : List ℕ) → Listed a x → Listed a y → x ≡ y
