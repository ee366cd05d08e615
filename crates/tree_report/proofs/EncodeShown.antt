-- Records that show rows, one beside each: kind, presence bits and fields. Assumes nothing.
use Prim.Native.Nat.{ℕ}
use mathlib.Core.Bool.{Bool, true, false, not}
use mathlib.Core.List.{List}
use mathlib.Core.Path.{◌≡◌, ap, ◌∙◌}
use lib.ListN.{get_or}
use Rattle.schema.specs.Records.{flags_of, marks_from}
use Rattle.schema.specs.Texts.{fields_of}
use Rattle.tree_report.specs.Encode.{Row, every}
use Rattle.tree_report.specs.Fields.{kind_of}
use Rattle.tree_report.specs.Report.{Text}
use Rattle.tree_report.proofs.EncodeLists.{Each, Beside, beside-on, each-beside, Kinds, missed-one}

-- a row's kind and presence bits, wherever its texts stand
pub record Headed (row : Row) (w : List ℕ) : Type 0 where
  pub kind : kind_of w ≡ row.kind
  pub bits : get_or w 1 0 ≡ flags_of (marks_from Text 0 row.table row.fields)

-- and its fields, with these texts
pub record Shown (text : List ℕ) (row : Row) (w : List ℕ) : Type 0 where
  pub head : Headed row w
  pub fields : fields_of row.table text w ≡ row.fields

abbrev pub Heads : List Row → List (List ℕ) → Type 0
Heads rows rs = Beside Headed rows rs

abbrev pub Shows : List ℕ → List Row → List (List ℕ) → Type 0
Shows text rows rs = Beside (Shown text) rows rs

pub heads : {text : List ℕ} {rows : List Row} {rs : List (List ℕ)} → Shows text rows rs → Heads rows rs
heads h = beside-on (λ row w s. s.head) h

-- a test of the rows' kinds is one of the records
pub kinds-shown : (q : ℕ → Bool) (t : Bool) {rows : List Row} {rs : List (List ℕ)} → Each (λ row. q row.kind ≡ t) rows → Heads rows rs → Each (λ r. q (kind_of r) ≡ t) rs
kinds-shown q t e h = each-beside (λ row w k s. ap q s.kind ∙ k) e h

-- a test that fails at all their kinds
pub missed : (q : ℕ → Bool) (ks : List ℕ) → every (λ j. not (q j)) ks ≡ true → {rows : List Row} {rs : List (List ℕ)} → Kinds ks rows → Heads rows rs → Each (λ r. q (kind_of r) ≡ false) rs
missed q ks e k h = each-beside (λ row w y s. ap q s.kind ∙ missed-one q ks row.kind e y) k h
