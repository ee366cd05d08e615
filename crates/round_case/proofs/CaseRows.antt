-- A case, from its records. Assumes nothing.
use Prim.Native.Nat.{ℕ, ◌≤◌}
use mathlib.Core.Bool.{Bool, true, false, ◌&&◌, and-eq-true_iff}
use mathlib.Core.List.{List, ◌∷◌, ◌++◌, map}
use mathlib.Core.Path.{◌≡◌, refl, ap, ap₂, ◌∙◌}
use native.Mathlib.Omega.{arith}
use borrow.Author.Tests.{leb-true, ne_eqb}
use lib.Dec.{leb, eqb}
use Rattle.round_elements.specs.of_tree_record.Kinds as kind
use Rattle.round_elements.specs.of_tree_report.Report.{Pair, TestCaseStatus, TestCase}
use Rattle.round_elements.specs.of_tree_report.Fields.{kind_of, is_main, is_run, is_case_property, is_case_extra}
use Rattle.round_elements.specs.of_tree_report.ReportOf.{only, pair_of, pairs_of_it, status_of}
use Rattle.round_elements.proofs.of_tree_report.EncodeLists.{Each, done, more as others, each_append, each_on, every-each, only-front, only-behind}
use Rattle.round_elements.specs.inside.Opened.{PairsShown, none, more}
use Rattle.round_elements.specs.inside.Read.{BelowCase, none as no_row, more as one_row, extra as one_extra, CaseRecords}
use Rattle.round_elements.specs.inside.Held.{CaseHeld}
use Rattle.round_case.specs.inside.Kept.{StatusWhole}

-- ---- pairs
module _ {κ : ℕ} {texts : List ℕ} where
  -- records that show pairs are of the pairs' kind
  pub pairs-kind : {rs : List (List ℕ)} {ps : List Pair} → PairsShown κ texts rs ps → Each (λ r. kind_of r ≡ κ) rs
  pairs-kind none = done
  pairs-kind (more h hs) = others h.blank.kind (pairs-kind hs)

  pairs-test : (q : ℕ → Bool) (t : Bool) → q κ ≡ t → {rs : List (List ℕ)} {ps : List Pair} → PairsShown κ texts rs ps → Each (λ r. q (kind_of r) ≡ t) rs
  pairs-test q t e h = each_on (λ r k. ap q k ∙ e) (pairs-kind h)

  -- the pairs read off these records are the pairs, whatever texts are behind
  pub pairs-back : (z : List ℕ) {rs : List (List ℕ)} {ps : List Pair} → PairsShown κ texts rs ps → map (pair_of (texts ++ z)) rs ≡ ps
  pairs-back z none = refl
  pairs-back z (more h hs) = ap₂ ◌∷◌ (h.pair z) (pairs-back z hs)

-- ---- the whole
status-test : {st : TestCaseStatus} {texts : List ℕ} {rs : List (List ℕ)} (q : ℕ → Bool) → ((k : ℕ) → 6 ≤ k → k ≤ 12 → q k ≡ false) → StatusWhole st texts rs → Each (λ r. q (kind_of r) ≡ false) rs
status-test {rs = rs} q f h =
    each_on (λ r e. let p = (and-eq-true_iff (leb 6 (kind_of r)) (leb (kind_of r) 12)).0 e in f (kind_of r) (leb-true 6 (kind_of r) p.0) (leb-true (kind_of r) 12 p.1))
    (every-each (λ r. leb 6 (kind_of r) && leb (kind_of r) 12) rs h.kinds)

abbrev Under : List ℕ → Type 0
Under r = (kind.case_property ≤ kind_of r) × (kind_of r ≤ kind.rerun_error)

below_rows : {rs : List (List ℕ)} → Each Under rs → BelowCase rs
below_rows done = no_row
below_rows (others h hs) = one_row h (below_rows hs)

below-extras : {rs qs : List (List ℕ)} → Each (λ r. kind_of r ≡ kind.case_extra) rs → BelowCase qs → BelowCase (rs ++ qs)
below-extras done b = b
below-extras (others h hs) b = one_extra h (below-extras hs b)

module _ {c : TestCase} {texts head : List ℕ} {extras properties rows : List (List ℕ)}
    (h : CaseHeld c c.system_out c.system_err texts head) (x : PairsShown kind.case_extra texts extras c.extra)
    (p : PairsShown kind.case_property texts properties c.properties) (s : StatusWhole c.status texts rows) where
  abbrev below : List (List ℕ)
  below = extras ++ (properties ++ rows)

  others_below : BelowCase below
  others_below =
      below-extras (pairs-kind x)
      (below_rows (each_append (each_on (λ r e. omega arith) (pairs-kind p))
      (each_on (λ r e. let k = (and-eq-true_iff (leb 6 (kind_of r)) (leb (kind_of r) 12)).0 e in (omega (arith, leb-true 6 (kind_of r) k.0), leb-true (kind_of r) 12 k.1))
      (every-each (λ r. leb 6 (kind_of r) && leb (kind_of r) 12) rows s.kinds))))

  -- the records of one sort
  only-extras : only is_case_extra below ≡ extras
  only-extras =
      only-front is_case_extra (pairs-test (λ k. eqb k 14) true refl x) (each_append (pairs-test (λ k. eqb k 14) false refl p) (status-test (λ k. eqb k 14) (λ k a b. ne_eqb k 14 (omega arith)) s))

  only-properties : only is_case_property below ≡ properties
  only-properties =
      only-behind is_case_property (properties ++ rows) (pairs-test (λ k. eqb k 5) false refl x)
      ∙ only-front is_case_property (pairs-test (λ k. eqb k 5) true refl p) (status-test (λ k. eqb k 5) (λ k a b. ne_eqb k 5 (omega arith)) s)

  only-status : (q : ℕ → Bool) → q 14 ≡ false → q 5 ≡ false → only (λ r. q (kind_of r)) below ≡ only (λ r. q (kind_of r)) rows
  only-status q a b = only-behind (λ r. q (kind_of r)) (properties ++ rows) (pairs-test q false a x) ∙ only-behind (λ r. q (kind_of r)) rows (pairs-test q false b p)

  pub case-whole : CaseRecords texts (head ∷ below) c
  case-whole =
      record {
        head = head;
        below = below;
        whole = refl;
        kind = h.blank.kind;
        others = others_below;
        case = λ z.
            let T : List ℕ = texts ++ z in
            let status : status_of T (only is_main below) (only is_run below) ≡ c.status =
            ap₂ (status_of T) (only-status (λ k. leb 6 k && leb k 8) refl refl) (only-status (λ k. leb 9 k && leb k 12) refl refl) ∙ s.status z in
            let extra : pairs_of_it T is_case_extra below ≡ c.extra = ap (map (pair_of T)) only-extras ∙ pairs-back z x in
            let properties : pairs_of_it T is_case_property below ≡ c.properties = ap (map (pair_of T)) only-properties ∙ pairs-back z p in
            λ i. record {
              name = h.name z i;
              classname = h.classname z i;
              assertions = h.assertions i;
              timestamp = h.timestamp i;
              time = h.time i;
              status = status i;
              system_out = h.out z i;
              system_err = h.err z i;
              extra = extra i;
              properties = properties i;
            };
      }
