-- A suite is read back, and a list of suites. Assumes that its element, its properties and its cases are.
use Prim.Native.Nat.{ℕ, ◌+◌}
use mathlib.Core.Bool.{true, false, cond}
use mathlib.Core.List.{List, [], ◌∷◌, ◌++◌, append_assoc, append-nil}
use mathlib.Core.Option.{Option}
use mathlib.Core.Path.{◌≡◌, refl, sym, ap, subst, subst₂, ◌∙◌}
use lib.Dec.{eqb}
use lib.ListN.{length}
use Rattle.round_rooms.specs.of_names.Bytes.{bytes}
use Rattle.round_rooms.specs.of_table.Event.{Start, Empty, End, Event, Tag}
use Rattle.round_rooms.specs.of_tree_record.Kinds as kind
use Rattle.round_rooms.specs.of_tree_report.Report.{Text, Pair, TestCase, TestSuite}
use Rattle.round_rooms.proofs.of_tree_report.EncodeLists.{Each, done, more}
use Rattle.round_rooms.specs.of_read_state.Control.{top, open_suite}
use Rattle.round_rooms.specs.of_read_machine.Machine.{Machine}
use Rattle.round_rooms.specs.of_write_report.Written.{end_tag, each, element, suite_attributes, serialize_test_suite, numbered}
use Rattle.round_case.specs.of_round_elements.inside.Opened.{PairsShown, none as no-pair, SuiteShown}
use Rattle.round_case.specs.of_round_elements.inside.Read.{Stands}
use Rattle.round_case.specs.of_round_elements.inside.Held.{SuiteHeld}
use Rattle.round_case.proofs.of_round_elements.Elements.{suite-opened}
use Rattle.round_case.proofs.of_round_elements.Gathered.{suite-begun}
use Rattle.round_report.proofs.PlainParts.{PlainSuite}
use Rattle.round_report.proofs.Leading.{leads-then, goes_on, behind, numbered-append}
use Rattle.round_report.proofs.Reading.{Spot, Sight, Reads, reads_same, reads_none, reads_then}
use Rattle.round_report.proofs.Acting.{place_of}
use Rattle.round_report.proofs.Suites.{suite-starts, suite-whole, suite-ends}
use Rattle.round_report.proofs.Shown.{CasesShown, no-case, SuiteRecords, SuitesShown, no-suite, a-suite, suite-on}
use Rattle.round_report.proofs.Decoding.{suite-records}
use Rattle.round_report.proofs.Childless.{children, Childless, childless}
use Rattle.round_report.proofs.SuiteInside.{inside-read}

-- inside the report, whichever suite was the last
abbrev pub AtTop : Spot
AtTop records texts m = (i : ℕ) × Stands top i records texts m

abbrev One : TestSuite → Sight
One s texts rs = SuiteRecords texts rs s

abbrev pub Suites : List TestSuite → Sight
Suites ss texts rs = SuitesShown texts rs ss

-- the number of a tag's first attribute
abbrev number_of : ℕ → TestSuite → ℕ
number_of n s = cond (eqb (length (suite_attributes s)) 0) 0 n

numbered-empty : (n : ℕ) (s : TestSuite) → numbered n (element (bytes "testsuite") (suite_attributes s) []) ≡ Tag Empty (bytes "testsuite") (number_of n s) (suite_attributes s) ∷ []
unfolding numbered
numbered-empty n s = refl

numbered-start : (n : ℕ) (s : TestSuite) (c : Event) (cs : List Event) → numbered n (element (bytes "testsuite") (suite_attributes s) (c ∷ cs))
    ≡ (Tag Start (bytes "testsuite") (number_of n s) (suite_attributes s) ∷ []) ++ (numbered (n + length (suite_attributes s)) (c ∷ cs) ++ (Tag End (bytes "testsuite") 0 [] ∷ []))
unfolding numbered
numbered-start n s c cs =
    ap (λ (l : List Event). Tag Start (bytes "testsuite") (number_of n s) (suite_attributes s) ∷ l) (numbered-append (n + length (suite_attributes s)) (c ∷ cs) (end_tag (bytes "testsuite") ∷ []))

-- a suite without anything inside
alone : {texts main : List ℕ} {extras : List (List ℕ)} (s : TestSuite) → Childless s → SuiteShown texts main s
    → PairsShown kind.suite_extra texts extras s.extra → SuiteRecords texts (main ∷ extras) s
alone {texts} {main} {extras} s c h x =
    subst (λ (l : List (List ℕ)). SuiteRecords texts (main ∷ l) s) (append-nil extras)
    (suite-records s
    (subst₂ (λ (o e : Option Text). SuiteHeld s o e texts main) (sym c.out) (sym c.err) (suite-begun h)) x
    (subst (λ (ps : List Pair). PairsShown 4 texts [] ps) (sym c.properties) no-pair)
    (subst (λ (cs : List TestCase). CasesShown texts [] cs) (sym c.cases) no-case))

module _ (n i : ℕ) (s : TestSuite) (g : PlainSuite s) (records : List (List ℕ)) (texts : List ℕ) (m : Machine) (k : Stands top i records texts m) where
  empty-read : Childless s → Reads (Tag Empty (bytes "testsuite") (number_of n s) (suite_attributes s) ∷ []) m AtTop (One s) records texts
  empty-read c =
      let o = suite-opened (place_of (open_suite true) m) (number_of n s) records texts s g.row g.extras g.time g.timestamp g.keys in
      record {
        rows = o.main ∷ o.extras;
        added = o.added;
        goes = goes_on (suite-whole i (number_of n s) (suite_attributes s) records texts m k o) (λ t z. (length records, z));
        read = alone s c o.shown o.pairs;
      }

  full-read : Reads ((Tag Start (bytes "testsuite") (number_of n s) (suite_attributes s) ∷ []) ++ (numbered (n + length (suite_attributes s)) (children s) ++ (Tag End (bytes "testsuite") 0 [] ∷ [])))
      m AtTop (One s) records texts
  full-read =
      let o = suite-opened (place_of (open_suite false) m) (number_of n s) records texts s g.row g.extras g.time g.timestamp g.keys in
      let a = suite-starts i (number_of n s) (suite_attributes s) records texts m k o in
      let b = inside-read s g (n + length (suite_attributes s)) records o.main o.extras (texts ++ o.added) a.after o.shown o.pairs a.holds in
      let c = suite-ends (length records) (records ++ (b.main ∷ b.rest)) ((texts ++ o.added) ++ b.added) b.goes.after b.goes.holds in
      let q = append_assoc texts o.added b.added in
      let end = Tag End (bytes "testsuite") 0 [] ∷ [] in
      let es = numbered (n + length (suite_attributes s)) (children s) in
      record {
        rows = b.main ∷ b.rest;
        added = o.added ++ b.added;
        goes = record {
          after = c.after;
          leads = leads-then (Tag Start (bytes "testsuite") (number_of n s) (suite_attributes s) ∷ []) (es ++ end) m a.after c.after a.leads
              (leads-then es end a.after b.goes.after c.after b.goes.leads c.leads);
          holds = (length records, subst (λ (t : List ℕ). Stands top (length records) (records ++ (b.main ∷ b.rest)) t c.after) q c.holds);
        };
        read = subst (λ (t : List ℕ). SuiteRecords t (b.main ∷ b.rest) s) q b.read;
      }

  suite-read : Reads (numbered n (serialize_test_suite s)) m AtTop (One s) records texts
  unfolding serialize_test_suite
  suite-read = go (children s) refl
    where
      go : (es : List Event) → children s ≡ es → Reads (numbered n (element (bytes "testsuite") (suite_attributes s) es)) m AtTop (One s) records texts
      go [] e = reads_same (numbered-empty n s) (empty-read (childless s e))
      go (c ∷ cs) e =
          reads_same
          (numbered-start n s c cs
          ∙ ap (λ (l : List Event).
          (Tag Start (bytes "testsuite") (number_of n s) (suite_attributes s) ∷ []) ++ (numbered (n + length (suite_attributes s)) l ++ (Tag End (bytes "testsuite") 0 [] ∷ []))) (sym e))
          full-read

pub suites-read : (n : ℕ) {ss : List TestSuite} → Each PlainSuite ss → (records : List (List ℕ)) (texts : List ℕ) (m : Machine) → AtTop records texts m
    → Reads (numbered n (each serialize_test_suite ss)) m AtTop (Suites ss) records texts
unfolding numbered
suites-read n done records texts m k = reads_none AtTop (Suites []) records texts m k no-suite
suites-read n (more {x = s} {xs = ss} g gs) records texts m k =
    reads_same (numbered-append n (serialize_test_suite s) (each serialize_test_suite ss))
    (reads_then AtTop (One s) records texts AtTop (Suites ss) (Suites (s ∷ ss)) (numbered n (serialize_test_suite s)) (numbered (behind n (serialize_test_suite s)) (each serialize_test_suite ss)) m
    (suite-read n k.0 s g records texts m k.1)
    (suites-read (behind n (serialize_test_suite s)) gs)
    (λ v w rs qs a b. a-suite (suite-on v w rs s a) b))
