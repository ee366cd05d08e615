-- What is put for the records of a tree is what the tree's report is written as. Assumes nothing.
use Prim.Native.Nat.{ℕ, ◌+◌}
use mathlib.Core.Path.{◌≡◌, refl, sym, ap, ap₂, ◌∙◌}
use mathlib.Core.List.{List, [], ◌∷◌, ◌++◌, map, append-nil}
use mathlib.Core.Bool.{Bool, true, false, cond}
use mathlib.Core.Option.{none, some}
use native.Mathlib.Omega.{arith}
use lib.ListN.{length}
use Rattle.write_report.specs.of_names.Bytes.{bytes}
use Rattle.write_report.specs.of_names.Tags.{tags}
use Rattle.write_report.specs.of_table.Event.{Attribute, Event, Tag, Piece, Eof, Fault}
use Rattle.write_report.specs.of_table.Kinds as event
use Rattle.write_report.specs.of_tree_report.Report.{Report, TestSuite}
use Rattle.write_report.specs.of_tree_report.Fields.{live, is_suite, first, uuid, timestamp, time, counts}
use Rattle.write_report.specs.of_tree_report.Layout.{used_text, records_of}
use Rattle.write_report.specs.of_tree_report.ReportOf.{only, branches, suite_of, report_from, report_of}
use Rattle.write_report.specs.Written.{each, start_tag, end_tag, indent, report_attributes, declaration, serialize_test_suite, serialize_report, numbered_tag, attributes_of, numbered, written}
use Rattle.write_table.specs.Laid.{Item, entry, pairs_of_it, items_of_event, items_of}
use Rattle.write_table.proofs.Writing.{items_append}
use Rattle.write_items.specs.inside.Values.{tag_name}
use Rattle.write_items.specs.inside.Document.{tail_items, head_items, document_items, document_in}
use Rattle.write_items.proofs.Dead.{suites-live}
use Rattle.write_items.proofs.Attributes.{report-slots}
use Rattle.write_items.proofs.Suites.{suites-items}

-- ---- the number of a first attribute is no item
numbered-event : (n : ℕ) (e : Event) → items_of_event (numbered_tag n e) ≡ items_of_event e
numbered-event n (Tag k name at attributes) = refl
numbered-event n (Piece k s) = refl
numbered-event n Eof = refl
numbered-event n Fault = refl

pub items-numbered : (n : ℕ) (es : List Event) → items_of (numbered n es) ≡ items_of es
unfolding numbered items_of
items-numbered n [] = refl
items-numbered n (e ∷ es) = ap₂ ◌++◌ (numbered-event n e) (items-numbered (n + length (attributes_of e)) es)

-- ---- the report's record, and those behind it
module _ (text r : List ℕ) (rs : List (List ℕ)) where
  abbrev report_at_of : List TestSuite → Report
  report_at_of suites = record {
    name = first text r;
    uuid = uuid r;
    timestamp = timestamp r;
    time = time r;
    counts = counts r;
    suites = suites;
  }

  abbrev suites : List TestSuite
  suites = map (suite_of text) (branches is_suite rs)

  abbrev front : List Event
  front = declaration ∷ start_tag (bytes "testsuites") (report_attributes (report_at_of suites)) ∷ []

  abbrev back : List Event
  back = end_tag (bytes "testsuites") ∷ Eof ∷ indent ∷ []

  head-items : head_items text r ≡ items_of front
  unfolding head_items items_of tag_name tags
  head-items =
      ap (λ (l : List Attribute). items_of (declaration ∷ []) ++ (entry event.start (bytes "testsuites") (length l) ∷ pairs_of_it l)) (report-slots text r)
      ∙ ap (λ (l : List Item). items_of (declaration ∷ []) ++ l) (sym (append-nil (items_of_event (start_tag (bytes "testsuites") (report_attributes (report_at_of suites))))))
      ∙ sym (items_append (declaration ∷ []) (start_tag (bytes "testsuites") (report_attributes (report_at_of suites)) ∷ []))

  tail-items : tail_items ≡ items_of back
  unfolding items_of tag_name tags
  tail-items = refl

  all-items : document_items text r rs ≡ items_of (serialize_report (report_at_of suites))
  unfolding document_items serialize_report
  all-items =
      rw (head-items, suites-items text rs, tail-items)
      (ap (λ (l : List Item). items_of front ++ l) (sym (items_append (each serialize_test_suite suites) back))
      ∙ sym (items_append front (each serialize_test_suite suites ++ back)))

  report-items : (rep : Report) → report_from text (r ∷ only live rs) ≡ some rep → document_items text r rs ≡ items_of (serialize_report rep)
  report-items rep e =
      let same : report_at_of (map (suite_of text) (branches is_suite (only live rs))) ≡ rep = cc in
      all-items
      ∙ ap (λ (s : List TestSuite). items_of (serialize_report (report_at_of s))) (sym (suites-live text rs))
      ∙ ap (λ (p : Report). items_of (serialize_report p)) same

-- ---- the report is the first live record
module _ (text : List ℕ) where
  pub document-items : (all : List (List ℕ)) (rep : Report) → report_from text (only live all) ≡ some rep → document_in text all ≡ items_of (serialize_report rep)
  unfolding document_in
  document-items [] rep e = cc
  document-items (r ∷ rs) rep e = go (live r) refl e (document-items rs rep)
    where
      go : (b : Bool) → live r ≡ b → report_from text (cond b (r ∷ only live rs) (only live rs)) ≡ some rep
          → (report_from text (only live rs) ≡ some rep → document_in text rs ≡ items_of (serialize_report rep))
          → cond (live r) (document_items text r rs) (document_in text rs) ≡ items_of (serialize_report rep)
      go true l f next = rw l (report-items text r rs rep f)
      go false l f next = rw l (next f)

  pub written-items : (all : List (List ℕ)) (rep : Report) → report_from text (only live all) ≡ some rep → document_in text all ≡ items_of (written rep)
  unfolding written
  written-items all rep e = document-items all rep e ∙ sym (items-numbered 0 (serialize_report rep))

-- the items that the code puts, record by record, are those of the report's events
pub tree-items : (words text : List ℕ) (rep : Report) → report_of words text ≡ some rep → document_in (used_text text) (records_of words) ≡ items_of (written rep)
unfolding report_of
tree-items words text = written-items (used_text text) (records_of words)

-- without a report nothing is written
pub no_items : (words text : List ℕ) → report_of words text ≡ none → document_in (used_text text) (records_of words) ≡ items_of []
unfolding report_of items_of document_in
no_items words text = go (records_of words)
  where
    go : (all : List (List ℕ)) → report_from (used_text text) (only live all) ≡ none → document_in (used_text text) all ≡ []
    go [] e = refl
    go (r ∷ rs) e = here (live r) e (go rs)
      where
        here : (b : Bool) → report_from (used_text text) (cond b (r ∷ only live rs) (only live rs)) ≡ none
            → (report_from (used_text text) (only live rs) ≡ none → document_in (used_text text) rs ≡ []) → cond b (document_items (used_text text) r rs) (document_in (used_text text) rs) ≡ []
        here true f next = let z : ◌≡◌ {A = ℕ} 0 1 = cc in absurd (omega arith)
        here false f next = next f
