-- The properties of a case are read back. Assumes nothing.
use Prim.Native.Nat.{ℕ}
use mathlib.Core.Bool.{true, false}
use mathlib.Core.List.{List, [], ◌∷◌, ◌++◌, map}
use mathlib.Core.Path.{◌≡◌, refl, ap, ◌∙◌}
use lib.ListN.{length}
use Rattle.round_elements.specs.of_names.Bytes.{bytes}
use Rattle.round_elements.specs.of_names.Names.{same_bytes, code_from}
use Rattle.round_elements.specs.of_names.Tags.{tags}
use Rattle.round_elements.specs.of_table.Event.{Attribute, Start, Empty, End}
use Rattle.round_elements.specs.of_tree_record.Kinds as kind
use Rattle.round_elements.specs.of_tree_status.declared.Tally.{Tally}
use Rattle.round_elements.specs.of_tree_report.Report.{Pair}
use Rattle.round_elements.specs.of_tree_report.inside.Cells.{every, fits_row, pair_row_of}
use Rattle.round_elements.proofs.of_tree_report.EncodeLists.{and_left, and_right}
use Rattle.round_elements.specs.of_read_state.Control.{case, at, listing, pass, open_list, read_property, turn}
use Rattle.round_elements.specs.of_read_rules.Rules.{at_case, in_list_of, plan_at}
use Rattle.round_elements.specs.of_read_place.Marks.{marks_after, onward}
use Rattle.round_elements.specs.of_read_content.Content.{Content, kill_kind, perform}
use Rattle.round_elements.specs.of_read_machine.Machine.{Machine}
use Rattle.round_elements.specs.of_write_report.Written.{each, textual, start_tag, end_tag, serialize_property, serialize_properties}
use Rattle.round_elements.specs.inside.Opened.{PairShown, PairsShown, none, more}
use Rattle.round_elements.proofs.Places.{pair-later}
use Rattle.round_elements.proofs.Elements.{of_case, property-opened}
use Rattle.round_case.specs.inside.Amid.{machine, holding, Spots, Reads, Between, Adds}
use Rattle.round_case.proofs.Following.{reads_none, reads_then, reads_as, amid-reads}
use Rattle.round_case.proofs.Steps.{tag-reads}
use Rattle.round_case.proofs.Opening.{Grows, grows, no_pairs}
use Rattle.round_case.proofs.Rows.{adds_none, adds-joined}

list-begins : plan_at (at case) true Start (bytes "properties") ≡ open_list case false
unfolding plan_at at_case tags code_from same_bytes
list-begins = refl

list-holds : plan_at (listing case) true Empty (bytes "property") ≡ read_property case true (bytes "property")
unfolding plan_at in_list_of tags code_from same_bytes
list-holds = refl

list-ends : plan_at (listing case) true End (bytes "properties") ≡ pass (at case)
unfolding plan_at in_list_of tags code_from same_bytes
list-ends = refl

one_more : {κ : ℕ} {texts : List ℕ} {rows rs : List (List ℕ)} {p : Pair} {ps : List Pair} (v : List ℕ)
    → PairsShown κ texts rows (p ∷ []) → PairsShown κ (texts ++ v) rs ps → PairsShown κ (texts ++ v) (rows ++ rs) (p ∷ ps)
one_more {texts = texts} v (more {r = r} h none) hs = more (pair-later texts v r h) hs

module _ {tally : Tally} {i k : ℕ} where
  -- no earlier property is there to be replaced
  list-opens : {n : ℕ} {records : List (List ℕ)} {texts : List ℕ} {s : Machine} → kill_kind kind.case_property k records ≡ records → Between (at case) tally i k records texts s
      → Reads n (start_tag (bytes "properties") [] ∷ []) s (Between (listing case) tally i k records texts)
  unfolding perform turn marks_after
  list-opens {records = records} {texts = texts} e b =
      let c : Content = holding records texts [] [] in
      amid-reads b.amid (λ m q. tag-reads {Q = λ x. x ≡ c} Start (bytes "properties") [] (at case) tally c m (open_list case false) list-begins
      (λ p j. record {
        after = holding (kill_kind kind.case_property m.case_at_of records) texts [] [];
        answer = refl;
        holds = ap (λ (x : Spots). holding (kill_kind kind.case_property x.case_at_of records) texts [] []) q
            ∙ ap (λ (x : ℕ). holding (kill_kind kind.case_property x records) texts [] []) b.case_at_of ∙ ap (λ (x : List (List ℕ)). holding x texts [] []) e;
      })
      (λ x f. record {
        spots = b.spots;
        amid = record {
          marks = onward (marks_after (open_list case false) (length records) m);
          here = ap (λ (y : Content). machine (listing case) tally y (onward (marks_after (open_list case false) (length records) m))) f;
          same = q;
        };
        suite_at_of = b.suite_at_of;
        case_at_of = b.case_at_of;
      }))

  list-closes : {n : ℕ} {records : List (List ℕ)} {texts : List ℕ} {s : Machine} → Between (listing case) tally i k records texts s
      → Reads n (end_tag (bytes "properties") ∷ []) s (Between (at case) tally i k records texts)
  unfolding perform turn marks_after
  list-closes {records = records} {texts = texts} b =
      let c : Content = holding records texts [] [] in
      amid-reads b.amid (λ m q. tag-reads {Q = λ x. x ≡ c} End (bytes "properties") [] (listing case) tally c m (pass (at case)) list-ends
      (λ p j. record { after = c; answer = refl; holds = refl })
      (λ x f. record {
        spots = b.spots;
        amid = record { marks = onward m; here = ap (λ (y : Content). machine (at case) tally y (onward m)) f; same = q };
        suite_at_of = b.suite_at_of;
        case_at_of = b.case_at_of;
      }))

  property-reads : {n : ℕ} {records : List (List ℕ)} {texts : List ℕ} {s : Machine} (p : Pair) → fits_row (pair_row_of kind.case_property p) ≡ true → Between (listing case) tally i k records texts s
      → Reads n (serialize_property p) s (Adds (listing case) tally i k records texts (λ t rs. PairsShown kind.case_property t rs (p ∷ [])))
  unfolding serialize_property perform turn marks_after
  property-reads {records = records} {texts = texts} p h b =
      let c : Content = holding records texts [] [] in
      let xs : List Attribute = textual (bytes "name") p.key ++ textual (bytes "value") p.value in
      let Q : Content → Type 0 = Grows kind.case_property (λ t x. PairShown kind.case_property t x p) [] records texts in
      amid-reads b.amid (λ m q. tag-reads {Q = Q} Empty (bytes "property") xs (listing case) tally c m (read_property case true (bytes "property")) list-holds
      (λ w j. grows w kind.case_property j xs records texts (property-opened w j records texts kind.case_property of_case p h))
      (λ x g. record {
        rows = g.main ∷ [];
        added = g.added;
        shown = more g.shown none;
        stands = record {
          spots = b.spots;
          amid = record {
            marks = onward (marks_after (read_property case true (bytes "property")) (length records) m);
            here = ap (λ (y : Content). machine (listing case) tally y (onward (marks_after (read_property case true (bytes "property")) (length records) m)))
                (g.whole ∙ ap (λ (rs : List (List ℕ)). holding (records ++ (g.main ∷ rs)) (texts ++ g.added) [] []) (no_pairs g.pairs));
            same = q;
          };
          suite_at_of = b.suite_at_of;
          case_at_of = b.case_at_of;
        };
      }))

  listed-read : {n : ℕ} {records : List (List ℕ)} {texts : List ℕ} {s : Machine} (ps : List Pair)
      → every fits_row (map (pair_row_of kind.case_property) ps) ≡ true → Between (listing case) tally i k records texts s
      → Reads n (each serialize_property ps) s (Adds (listing case) tally i k records texts (λ t rs. PairsShown kind.case_property t rs ps))
  listed-read [] h b = reads_none (adds_none none b)
  listed-read {n = n} {records = records} {texts = texts} {s = s} (p ∷ ps) h b =
      reads_then (serialize_property p) (each serialize_property ps)
      (property-reads p (and_left (fits_row (pair_row_of kind.case_property p)) (every fits_row (map (pair_row_of kind.case_property) ps)) h) b) (λ j t a.
      reads_as (listed-read {n = j} ps (and_right (fits_row (pair_row_of kind.case_property p)) (every fits_row (map (pair_row_of kind.case_property) ps)) h) a.stands) (λ u d.
      adds-joined a.rows a.added (λ v rs y. one_more v a.shown y) d))

  pub properties-read : {n : ℕ} {records : List (List ℕ)} {texts : List ℕ} {s : Machine} (ps : List Pair)
      → every fits_row (map (pair_row_of kind.case_property) ps) ≡ true → kill_kind kind.case_property k records ≡ records
      → Between (at case) tally i k records texts s → Reads n (serialize_properties ps) s (Adds (at case) tally i k records texts (λ t rs. PairsShown kind.case_property t rs ps))
  unfolding serialize_properties
  properties-read [] h e b = reads_none (adds_none none b)
  properties-read (p ∷ ps) h e b =
      reads_then (start_tag (bytes "properties") [] ∷ []) (each serialize_property (p ∷ ps) ++ (end_tag (bytes "properties") ∷ [])) (list-opens e b) (λ j t b.
      reads_then (each serialize_property (p ∷ ps)) (end_tag (bytes "properties") ∷ []) (listed-read (p ∷ ps) h b) (λ j t a.
      reads_as (list-closes a.stands) (λ u d. record { rows = a.rows; added = a.added; shown = a.shown; stands = d })))
