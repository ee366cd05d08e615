-- The properties of a suite, read back. Assumes nothing.
use Prim.Native.Nat.{ℕ, ◌+◌}
use mathlib.Core.Bool.{true, false}
use mathlib.Core.List.{List, [], ◌∷◌, ◌++◌, map}
use mathlib.Core.Path.{◌≡◌, refl, sym, ap, subst}
use lib.Dec.{eqb}
use lib.ListN.{length}
use Rattle.round_rooms.specs.of_names.Bytes.{bytes}
use Rattle.round_rooms.specs.of_table.Event.{Attribute, Start, Empty, End, Event, Tag}
use Rattle.round_rooms.specs.of_tree_record.Kinds as kind
use Rattle.round_rooms.specs.of_tree_report.Report.{Pair}
use Rattle.round_rooms.specs.of_tree_report.Fields.{kind_of}
use Rattle.round_rooms.specs.of_tree_report.inside.Cells.{every, fits_row, pair_row_of}
use Rattle.round_rooms.proofs.of_tree_report.EncodeLists.{and_left, and_right, Each}
use Rattle.round_rooms.specs.of_read_state.Control.{suite, listing, read_property}
use Rattle.round_rooms.specs.of_read_machine.Machine.{Machine}
use Rattle.round_rooms.specs.of_write_report.Written.{textual, end_tag, each, serialize_property, serialize_properties, numbered}
use Rattle.round_case.specs.of_round_elements.inside.Opened.{PairsShown, none, more}
use Rattle.round_case.specs.of_round_elements.inside.Read.{settled, Stands}
use Rattle.round_case.proofs.of_round_elements.Places.{pairs-later}
use Rattle.round_case.proofs.of_round_elements.Elements.{of_suite, property-opened}
use Rattle.round_case.proofs.Opening.{no_pairs}
use Rattle.round_report.proofs.Leading.{numbered-append}
use Rattle.round_report.proofs.Reading.{Spot, Sight, Reads, reads_same, reads_none, goes-reads, reads-goes, reads_then}
use Rattle.round_report.proofs.Acting.{Held, place_of}
use Rattle.round_report.proofs.Shown.{pairs-join}
use Rattle.round_report.proofs.Suites.{list-starts, property-read, list-ends}

abbrev pair_attributes : Pair → List Attribute
pair_attributes q = textual (bytes "name") q.key ++ textual (bytes "value") q.value

-- reading stands in the list
abbrev Inside : ℕ → Spot
Inside i records texts s = Held (listing suite) i (settled records texts) s

abbrev Pairs : List Pair → Sight
Pairs ps texts rs = PairsShown kind.suite_property texts rs ps

first-pair : (v w : List ℕ) (rs qs : List (List ℕ)) (p : Pair) (ps : List Pair) → Pairs (p ∷ []) v rs → Pairs ps (v ++ w) qs → Pairs (p ∷ ps) (v ++ w) (rs ++ qs)
first-pair v w rs qs p ps h k = pairs-join (pairs-later v w h) k

numbered-property : (n : ℕ) (p : Pair) (ps : List Pair)
    → numbered n (each serialize_property (p ∷ ps)) ≡ (Tag Empty (bytes "property") n (pair_attributes p) ∷ []) ++ numbered (n + 2) (each serialize_property ps)
unfolding numbered serialize_property
numbered-property n p ps = refl

numbered-list : (n : ℕ) (p : Pair) (ps : List Pair) → numbered n (serialize_properties (p ∷ ps))
    ≡ (Tag Start (bytes "properties") 0 [] ∷ []) ++ (numbered (n + 0) (each serialize_property (p ∷ ps)) ++ (Tag End (bytes "properties") 0 [] ∷ []))
unfolding serialize_properties numbered
numbered-list n p ps = ap (λ (l : List Event). Tag Start (bytes "properties") 0 [] ∷ l) (numbered-append (n + 0) (each serialize_property (p ∷ ps)) (end_tag (bytes "properties") ∷ []))

one-property : (j i : ℕ) (p : Pair) → fits_row (pair_row_of kind.suite_property p) ≡ true → (records : List (List ℕ)) (texts : List ℕ) (s : Machine) → Inside i records texts s
    → Reads (Tag Empty (bytes "property") j (pair_attributes p) ∷ []) s (Inside i) (Pairs (p ∷ [])) records texts
one-property j i p f records texts s h =
    let o = property-opened (place_of (read_property suite true (bytes "property")) s) j records texts kind.suite_property of_suite p f in
    record {
      rows = o.main ∷ o.extras;
      added = o.added;
      goes = property-read i records texts s j (pair_attributes p) h o;
      read = more o.shown (subst (λ (l : List (List ℕ)). PairsShown 4 (texts ++ o.added) l []) (sym (no_pairs o.pairs)) none);
    }

each-property : (n i : ℕ) (ps : List Pair) → every fits_row (map (pair_row_of kind.suite_property) ps) ≡ true → (records : List (List ℕ)) (texts : List ℕ) (s : Machine) → Inside i records texts s
    → Reads (numbered n (each serialize_property ps)) s (Inside i) (Pairs ps) records texts
unfolding numbered
each-property n i [] f records texts s h = reads_none (Inside i) (Pairs []) records texts s h none
each-property n i (p ∷ ps) f records texts s h =
    reads_same (numbered-property n p ps)
    (reads_then (Inside i) (Pairs (p ∷ [])) records texts (Inside i) (Pairs ps) (Pairs (p ∷ ps))
    (Tag Empty (bytes "property") n (pair_attributes p) ∷ []) (numbered (n + 2) (each serialize_property ps)) s
    (one-property n i p (and_left (fits_row (pair_row_of 4 p)) (every fits_row (map (pair_row_of 4) ps)) f) records texts s h)
    (each-property (n + 2) i ps (and_right (fits_row (pair_row_of 4 p)) (every fits_row (map (pair_row_of 4) ps)) f))
    (λ v w rs qs a b. first-pair v w rs qs p ps a b))

pub properties-read : (n : ℕ) (ps : List Pair) → every fits_row (map (pair_row_of kind.suite_property) ps) ≡ true → (before : List (List ℕ)) {rs : List (List ℕ)} (texts : List ℕ) (s : Machine)
    → Each (λ r. eqb (kind_of r) kind.suite_property ≡ false) rs → Stands suite (length before) (before ++ rs) texts s
    → Reads (numbered n (serialize_properties ps)) s (Stands suite (length before)) (Pairs ps) (before ++ rs) texts
unfolding numbered serialize_properties
properties-read n [] f before {rs} texts s k h = reads_none (Stands suite (length before)) (Pairs []) (before ++ rs) texts s h none
properties-read n (p ∷ ps) f before {rs} texts s k h =
    reads_same (numbered-list n p ps)
    (goes-reads (Stands suite (length before)) (Pairs (p ∷ ps)) (before ++ rs) texts (Tag Start (bytes "properties") 0 [] ∷ [])
    (numbered (n + 0) (each serialize_property (p ∷ ps)) ++ (Tag End (bytes "properties") 0 [] ∷ [])) s
    (list-starts before texts s k h)
    λ t l.
    reads-goes (Inside (length before)) (Pairs (p ∷ ps)) (before ++ rs) texts (Stands suite (length before))
    (numbered (n + 0) (each serialize_property (p ∷ ps))) (Tag End (bytes "properties") 0 [] ∷ []) t
    (each-property (n + 0) (length before) (p ∷ ps) f (before ++ rs) texts t l)
    (list-ends (length before)))
