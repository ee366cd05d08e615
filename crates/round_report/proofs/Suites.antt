-- Tags of a suite and of its list of properties, one by one. Assumes nothing.
use Prim.Native.Nat.{ℕ}
use mathlib.Core.Bool.{true, false}
use mathlib.Core.List.{List, [], ◌∷◌, ◌++◌}
use mathlib.Core.Path.{◌≡◌, refl, ap}
use lib.Dec.{eqb}
use lib.ListN.{length}
use Rattle.round_rooms.specs.of_names.Bytes.{bytes}
use Rattle.round_rooms.specs.of_names.Names.{same_bytes, code_from}
use Rattle.round_rooms.specs.of_names.Tags.{tags}
use Rattle.round_rooms.specs.of_table.Event.{Attribute, Start, Empty, End, Tag}
use Rattle.round_rooms.specs.of_tree_record.Kinds as kind
use Rattle.round_rooms.specs.of_tree_report.Report.{Pair}
use Rattle.round_rooms.specs.of_tree_report.Fields.{kind_of}
use Rattle.round_rooms.proofs.of_tree_report.EncodeLists.{Each, done, more}
use Rattle.round_rooms.specs.of_read_element.Outcome.{unlimited}
use Rattle.round_rooms.specs.of_read_element.Attributes.{read_element}
use Rattle.round_rooms.specs.of_read_state.Control.{top, suite, at, listing, pass, open_suite, close_suite, open_list, read_property, turn}
use Rattle.round_rooms.specs.of_read_rules.Rules.{at_top, at_suite, in_list_of, plan_at}
use Rattle.round_rooms.specs.of_read_place.Marks.{marks_after}
use Rattle.round_rooms.specs.of_read_content.Content.{Content, kill_kind, perform}
use Rattle.round_rooms.specs.of_read_machine.Machine.{Machine}
use Rattle.round_case.specs.of_round_elements.inside.Opened.{Opened}
use Rattle.round_case.specs.of_round_elements.inside.Read.{settled, Stands}
use Rattle.round_report.proofs.Leading.{Goes, goes_on}
use Rattle.round_report.proofs.Acting.{Held, stands-held, held-stands, place_of, tag-goes, adds}

-- ---- plans
start-suite : plan_at (at top) true Start (bytes "testsuite") ≡ open_suite false
unfolding plan_at at_top tags code_from same_bytes
start-suite = refl

empty-suite : plan_at (at top) true Empty (bytes "testsuite") ≡ open_suite true
unfolding plan_at at_top tags code_from same_bytes
empty-suite = refl

end-suite : plan_at (at suite) true End (bytes "testsuite") ≡ close_suite
unfolding plan_at at_suite tags code_from same_bytes
end-suite = refl

start-list : plan_at (at suite) true Start (bytes "properties") ≡ open_list suite false
unfolding plan_at at_suite tags code_from same_bytes
start-list = refl

one-property : plan_at (listing suite) true Empty (bytes "property") ≡ read_property suite true (bytes "property")
unfolding plan_at in_list_of tags code_from same_bytes
one-property = refl

end_list : plan_at (listing suite) true End (bytes "properties") ≡ pass (at suite)
unfolding plan_at in_list_of tags code_from same_bytes
end_list = refl

-- ---- no record of a kind from one on
kill-none : (κ : ℕ) {rs : List (List ℕ)} → Each (λ r. eqb (kind_of r) κ ≡ false) rs → kill_kind κ 0 rs ≡ rs
kill-none κ done = refl
kill-none κ (more {x = r} h hs) = rw h (ap (λ (l : List (List ℕ)). r ∷ l) (kill-none κ hs))

kill-behind : (κ : ℕ) (before : List (List ℕ)) {rs : List (List ℕ)} → Each (λ r. eqb (kind_of r) κ ≡ false) rs → kill_kind κ (length before) (before ++ rs) ≡ before ++ rs
kill-behind κ [] h = kill-none κ h
kill-behind κ (b ∷ before) h = ap (λ (l : List (List ℕ)). b ∷ l) (kill-behind κ before h)

-- ---- tags
module _ {Shown : List ℕ → List ℕ → Type 0} {extra : List Pair} (i j : ℕ) (xs : List Attribute) (records : List (List ℕ)) (texts : List ℕ) (s : Machine) (h : Stands top i records texts s) where
  pub suite-starts : (o : Opened kind.suite Shown extra records texts (read_element unlimited (place_of (open_suite false) s) kind.suite j xs records texts))
      → Goes (Tag Start (bytes "testsuite") j xs ∷ []) s (Stands suite (length records) (records ++ (o.main ∷ o.extras)) (texts ++ o.added))
  unfolding perform turn marks_after
  suite-starts o =
      goes_on
      (tag-goes {n = at suite} {l = length records} Start (bytes "testsuite") j xs (open_suite false) (stands-held h) start-suite
      (adds (place_of (open_suite false) s) kind.suite j xs records texts (o.main ∷ o.extras) o.added o.answer)
      (record { mode = refl; seen = h.seen; closed = h.closed; content = refl; suite_at_of = ap (λ (c : Content). length c.records) h.content }))
      (held-stands suite (length records) (records ++ (o.main ∷ o.extras)) (texts ++ o.added))

  pub suite-whole : (o : Opened kind.suite Shown extra records texts (read_element unlimited (place_of (open_suite true) s) kind.suite j xs records texts))
      → Goes (Tag Empty (bytes "testsuite") j xs ∷ []) s (Stands top (length records) (records ++ (o.main ∷ o.extras)) (texts ++ o.added))
  unfolding perform turn marks_after
  suite-whole o =
      goes_on
      (tag-goes {n = at top} {l = length records} Empty (bytes "testsuite") j xs (open_suite true) (stands-held h) empty-suite
      (adds (place_of (open_suite true) s) kind.suite j xs records texts (o.main ∷ o.extras) o.added o.answer)
      (record { mode = refl; seen = h.seen; closed = h.closed; content = refl; suite_at_of = ap (λ (c : Content). length c.records) h.content }))
      (held-stands top (length records) (records ++ (o.main ∷ o.extras)) (texts ++ o.added))

module _ (i : ℕ) (records : List (List ℕ)) (texts : List ℕ) (s : Machine) where
  pub suite-ends : Stands suite i records texts s → Goes (Tag End (bytes "testsuite") 0 [] ∷ []) s (Stands top i records texts)
  unfolding perform turn marks_after
  suite-ends h =
      goes_on
      (tag-goes {n = at top} {l = i} End (bytes "testsuite") 0 [] close_suite (stands-held h) end-suite refl
      (record { mode = refl; seen = h.seen; closed = h.closed; content = refl; suite_at_of = h.suite_at_of }))
      (held-stands top i records texts)

  pub list-ends : Held (listing suite) i (settled records texts) s → Goes (Tag End (bytes "properties") 0 [] ∷ []) s (Stands suite i records texts)
  unfolding perform turn marks_after
  list-ends h =
      goes_on
      (tag-goes {n = at suite} {l = i} End (bytes "properties") 0 [] (pass (at suite)) h end_list refl
      (record { mode = refl; seen = h.seen; closed = h.closed; content = refl; suite_at_of = h.suite_at_of }))
      (held-stands suite i records texts)

  pub property-read : {Shown : List ℕ → List ℕ → Type 0} (j : ℕ) (xs : List Attribute) → Held (listing suite) i (settled records texts) s
      → (o : Opened kind.suite_property Shown [] records texts (read_element unlimited (place_of (read_property suite true (bytes "property")) s) kind.suite_property j xs records texts))
      → Goes (Tag Empty (bytes "property") j xs ∷ []) s (Held (listing suite) i (settled (records ++ (o.main ∷ o.extras)) (texts ++ o.added)))
  unfolding perform turn marks_after
  property-read j xs h o =
      tag-goes Empty (bytes "property") j xs (read_property suite true (bytes "property")) h one-property
      (adds (place_of (read_property suite true (bytes "property")) s) kind.suite_property j xs records texts (o.main ∷ o.extras) o.added o.answer)
      (record { mode = h.mode; seen = h.seen; closed = h.closed; content = refl; suite_at_of = h.suite_at_of })

-- none of the suite's records is a property yet
pub list-starts : (before : List (List ℕ)) {rs : List (List ℕ)} (texts : List ℕ) (s : Machine) → Each (λ r. eqb (kind_of r) kind.suite_property ≡ false) rs
    → Stands suite (length before) (before ++ rs) texts s → Goes (Tag Start (bytes "properties") 0 [] ∷ []) s (Held (listing suite) (length before) (settled (before ++ rs) texts))
unfolding perform turn marks_after
list-starts before {rs} texts s k h =
    tag-goes Start (bytes "properties") 0 [] (open_list suite false) (stands-held h) start-list
    (rw (h.suite_at_of, kill-behind 4 before k) refl)
    (record { mode = refl; seen = h.seen; closed = h.closed; content = refl; suite_at_of = h.suite_at_of })
