-- The events of properties, outputs and status elements, by the parts in which they are put. Assumes nothing.
use Prim.Native.Nat.{ℕ, ◌+◌}
use mathlib.Core.Path.{◌≡◌, refl, sym, ap, ◌∙◌}
use mathlib.Core.List.{List, [], ◌∷◌, ◌++◌, append_assoc, append-nil}
use mathlib.Core.Bool.{Bool, true, false, cond, ◌||◌}
use native.Mathlib.Omega.{arith}
use lib.Dec.{eqb}
use lib.ListN.{length, get_or}
use Rattle.names.specs.Bytes.{bytes}
use Rattle.names.specs.Tags.{tags}
use Rattle.names.specs.Keys.{keys}
use Rattle.table.specs.Event.{Attribute, Event, TagKind, Start, Empty, Tag}
use Rattle.write_marks.specs.of_tree_report.Report.{failure, error}
use Rattle.write_marks.specs.of_tree_report.Report as report
use Rattle.write_marks.specs.of_tree_report.Fields.{given, has_bit, kind_of, text_at, first, system_out, system_err, second, description, stack_trace, timestamp, time, moment_of}
use Rattle.write_marks.specs.of_tree_report.ReportOf.{pair_of, reason_of, run_of}
use Rattle.write_marks.specs.of_write_escape.Escape.{escaped}
use Rattle.write_marks.specs.of_write_report.Written.{optional, textual, stamped, timed, status_attributes, start_tag, end_tag, text_event, indent, indented}
use Rattle.write_marks.specs.of_write_report.Written.{run_children, run_name, serialize_output, serialize_outputs, serialize_property, serialize_status, serialize_rerun}
use Rattle.write_marks.specs.of_write_table.Laid.{Item, entry, pairs_of_it, tag_number, items_of_event, items_of}
use Rattle.write_marks.proofs.of_write_table.Writing.{items_append}
use Rattle.write_marks.specs.of_write_items.inside.Values.{tag_name, key_name, value_of, offset_of}
use Rattle.write_marks.specs.of_write_items.inside.Slots.{bit_of, is_present, slot_of, slots}
use Rattle.write_marks.specs.of_write_items.inside.Status.{family, run_tag, has_child, described_run, traced_run, closed_run}

-- ---- attributes that may be missing
given-slot : {A : Type 0} (b : Bool) (x : A) (f : A → List Attribute) (a : Attribute) (rest rest' : List Attribute)
    → f x ≡ a ∷ [] → rest ≡ rest' → cond b (a ∷ rest) rest ≡ optional f (given b x) ++ rest'
given-slot true x f a rest rest' p q = rw (p, q) refl
given-slot false x f a rest rest' p q = q

module _ (text r : List ℕ) where
  type-slot : slots text r (13 ∷ []) ≡ optional (textual (bytes "type")) (second text r)
  unfolding is_present bit_of key_name keys value_of offset_of
  type-slot = given-slot (has_bit 5 r) (text_at text r 18) (textual (bytes "type")) (slot_of text r 13) [] [] refl refl ∙ append-nil (optional (textual (bytes "type")) (second text r))

  pub status-slots : slots text r (12 ∷ 13 ∷ []) ≡ status_attributes (first text r) (second text r)
  unfolding is_present bit_of key_name keys value_of offset_of
  status-slots = given-slot (has_bit 0 r) (text_at text r 2) (textual (bytes "message")) (slot_of text r 12) (slots text r (13 ∷ [])) (optional (textual (bytes "type")) (second text r)) refl type-slot

  time-slots : slots text r (5 ∷ 12 ∷ 13 ∷ []) ≡ timed (time r) ++ status_attributes (first text r) (second text r)
  unfolding is_present bit_of key_name keys value_of offset_of
  time-slots = given-slot (has_bit 4 r) (record { seconds = get_or r 16 0; nanos = get_or r 17 0 }) (λ (x : report.Duration). slot_of text r 5 ∷ [])
      (slot_of text r 5) (slots text r (12 ∷ 13 ∷ [])) (status_attributes (first text r) (second text r)) refl status-slots ∙ go (has_bit 4 r)
    where
      go : (b : Bool) → optional (λ (x : report.Duration). slot_of text r 5 ∷ []) (given b (record { seconds = get_or r 16 0; nanos = get_or r 17 0 })) ++ status_attributes (first text r) (second text r)
          ≡ timed (given b (record { seconds = get_or r 16 0; nanos = get_or r 17 0 })) ++ status_attributes (first text r) (second text r)
      go true = refl
      go false = refl

  pub property-slots : slots text r (1 ∷ 14 ∷ []) ≡ textual (bytes "name") (text_at text r 2) ++ textual (bytes "value") (text_at text r 4)
  unfolding is_present bit_of key_name keys value_of offset_of
  property-slots = refl

  pub run-slots : slots text r (4 ∷ 5 ∷ 12 ∷ 13 ∷ []) ≡ stamped (timestamp r) ++ (timed (time r) ++ status_attributes (first text r) (second text r))
  unfolding is_present bit_of key_name keys value_of offset_of
  run-slots = rw time-slots (go (has_bit 3 r) (timed (time r) ++ status_attributes (first text r) (second text r)))
    where
      go : (b : Bool) (l : List Attribute) → cond b (slot_of text r 4 ∷ l) l ≡ stamped (given b (moment_of r)) ++ l
      go true l = refl
      go false l = refl

-- ---- tags
pub tag-items : (kind : TagKind) (name : List ℕ) (have want : List Attribute) → have ≡ want → entry (tag_number kind) name (length have + 0) ∷ pairs_of_it have ≡ items_of (Tag kind name 0 want ∷ [])
unfolding items_of
tag-items kind name have want e =
    let z : length have + 0 ≡ length have = omega arith in
    rw z (ap (λ (l : List Attribute). entry (tag_number kind) name (length l) ∷ pairs_of_it l) e ∙ sym (append-nil (items_of_event (Tag kind name 0 want))))

-- a tag, and what follows it
pub tag-then : (kind : TagKind) (name : List ℕ) (have want : List Attribute) (es : List Event) (is : List Item) → have ≡ want
    → is ≡ items_of es → (entry (tag_number kind) name (length have + 0) ∷ pairs_of_it have) ++ is ≡ items_of (Tag kind name 0 want ∷ es)
tag-then kind name have want es is p q =
    ap (λ (l : List Item). l ++ is) (tag-items kind name have want p)
    ∙ ap (λ (l : List Item). items_of (Tag kind name 0 want ∷ []) ++ l) q
    ∙ sym (items_append (Tag kind name 0 want ∷ []) es)

pub output-items : (name t : List ℕ) → (entry 0 name 0 ∷ []) ++ ((entry 3 (escaped t) 0 ∷ []) ++ (entry 2 name 0 ∷ [])) ≡ items_of (serialize_output name t)
unfolding serialize_output items_of
output-items name t = refl

module _ {A : Type 0} (f : A → List Event) (x : A) where
  pub optional-yes : (b : Bool) → b ≡ true → items_of (f x) ≡ items_of (optional f (given b x))
  optional-yes b e = rw e refl

  pub optional-no : (b : Bool) → b ≡ false → [] ≡ items_of (optional f (given b x))
  unfolding items_of
  optional-no b e = rw e refl

module _ (text r : List ℕ) where
  pub outputs-items : items_of (optional (serialize_output (tag_name 14)) (system_out text r)) ++ items_of (optional (serialize_output (tag_name 15)) (system_err text r))
      ≡ items_of (serialize_outputs (system_out text r) (system_err text r))
  unfolding serialize_outputs tag_name tags
  outputs-items = sym (items_append (optional (serialize_output (bytes "system-out")) (system_out text r)) (optional (serialize_output (bytes "system-err")) (system_err text r)))

  pub property-items : entry 1 (tag_name 5) (length (slots text r (1 ∷ 14 ∷ [])) + 0) ∷ pairs_of_it (slots text r (1 ∷ 14 ∷ [])) ≡ items_of (serialize_property (pair_of text r))
  unfolding serialize_property tag_name tags
  property-items = tag-items Empty (bytes "property") (slots text r (1 ∷ 14 ∷ [])) (textual (bytes "name") (text_at text r 2) ++ textual (bytes "value") (text_at text r 4)) (property-slots text r)

  text-end : (name t : List ℕ) → (entry 3 (escaped t) 0 ∷ []) ++ (entry 2 name 0 ∷ []) ≡ items_of (text_event t ∷ end_tag name ∷ [])
  unfolding items_of
  text-end name t = refl

  pub status-described : (name : List ℕ) → has_bit 6 r ≡ true → (entry 0 name (length (slots text r (12 ∷ 13 ∷ [])) + 0) ∷ pairs_of_it (slots text r (12 ∷ 13 ∷ [])))
      ++ ((entry 3 (escaped (text_at text r 20)) 0 ∷ []) ++ (entry 2 name 0 ∷ [])) ≡ items_of (serialize_status name (reason_of text r))
  unfolding serialize_status
  status-described name e = rw e (tag-then Start name (slots text r (12 ∷ 13 ∷ [])) (status_attributes (first text r) (second text r)) (text_event (text_at text r 20) ∷ end_tag name ∷ [])
      ((entry 3 (escaped (text_at text r 20)) 0 ∷ []) ++ (entry 2 name 0 ∷ [])) (status-slots text r) (text-end name (text_at text r 20)))

  pub status-empty : (name : List ℕ) → has_bit 6 r ≡ false
      → entry 1 name (length (slots text r (12 ∷ 13 ∷ [])) + 0) ∷ pairs_of_it (slots text r (12 ∷ 13 ∷ [])) ≡ items_of (serialize_status name (reason_of text r))
  unfolding serialize_status
  status-empty name e = rw e (tag-items Empty name (slots text r (12 ∷ 13 ∷ [])) (status_attributes (first text r) (second text r)) (status-slots text r))

  -- ---- a run
  -- a run without a description: nothing is put for it
  pub not-described : has_bit 6 r ≡ false → [] ≡ items_of (described_run text r)
  unfolding described_run items_of
  not-described e = rw e refl

  -- a run's description with elements behind it: its Text and an Indent
  pub described-indented : has_bit 6 r ≡ true → has_child text r ≡ true → (entry 3 (escaped (text_at text r 20)) 0 ∷ []) ++ (entry 9 [] 0 ∷ []) ≡ items_of (described_run text r)
  unfolding described_run items_of
  described-indented e h = rw (e, h) refl

  -- a run's description with nothing behind it: its Text alone
  pub described-alone : has_bit 6 r ≡ true → has_child text r ≡ false → entry 3 (escaped (text_at text r 20)) 0 ∷ [] ≡ items_of (described_run text r)
  unfolding described_run items_of
  described-alone e h = rw (e, h) refl

  -- a run's description and stack trace, put one behind the other
  pub traced_items : items_of (described_run text r) ++ items_of (optional (serialize_output (tag_name 13)) (stack_trace text r)) ≡ items_of (traced_run text r)
  unfolding traced_run tag_name tags
  traced_items = sym (items_append (described_run text r) (optional (serialize_output (bytes "stackTrace")) (stack_trace text r)))

  end-items : (name : List ℕ) → entry 2 name 0 ∷ [] ≡ items_of (end_tag name ∷ [])
  unfolding items_of
  end-items name = refl

  -- a run's texts, outputs and end tag, put one behind the other
  pub closed-items : (name : List ℕ) → items_of (traced_run text r) ++ (items_of (serialize_outputs (system_out text r) (system_err text r)) ++ (entry 2 name 0 ∷ [])) ≡ items_of (closed_run text r name)
  unfolding closed_run
  closed-items name =
      rw (end-items name)
      (ap (λ (l : List Item). items_of (traced_run text r) ++ l) (sym (items_append (serialize_outputs (system_out text r) (system_err text r)) (end_tag name ∷ [])))
      ∙ sym (items_append (traced_run text r) (serialize_outputs (system_out text r) (system_err text r) ++ (end_tag name ∷ []))))

  -- an Indent stands before the first child behind a description
  abbrev kids : Bool → Bool → Bool → List Event
  kids a b c = optional (serialize_output (bytes "stackTrace")) (given a (text_at text r 22))
      ++ (optional (serialize_output (bytes "system-out")) (given b (text_at text r 4)) ++ optional (serialize_output (bytes "system-err")) (given c (text_at text r 6)))

  indented-kids : (d a b c : Bool) → indented (given d (text_at text r 20)) (kids a b c) ≡ cond d (text_event (text_at text r 20) ∷ cond (a || (b || c)) (indent ∷ []) []) [] ++ kids a b c
  unfolding serialize_output
  indented-kids false a b c = refl
  indented-kids true true b c = refl
  indented-kids true false true c = refl
  indented-kids true false false true = refl
  indented-kids true false false false = refl

  pub run-closed : (name : List ℕ) → closed_run text r name ≡ indented (description text r) (run_children (run_of text r)) ++ (end_tag name ∷ [])
  unfolding closed_run traced_run described_run serialize_outputs
  run-closed name =
      append_assoc (described_run text r) (optional (serialize_output (bytes "stackTrace")) (stack_trace text r)) (serialize_outputs (system_out text r) (system_err text r) ++ (end_tag name ∷ []))
      ∙ ap (λ (l : List Event). described_run text r ++ l)
      (sym (append_assoc (optional (serialize_output (bytes "stackTrace")) (stack_trace text r)) (serialize_outputs (system_out text r) (system_err text r)) (end_tag name ∷ [])))
      ∙ sym (append_assoc (described_run text r) (kids (has_bit 7 r) (has_bit 1 r) (has_bit 2 r)) (end_tag name ∷ []))
      ∙ ap (λ (l : List Event). l ++ (end_tag name ∷ [])) (sym (indented-kids (has_bit 6 r) (has_bit 7 r) (has_bit 1 r) (has_bit 2 r)))

  run-named : (f x y : Bool) → tag_name (cond (x || y) (cond f 9 11) (cond f 10 12)) ≡ run_name (family f) (cond x failure (cond y failure error))
  unfolding tag_name tags
  run-named true true y = refl
  run-named true false true = refl
  run-named true false false = refl
  run-named false true y = refl
  run-named false false true = refl
  run-named false false false = refl

  -- the start tag with its attributes, and all the rest: a run as the definition writes it
  pub run-items : (f : Bool) (tag : ℕ) → tag ≡ run_tag (kind_of r) f → (entry 0 (tag_name tag) (length (slots text r (4 ∷ 5 ∷ 12 ∷ 13 ∷ [])) + 0) ∷ pairs_of_it (slots text r (4 ∷ 5 ∷ 12 ∷ 13 ∷ [])))
      ++ items_of (closed_run text r (tag_name tag)) ≡ items_of (serialize_rerun (family f) (run_of text r))
  unfolding serialize_rerun run_tag
  run-items f tag e =
      let n : tag_name tag ≡ run_name (family f) (run_of text r).kind = (ap tag_name e ∙ run-named f (eqb (kind_of r) 9) (eqb (kind_of r) 11)) in
      tag-then Start (tag_name tag) (slots text r (4 ∷ 5 ∷ 12 ∷ 13 ∷ [])) (stamped (timestamp r) ++ (timed (time r) ++ status_attributes (first text r) (second text r))) (indented (description text r)
      (run_children (run_of text r)) ++ (end_tag (tag_name tag) ∷ [])) (items_of (closed_run text r (tag_name tag))) (run-slots text r) (ap items_of (run-closed (tag_name tag)))
      ∙ ap (λ (l : List ℕ). items_of (start_tag l (stamped (timestamp r) ++ (timed (time r) ++ status_attributes (first text r) (second text r)))
      ∷ (indented (description text r) (run_children (run_of text r)) ++ (end_tag l ∷ [])))) n
