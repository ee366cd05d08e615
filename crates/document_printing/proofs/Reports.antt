-- What is printed of a table, by what reading answered, and of an input, by what was found in it. Assumes nothing.
use Prim.Native.Nat.{ℕ}
use mathlib.Core.Path.{◌≡◌, refl, ap, ◌∙◌}
use mathlib.Core.List.{List}
use mathlib.Core.Option.{Option, none, some}
use Rattle.xml_writer.specs.of_refusal.Refusal.{Refused, Outcome, accepted, refused}
use Rattle.xml_listing.specs.of_read_machine.Reading.{Read, reading}
use Rattle.xml_listing.specs.of_public_claims.PublicListing.{refused_text, behind_reading}
use Rattle.write_printing.specs.of_list_input.Input.{Table, input_of}
use Rattle.document_printing.specs.Printed.{tree_printed, read_printed, document_printed, found_printed, program_spells}

-- areas of the program's sizes
module _ (k : ℕ) (events attributes source : List ℕ) (m n s : ℕ) (pm : m ≡ 16384) (pn : n ≡ 65536) (ps : s ≡ 65536) where
  abbrev r : Read
  r = reading events attributes source m n s

  as-printed : read_printed k r ≡ read_printed k (reading events attributes source 16384 65536 65536)
  as-printed = rw (pm, pn, ps) refl

  pub report-read : (w t : List ℕ) → accepted tt ≡ r.outcome → w ≡ r.words → t ≡ r.text → tree_printed k w t ≡ read_printed k (reading events attributes source 16384 65536 65536)
  report-read w t e p q = rw (p, q) (ap (λ (o : Outcome (Unit {0})). behind_reading o (tree_printed k r.words r.text)) e) ∙ as-printed

  pub report-refused : (why : Refused) → refused why ≡ r.outcome → refused_text ≡ read_printed k (reading events attributes source 16384 65536 65536)
  report-refused why e = ap (λ (o : Outcome (Unit {0})). behind_reading o (tree_printed k r.words r.text)) e ∙ as-printed

-- by what was found in the input
module _ (k : ℕ) (o : Option Table) (input : List ℕ) where
  pub found-table : (t : Table) → some t ≡ o → read_printed k (reading t.events t.attributes t.source 16384 65536 65536) ≡ found_printed k o input
  unfolding found_printed
  found-table t e = ap (λ (x : Option Table). found_printed k x input) e

  pub found_none : none ≡ o → document_printed k input ≡ found_printed k o input
  unfolding found_printed
  found_none e = ap (λ (x : Option Table). found_printed k x input) e

  pub program : (m n : ℕ) → k ≡ 65536 → m ≡ 16384 → n ≡ 16384 → o ≡ input_of m n input → found_printed k o input ≡ program_spells input
  program m n h p q e = ap (λ (x : Option Table). found_printed k x input) (e ∙ rw (p, q) refl) ∙ ap (λ (i : ℕ). found_printed i (input_of 16384 16384 input) input) h
