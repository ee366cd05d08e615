-- What is printed of a table, by what reading answered, and of an input, by what was found in it. Assumes nothing.
use Prim.Native.Nat.{ℕ}
use mathlib.Core.Path.{◌≡◌, refl, ap, ◌∙◌}
use mathlib.Core.List.{List}
use mathlib.Core.Option.{Option, none, some}
use Rattle.writer.specs.of_refusal.Refusal.{Refused, Outcome, accepted, refused}
use Rattle.list_printing.specs.of_read_machine.Reading.{Read, reading}
use Rattle.list_printing.specs.of_public_claims.PublicListing.{refused_text, behind_reading}
use Rattle.list_printing.specs.of_list_input.Input.{Table, input_of}
use Rattle.write_printing.specs.Printed.{tree_printed, read_printed, found_printed, program_writes}

-- areas of the program's sizes
module _ (events attributes source : List ℕ) (m n s : ℕ) (pm : m ≡ 16384) (pn : n ≡ 65536) (ps : s ≡ 65536) where
  abbrev r : Read
  r = reading events attributes source m n s

  as-printed : read_printed r ≡ read_printed (reading events attributes source 16384 65536 65536)
  as-printed = rw (pm, pn, ps) refl

  pub report-read : (w t : List ℕ) → accepted tt ≡ r.outcome → w ≡ r.words → t ≡ r.text → tree_printed w t ≡ read_printed (reading events attributes source 16384 65536 65536)
  report-read w t e p q = rw (p, q) (ap (λ (o : Outcome (Unit {0})). behind_reading o (tree_printed r.words r.text)) e) ∙ as-printed

  pub report-refused : (k : Refused) → refused k ≡ r.outcome → refused_text ≡ read_printed (reading events attributes source 16384 65536 65536)
  report-refused k e = ap (λ (o : Outcome (Unit {0})). behind_reading o (tree_printed r.words r.text)) e ∙ as-printed

-- by what was found in the input
pub found-table : (o : Option Table) (t : Table) → some t ≡ o → read_printed (reading t.events t.attributes t.source 16384 65536 65536) ≡ found_printed o
unfolding found_printed
found-table o t e = ap found_printed e

pub found_none : (o : Option Table) → none ≡ o → refused_text ≡ found_printed o
unfolding found_printed
found_none o e = ap found_printed e

pub program : (m n : ℕ) (o : Option Table) (input : List ℕ) → m ≡ 16384 → n ≡ 16384 → o ≡ input_of m n input → found_printed o ≡ program_writes input
program m n o input p q e = ap found_printed (e ∙ rw (p, q) refl)
