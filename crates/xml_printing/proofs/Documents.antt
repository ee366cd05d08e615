-- What is printed, by the length of the document; the program's sizes. Assumes nothing.
use Prim.Native.Nat.{ℕ, ◌≤◌, ◌<◌, min}
use mathlib.Core.Path.{◌≡◌, refl, sym, ap, ◌∙◌}
use mathlib.Core.List.{List}
use borrow.Author.Tests.{lt-ltb, le-ltb}
use lib.ListN.{length, take}
use lib.Seq.{take-length}
use Rattle.list_input.specs.of_area.Area.{zeros, laid}
use Rattle.xml_call.specs.of_public_claims.PublicListing.{refused_text}
use Rattle.xml_call.specs.of_xml_listing.XmlListing.{Lent, xml_listing}
use Rattle.xml_printing.specs.XmlPrinted.{xml_printed, buffers, program_prints}

-- the output area holds f, and n bytes of it fit
abbrev pub Prints : (k : ℕ) (f out : List ℕ) (n : ℕ) → Type 0
Prints k f out n = (out ≡ laid (zeros k) f) × (n ≡ min k (length f))

pub same_text : (k : ℕ) (f g out : List ℕ) (n : ℕ) → f ≡ g → Prints k f out n → Prints k g out n
same_text k f g out n e h = rw e at h

module _ (m n : ℕ) (b : Lent) (d document : List ℕ) (e : d ≡ document) where
  pub too_long : 65536 < length d → refused_text ≡ xml_printed m n b document
  unfolding xml_printed
  too_long h = sym (ap (xml_printed m n b) (sym e) ∙ rw (lt-ltb 65536 (length d) h) refl)

  pub printed : length d ≤ 65536 → xml_listing d m n b ≡ xml_printed m n b document
  unfolding xml_printed
  printed h = sym (ap (xml_printed m n b) (sym e) ∙ rw (le-ltb 65536 (length d) h) refl)

-- areas of the program's sizes; b are those lent
pub program : (m n : ℕ) (b : Lent) (out : List ℕ) (k : ℕ) (document : List ℕ) → m ≡ 16384 → n ≡ 16384 → b ≡ buffers →
    Prints b.out (xml_printed m n b (take (length document) document)) out k → Prints 65536 (program_prints document) out k
program m n b out k document p q r h = rw (p, q, r, take-length document) at h

pub sized : (records text scratch out : ℕ) → records ≡ 16384 → text ≡ 65536 → scratch ≡ 65536 → out ≡ 65536 → record { records = records; text = text; scratch = scratch; out = out } ≡ buffers
sized records text scratch out p q r t = rw (p, q, r, t) refl
