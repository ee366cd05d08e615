-- What is printed of a document, by its length and by what the tokenizer answered. Assumes nothing.
use Prim.Native.Nat.{ℕ, ◌≤◌, ◌<◌}
use mathlib.Core.Path.{◌≡◌, refl, sym, ap, ◌∙◌}
use mathlib.Core.List.{List}
use borrow.Author.Tests.{lt-ltb, le-ltb}
use lib.ListN.{length}
use Rattle.xml_listing.specs.of_public_claims.PublicListing.{refused_text}
use Rattle.xml_listing.specs.of_read_machine.Reading.{reading}
use Rattle.tokenizer.specs.of_xml_machine.Tokens.{Answer, done-with, refused, Result, tokens}
use Rattle.xml_listing.specs.of_xml_state.declared.Tokenized.{Tokenized}
use Rattle.xml_listing.specs.of_xml_state.declared.Tokenized.TheVariants.{Table, Refused}
use Rattle.xml_listing.specs.of_xml_state.Answer.{told}
use Rattle.xml_listing.specs.XmlListing.{table_in}
use Rattle.document_printing.specs.Printed.{read_printed, tokens_by, tokens_printed, document_printed}

module _ (k : ℕ) (events attributes source : List ℕ) (t : Tokenized) where
  abbrev by : Answer → List ℕ
  by a = tokens_by k a events attributes source

  pub tokens-table : (m l : ℕ) → t ≡ Table m l → (ev at : List ℕ) → ev ≡ table_in m events → at ≡ table_in l attributes
      → read_printed k (reading ev at source 16384 65536 65536) ≡ by (told t)
  tokens-table m l e ev at p q = rw (p, q) (ap by (sym (ap told e)))

  pub tokens-refused : (number byte : ℕ) → t ≡ Refused number byte → refused_text ≡ by (told t)
  tokens-refused number byte e = ap by (sym (ap told e))

module _ (k : ℕ) (source : List ℕ) where
  pub too_long : 65536 < length source → refused_text ≡ document_printed k source
  unfolding document_printed
  too_long h = rw (lt-ltb 65536 (length source) h) refl

  -- areas of the program's sizes
  pub tokenized : (m n : ℕ) (r : Result) → m ≡ 16384 → n ≡ 16384 → r ≡ tokens source m n → length source ≤ 65536 → tokens_printed k r source ≡ document_printed k source
  unfolding document_printed
  tokenized m n r p q e h =
      let t : r ≡ tokens source 16384 16384 = rw (p, q) at e in
      ap (λ (x : Result). tokens_printed k x source) t ∙ rw (le-ltb 65536 (length source) h) refl
