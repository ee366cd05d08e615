-- What is printed of a document, by what the tokenizer answered. Assumes nothing.
use Prim.Native.Nat.{ℕ, min}
use mathlib.Core.Path.{◌≡◌, sym, ap}
use mathlib.Core.List.{List}
use lib.ListN.{length}
use Rattle.public_call.specs.of_area.Area.{zeros, laid}
use Rattle.public_call.specs.of_public_claims.PublicListing.{public_listing}
use Rattle.xml_state.specs.of_xml_machine.Tokens.{Answer, done-with, refused}
use Rattle.xml_state.specs.declared.Tokenized.{Tokenized}
use Rattle.xml_state.specs.declared.Tokenized.TheVariants.{Table, Refused}
use Rattle.xml_state.specs.Answer.{told}
use Rattle.xml_listing.specs.XmlListing.{Lent, table_in, listing_by}

-- the output area holds f, and n bytes of it fit
abbrev pub Prints : (k : ℕ) (f out : List ℕ) (n : ℕ) → Type 0
Prints k f out n = (out ≡ laid (zeros k) f) × (n ≡ min k (length f))

module _ (events attributes source : List ℕ) (b : Lent) (k : ℕ) (out : List ℕ) (n : ℕ) where
  -- the listing of an answer is printed
  abbrev pub Shows : Answer → Type 0
  Shows a = Prints k (listing_by a events attributes source b) out n

  same_answer : (r s : Answer) → r ≡ s → Shows r → Shows s
  same_answer r s e h = rw e at h

  -- a table that was read and listed
  pub table-shown : (t : Tokenized) (m l : ℕ) → t ≡ Table m l → (ev at : List ℕ) → ev ≡ table_in m events → at ≡ table_in l attributes →
      Prints k (public_listing ev at source b.records b.text b.scratch b.out) out n → Shows (told t)
  table-shown t m l e ev at p q h = same_answer (done-with m l) (told t) (sym (ap told e)) (rw (p, q) at h)

  pub refused-shown : (t : Tokenized) (number byte : ℕ) → t ≡ Refused number byte → Shows (refused number byte) → Shows (told t)
  refused-shown t number byte e h = same_answer (refused number byte) (told t) (sym (ap told e)) h
