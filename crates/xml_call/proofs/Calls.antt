-- What the three calls together print. Assumes nothing.
use Prim.Native.Nat.{ℕ}
use mathlib.Core.Path.{◌≡◌}
use mathlib.Core.List.{List}
use Rattle.tokenizer.specs.of_xml_machine.Tokens.{Result, tokens}
use Rattle.xml_listing.specs.XmlListing.{Lent, listing_for, xml_listing}
use Rattle.xml_listing.proofs.Answers.{Prints}

same-result : (source : List ℕ) (b : Lent) (k : ℕ) (r s : Result) → r ≡ s → (out : List ℕ) (n : ℕ) → Prints k (listing_for r source b) out n → Prints k (listing_for s source b) out n
same-result source b k r s e out n h = rw e at h

module _ (source : List ℕ) (events attributes : ℕ) (b : Lent) (k : ℕ) where
  pub listed : (r : Result) → r ≡ tokens source events attributes → (out : List ℕ) (n : ℕ) →
      Prints k (listing_for r source b) out n → Prints k (xml_listing source events attributes b) out n
  unfolding xml_listing
  listed r e out n h = same-result source b k r (tokens source events attributes) e out n h
