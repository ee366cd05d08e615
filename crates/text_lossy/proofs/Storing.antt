-- The text that is stored for bytes that go in lossily. Assumes nothing.
use Prim.Native.Nat.{ℕ, ◌*◌, ◌≤◌}
use mathlib.Core.Bool.{true, false}
use mathlib.Core.List.{List}
use mathlib.Core.Path.{◌≡◌, sym, ap, ◌∙◌}
use native.Mathlib.Omega.{arith}
use lib.ListN.{length, take}
use Rattle.utf8_lossy.specs.of_utf8.Utf8.{utf8}
use Rattle.utf8_lossy.specs.Lossy.{part_text, lossy, Parted}
use Rattle.utf8_lossy.specs.declared.Part.{Part}
use Rattle.utf8_lossy.proofs.Parts.{parted-whole, parted-bad}
use Rattle.utf8_lossy.proofs.Replacing.{utf8-lossy, lossy-same, length-lossy}
use Rattle.text_filter.specs.Filter.{filtered, unfiltered}
use Rattle.text_filter.proofs.Filtering.{utf8-filtered, unfiltered-filtered, length-filtered}
use Rattle.text_lossy.specs.LossyText.{lossy_text}

-- what the filter leaves of a part
module _ (s : List ℕ) (p : Part) (e : Parted s p) where
  pub filtered-whole : p.whole ≡ true → filtered (take p.width s) ≡ filtered (part_text s)
  filtered-whole q = ap filtered (parted-whole s p e q)

  -- all of U+FFFD
  pub filtered-bad : p.whole ≡ false → part_text s ≡ filtered (part_text s)
  filtered-bad q = let r = parted-bad s p e q in sym r ∙ ap filtered r

-- it is what the tree's texts are: UTF-8 without filtered characters
pub lossy-stored : (s : List ℕ) → (utf8 (lossy_text s) ≡ true) × (unfiltered (lossy_text s) ≡ true)
lossy-stored s = (utf8-filtered (lossy s) (utf8-lossy s), unfiltered-filtered (lossy s))

-- of UTF-8, what is stored without more ado
pub lossy-plain : (s : List ℕ) → utf8 s ≡ true → lossy_text s ≡ filtered s
lossy-plain s e = ap filtered (lossy-same s e)

pub length-stored : (s : List ℕ) → length (lossy_text s) ≤ 3 * length s
length-stored s = let g = length-filtered (lossy s) in let h = length-lossy s in omega arith
