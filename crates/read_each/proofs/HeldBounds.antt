-- The areas are long enough for what they hold. Assumes nothing.
use Prim.Native.Nat.{ℕ, ◌+◌, ◌*◌, ◌≤◌}
use mathlib.Core.List.{List}
use native.Mathlib.Omega.{arith}
use lib.ListN.{length}
use Rattle.read_free.specs.of_read_element.Attributes.{Given}
use Rattle.read_free.specs.of_read_element.inside.Held.{Held}
use Rattle.read_attribute.proofs.of_read_extra_record.Storing.{text-size}
use Rattle.read_attribute.proofs.of_read_extra_record.NewExtras.{own-size}

-- the texts in use lie in the text area
pub held-fill : {own text : List ℕ} {extras fill : ℕ} {g : Given} → Held own text extras fill g → fill ≤ length text
held-fill {own} {text} {extras} {fill} {g} hd =
    let s = text-size text g.texts hd.left hd.stored in
    let f = hd.filled in omega arith

-- the element's record and those of its extras lie in its words
pub held-extras : {own text : List ℕ} {extras fill : ℕ} {g : Given} → Held own text extras fill g → extras * 32 + 32 ≤ length own
held-extras hd = let s = own-size hd in omega arith
