-- The areas are long enough for what they hold, and zero behind it. Assumes nothing.
use Prim.Native.Nat.{ℕ, ◌+◌, ◌-◌, ◌*◌, ◌≤◌}
use mathlib.Core.Path.{◌≡◌, sym, ap, ◌∙◌}
use mathlib.Core.List.{List}
use native.Mathlib.Omega.{arith}
use lib.ListN.{length, take, drop, length-append, length-replicate, length-drop, take-append-drop}
use lib.Seq.{take_at, drop_at}
use Rattle.trim.specs.of_area.Area.{zeros}
use Rattle.trim.proofs.of_area.Parts.{rest_part}
use Rattle.trim.specs.of_utf8.Characters.{joined}
use Rattle.read_content.specs.Content.{Content}
use Rattle.read_content.specs.inside.Holds.{Holds}
use Rattle.read_content.specs.declared.Content.{Content as CodedContent}
use Rattle.read_content.proofs.Records.{joined-size}

zero-size : (n : ℕ) → length (zeros n) ≡ n
zero-size n = length-replicate {A = ℕ} n 0

module _ {words text scratch attributes source : List ℕ} {c : CodedContent} {s : Content} (hd : Holds words text scratch attributes source c s) where
  -- the words: records in use, and the room behind them
  pub words_size : length words ≡ c.used * 32 + hd.room
  words_size =
      let a = ap length hd.records ∙ length-append (joined s.records) (zeros hd.room) in
      let b = joined-size s.records hd.whole in
      let d = zero-size hd.room in
      let e = hd.used in
      omega arith

  -- the text area: bytes in use, and those left
  pub text-size : length text ≡ c.fill + hd.left
  text-size =
      let a = ap length hd.stored ∙ length-append s.texts (zeros hd.left) in
      let d = zero-size hd.left in
      let e = hd.fill in
      omega arith

  -- the records in use lie in the words: the bound at `words[used * 32..]`
  pub fits-words : c.used * 32 ≤ length words
  fits-words = let e = words_size in omega arith

  -- the texts in use lie in the text area: the bound at `text[fill..]`
  pub fits-text : c.fill ≤ length text
  fits-text = let e = text-size in omega arith

  -- the open description, there or not, is no longer than scratch: the bound at the part behind it
  pub fits-description : c.description ≤ length scratch
  fits-description = hd.within

  -- the text of a child begins in scratch ..
  pub fits-from : c.child ≤ length scratch
  fits-from = let a = hd.begins in let b = hd.within in omega arith

  -- .. and ends there
  pub fits-gathered : c.child + c.gathered ≤ length scratch
  fits-gathered =
      let f = fits-from in
      let n = length-drop c.child scratch in
      let a =
      sym (ap length (take-append-drop c.gathered (drop c.child scratch))) ∙ length-append (take c.gathered (drop c.child scratch)) (drop c.gathered (drop c.child scratch)) in
      let b = ap length hd.behind in
      let d = hd.gathered in
      omega arith

  pub own-zero : drop (c.used * 32) words ≡ zeros (length words - c.used * 32)
  own-zero =
      let e : length (joined s.records) ≡ c.used * 32 = joined-size s.records hd.whole ∙ ap (λ (n : ℕ). n * 32) (sym hd.used) in
      let n : hd.room ≡ length words - c.used * 32 = (let q = words_size in omega arith) in
      ap (drop (c.used * 32)) hd.records ∙ drop_at (joined s.records) (zeros hd.room) (c.used * 32) e ∙ ap zeros n

  -- the part that is lent to a new element is cleared
  pub own-part : take (length words - c.used * 32) (drop (c.used * 32) words) ≡ zeros (length (take (length words - c.used * 32) (drop (c.used * 32) words)))
  own-part =
      let n : length (take (length words - c.used * 32) (drop (c.used * 32) words)) ≡ length words - c.used * 32 = ap length (rest_part words (c.used * 32)) ∙ length-drop (c.used * 32) words in
      rest_part words (c.used * 32) ∙ own-zero ∙ ap zeros (sym n)

  -- the words in use are the definition's records, one behind the other
  pub own-front : take (c.used * 32) words ≡ joined s.records
  own-front =
      let e : length (joined s.records) ≡ c.used * 32 = joined-size s.records hd.whole ∙ ap (λ (n : ℕ). n * 32) (sym hd.used) in
      ap (take (c.used * 32)) hd.records ∙ take_at (joined s.records) (zeros hd.room) (c.used * 32) e

  -- the text area behind the texts is cleared
  pub text-zero : drop c.fill text ≡ zeros (length text - c.fill)
  text-zero =
      let n : hd.left ≡ length text - c.fill = (let q = text-size in omega arith) in
      ap (drop c.fill) hd.stored ∙ drop_at s.texts (zeros hd.left) c.fill (sym hd.fill) ∙ ap zeros n

  -- the text area's front is the definition's texts
  pub text-front : take c.fill text ≡ s.texts
  text-front = ap (take c.fill) hd.stored ∙ take_at s.texts (zeros hd.left) c.fill (sym hd.fill)

  -- the slice that the code takes for a description that no child's text was put over is the definition's
  pub description-part : c.child ≡ c.description → take c.description scratch ≡ s.description
  description-part = hd.described

  -- the slice that the code takes for the gathered text is the definition's
  pub gathered-part : take c.gathered (drop c.child scratch) ≡ s.gathered
  gathered-part = hd.behind
