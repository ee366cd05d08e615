-- The stored key of an extra. Assumes nothing.
use Prim.Native.Nat.{ℕ, ◌+◌, ◌*◌}
use mathlib.Core.Path.{◌≡◌, sym, ap, ◌∙◌}
use mathlib.Core.List.{List}
use lib.ListN.{get_or, take, drop}
use lib.Seq.{get_or-drop}
use Rattle.read_places.specs.inside.Stands.{stored_key}

-- the bytes that two words of extra i's record tell of
pub key-words : (own text : List ℕ) (i : ℕ) {k : List ℕ} {x y x' y' : ℕ} → k ≡ take y (drop x text) → x ≡ x'
    → x' ≡ get_or own (i * 32 + 32 + 2) 0 → y ≡ y' → y' ≡ get_or own (i * 32 + 32 + 3) 0 → k ≡ stored_key own text i
key-words own text i {k} {x} {y} e a b c d =
    e
    ∙ ap (λ (n : ℕ). take y (drop n text)) (a ∙ b ∙ sym (get_or-drop (i * 32 + 32) own 2 0))
    ∙ ap (λ (n : ℕ). take n (drop (get_or (drop (i * 32 + 32) own) 2 0) text)) (c ∙ d ∙ sym (get_or-drop (i * 32 + 32) own 3 0))
