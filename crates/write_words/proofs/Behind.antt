-- Words put one behind the other, and the parts of a table. Assumes nothing.
use Prim.Native.Nat.{ℕ, ◌+◌, ◌/◌, ◌≤◌, ◌<◌}
use mathlib.Core.Path.{◌≡◌, refl, sym, ap, ◌∙◌}
use mathlib.Core.List.{List, ◌++◌}
use lib.ListN.{length, drop, get_or, drop_of_length-le}
use Rattle.std.specs.Prelude.{Option}
use Rattle.list_input.proofs.of_area.Lists.{drop-next}
use Rattle.list_text.specs.inside.Behind.{filled, Puts}
use Rattle.list_text.proofs.Putting.{Coming, coming-start, coming_on, coming_puts, coming-done}
use Rattle.write_words.specs.Bytes.{word_bytes, words_bytes, table_bytes}

-- i words are put: out₀ and k₀ are the area and its mark as they were, out and k as they are
pub record Going (out₀ words : List ℕ) (k₀ : Option ℕ) (out : List ℕ) (k : Option ℕ) (i : ℕ) : Type 0 where
  pub same : length out ≡ length out₀
  pub coming : Coming (filled k₀ out₀) (words_bytes words) (filled k out) (words_bytes (drop i words))

pub going_start : (out words : List ℕ) (k : Option ℕ) → Going out words k out k 0
going_start out words k = record { same = refl; coming = coming-start (filled k out) (words_bytes words) }

module _ {out₀ words out : List ℕ} {k₀ k : Option ℕ} {i : ℕ} (g : Going out₀ words k₀ out k i) where
  pub going_next : {out' : List ℕ} {k' : Option ℕ} → i < length words → (w : ℕ) → w ≡ get_or words i 0
      → length out' ≡ length out → Puts (filled k out) (word_bytes w) (filled k' out') → Going out₀ words k₀ out' k' (i + 1)
  unfolding words_bytes
  going_next h w e l p =
      let s : words_bytes (drop i words) ≡ word_bytes w ++ words_bytes (drop (i + 1) words) =
      ap words_bytes (drop-next words i h) ∙ ap (λ (x : ℕ). word_bytes x ++ words_bytes (drop (i + 1) words)) (sym e) in
      record { same = l ∙ g.same; coming = coming_puts (coming_on g.coming s) p }

  pub going_done : length words ≤ i → Puts (filled k₀ out₀) (words_bytes words) (filled k out)
  unfolding words_bytes
  going_done h = coming-done (coming_on g.coming (ap words_bytes (drop_of_length-le words {i = i} h)))

pub table-parts : (events attributes bytes : List ℕ) →
    word_bytes (length events / 5) ++ word_bytes (length attributes / 5) ++ word_bytes (length bytes) ++ words_bytes events ++ words_bytes attributes ++ bytes
    ≡ table_bytes (record { events = events; attributes = attributes; bytes = bytes })
unfolding table_bytes
table-parts events attributes bytes = refl
