-- What an element may not lack, and the record of an extra, are the tables'. Assumes nothing.
use Prim.Native.Nat.{ℕ, suc}
use mathlib.Core.Bool.{cond}
use mathlib.Core.List.{List, [], ◌∷◌, map}
use mathlib.Core.Path.{◌≡◌, refl}
use native.Mathlib.Omega.{arith}
use lib.ListN.{length}
use Rattle.read_content.specs.of_names.Names.{same_bytes}
use Rattle.read_content.specs.of_tree_record.Record.{marked}
use Rattle.build_draft.specs.of_tree_put.Put.{blank, put_pair, put_text}
use Rattle.read_content.specs.of_read_element.Outcome.{Place, need}
use Rattle.read_content.specs.of_read_element.Attributes.{Given, complete, place_of}
use Rattle.read_content.specs.of_schema.Schema.{text, extra, table_of}
use Rattle.read_content.specs.of_schema.Records.{words_of, encode}
use Rattle.read_content.specs.of_schema.Texts.{fields_of}
use Rattle.read_content.specs.of_schema.Stores.{row_at, splice}
use Rattle.schema_agree.specs.Required.{complete_by}
use Rattle.schema_agree.proofs.Puts.{put-words}

-- the kinds of records that are read from a tag (rule A10)
abbrev kinds : List ℕ
kinds = 1 ∷ 2 ∷ 3 ∷ 4 ∷ 5 ∷ 6 ∷ 7 ∷ 8 ∷ 9 ∷ 10 ∷ 11 ∷ 12 ∷ []

pub complete-kinds : (p : Place) (g : Given) → map (λ (k : ℕ). complete p k g) kinds ≡ map (λ (k : ℕ). complete_by (table_of k) p g) kinds
unfolding complete need
complete-kinds p g = refl

-- a key of b bytes at a, and a value of d bytes at c (rule A7)
pub extra-put : (k a b c d : ℕ) → put_text 4 1 c d (put_text 2 0 a b (blank k)) ≡ encode k extra (record { start = a; size = b }, (record { start = c; size = d }, tt))
unfolding marked encode
extra-put k a b c d = refl

-- an extra is looked for by its key, and another value goes to the value's words (rule A8)
pub extra-key : (texts key r : List ℕ) (rs : List (List ℕ))
    → place_of texts key (r ∷ rs) ≡ cond (same_bytes (fields_of extra texts r).0 key) 0 (suc (place_of texts key rs))
extra-key texts key r rs = refl

pub extra-value : (a n : ℕ) (r : List ℕ) → length r ≡ 32 → put_pair 4 a n r ≡ splice (row_at extra 1).word (words_of text (record { start = a; size = n })) r
extra-value a n r h = put-words 4 (a ∷ n ∷ []) r (omega arith)
