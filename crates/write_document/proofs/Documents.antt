-- What is written of a report, from its parts and along the records. Assumes nothing.
use Prim.Native.Nat.{ℕ, ◌+◌, ◌-◌}
use mathlib.Core.Path.{◌≡◌, refl, sym, ap, ◌∙◌}
use mathlib.Core.List.{List, [], ◌∷◌, ◌++◌, append-nil}
use mathlib.Core.Bool.{true, false}
use native.Mathlib.Omega.{arith}
use lib.ListN.{length, take, drop}
use Rattle.list_sums.specs.inside.Rows.{stands, records_in}
use Rattle.list_sums.proofs.Records.{records-here, records-over}
use Rattle.names.specs.Bytes.{bytes}
use Rattle.names.specs.Tags as tag
use Rattle.table.specs.Kinds as event
use Rattle.list_sums.specs.of_tree_report.Fields.{live}
use Rattle.write_marks.specs.of_write_report.Written.{declaration}
use Rattle.write_marks.specs.of_write_table.Laid.{Item, entry, pairs_of_it, items_of}
use Rattle.write_marks.specs.of_write_table.inside.Putting.{Areas, Wrote}
use Rattle.write_marks.proofs.of_write_table.Writing.{coming_on, coming-wrote, coming-done}
use Rattle.write_suite.proofs.of_write_rows.Going.{Going}
use Rattle.write_marks.specs.of_write_items.inside.Values.{tag_name}
use Rattle.write_marks.specs.of_write_items.inside.Slots.{slots}
use Rattle.write_marks.specs.of_write_items.inside.Document.{report_codes, head_items, tail_items, document_in, document_items}
use Rattle.write_marks.specs.of_write_items.inside.Suite.{suites_items}

-- ---- a loop that looks for one record and puts what is written of it and those behind it
module _ (shown : List (List ℕ) → List Item) {s₀ : Areas} {words : List ℕ} {s : Areas} {at : ℕ} (g : Going shown s₀ words s at) where
  pub going-over : shown [] ≡ [] → stands (take (length words - at) (drop at words)) ≡ false → Wrote s₀ (shown (records_in words)) s
  going-over none e = coming-done (coming_on g.coming (ap shown (records-over words at e) ∙ none))

  pub going-last : {s' : Areas} (f : List Item) → stands (take (length words - at) (drop at words)) ≡ true
      → shown (take (at + 32 - at) (drop at words) ∷ records_in (drop (at + 32) words)) ≡ f → Wrote s f s' → Wrote s₀ (shown (records_in words)) s'
  going-last f t e w = coming-done (coming-wrote (coming_on g.coming (ap shown (records-here words at t) ∙ e ∙ sym (append-nil f))) w)

-- ---- the report
module _ (text : List ℕ) where
  pub head-parts : (r : List ℕ) → (entry event.other (bytes "xml version=\"1.0\" encoding=\"UTF-8\"") 0 ∷ [])
      ++ (entry event.start (tag_name tag.testsuites) (length (slots text r report_codes) + 0) ∷ pairs_of_it (slots text r report_codes)) ≡ head_items text r
  unfolding head_items items_of declaration
  head-parts r =
      let z : length (slots text r report_codes) + 0 ≡ length (slots text r report_codes) = omega arith in
      rw z refl

  pub document-over : document_in text [] ≡ []
  unfolding document_in
  document-over = refl

  module _ (r : List ℕ) (rs : List (List ℕ)) where
    pub document-parts : head_items text r ++ (suites_items text rs ++ tail_items) ≡ document_items text r rs
    unfolding document_items
    document-parts = refl

    pub document-live : live r ≡ true → document_in text (r ∷ rs) ≡ document_items text r rs
    unfolding document_in
    document-live e = rw e refl

    pub document-dead : live r ≡ false → document_in text (r ∷ rs) ≡ document_in text rs
    unfolding document_in
    document-dead e = rw e refl
