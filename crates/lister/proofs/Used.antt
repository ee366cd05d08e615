-- The parts of both areas that are used. Assumes nothing.
use Prim.Native.Nat.{ℕ, min}
use mathlib.Core.Path.{◌≡◌, sym, ap, ◌∙◌}
use mathlib.Core.List.{List}
use lib.ListN.{length, take}
use Rattle.tree_layout.specs.of_area.Limits.{most_words, most_bytes}
use Rattle.tree_layout.specs.of_tree_report.Layout.{used_words, used_text}
use Rattle.list_suites.specs.of_list_text.Listing.{listing_of}
use Rattle.list_suites.proofs.of_list_values.Cutting.{take-least}
use Rattle.list_suites.specs.of_list_sums.inside.Rows.{records_in}
use Rattle.list_suites.proofs.of_list_sums.Used.{records-used}
use Rattle.lister.specs.inside.Shown.{report_shown}
use Rattle.lister.proofs.Unrolling.{listing-shown}

pub used-shown : (words text : List ℕ) (limit bytes : ℕ) → limit ≡ min (length words) most_words
    → bytes ≡ min (length text) most_bytes → report_shown (take bytes text) (records_in (take limit words)) ≡ listing_of words text
used-shown words text limit bytes p q =
    let w : take limit words ≡ used_words words = ap (λ (n : ℕ). take n words) p ∙ take-least words most_words in
    let t : take bytes text ≡ used_text text = ap (λ (n : ℕ). take n text) q ∙ take-least text most_bytes in
    ap (λ (l : List ℕ). report_shown l (records_in (take limit words))) t
    ∙ ap (λ (l : List ℕ). report_shown (used_text text) (records_in l)) w
    ∙ ap (report_shown (used_text text)) (records-used words)
    ∙ sym (listing-shown words text)
