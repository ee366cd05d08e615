-- The whole answer of listing, from its number of bytes or cause. Assumes nothing.
use Prim.Native.Nat.{ℕ}
use mathlib.Core.Path.{◌≡◌, refl, ap, ◌∙◌}
use mathlib.Core.List.{List}
use Rattle.tree_layout.specs.of_refusal.Refusal.{refused, late, no_refusal}
use Rattle.tree_layout.specs.of_refusal.declared.Cause.{Cause}
use Rattle.tree_layout.specs.of_refusal.declared.Refusal.{Refusal}
use Rattle.tree_layout.specs.of_refusal.declared.Verdict.TheVariants.{Accepted}
use Rattle.tree_layout.specs.of_area.Answer.{Answer, gives, refuses}
use Rattle.list_suites.specs.of_list_text.Listing.{listing_answer, outcome_of, listed, output_of}
use Rattle.lister.specs.declared.Listing.{Listing}
use Rattle.lister.specs.Answer.{listing_from}

module _ (words text : List ℕ) (n : ℕ) {out : List ℕ} where
  pub refused-whole : {r : Listing} {c : Cause} → r ≡ listing_from (refused (late c))
      → (refuses c ≡ listing_answer words text n) × (out ≡ output_of words text n) → (r ≡ listing_from (listed words text n)) × (out ≡ output_of words text n)
  refused-whole e p = (e ∙ ap (λ (a : Answer ℕ). listing_from (outcome_of a)) p.0, p.1)

  pub listed-whole : {f : Refusal} {m : ℕ} → f ≡ no_refusal → (gives m ≡ listing_answer words text n) × (out ≡ output_of words text n)
      → (◌≡◌ {A = Listing} (record { verdict = Accepted; length = m; refusal = f }) (listing_from (listed words text n))) × (out ≡ output_of words text n)
  listed-whole {f} {m} e p = (whole e ∙ ap (λ (a : Answer ℕ). listing_from (outcome_of a)) p.0, p.1)
    where
      whole : f ≡ no_refusal → ◌≡◌ {A = Listing} (record { verdict = Accepted; length = m; refusal = f }) (listing_from (outcome_of (gives m)))
      whole q = rw q refl
