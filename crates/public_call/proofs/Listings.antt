-- What is read, listed and printed, by the verdicts of the calls. Assumes nothing.
use Prim.Native.Nat.{ℕ, min}
use mathlib.Core.Path.{◌≡◌, refl, sym, ap, ap₂, ◌∙◌}
use mathlib.Core.Bool.{true}
use mathlib.Core.List.{List}
use native.Mathlib.Omega.{arith}
use lib.ListN.{length}
use Rattle.reader.specs.of_area.Area.{zeros, laid}
use Rattle.reader.specs.of_refusal.Refusal.{Refused, Outcome, accepted, refused, verdict_of, refusal_of}
use Rattle.reader.specs.of_refusal.declared.Verdict.TheVariants.{Accepted, Refused as IsRefused}
use Rattle.reader.specs.declared.Reading.{Reading}
use Rattle.reader.specs.Answer.{answer_of}
use Rattle.reader.specs.of_tree_report.Layout.{layout}
use Rattle.reader.specs.of_read_machine.Reading.{reading}
use Rattle.reader.proofs.of_read_machine.TreeReading.{reading-tree}
use Rattle.list_cleared.specs.of_lister.declared.Listing.{Listing}
use Rattle.list_cleared.specs.of_lister.Answer.{listing_from}
use Rattle.public_claims.specs.PublicListing.{refused_text, public_listing}
use Rattle.public_claims.specs.Once.{listed_once, once_left, printed_for}
use Rattle.public_claims.proofs.Once.{both-calls, once_gives}
use Rattle.public_call.proofs.Writing.{put}

-- ---- by the verdict of reading
module _ (x : Reading) (o : Outcome (Unit {0})) (e : x ≡ answer_of o) where
  verdict : x.verdict ≡ verdict_of o
  verdict = ap (λ (y : Reading). y.verdict) e

  -- the verdict Accepted tells that the definition accepts
  pub read-accepted : x.verdict ≡ Accepted → accepted tt ≡ o
  read-accepted v = go o verdict
    where
      go : (q : Outcome (Unit {0})) → x.verdict ≡ verdict_of q → accepted tt ≡ q
      go (accepted u) h = refl
      go (refused r) h = let z : ◌≡◌ {A = ℕ} 0 1 = cc in absurd (omega arith)

  -- the verdict IsRefused tells that the definition refuses, and how
  pub read-refused : x.verdict ≡ IsRefused → (r : Refused) × (refused r ≡ o)
  read-refused v = go o verdict
    where
      go : (q : Outcome (Unit {0})) → x.verdict ≡ verdict_of q → (r : Refused) × (refused r ≡ q)
      go (refused r) h = (r, refl)
      go (accepted u) h = let z : ◌≡◌ {A = ℕ} 0 1 = cc in absurd (omega arith)

  -- its refusal, passed on, is the definition's
  pub passed : (r : Refused) → refused r ≡ o → (l : Listing) → l ≡ record { verdict = IsRefused; length = 0; refusal = x.refusal } → l ≡ listing_from (refused r)
  passed r p l q =
      q ∙ ap (λ (y : Reading). record { verdict = IsRefused; length = 0; refusal = y.refusal }) e
      ∙ ap (λ (w : Outcome (Unit {0})). record { verdict = IsRefused; length = 0; refusal = refusal_of w }) (sym p)

-- what reading leaves where it accepts is a layout
pub left-layout : (events attributes source : List ℕ) (n m k : ℕ) (w t : List ℕ) → accepted tt ≡ (reading events attributes source n m k).outcome
    → w ≡ (reading events attributes source n m k).words → t ≡ (reading events attributes source n m k).text → layout w t ≡ true
left-layout events attributes source n m k w t e p q = ap₂ layout p q ∙ (reading-tree events attributes source n m k (sym e)).whole

-- ---- by the verdict of a listing
module _ (x : Listing) (o : Outcome ℕ) (e : x ≡ listing_from o) where
  said : x.verdict ≡ verdict_of o
  said = ap (λ (y : Listing). y.verdict) e

  listing-accepted : x.verdict ≡ Accepted → o ≡ accepted x.length
  listing-accepted v = go o e said
    where
      go : (q : Outcome ℕ) → x ≡ listing_from q → x.verdict ≡ verdict_of q → q ≡ accepted x.length
      go (accepted n) p h = ap accepted (sym (ap (λ (y : Listing). y.length) p))
      go (refused r) p h = let z : ◌≡◌ {A = ℕ} 0 1 = cc in absurd (omega arith)

  listing-refused : x.verdict ≡ IsRefused → (r : Refused) × (o ≡ refused r)
  listing-refused v = go o said
    where
      go : (q : Outcome ℕ) → x.verdict ≡ verdict_of q → (r : Refused) × (q ≡ refused r)
      go (refused r) h = (r, refl)
      go (accepted n) h = let z : ◌≡◌ {A = ℕ} 0 1 = cc in absurd (omega arith)

-- ---- what is printed of the one call: what the two calls print (`both-calls`)
module _ (events attributes source : List ℕ) (words text scratch k : ℕ) (x : Listing) (e : x ≡ listing_from (listed_once events attributes source words text scratch k)) where
  abbrev listing : List ℕ
  listing = public_listing events attributes source words text scratch k

  pub once-printed : (out : List ℕ) → x.verdict ≡ Accepted → out ≡ once_left events attributes source words text scratch k → (out ≡ laid (zeros k) listing) × (x.length ≡ min k (length listing))
  once-printed out v p =
      let r = reading events attributes source words text scratch in
      let g = once_gives events attributes source words text scratch k x.length (listing-accepted x _ e v) in
      let h = put r.words r.text k x.length out g.0 (p ∙ g.1.0) in
      (h.0 ∙ ap (laid (zeros k)) (sym g.1.1), h.1 ∙ ap (λ (f : List ℕ). min k (length f)) (sym g.1.1))

  pub once-unprinted : x.verdict ≡ IsRefused → listing ≡ refused_text
  once-unprinted v =
      let q = listing-refused x (listed_once events attributes source words text scratch k) e v in
      sym (both-calls events attributes source words text scratch k)
      ∙ ap (λ (o : Outcome ℕ). printed_for o (once_left events attributes source words text scratch k)) q.1
