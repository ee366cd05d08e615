-- A text put into a record of a draft, against the definition. Assumes nothing.
use Prim.Native.Nat.{ℕ, ◌+◌, ◌-◌, ◌*◌, ◌≤◌, ◌<◌}
use mathlib.Core.Path.{◌≡◌, refl, sym, ap, ◌∙◌}
use mathlib.Core.Bool.{Bool, true, false, cond}
use mathlib.Core.List.{List, [], ◌++◌, append-nil}
use native.Mathlib.Omega.{arith}
use lib.ListN.{length, take, drop, set, drop_of_length-le}
use lib.Seq.{take_all}
use borrow.Rule.Slice.PartMut.{put_mid}
use Rattle.std.specs.Prelude.{Result, Ok, Err}
use Rattle.build_draft.proofs.of_area.Parts.{rest_part, rest_back}
use Rattle.build_draft.specs.of_refusal.Refusal.{Outcome, accepted}
use Rattle.build_draft.specs.of_refusal.declared.Cause.{Cause}
use Rattle.build_draft.specs.of_refusal.declared.Cause.TheVariants as cause
use Rattle.build_draft.specs.of_tree_record.Record.{mask_of, has_bit, marked}
use Rattle.build_draft.specs.of_tree_put.Put.{put_text}
use Rattle.build_draft.specs.declared.Builder.{Builder}
use Rattle.build_draft.specs.Draft.{Draft, draft_of, ◌>>=◌, asks, is_record, on_record_of, with_words}
use Rattle.build_draft.specs.Parts.{text_for, keeping, putting}
use Rattle.build_text.proofs.Keeping.{is-kept}
use Rattle.build_draft.proofs.Steps.{plain, then-refused, then-done, is-done}

-- ---- the words
-- a function that leaves no words as they are: `set` has nothing to change
none-marked : (t : Bool) (v : ℕ) → ◌≡◌ {A = List ℕ} (cond t [] (set [] 1 v)) []
none-marked true v = refl
none-marked false v = refl

pub put-nothing : (o k start n : ℕ) → put_text o k start n [] ≡ []
unfolding marked
put-nothing o k start n = none-marked (has_bit k []) (mask_of k)

module _ (i : ℕ) (words : List ℕ) (f : List ℕ → List ℕ) where
  -- the record lies behind the area's end
  pub record-behind : f [] ≡ [] → length words < i * 32 → words ≡ on_record_of i f words
  record-behind e h =
      let n : drop (i * 32) words ≡ [] = drop_of_length-le words {i = i * 32} (omega arith) in
      sym (ap (λ (x : List ℕ). x ++ f (drop (i * 32) words)) (take_all (i * 32) words (omega arith)) ∙ ap (λ (x : List ℕ). words ++ f x) n ∙ ap (λ (x : List ℕ). words ++ x) e ∙ append-nil words)

  pub record-back : {ys : List ℕ} → ys ≡ f (take (length words - i * 32) (drop (i * 32) words)) → put_mid (i * 32) (length words - i * 32) words ys ≡ on_record_of i f words
  record-back {ys} e = rest_back words (i * 32) ys ∙ ap (λ (x : List ℕ). take (i * 32) words ++ x) (e ∙ ap f (rest_part words (i * 32)))

-- ---- a text put into record i
module _ (b : Builder) (words text s : List ℕ) (i o k : ℕ) (lossy : Bool) where
  -- what follows where the text is kept
  into : Draft → Outcome Draft
  into e = accepted (with_words e (on_record_of i (put_text o k b.bytes (length (text_for lossy s))) e.words))

  pub put-nowhere : is_record b words i ≡ false → (words' text' : List ℕ) → draft_of (Err cause.NotLayout) words' text' ≡ putting i o k lossy s (plain b words text)
  unfolding putting asks draft_of
  put-nowhere e words' text' = rw e refl

  module _ (e : is_record b words i ≡ true) (step : Result Builder Cause) (text' : List ℕ) (h : (w : List ℕ) → draft_of step w text' ≡ keeping lossy s (plain b w text)) where
    is-put : (keeping lossy s (plain b words text) >>= into) ≡ putting i o k lossy s (plain b words text)
    unfolding putting asks into
    is-put = rw e refl

    pub put_refused : {why : Cause} → step ≡ Err why → draft_of step words text' ≡ putting i o k lossy s (plain b words text)
    put_refused g = then-refused step words text' into words text' g (h words) ∙ is-put

    module _ {c : Builder} (g : step ≡ Ok c) where
      longer : c.bytes ≡ b.bytes + length (text_for lossy s)
      longer = ap (λ (x : Draft). x.builder.bytes) (is-kept lossy s (plain b words text) (plain c words text') (is-done step words text' g (h words))).made

      pub put-longer : b.bytes ≤ c.bytes
      put-longer = let l = longer in omega arith

      pub put-done : {words' : List ℕ} → words' ≡ on_record_of i (put_text o k b.bytes (c.bytes - b.bytes)) words → draft_of (Ok c) words' text' ≡ putting i o k lossy s (plain b words text)
      unfolding draft_of into
      put-done {words'} w =
          let l = longer in
          let n : c.bytes - b.bytes ≡ length (text_for lossy s) = omega arith in
          ap (λ (x : List ℕ). accepted (plain c x text')) (w ∙ ap (λ (x : ℕ). on_record_of i (put_text o k b.bytes x) words) n) ∙ then-done step words text' into g (h words) ∙ is-put
