-- A record for a property or extra, and its texts put there. Assumes nothing.
use Prim.Native.Nat.{ℕ, ◌+◌, ◌-◌, ◌*◌, ◌≤◌, ◌<◌}
use mathlib.Core.Path.{◌≡◌, ap, ◌∙◌}
use mathlib.Core.List.{List}
use native.Mathlib.Omega.{arith}
use lib.Dec.{ltb}
use lib.ListN.{length, set, length-set}
use borrow.Author.Tests.{lt-ltb, le-ltb, ltb-true}
use Rattle.std.specs.Prelude.{Result, Ok, Err}
use Rattle.list_values.specs.of_refusal.Refusal.{Outcome, accepted}
use Rattle.list_values.specs.of_refusal.declared.Cause.{Cause}
use Rattle.list_values.specs.of_refusal.declared.Cause.TheVariants as cause
use Rattle.list_values.specs.of_tree_record.Words as word
use Rattle.list_values.specs.of_tree_record.Bits as bit
use Rattle.build_kinds.specs.of_tree_put.Put.{put_text}
use Rattle.build_kinds.specs.of_build_draft.declared.Builder.{Builder}
use Rattle.build_kinds.specs.of_build_draft.Draft.{Draft, draft_of, next, room_for, on_record_of, last_of}
use Rattle.build_kinds.specs.of_build_draft.Parts.{taking, exchanged}
use Rattle.build_kinds.specs.of_build_draft.Calls.{marks, put_pair_in}
use Rattle.build_text.proofs.Keeping.{asks-passed}
use Rattle.build_kinds.proofs.of_build_draft.Steps.{plain, then-refused, then-done, is-done}

-- ---- the texts in the record that was taken last
module _ (b : Builder) (words : List ℕ) (place x y z : ℕ) {last : ℕ} (l : last ≡ last_of b) {words₁ : List ℕ}
    (w : words₁ ≡ on_record_of last (λ r. put_text word.value bit.value y (z - y) (put_text word.key bit.key x (y - x) r)) words) where
  filled : words₁ ≡ on_record_of (last_of b) (λ r. put_text word.value bit.value y (z - y) (put_text word.key bit.key x (y - x) r)) words
  filled = w ∙ ap (λ (i : ℕ). on_record_of i (λ r. put_text word.value bit.value y (z - y) (put_text word.key bit.key x (y - x) r)) words) l

  pub pair-last : last ≤ place → (text : List ℕ) → plain b words₁ text ≡ put_pair_in place x y z (plain b words text)
  unfolding put_pair_in
  pair-last h text = rw (le-ltb place (last_of b) (omega arith)) (ap (λ (v : List ℕ). plain b v text) filled)

  -- it goes before the case's main
  pub pair-before : {words₂ : List ℕ} → place < last → words₂ ≡ exchanged place words₁
      → (text : List ℕ) → plain (marks b.report b.suite b.case (place + 1) b) words₂ text ≡ put_pair_in place x y z (plain b words text)
  unfolding put_pair_in
  pair-before h e text = rw (lt-ltb place (last_of b) (omega arith)) (ap (λ (v : List ℕ). plain (marks b.report b.suite b.case (place + 1) b) v text) (e ∙ ap (exchanged place) filled))

-- ---- the record
-- what a record that was taken tells
pub record Taken (k : ℕ) (d e : Draft) : Type 0 where
  pub room : d.builder.records < room_for d.words
  pub one : e.builder.records ≡ d.builder.records + 1
  pub words : e.words ≡ set d.words (d.builder.records * 32) k

pub is-taken : (k : ℕ) (d e : Draft) → accepted e ≡ taking k d → Taken k d e
unfolding taking
is-taken k d e h =
    let b : Builder = d.builder in
    let x : Draft = record {
      builder = record { records = b.records + 1; bytes = b.bytes; report = b.report; suite = b.suite; case = b.case; main = b.main };
      words = set d.words (b.records * 32) k;
      text = d.text;
    } in
    let p = asks-passed (ltb b.records (room_for d.words)) cause.RecordsSpent (accepted x) h in
    let g = p.1 in
    let q : e ≡ x = cc in
    record {
      room = ltb-true b.records (room_for d.words) p.0;
      one = ap (λ (y : Draft). y.builder.records) q;
      words = ap (λ (y : Draft). y.words) q;
    }

module _ (step : Result Builder Cause) (k : ℕ) (b : Builder) (words : List ℕ) (place x y : ℕ) (words₁ : List ℕ) (h : (text : List ℕ) → draft_of step words₁ text ≡ taking k (plain b words text)) where
  into : Draft → Outcome Draft
  into g = accepted (put_pair_in place x y b.bytes g)

  pub new-refused : {why : Cause} → step ≡ Err why → (text : List ℕ) → draft_of step words₁ text ≡ next (taking k (plain b words text)) (λ g. accepted (put_pair_in place x y b.bytes g))
  unfolding into
  new-refused e text = then-refused step words₁ text into words₁ text e (h text)

  module _ {c : Builder} (e : step ≡ Ok c) where
    taken : Taken k (plain b words words) (plain c words₁ words)
    taken = is-taken k (plain b words words) (plain c words₁ words) (is-done step words₁ words e (h words))

    pub new-fits : place ≤ b.records → (c.records ≤ 65536) × (c.records * 32 ≤ length words₁) × (place + 2 ≤ c.records + 1)
    new-fits p =
        let r = taken.room in
        let o = taken.one in
        let n : length words₁ ≡ length words = ap length taken.words ∙ length-set words (b.records * 32) k in
        (omega arith, omega arith, omega arith)

    pub new-done : {d : Builder} {words₂ : List ℕ} → ((text : List ℕ) → plain d words₂ text ≡ put_pair_in place x y b.bytes (plain c words₁ text))
        → (text : List ℕ) → draft_of (Ok d) words₂ text ≡ next (taking k (plain b words text)) (λ g. accepted (put_pair_in place x y b.bytes g))
    unfolding draft_of into
    new-done q text = ap (λ (g : Draft). accepted g) (q text) ∙ then-done step words₁ text into e (h text)
