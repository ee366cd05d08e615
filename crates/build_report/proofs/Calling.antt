-- What the parts of a call come to: a text kept, a record taken, a text put. Assumes nothing.
use Prim.Native.Nat.{ℕ, ◌*◌}
use mathlib.Core.Bool.{Bool, true, false, ◌||◌}
use mathlib.Core.List.{List, ◌∷◌}
use mathlib.Core.Path.{◌≡◌, refl, sym, ap, subst, ◌∙◌}
use lib.Dec.{ltb}
use lib.ListN.{length, set}
use Rattle.tree_placed.specs.of_refusal.Refusal.{Outcome, accepted, refused}
use Rattle.tree_placed.specs.of_refusal.declared.Cause.{Cause}
use Rattle.tree_placed.specs.of_refusal.declared.Cause.TheVariants as cause
use Rattle.tree_placed.specs.of_utf8.Utf8.{utf8}
use Rattle.tree_placed.specs.of_text_filter.Filter.{filtered}
use Rattle.build_draft.specs.of_text_lossy.LossyText.{lossy_text}
use Rattle.tree_placed.specs.of_tree_put.Put.{put_text}
use Rattle.build_draft.specs.Draft.{Draft, ◌>>=◌, asks, room_for, is_record, on_record_of, last_of, with_words}
use Rattle.build_draft.specs.Parts.{taking, text_for, put_at, keeping, putting, naming}
use Rattle.build_report.specs.Stands.{Comes}
use Rattle.build_report.specs.Builders.{fits_text, text_tests}
use Rattle.build_report.proofs.Coming.{comes-asks, comes-tests, comes-anyway}
use Rattle.build_report.proofs.Holding.{one_more_record, more_bytes}

-- ---- one part behind another
pub asks-then : (t : Bool) (why : Cause) (m : Outcome Draft) (f : Draft → Outcome Draft) → (asks t why m >>= f) ≡ asks t why (m >>= f)
unfolding asks ◌>>=◌
asks-then true why m f = refl
asks-then false why m f = refl

pub then-then : (m : Outcome Draft) (f g : Draft → Outcome Draft) → ((m >>= f) >>= g) ≡ (m >>= λ d. f d >>= g)
unfolding ◌>>=◌
then-then (accepted d) f g = refl
then-then (refused r) f g = refl

pub then-done : (m : Outcome Draft) → (m >>= λ d. accepted d) ≡ m
unfolding ◌>>=◌
then-done (accepted d) = refl
then-done (refused r) = refl

pub given-then : (d : Draft) (f : Draft → Outcome Draft) → (accepted d >>= f) ≡ f d
unfolding ◌>>=◌
given-then d f = refl

-- ---- drafts behind a part
abbrev pub kept_draft : List ℕ → Draft → Draft
kept_draft v d = record { builder = more_bytes (length v) d.builder; words = d.words; text = put_at d.builder.bytes v d.text }

abbrev pub taken_draft : ℕ → Draft → Draft
taken_draft κ d = record { builder = one_more_record d.builder; words = set d.words (d.builder.records * 32) κ; text = d.text }

-- text v at word o of record i, with bit k
abbrev pub put_draft : ℕ → ℕ → ℕ → List ℕ → Draft → Draft
put_draft i o k v d =
    record { builder = more_bytes (length v) d.builder; words = on_record_of i (put_text o k d.builder.bytes (length v)) d.words; text = put_at d.builder.bytes v d.text }

-- ---- the tests of a part
module _ (d : Draft) (f : Draft → Outcome Draft) where
  taking-is : (κ : ℕ) → (taking κ d >>= f) ≡ asks (ltb d.builder.records (room_for d.words)) cause.RecordsSpent (f (taken_draft κ d))
  unfolding taking ◌>>=◌
  taking-is κ = asks-then (ltb d.builder.records (room_for d.words)) cause.RecordsSpent (accepted (taken_draft κ d)) f

  keeping-is : (lossy : Bool) (s : List ℕ) → (keeping lossy s d >>= f)
      ≡ asks (lossy || utf8 s) cause.NotUtf8 (asks (fits_text d.builder.bytes (text_for lossy s) d.text) cause.TextFull (f (kept_draft (text_for lossy s) d)))
  unfolding keeping ◌>>=◌
  keeping-is lossy s =
      let t : Bool = fits_text d.builder.bytes (text_for lossy s) d.text in
      asks-then (lossy || utf8 s) cause.NotUtf8 (asks t cause.TextFull (accepted (kept_draft (text_for lossy s) d))) f
      ∙ ap (asks (lossy || utf8 s) cause.NotUtf8) (asks-then t cause.TextFull (accepted (kept_draft (text_for lossy s) d)) f)

putting-is : (d : Draft) (f : Draft → Outcome Draft) (i o k : ℕ) (lossy : Bool) (s : List ℕ) → (putting i o k lossy s d >>= f)
    ≡ asks (is_record d.builder d.words i) cause.NotLayout
    (asks (lossy || utf8 s) cause.NotUtf8 (asks (fits_text d.builder.bytes (text_for lossy s) d.text) cause.TextFull (f (put_draft i o k (text_for lossy s) d))))
unfolding putting ◌>>=◌
putting-is d f i o k lossy s =
    let g : Draft → Outcome Draft = λ e. accepted (with_words e (on_record_of i (put_text o k d.builder.bytes (length (text_for lossy s))) e.words)) in
    asks-then (is_record d.builder d.words i) cause.NotLayout (keeping lossy s d >>= g) f
    ∙ ap (asks (is_record d.builder d.words i) cause.NotLayout) (then-then (keeping lossy s d) g f ∙ keeping-is d (λ e. g e >>= f) lossy s)

module _ {Q : Draft → Type 0} {ts : List (Bool × Cause)} where
  -- what is said of an equal outcome
  pub comes-same : {m m' : Outcome Draft} → m ≡ m' → Comes Q ts m' → Comes Q ts m
  comes-same e c = subst (λ o. Comes Q ts o) (sym e) c

module _ {Q : Draft → Type 0} {ts : List (Bool × Cause)} (d : Draft) (f : Draft → Outcome Draft) where
  -- a record taken (12); u is the test in other words
  pub comes-taking : (κ : ℕ) (u : Bool) → ltb d.builder.records (room_for d.words) ≡ u → (u ≡ true → Comes Q ts (f (taken_draft κ d))) → Comes Q ((u, cause.RecordsSpent) ∷ ts) (taking κ d >>= f)
  comes-taking κ u e h = comes-same (taking-is d f κ) (comes-tests (ltb d.builder.records (room_for d.words)) u cause.RecordsSpent e h)

  -- a text kept (2, 13)
  pub comes-keeping : (s : List ℕ) → (utf8 s ≡ true → fits_text d.builder.bytes (filtered s) d.text ≡ true → Comes Q ts (f (kept_draft (filtered s) d)))
      → Comes Q (text_tests d.builder.bytes s d.text ts) (keeping false s d >>= f)
  comes-keeping s h =
      comes-same (keeping-is d f false s)
      (comes-asks (utf8 s) cause.NotUtf8 (λ u. comes-asks (fits_text d.builder.bytes (filtered s) d.text) cause.TextFull (λ l. h u l)))

  -- a text put into a record that is there
  pub comes-putting : (i o k : ℕ) (s : List ℕ) → is_record d.builder d.words i ≡ true
      → (utf8 s ≡ true → fits_text d.builder.bytes (filtered s) d.text ≡ true → Comes Q ts (f (put_draft i o k (filtered s) d)))
      → Comes Q (text_tests d.builder.bytes s d.text ts) (putting i o k false s d >>= f)
  comes-putting i o k s e h =
      comes-same (putting-is d f i o k false s)
      (comes-anyway (is_record d.builder d.words i) cause.NotLayout e
      (comes-asks (utf8 s) cause.NotUtf8 (λ u. comes-asks (fits_text d.builder.bytes (filtered s) d.text) cause.TextFull (λ l. h u l))))

  -- lossily
  pub comes-lossy : (i o k : ℕ) (s : List ℕ) → is_record d.builder d.words i ≡ true
      → (fits_text d.builder.bytes (lossy_text s) d.text ≡ true → Comes Q ts (f (put_draft i o k (lossy_text s) d)))
      → Comes Q ((fits_text d.builder.bytes (lossy_text s) d.text, cause.TextFull) ∷ ts) (putting i o k true s d >>= f)
  comes-lossy i o k s e h =
      comes-same (putting-is d f i o k true s)
      (comes-anyway (is_record d.builder d.words i) cause.NotLayout e
      (comes-anyway true cause.NotUtf8 refl
      (comes-asks (fits_text d.builder.bytes (lossy_text s) d.text) cause.TextFull (λ l. h l))))

  -- the name of the record that was taken last
  pub comes-naming : (s : List ℕ) → is_record d.builder d.words (last_of d.builder) ≡ true
      → (utf8 s ≡ true → fits_text d.builder.bytes (filtered s) d.text ≡ true → Comes Q ts (f (put_draft (last_of d.builder) 2 0 (filtered s) d)))
      → Comes Q (text_tests d.builder.bytes s d.text ts) (naming s d >>= f)
  unfolding naming
  comes-naming s e h = comes-putting (last_of d.builder) 2 0 s e h

-- a part with nothing behind it
pub comes-last : {Q : Draft → Type 0} {ts : List (Bool × Cause)} (m : Outcome Draft) → Comes Q ts (m >>= λ d. accepted d) → Comes Q ts m
comes-last m c = comes-same (sym (then-done m)) c
