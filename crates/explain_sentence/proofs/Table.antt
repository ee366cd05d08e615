-- The code's table: the sentences, each in a line of its own. Assumes nothing.
use Prim.Native.Nat.{ℕ, min}
use mathlib.Core.Path.{◌≡◌, refl, sym}
use mathlib.Core.List.{List, [], ◌∷◌, ◌++◌}
use mathlib.Core.Bool.{Bool, true, false, cond, ◌&&◌}
use lib.Dec.{leb, eqb}
use lib.ListN.{get_or}
use Rattle.explain_text.specs.of_area.Limits.{most_words, most_bytes}
use Rattle.explain_text.specs.of_refusal.declared.Cause.{Cause}
use Rattle.explain_text.specs.of_refusal.declared.Cause.TheVariants.{XmlFault, EofInSkip, NotUtf8, BadInteger, BadTimestamp, BadTime, BadUuid, MissingAttribute, MissingReport, EofInElement, StatusRule}
use Rattle.explain_text.specs.of_refusal.declared.Cause.TheVariants.{UnknownEntity, FaultyAttribute, RepeatedKey, BadReference, BadTable, RecordsSpent}
use Rattle.explain_text.specs.of_refusal.declared.Cause.TheVariants.{TextFull, ScratchFull, NotLayout, OutputFull, CountLimit, TooManyCases, NoSuchReport, TooManyReports, TimeLimit}
use Rattle.explain_text.specs.Sentences.{sentence}
use Rattle.explain_lines.specs.Lines.{line_in}
use Rattle.explain_lines.proofs.Tables.{table_at}
use Rattle.explain_sentence.specs.inside.Place.{place_of, place_by}

abbrev lines : List (List ℕ) → List ℕ
lines [] = []
lines (s ∷ []) = s
lines (s ∷ t ∷ ss) = s ++ (10 ∷ lines (t ∷ ss))

-- with areas of no length, and of the limits' size
abbrev short : Cause → List ℕ
short c = sentence c 0

-- by their places; the last stands behind these
abbrev sentences : List (List ℕ)
sentences =
    short XmlFault
    ∷ short EofInSkip
    ∷ short NotUtf8
    ∷ short BadInteger
    ∷ short BadTimestamp
    ∷ short BadTime
    ∷ short BadUuid
    ∷ short MissingAttribute
    ∷ short MissingReport
    ∷ short EofInElement
    ∷ short StatusRule
    ∷ short UnknownEntity
    ∷ short FaultyAttribute
    ∷ short RepeatedKey
    ∷ short BadReference
    ∷ short BadTable
    ∷ short RecordsSpent
    ∷ short TextFull
    ∷ short ScratchFull
    ∷ short NotLayout
    ∷ short OutputFull
    ∷ short CountLimit
    ∷ sentence RecordsSpent most_words
    ∷ sentence TextFull most_bytes
    ∷ sentence ScratchFull most_bytes
    ∷ sentence OutputFull most_bytes
    ∷ short TooManyCases
    ∷ short NoSuchReport
    ∷ short TooManyReports
    ∷ []

abbrev pub table : List ℕ
table = lines (sentences ++ (short TimeLimit ∷ []))

-- all lines at once: a line by itself would go through the table again
line_at : (k : ℕ) → line_in (min k 29) table ≡ get_or sentences k (short TimeLimit)
unfolding sentence
line_at k = table_at table sentences (short TimeLimit) 29 refl refl k

-- a sentence of two
by_size : (b : Bool) (n m : ℕ) {s t : List ℕ} → line_in n table ≡ s → line_in m table ≡ t → line_in (cond b m n) table ≡ cond b t s
by_size true n m e f = f
by_size false n m e f = e

pub sentence-at : (c : Cause) (lent : ℕ) → line_in (place_by (place_of c) lent) table ≡ sentence c lent
unfolding sentence
sentence-at XmlFault lent = line_at 0
sentence-at EofInSkip lent = line_at 1
sentence-at NotUtf8 lent = line_at 2
sentence-at BadInteger lent = line_at 3
sentence-at BadTimestamp lent = line_at 4
sentence-at BadTime lent = line_at 5
sentence-at BadUuid lent = line_at 6
sentence-at MissingAttribute lent = line_at 7
sentence-at MissingReport lent = line_at 8
sentence-at EofInElement lent = line_at 9
sentence-at StatusRule lent = line_at 10
sentence-at UnknownEntity lent = line_at 11
sentence-at FaultyAttribute lent = line_at 12
sentence-at RepeatedKey lent = line_at 13
sentence-at BadReference lent = line_at 14
sentence-at BadTable lent = line_at 15
sentence-at RecordsSpent lent = by_size (leb most_words lent) 16 22 (line_at 16) (line_at 22)
sentence-at TextFull lent = by_size (leb most_bytes lent) 17 23 (line_at 17) (line_at 23)
sentence-at ScratchFull lent = by_size (leb most_bytes lent) 18 24 (line_at 18) (line_at 24)
sentence-at NotLayout lent = line_at 19
sentence-at OutputFull lent = by_size (leb most_bytes lent) 20 25 (line_at 20) (line_at 25)
sentence-at CountLimit lent = line_at 21
sentence-at TooManyCases lent = line_at 26
sentence-at NoSuchReport lent = line_at 27
sentence-at TooManyReports lent = line_at 28
sentence-at TimeLimit lent = line_at 29

-- the place, by the tests that the code makes
module _ (place lent : ℕ) where
  abbrev Many : ℕ → ℕ → Bool
  Many n most = eqb place n && leb most lent

  pub by-records : Many 16 most_words ≡ true → 22 ≡ place_by place lent
  by-records e = sym (rw e refl)

  module _ (a : Many 16 most_words ≡ false) where
    pub by-text : Many 17 most_bytes ≡ true → 23 ≡ place_by place lent
    by-text e = sym (rw (a, e) refl)

    module _ (b : Many 17 most_bytes ≡ false) where
      pub by-scratch : Many 18 most_bytes ≡ true → 24 ≡ place_by place lent
      by-scratch e = sym (rw (a, b, e) refl)

      module _ (c : Many 18 most_bytes ≡ false) where
        pub by-output : Many 20 most_bytes ≡ true → 25 ≡ place_by place lent
        by-output e = sym (rw (a, b, c, e) refl)

        pub by-cause : Many 20 most_bytes ≡ false → place ≡ place_by place lent
        by-cause e = sym (rw (a, b, c, e) refl)
