-- Reading and listing in one call: the worked listing, in an area that suffices and in one that is a byte too short, and a refusal with its
-- place. What is expected is written down, not computed. Definitions only.
use Rattle.std.specs.Prelude.{ℕ, ◌≡◌, List, [], ◌∷◌, ◌++◌, replicate}
use Rattle.public_claims.specs.of_refusal.Refusal.{Outcome, accepted, refused, late, nowhere}
use Rattle.public_claims.specs.of_refusal.declared.Cause.TheVariants as cause
use Rattle.public_claims.specs.Once.{Once, once}
use Rattle.public_cases.specs.Document.{Markup, ◌≔◌, start, empty, events_of, attributes_of, source_of}
use Rattle.public_cases.specs.Cases.{lines, testsuites, testsuite, testcase, attribute, worked_document}

-- the areas have 10 records of 32 words, 64 bytes of text and 64 of scratch, and n of output
abbrev pub listed_in : List Markup → ℕ → Once
listed_in ms n = once (events_of ms) (attributes_of ms) (source_of ms) 320 64 64 n

-- this answer, this in the output area, and zeros in the other three
abbrev pub answered : Outcome ℕ → List ℕ → Once
answered o output = record { outcome = o; words = replicate 320 0; text = replicate 64 0; scratch = replicate 64 0; output = output }

abbrev pub worked_listing : List ℕ
worked_listing =
    lines ("(report \"r\" 2 0 0 0 -"
    ∷ "(suite \"lab\" 2 0 0 0 -"
    ∷ "(case \"a\" - 0.500 success flaky 0)"
    ∷ "(case \"b\" - - failure rerun 1"
    ∷ "(run failure -))))"
    ∷ [])

-- a case without a name
abbrev pub nameless_document : List Markup
nameless_document =
    start "testsuites" []
    ∷ start "testsuite" ("name" ≔ "lab" ∷ [])
    ∷ empty "testcase" ("time" ≔ "0.5" ∷ [])
    ∷ []

-- rule L13
pub record OnceCases : Type 0 where
  pub worked : listed_in worked_document 256 ≡ answered (accepted 129) (worked_listing ++ replicate 127 0)
  pub fits : listed_in worked_document 129 ≡ answered (accepted 129) worked_listing
  -- 16, one byte short, names no place
  pub short : listed_in worked_document 128 ≡ answered (refused (late cause.OutputFull)) (replicate 128 0)
  -- 7, with its path, testsuites/testsuite[0]/testcase[0]/@name, and event
  pub nameless : listed_in nameless_document 256
      ≡ answered (refused (record { cause = cause.MissingAttribute; path = testsuites ∷ testsuite 0 1 ∷ testcase 0 nowhere ∷ attribute 1 ∷ []; event = 2; attribute = nowhere }))
      (replicate 256 0)
