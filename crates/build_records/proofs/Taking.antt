-- A record more, or no room for one. Assumes nothing.
use Prim.Native.Nat.{ℕ, ◌+◌, ◌*◌, ◌≤◌, ◌<◌}
use mathlib.Core.Path.{◌≡◌, refl}
use mathlib.Core.List.{List}
use borrow.Author.Tests.{lt-ltb, le-ltb}
use lib.ListN.{set}
use Rattle.std.specs.Prelude.{Ok, Err}
use Rattle.build_draft.specs.of_refusal.declared.Cause.TheVariants as cause
use Rattle.build_draft.specs.declared.Builder.{Builder}
use Rattle.build_draft.specs.Draft.{draft_of, asks, room_for}
use Rattle.build_draft.specs.Parts.{taking}

module _ (k : ℕ) (b : Builder) (words text : List ℕ) where
  -- no room
  pub no_record : room_for words ≤ b.records → draft_of (Err cause.RecordsSpent) words text ≡ taking k (record { builder = b; words = words; text = text })
  unfolding draft_of asks taking
  no_record h = rw (le-ltb b.records (room_for words) h) refl

  -- room, and the kind stands in the new record's first word
  pub one-record : {words' : List ℕ} → b.records < room_for words → words' ≡ set words (b.records * 32) k
      → draft_of (Ok (record { records = b.records + 1; bytes = b.bytes; report = b.report; suite = b.suite; case = b.case; main = b.main })) words' text
      ≡ taking k (record { builder = b; words = words; text = text })
  unfolding draft_of asks taking
  one-record h e = rw (lt-ltb b.records (room_for words) h, e) refl
