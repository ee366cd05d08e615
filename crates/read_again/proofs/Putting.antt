-- A piece put again, in the code's words. Assumes nothing.
use Prim.Native.Nat.{ℕ, ◌-◌}
use mathlib.Core.Path.{◌≡◌, refl, sym, ap, ◌∙◌}
use mathlib.Core.List.{List, [], ◌++◌}
use mathlib.Core.Bool.{Bool, true, false, cond}
use native.Mathlib.Omega.{arith}
use borrow.Author.Tests.{le-leb}
use borrow.Rule.Slice.PartMut.{put_mid}
use lib.Dec.{leb}
use lib.ListN.{length, take, drop, length-drop, take-append-drop}
use Rattle.std.specs.Prelude.{Option, Result, Ok, Err}
use Rattle.read_pieces.specs.of_area.Answer.{Answer, gives, refuses}
use Rattle.read_pieces.specs.of_area.Area.{stored_answer, placing, laid}
use Rattle.read_pieces.proofs.of_area.Laying.{laid-fits}
use Rattle.read_pieces.proofs.of_area.Parts.{rest_part, rest_back}
use Rattle.read_pieces.specs.of_utf8.Utf8.{utf8}
use Rattle.read_pieces.specs.of_utf8.Characters.{encode}
use Rattle.read_pieces.specs.of_reference.Reference.{refs_ok, decoded, is_named, char_of, is_numeric, unnamed}
use Rattle.read_pieces.specs.of_table.Event.{PieceKind, Text, CData, Ref, Other, Indent}
use Rattle.read_pieces.specs.of_text.Kept.{kept_answer}
use Rattle.read_pieces.specs.of_text.declared.kept.Unkept.{Unkept}
use Rattle.read_pieces.specs.of_text.declared.kept.Unkept.TheVariants as kept
use Rattle.read_machine.specs.of_read_content.Content.{piece_of}
use Rattle.read_pieces.specs.inside.Pieces.{piece_answer, piece_laid}
use Rattle.read_pieces.proofs.Gathering.{placed, laid_by, piece-answer, piece-laid}
use Rattle.read_again.specs.Told.{given}
use Rattle.read_again.specs.inside.Turns.{put_by}
use Rattle.read_pieces.specs.of_refusal.declared.Cause.TheVariants as cause
use Rattle.read_pieces.specs.of_refusal.declared.Cause.{Cause}

clash : ◌≡◌ {A = ℕ} 0 1 → ⊥
clash z = omega arith

-- a piece itself is never refused for want of room
name-full : (s : List ℕ) → unnamed s ≡ cause.ScratchFull → ⊥
name-full s e = go (is_numeric s) e
  where
    go : (t : Bool) → cond t cause.BadReference cause.UnknownEntity ≡ cause.ScratchFull → ⊥
    go true e = clash cc
    go false e = clash cc

piece-full : (k : PieceKind) (s : List ℕ) → piece_of k s ≡ refuses cause.ScratchFull → ⊥
unfolding piece_of
piece-full Text s e = go (utf8 s) (refs_ok s 0) e
  where
    go : (a b : Bool) → cond a (cond b (gives (decoded s 0)) (refuses cause.BadReference)) (refuses cause.NotUtf8) ≡ refuses cause.ScratchFull → ⊥
    go true true e = clash cc
    go true false e = clash cc
    go false b e = clash cc
piece-full CData s e = go (utf8 s) e
  where
    go : (a : Bool) → cond a (gives s) (refuses cause.NotUtf8) ≡ refuses cause.ScratchFull → ⊥
    go true e = clash cc
    go false e = clash cc
piece-full Ref s e = go (utf8 s) (is_named s) e
  where
    go : (a b : Bool) → cond a (cond b (gives (encode (char_of s))) (refuses (unnamed s))) (refuses cause.NotUtf8) ≡ refuses cause.ScratchFull → ⊥
    go true true e = clash cc
    go true false e = name-full s cc
    go false b e = clash cc
piece-full Other s e = clash cc
piece-full Indent s e = clash cc

pub none-put : (n : ℕ) → gives 0 ≡ placing cause.ScratchFull n []
none-put n = sym (ap (λ (b : Bool). cond b (gives 0) (refuses cause.ScratchFull)) (le-leb 0 n (omega arith)))

-- nothing put
pub none-laid : (out : List ℕ) (k : ℕ) → out ≡ take k out ++ laid (drop k out) []
none-laid out k = sym (take-append-drop k out) ∙ ap (λ (x : List ℕ). take k out ++ x) (sym (laid-fits (drop k out) [] (omega arith)))

module _ (n : ℕ) (v : List ℕ) (why : Cause) (ne : why ≡ cause.ScratchFull → ⊥) where
  not-placed : refuses why ≡ placing cause.ScratchFull n v → ⊥
  not-placed e = go (leb (length v) n) e
    where
      go : (t : Bool) → refuses why ≡ cond t (gives (length v)) (refuses cause.ScratchFull) → ⊥
      go true e = clash cc
      go false e = ne cc

answer : (n : ℕ) (a : Answer (List ℕ)) → (a ≡ refuses cause.ScratchFull → ⊥) → (r : Result ℕ Unkept) → kept_answer cause.ScratchFull r ≡ placed n a
    → stored_answer cause.ScratchFull (put_by r) ≡ placing cause.ScratchFull n (given a)
answer n (gives v) h (Ok m) e = e
answer n (gives v) h (Err kept.Full) e = e
answer n (gives v) h (Err kept.NotUtf8) e = absurd (not-placed n v cause.NotUtf8 (λ z. clash cc) e)
answer n (gives v) h (Err kept.BadReference) e = absurd (not-placed n v cause.BadReference (λ z. clash cc) e)
answer n (gives v) h (Err kept.UnknownName) e = absurd (not-placed n v cause.UnknownEntity (λ z. clash cc) e)
answer n (refuses why) h (Ok m) e = absurd (clash cc)
answer n (refuses why) h (Err kept.Full) e = let z : why ≡ cause.ScratchFull = cc in absurd (h (ap refuses z))
answer n (refuses why) h (Err kept.NotUtf8) e = none-put n
answer n (refuses why) h (Err kept.BadReference) e = none-put n
answer n (refuses why) h (Err kept.UnknownName) e = none-put n

module _ (out : List ℕ) (k : ℕ) (kind : PieceKind) (s : List ℕ) where
  part-size : length (take (length out - k) (drop k out)) ≡ length out - k
  part-size = ap length (rest_part out k) ∙ length-drop k out

  pub piece-answers : (r : Result ℕ Unkept) (q : Option ℕ) → kept_answer cause.ScratchFull r ≡ piece_answer kind (length (take (length out - k) (drop k out))) s → q ≡ put_by r
      → stored_answer cause.ScratchFull q ≡ placing cause.ScratchFull (length out - k) (given (piece_of kind s))
  piece-answers r q e p =
      ap (stored_answer cause.ScratchFull) p
      ∙ answer (length out - k) (piece_of kind s) (piece-full kind s) r (e ∙ ap (λ (n : ℕ). piece_answer kind n s) part-size ∙ piece-answer kind (length out - k) s)

  laid-given : (a : Answer (List ℕ)) → laid_by (drop k out) a ≡ laid (drop k out) (given a)
  laid-given (gives v) = refl
  laid-given (refuses why) = sym (laid-fits (drop k out) [] (omega arith))

  pub piece-area : {ys : List ℕ} → ys ≡ piece_laid kind (take (length out - k) (drop k out)) s → put_mid k (length out - k) out ys ≡ take k out ++ laid (drop k out) (given (piece_of kind s))
  piece-area {ys} e =
      rest_back out k ys
      ∙ ap (λ (x : List ℕ). take k out ++ x)
      (e ∙ ap (λ (x : List ℕ). piece_laid kind x s) (rest_part out k) ∙ piece-laid kind (drop k out) s ∙ laid-given (piece_of kind s))
