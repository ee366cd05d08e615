-- Pieces of text gathered in scratch, against the definition. Assumes nothing.
use Rattle.std.specs.Prelude.{Ok, Err, Result}
use Prim.Native.Nat.{ℕ, ◌+◌, ◌-◌, ◌≤◌, ◌<◌}
use mathlib.Core.Path.{◌≡◌, refl, sym, ap, ◌∙◌}
use mathlib.Core.Bool.{Bool, true, false, cond, ◌&&◌}
use mathlib.Core.List.{List, [], ◌∷◌, ◌++◌, append_assoc}
use native.Mathlib.Omega.{arith}
use lib.Dec.{leb, eqb}
use lib.ListN.{length, take, drop, length-append, length-drop}
use lib.Seq.{take_at, drop_at, take-add, take-take, take-append-le, drop-drop, length-take-le}
use borrow.Author.Tests.{le-leb, lt-leb}
use borrow.Rule.Slice.PartMut.{put_mid}
use Rattle.fronting.specs.of_area.Answer.{Answer, gives, refuses}
use Rattle.fronting.specs.of_area.Area.{placing, laid}
use Rattle.fronting.proofs.of_area.Laying.{laid-fits, length-laid, put-fits}
use Rattle.fronting.proofs.of_area.Parts.{rest_part, rest_back}
use Rattle.text_pieces.specs.of_utf8.Utf8.{utf8}
use Rattle.text_pieces.specs.of_utf8.Characters.{encode}
use Rattle.text_pieces.specs.of_reference.Reference.{refs_ok, decoded, is_named, char_of, unnamed}
use Rattle.fronting.specs.of_refusal.Refusal.{nowhere}
use Rattle.fronting.specs.of_refusal.declared.Cause.{Cause}
use Rattle.read_scratch.specs.of_table.Event.{PieceKind, Text, CData, Ref, Other, Indent}
use Rattle.read_scratch.specs.of_read_element.Outcome.{◌>>=◌, Place, refused_at, there, need, Rooms, fits}
use Rattle.read_scratch.specs.of_read_state.Control.{Level, at, gathers}
use Rattle.read_scratch.specs.of_read_state.Control as plan
use Rattle.read_scratch.specs.of_read_state.inside.Coded.{mode_at}
use Rattle.read_scratch.specs.of_read_state.declared.Mode.{Mode as CodedMode}
use Rattle.read_scratch.specs.of_read_state.declared.Mode.TheVariants as mode
use Rattle.read_scratch.specs.of_read_place.Marks.{Marks}
use Rattle.read_scratch.specs.of_read_content.Content.{Content, piece_of, join_piece, own, gather}
use Rattle.read_scratch.specs.of_read_element.inside.Refines.{went}
use Rattle.read_scratch.specs.of_read_content.inside.Holds.{Performed, Holds, Opened, Sized, Lists, Performs, fault_of}
use Rattle.read_pieces.specs.inside.Pieces.{piece_answer, piece_laid, joined_by, is_full, kept_length, told_by}
use Rattle.read_scratch.specs.inside.Places.{piece_from, may_move, fronted_in}
use Rattle.text_pieces.specs.of_text.Kept.{kept_answer}
use Rattle.text_pieces.specs.of_text.declared.kept.Unkept.{Unkept}
use Rattle.text_pieces.specs.of_text.declared.kept.Unkept.TheVariants as kept
use Rattle.read_scratch.specs.of_read_content.declared.Content.{Content as CodedContent}
use Rattle.read_scratch.proofs.of_read_content.Areas.{fits-description, fits-from, fits-gathered}
use Rattle.read_scratch.proofs.of_read_content.Refusing.{halts}
use Rattle.fronting.specs.of_refusal.declared.Cause.TheVariants as cause

-- ---- a piece's answer is that of its text
abbrev pub placed : ℕ → Answer (List ℕ) → Answer ℕ
placed n (gives v) = placing cause.ScratchFull n v
placed n (refuses k) = refuses k

abbrev pub laid_by : List ℕ → Answer (List ℕ) → List ℕ
laid_by out (gives v) = laid out v
laid_by out (refuses k) = out

pub piece-answer : (k : PieceKind) (n : ℕ) (s : List ℕ) → piece_answer k n s ≡ placed n (piece_of k s)
unfolding piece_of
piece-answer Text n s = go (utf8 s) (refs_ok s 0)
  where
    go : (a b : Bool) → cond a (cond b (placing cause.ScratchFull n (decoded s 0)) (refuses cause.BadReference)) (refuses cause.NotUtf8)
        ≡ placed n (cond a (cond b (gives (decoded s 0)) (refuses cause.BadReference)) (refuses cause.NotUtf8))
    go true true = refl
    go true false = refl
    go false b = refl
piece-answer CData n s = go (utf8 s)
  where
    go : (a : Bool) → cond a (placing cause.ScratchFull n s) (refuses cause.NotUtf8) ≡ placed n (cond a (gives s) (refuses cause.NotUtf8))
    go true = refl
    go false = refl
piece-answer Ref n s = go (utf8 s) (is_named s)
  where
    go : (a b : Bool) → cond a (cond b (placing cause.ScratchFull n (encode (char_of s))) (refuses (unnamed s))) (refuses cause.NotUtf8)
        ≡ placed n (cond a (cond b (gives (encode (char_of s))) (refuses (unnamed s))) (refuses cause.NotUtf8))
    go true true = refl
    go true false = refl
    go false b = refl
piece-answer Other n s = sym (ap (λ (b : Bool). cond b (gives 0) (refuses cause.ScratchFull)) (le-leb 0 n (omega arith)))
piece-answer Indent n s = refl

pub piece-laid : (k : PieceKind) (out s : List ℕ) → piece_laid k out s ≡ laid_by out (piece_of k s)
unfolding piece_of
piece-laid Text out s = go (utf8 s) (refs_ok s 0)
  where
    go : (a b : Bool) → cond (mathlib.Core.Bool.◌&&◌ a b) (laid out (decoded s 0)) out ≡ laid_by out (cond a (cond b (gives (decoded s 0)) (refuses cause.BadReference)) (refuses cause.NotUtf8))
    go true true = refl
    go true false = refl
    go false true = refl
    go false false = refl
piece-laid CData out s = go (utf8 s)
  where
    go : (a : Bool) → cond a (laid out s) out ≡ laid_by out (cond a (gives s) (refuses cause.NotUtf8))
    go true = refl
    go false = refl
piece-laid Ref out s = go (utf8 s) (is_named s)
  where
    go : (a b : Bool) → cond (mathlib.Core.Bool.◌&&◌ a b) (laid out (encode (char_of s))) out ≡ laid_by out (cond a (cond b (gives (encode (char_of s))) (refuses (unnamed s))) (refuses cause.NotUtf8))
    go true true = refl
    go true false = refl
    go false true = refl
    go false false = refl
piece-laid Other out s = sym (laid-fits out [] (omega arith))
piece-laid Indent out s = refl

-- ---- in scratch
-- what stands before x, which was put from number `from` on, stays
module _ (l : List ℕ) {l' : List ℕ} (from : ℕ) (x : List ℕ) (inside : from ≤ length l) (e : l' ≡ take from l ++ x) where
  front-stays : (k : ℕ) → k ≤ from → take k l' ≡ take k l
  front-stays k h =
      let n = length-take-le from l inside in
      ap (take k) e ∙ take-append-le k (take from l) x (omega arith) ∙ take-take k from l h

  part_stays : (k n : ℕ) → k + n ≡ from → drop k l' ≡ take n (drop k l) ++ x
  part_stays k n q =
      ap (drop k) (e ∙ ap (λ (j : ℕ). take j l ++ x) (sym q) ∙ ap (λ (y : List ℕ). y ++ x) (take-add k n l) ∙ append_assoc (take k l) (take n (drop k l)) x)
      ∙ drop_at (take k l) (take n (drop k l) ++ x) k (length-take-le k l (omega arith))

-- v put behind the first bytes of an area
module _ (scratch : List ℕ) {scratch' : List ℕ} (from : ℕ) (v : List ℕ) (inside : from ≤ length scratch) (room : length v ≤ length scratch - from)
    (e : scratch' ≡ take from scratch ++ laid (drop from scratch) v) where
  put_is : scratch' ≡ take from scratch ++ (v ++ drop (length v) (drop from scratch))
  put_is = let l = length-drop from scratch in e ∙ ap (λ (x : List ℕ). take from scratch ++ x) (laid-fits (drop from scratch) v (omega arith))

  put_front : (d : List ℕ) (n : ℕ) → take from scratch ≡ d → from ≡ length d → n ≡ length v → take (from + n) scratch' ≡ d ++ v
  put_front d n t f q =
      let a = length-append d v in
      ap (take (from + n)) (put_is ∙ ap (λ (x : List ℕ). x ++ (v ++ drop (length v) (drop from scratch))) t ∙ sym (append_assoc d v (drop (length v) (drop from scratch))))
      ∙ take_at (d ++ v) (drop (length v) (drop from scratch)) (from + n) (omega arith)

laid-length : (out : List ℕ) (a : Answer (List ℕ)) → length (laid_by out a) ≡ length out
laid-length out (gives v) = length-laid out v
laid-length out (refuses k) = refl

put-length : (l x : List ℕ) {l' : List ℕ} (from : ℕ) → from ≤ length l → l' ≡ take from l ++ x → length x ≡ length (drop from l) → length l' ≡ length l
put-length l x from h e q =
    let a = ap length e ∙ length-append (take from l) x in
    let b = length-take-le from l h in
    let d = length-drop from l in
    omega arith

empty : (l : List ℕ) → length l ≡ 0 → l ≡ []
empty [] e = refl
empty (x ∷ l) e = absurd (omega arith)

-- the front of nothing
none-front : (n : ℕ) (l s : List ℕ) → n ≡ length s → s ≡ [] → take n l ≡ s
none-front n l s e q = let z : n ≡ 0 = e ∙ ap length q in ap (λ (k : ℕ). take k l) z ∙ sym q

differ : true ≡ false → ⊥
differ e = let z : ◌≡◌ {A = ℕ} 1 0 = ap (λ (b : Bool). cond b 1 0) e in omega arith

module _ {words text scratch attributes source : List ℕ} {c : CodedContent} {s : Content} (hd : Holds words text scratch attributes source c s) where
  -- the text that a piece goes to ends in scratch where the code says
  own-size : (k : CodedMode) (l : Level) (o : plan.Output) → gathers (mode_at k l o) ≡ true → length (own (mode_at k l o) s) ≤ piece_from k c
  unfolding gathers
  own-size mode.At l o g = let e = hd.description in omega arith
  own-size mode.Text l o g = let e = hd.gathered in omega arith
  own-size mode.List l o g = absurd (differ (sym g))

  -- and begins at the front, unless it is a child's behind the description
  own-front : (k : CodedMode) (l : Level) (o : plan.Output) → gathers (mode_at k l o) ≡ true → may_move k c ≡ false → length (own (mode_at k l o) s) ≡ piece_from k c
  unfolding gathers
  own-front mode.At l o g m = sym hd.description
  own-front mode.Text l o g m = let e = hd.gathered in let f = borrow.Author.Tests.leb-false 1 c.child m in omega arith
  own-front mode.List l o g m = absurd (differ (sym g))

  pub own-fits : (k : CodedMode) → piece_from k c ≤ length scratch
  own-fits mode.At = fits-description hd
  own-fits mode.Text = fits-gathered hd
  own-fits mode.List = omega arith

  -- where a child's text has no room for a piece, both texts stay
  pub still-holds : (x : List ℕ) {scratch' : List ℕ} → scratch' ≡ take (piece_from mode.Text c) scratch ++ x → length x ≡ length (drop (piece_from mode.Text c) scratch)
      → Holds words text scratch' attributes source c s
  still-holds x {scratch'} e n =
      let f = fits-gathered hd in
      let w = hd.within in
      let q = put-length scratch x (piece_from mode.Text c) f e n in
      record {
        room = hd.room;
        left = hd.left;
        records = hd.records;
        whole = hd.whole;
        used = hd.used;
        stored = hd.stored;
        fill = hd.fill;
        within = omega arith;
        begins = hd.begins;
        described = λ y. front-stays scratch (piece_from mode.Text c) x f e c.description (omega arith) ∙ hd.described y;
        behind =
            ap (take c.gathered) (part_stays scratch (piece_from mode.Text c) x f e c.child c.gathered refl)
            ∙ take_at (take c.gathered (drop c.child scratch)) x c.gathered (ap length hd.behind ∙ sym hd.gathered)
            ∙ hd.behind;
        description = hd.description;
        gathered = hd.gathered;
        free = hd.free;
        report = hd.report;
        dead = hd.dead;
      }

  -- the text of a child goes to the front
  pub fronted-holds : {scratch' : List ℕ} → scratch' ≡ laid scratch (take c.gathered (drop c.child scratch))
      → Holds words text scratch' attributes source (fronted_in c) s
  fronted-holds {scratch'} e =
      let d : scratch' ≡ laid scratch s.gathered = e ∙ ap (laid scratch) hd.behind in
      let f = fits-gathered hd in
      let g = hd.gathered in
      let w = hd.within in
      let q = ap length d ∙ length-laid scratch s.gathered in
      record {
        room = hd.room;
        left = hd.left;
        records = hd.records;
        whole = hd.whole;
        used = hd.used;
        stored = hd.stored;
        fill = hd.fill;
        within = omega arith;
        begins = omega arith;
        described = λ x. none-front c.description scratch' s.description hd.description (empty s.description (let e = hd.description in omega arith));
        behind =
            ap (take c.gathered) (d ∙ laid-fits scratch s.gathered (omega arith))
            ∙ take_at s.gathered (drop (length s.gathered) scratch) c.gathered (sym hd.gathered);
        description = hd.description;
        gathered = hd.gathered;
        free = hd.free;
        report = hd.report;
        dead = hd.dead;
      }

  pub fronted-lists : (l : Level) (o : plan.Output) (m : Marks) → Lists (plan.gathering l o) m c s → Lists (plan.gathering l o) m (fronted_in c) s
  fronted-lists plan.top o m x = x
  fronted-lists plan.suite o m x = x
  fronted-lists plan.case o m x = x
  fronted-lists plan.status o m x = x

  joined-holds : (k : CodedMode) (l : Level) (o : plan.Output) (m : Marks) → gathers (mode_at k l o) ≡ true → Lists (mode_at k l o) m c s → (v scratch' : List ℕ) (n : ℕ) → n ≡ length v
      → length v ≤ length scratch - piece_from k c → scratch' ≡ take (piece_from k c) scratch ++ laid (drop (piece_from k c) scratch) v
      → Holds words text scratch' attributes source (joined_by k n c) (join_piece (mode_at k l o) v s) × Lists (mode_at k l o) m (joined_by k n c) (join_piece (mode_at k l o) v s)
  unfolding gathers
  joined-holds mode.At l o m ga li v scratch' n e h z =
      let a = hd.description in
      let b = length-append s.description v in
      let w = hd.within in
      let q = put-length scratch (laid (drop c.description scratch) v) c.description hd.within z (length-laid (drop c.description scratch) v) in (
        record {
          room = hd.room;
          left = hd.left;
          records = hd.records;
          whole = hd.whole;
          used = hd.used;
          stored = hd.stored;
          fill = hd.fill;
          within = omega arith;
          begins = (longer (eqb c.child c.description) refl).0;
          described = λ x. put_front scratch c.description v hd.within h z s.description n (hd.described ((longer (eqb c.child c.description) refl).1 x)) hd.description e;
          behind = none-front c.gathered (drop (cond (eqb c.child c.description) (c.description + n) c.child) scratch') s.gathered hd.gathered li.1;
          description = omega arith;
          gathered = hd.gathered;
          free = hd.free;
          report = hd.report;
          dead = hd.dead;
        },
        (go l li.0, li.1),
      )
    where
      longer : (b : Bool) → eqb c.child c.description ≡ b
          → (cond b (c.description + n) c.child ≤ c.description + n) × (cond b (c.description + n) c.child ≡ c.description + n → c.child ≡ c.description)
      longer true q = (omega arith, λ x. borrow.Author.Tests.eqb-true c.child c.description q)
      longer false q = let y = hd.begins in (omega arith, λ x. omega arith)

      go : (l : Level) → Opened l m c s → Opened l m (joined_by mode.At n c) (join_piece (at l) v s)
      go plan.top x = x
      go plan.suite x = x
      go plan.case x = x
      go plan.status x = x
  joined-holds mode.Text l o m ga li v scratch' n e h z =
      let a = hd.gathered in
      let b = length-append s.gathered v in
      let w = hd.within in
      let f = fits-gathered hd in
      let y = fits-from hd in
      let d = length-drop c.child scratch in
      let x : List ℕ = laid (drop (c.child + c.gathered) scratch) v in
      let q = put-length scratch x (c.child + c.gathered) f z (length-laid (drop (c.child + c.gathered) scratch) v) in
      let p : drop c.child scratch' ≡ take c.gathered (drop c.child scratch) ++ laid (drop c.gathered (drop c.child scratch)) v =
      part_stays scratch (c.child + c.gathered) x f z c.child c.gathered refl
      ∙ ap (λ (i : List ℕ). take c.gathered (drop c.child scratch) ++ laid i v) (sym (drop-drop c.gathered c.child scratch)) in (
        record {
          room = hd.room;
          left = hd.left;
          records = hd.records;
          whole = hd.whole;
          used = hd.used;
          stored = hd.stored;
          fill = hd.fill;
          within = omega arith;
          begins = hd.begins;
          described = λ i. front-stays scratch (c.child + c.gathered) x f z c.description (omega arith) ∙ hd.described i;
          behind = put_front (drop c.child scratch) c.gathered v (omega arith) (omega arith) p s.gathered n hd.behind hd.gathered e;
          description = hd.description;
          gathered = omega arith;
          free = hd.free;
          report = hd.report;
          dead = hd.dead;
        },
        go l li,
      )
    where
      go : (l : Level) → Opened l m c s → Opened l m (joined_by mode.Text n c) (join_piece (plan.gathering l o) v s)
      go plan.top x = x
      go plan.suite x = x
      go plan.case x = x
      go plan.status x = x
  joined-holds mode.List l o m ga li v scratch' n e h z = absurd (differ (sym ga))

  module _ {rooms : Rooms} (sz : Sized rooms (length words) (length text) (length scratch)) (p : Place) (pa : p.attribute ≡ nowhere)
      (k : CodedMode) (l : Level) (o : plan.Output) (m : Marks) (ga : gathers (mode_at k l o) ≡ true) (li : Lists (mode_at k l o) m c s) (kind : PieceKind) (b : List ℕ)
      (from : ℕ) (fe : from ≡ piece_from k c) where
    part-size : length (take (length scratch - from) (drop from scratch)) ≡ length scratch - from
    part-size = ap length (rest_part scratch from) ∙ length-drop from scratch

    answer-is : {a : Answer ℕ} → a ≡ piece_answer kind (length (take (length scratch - from) (drop from scratch))) b → a ≡ placed (length scratch - from) (piece_of kind b)
    answer-is e = e ∙ ap (λ (n : ℕ). piece_answer kind n b) part-size ∙ piece-answer kind (length scratch - from) b

    scratch-is : {ys : List ℕ} → ys ≡ piece_laid kind (take (length scratch - from) (drop from scratch)) b
        → put_mid from (length scratch - from) scratch ys ≡ take from scratch ++ laid_by (drop from scratch) (piece_of kind b)
    scratch-is {ys} e =
        rest_back scratch from ys
        ∙ ap (λ (x : List ℕ). take from scratch ++ x) (e ∙ ap (λ (x : List ℕ). piece_laid kind x b) (rest_part scratch from) ∙ piece-laid kind (drop from scratch) b)

    gathered-put : (a : Answer (List ℕ)) → piece_of kind b ≡ a → {n : ℕ} {scratch' : List ℕ} → gives n ≡ placed (length scratch - from) a
        → scratch' ≡ take from scratch ++ laid_by (drop from scratch) a
        → Performs (mode_at k l o) m p words text scratch' attributes source (gather rooms p (mode_at k l o) kind b s) (Ok (joined_by k n c))
    unfolding gather there need ◌>>=◌
    gathered-put (gives v) q {n} {scratch'} e z =
        let f = put-fits cause.ScratchFull (length scratch - from) v n e in
        let h = f.0 in
        let u = own-fits k in
        let w = own-size k l o ga in
        let t : fits rooms.scratch (length (own (mode_at k l o) s) + length v) ≡ true =
        sz.for-scratch (length (own (mode_at k l o) s) + length v) ∙ le-leb (length (own (mode_at k l o) s) + length v) (length scratch) (omega arith) in
        let j = joined-holds k l o m ga li v scratch' n f.1 (omega arith) (z ∙ ap (λ (x : ℕ). take x scratch ++ laid (drop x scratch) v) fe) in
        rw (q, t) (went (j.0, j.1))
    gathered-put (refuses x) q e z = let w : ◌≡◌ {A = ℕ} 0 1 = cc in absurd (omega arith)

    gathered-not : (a : Answer (List ℕ)) → piece_of kind b ≡ a → (why : Cause) → (why ≡ cause.ScratchFull → may_move k c ≡ false) → refuses why ≡ placed (length scratch - from) a
        → gather rooms p (mode_at k l o) kind b s ≡ refused_at p why
    unfolding gather there need ◌>>=◌
    gathered-not (gives v) q why only e =
        let d = over v (leb (length v) (length scratch - from)) refl e in
        let h = d.1 in
        let w = own-front k l o ga (only d.0) in
        let t : fits rooms.scratch (length (own (mode_at k l o) s) + length v) ≡ false =
        sz.for-scratch (length (own (mode_at k l o) s) + length v) ∙ lt-leb (length (own (mode_at k l o) s) + length v) (length scratch) (omega arith) in
        rw (q, t, d.0) refl
      where
        over : (v : List ℕ) (t : Bool) → leb (length v) (length scratch - from) ≡ t → refuses why ≡ cond t (gives (length v)) (refuses cause.ScratchFull)
            → (why ≡ cause.ScratchFull) × (length scratch - from < length v)
        over v true y e = let w : ◌≡◌ {A = ℕ} 0 1 = cc in absurd (omega arith)
        over v false y e = (cc, borrow.Author.Tests.leb-false (length v) (length scratch - from) y)
    gathered-not (refuses x) q why only e = let w : x ≡ why = cc in rw (q, w) refl

    piece-not : (why : Cause) → (why ≡ cause.ScratchFull → may_move k c ≡ false) → {scratch' : List ℕ} {r : Performed}
        → refuses why ≡ piece_answer kind (length (take (length scratch - from) (drop from scratch))) b
        → r ≡ Err (fault_of why) → Performs (mode_at k l o) m p words text scratch' attributes source (gather rooms p (mode_at k l o) kind b s) r
    piece-not why only e q = halts p why pa (gathered-not (piece_of kind b) refl why only (answer-is e)) q

    -- a piece that is put, or refused where its text can't go to the front
    pub piece-told : (x : Result ℕ Unkept) {ys : List ℕ} {r : Performed} → (is_full x ≡ true → may_move k c ≡ false)
        → kept_answer cause.ScratchFull x ≡ piece_answer kind (length (take (length scratch - from) (drop from scratch))) b
        → ys ≡ piece_laid kind (take (length scratch - from) (drop from scratch)) b → r ≡ told_by k c x
        → Performs (mode_at k l o) m p words text (put_mid from (length scratch - from) scratch ys) attributes source (gather rooms p (mode_at k l o) kind b s) r
    piece-told (Ok n) only e z q = rw q (gathered-put (piece_of kind b) refl (answer-is e) (scratch-is z))
    piece-told (Err kept.Full) only e z q = piece-not cause.ScratchFull (λ x. only refl) e q
    piece-told (Err kept.NotUtf8) only e z q = piece-not cause.NotUtf8 (λ x. let w : ◌≡◌ {A = ℕ} 0 1 = cc in absurd (omega arith)) e q
    piece-told (Err kept.BadReference) only e z q = piece-not cause.BadReference (λ x. let w : ◌≡◌ {A = ℕ} 0 1 = cc in absurd (omega arith)) e q
    piece-told (Err kept.UnknownName) only e z q = piece-not cause.UnknownEntity (λ x. let w : ◌≡◌ {A = ℕ} 0 1 = cc in absurd (omega arith)) e q

  -- what a piece without room leaves in scratch
  pub over-holds : (kind : PieceKind) (b : List ℕ) (from : ℕ) → from ≡ piece_from mode.Text c → {ys : List ℕ} → ys ≡ piece_laid kind (take (length scratch - from) (drop from scratch)) b
      → Holds words text (put_mid from (length scratch - from) scratch ys) attributes source c s
  over-holds kind b from fe {ys} e =
      let x : List ℕ = laid_by (drop from scratch) (piece_of kind b) in
      still-holds x
      (rest_back scratch from ys
      ∙ ap (λ (i : List ℕ). take from scratch ++ i) (e ∙ ap (λ (i : List ℕ). piece_laid kind i b) (rest_part scratch from) ∙ piece-laid kind (drop from scratch) b)
      ∙ ap (λ (i : ℕ). take i scratch ++ x) fe)
      (laid-length (drop from scratch) (piece_of kind b) ∙ ap (λ (i : ℕ). length (drop i scratch)) fe)

-- a piece that is put or not leaves scratch as long as it was
pub over-length : (kind : PieceKind) (b l : List ℕ) (from : ℕ) {ys : List ℕ} → from ≤ length l → ys ≡ piece_laid kind (take (length l - from) (drop from l)) b
    → length (put_mid from (length l - from) l ys) ≡ length l
over-length kind b l from {ys} h e =
    put-length l ys from h (rest_back l from ys)
    (ap length (e ∙ ap (λ (i : List ℕ). piece_laid kind i b) (rest_part l from) ∙ piece-laid kind (drop from l) b) ∙ laid-length (drop from l) (piece_of kind b))

-- where a piece goes lies in scratch
pub from-fits : (k : CodedMode) (c : CodedContent) {n from : ℕ} → c.description ≤ n → c.child + c.gathered ≤ n → from ≡ piece_from k c → from ≤ n
from-fits mode.At c a b e = omega arith
from-fits mode.Text c a b e = omega arith
from-fits mode.List c a b e = omega arith

-- how much a piece may be
pub piece-fits : (l : List ℕ) (from : ℕ) (x : Result ℕ Unkept) (kind : PieceKind) (b : List ℕ) → from ≤ length l
    → kept_answer cause.ScratchFull x ≡ piece_answer kind (length (take (length l - from) (drop from l))) b → from + kept_length x ≤ length l
piece-fits l from (Ok n) kind b h e = go (piece_of kind b) (e ∙ ap (λ (x : ℕ). piece_answer kind x b) (ap length (rest_part l from) ∙ length-drop from l) ∙ piece-answer kind (length l - from) b)
  where
    go : (a : Answer (List ℕ)) → gives n ≡ placed (length l - from) a → from + n ≤ length l
    go (gives v) q = let f = put-fits cause.ScratchFull (length l - from) v n q in let x = f.0 in let y = f.1 in omega arith
    go (refuses x) q = let w : ◌≡◌ {A = ℕ} 0 1 = cc in absurd (omega arith)
piece-fits l from (Err kept.Full) kind b h e = omega arith
piece-fits l from (Err kept.NotUtf8) kind b h e = omega arith
piece-fits l from (Err kept.BadReference) kind b h e = omega arith
piece-fits l from (Err kept.UnknownName) kind b h e = omega arith

pub moves : (k : CodedMode) (c : CodedContent) → may_move k c ≡ true → k ≡ mode.Text
moves mode.At c e = absurd (differ (sym e))
moves mode.Text c e = refl
moves mode.List c e = absurd (differ (sym e))

pub text-gathers : (l : Level) (o : plan.Output) → gathers (plan.gathering l o) ≡ true
unfolding gathers
text-gathers l o = refl

-- where it goes to the front, a piece belongs to the text of a child
pub over-gathered : (k : CodedMode) (l : Level) (o : plan.Output) (m : Marks) (p : Place) (words text scratch attributes source : List ℕ) (c : CodedContent) (s : Content) (rooms : Rooms)
    (kind : PieceKind) (b : List ℕ) (r : Performed) → k ≡ mode.Text → Lists (mode_at k l o) m c s
    → (Lists (plan.gathering l o) m c s → Performs (plan.gathering l o) m p words text scratch attributes source (gather rooms p (plan.gathering l o) kind b s) r)
    → Performs (mode_at k l o) m p words text scratch attributes source (gather rooms p (mode_at k l o) kind b s) r
over-gathered mode.At l o m p words text scratch attributes source c s rooms kind b r e li f = let w : ◌≡◌ {A = ℕ} 0 1 = cc in absurd (omega arith)
over-gathered mode.Text l o m p words text scratch attributes source c s rooms kind b r e li f = f li
over-gathered mode.List l o m p words text scratch attributes source c s rooms kind b r e li f = let w : ◌≡◌ {A = ℕ} 0 1 = cc in absurd (omega arith)

pub both : (a b : Bool) → (a && b) ≡ true → b ≡ true
both true b e = e
both false b e = absurd (differ (sym e))

pub neither : (a b : Bool) → (a && b) ≡ false → a ≡ true → b ≡ false
neither true b e q = e
neither false b e q = absurd (differ (sym q))
