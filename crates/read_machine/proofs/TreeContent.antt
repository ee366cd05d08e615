-- What actions do to records and texts: they stay such as a layout may have. Assumes nothing.
use Prim.Native.Nat.{ℕ, ◌+◌, ◌≤◌}
use mathlib.Core.Bool.{Bool, true, false, cond}
use mathlib.Core.List.{List, [], ◌∷◌, ◌++◌}
use mathlib.Core.Path.{◌≡◌, refl, sym, ap, subst, ◌∙◌}
use native.Mathlib.Omega.{arith}
use lib.Dec.{leb, lit≤}
use lib.ListN.{length}
use Rattle.text_pieces.specs.of_area.Answer.{gives, refuses}
use Rattle.text_pieces.specs.of_utf8.Characters.{encode}
use Rattle.text_pieces.specs.of_utf8.Utf8.{utf8}
use Rattle.text_pieces.proofs.of_utf8.Rules.{utf8_append}
use Rattle.read_content.specs.of_trim.Trim.{trimmed}
use Rattle.read_content.proofs.of_trim.Ends.{utf8-trimmed}
use Rattle.text_pieces.proofs.of_text_filter.Filtering.{utf8-filtered, unfiltered-filtered}
use Rattle.text_pieces.proofs.Gathering.{utf8-reference}
use Rattle.text_pieces.specs.of_reference.Reference.{refs_ok, decoded, is_named, char_of, unnamed}
use Rattle.text_pieces.proofs.of_reference.Keeping.{utf8-decoded}
use Rattle.table_events.specs.of_table.Event.{Attribute, PieceKind, Text, CData, Ref, Other, Indent}
use Rattle.read_path.proofs.of_tree_report.EncodeLists.{Each, done, more, each_append, each_on}
use Rattle.read_path.specs.of_read_element.Outcome.{Place, there, Rooms, fits}
use Rattle.read_path.specs.of_tree_put.Put.{put_text}
use Rattle.read_path.specs.of_read_element.Attributes.{changed, extra_kind}
use Rattle.read_path.proofs.of_read_element.TreeOutcome.{Holds, accept, bind, needed, answered, either}
use Rattle.read_path.proofs.of_read_element.TreeSheet.{name, pair, Sorts, Sheet, sheet-kind, good_at, Grows, good_new, put-out, put-err, put-third, put-fourth}
use Rattle.read_path.proofs.of_read_element.TreeGood.{pair_sorts, suite_extra, case_extra}
use Rattle.read_path.proofs.of_read_element.TreeRoles.{Wide, suite-wide, case-wide, Class, class_final}
use Rattle.read_path.proofs.of_read_element.TreeElement.{Stored, grows-by, stores, Few, no-extras, extras-of, element-read, length-changed}
use Rattle.read_path.specs.of_read_state.Control.{Level, top, suite, case, status, Output, Mode, at, gathering, listing, skipping, finished}
use Rattle.read_path.specs.of_read_place.Marks.{Marks}
use Rattle.read_content.specs.Content.{Content, kill_all, kill_kind, kept, piece_of, with_texts, join_piece, own, gather, adding, with_records, cleaned, keeping, is_empty, describing, outputting}
use Rattle.read_machine.proofs.TreeOrder.{kinds, kinds-append, Some, There}
use Rattle.read_machine.proofs.TreeKept.{Kept, alive, kept-some, kept_more, all-killed, length-all, kind-killed-kept, length-kind}
use Rattle.read_machine.proofs.TreeKept.{sorts_of, kept-changed, changed-same, Status, status-bounds, status-third, status-outputs}
use Rattle.read_machine.proofs.TreePlans.{Gathered, suite-out, suite-err, case-out, case-err, status-trace, status-out, status-err}
use Rattle.text_pieces.specs.of_refusal.declared.Cause.TheVariants as cause
use Rattle.text_pieces.specs.of_refusal.declared.Cause.{Cause}

pub record Sound (rooms : Rooms) (c : Content) : Type 0 where
  pub records : Each (Kept c.texts) c.records
  pub space : fits rooms.records (length c.records) ≡ true
  pub stored : Stored rooms c.texts
  pub description : utf8 c.description ≡ true
  pub gathered : utf8 c.gathered ≡ true

pub sound-some : {rooms : Rooms} {c : Content} → Sound rooms c → Each Some c.records
sound-some s = each_on (λ r k. kept-some k) s.records

-- the records and texts are those, with another description and gathered text
pub sound-texts : {rooms : Rooms} {c : Content} {d g : List ℕ} → utf8 d ≡ true → utf8 g ≡ true → Sound rooms c → Sound rooms (with_texts c d g)
sound-texts p q s = record { records = s.records; space = s.space; stored = s.stored; description = p; gathered = q }

pub sound-all : {rooms : Rooms} {c : Content} → Sound rooms c → Sound rooms (with_records c (kill_all c.records))
sound-all {rooms} {c} s = record {
  records = all-killed s.records;
  space = ap (fits rooms.records) (length-all c.records) ∙ s.space;
  stored = s.stored;
  description = s.description;
  gathered = s.gathered;
}

pub sound-kind : {rooms : Rooms} {c : Content} (κ i : ℕ) → Sound rooms c → Sound rooms (with_records c (kill_kind κ i c.records))
sound-kind {rooms} {c} κ i s = record {
  records = kind-killed-kept κ i s.records;
  space = ap (fits rooms.records) (length-kind κ i c.records) ∙ s.space;
  stored = s.stored;
  description = s.description;
  gathered = s.gathered;
}

-- ---- an element more
extras-kept : {κ : ℕ} {t : List ℕ} {rs : List (List ℕ)} → Few κ rs → Each (Sheet (pair_sorts name pair) t (extra_kind κ)) rs → Each (Kept t) rs
extras-kept no-extras h = done
extras-kept (extras-of suite-wide) h = each_on (λ r s. alive suite_extra s) h
extras-kept (extras-of case-wide) h = each_on (λ r s. alive case_extra s) h

wide_bounds : {κ : ℕ} → Wide κ → (2 ≤ κ) × (κ ≤ 3)
wide_bounds suite-wide = (lit≤ tt, lit≤ tt)
wide_bounds case-wide = (lit≤ tt, lit≤ tt)

few-kinds : {κ : ℕ} {rs : List (List ℕ)} → Few κ rs → ((2 ≤ κ) × (κ ≤ 3) → ⊥) → kinds rs ≡ []
few-kinds no-extras h = refl
few-kinds (extras-of w) h = absurd (h (wide_bounds w))

each-kinds : {S : Sorts} {t : List ℕ} {κ : ℕ} {rs : List (List ℕ)} → Each (Sheet S t κ) rs → Each (λ k. k ≡ κ) (kinds rs)
each-kinds done = done
each-kinds (more h hs) = more (sheet-kind h) (each-kinds hs)

-- the kinds of its records stand behind the others
pub record More (κ : ℕ) (c d : Content) : Type 0 where
  pub extras : List ℕ
  pub whole : kinds d.records ≡ kinds c.records ++ (κ ∷ extras)
  pub each : Each (λ k. k ≡ extra_kind κ) extras
  pub few : ((2 ≤ κ) × (κ ≤ 3) → ⊥) → extras ≡ []

pub adds : {rooms : Rooms} {κ : ℕ} {S T : Sorts} {c : Content} (p : Place) (j : ℕ) (xs : List Attribute)
    → Class κ S T → Sound rooms c → Holds (λ d. Sound rooms d × More κ c d) (adding rooms p κ j xs c)
unfolding adding
adds {rooms} {κ} {S} {T} {c} p j xs class s =
    bind (element-read p j xs c.records c.texts class s.stored) λ g a.
    accept (
      record {
        records =
            subst (Each (Kept g.texts)) (sym a.whole)
            (each_append (each_on (λ r k. kept_more a.grows k) s.records) (more (alive (class_final class) a.sheet) (extras-kept a.few a.each)));
        space = a.space;
        stored = a.stored;
        description = s.description;
        gathered = s.gathered;
      },
      record {
        extras = kinds a.extras;
        whole = ap kinds a.whole ∙ kinds-append c.records (a.main ∷ a.extras) ∙ ap (λ (k : ℕ). kinds c.records ++ (k ∷ kinds a.extras)) (sheet-kind a.sheet);
        each = each-kinds a.each;
        few = few-kinds a.few;
      },
    )

-- ---- a text more
abbrev pub Same : Rooms → Content → Content → Type 0
Same rooms c d = Sound rooms d × (kinds d.records ≡ kinds c.records)

-- the record of number i has kind κ, and takes a text at word o with bit k
pub record Takes (i κ o k : ℕ) (ks : List ℕ) : Type 0 where
  pub there : There i κ ks
  pub most : κ ≤ 14
  pub put : (t r : List ℕ) (x n : ℕ) → good_at t x n ≡ true → Sheet (sorts_of κ) t κ r → Sheet (sorts_of κ) t κ (put_text o k x n r)

keeps : {rooms : Rooms} {c : Content} (p : Place) (taken : Bool) (i κ o k : ℕ) (v : List ℕ) → utf8 v ≡ true → (taken ≡ true → Takes i κ o k (kinds c.records))
    → Sound rooms c → Holds (Same rooms c) (keeping rooms p taken i o k v c)
unfolding keeping
keeps {rooms} {c} p taken i κ o k v u h s =
    let w : List ℕ = cleaned v in
    let uw : utf8 w ≡ true = utf8-filtered (trimmed v) (utf8-trimmed v u) in
    let g : Grows c.texts (c.texts ++ w) = grows-by c.texts w uw in
    let f : List ℕ → List ℕ = kept taken (put_text o k (length c.texts) (length w)) in
    let old : Each (Kept (c.texts ++ w)) c.records = each_on (λ r q. kept_more g q) s.records in
    let new = changes taken h old in
    stores p w uw (unfiltered-filtered (trimmed v)) s.stored λ t.
    accept (
      record {
        records = new.0;
        space = ap (fits rooms.records) (length-changed i f c.records) ∙ s.space;
        stored = t;
        description = s.description;
        gathered = s.gathered;
      },
      new.1,
    )
  where
    changes : (b : Bool) → (b ≡ true → Takes i κ o k (kinds c.records)) → Each (Kept (c.texts ++ cleaned v)) c.records
        → Each (Kept (c.texts ++ cleaned v)) (changed i (kept b (put_text o k (length c.texts) (length (cleaned v)))) c.records)
        × (kinds (changed i (kept b (put_text o k (length c.texts) (length (cleaned v)))) c.records) ≡ kinds c.records)
    changes true h old =
        let t = h refl in
        let g : good_at (c.texts ++ cleaned v) (length c.texts) (length (cleaned v)) ≡ true = good_new c.texts (cleaned v) (utf8-filtered (trimmed v) (utf8-trimmed v u)) in
        kept-changed i κ (kept true (put_text o k (length c.texts) (length (cleaned v)))) t.most
        (λ r q. t.put (c.texts ++ cleaned v) r (length c.texts) (length (cleaned v)) g q) old t.there.there
    changes false h old =
        let e : changed i (kept false (put_text o k (length c.texts) (length (cleaned v)))) c.records ≡ c.records =
        changed-same i (kept false (put_text o k (length c.texts) (length (cleaned v)))) (λ r. refl) c.records in
        (subst (Each (Kept (c.texts ++ cleaned v))) (sym e) old, ap kinds e)

-- a description that trimming leaves empty is missing (rule X11)
pub describes : {rooms : Rooms} {c : Content} (m : Marks) (p : Place) → Status m.status_kind_of
    → There m.status_at_of m.status_kind_of (kinds c.records) → Sound rooms c → Holds (Same rooms c) (describing rooms p m c)
unfolding describing
describes {rooms} {c} m p st th s =
    either (is_empty (trimmed c.description)) (λ e. accept (sound-texts refl refl s, refl)) λ e.
    bind
    (keeps p true m.status_at_of m.status_kind_of 20 6 c.description s.description
    (λ z. record { there = th; most = (let b = (status-bounds st).1 in omega arith); put = λ t r x n g h. put-third x n g (status-third st) h }) s)
    λ d q. accept (sound-texts refl refl q.0, q.1)

-- the element that a gathered text belongs to
abbrev pub Holder : Level → Marks → List ℕ → Type 0
Holder top m ks = Unit {0}
Holder suite m ks = There m.suite_at_of 2 ks
Holder case m ks = There m.case_at_of 3 ks
Holder status m ks = Status m.status_kind_of × There m.status_at_of m.status_kind_of ks

-- an output is kept, an empty one too (rule X12)
pub puts-out : {rooms : Rooms} {c : Content} {l : Level} {o : Output} (m : Marks) (p : Place) → Gathered l o
    → Holder l m (kinds c.records) → Sound rooms c → Holds (Same rooms c) (outputting rooms p l o m c)
unfolding outputting
puts-out m p suite-out h s =
    bind (keeps p true m.suite_at_of 2 4 1 _ s.gathered (λ z. record { there = h; most = lit≤ tt; put = λ t r x n g q. put-out x n g refl q }) s) λ d q.
    accept (sound-texts q.0.description refl q.0, q.1)
puts-out m p suite-err h s =
    bind (keeps p true m.suite_at_of 2 6 2 _ s.gathered (λ z. record { there = h; most = lit≤ tt; put = λ t r x n g q. put-err x n g refl q }) s) λ d q.
    accept (sound-texts q.0.description refl q.0, q.1)
puts-out m p case-out h s =
    bind (keeps p true m.case_at_of 3 4 1 _ s.gathered (λ z. record { there = h; most = lit≤ tt; put = λ t r x n g q. put-out x n g refl q }) s) λ d q.
    accept (sound-texts q.0.description refl q.0, q.1)
puts-out m p case-err h s =
    bind (keeps p true m.case_at_of 3 6 2 _ s.gathered (λ z. record { there = h; most = lit≤ tt; put = λ t r x n g q. put-err x n g refl q }) s) λ d q.
    accept (sound-texts q.0.description refl q.0, q.1)
puts-out m p status-trace h s =
    bind (keeps p (leb 9 m.status_kind_of) m.status_at_of m.status_kind_of 22 7 _ s.gathered
    (λ z. record { there = h.1; most = (let b = (status-bounds h.0).1 in omega arith); put = λ t r x n g q. put-fourth x n g (status-outputs h.0 z).1 q }) s)
    λ d q. accept (sound-texts q.0.description refl q.0, q.1)
puts-out m p status-out h s =
    bind (keeps p (leb 9 m.status_kind_of) m.status_at_of m.status_kind_of 4 1 _ s.gathered
    (λ z. record { there = h.1; most = (let b = (status-bounds h.0).1 in omega arith); put = λ t r x n g q. put-out x n g (status-outputs h.0 z).0 q }) s)
    λ d q. accept (sound-texts q.0.description refl q.0, q.1)
puts-out m p status-err h s =
    bind (keeps p (leb 9 m.status_kind_of) m.status_at_of m.status_kind_of 6 2 _ s.gathered
    (λ z. record { there = h.1; most = (let b = (status-bounds h.0).1 in omega arith); put = λ t r x n g q. put-err x n g (status-outputs h.0 z).0 q }) s)
    λ d q. accept (sound-texts q.0.description refl q.0, q.1)

-- ---- pieces of text; an Indent's bytes are the resolved ones
abbrev pub Fair : PieceKind → List ℕ → Type 0
Fair Text s = Unit {0}
Fair CData s = Unit {0}
Fair Ref s = Unit {0}
Fair Other s = Unit {0}
Fair Indent s = utf8 s ≡ true

given-utf8 : (t : Bool) (x v : List ℕ) (n : Cause) → (t ≡ true → utf8 x ≡ true) → cond t (gives x) (refuses n) ≡ gives v → utf8 v ≡ true
given-utf8 true x v n h e = let q : x ≡ v = cc in sym (ap utf8 q) ∙ h refl
given-utf8 false x v n h e = let z : ◌≡◌ {A = ℕ} 0 1 = cc in absurd (omega arith)

both-utf8 : (b t : Bool) (x v : List ℕ) (n k : Cause) → (b ≡ true → t ≡ true → utf8 x ≡ true) → cond b (cond t (gives x) (refuses n)) (refuses k) ≡ gives v → utf8 v ≡ true
both-utf8 true t x v n k h e = given-utf8 t x v n (h refl) e
both-utf8 false t x v n k h e = let z : ◌≡◌ {A = ℕ} 0 1 = cc in absurd (omega arith)

piece-utf8 : (k : PieceKind) (s v : List ℕ) → Fair k s → piece_of k s ≡ gives v → utf8 v ≡ true
unfolding piece_of
piece-utf8 Text s v f e = both-utf8 (utf8 s) (refs_ok s 0) (decoded s 0) v cause.BadReference cause.NotUtf8 (λ u t. utf8-decoded s u) e
piece-utf8 CData s v f e = given-utf8 (utf8 s) s v cause.NotUtf8 (λ u. u) e
piece-utf8 Ref s v f e = both-utf8 (utf8 s) (is_named s) (encode (char_of s)) v (unnamed s) cause.NotUtf8 (λ u t. utf8-reference s) e
piece-utf8 Other s v f e = given-utf8 true [] v cause.NotUtf8 (λ u. refl) e
piece-utf8 Indent s v f e = given-utf8 true s v cause.NotUtf8 (λ u. f) e

joins : {rooms : Rooms} {c : Content} (m : Mode) (v : List ℕ) → utf8 v ≡ true → Sound rooms c → Same rooms c (join_piece m v c)
joins {c = c} (at l) v u s = (sound-texts (utf8_append c.description v s.description ∙ u) s.gathered s, refl)
joins {c = c} (gathering l o) v u s = (sound-texts s.description (utf8_append c.gathered v s.gathered ∙ u) s, refl)
joins (listing l) v u s = (s, refl)
joins (skipping m skipped depth) v u s = (s, refl)
joins finished v u s = (s, refl)

pub gathers-piece : {rooms : Rooms} {c : Content} (p : Place) (m : Mode) (k : PieceKind) (b : List ℕ) → Fair k b → Sound rooms c → Holds (Same rooms c) (gather rooms p m k b c)
unfolding gather
gathers-piece {rooms} {c} p m k b f s =
    bind (answered p (piece_of k b)) λ v e.
    needed (fits rooms.scratch (length (own m c) + length v)) p cause.ScratchFull λ z. accept (joins m v (piece-utf8 k b v f e) s)
