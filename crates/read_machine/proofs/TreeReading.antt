-- Where reading accepts, the areas that it leaves are a layout. Assumes nothing.
use Prim.Native.Nat.{ℕ, zero, suc, ◌+◌, ◌-◌, ◌*◌, ◌/◌, ◌≤◌, min}
use mathlib.Core.Bool.{Bool, true, false, cond, false≢true}
use mathlib.Core.List.{List, [], ◌∷◌, ◌++◌}
use mathlib.Core.Option.{some}
use mathlib.Core.Path.{◌≡◌, refl, ap, ap₂, subst, ◌∙◌}
use native.Mathlib.Omega.{arith}
use borrow.Author.Tests.{leb-true, le-leb}
use lib.Dec.{eqb}
use lib.ListN.{length, drop}
use Rattle.text_pieces.specs.of_area.Area.{zeros, laid}
use Rattle.text_pieces.proofs.of_area.Laying.{laid-zeros}
use Rattle.text_pieces.specs.of_utf8.Characters.{joined}
use Rattle.text_pieces.specs.of_refusal.Refusal.{Outcome, accepted, refused}
use Rattle.table_events.specs.of_table.Event.{Attribute, Start, Empty, End, Text, CData, Ref, Other, Indent, Event, Tag, Piece, Eof, Fault, kind_at, bytes_at, attributes_from, event_of, event_at, resolve_from, resolve}
use Rattle.table_events.specs.of_table.Table.{word, count_of, table_of}
use Rattle.text_pieces.proofs.Gathering.{utf8-newline}
use Rattle.read_path.specs.of_tree_report.Fields.{live}
use Rattle.read_path.specs.of_tree_report.Layout.{Open, nothing, used_words, used_text, all_zero, filled, good_text, all_good, good_order, records_of, layout}
use Rattle.read_path.specs.of_tree_report.Report.{Report}
use Rattle.read_path.specs.of_tree_report.ReportOf.{only, report_from, report_of}
use Rattle.read_path.proofs.of_tree_report.EncodeLists.{both, Each, done, more, each_on}
use Rattle.read_path.proofs.of_tree_report.EncodeText.{take-area, filled-texts, good-texts}
use Rattle.read_path.proofs.of_tree_report.EncodeAreas.{Whole, records-of, zeros-behind}
use Rattle.read_path.specs.of_read_element.Outcome.{◌>>=◌, rooms_of, fits}
use Rattle.read_path.proofs.of_read_element.TreeOutcome.{Holds, accept, refuse, bind, held}
use Rattle.read_machine.specs.Machine.{Machine, run, begin}
use Rattle.read_machine.specs.Reading.{read_as, reading}
use Rattle.read_machine.proofs.TreeReport.{report-same}
use Rattle.read_machine.proofs.TreeOrder.{kinds, Path, end, past, next, path-order}
use Rattle.read_machine.proofs.TreeKept.{kept_whole, kept-plain, all-good}
use Rattle.read_machine.proofs.TreeInvariant.{Good, FairEvent, Ended, ran}

begin-good : (n m k : ℕ) → Good (rooms_of n m k) begin
unfolding fits
begin-good n m k = record {
  sound = record {
    records = done;
    space = le-leb 0 (min (n / 32) 65536) (omega arith);
    stored = record { sound = refl; clean = refl; room = le-leb 0 (min m 16777216) (omega arith) };
    description = refl;
    gathered = refl;
  };
  order = λ e. absurd (false≢true e);
}

-- what reading leaves where it accepts
pub run-ended : (n m k : ℕ) (es : List Event) (s : Machine) → Each FairEvent es → run (rooms_of n m k) es begin ≡ accepted s → Ended (rooms_of n m k) s
run-ended n m k es s f e = held (subst (Holds (Ended (rooms_of n m k))) e (ran begin f (begin-good n m k)))

-- there is a live record
some-live : {o p : Open} (rs : List (List ℕ)) → Path o (kinds rs) p → o.level ≡ 0 → 1 ≤ p.level → (r : List ℕ) × (qs : List (List ℕ)) × (only live rs ≡ r ∷ qs)
some-live [] end z h = absurd (omega arith)
some-live (r ∷ rs) (past e a) z h = let q = some-live rs a z h in (q.0, q.1, rw e q.2)
some-live (r ∷ rs) (next e m a) z h = (r, only live rs, rw e refl)

module _ (n m k : ℕ) (s : Machine) (w : Ended (rooms_of n m k) s) where
  abbrev records : List (List ℕ)
  records = s.content.records

  abbrev texts : List ℕ
  texts = s.content.texts

  records-most : length records ≤ min (n / 32) 65536
  unfolding fits
  records-most = leb-true (length records) (min (n / 32) 65536) w.sound.space

  texts-most : length texts ≤ min m 16777216
  unfolding fits
  texts-most = leb-true (length texts) (min m 16777216) w.sound.stored.room

  records-whole : Each Whole records
  records-whole = each_on (λ r k. kept_whole k) w.sound.records

  limit : length records ≤ 65536
  limit = let h = records-most in omega arith

  room : length records * 32 ≤ n
  room = let h = records-most in omega arith

  pub records-left : records_of (laid (zeros n) (joined records)) ≡ records
  records-left = records-of records-whole n limit room

  pub texts-left : (j : ℕ) × (used_text (laid (zeros m) texts) ≡ texts ++ zeros j)
  texts-left =
      let h = texts-most in
      let p = take-area texts (m - length texts) 16777216 (omega arith) in
      (p.0, ap used_text (laid-zeros m texts (omega arith)) ∙ p.1)

  pub ended-layout : layout (laid (zeros n) (joined records)) (laid (zeros m) texts) ≡ true
  unfolding layout
  ended-layout =
      let j : ℕ = texts-left.0 in
      let e = texts-left.1 in
      let c = w.sound.stored.clean in
      both (ap good_text e ∙ good-texts texts j w.sound.stored.sound c)
      (both (ap₂ all_good (ap filled e ∙ filled-texts texts j c) records-left ∙ all-good w.sound.records)
      (both
      (ap (good_order nothing) records-left
      ∙ path-order (each_on (λ r k. kept-plain k) w.sound.records) w.order.path w.order.holds.level w.order.holds.ends)
      (ap (λ (rs : List (List ℕ)). all_zero (drop (length rs * 32) (used_words (laid (zeros n) (joined records))))) records-left ∙ zeros-behind records-whole n limit room)))

  pub ended-live : (r : List ℕ) × (qs : List (List ℕ)) × (only live records ≡ r ∷ qs)
  ended-live = some-live records w.order.path refl w.order.holds.level

  pub ended-report : report_of (laid (zeros n) (joined records)) (laid (zeros m) texts) ≡ report_from texts (only live records)
  unfolding report_of
  ended-report =
      ap₂ (λ (t : List ℕ) (rs : List (List ℕ)). report_from t (only live rs)) texts-left.1 records-left ∙ report-same texts (zeros texts-left.0) w.sound.records

  pub ended_some : (r : Report) × (report_from texts (only live records) ≡ some r)
  ended_some = let q = ended-live in some-report q.0 q.1 (only live records) q.2
    where
      some-report : (h : List ℕ) (hs qs : List (List ℕ)) → qs ≡ h ∷ hs → (r : Report) × (report_from texts qs ≡ some r)
      some-report h hs qs e = (_, ap (report_from texts) e)

-- demand 2: the tree it leaves is a layout
pub reading-layout : (n m k : ℕ) (es : List Event) (s : Machine) → Each FairEvent es → run (rooms_of n m k) es begin ≡ accepted s
    → layout (laid (zeros n) (joined s.content.records)) (laid (zeros m) s.content.texts) ≡ true
reading-layout n m k es s f e = ended-layout n m k s (run-ended n m k es s f e)

-- and `report_of` of it is that report
pub reading-report : (n m k : ℕ) (es : List Event) (s : Machine) → Each FairEvent es → run (rooms_of n m k) es begin ≡ accepted s
    → report_of (laid (zeros n) (joined s.content.records)) (laid (zeros m) s.content.texts) ≡ report_from s.content.texts (only live s.content.records)
reading-report n m k es s f e = ended-report n m k s (run-ended n m k es s f e)

-- there is one
pub reading-some : (n m k : ℕ) (es : List Event) (s : Machine) → Each FairEvent es → run (rooms_of n m k) es begin ≡ accepted s
    → (r : Report) × (report_from s.content.texts (only live s.content.records) ≡ some r)
reading-some n m k es s f e = ended_some n m k s (run-ended n m k es s f e)

-- ---- resolved events
fair-event : (kind : ℕ) (bytes : List ℕ) (j : ℕ) (xs : List Attribute) → FairEvent (event_of kind bytes j xs)
unfolding event_of
fair-event kind bytes j xs = go (eqb kind 0) (eqb kind 1) (eqb kind 2) (eqb kind 3) (eqb kind 4) (eqb kind 5) (eqb kind 6) (eqb kind 7) (eqb kind 8)
  where
    go : (a b c d e f g h i : Bool) → FairEvent (cond a (Tag Start bytes j xs) (cond b (Tag Empty bytes j xs) (cond c (Tag End bytes 0 []) (cond d (Piece Text bytes) (cond e (Piece CData bytes)
        (cond f (Piece Ref bytes) (cond g (Piece Other bytes) (cond h Eof (cond i Fault (Piece Indent (10 ∷ [])))))))))))
    go true b c d e f g h i = tt
    go false true c d e f g h i = tt
    go false false true d e f g h i = tt
    go false false false true e f g h i = tt
    go false false false false true f g h i = tt
    go false false false false false true g h i = tt
    go false false false false false false true h i = tt
    go false false false false false false false true i = tt
    go false false false false false false false false true = tt
    go false false false false false false false false false = utf8-newline

fair-from : (events attributes source : List ℕ) (n i : ℕ) → Each FairEvent (resolve_from events attributes source n i)
unfolding resolve_from event_at
fair-from events attributes source zero i = done
fair-from events attributes source (suc n) i =
    more (fair-event (kind_at events i) (bytes_at events source i) (word events i 3) (attributes_from attributes source (word events i 4) (word events i 3)))
    (fair-from events attributes source n (i + 1))

-- the events of any table are fair, so that `ran` may be used on them
pub resolve-fair : (events attributes source : List ℕ) → Each FairEvent (resolve events attributes source)
unfolding resolve
resolve-fair events attributes source = fair-from events attributes source (count_of events) 0

-- ---- the whole: a table that is accepted leaves a layout that holds a report
pub record Tree (words text : List ℕ) : Type 0 where
  pub whole : layout words text ≡ true
  pub report : Report
  pub read : report_of words text ≡ some report

left : (n m k : ℕ) (o : Outcome Machine) → Holds (Ended (rooms_of n m k)) o → (read_as n m k o).outcome ≡ accepted tt → Tree (read_as n m k o).words (read_as n m k o).text
unfolding read_as
left n m k (accepted s) (accept w) e = let q = ended_some n m k s w in record { whole = ended-layout n m k s w; report = q.0; read = ended-report n m k s w ∙ q.1 }
left n m k (refused r) refuse e = let z : ◌≡◌ {A = ℕ} 0 1 = cc in absurd (omega arith)

pub reading-tree : (events attributes source : List ℕ) (n m k : ℕ) → (reading events attributes source n m k).outcome ≡ accepted tt
    → Tree (reading events attributes source n m k).words (reading events attributes source n m k).text
unfolding reading
reading-tree events attributes source n m k e =
    left n m k (table_of events attributes source >>= λ _. run (rooms_of n m k) (resolve events attributes source) begin)
    (bind (trivial (table_of events attributes source)) λ u q. ran begin (resolve-fair events attributes source) (begin-good n m k)) e
  where
    trivial : {A : Type 0} (o : Outcome A) → Holds (λ a. Unit {0}) o
    trivial (accepted a) = accept tt
    trivial (refused r) = refuse
