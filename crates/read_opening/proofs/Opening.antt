-- Elements opened and properties read: what is known of the content then. Assumes nothing.
use Rattle.std.specs.Prelude.{Ok, Err}
use Prim.Native.Nat.{ℕ, ◌+◌, ◌-◌, ◌≤◌, ◌<◌}
use mathlib.Core.Path.{◌≡◌, refl, sym, ap, subst, ◌∙◌}
use mathlib.Core.Bool.{Bool, true, false, cond, ◌&&◌, ◌||◌}
use mathlib.Core.List.{List, [], ◌++◌}
use native.Mathlib.Omega.{arith}
use lib.Dec.{leb, eqb, lit≤}
use lib.ListN.{length}
use borrow.Author.Tests.{ne_eqb, leb-true, eqb-true}
use Rattle.read_lists.specs.of_area.Area.{zeros}
use Rattle.read_lists.specs.of_utf8.Characters.{joined}
use Rattle.read_lists.specs.of_refusal.Refusal.{Outcome, accepted}
use Rattle.read_lists.specs.of_table.Event.{Attribute}
use Rattle.read_lists.specs.of_read_element.Outcome.{Place, Rooms}
use Rattle.read_lists.specs.of_read_state.Control.{Level, top, suite, case, status, Mode, at, gathering, listing, skipping, finished, Control, open_report, open_suite, open_case, open_status, turn}
use Rattle.read_lists.specs.of_read_state.inside.Coded.{opening}
use Rattle.read_lists.specs.of_read_place.Marks.{Marks, marks_after}
use Rattle.read_lists.specs.of_read_content.Content.{Content, kill_all, kill_kind, property_kind, record_of_it, adding, with_records, perform}
use Rattle.read_lists.specs.of_read_element.inside.Refines.{went, stopped}
use Rattle.read_lists.specs.of_read_content.inside.Holds.{Performed, kill_words, Holds, Listed, Opened, Lists, opens, has_list, Comes, Performs, no_list, list_of, content, with_list, Added}
use Rattle.read_lists.specs.of_read_content.declared.List.{List as CodedList}
use Rattle.read_lists.specs.of_read_content.declared.Content.{Content as CodedContent}
use Rattle.read_lists.proofs.of_read_content.Areas.{words_size}
use Rattle.read_lists.proofs.of_read_content.Killing.{kill-words, kind-size, kind-whole, all-size, all_whole, span-kind, span-all}
use Rattle.read_lists.proofs.of_read_content.Listing.{added-listed, new-listed, one-listed, listed-anew, listed-other, dead-kind, dead-all, opened-added}

no : {A : Type 0} → ◌≡◌ {A = Bool} false true → A
no e = absurd (let z : ◌≡◌ {A = ℕ} 0 1 = ap (λ (b : Bool). cond b 1 0) e in omega arith)

-- what follows from what is known behind an act may be told in its place
pub comes-on : {Q R : CodedContent → Content → Type 0} {p : Place} {words text scratch attributes source : List ℕ} {o : Outcome Content} {r : Performed}
    → Comes Q p words text scratch attributes source o r → ((c : CodedContent) (s : Content) → Q c s → R c s) → Comes R p words text scratch attributes source o r
comes-on (went {s = s} {c = c} (h, q)) k = went (h, k c s q)
comes-on stopped k = stopped

-- ---- the report
abbrev pub reported : CodedContent → CodedContent
reported c = content c.used c.fill c.description c.gathered c.used c.suite_list c.case_list c

module _ {words text scratch attributes source : List ℕ} {c : CodedContent} {s : Content} (hd : Holds words text scratch attributes source c s) where
  pub all-killed : {words' : List ℕ} → words' ≡ kill_words (c.used - c.report_at) c.report_at words
      → Holds words' text scratch attributes source (reported c) (with_records s (kill_all s.records))
  all-killed {words'} e =
      let n : c.used - c.report_at ≡ length s.records - c.report_at = ap (λ (k : ℕ). k - c.report_at) hd.used in
      let u = hd.used in
      let a = hd.report in
      record {
        room = hd.room;
        left = hd.left;
        records =
            e ∙ ap (λ (k : ℕ). kill_words k c.report_at words) n
            ∙ ap (kill_words (length s.records - c.report_at) c.report_at) hd.records
            ∙ kill-words (length s.records - c.report_at) c.report_at s.records (zeros hd.room) hd.whole (omega arith)
            ∙ ap (λ (rs : List (List ℕ)). joined rs ++ zeros hd.room) (span-all c.report_at s.records (omega arith) hd.dead);
        whole = all_whole s.records hd.whole;
        used = u ∙ sym (all-size s.records);
        stored = hd.stored;
        fill = hd.fill;
        within = hd.within;
        begins = hd.begins;
        described = hd.described;
        behind = hd.behind;
        description = hd.description;
        gathered = hd.gathered;
        free = hd.free;
        report = omega arith;
        dead = λ i h. dead-all s.records hd.whole i (omega arith);
      }

  pub killed-same : {words' : List ℕ} → words' ≡ kill_words (c.used - c.report_at) c.report_at words → length words' ≡ length words
  unfolding all-killed
  killed-same e = words_size (all-killed e) ∙ sym (words_size hd)

  -- ---- a properties list
  kind-killed : (κ from : ℕ) (list : CodedList) (c' : CodedContent) {words' : List ℕ} → Listed κ from list s.records → 0 < κ → κ < 16
      → c' ≡ content c.used c.fill c.description c.gathered c.report_at c'.suite_list c'.case_list c
      → words' ≡ kill_words list.count list.first words → Holds words' text scratch attributes source c' (with_records s (kill_kind κ from s.records))
  kind-killed κ from list c' {words'} l z h q e =
      let g = l.high in
      rw q (record {
        room = hd.room;
        left = hd.left;
        records =
            e ∙ ap (kill_words list.count list.first) hd.records
            ∙ kill-words list.count list.first s.records (zeros hd.room) hd.whole (omega arith)
            ∙ ap (λ (rs : List (List ℕ)). joined rs ++ zeros hd.room) (span-kind κ from list s.records l);
        whole = kind-whole κ from s.records hd.whole;
        used = hd.used ∙ sym (kind-size κ from s.records);
        stored = hd.stored;
        fill = hd.fill;
        within = hd.within;
        begins = hd.begins;
        described = hd.described;
        behind = hd.behind;
        description = hd.description;
        gathered = hd.gathered;
        free = hd.free;
        report = hd.report;
        dead = dead-kind κ from s.records z h hd.dead;
      })

  module _ (p : Place) (m : Marks) where
    -- the list before is marked dead (rule R17)
    pub list-opened : (l : Level) → has_list (at l) ≡ true → Lists (at l) m c s → {words' : List ℕ} → words' ≡ kill_words (list_of l c).count (list_of l c).first words
        → Performs (listing l) m p words' text scratch attributes source
        (accepted (with_records s (kill_kind (property_kind l) (record_of_it l m) s.records))) (Ok (with_list l c (record { first = c.used; count = 0 })))
    list-opened top a li e = no a
    list-opened suite a li e =
        went (
          kind-killed 4 m.suite_at_of c.suite_list (with_list suite c (record { first = c.used; count = 0 })) li.0 (lit≤ tt) (lit≤ tt) refl e,
          (rw hd.used (listed-anew 4 m.suite_at_of s.records (lit≤ tt) (lit≤ tt) li.0), (li.1, omega arith)),
        )
    list-opened case a li e =
        went (
          kind-killed 5 m.case_at_of c.case_list (with_list case c (record { first = c.used; count = 0 })) li.0.1 (lit≤ tt) (lit≤ tt) refl e,
          (
            (
              listed-other 5 m.case_at_of s.records (lit≤ tt) (lit≤ tt) (lit≤ tt) (λ z. omega arith) li.0.0,
              rw hd.used (listed-anew 5 m.case_at_of s.records (lit≤ tt) (lit≤ tt) li.0.1),
            ),
            (li.1, omega arith),
          ),
        )
    list-opened status a li e = no a

-- the same areas with other lists
pub holds-lists : {words text scratch attributes source : List ℕ} {c : CodedContent} {s : Content} (c' : CodedContent)
    → c' ≡ content c.used c.fill c.description c.gathered c.report_at c'.suite_list c'.case_list c
    → Holds words text scratch attributes source c s → Holds words text scratch attributes source c' s
holds-lists c' q hd =
    rw q (record {
      room = hd.room;
      left = hd.left;
      records = hd.records;
      whole = hd.whole;
      used = hd.used;
      stored = hd.stored;
      fill = hd.fill;
      within = hd.within;
      begins = hd.begins;
      described = hd.described;
      behind = hd.behind;
      description = hd.description;
      gathered = hd.gathered;
      free = hd.free;
      report = hd.report;
      dead = hd.dead;
    })

pub kind-bounds : (l : Level) → (1 ≤ property_kind l) × (property_kind l ≤ 12)
kind-bounds top = (lit≤ tt, lit≤ tt)
kind-bounds suite = (lit≤ tt, lit≤ tt)
kind-bounds case = (lit≤ tt, lit≤ tt)
kind-bounds status = (lit≤ tt, lit≤ tt)

-- a property more
abbrev pub counted : Level → CodedList → Performed → Performed
counted l list (Ok c) = Ok (with_list l c list)
counted l list (Err f) = Err f

module _ {words text scratch attributes source : List ℕ} {c : CodedContent} {s : Content} (hd : Holds words text scratch attributes source c s) (m : Marks) where
  property-lists : (l : Level) → Lists (listing l) m c s → (c' : CodedContent) (s' : Content) → c'.used ≡ length s'.records → Added (property_kind l) c s c' s'
      → Lists (listing l) m (with_list l c' (record { first = (list_of l c).first; count = (list_of l c).count + 1 })) s'
  property-lists top li c' s' u a = absurd li.1.1
  property-lists suite li c' s' u a =
      let e = li.1.1 in
      let n = hd.used in
      let w = a.alone (lit≤ tt) in
      (one-listed a (lit≤ tt) (omega arith) li.0, (a.gathered ∙ li.1.0, omega arith))
  property-lists case li c' s' u a =
      let e = li.1.1 in
      let n = hd.used in
      let w = a.alone (lit≤ tt) in
      ((rw a.suite-list (added-listed a (λ z. omega arith) (λ z. omega arith) (lit≤ tt) li.0.0), one-listed a (lit≤ tt) (omega arith) li.0.1), (a.gathered ∙ li.1.0, omega arith))
  property-lists status li c' s' u a = absurd li.1.1

  with-is : (l : Level) (c' : CodedContent) (list : CodedList)
      → with_list l c' list ≡ content c'.used c'.fill c'.description c'.gathered c'.report_at (with_list l c' list).suite_list (with_list l c' list).case_list c'
  with-is top c' list = refl
  with-is suite c' list = refl
  with-is case c' list = refl
  with-is status c' list = refl

  property-on : (p : Place) (l : Level) {words' text' : List ℕ} {o : Outcome Content} {added : Performed}
      → Lists (listing l) m c s → Comes (Added (property_kind l) c s) p words' text' scratch attributes source o added
      → Performs (listing l) m p words' text' scratch attributes source o (counted l (record { first = (list_of l c).first; count = (list_of l c).count + 1 }) added)
  property-on p l li (went {s = s'} {c = c'} (h, a)) =
      went (
        holds-lists (with_list l c' (record { first = (list_of l c).first; count = (list_of l c).count + 1 })) (with-is l c' (record { first = (list_of l c).first; count = (list_of l c).count + 1 })) h,
        property-lists l li c' s' h.used a,
      )
  property-on p l li stopped = stopped

  pub property-comes : (p : Place) (l : Level) (rooms : Rooms) (j : ℕ) (xs : List Attribute) {kind : ℕ} {old : CodedList} {words' text' : List ℕ} {added r : Performed}
      → kind ≡ property_kind l → Lists (listing l) m c s
      → old ≡ list_of l c → Comes (Added kind c s) p words' text' scratch attributes source (adding rooms p kind j xs s) added
      → r ≡ counted l (record { first = old.first; count = old.count + 1 }) added
      → Performs (listing l) m p words' text' scratch attributes source (adding rooms p (property_kind l) j xs s) r
  property-comes p l rooms j xs {kind} {old} {words'} {text'} {added} {r} ke li oe f q =
      rw (q, oe) (property-on p l li (subst (λ (k : ℕ). Comes (Added k c s) p words' text' scratch attributes source (adding rooms p k j xs s) added) ke f))

  -- a list has no more properties than there are records: the bound of its count
  pub few-properties : (l : Level) → Lists (listing l) m c s → (list_of l c).count ≤ c.used
  few-properties top li = absurd li.1.1
  few-properties suite li = let e = li.1.1 in omega arith
  few-properties case li = let e = li.1.1 in omega arith
  few-properties status li = absurd li.1.1

-- ---- suite and case
module _ (m : Marks) (c : CodedContent) (s : Content) where
  abbrev pub in_suite : CodedContent
  in_suite = with_list suite c no_list

  abbrev pub in_case : CodedContent
  in_case = with_list case c no_list

  pub report-lists : s.gathered ≡ [] → {c₁ : CodedContent} (c' : CodedContent) (s' : Content) → Added 1 c₁ (with_records s (kill_all s.records)) c' s' → Lists (at top) m c' s'
  report-lists g c' s' a = (tt, a.gathered ∙ g)

  pub suite-lists : s.gathered ≡ [] → m.suite_at_of ≡ length s.records → (c' : CodedContent) (s' : Content) → Added 2 (with_list suite c no_list) s c' s' → Lists (at suite) m c' s'
  suite-lists g e c' s' a = (rw (a.suite-list, e) (new-listed a (λ z. omega arith) (λ z. omega arith) (lit≤ tt)), a.gathered ∙ g)

  pub case-lists : Lists (at suite) m c s → m.case_at_of ≡ length s.records → (c' : CodedContent) (s' : Content) → Added 3 (with_list case c no_list) s c' s' → Lists (at case) m c' s'
  case-lists li e c' s' a = (
    (rw a.suite-list (added-listed a (λ z. omega arith) (λ z. omega arith) (lit≤ tt) li.0), rw (a.case-list, e) (new-listed a (λ z. omega arith) (λ z. omega arith) (lit≤ tt))),
    a.gathered ∙ li.1,
  )

  status-lists : (kind : ℕ) → 6 ≤ kind → Lists (at case) m c s → m.status_at_of ≡ length s.records → (c' : CodedContent) (s' : Content) → Added kind c s c' s' → Lists (at status) m c' s'
  status-lists kind h li e c' s' a =
      let o : Opened case m c' s' = opened-added m a (λ z. omega arith) (λ z. omega arith) case li.0 in
      let x = a.more in
      ((o.0, (o.1, omega arith)), a.gathered ∙ li.1)

  either-suite : (e : Bool) → Lists (at suite) m c s → Lists (at (cond e top suite)) m c s
  either-suite true li = (tt, li.1)
  either-suite false li = li

  either-case : (e : Bool) → Lists (at case) m c s → Lists (at (cond e suite case)) m c s
  either-case true li = (li.0.0, li.1)
  either-case false li = li

  either-status : (e : Bool) → Lists (at status) m c s → Lists (at (cond e case status)) m c s
  either-status true li = ((li.0.0, li.0.1.0), li.1)
  either-status false li = li

-- ---- which elements a mode opens
module _ (m : Marks) (c : CodedContent) (s : Content) where
  pub opens_plain : (kind : ℕ) (mode : Mode) → opens kind mode ≡ true → Lists mode m c s → s.gathered ≡ []
  opens_plain kind (at l) e li = li.1
  opens_plain kind (gathering l o) e li = no e
  opens_plain kind (listing l) e li = no e
  opens_plain kind (skipping l name depth) e li = no e
  opens_plain kind finished e li = no e

  opens-case : (mode : Mode) → opens 3 mode ≡ true → Lists mode m c s → Lists (at suite) m c s
  opens-case (at top) e li = no e
  opens-case (at suite) e li = li
  opens-case (at case) e li = no e
  opens-case (at status) e li = no e
  opens-case (gathering l o) e li = no e
  opens-case (listing l) e li = no e
  opens-case (skipping l name depth) e li = no e
  opens-case finished e li = no e

  opens-status : (kind : ℕ) → (kind ≡ 1 → ⊥) → (kind ≡ 2 → ⊥) → (kind ≡ 3 → ⊥) → (mode : Mode) → opens kind mode ≡ true → Lists mode m c s → (6 ≤ kind) × Lists (at case) m c s
  opens-status kind a b d (at top) e li = no (sym (ap (λ (t : Bool). t || eqb kind 2) (ne_eqb kind 1 a) ∙ ne_eqb kind 2 b) ∙ e)
  opens-status kind a b d (at suite) e li = no (sym (ne_eqb kind 3 d) ∙ e)
  opens-status kind a b d (at case) e li = (go (leb 6 kind) refl e, li)
    where
      go : (t : Bool) → leb 6 kind ≡ t → (t && leb kind 12) ≡ true → 6 ≤ kind
      go true q x = leb-true 6 kind q
      go false q x = no x
  opens-status kind a b d (at status) e li = no e
  opens-status kind a b d (gathering l o) e li = no e
  opens-status kind a b d (listing l) e li = no e
  opens-status kind a b d (skipping l name depth) e li = no e
  opens-status kind a b d finished e li = no e

-- the kinds of elements that a mode opens are 1 to 12
pub opens-bounds : (kind : ℕ) (mode : Mode) → opens kind mode ≡ true → (1 ≤ kind) × (kind ≤ 12)
opens-bounds kind (at top) e = go (eqb kind 1) refl (eqb kind 2) refl e
  where
    go : (a : Bool) → eqb kind 1 ≡ a → (b : Bool) → eqb kind 2 ≡ b → (a || b) ≡ true → (1 ≤ kind) × (kind ≤ 12)
    go true p b q x = let z = eqb-true kind 1 p in (omega arith, omega arith)
    go false p true q x = let z = eqb-true kind 2 q in (omega arith, omega arith)
    go false p false q x = no x
opens-bounds kind (at suite) e = let z = eqb-true kind 3 e in (omega arith, omega arith)
opens-bounds kind (at case) e = go (leb 6 kind) refl (leb kind 12) refl e
  where
    go : (a : Bool) → leb 6 kind ≡ a → (b : Bool) → leb kind 12 ≡ b → (a && b) ≡ true → (1 ≤ kind) × (kind ≤ 12)
    go true p true q x = let y = leb-true 6 kind p in let z = leb-true kind 12 q in (omega arith, omega arith)
    go true p false q x = no x
    go false p b q x = no x
opens-bounds kind (at status) e = no e
opens-bounds kind (gathering l o) e = no e
opens-bounds kind (listing l) e = no e
opens-bounds kind (skipping l name depth) e = no e
opens-bounds kind finished e = no e

-- ---- an element by its kind
abbrev pub Done : (words text scratch attributes source : List ℕ) → Place → Content → Control → Marks → Bool → Rooms → ℕ → List Attribute → Performed → ℕ → Type 0
Done words text scratch attributes source p s k m e rooms j xs r kind =
    Performs (turn (opening kind e) k).mode (marks_after (opening kind e) (length s.records) m) p words text scratch attributes source (perform rooms p (opening kind e) j xs k m s) r

module _ {words text scratch attributes source : List ℕ} (p : Place) (c : CodedContent) (s : Content)
    (k : Control) (m : Marks) (e : Bool) (rooms : Rooms) (j : ℕ) (xs : List Attribute) {r : Performed} where
  pub opened-report : {kind : ℕ} → kind ≡ 1 → opens kind k.mode ≡ true → Lists k.mode m c s
      → ((n : Marks) → s.gathered ≡ [] → Performs (at top) n p words text scratch attributes source (adding rooms p 1 j xs (with_records s (kill_all s.records))) r)
      → Done words text scratch attributes source p s k m e rooms j xs r kind
  unfolding turn marks_after perform
  opened-report {kind} q o li f = rw q (f (marks_after (open_report e) (length s.records) m) (opens_plain m c s kind k.mode o li))

  pub opened-suite : {kind : ℕ} → kind ≡ 2 → opens kind k.mode ≡ true → Lists k.mode m c s
      → ((n : Marks) → s.gathered ≡ [] → n.suite_at_of ≡ length s.records → Performs (at suite) n p words text scratch attributes source (adding rooms p 2 j xs s) r)
      → Done words text scratch attributes source p s k m e rooms j xs r kind
  unfolding turn marks_after perform
  opened-suite {kind} q o li f = rw q (comes-on (f (marks_after (open_suite e) (length s.records) m) (opens_plain m c s kind k.mode o li) refl)
      (λ c' s' x. either-suite (marks_after (open_suite e) (length s.records) m) c' s' e x))

  pub opened-case : {kind : ℕ} → kind ≡ 3 → opens kind k.mode ≡ true → Lists k.mode m c s
      → ((n : Marks) → Lists (at suite) n c s → n.case_at_of ≡ length s.records → Performs (at case) n p words text scratch attributes source (adding rooms p 3 j xs s) r)
      → Done words text scratch attributes source p s k m e rooms j xs r kind
  unfolding turn marks_after perform
  opened-case {kind} q o li f =
      let y = opens-case m c s k.mode (rw q at o) li in
      rw q (comes-on (f (marks_after (open_case e) (length s.records) m) y refl) (λ c' s' x. either-case (marks_after (open_case e) (length s.records) m) c' s' e x))

  pub opened-status : (kind : ℕ) → (kind ≡ 1 → ⊥) → (kind ≡ 2 → ⊥) → (kind ≡ 3 → ⊥) → opens kind k.mode ≡ true → Lists k.mode m c s
      → Comes (Added kind c s) p words text scratch attributes source (adding rooms p kind j xs s) r → Done words text scratch attributes source p s k m e rooms j xs r kind
  unfolding turn marks_after perform
  opened-status kind a b d o li f =
      let y = opens-status m c s kind a b d k.mode o li in
      rw (ne_eqb kind 1 a, ne_eqb kind 2 b, ne_eqb kind 3 d)
      (comes-on f (λ c' s' x.
      either-status (marks_after (open_status kind e) (length s.records) m) c' s' e (status-lists (marks_after (open_status kind e) (length s.records) m) c s kind y.0 y.1 refl c' s' x)))
