-- What each act of the code comes to, in the mode it is done in. Assumes nothing.
use Rattle.std.specs.Prelude.{Ok, Err}
use Prim.Native.Nat.{ℕ, ◌+◌, ◌*◌, ◌≤◌}
use mathlib.Core.Logic.{◌⊎◌, inl, inr}
use mathlib.Core.Path.{◌≡◌, refl, sym, ap, subst, ◌∙◌}
use mathlib.Core.Bool.{Bool, true, false, cond, not, ◌||◌}
use mathlib.Core.List.{List, []}
use native.Mathlib.Omega.{arith}
use lib.ListN.{length}
use Rattle.read_texts.specs.of_refusal.Refusal.{nowhere}
use Rattle.read_texts.specs.of_refusal.declared.Cause.{Cause}
use Rattle.read_texts.specs.of_refusal.declared.Cause.TheVariants.{MissingReport, StatusRule}
use Rattle.read_texts.specs.of_table.Event.{Attribute}
use Rattle.read_texts.specs.of_tree_status.declared.Tally.{Tally}
use Rattle.read_texts.specs.of_tree_status.Status.{ruled}
use Rattle.read_texts.specs.of_read_element.Outcome.{Place, Rooms, need}
use Rattle.read_texts.specs.of_read_state.Control.{Level, top, suite, case, status, Output, at, gathering, listing, Control, control, or_skip, turn}
use Rattle.read_texts.specs.of_read_state.inside.Coded.{level_of, output_of, mode_at, opening, closing, act_in, is_step}
use Rattle.read_texts.specs.of_read_state.declared.Level.{Level as CodedLevel}
use Rattle.read_texts.specs.of_read_state.declared.Level.TheVariants as level
use Rattle.read_texts.specs.of_read_state.declared.Mode.{Mode as CodedMode}
use Rattle.read_texts.specs.of_read_state.declared.Mode.TheVariants as mode
use Rattle.read_texts.specs.of_read_state.declared.Output.{Output as CodedOutput}
use Rattle.read_texts.specs.of_read_state.declared.Act.{Act as CodedAct}
use Rattle.read_texts.specs.of_read_state.declared.Act.TheVariants as act
use Rattle.read_texts.specs.of_read_place.Marks.{Marks, marks_after}
use Rattle.read_texts.specs.of_read_content.Content.{Content, property_kind, record_of_it, adding, describing, outputting, perform}
use Rattle.read_texts.specs.of_read_element.inside.Refines.{went}
use Rattle.read_texts.specs.of_read_content.inside.Holds.{Performed, kill_words, Holds, Opened, Lists, Carries, Holding, opens, is_at, is_text, is_list, has_list, apt, Performs, fault_of, list_of, with_list, status_end}
use Rattle.read_texts.specs.of_read_content.declared.Content.{Content as CodedContent}
use Rattle.read_texts.proofs.of_read_content.Areas.{fits-words, fits-text, fits-description, fits-gathered}
use Rattle.read_texts.proofs.of_read_content.Refusing.{halts}
use Rattle.read_opening.proofs.Opening.{comes-on, list-opened, opens-bounds, few-properties}

no : {A : Type 0} → ◌≡◌ {A = Bool} false true → A
no e = absurd (let z : ◌≡◌ {A = ℕ} 0 1 = ap (λ (b : Bool). cond b 1 0) e in omega arith)

-- ---- what the areas are long enough for
opened_in : (k : CodedMode) (l : Level) (o : Output) (m : Marks) (c : CodedContent) (s : Content) → Lists (mode_at k l o) m c s → Opened l m c s
opened_in mode.At l o m c s li = li.0
opened_in mode.Text l o m c s li = li
opened_in mode.List l o m c s li = li.0

record-low : (l : Level) (m : Marks) (c : CodedContent) (s : Content) → Opened l m c s → record_of_it l m ≤ length s.records
record-low top m c s x = omega arith
record-low suite m c s x = let h = x.inside in omega arith
record-low case m c s x = let h = x.1.inside in omega arith
record-low status m c s x = let h = x.1.1 in omega arith

status-low : (l : Level) (m : Marks) (c : CodedContent) (s : Content) → Opened l m c s → status_end l m ≤ length s.records
status-low top m c s x = omega arith
status-low suite m c s x = omega arith
status-low case m c s x = omega arith
status-low status m c s x = let h = x.1.1 in omega arith

list-low : (k : CodedMode) (l : Level) (o : Output) (m : Marks) (c : CodedContent) (s : Content) → has_list (mode_at k l o) ≡ true → Lists (mode_at k l o) m c s
    → (list_of l c).first + (list_of l c).count ≤ length s.records
list-low mode.At top o m c s a li = no a
list-low mode.At suite o m c s a li = li.0.high
list-low mode.At case o m c s a li = li.0.1.high
list-low mode.At status o m c s a li = no a
list-low mode.Text l o m c s a li = no a
list-low mode.List l o m c s a li = no a

list-mode : (k : CodedMode) (l : Level) (o : Output) (m : Marks) (c : CodedContent) (s : Content) → is_list (mode_at k l o) ≡ true → Lists (mode_at k l o) m c s → Lists (listing l) m c s
list-mode mode.At l o m c s a li = no a
list-mode mode.Text l o m c s a li = no a
list-mode mode.List l o m c s a li = li

module _ (k : CodedMode) (l : Level) (o : Output) (m : Marks) {words text scratch attributes source : List ℕ} {c : CodedContent}
    (h : Carries (mode_at k l o) m words text scratch attributes source c) where
  within-words : (n : ℕ) → n ≤ length h.said.records → n * 32 ≤ length words
  within-words n x =
      let a = fits-words h.holds in
      let u = h.holds.used in
      omega arith

  pub held : Holding words text attributes source c
  held = record { scratch = scratch; said = h.said; holds = h.holds }

  pub text-end : c.fill ≤ length text
  text-end = fits-text h.holds

  pub gathered-end : c.child + c.gathered ≤ length scratch
  gathered-end = fits-gathered h.holds

  pub description-end : c.description ≤ length scratch
  description-end = fits-description h.holds

  pub record-end : record_of_it l m * 32 ≤ length words
  record-end = within-words (record_of_it l m) (record-low l m c h.said (opened_in k l o m c h.said h.lists))

  pub status-end : status_end l m * 32 ≤ length words
  status-end = within-words (status_end l m) (status-low l m c h.said (opened_in k l o m c h.said h.lists))

  pub list-end : {a : CodedAct} {e : Bool} → a ≡ act.OpenList e → apt a (mode_at k l o) ≡ true → ((list_of l c).first + (list_of l c).count) * 32 ≤ length words
  list-end e x =
      within-words ((list_of l c).first + (list_of l c).count)
      (list-low k l o m c h.said (subst (λ (b : CodedAct). apt b (mode_at k l o) ≡ true) e x) h.lists)

  pub property-end : {a : CodedAct} {e : Bool} → a ≡ act.ReadProperty e → apt a (mode_at k l o) ≡ true → (list_of l c).count * 32 ≤ length words
  property-end e x =
      let n = few-properties h.holds m l (list-mode k l o m c h.said (subst (λ (b : CodedAct). apt b (mode_at k l o) ≡ true) e x) h.lists) in
      let u = h.holds.used in
      within-words (list_of l c).count (omega arith)

  pub kind-end : {a : CodedAct} {kind : ℕ} {e : Bool} → a ≡ act.Open kind e → apt a (mode_at k l o) ≡ true → (1 ≤ kind) × (kind ≤ 12)
  kind-end {kind = kind} q x = opens-bounds kind (mode_at k l o) (subst (λ (b : CodedAct). apt b (mode_at k l o) ≡ true) q x)

-- ---- what an act comes to
abbrev pub standing : CodedMode → Level → Output → Bool → Bool → Tally → Control
standing k l o seen closed t = control (mode_at k l o) seen closed t

abbrev pub Acted : CodedAct → CodedMode → Level → Output → Bool → Bool → Tally → List ℕ → Marks → Place → Rooms
    → ℕ → List Attribute → (words text scratch attributes source : List ℕ) → Content → Performed → Type 0
Acted a k l o seen closed t name m p rooms j xs words text scratch attributes source s r =
    Performs (cond (is_step a) (turn (act_in (mode_at k l o) name a) (standing k l o seen closed t)) (standing k l o seen closed t)).mode
    (marks_after (act_in (mode_at k l o) name a) (length s.records) m) p words text scratch attributes source
    (perform rooms p (act_in (mode_at k l o) name a) j xs (standing k l o seen closed t) m s) r

-- the number of a property counts for no list
same_lists : (l : Level) (m n : Marks) → n.suite_at_of ≡ m.suite_at_of → n.case_at_of ≡ m.case_at_of → n.status_at_of ≡ m.status_at_of
    → (c : CodedContent) (s : Content) → Lists (listing l) m c s → Lists (listing l) n c s
same_lists top m n a b d c s x = x
same_lists suite m n a b d c s x = rw a x
same_lists case m n a b d c s x = rw (a, b) x
same_lists status m n a b d c s x = rw (a, b, d) x

list_left : (l : Level) (m : Marks) (c : CodedContent) (s : Content) → Lists (listing l) m c s → Lists (at l) m c s
list_left l m c s x = (x.0, x.1.0)

module _ (l : Level) (o : Output) (seen closed : Bool) (t : Tally) (name : List ℕ) (m : Marks) (p : Place) (rooms : Rooms) (j : ℕ) (xs : List Attribute)
    (words text scratch attributes source : List ℕ) (c : CodedContent) (s : Content) (r : Performed) where
  abbrev In : CodedMode → CodedAct → Type 0
  In k a = Acted a k l o seen closed t name m p rooms j xs words text scratch attributes source s r

  pass-in : (k : CodedMode) → Holds words text scratch attributes source c s → Lists (mode_at k l o) m c s → r ≡ Ok c → In k act.Pass
  unfolding turn marks_after perform
  pass-in k hd li q = rw q (went (hd, li))

  skip-in : (k : CodedMode) → Holds words text scratch attributes source c s → Lists (mode_at k l o) m c s → r ≡ Ok c → In k act.Skip
  unfolding or_skip turn marks_after perform
  skip-in k hd li q = rw q (went (hd, li))

  stop-in : (k : CodedMode) → Holds words text scratch attributes source c s → Lists (mode_at k l o) m c s → r ≡ Ok c → In k act.Stop
  unfolding turn marks_after perform
  stop-in k hd li q = rw q (went (hd, li))

  text_in : (k : CodedMode) (out : CodedOutput) → is_at (mode_at k l o) ≡ true → Holds words text scratch attributes source c s → Lists (mode_at k l o) m c s → r ≡ Ok c → In k (act.OpenText out)
  unfolding turn marks_after perform
  text_in mode.At out a hd li q = rw q (went (hd, li.0))
  text_in mode.Text out a hd li q = no a
  text_in mode.List out a hd li q = no a

  end-in : (k : CodedMode) → not (is_text (mode_at k l o)) ≡ true → Holds words text scratch attributes source c s → Lists (mode_at k l o) m c s → r ≡ Ok c → In k act.CloseList
  unfolding turn marks_after perform
  end-in mode.At a hd li q = rw q (went (hd, li))
  end-in mode.Text a hd li q = no a
  end-in mode.List a hd li q = rw q (went (hd, (li.0, li.1.0)))

  missing-in : (k : CodedMode) → p.attribute ≡ nowhere → r ≡ Err (fault_of MissingReport) → In k act.Missing
  unfolding perform
  missing-in k pa q = halts p MissingReport pa refl q

  broken-in : (k : CodedMode) (why : Cause) → p.attribute ≡ nowhere → r ≡ Err (fault_of why) → In k (act.Broken why)
  unfolding perform
  broken-in k why pa q = halts p why pa refl q

  close-in : (k : CodedMode) → is_at (mode_at k l o) ≡ true → Lists (mode_at k l o) m c s
      → (Lists (at l) m c s → Performs (turn (closing l) (standing k l o seen closed t)).mode (marks_after (closing l) (length s.records) m)
      p words text scratch attributes source (perform rooms p (closing l) j xs (standing k l o seen closed t) m s) r)
      → In k act.Close
  close-in mode.At a li f = f li
  close-in mode.Text a li f = no a
  close-in mode.List a li f = no a

  -- an Empty output is closed in its element
  close-text_in : (k : CodedMode) (out : CodedOutput) → (is_at (mode_at k l o) || is_text (mode_at k l o)) ≡ true → Lists (mode_at k l o) m c s
      → (Lists (gathering l (output_of out)) m c s → Performs (at l) m p words text scratch attributes source (outputting rooms p l (output_of out) m s) r)
      → In k (act.CloseText out)
  unfolding turn marks_after perform
  close-text_in mode.At out a li f = f li.0
  close-text_in mode.Text out a li f = f li
  close-text_in mode.List out a li f = no a

  property-in : (k : CodedMode) (e : Bool) → is_list (mode_at k l o) ≡ true → Lists (mode_at k l o) m c s
      → (Lists (listing l) m c s → Performs (listing l) m p words text scratch attributes source (adding rooms p (property_kind l) j xs s) r) → In k (act.ReadProperty e)
  unfolding turn marks_after perform
  property-in mode.At e a li f = no a
  property-in mode.Text e a li f = no a
  property-in mode.List true a li f = comes-on (f li) (same_lists l m _ refl refl refl)
  property-in mode.List false a li f = comes-on (f li) (same_lists l m _ refl refl refl)

  list-in : (k : CodedMode) (e : Bool) {words₀ : List ℕ} → has_list (mode_at k l o) ≡ true → Holds words₀ text scratch attributes source c s → Lists (mode_at k l o) m c s
      → words ≡ kill_words (list_of l c).count (list_of l c).first words₀ → r ≡ Ok (with_list l c (record { first = c.used; count = 0 })) → In k (act.OpenList e)
  unfolding turn marks_after perform
  list-in mode.At true a hd li w q =
      rw q (comes-on (list-opened hd p m l a li w) (λ d t x. list_left l _ d t (same_lists l m _ refl refl refl d t x)))
  list-in mode.At false a hd li w q = rw q (comes-on (list-opened hd p m l a li w) (same_lists l m _ refl refl refl))
  list-in mode.Text e a hd li w q = no a
  list-in mode.List e a hd li w q = no a

  -- ---- the same of an act that is known to be it
  module _ (k : CodedMode) {a : CodedAct} where
    turn-to : {b : CodedAct} → a ≡ b → (apt b (mode_at k l o) ≡ true → In k b) → apt a (mode_at k l o) ≡ true → In k a
    turn-to e f h = subst (λ (x : CodedAct). In k x) (sym e) (f (subst (λ (x : CodedAct). apt x (mode_at k l o) ≡ true) e h))

    module _ (h : apt a (mode_at k l o) ≡ true) (li : Lists (mode_at k l o) m c s) where
      module _ (hd : Holds words text scratch attributes source c s) (q : r ≡ Ok c) where
        acted-pass : a ≡ act.Pass → In k a
        acted-pass e = turn-to e (λ x. pass-in k hd li q) h

        acted-skip : a ≡ act.Skip → In k a
        acted-skip e = turn-to e (λ x. skip-in k hd li q) h

        acted-stop : a ≡ act.Stop → In k a
        acted-stop e = turn-to e (λ x. stop-in k hd li q) h

        acted-text : {out : CodedOutput} → a ≡ act.OpenText out → In k a
        acted-text {out} e = turn-to e (λ x. text_in k out x hd li q) h

        acted-end : a ≡ act.CloseList → In k a
        acted-end e = turn-to e (λ x. end-in k x hd li q) h

        -- the acts that leave records and texts, as the code takes them together
        pub acted-still : (a ≡ act.Pass) ⊎ ((a ≡ act.Skip) ⊎ (((out : CodedOutput) × (a ≡ act.OpenText out)) ⊎ ((a ≡ act.CloseList) ⊎ (a ≡ act.Stop)))) → In k a
        acted-still (inl e) = acted-pass e
        acted-still (inr (inl e)) = acted-skip e
        acted-still (inr (inr (inl x))) = acted-text x.1
        acted-still (inr (inr (inr (inl e)))) = acted-end e
        acted-still (inr (inr (inr (inr e)))) = acted-stop e

      pub acted-close : a ≡ act.Close
          → (Lists (at l) m c s → Performs (turn (closing l) (standing k l o seen closed t)).mode (marks_after (closing l) (length s.records) m)
          p words text scratch attributes source (perform rooms p (closing l) j xs (standing k l o seen closed t) m s) r)
          → In k a
      acted-close e f = turn-to e (λ x. close-in k x li f) h

      pub acted-close-text : {out : CodedOutput} → a ≡ act.CloseText out
          → (Lists (gathering l (output_of out)) m c s → Performs (at l) m p words text scratch attributes source (outputting rooms p l (output_of out) m s) r) → In k a
      acted-close-text {out} e f = turn-to e (λ x. close-text_in k out x li f) h

      pub acted-property : {e : Bool} → a ≡ act.ReadProperty e
          → (Lists (listing l) m c s → Performs (listing l) m p words text scratch attributes source (adding rooms p (property_kind l) j xs s) r) → In k a
      acted-property {e} q f = turn-to q (λ x. property-in k e x li f) h

      pub acted-list : {e : Bool} {words₀ : List ℕ} → a ≡ act.OpenList e → Holds words₀ text scratch attributes source c s
          → words ≡ kill_words (list_of l c).count (list_of l c).first words₀ → r ≡ Ok (with_list l c (record { first = c.used; count = 0 })) → In k a
      acted-list {e} z hd w q = turn-to z (λ x. list-in k e x hd li w q) h

      pub acted-open : {kind : ℕ} {e : Bool} → a ≡ act.Open kind e
          → (opens kind (mode_at k l o) ≡ true → Performs (turn (opening kind e) (standing k l o seen closed t)).mode (marks_after (opening kind e) (length s.records) m)
          p words text scratch attributes source (perform rooms p (opening kind e) j xs (standing k l o seen closed t) m s) r)
          → In k a
      acted-open e f = turn-to e f h

    module _ (h : apt a (mode_at k l o) ≡ true) (pa : p.attribute ≡ nowhere) where
      pub acted-missing : a ≡ act.Missing → r ≡ Err (fault_of MissingReport) → In k a
      acted-missing e q = turn-to e (λ x. missing-in k pa q) h

      pub acted-broken : {why : Cause} → a ≡ act.Broken why → r ≡ Err (fault_of why) → In k a
      acted-broken {why} e q = turn-to e (λ x. broken-in k why pa q) h

-- ---- closing
module _ (cl : CodedLevel) (k : Control) (m : Marks) (p : Place) (rooms : Rooms) (j : ℕ) (xs : List Attribute)
    (words text scratch attributes source : List ℕ) (c : CodedContent) (s : Content) (r : Performed) where
  abbrev Shut : Level → Type 0
  Shut l = Performs (turn (closing l) k).mode (marks_after (closing l) (length s.records) m) p words text scratch attributes source (perform rooms p (closing l) j xs k m s) r

  shut-suite : Holds words text scratch attributes source c s → s.gathered ≡ [] → r ≡ Ok c → Shut suite
  unfolding turn marks_after perform
  shut-suite hd g q = rw q (went (hd, (tt, g)))

  shut-case : Holds words text scratch attributes source c s → Lists (at case) m c s → ruled k.tally ≡ true → r ≡ Ok c → Shut case
  unfolding turn marks_after perform need
  shut-case hd li e q = rw (q, e) (went (hd, (li.0.0, li.1)))

  shut-not : p.attribute ≡ nowhere → ruled k.tally ≡ false → r ≡ Err (fault_of StatusRule) → Shut case
  unfolding perform need
  shut-not pa e q = halts p StatusRule pa (rw e refl) q

  shut-status : Performs (at case) m p words text scratch attributes source (describing rooms p m s) r → Shut status
  unfolding turn marks_after perform
  shut-status f = f

  to_level : {b : CodedLevel} → cl ≡ b → Shut (level_of b) → Shut (level_of cl)
  to_level e f = subst (λ (x : CodedLevel). Shut (level_of x)) (sym e) f

  module _ (li : Lists (at (level_of cl)) m c s) where
    at_level : {b : CodedLevel} → cl ≡ b → Lists (at (level_of b)) m c s
    at_level e = subst (λ (x : CodedLevel). Lists (at (level_of x)) m c s) e li

    pub closed-top : cl ≡ level.Top → Holds words text scratch attributes source c s → r ≡ Ok c → Shut (level_of cl)
    closed-top e hd q = to_level e (shut-suite hd li.1 q)

    pub closed-suite : cl ≡ level.Suite → Holds words text scratch attributes source c s → r ≡ Ok c → Shut (level_of cl)
    closed-suite e hd q = to_level e (shut-suite hd li.1 q)

    pub closed-case : cl ≡ level.Case → {t : Tally} {b : Bool} → k.tally ≡ t → b ≡ ruled t → b ≡ true → Holds words text scratch attributes source c s → r ≡ Ok c → Shut (level_of cl)
    closed-case e te be bt hd q = to_level e (shut-case hd (at_level e) (ap ruled te ∙ sym be ∙ bt) q)

    pub closed-not : cl ≡ level.Case → {t : Tally} {b : Bool} → k.tally ≡ t → b ≡ ruled t → b ≡ false → p.attribute ≡ nowhere → r ≡ Err (fault_of StatusRule) → Shut (level_of cl)
    closed-not e te be bt pa q = to_level e (shut-not pa (ap ruled te ∙ sym be ∙ bt) q)

    pub closed-status : cl ≡ level.Status → (Lists (at status) m c s → Performs (at case) m p words text scratch attributes source (describing rooms p m s) r) → Shut (level_of cl)
    closed-status e f = to_level e (shut-status (f (at_level e)))

pub status-room : (cl : CodedLevel) (m : Marks) (n : ℕ) → cl ≡ level.Status → status_end (level_of cl) m * 32 ≤ n → m.status_at_of * 32 ≤ n
status-room cl m n e h = subst (λ (x : CodedLevel). status_end (level_of x) m * 32 ≤ n) e h
