-- The ranges of what is due lie in the source and in the table. Assumes nothing.
use Prim.Native.Nat.{ℕ, zero, suc, ◌+◌, ◌-◌, ◌≤◌, ◌<◌}
use mathlib.Core.Path.{◌≡◌, refl}
use mathlib.Core.List.{List, [], ◌∷◌, ◌++◌}
use mathlib.Core.Bool.{Bool, true, false, cond}
use mathlib.Core.Logic.{inl, inr}
use native.Mathlib.Omega.{arith}
use lib.Dec.{ltb, eqb-suc-zero}
use lib.ListN.{length}
use Rattle.xml_complete.specs.of_table.Kinds as kind
use Rattle.xml_complete.specs.of_xml_machine.State as state
use Rattle.xml_complete.specs.of_xml_machine.State.{State, fresh, marked, lt_first, heading, decl, literal, prolog, epilog, text, lt, misc, section, ref, tag, ending, end_space}
use Rattle.xml_complete.specs.of_xml_machine.State.{Act, Stay, Mark, Here, EndText, TextMark, Name, NameStart, NameEnd, Start, Empty, End, Key, Value, Ref, Comment, Pi, CData, Next}
use Rattle.xml_complete.specs.of_xml_machine.Machine.{step}
use Rattle.xml_complete.specs.of_xml_machine.Runs.{Verdict, accepted, bad, doctype, verdict}
use Rattle.xml_complete.specs.of_xml_machine.Tokens.{Rec, rec, unless0, over, Marks, no_marks, marks_by, Due, nothing, event, attribute, text_due, due, open_run}
use Rattle.xml_tokens.specs.Due.{counted, due_by, due_from, events_due, attributes_due}
use Rattle.xml_tokens.proofs.Rooms.{last_due, all_due}
use Rattle.xml_tokens.proofs.Flat.{Each, AttributeIn, EventIn}

-- where the marks may lie, at the byte at `at`, with `count` attributes
pub record Bounded (at count : ℕ) (m : Marks) : Type 0 where
  pub mark : m.mark ≤ at
  pub name : m.name_from ≤ m.name_to
  pub named : m.name_to ≤ at
  pub key : m.key_from ≤ m.key_to
  pub keyed : m.key_to ≤ at
  pub first : m.first ≤ count

-- what is due is good in a source of `size` bytes, with `count` attributes before
abbrev pub DueIn : ℕ → ℕ → Due → Type 0
DueIn size count nothing = Unit {0}
DueIn size count (event r) = EventIn size count r
DueIn size count (attribute r) = AttributeIn size r

pub counted-least : (count : ℕ) (d : Due) → count ≤ counted count d
counted-least count nothing = omega arith
counted-least count (event r) = omega arith
counted-least count (attribute r) = omega arith

unless_in : (from n size : ℕ) → (0 < n → from + n ≤ size) → unless0 from n + n ≤ size
unless_in from zero size h = omega arith
unless_in from (suc n) size h = let l = h (omega arith) in rw (eqb-suc-zero n) l

pub over-in : (k from to size count : ℕ) → k ≤ 9 → to ≤ size → EventIn size count (over k from to)
over-in k from to size count h l = (h, unless_in from (to - from) size (λ p. omega arith), omega arith, inl refl)

text_in : (mark at size count : ℕ) → at ≤ size → DueIn size count (text_due mark at)
text_in mark at size count l = by (ltb mark at)
  where
    by : (x : Bool) → DueIn size count (cond x (event (over kind.text mark at)) nothing)
    by true = over-in kind.text mark at size count (omega arith) l
    by false = tt

module _ (size at count : ℕ) (m : Marks) (b : Bounded at count m) (l : at ≤ size) where
  tag_in : (k : ℕ) → k ≤ 1 → EventIn size count (rec k m.name_from (m.name_to - m.name_from) (unless0 m.first (count - m.first)) (count - m.first))
  tag_in k h = (omega arith, omega arith, unless_in m.first (count - m.first) count (λ p. omega arith), inr h)

  pub due_in : (a : Act) → DueIn size count (due a at count m)
  due_in Stay = tt
  due_in Mark = tt
  due_in Here = tt
  due_in EndText = text_in m.mark at size count l
  due_in TextMark = text_in m.mark at size count l
  due_in Name = tt
  due_in NameStart = over-in kind.start m.mark at size count (omega arith) l
  due_in NameEnd = over-in kind.end m.mark at size count (omega arith) l
  due_in Start = tag_in kind.start (omega arith)
  due_in Empty = tag_in kind.empty (omega arith)
  due_in End = over-in kind.end m.name_from m.name_to size count (omega arith) (omega arith)
  due_in Key = tt
  due_in Value = (omega arith, omega arith, unless_in m.mark (at - m.mark) size (λ p. omega arith))
  due_in Ref = over-in kind.ref m.mark at size count (omega arith) l
  due_in Comment = over-in kind.other m.mark (at - 2) size count (omega arith) (omega arith)
  due_in Pi = over-in kind.other m.mark (at - 1) size count (omega arith) (omega arith)
  due_in CData = over-in kind.cdata m.mark (at - 2) size count (omega arith) (omega arith)

  -- the run of text that is open
  pub run_in : (s : State) → DueIn size count (open_run s m.mark at)
  run_in fresh = tt
  run_in marked = tt
  run_in lt_first = tt
  run_in (heading x) = tt
  run_in (decl d) = tt
  run_in (literal c cs g) = tt
  run_in prolog = text_in m.mark at size count l
  run_in epilog = text_in m.mark at size count l
  run_in (text k p n ns) = text_in m.mark at size count l
  run_in (lt pl) = tt
  run_in (misc i p pl) = tt
  run_in (section k p n ns) = tt
  run_in (ref i p h) = tt
  run_in (tag i p n ns) = tt
  run_in (ending n ns) = tt
  run_in (end_space ns) = tt

module _ (at count : ℕ) (m : Marks) (b : Bounded at count m) where
  kept-bounded : (c : ℕ) → count ≤ c → Bounded (at + 1) c m
  kept-bounded c l = record { mark = omega arith; name = b.name; named = omega arith; key = b.key; keyed = omega arith; first = omega arith }

  pub marked-bounded : (c n : ℕ) → count ≤ c → n ≤ at + 1 →
      Bounded (at + 1) c (record { mark = n; name_from = m.name_from; name_to = m.name_to; key_from = m.key_from; key_to = m.key_to; first = m.first })
  marked-bounded c n l h = record { mark = h; name = b.name; named = omega arith; key = b.key; keyed = omega arith; first = omega arith }

  pub marks-bounded : (a : Act) → Bounded (at + 1) (counted count (due a at count m)) (marks_by a at count m)
  marks-bounded Stay = kept-bounded count (omega arith)
  marks-bounded Mark = marked-bounded count (at + 1) (omega arith) (omega arith)
  marks-bounded Here = marked-bounded count at (omega arith) (omega arith)
  marks-bounded EndText = marked-bounded _ (at + 1) (counted-least count (text_due m.mark at)) (omega arith)
  marks-bounded TextMark = marked-bounded _ (at + 1) (counted-least count (text_due m.mark at)) (omega arith)
  marks-bounded Name = record { mark = omega arith; name = b.mark; named = omega arith; key = b.key; keyed = omega arith; first = omega arith }
  marks-bounded NameStart = marked-bounded count (at + 1) (omega arith) (omega arith)
  marks-bounded NameEnd = marked-bounded count (at + 1) (omega arith) (omega arith)
  marks-bounded Start = marked-bounded count (at + 1) (omega arith) (omega arith)
  marks-bounded Empty = marked-bounded count (at + 1) (omega arith) (omega arith)
  marks-bounded End = marked-bounded count (at + 1) (omega arith) (omega arith)
  marks-bounded Key = record { mark = omega arith; name = b.name; named = omega arith; key = b.mark; keyed = omega arith; first = b.first }
  marks-bounded Value = kept-bounded (count + 1) (omega arith)
  marks-bounded Ref = marked-bounded count (at + 1) (omega arith) (omega arith)
  marks-bounded Comment = marked-bounded count (at + 1) (omega arith) (omega arith)
  marks-bounded Pi = marked-bounded count (at + 1) (omega arith) (omega arith)
  marks-bounded CData = marked-bounded count (at + 1) (omega arith) (omega arith)

-- ---- all that is due
pub more-in : (size n c : ℕ) (r : Rec) → n ≤ c → EventIn size n r → EventIn size c r
more-in size n c (rec k from len first count) l g = (g.0, g.1, omega arith, g.3)

abbrev pub AllIn : ℕ → ℕ → List Due → Type 0
AllIn size n ds = Each (EventIn size n) (events_due ds) × Each (AttributeIn size) (attributes_due ds)

then-in : (size n count : ℕ) (d : Due) (ds : List Due) → DueIn size count d → n ≡ count + length (attributes_due (d ∷ ds)) →
    (n ≡ counted count d + length (attributes_due ds) → AllIn size n ds) → AllIn size n (d ∷ ds)
then-in size n count nothing ds g e h = h e
then-in size n count (event r) ds g e h = let z = h e in ((more-in size count n r (omega arith) g, z.0), z.1)
then-in size n count (attribute r) ds g e h = let z = h (omega arith) in (z.0, (g, z.1))

last-in : (size n : ℕ) (v : Verdict) → AllIn size n (last_due v)
last-in size n accepted = ((over-in kind.eof 0 0 size n (omega arith) (omega arith), tt), tt)
last-in size n (bad q) = (tt, tt)
last-in size n (doctype q) = (tt, tt)

all_in : (size n : ℕ) (v : Verdict) (t : List ℕ) (s : State) (at count : ℕ) (m : Marks) → Bounded at count m → at + length t ≡ size →
    n ≡ count + length (attributes_due (due_from t s at count m ++ last_due v)) → AllIn size n (due_from t s at count m ++ last_due v)
unfolding due_from
all_in size n v [] s at count m b l e = then-in size n count (open_run s m.mark at) (last_due v) (run_in size at count m b (omega arith) s) e (λ z. last-in size n v)
all_in size n v (c ∷ t) s at count m b l e = by (step s c) e (λ u k i h z. all_in size n v t u (at + 1) k i h (omega arith) z)
  where
    by : (o : Next) → n ≡ count + length (attributes_due (due_by o s at count m (λ u k i. due_from t u (at + 1) k i) ++ last_due v)) →
        ((u : State) (k : ℕ) (i : Marks) → Bounded (at + 1) k i → n ≡ k + length (attributes_due (due_from t u (at + 1) k i ++ last_due v)) → AllIn size n (due_from t u (at + 1) k i ++ last_due v)) →
        AllIn size n (due_by o s at count m (λ u k i. due_from t u (at + 1) k i) ++ last_due v)
    by state.no e ih = then-in size n count (open_run s m.mark at) (last_due v) (run_in size at count m b (omega arith) s) e (λ z. last-in size n v)
    by (state.go a u) e ih =
        let d : Due = due a at count m in
        then-in size n count d (due_from t u (at + 1) (counted count d) (marks_by a at count m) ++ last_due v) (due_in size at count m b (omega arith) a) e
        (λ z. ih u (counted count d) (marks_by a at count m) (marks-bounded at count m b a) z)

pub fresh-bounded : Bounded 0 0 no_marks
fresh-bounded = record { mark = omega arith; name = omega arith; named = omega arith; key = omega arith; keyed = omega arith; first = omega arith }

-- THEOREM: all that is due of a source lies in it and in its own table
pub due-good : (s : List ℕ) → AllIn (length s) (length (attributes_due (all_due s))) (all_due s)
due-good s = all_in (length s) (length (attributes_due (all_due s))) (verdict s) s fresh 0 0 no_marks fresh-bounded (omega arith) (omega arith)
