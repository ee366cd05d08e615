-- Two readers that differ in event numbers and, but for white space at the ends, not in the open description and text. Assumes nothing.
use Prim.Native.Nat.{ℕ}
use mathlib.Core.Bool.{cond}
use mathlib.Core.List.{List, []}
use mathlib.Core.Path.{◌≡◌, refl, sym, ap, subst}
use Rattle.read_spelling.specs.of_trim.Trim.{trimmed}
use Rattle.read_spelling.specs.of_text_filter.Filter.{filtered}
use Rattle.read_spelling.specs.of_refusal.Refusal.{Outcome, accepted}
use Rattle.read_spelling.specs.of_refusal.declared.Cause.TheVariants as cause
use Rattle.xml_grammar.specs.of_table.Event.{Attribute, TagKind, Tag, Eof}
use Rattle.read_spelling.specs.of_tree_status.Status.{ruled}
use Rattle.read_spelling.specs.of_tree_report.Report.{Text}
use Rattle.read_spelling.specs.of_read_element.Outcome.{◌>>=◌, Place, Rooms}
use Rattle.read_spelling.specs.of_read_state.Control.{Level, top, suite, case, status, Output, Control}
use Rattle.read_spelling.specs.of_read_state.Control.{Act, pass, open_report, open_suite, open_case, open_status, close_suite, close_case, close_status, open_text, close_text, open_list, read_property, stop, missing, broken}
use Rattle.read_spelling.specs.of_read_rules.Rules.{plan_at, plan_eof}
use Rattle.read_spelling.specs.of_read_place.Marks.{Marks}
use Rattle.read_spelling.specs.of_read_path.Paths.{act_place}
use Rattle.document_events.specs.of_read_content.Content.{cleaned, is_empty}
use Rattle.read_spelling.specs.of_read_report.Deserialize.{Used, storing, a_report, a_suite, a_case_of, a_property, a_status, Draft, draft, with_texts, put, on_last, described, describing, perform, Reader, act, step}
use Rattle.document_reading.proofs.Following.{Follow, goes, halts, bind, needing, choosing, then, storing-follows, element-follows}

pub data Drafts (d : Draft) : Draft → Type 0 where
  drafts : {v w : Text} → trimmed v ≡ trimmed d.description → trimmed w ≡ trimmed d.text → Drafts d (with_texts d v w)

abbrev pub reader : Control → Draft → Marks → Reader
reader c d m = record { control = c; draft = d; marks = m }

pub data Beside (s : Reader) : Reader → Type 0 where
  beside : {d : Draft} {m : Marks} → Drafts s.draft d → Beside s (reader s.control d m)

-- ---- what actions do
module _ (rooms : Rooms) (p q : Place) (d : Draft) where
  -- the text is stored alike
  text-follows : (l : Level) (o : Output) (v w : Text) → trimmed v ≡ trimmed d.description → (x : Text) → cleaned d.text ≡ x
      → Follow Drafts (storing rooms p (cleaned d.text) d.used >>= λ u. accepted (with_texts (put l o (cleaned d.text) d u) d.description []))
      (storing rooms q x d.used >>= λ u. accepted (with_texts (put l o x (with_texts d v w) u) v []))
  text-follows l o v w ev x e =
      subst (λ (z : Text). Follow Drafts (storing rooms p (cleaned d.text) d.used >>= λ u. accepted (with_texts (put l o (cleaned d.text) d u) d.description []))
      (storing rooms q z d.used >>= λ u. accepted (with_texts (put l o z (with_texts d v w) u) v []))) e
      (then (storing-follows rooms p q (cleaned d.text) d.used) λ u. goes (stored l u))
    where
      stored : (l : Level) (u : Used) → Drafts (with_texts (put l o (cleaned d.text) d u) d.description []) (with_texts (put l o (cleaned d.text) (with_texts d v w) u) v [])
      stored top u = drafts ev refl
      stored suite u = drafts ev refl
      stored case u = drafts ev refl
      stored status u = drafts ev refl

  abbrev describes : Place → Text → Outcome Draft
  describes x t =
      cond (is_empty t) (accepted (with_texts d [] []))
      (storing rooms x (filtered t) d.used >>= λ u. accepted (with_texts (draft d d.report (on_last (described (filtered t)) d.statuses) u) [] []))

  describing-follows : (v w : Text) → trimmed v ≡ trimmed d.description → Follow Drafts (describing rooms p d) (describing rooms q (with_texts d v w))
  describing-follows v w e =
      subst (λ (t : Text). Follow Drafts (describes p (trimmed d.description)) (describes q t)) (sym e)
      (choosing (is_empty (trimmed d.description)) (goes (drafts refl refl)) (then (storing-follows rooms p q (cleaned d.description) d.used) λ u. goes (drafts refl refl)))

  perform-follows : (a : Act) (j i : ℕ) (xs : List Attribute) (k : Control) {e : Draft} → Drafts d e → Follow Drafts (perform rooms p a j xs k d) (perform rooms q a i xs k e)
  unfolding perform
  perform-follows (pass n) j i xs k h = goes h
  perform-follows (open_report x) j i xs k (drafts v w) = then (element-follows rooms p q a_report j i xs d.used) λ t. goes (drafts v w)
  perform-follows (open_suite x) j i xs k (drafts v w) = then (element-follows rooms p q a_suite j i xs d.used) λ t. goes (drafts v w)
  perform-follows (open_case x) j i xs k (drafts v w) = then (element-follows rooms p q a_case_of j i xs d.used) λ t. goes (drafts v w)
  perform-follows (open_status n x) j i xs k (drafts v w) = then (element-follows rooms p q a_status j i xs d.used) λ t. goes (drafts v w)
  perform-follows close_suite j i xs k h = goes h
  perform-follows close_case j i xs k (drafts v w) = needing p q (ruled k.tally) cause.StatusRule (goes (drafts v w))
  perform-follows close_status j i xs k (drafts {v = x} {w = y} v w) = describing-follows x y v
  perform-follows (open_text l o) j i xs k h = goes h
  perform-follows (close_text l o) j i xs k (drafts {v = x} {w = y} v w) = text-follows l o x y v (cleaned y) (ap filtered (sym w))
  perform-follows (open_list l x) j i xs k (drafts v w) = goes (drafts v w)
  perform-follows (read_property l x name) j i xs k (drafts v w) = then (element-follows rooms p q a_property j i xs d.used) λ t. goes (drafts v w)
  perform-follows stop j i xs k h = goes h
  perform-follows missing j i xs k h = halts
  perform-follows (broken why) j i xs k h = halts

-- ---- steps
act-follows : (rooms : Rooms) (a : Act) (j i : ℕ) (xs : List Attribute) (s : Reader) {d : Draft} (m : Marks) → Drafts s.draft d
    → Follow Beside (act rooms a j xs s) (act rooms a i xs (reader s.control d m))
unfolding act
act-follows rooms a j i xs s m h =
    bind (perform-follows rooms (act_place a s.control.mode s.marks) (act_place a s.control.mode m) s.draft a j i xs s.control h) λ d e r. goes (beside r)

module _ (rooms : Rooms) {s : Reader} where
  pub tag-follows : (k : TagKind) (name : List ℕ) (j i : ℕ) (xs : List Attribute) {t : Reader} → Beside s t → Follow Beside (step rooms (Tag k name j xs) s) (step rooms (Tag k name i xs) t)
  unfolding step
  tag-follows k name j i xs (beside {m = m} h) = act-follows rooms (plan_at s.control.mode s.control.seen k name) j i xs s m h

  pub eof-follows : {t : Reader} → Beside s t → Follow Beside (step rooms Eof s) (step rooms Eof t)
  unfolding step
  eof-follows (beside {m = m} h) = act-follows rooms (plan_eof s.control.mode s.control.seen s.control.closed) 0 0 [] s m h

pub same-control : {s t : Reader} → Beside s t → t.control ≡ s.control
same-control (beside h) = refl

-- what a reader ends with
pub same-report : {s t : Reader} → Beside s t → t.draft.report ≡ s.draft.report
same-report (beside (drafts v w)) = refl

pub same-room : {s t : Reader} → Beside s t → t.draft.used ≡ s.draft.used
same-room (beside (drafts v w)) = refl
