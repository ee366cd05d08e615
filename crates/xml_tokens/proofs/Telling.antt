-- All that is due of a document, resolved, is what the run with bytes says of it. Assumes nothing.
use Prim.Native.Nat.{ℕ, ◌+◌}
use mathlib.Core.Path.{◌≡◌, refl, sym, ap, ◌∙◌, subst}
use mathlib.Core.List.{List, [], ◌∷◌, ◌++◌, append_assoc}
use mathlib.Core.Bool.{Bool, true, false, cond, false≢true}
use mathlib.Core.Option.{Option, some}
use native.Mathlib.Omega.{arith}
use lib.Dec.{ltb}
use lib.ListN.{length, drop}
use lib.Seq.{drop-drop}
use Rattle.xml_complete.specs.of_table.Kinds as kind
use Rattle.xml_complete.specs.of_table.Event.{Eof, event_of}
use Rattle.xml_complete.specs.of_xml_machine.State as state
use Rattle.xml_complete.specs.of_xml_machine.State.{State, fresh, marked, lt_first, heading, decl, literal, prolog, epilog, text, lt, misc, section, ref, tag, ending, end_space, Next}
use Rattle.xml_complete.specs.of_xml_machine.Machine.{step, done}
use Rattle.xml_complete.specs.of_xml_machine.Runs.{Verdict, accepted, bad, blame, ahead, judge, verdict}
use Rattle.xml_complete.specs.of_xml_machine.Tokens.{Rec, rec, over, Marks, no_marks, marks_by, Due, nothing, event, text_due, due, open_run, Kept, nothing_kept}
use Rattle.xml_complete.specs.of_xml_machine.inside.Saying.{Said, unsaid, text_said, saying, Telling, telling, onto, tell, told}
use Rattle.xml_tokens.specs.Due.{counted, due_by, due_from, due_in_of, attributes_in}
use Rattle.xml_tokens.proofs.Rooms.{last_due, put, put_all, put_then, put-none, put_count, kept_of}
use Rattle.xml_tokens.proofs.Ranges.{over-in, fresh-bounded}
use Rattle.xml_tokens.proofs.Tags.{is_open, Does, does-go, step-does}
use Rattle.xml_tokens.proofs.Against.{Tells, tells-event, text-told, Against, step-against}

pub done-epilog : (s : State) → done s ≡ true → s ≡ epilog
done-epilog fresh e = absurd (false≢true e)
done-epilog marked e = absurd (false≢true e)
done-epilog lt_first e = absurd (false≢true e)
done-epilog (heading x) e = absurd (false≢true e)
done-epilog (decl d) e = absurd (false≢true e)
done-epilog (literal c cs g) e = absurd (false≢true e)
done-epilog prolog e = absurd (false≢true e)
done-epilog epilog e = refl
done-epilog (text k p n ns) e = absurd (false≢true e)
done-epilog (lt pl) e = absurd (false≢true e)
done-epilog (misc m p pl) e = absurd (false≢true e)
done-epilog (section k p n ns) e = absurd (false≢true e)
done-epilog (ref m p h) e = absurd (false≢true e)
done-epilog (tag m p n ns) e = absurd (false≢true e)
done-epilog (ending n ns) e = absurd (false≢true e)
done-epilog (end_space ns) e = absurd (false≢true e)

module _ (source : List ℕ) where
  -- a document's records, against what was said of it
  pub record Final (k : Kept) (e : Said) : Type 0 where
    pub tells : Tells source k (e.events ++ (text_said e.mark ++ (Eof ∷ [])))
    pub counts : length k.attributes ≡ attributes_in e.events

  abbrev eof : Due
  eof = event (rec kind.eof 0 0 0 0)

  text-count : (k : Kept) (r : Rec) (z : Bool) → length (put k (cond z (event r) nothing)).attributes ≡ length k.attributes
  text-count k r true = refl
  text-count k r false = refl

  -- behind the last byte
  closes : (at : ℕ) (m : Marks) (k : Kept) (d : Said) → Against source at m k d false → Final (put_all k (text_due m.mark at ∷ eof ∷ [])) d
  unfolding event_of
  closes at m k d g =
      let j : Kept = put k (text_due m.mark at) in
      let t : Tells source (put k (text_due m.mark at)) (d.events ++ text_said d.mark) =
      text-told source k d.events m.mark at d.mark g.tells g.bounded.mark g.inside g.mark (ltb m.mark at) refl in
      let u : Tells source (put j eof) ((d.events ++ text_said d.mark) ++ (Eof ∷ [])) =
      tells-event source j (d.events ++ text_said d.mark) (rec kind.eof 0 0 0 0) Eof t (over-in kind.eof 0 0 (length source) (length j.attributes) (omega arith) (omega arith)) refl in
      let same : put j eof ≡ put_all k (text_due m.mark at ∷ eof ∷ []) = sym (put-none (put j eof)) ∙ put_then j eof [] ∙ put_then k (text_due m.mark at) (eof ∷ []) in
      subst (λ (i : Kept). Final i d) same (record {
        tells = subst (Tells source (put j eof)) (append_assoc d.events (text_said d.mark) (Eof ∷ [])) u;
        counts = text-count k (over kind.text m.mark at) (ltb m.mark at) ∙ g.counts;
      })

  closed : (s : State) (at : ℕ) (m : Marks) (k : Kept) (d : Said) → s ≡ epilog → Against source at m k d (is_open s) → Final (put_all k (open_run s m.mark at ∷ eof ∷ [])) d
  closed s at m k d q g =
      subst (λ (w : State). Final (put_all k (open_run w m.mark at ∷ eof ∷ [])) d) (sym q) (closes at m k d (subst (λ (w : State). Against source at m k d (is_open w)) q g))

  same-state : (s u : State) (d e : Said) → ◌≡◌ {A = Option Telling} (some (telling s d)) (some (telling u e)) → s ≡ u
  same-state s u d e h = cc

  same-said : (s u : State) (d e : Said) → ◌≡◌ {A = Option Telling} (some (telling s d)) (some (telling u e)) → d ≡ e
  same-said s u d e h = cc

  tell-against : (t : List ℕ) (s : State) (at : ℕ) (m : Marks) (k : Kept) (d : Said) (u : State) (e : Said) → Against source at m k d (is_open s) → drop at source ≡ t →
      tell (telling s d) t ≡ some (telling u e) → done u ≡ true → Final (put_all k (due_from t s at (length k.attributes) m ++ (eof ∷ []))) e
  unfolding tell due_from
  tell-against [] s at m k d u e g h q f =
      subst (Final (put_all k (open_run s m.mark at ∷ eof ∷ []))) (same-said s u d e q) (closed s at m k d (done-epilog s (ap done (same-state s u d e q) ∙ f)) g)
  tell-against (b ∷ t) s at m k d u e g h q f =
      by (step s b) (step-does s b) q (λ w n j i v x y. tell-against t w (at + 1) n j i u e v x y f)
    where
      by : (o : Next) → Does (is_open s) o → onto o b d (λ c. tell c t) ≡ some (telling u e) →
          ((w : State) (n : Marks) (j : Kept) (i : Said) → Against source (at + 1) n j i (is_open w) → drop (at + 1) source ≡ t → tell (telling w i) t ≡ some (telling u e) →
          Final (put_all j (due_from t w (at + 1) (length j.attributes) n ++ (eof ∷ []))) e) →
          Final (put_all k (due_by o s at (length k.attributes) m (λ w c n. due_from t w (at + 1) c n) ++ (eof ∷ []))) e
      by state.no l q ih = let z : ◌≡◌ {A = ℕ} 0 1 = cc in absurd (omega arith)
      by (state.go a w) l q ih =
          let x : Due = due a at (length k.attributes) m in
          let n : Marks = marks_by a at (length k.attributes) m in
          let r = ih w n (put k x) (saying a b d) (step-against source at m k d (is_open s) g b t h a (is_open w) (does-go l)) (sym (drop-drop 1 at source) ∙ ap (drop 1) h) q in
          subst (λ (j : Kept). Final j e) (ap (λ (c : ℕ). put_all (put k x) (due_from t w (at + 1) c n ++ (eof ∷ []))) (put_count k x) ∙ put_then k x (due_from t w (at + 1) (counted (length k.attributes) x) n ++ (eof ∷ []))) r

  -- the verdict of a run that ends where a document does
  tell-judged : (t : List ℕ) (s : State) (d : Said) (q : ℕ) (u : State) (e : Said) → tell (telling s d) t ≡ some (telling u e) → done u ≡ true → judge t s q ≡ accepted
  unfolding tell judge
  tell-judged [] s d q u e h f = ap (λ (x : Bool). cond x accepted (bad q)) (ap done (same-state s u d e h) ∙ f)
  tell-judged (b ∷ t) s d q u e h f = by (step s b) h (λ w i y. tell-judged t w i (q + 1) u e y f)
    where
      by : (o : Next) → onto o b d (λ c. tell c t) ≡ some (telling u e) → ((w : State) (i : Said) → tell (telling w i) t ≡ some (telling u e) → judge t w (q + 1) ≡ accepted) →
          ahead o (blame s (b ∷ t) q) (λ w. judge t w (q + 1)) ≡ accepted
      by state.no h ih = let z : ◌≡◌ {A = ℕ} 0 1 = cc in absurd (omega arith)
      by (state.go a w) h ih = ih w (saying a b d) h

  -- THEOREM: a document's records, resolved, are what the run with bytes says of it
  pub told-against : (u : State) (e : Said) → told source ≡ some (telling u e) → done u ≡ true → Final (kept_of source) e
  unfolding verdict
  told-against u e q f =
      subst (λ (v : Verdict). Final (put_all nothing_kept (due_in_of source ++ last_due v)) e) (sym (tell-judged source fresh unsaid 0 u e q f))
      (tell-against source fresh 0 no_marks nothing_kept unsaid u e start refl q f)
    where
      start : Against source 0 no_marks nothing_kept unsaid false
      start = record {
        inside = omega arith;
        bounded = fresh-bounded;
        tells = record { ranged = tt; events = refl };
        mark = refl;
        name = refl;
        key = refl;
        attributes = refl;
        counts = refl;
      }
