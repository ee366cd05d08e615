-- What stands before a state that is behind `<` or `<!`. Assumes nothing.
use Prim.Native.Nat.{ℕ}
use mathlib.Core.Path.{◌≡◌, refl, sym, ap, ◌∙◌, subst}
use mathlib.Core.List.{List, [], ◌∷◌, ◌++◌, append_assoc, append-nil}
use mathlib.Core.Bool.{true, false, false≢true}
use mathlib.Core.Option.{some}
use native.Mathlib.Omega.{arith}
use Rattle.xml_finish.specs.of_names.Bytes.{bytes}
use Rattle.xml_finish.specs.of_xml_chars.Bytes.{whole, part}
use Rattle.xml_finish.specs.of_xml_machine.State as state
use Rattle.xml_finish.specs.of_xml_machine.State.{State, fresh, marked, lt_first, heading, decl, literal, prolog, epilog, text, lt, misc, section, ref, tag, ending, end_space, Next}
use Rattle.xml_finish.specs.of_xml_machine.State.{InMisc, bang, dash, remark0, remark1, remark2, target, named, pi_data, pi_query, pi_close}
use Rattle.xml_finish.specs.of_xml_machine.Machine.{step}
use Rattle.xml_finish.specs.of_xml_machine.Runs.{after, run, at_bang}
use Rattle.xml_finish.proofs.of_xml_machine.Outcomes.{Ok, ok-go}
use Rattle.xml_finish.proofs.of_xml_machine.Runs.{run-append, run_step}
use Rattle.xml_claims.proofs.Plain.{Plain}
use Rattle.xml_claims.proofs.Steps.{opens, at_lt, EntersMisc, Enters, After, step_after}

-- ---- plain states only
run-plain : (t : List ℕ) (s u : State) → Plain s → run s t ≡ some u → Plain u
unfolding run
run-plain [] s u v e = let z : s ≡ u = cc in subst Plain z v
run-plain (b ∷ t) s u v e = by (step s b) (step_after s b v) e (λ w. run-plain t w u)
  where
    by : (o : Next) → Ok (After s b) o → after o (λ w. run w t) ≡ some u → ((w : State) → Plain w → run w t ≡ some u → Plain u) → Plain u
    by state.no h e ih = let z : ◌≡◌ {A = ℕ} 0 1 = cc in absurd (omega arith)
    by (state.go act w) h e ih = ih w (ok-go h).0 e

pub reached-plain : (p : List ℕ) (s : State) → run fresh p ≡ some s → Plain s
reached-plain p s e = run-plain p fresh s tt e

-- ---- p ends in x, and markup may begin before it
abbrev pub Begun : List ℕ → List ℕ → Type 0
Begun x p = (o : List ℕ) × (r : State) × (p ≡ o ++ x) × (run fresh o ≡ some r) × (opens r ≡ true)

abbrev BehindMisc : InMisc → List ℕ → Type 0
BehindMisc bang p = Begun (bytes "<!") p
BehindMisc dash p = Unit {0}
BehindMisc remark0 p = Unit {0}
BehindMisc remark1 p = Unit {0}
BehindMisc remark2 p = Unit {0}
BehindMisc (target x) p = Unit {0}
BehindMisc named p = Unit {0}
BehindMisc pi_data p = Unit {0}
BehindMisc pi_query p = Unit {0}
BehindMisc pi_close p = Unit {0}

abbrev pub Behind : State → List ℕ → Type 0
Behind fresh p = Unit {0}
Behind marked p = Unit {0}
Behind lt_first p = Begun (bytes "<") p
Behind (heading x) p = Unit {0}
Behind (decl d) p = Unit {0}
Behind (literal c cs g) p = Unit {0}
Behind prolog p = Unit {0}
Behind epilog p = Unit {0}
Behind (text i q n ns) p = Unit {0}
Behind (lt pl) p = Begun (bytes "<") p
Behind (misc m q pl) p = BehindMisc m p
Behind (section i q n ns) p = Unit {0}
Behind (ref m q i) p = Unit {0}
Behind (tag m q n ns) p = Unit {0}
Behind (ending n ns) p = Unit {0}
Behind (end_space ns) p = Unit {0}

lt-begun : (s : State) (p : List ℕ) → at_lt s ≡ true → Behind s p → Begun (bytes "<") p
lt-begun fresh p e h = absurd (false≢true e)
lt-begun marked p e h = absurd (false≢true e)
lt-begun lt_first p e h = h
lt-begun (heading x) p e h = absurd (false≢true e)
lt-begun (decl d) p e h = absurd (false≢true e)
lt-begun (literal c cs g) p e h = absurd (false≢true e)
lt-begun prolog p e h = absurd (false≢true e)
lt-begun epilog p e h = absurd (false≢true e)
lt-begun (text i q n ns) p e h = absurd (false≢true e)
lt-begun (lt pl) p e h = h
lt-begun (misc m q pl) p e h = absurd (false≢true e)
lt-begun (section i q n ns) p e h = absurd (false≢true e)
lt-begun (ref m q i) p e h = absurd (false≢true e)
lt-begun (tag m q n ns) p e h = absurd (false≢true e)
lt-begun (ending n ns) p e h = absurd (false≢true e)
lt-begun (end_space ns) p e h = absurd (false≢true e)

pub bang-begun : (s : State) (p : List ℕ) → at_bang s ≡ true → Behind s p → Begun (bytes "<!") p
bang-begun fresh p e h = absurd (false≢true e)
bang-begun marked p e h = absurd (false≢true e)
bang-begun lt_first p e h = absurd (false≢true e)
bang-begun (heading x) p e h = absurd (false≢true e)
bang-begun (decl d) p e h = absurd (false≢true e)
bang-begun (literal c cs g) p e h = absurd (false≢true e)
bang-begun prolog p e h = absurd (false≢true e)
bang-begun epilog p e h = absurd (false≢true e)
bang-begun (text i q n ns) p e h = absurd (false≢true e)
bang-begun (lt pl) p e h = absurd (false≢true e)
bang-begun (misc bang whole pl) p e h = h
bang-begun (misc bang (part cls low l least) pl) p e h = absurd (false≢true e)
bang-begun (misc dash q pl) p e h = absurd (false≢true e)
bang-begun (misc remark0 q pl) p e h = absurd (false≢true e)
bang-begun (misc remark1 q pl) p e h = absurd (false≢true e)
bang-begun (misc remark2 q pl) p e h = absurd (false≢true e)
bang-begun (misc (target x) q pl) p e h = absurd (false≢true e)
bang-begun (misc named q pl) p e h = absurd (false≢true e)
bang-begun (misc pi_data q pl) p e h = absurd (false≢true e)
bang-begun (misc pi_query q pl) p e h = absurd (false≢true e)
bang-begun (misc pi_close q pl) p e h = absurd (false≢true e)
bang-begun (section i q n ns) p e h = absurd (false≢true e)
bang-begun (ref m q i) p e h = absurd (false≢true e)
bang-begun (tag m q n ns) p e h = absurd (false≢true e)
bang-begun (ending n ns) p e h = absurd (false≢true e)
bang-begun (end_space ns) p e h = absurd (false≢true e)

module _ (s : State) (b : ℕ) (p : List ℕ) (e : run fresh p ≡ some s) where
  enters-lt : (opens s ≡ true) × (b ≡ 0x3C) → Begun (bytes "<") (p ++ (b ∷ []))
  enters-lt h = (p, s, ap (λ (c : ℕ). p ++ (c ∷ [])) h.1, e, h.0)

  enters-bang : Begun (bytes "<") p → b ≡ 0x21 → Begun (bytes "<!") (p ++ (b ∷ []))
  enters-bang h z = (
    h.0,
    h.1,
    (λ i. h.2 i ++ (z i ∷ [])) ∙ append_assoc h.0 (bytes "<") (0x21 ∷ []),
    h.3,
    h.4,
  )

  enters-misc : (m : InMisc) → Behind s p → EntersMisc m s b → BehindMisc m (p ++ (b ∷ []))
  enters-misc bang h k = enters-bang (lt-begun s p k.0 h) k.1
  enters-misc dash h k = tt
  enters-misc remark0 h k = tt
  enters-misc remark1 h k = tt
  enters-misc remark2 h k = tt
  enters-misc (target x) h k = tt
  enters-misc named h k = tt
  enters-misc pi_data h k = tt
  enters-misc pi_query h k = tt
  enters-misc pi_close h k = tt

  pub enters : (u : State) → Behind s p → Enters s b u → Behind u (p ++ (b ∷ []))
  enters fresh h k = tt
  enters marked h k = tt
  enters lt_first h k = enters-lt k
  enters (heading x) h k = tt
  enters (decl d) h k = tt
  enters (literal c cs g) h k = tt
  enters prolog h k = tt
  enters epilog h k = tt
  enters (text i q n ns) h k = tt
  enters (lt pl) h k = enters-lt k
  enters (misc m q pl) h k = enters-misc m h k
  enters (section i q n ns) h k = tt
  enters (ref m q i) h k = tt
  enters (tag m q n ns) h k = tt
  enters (ending n ns) h k = tt
  enters (end_space ns) h k = tt

-- ---- all along a run
pub run-behind : (t p : List ℕ) (s u : State) → run fresh p ≡ some s → Behind s p → run s t ≡ some u → Behind u (p ++ t)
unfolding run
run-behind [] p s u e h f = let z : s ≡ u = cc in subst (Behind u) (sym (append-nil p)) (subst (λ (w : State). Behind w p) z h)
run-behind (b ∷ t) p s u e h f = by (step s b) refl (step_after s b (reached-plain p s e)) f (λ w g k. run-behind t (p ++ (b ∷ [])) w u g k)
  where
    by : (o : Next) → step s b ≡ o → Ok (After s b) o → after o (λ w. run w t) ≡ some u →
        ((w : State) → run fresh (p ++ (b ∷ [])) ≡ some w → Behind w (p ++ (b ∷ [])) → run w t ≡ some u → Behind u ((p ++ (b ∷ [])) ++ t)) → Behind u (p ++ (b ∷ t))
    by state.no q k f ih = let z : ◌≡◌ {A = ℕ} 0 1 = cc in absurd (omega arith)
    by (state.go act w) q k f ih =
        subst (Behind u) (append_assoc p (b ∷ []) t) (ih w (run-append p (b ∷ []) fresh s e ∙ run_step s w act b [] q) (enters s b p e w h (ok-go k).1) f)

pub reached-behind : (p : List ℕ) (s : State) → run fresh p ≡ some s → Behind s p
unfolding run
reached-behind p s e = run-behind p [] fresh s refl tt e
