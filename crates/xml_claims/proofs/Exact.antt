-- The control's verdict is exact: accepted are the documents, a refused byte is the first that no document has there, and `<!DOCTYPE` is told
-- from other bad bytes where markup may begin. Assumes nothing.
use Prim.Native.Nat.{ℕ, ◌+◌, ◌-◌, ◌≤◌}
use mathlib.Core.Path.{◌≡◌, refl, sym, ap, ◌∙◌, subst}
use mathlib.Core.List.{List, [], ◌∷◌, ◌++◌, append_assoc, append-nil}
use mathlib.Core.Bool.{Bool, true, false, cond, and-eq-true_iff, false≢true}
use mathlib.Core.Option.{Option, none, some}
use native.Mathlib.Omega.{arith}
use borrow.Author.Tests.{eqb-true}
use lib.Dec.{eqb}
use lib.ListN.{length, length-append}
use Rattle.xml_finish.specs.of_names.Bytes.{bytes}
use Rattle.xml_finish.specs.of_xml_chars.Chars.{begins}
use Rattle.xml_sound.specs.of_xml_grammar.Documents.{WellFormed, FirstBad, OpensMarkup, Doctype}
use Rattle.xml_finish.specs.of_xml_machine.State as state
use Rattle.xml_finish.specs.of_xml_machine.State.{State, fresh, Next}
use Rattle.xml_finish.specs.of_xml_machine.Machine.{step, done}
use Rattle.xml_finish.specs.of_xml_machine.Runs.{after, run, is_done, accepts, at_bang, is_doctype, Verdict, accepted, bad, doctype, blame, ahead, judge, verdict}
use Rattle.xml_finish.proofs.of_xml_machine.Runs.{run-append, run_step, run-no}
use Rattle.xml_finish.proofs.Finish.{finish}
use Rattle.xml_finish.proofs.GoesOn.{goes_on}
use Rattle.xml_places.proofs.of_xml_complete.Complete.{well_formed-accepted, no-document}
use Rattle.xml_sound.proofs.Sound.{sound}
use Rattle.xml_claims.proofs.Steps.{opens}
use Rattle.xml_claims.proofs.Probe.{probe, probe-reads, probe-none, doctype-judged}
use Rattle.xml_claims.proofs.Behind.{reached-plain, Begun, bang-begun, reached-behind}

-- ---- what the control hasn't refused begins a document
pub begins-document : (p : List ℕ) (s : State) → run fresh p ≡ some s → (t : List ℕ) × WellFormed (p ++ t)
begins-document p s e = (finish s, sound (p ++ finish s) (goes_on p s e))

opens-markup : (p : List ℕ) (s : State) → run fresh p ≡ some s → opens s ≡ true → OpensMarkup p
opens-markup p s e o =
    let r = probe-reads s o in
    let d = begins-document (p ++ probe) r.0 (run-append p probe fresh s e ∙ r.1) in
    (d.0, subst WellFormed (append_assoc p probe d.0) d.1)

-- ---- and what begins one isn't refused
abbrev pub Reaches : List ℕ → Type 0
Reaches p = (s : State) × (run fresh p ≡ some s)

pub reaches : (p t : List ℕ) → WellFormed (p ++ t) → Reaches p
reaches p t w = by (run fresh p) refl
  where
    by : (o : Option State) → run fresh p ≡ o → Reaches p
    by none e = absurd (no-document p t e w)
    by (some s) e = (s, e)

pub markup-opens : (p : List ℕ) (s : State) → run fresh p ≡ some s → OpensMarkup p → opens s ≡ true
markup-opens p s e m = by (opens s) refl
  where
    by : (x : Bool) → opens s ≡ x → opens s ≡ true
    by true o = o
    by false o =
        let gone : run fresh (p ++ (probe ++ m.0)) ≡ none = run-append p (probe ++ m.0) fresh s e ∙ probe-none s m.0 (reached-plain p s e) o in
        absurd (no-document (p ++ (probe ++ m.0)) [] gone (subst WellFormed (sym (append-nil (p ++ (probe ++ m.0)))) m.1))

-- ---- a run, then its verdict
pub judge-run : (p t : List ℕ) (s u : State) (q : ℕ) → run s p ≡ some u → judge (p ++ t) s q ≡ judge t u (q + length p)
unfolding judge run
judge-run [] t s u q e = let z : s ≡ u = cc in let y : q ≡ q + 0 = omega arith in (λ i. judge t (z i) (y i))
judge-run (b ∷ p) t s u q e = by (step s b) e (λ w. judge-run p t w u (q + 1))
  where
    by : (o : Next) → after o (λ w. run w p) ≡ some u → ((w : State) → run w p ≡ some u → judge (p ++ t) w (q + 1) ≡ judge t u (q + 1 + length p)) →
        ahead o (blame s (b ∷ (p ++ t)) q) (λ w. judge (p ++ t) w (q + 1)) ≡ judge t u (q + length (b ∷ p))
    by state.no e ih = let z : ◌≡◌ {A = ℕ} 0 1 = cc in absurd (omega arith)
    by (state.go act w) e ih = let z : q + 1 + length p ≡ q + length (b ∷ p) = omega arith in ih w e ∙ ap (judge t u) z

-- `<!DOCTYPE` where markup may begin is always told
pub doctype-told : (s : List ℕ) (k : ℕ) → Doctype s k → verdict s ≡ doctype k
unfolding verdict
doctype-told s k (p, t, h, l, m) =
    let r = reaches p (probe ++ m.0) m.1 in
    let o = markup-opens p r.0 r.1 m in
    ap (λ (x : List ℕ). judge x fresh 0) h
    ∙ judge-run p (bytes "<!DOCTYPE" ++ t) fresh r.0 0 r.1
    ∙ doctype-judged r.0 t (0 + length p) o
    ∙ (let z : 0 + length p ≡ k = omega arith in ap doctype z)

-- ---- byte by byte
abbrev Right : List ℕ → Verdict → Type 0
Right s accepted = WellFormed s
Right s (bad q) = FirstBad s q
Right s (doctype q) = Doctype s q

pub one_more : (p : List ℕ) (b : ℕ) (s u : State) (act : state.Act) → run fresh p ≡ some s → step s b ≡ state.go act u → run fresh (p ++ (b ∷ [])) ≡ some u
unfolding run
one_more p b s u act e f = run-append p (b ∷ []) fresh s e ∙ run_step s u act b [] f

no_more : (p : List ℕ) (b : ℕ) (s : State) → run fresh p ≡ some s → step s b ≡ state.no → run fresh (p ++ (b ∷ [])) ≡ none
no_more p b s e f = run-append p (b ∷ []) fresh s e ∙ run-no s b [] f

begins-split : (x s : List ℕ) → begins x s ≡ true → (r : List ℕ) × (s ≡ x ++ r)
begins-split [] s e = (s, refl)
begins-split (a ∷ x) [] e = absurd (false≢true e)
begins-split (a ∷ x) (b ∷ s) e =
    let p = (and-eq-true_iff (eqb a b) (begins x s)).0 e in
    let r = begins-split x s p.1 in
    let z = eqb-true a b p.0 in
    (r.0, (λ i. sym z i ∷ r.1 i))

module _ (p : List ℕ) (s : State) (e : run fresh p ≡ some s) where
  -- behind the last byte
  ends : (x : Bool) → done s ≡ x → Right (p ++ []) (cond x accepted (bad (length p)))
  unfolding accepts
  ends true f = subst WellFormed (sym (append-nil p)) (sound p (ap is_done e ∙ f))
  ends false f = (p, [], refl, refl, begins-document p s e, λ w. false≢true (sym (ap is_done e ∙ f) ∙ well_formed-accepted p w))

  -- at a refused byte
  refuses : (b : ℕ) (t : List ℕ) → step s b ≡ state.no → FirstBad (p ++ (b ∷ t)) (length p)
  refuses b t f = (
    p,
    b ∷ t,
    refl,
    refl,
    begins-document p s e,
    λ r w. no-document (p ++ (b ∷ [])) r (no_more p b s e f) (subst WellFormed (sym (append_assoc p (b ∷ []) r)) w),
  )

  -- `<!` stands before it
  behind-bang : (t : List ℕ) → is_doctype s t ≡ true → Begun (bytes "<!") p
  behind-bang t f = bang-begun s p ((and-eq-true_iff (at_bang s) (begins (bytes "DOCTYPE") t)).0 f).0 (reached-behind p s e)

  pub bang-long : (t : List ℕ) → is_doctype s t ≡ true → 2 ≤ length p
  bang-long t f = let g = behind-bang t f in let l = ap length g.2 ∙ length-append g.0 (bytes "<!") in omega arith

  blames-doctype : (t : List ℕ) → is_doctype s t ≡ true → Doctype (p ++ t) (length p - 2)
  blames-doctype t f =
      let a = (and-eq-true_iff (at_bang s) (begins (bytes "DOCTYPE") t)).0 f in
      let g = behind-bang t f in
      let d = begins-split (bytes "DOCTYPE") t a.1 in
      let l = ap length g.2 ∙ length-append g.0 (bytes "<!") in (
        g.0,
        d.0,
        (λ i. g.2 i ++ d.1 i) ∙ append_assoc g.0 (bytes "<!") (bytes "DOCTYPE" ++ d.0),
        omega arith,
        opens-markup g.0 g.1 g.3 g.4,
      )

  blames : (b : ℕ) (t : List ℕ) → step s b ≡ state.no → (x : Bool) → is_doctype s (b ∷ t) ≡ x → Right (p ++ (b ∷ t)) (cond x (doctype (length p - 2)) (bad (length p)))
  blames b t f true g = blames-doctype (b ∷ t) g
  blames b t f false g = refuses b t f

judged : (t p : List ℕ) (s : State) → run fresh p ≡ some s → Right (p ++ t) (judge t s (length p))
unfolding judge
judged [] p s e = ends p s e (done s) refl
judged (b ∷ t) p s e = by (step s b) refl (λ u f. judged t (p ++ (b ∷ [])) u f)
  where
    by : (o : Next) → step s b ≡ o → ((u : State) → run fresh (p ++ (b ∷ [])) ≡ some u → Right ((p ++ (b ∷ [])) ++ t) (judge t u (length (p ++ (b ∷ []))))) →
        Right (p ++ (b ∷ t)) (ahead o (blame s (b ∷ t) (length p)) (λ u. judge t u (length p + 1)))
    by state.no f ih = blames p s e b t f (is_doctype s (b ∷ t)) refl
    by (state.go act u) f ih =
        subst (λ (z : List ℕ). Right z (judge t u (length p + 1))) (append_assoc p (b ∷ []) t)
        (subst (λ (z : ℕ). Right ((p ++ (b ∷ [])) ++ t) (judge t u z)) (length-append p (b ∷ [])) (ih u (one_more p b s u act e f)))

-- THEOREM: a verdict is right
pub exact : (s : List ℕ) → Right s (verdict s)
unfolding verdict run
exact s = judged s [] fresh refl

pub exact-accepted : (s : List ℕ) → verdict s ≡ accepted → WellFormed s
exact-accepted s e = subst (Right s) e (exact s)

pub exact-bad : (s : List ℕ) (q : ℕ) → verdict s ≡ bad q → FirstBad s q
exact-bad s q e = subst (Right s) e (exact s)

pub exact-doctype : (s : List ℕ) (q : ℕ) → verdict s ≡ doctype q → Doctype s q
exact-doctype s q e = subst (Right s) e (exact s)

-- a bad byte is told only if `<!DOCTYPE` stands nowhere where markup may begin
pub no-doctype : (s : List ℕ) (q : ℕ) → verdict s ≡ bad q → (k : ℕ) → ¬ Doctype s k
no-doctype s q e k d = let f = doctype-told s k d in let z : ◌≡◌ {A = ℕ} 0 1 = cc in omega arith
