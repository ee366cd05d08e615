-- The verdict that a document, a first bad byte and a `<!DOCTYPE` have. Assumes nothing.
use Prim.Native.Nat.{ℕ, ◌+◌, ◌-◌, ◌≤◌}
use mathlib.Core.Path.{◌≡◌, refl, sym, ap, ◌∙◌, subst}
use mathlib.Core.List.{List, [], ◌∷◌, ◌++◌, append_assoc, append-nil}
use mathlib.Core.Bool.{Bool, true, false, cond}
use mathlib.Core.Logic.{◌⊎◌, inl, inr}
use mathlib.Core.Option.{some}
use native.Mathlib.Omega.{arith}
use lib.ListN.{length}
use Rattle.xml_sound.specs.of_xml_grammar.Documents.{WellFormed, Dead, FirstBad, Doctype}
use Rattle.xml_finish.specs.of_xml_machine.State as state
use Rattle.xml_finish.specs.of_xml_machine.State.{State, fresh, Next}
use Rattle.xml_finish.specs.of_xml_machine.Machine.{step, done}
use Rattle.xml_finish.specs.of_xml_machine.Runs.{run, is_done, accepts, is_doctype, Verdict, accepted, bad, doctype, blame, ahead, judge, verdict}
use Rattle.xml_places.proofs.of_xml_complete.Complete.{well_formed-accepted}
use Rattle.xml_sound.proofs.Sound.{sound}
use Rattle.xml_claims.specs.Tokenizing.{NoDoctype}
use Rattle.xml_claims.proofs.Exact.{begins-document, reaches, judge-run, one_more, bang-long, doctype-told, exact-doctype}

-- ---- a document
pub document-told : (s : List ℕ) → WellFormed s → verdict s ≡ accepted
unfolding verdict accepts judge
document-told s w =
    let r = reaches s [] (subst WellFormed (sym (append-nil s)) w) in
    let d : done r.0 ≡ true = sym (ap is_done r.1) ∙ well_formed-accepted s w in
    ap (λ (x : List ℕ). judge x fresh 0) (sym (append-nil s))
    ∙ judge-run s [] fresh r.0 0 r.1
    ∙ ap (λ (x : Bool). cond x accepted (bad (0 + length s))) d

-- ---- the first bad byte: behind a state, these bytes don't lead on
abbrev pub Stops : State → List ℕ → Type 0
Stops u [] = done u ≡ false
Stops u (b ∷ r) = step u b ≡ state.no

pub stops : (p r : List ℕ) (u : State) → run fresh p ≡ some u → Dead p r → Stops u r
unfolding accepts
stops p [] u e dead = by (done u) refl
  where
    by : (x : Bool) → done u ≡ x → done u ≡ false
    by true f = absurd (dead (sound p (ap is_done e ∙ f)))
    by false f = f
stops p (b ∷ r) u e dead = by (step u b) refl
  where
    by : (o : Next) → step u b ≡ o → step u b ≡ state.no
    by state.no f = f
    by (state.go act w) f = let d = begins-document (p ++ (b ∷ [])) w (one_more p b u w act e f) in absurd (dead d.0 (subst WellFormed (append_assoc p (b ∷ []) d.0) d.1))

-- 18 there, or 19 two bytes before
abbrev Blamed : ℕ → Verdict → Type 0
Blamed q v = (v ≡ bad q) ⊎ ((v ≡ doctype (q - 2)) × (2 ≤ q))

stopped : (p r : List ℕ) (u : State) → run fresh p ≡ some u → Stops u r → Blamed (length p) (judge r u (length p))
unfolding judge
stopped p [] u e h = inl (ap (λ (x : Bool). cond x accepted (bad (length p))) h)
stopped p (b ∷ r) u e h =
    subst (λ (o : Next). Blamed (length p) (ahead o (blame u (b ∷ r) (length p)) (λ w. judge r w (length p + 1)))) (sym h) (by (is_doctype u (b ∷ r)) refl)
  where
    by : (x : Bool) → is_doctype u (b ∷ r) ≡ x → Blamed (length p) (cond x (doctype (length p - 2)) (bad (length p)))
    by true f = inr (refl, bang-long p u e (b ∷ r) f)
    by false f = inl refl

bad-blamed : (s : List ℕ) (q : ℕ) → FirstBad s q → Blamed q (verdict s)
unfolding verdict
bad-blamed s q (p, r, h, l, v, dead) =
    let u = reaches p v.0 v.1 in
    let z : 0 + length p ≡ length p = omega arith in
    let same : judge s fresh 0 ≡ judge r u.0 (length p) = ap (λ (x : List ℕ). judge x fresh 0) h ∙ judge-run p r fresh u.0 0 u.1 ∙ ap (judge r u.0) z in
    subst (λ (n : ℕ). Blamed n (judge s fresh 0)) l (subst (Blamed (length p)) (sym same) (stopped p r u.0 u.1 (stops p r u.0 u.1 dead)))

pub bad-told : (s : List ℕ) (q : ℕ) → FirstBad s q → NoDoctype s → verdict s ≡ bad q
bad-told s q f nd = by (bad-blamed s q f)
  where
    by : Blamed q (verdict s) → verdict s ≡ bad q
    by (inl e) = e
    by (inr e) = absurd (nd (q - 2) (exact-doctype s (q - 2) e.0))

pub two-before : (s : List ℕ) (k q : ℕ) → Doctype s k → FirstBad s q → q ≡ k + 2
two-before s k q d f = by (bad-blamed s q f)
  where
    by : Blamed q (verdict s) → q ≡ k + 2
    by (inl e) = let t = doctype-told s k d in let z : ◌≡◌ {A = ℕ} 0 1 = cc in absurd (omega arith)
    by (inr e) = let t = doctype-told s k d in let v = e.0 in let l = e.1 in let z : k ≡ q - 2 = cc in omega arith
