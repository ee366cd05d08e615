-- What is due of a source is what is due in the bytes before its refusal. Assumes nothing.
use Prim.Native.Nat.{ℕ, ◌+◌}
use mathlib.Core.Path.{◌≡◌, refl, sym, ap, ◌∙◌}
use mathlib.Core.List.{List, [], ◌∷◌, ◌++◌}
use mathlib.Core.Bool.{Bool, true, false, cond, false≢true}
use mathlib.Core.Option.{some}
use native.Mathlib.Omega.{arith}
use borrow.Author.Tests.{le-ltb}
use lib.Dec.{eqb}
use lib.ListN.{take}
use lib.Seq.{take_at}
use Rattle.xml_finish.specs.of_names.Bytes.{bytes}
use Rattle.xml_finish.specs.of_table.Kinds as kind
use Rattle.xml_finish.specs.of_xml_chars.Chars.{crosses}
use Rattle.xml_finish.specs.of_xml_chars.Bytes.{whole, part}
use Rattle.xml_sound.specs.of_xml_grammar.Documents.{FirstBad, Doctype}
use Rattle.xml_finish.specs.of_xml_machine.State as state
use Rattle.xml_finish.specs.of_xml_machine.State.{State, fresh, marked, lt_first, heading, decl, literal, prolog, epilog, text, lt, misc, section, ref, tag, ending, end_space, Act, Mark, to_marked, to_section, to_equals, to_point, to_chosen, Next}
use Rattle.xml_finish.specs.of_xml_machine.Machine.{char, in_text, in_lt, in_misc, step}
use Rattle.xml_finish.specs.of_xml_machine.Runs.{after, run}
use Rattle.xml_finish.specs.of_xml_machine.Tokens.{Rec, over, Marks, no_marks, marks_by, Due, nothing, event, attribute, text_due, due}
use Rattle.xml_finish.proofs.of_xml_machine.Outcomes.{Ok, ok-go}
use Rattle.xml_places.specs.of_xml_tokens.Due.{counted, due_by, due_from, due_in_of, events_due, attributes_due}
use Rattle.xml_claims.proofs.Plain.{Plain}
use Rattle.xml_claims.proofs.Steps.{opens, at_mark_of, Enters, After, step_after}
use Rattle.xml_claims.proofs.Exact.{reaches, markup-opens}
use Rattle.xml_claims.proofs.Verdicts.{Stops, stops}

-- the same records
abbrev pub SameDue : List Due → List Due → Type 0
SameDue ds es = (events_due ds ≡ events_due es) × (attributes_due ds ≡ attributes_due es)

same-behind : (d : Due) (ds es : List Due) → SameDue ds es → SameDue (d ∷ ds) (d ∷ es)
same-behind nothing ds es h = h
same-behind (event r) ds es h = (ap (λ (l : List Rec). r ∷ l) h.0, h.1)
same-behind (attribute r) ds es h = (h.0, ap (λ (l : List Rec). r ∷ l) h.1)

-- ---- before a byte that is refused
stops-due : (p r : List ℕ) (s u : State) (at count : ℕ) (m : Marks) → run s p ≡ some u → Stops u r → due_from (p ++ r) s at count m ≡ due_from p s at count m
unfolding due_from run
stops-due [] [] s u at count m e h = refl
stops-due [] (b ∷ r) s u at count m e h =
    let z : s ≡ u = cc in
    let stop : step s b ≡ state.no = ap (λ (w : State). step w b) z ∙ h in
    ap (λ (o : Next). due_by o s at count m (λ w n k. due_from r w (at + 1) n k)) stop
stops-due (b ∷ p) r s u at count m e h = by (step s b) e (λ w n k f. stops-due p r w u (at + 1) n k f h)
  where
    by : (o : Next) → after o (λ w. run w p) ≡ some u → ((w : State) (n : ℕ) (k : Marks) → run w p ≡ some u → due_from (p ++ r) w (at + 1) n k ≡ due_from p w (at + 1) n k) →
        due_by o s at count m (λ w n k. due_from (p ++ r) w (at + 1) n k) ≡ due_by o s at count m (λ w n k. due_from p w (at + 1) n k)
    by state.no f ih = let z : ◌≡◌ {A = ℕ} 0 1 = cc in absurd (omega arith)
    by (state.go a w) f ih = ap (λ (ds : List Due). due a at count m ∷ ds) (ih w (counted count (due a at count m)) (marks_by a at count m) f)

-- THEOREM: before the first bad byte
pub bad-due : (s : List ℕ) (q : ℕ) → FirstBad s q → due_in_of s ≡ due_in_of (take q s)
bad-due s q (p, r, h, l, v, dead) =
    let u = reaches p v.0 v.1 in
    ap due_in_of h ∙ stops-due p r fresh u.0 0 0 no_marks u.1 (stops p r u.0 u.1 dead) ∙ ap due_in_of (sym (ap (take q) h ∙ take_at p r q l))

-- ---- before `<!DOCTYPE`: at the very first position no text is open
abbrev Clear : State → ℕ → Marks → Type 0
Clear fresh at m = m.mark ≡ at
Clear marked at m = m.mark ≡ at
Clear lt_first at m = Unit {0}
Clear (heading x) at m = Unit {0}
Clear (decl d) at m = Unit {0}
Clear (literal c cs g) at m = Unit {0}
Clear prolog at m = Unit {0}
Clear epilog at m = Unit {0}
Clear (text k p n ns) at m = Unit {0}
Clear (lt pl) at m = Unit {0}
Clear (misc i p pl) at m = Unit {0}
Clear (section k p n ns) at m = Unit {0}
Clear (ref i p h) at m = Unit {0}
Clear (tag i p n ns) at m = Unit {0}
Clear (ending n ns) at m = Unit {0}
Clear (end_space ns) at m = Unit {0}

-- the byte-order mark ends by Mark
mark-act : (s : State) (b : ℕ) (a : Act) (w : State) → at_mark_of s ≡ true → step s b ≡ state.go a w → a ≡ Mark
unfolding step
mark-act fresh b a w o e = absurd (false≢true o)
mark-act marked b a w o e = absurd (false≢true o)
mark-act lt_first b a w o e = absurd (false≢true o)
mark-act (heading x) b a w o e = absurd (false≢true o)
mark-act (decl d) b a w o e = absurd (false≢true o)
mark-act (literal c [] to_marked) b a w o e = by (eqb b c) e
  where
    by : (x : Bool) → cond x (state.go Mark marked) state.no ≡ state.go a w → a ≡ Mark
    by true f = cc
    by false f = let z : ◌≡◌ {A = ℕ} 0 1 = cc in absurd (omega arith)
mark-act (literal c [] (to_section n ns)) b a w o e = absurd (false≢true o)
mark-act (literal c [] (to_equals i)) b a w o e = absurd (false≢true o)
mark-act (literal c [] (to_point q)) b a w o e = absurd (false≢true o)
mark-act (literal c [] (to_chosen q)) b a w o e = absurd (false≢true o)
mark-act (literal c (d ∷ cs) g) b a w o e = absurd (false≢true o)
mark-act prolog b a w o e = absurd (false≢true o)
mark-act epilog b a w o e = absurd (false≢true o)
mark-act (text k p n ns) b a w o e = absurd (false≢true o)
mark-act (lt pl) b a w o e = absurd (false≢true o)
mark-act (misc i p pl) b a w o e = absurd (false≢true o)
mark-act (section k p n ns) b a w o e = absurd (false≢true o)
mark-act (ref i p h) b a w o e = absurd (false≢true o)
mark-act (tag i p n ns) b a w o e = absurd (false≢true o)
mark-act (ending n ns) b a w o e = absurd (false≢true o)
mark-act (end_space ns) b a w o e = absurd (false≢true o)

clear-on : (s : State) (b : ℕ) (a : Act) (w : State) (at count : ℕ) (m : Marks) → step s b ≡ state.go a w → Enters s b w → Clear w (at + 1) (marks_by a at count m)
clear-on s b a fresh at count m e h = absurd h
clear-on s b a marked at count m e h = let z = mark-act s b a marked h e in ap (λ (x : Act). (marks_by x at count m).mark) z
clear-on s b a lt_first at count m e h = tt
clear-on s b a (heading x) at count m e h = tt
clear-on s b a (decl d) at count m e h = tt
clear-on s b a (literal c cs g) at count m e h = tt
clear-on s b a prolog at count m e h = tt
clear-on s b a epilog at count m e h = tt
clear-on s b a (text k p n ns) at count m e h = tt
clear-on s b a (lt pl) at count m e h = tt
clear-on s b a (misc i p pl) at count m e h = tt
clear-on s b a (section k p n ns) at count m e h = tt
clear-on s b a (ref i p x) at count m e h = tt
clear-on s b a (tag i p n ns) at count m e h = tt
clear-on s b a (ending n ns) at count m e h = tt
clear-on s b a (end_space ns) at count m e h = tt

no_text : (mark at : ℕ) → mark ≡ at → text_due mark at ≡ nothing
no_text mark at e = ap (λ (x : Bool). cond x (event (over kind.text mark at)) nothing) (le-ltb mark at (omega arith))

-- `<` ends the open run of text, and `!` nothing
here-due : (s : State) (t : List ℕ) (at count : ℕ) (m : Marks) → Clear s at m → opens s ≡ true →
    SameDue (due_from (bytes "<!DOCTYPE" ++ t) s at count m) (due_from [] s at count m)
unfolding due_from step in_text in_lt in_misc char crosses
here-due fresh t at count m c o = let z = no_text m.mark at c in (ap (λ (d : Due). events_due (d ∷ nothing ∷ nothing ∷ [])) z, ap (λ (d : Due). attributes_due (d ∷ nothing ∷ nothing ∷ [])) z)
here-due marked t at count m c o = let z = no_text m.mark at c in (ap (λ (d : Due). events_due (d ∷ nothing ∷ nothing ∷ [])) z, ap (λ (d : Due). attributes_due (d ∷ nothing ∷ nothing ∷ [])) z)
here-due lt_first t at count m c o = absurd (false≢true o)
here-due (heading x) t at count m c o = absurd (false≢true o)
here-due (decl d) t at count m c o = absurd (false≢true o)
here-due (literal x cs g) t at count m c o = absurd (false≢true o)
here-due prolog t at count m c o = same-behind (text_due m.mark at) (nothing ∷ nothing ∷ []) [] (refl, refl)
here-due epilog t at count m c o = same-behind (text_due m.mark at) (nothing ∷ nothing ∷ []) [] (refl, refl)
here-due (text k whole n ns) t at count m c o = same-behind (text_due m.mark at) (nothing ∷ nothing ∷ []) [] (refl, refl)
here-due (text k (part cls low l least) n ns) t at count m c o = absurd (false≢true o)
here-due (lt pl) t at count m c o = absurd (false≢true o)
here-due (misc i p pl) t at count m c o = absurd (false≢true o)
here-due (section k p n ns) t at count m c o = absurd (false≢true o)
here-due (ref i p h) t at count m c o = absurd (false≢true o)
here-due (tag i p n ns) t at count m c o = absurd (false≢true o)
here-due (ending n ns) t at count m c o = absurd (false≢true o)
here-due (end_space ns) t at count m c o = absurd (false≢true o)

later-due : (p t : List ℕ) (s u : State) (at count : ℕ) (m : Marks) → Plain s → Clear s at m → run s p ≡ some u → opens u ≡ true →
    SameDue (due_from (p ++ (bytes "<!DOCTYPE" ++ t)) s at count m) (due_from p s at count m)
unfolding run due_from
later-due [] t s u at count m v c e o = let z : s ≡ u = cc in here-due s t at count m c (ap opens z ∙ o)
later-due (b ∷ p) t s u at count m v c e o = by (step s b) refl (step_after s b v) e (λ w n k x y f. later-due p t w u (at + 1) n k x y f o)
  where
    by : (x : Next) → step s b ≡ x → Ok (After s b) x → after x (λ w. run w p) ≡ some u →
        ((w : State) (n : ℕ) (k : Marks) → Plain w → Clear w (at + 1) k → run w p ≡ some u → SameDue (due_from (p ++ (bytes "<!DOCTYPE" ++ t)) w (at + 1) n k) (due_from p w (at + 1) n k)) →
        SameDue (due_by x s at count m (λ w n k. due_from (p ++ (bytes "<!DOCTYPE" ++ t)) w (at + 1) n k)) (due_by x s at count m (λ w n k. due_from p w (at + 1) n k))
    by state.no q h f ih = let z : ◌≡◌ {A = ℕ} 0 1 = cc in absurd (omega arith)
    by (state.go a w) q h f ih =
        let g = ok-go h in
        same-behind (due a at count m) (due_from (p ++ (bytes "<!DOCTYPE" ++ t)) w (at + 1) (counted count (due a at count m)) (marks_by a at count m)) (due_from p w (at + 1) (counted count (due a at count m)) (marks_by a at count m))
        (ih w (counted count (due a at count m)) (marks_by a at count m) g.0 (clear-on s b a w at count m q g.1) f)

-- THEOREM: before `<!DOCTYPE`
pub doctype-due : (s : List ℕ) (q : ℕ) → Doctype s q → SameDue (due_in_of s) (due_in_of (take q s))
doctype-due s q (p, t, h, l, m) =
    let u = reaches p (bytes "<!--?>]]>]]>-->" ++ m.0) m.1 in
    let d = later-due p t fresh u.0 0 0 no_marks tt refl u.1 (markup-opens p u.0 u.1 m) in
    let back : take q s ≡ p = ap (take q) h ∙ take_at p (bytes "<!DOCTYPE" ++ t) q l in (
      ap (λ (x : List ℕ). events_due (due_in_of x)) h ∙ d.0 ∙ ap (λ (x : List ℕ). events_due (due_in_of x)) (sym back),
      ap (λ (x : List ℕ). attributes_due (due_in_of x)) h ∙ d.1 ∙ ap (λ (x : List ℕ). attributes_due (due_in_of x)) (sym back),
    )
