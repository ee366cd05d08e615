-- Letters of an end tag's name, which change nothing but the place until the last. Assumes nothing.
use Prim.Native.Nat.{ℕ, ◌+◌, ◌-◌, ◌<◌}
use mathlib.Core.Path.{◌≡◌, refl, sym, ap, ◌∙◌}
use mathlib.Core.List.{List}
use native.Mathlib.Omega.{arith}
use borrow.Author.Tests.{lt-ltb, eq-eqb}
use lib.ListN.{length, get_or}
use Rattle.xml_checks.specs.of_xml_state.declared.State.{State as Registers}
use Rattle.xml_checks.specs.of_xml_state.declared.Step.{Step}
use Rattle.xml_checks.specs.of_xml_state.declared.Step.TheVariants.{Go}
use Rattle.xml_checks.specs.of_xml_state.inside.Rows as row
use Rattle.xml_checks.specs.of_xml_state.inside.Acts.{wanted_of, acted_of}
use Rattle.xml_checks.specs.of_xml_state.inside.Puts.{turned, act_on}
use Rattle.xml_agree.proofs.Whole.{agrees}
use Rattle.xml_records.specs.inside.Loop.{At}
use Rattle.xml_records.proofs.Loop.{go_on}
use Rattle.xml_skip.specs.inside.Passes.{Keeps}

pub keep-none : (src : List ℕ) (st : Registers) (at : ℕ) → Keeps src st at at
keep-none src st at words wide events attributes a = a

pub kept : {src : List ℕ} {start end words wide : ℕ} {st : Registers} {events attributes : List ℕ} → Keeps src st start end → At src words wide start st events attributes →
    At src words wide end st events attributes
kept {words = words} {wide} {events = events} {attributes} p a = p words wide events attributes a

name-move : (b : ℕ) → row.move_of row.end_name b ≡ row.to row.end_name row.wanted
unfolding row.move_of row.all_rows
name-move b = refl

letter-same : (st : Registers) (b at : ℕ) (src : List ℕ) → b ≡ get_or src (st.name + (at - st.mark)) 0 → at - st.mark + 1 < st.long → wanted_of st b at src ≡ Go st
unfolding wanted_of
letter-same st b at src e h = simp (eq-eqb _ _ e, lt-ltb _ _ h) refl

letter-turns : (st : Registers) (b at : ℕ) (src events attributes : List ℕ) → b ≡ get_or src (st.name + (at - st.mark)) 0 → at - st.mark + 1 < st.long →
    turned (Go st) events attributes ≡ act_on st (row.to row.end_name row.wanted) b at src events attributes
unfolding act_on acted_of
letter-turns st b at src events attributes e h = ap (λ (s : Step). turned s events attributes) (sym (letter-same st b at src e h))

pub keep-letter : {src : List ℕ} {st : Registers} {start at : ℕ} → Keeps src st start at → at < length src → st.mode ≡ row.end_name →
    (i : ℕ) → get_or src at 0 ≡ get_or src i 0 → i ≡ st.name + (at - st.mark) → at - st.mark + 1 < st.long → Keeps src st start (at + 1)
keep-letter {src} {st} {start} {at} p here m i e f h words wide events attributes a =
    let b : At src words wide at st events attributes = p words wide events attributes a in
    go_on b (agrees here b.stands.rep) here (row.to row.end_name row.wanted) (sym (ap (λ (z : ℕ). row.move_of z (get_or src at 0)) m ∙ name-move (get_or src at 0)))
    (λ z. let w : ◌≡◌ {A = ℕ} 0x78 0x2E = z in omega (arith, w)) (Go st) events attributes
    (letter-turns st (get_or src at 0) at src events attributes (e ∙ ap (λ (n : ℕ). get_or src n 0) f) h) refl refl st refl
