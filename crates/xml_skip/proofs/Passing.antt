-- Bytes that change nothing but the place. Assumes nothing.
use Prim.Native.Nat.{ℕ, ◌+◌, ◌<◌}
use mathlib.Core.Path.{◌≡◌, refl, sym, ap, subst, ◌∙◌}
use mathlib.Core.List.{List}
use native.Mathlib.Omega.{arith}
use lib.ListN.{length, get_or}
use Rattle.xml_checks.specs.of_xml_state.declared.Move.{Move}
use Rattle.xml_checks.specs.of_xml_state.declared.State.{State as Registers}
use Rattle.xml_checks.specs.of_xml_state.inside.Rows as row
use Rattle.xml_checks.specs.of_xml_state.inside.Registers.{in_mode}
use Rattle.xml_agree.proofs.Whole.{agrees}
use Rattle.xml_records.specs.inside.Loop.{At}
use Rattle.xml_records.proofs.Loop.{stay-on}
use Rattle.xml_skip.specs.inside.Passes.{Passes}

pub pass-none : (src : List ℕ) (mode at : ℕ) → Passes src mode at at
pass-none src mode at words wide st events attributes e a = a

pub pass-nothing : (src : List ℕ) (mode at : ℕ) → Passes src mode at (at + 0)
pass-nothing src mode at words wide st events attributes e a = let z : at + 0 ≡ at = omega arith in rw z a

pub pass-byte : {src : List ℕ} {mode start at : ℕ} → Passes src mode start at → at < length src → (mv : Move) → mv ≡ row.move_of mode (get_or src at 0) → mv.act ≡ row.stay → mv.mode ≡ mode →
    Passes src mode start (at + 1)
pass-byte {src} {mode} {start} {at} p here mv e s k words wide st events attributes same a =
    let b : At src words wide at st events attributes = p words wide st events attributes same a in
    subst (λ (z : ℕ). At src words wide (at + 1) (in_mode z st) events attributes) (k ∙ sym same)
    (stay-on b (agrees here b.stands.rep) here mv (e ∙ ap (λ (z : ℕ). row.move_of z (get_or src at 0)) (sym same)) s)

pub passed : {src : List ℕ} {start end words wide : ℕ} {st : Registers} {events attributes : List ℕ} → Passes src st.mode start end → At src words wide start st events attributes →
    At src words wide end st events attributes
passed {words = words} {wide} {st} {events} {attributes} p a = p words wide st events attributes refl a

pub pass-then : {src : List ℕ} {mode start at end : ℕ} → Passes src mode start at → Passes src mode at end → Passes src mode start end
pass-then p q words wide st events attributes same a = q words wide st events attributes same (p words wide st events attributes same a)
