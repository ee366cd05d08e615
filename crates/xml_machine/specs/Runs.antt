-- The control alone: runs over bytes, and its verdict. Definitions only.
use Rattle.std.specs.Prelude.{ℕ, ◌+◌, ◌-◌, List, [], ◌∷◌, Bool, true, false, cond, ◌&&◌}
use Rattle.std.proofs.Math.Option.{Option, none, some}
use Rattle.names.specs.Bytes.{bytes}
use Rattle.xml_chars.specs.Chars.{begins}
use Rattle.xml_chars.specs.Bytes.{whole, part}
use Rattle.xml_machine.specs.State.{State, fresh, marked, lt_first, heading, decl, literal, prolog, epilog, text, lt, misc, section, ref, tag, ending, end_space, bang, dash, remark0, remark1, remark2, target, named, pi_data, pi_query, pi_close, Next, no, go}
use Rattle.xml_machine.specs.Machine.{step, done}

-- the state that a step leads to
abbrev pub after : Next → (State → Option State) → Option State
after no f = none
after (go a s) f = f s

unfoldable pub run : State → List ℕ → Option State
run s [] = some s
run s (b ∷ t) = after (step s b) (λ u. run u t)

abbrev pub is_done : Option State → Bool
is_done none = false
is_done (some s) = done s

unfoldable pub accepts : List ℕ → Bool
accepts s = is_done (run fresh s)

-- behind `<!`, where `D` is refused
abbrev pub at_bang : State → Bool
at_bang fresh = false
at_bang marked = false
at_bang lt_first = false
at_bang (heading x) = false
at_bang (decl d) = false
at_bang (literal c cs g) = false
at_bang prolog = false
at_bang epilog = false
at_bang (text k p n ns) = false
at_bang (lt pl) = false
at_bang (misc bang whole pl) = true
at_bang (misc bang (part cls low l least) pl) = false
at_bang (misc dash p pl) = false
at_bang (misc remark0 p pl) = false
at_bang (misc remark1 p pl) = false
at_bang (misc remark2 p pl) = false
at_bang (misc (target x) p pl) = false
at_bang (misc named p pl) = false
at_bang (misc pi_data p pl) = false
at_bang (misc pi_query p pl) = false
at_bang (misc pi_close p pl) = false
at_bang (section k p n ns) = false
at_bang (ref m p h) = false
at_bang (tag m p n ns) = false
at_bang (ending n ns) = false
at_bang (end_space ns) = false

-- the bytes t, of which the first is refused, make `<!DOCTYPE` of what stands (rule N7)
abbrev pub is_doctype : State → List ℕ → Bool
is_doctype s t = at_bang s && begins (bytes "DOCTYPE") t

-- 18 with its byte; 19 with the byte of `<`
pub data Verdict : Type 0 where
  accepted : Verdict
  bad doctype : ℕ → Verdict

-- a refused byte at place q
abbrev pub blame : State → List ℕ → ℕ → Verdict
blame s t q = cond (is_doctype s t) (doctype (q - 2)) (bad q)

abbrev pub ahead : Next → Verdict → (State → Verdict) → Verdict
ahead no v f = v
ahead (go a u) v f = f u

unfoldable pub judge : List ℕ → State → ℕ → Verdict
judge [] s q = cond (done s) accepted (bad q)
judge (b ∷ t) s q = ahead (step s b) (blame s (b ∷ t) q) (λ u. judge t u (q + 1))

-- what the control says of a document
unfoldable pub verdict : List ℕ → Verdict
verdict s = judge s fresh 0
