-- Targets of instructions: names that are not `xml` in any letter case. Assumes nothing.
use Prim.Native.Nat.{ℕ, ◌≤◌, ◌<◌}
use mathlib.Core.Path.{◌≡◌, refl, sym, ap, ◌∙◌}
use mathlib.Core.List.{List, [], ◌∷◌}
use mathlib.Core.Bool.{Bool, true, false, ◌&&◌, false≢true, true≢false}
use native.Mathlib.Omega.{arith}
use borrow.Author.Tests.{ne_eqb, eq-eqb, eqb-true}
use lib.Dec.{eqb}
use Rattle.xml_grammar.specs.of_utf8.Characters.{encode, is_scalar}
use Rattle.xml_grammar.specs.of_xml_chars.Chars.{Range, crosses, is_in, name_start, name_char, is_space, lower}
use Rattle.xml_grammar.specs.of_xml_chars.Bytes.{whole}
use Rattle.xml_grammar.proofs.of_xml_chars.CharLaws.{start-scalar, name-scalar, lower-least}
use Rattle.xml_grammar.specs.Grammar.{Many, no_char, a-char, name_of, is_xml, Target, target-of}
use Rattle.xml_machine.specs.State as state
use Rattle.xml_machine.specs.State.{State, heading, misc, Stay, Next, Letters, x0, x1, x2, x3, Place, before, target, named, pi_data, pi_close}
use Rattle.xml_machine.specs.Machine.{char, target_end, in_target, in_misc, in_heading, step}
use Rattle.xml_machine.proofs.Stays.{Stays, takes-stays}
use Rattle.xml_machine.proofs.Characters.{char-takes}
use Rattle.xml_machine.proofs.Carries.{misc-carries}
use Rattle.xml_complete.proofs.Reading.{Reads, reads_none, reads-char, ascii-stays, many-reads}
use Rattle.xml_complete.proofs.Spaces.{space-cases}
use Rattle.xml_complete.proofs.Names.{named-char}

-- letters of `xml` stand, in an instruction or at the document's very beginning
pub data Aims : Letters → Place → State → Type 0 where
  aims : {x : Letters} {pl : Place} → Aims x pl (misc (target x) whole pl)
  heads : {x : Letters} → Aims x before (heading x)

-- the next letter of `xml`, in any case
abbrev letter : Letters → ℕ
letter x0 = 0x78
letter x1 = 0x6D
letter x2 = 0x6C
letter x3 = 0

abbrev next : Letters → Letters
next x0 = x1
next x1 = x2
next x2 = x3
next x3 = x3

-- more letters may come
data Short : Letters → Type 0 where
  short-0 : Short x0
  short-1 : Short x1
  short-2 : Short x2

letter-low : {x : Letters} → Short x → letter x < 0x80
letter-low short-0 = omega arith
letter-low short-1 = omega arith
letter-low short-2 = omega arith

lower-low : {x : Letters} → Short x → (c : ℕ) → eqb (lower c) (letter x) ≡ true → c < 0x80
lower-low {x = x} i c e =
    let p = eqb-true (lower c) (letter x) e in
    let q = lower-least c in
    let r = letter-low i in
    omega arith

-- a letter of `xml` leads to the next
letter-leads : {x : Letters} → Short x → {pl : Place} {s : State} → Aims x pl s → (c : ℕ) → eqb (lower c) (letter x) ≡ true → (u : State) × Aims (next x) pl u × (step s c ≡ state.go Stay u)
unfolding step in_misc in_target in_heading
letter-leads short-0 {pl = pl} aims c e = (misc (target x1) whole pl, aims, rw e refl)
letter-leads short-1 {pl = pl} aims c e = (misc (target x2) whole pl, aims, rw e refl)
letter-leads short-2 {pl = pl} aims c e = (misc (target x3) whole pl, aims, rw e refl)
letter-leads short-0 heads c e = by-case (eqb c 0x78) refl
  where
    by-case : (y : Bool) → eqb c 0x78 ≡ y → (u : State) × Aims x1 before u × (step (heading x0) c ≡ state.go Stay u)
    by-case true i = (heading x1, heads, rw i refl)
    by-case false i = (misc (target x1) whole before, aims, rw (i, e) refl)
letter-leads short-1 heads c e = by-case (eqb c 0x6D) refl
  where
    by-case : (y : Bool) → eqb c 0x6D ≡ y → (u : State) × Aims x2 before u × (step (heading x1) c ≡ state.go Stay u)
    by-case true i = (heading x2, heads, rw i refl)
    by-case false i = (misc (target x2) whole before, aims, rw (i, e) refl)
letter-leads short-2 heads c e = by-case (eqb c 0x6C) refl
  where
    by-case : (y : Bool) → eqb c 0x6C ≡ y → (u : State) × Aims x3 before u × (step (heading x2) c ≡ state.go Stay u)
    by-case true i = (heading x3, heads, rw i refl)
    by-case false i = (misc (target x3) whole before, aims, rw (i, e) refl)

letter-stays : {x : Letters} → Short x → {pl : Place} {s : State} → Aims x pl s → (c : ℕ) → eqb (lower c) (letter x) ≡ true → (u : State) × Aims (next x) pl u × Stays s (encode c) u
letter-stays i a c e = let p = letter-leads i a c e in (p.0, p.1, ascii-stays (lower-low i c e) p.2)

-- ---- any other character leads to a name
abbrev class : Letters → List Range
class x0 = name_start
class x1 = name_char
class x2 = name_char
class x3 = name_char

abbrev rival : Letters → Place → ℕ → Next
rival x0 pl b = state.no
rival x1 pl b = target_end pl b
rival x2 pl b = target_end pl b
rival x3 pl b = state.no

abbrev leads : Letters → ℕ → Bool
leads x0 b = eqb (lower b) 0x78
leads x1 b = eqb (lower b) 0x6D
leads x2 b = eqb (lower b) 0x6C
leads x3 b = is_space b

-- a small letter is its own
not-small : (b l : ℕ) → lower l ≡ l → eqb (lower b) l ≡ false → eqb b l ≡ false
not-small b l h e = ne_eqb b l (λ i. true≢false (sym (eq-eqb (lower b) l (ap lower i ∙ h)) ∙ e))

other-steps : {x : Letters} {pl : Place} {s : State} → Aims x pl s → (b : ℕ) → leads x b ≡ false → step s b ≡ char (class x) b Stay (λ p. misc named p pl) (rival x pl b)
unfolding step in_misc in_target in_heading lower
other-steps {x = x0} aims b e = rw e refl
other-steps {x = x1} aims b e = rw e refl
other-steps {x = x2} aims b e = rw e refl
other-steps {x = x3} aims b e = refl
other-steps {x = x0} heads b e = rw (not-small b 0x78 refl e, e) refl
other-steps {x = x1} heads b e = rw (not-small b 0x6D refl e, e) refl
other-steps {x = x2} heads b e = rw (not-small b 0x6C refl e, e) refl
other-steps {x = x3} heads b e = rw e refl

lower_high : (b l : ℕ) → 0x80 ≤ b → l < 0x80 → eqb (lower b) l ≡ false
lower_high b l h k = let p = lower-least b in ne_eqb (lower b) l (omega arith)

space-high : (b : ℕ) → 0x80 ≤ b → is_space b ≡ false
space-high b h = simp (ne_eqb b 0x20 (omega arith), ne_eqb b 0x9 (omega arith), ne_eqb b 0xD (omega arith), ne_eqb b 0xA (omega arith))

high-leads : (x : Letters) (b : ℕ) → 0xC0 ≤ b → leads x b ≡ false
high-leads x0 b h = lower_high b 0x78 (omega arith) (omega arith)
high-leads x1 b h = lower_high b 0x6D (omega arith) (omega arith)
high-leads x2 b h = lower_high b 0x6C (omega arith) (omega arith)
high-leads x3 b h = space-high b (omega arith)

class_scalars : (x : Letters) (c : ℕ) → is_in (class x) c ≡ true → is_scalar c ≡ true
class_scalars x0 c m = start-scalar c m
class_scalars x1 c m = name-scalar c m
class_scalars x2 c m = name-scalar c m
class_scalars x3 c m = name-scalar c m

other-stays : {x : Letters} {pl : Place} {s : State} → Aims x pl s → (c : ℕ) → is_in (class x) c ≡ true → leads x c ≡ false → Stays s (encode c) (misc named whole pl)
other-stays {x = x} {pl = pl} {s = s} a c m e =
    takes-stays
    (char-takes s (λ bs p. misc named p pl) (misc-carries named pl) (class x) Stay (rival x pl) c
    (λ h. other-steps a c e) (λ b h. other-steps a b (high-leads x b h)) m (class_scalars x c m))

-- ---- a target, letter by letter
-- where a target may end
pub data Ended : Place → State → Type 0 where
  one-letter : {pl : Place} {s : State} → Aims x1 pl s → Ended pl s
  two-letters : {pl : Place} {s : State} → Aims x2 pl s → Ended pl s
  a-name : {pl : Place} → Ended pl (misc named whole pl)

-- s is what is missing of `xml`, in any case
abbrev spells : List ℕ → List ℕ → Bool
spells [] [] = true
spells [] (b ∷ s) = false
spells (a ∷ x) [] = false
spells (a ∷ x) (b ∷ s) = eqb (lower b) a && spells x s

abbrev Through : Place → State → List ℕ → Type 0
Through pl s r = (u : State) × Ended pl u × Reads s r u

named-through : {pl : Place} {s : State} {c : ℕ} {r : List ℕ} → Stays s (encode c) (misc named whole pl) → Many (is_in name_char) r → Through pl s (c ∷ r)
named-through {pl = pl} h i = (misc named whole pl, a-name, reads-char h (many-reads (named-char pl) i))

no-space : (c : ℕ) → is_in name_char c ≡ true → is_space c ≡ false
unfolding crosses
no-space c m = by-test (is_space c) refl
  where
    by-test : (x : Bool) → is_space c ≡ x → x ≡ false
    by-test true e = absurd (false≢true (sym (space-cases (λ c. is_in name_char c ≡ false) refl refl refl refl c e) ∙ m))
    by-test false e = refl

from-3 : {pl : Place} {s : State} → Aims x3 pl s → {r : List ℕ} → Many (is_in name_char) r → spells [] r ≡ false → Through pl s r
from-3 a no_char e = absurd (true≢false e)
from-3 a (a-char {c = c} m h) e = named-through (other-stays a c m (no-space c m)) h

from-2 : {pl : Place} {s : State} → Aims x2 pl s → {r : List ℕ} → Many (is_in name_char) r → spells (0x6C ∷ []) r ≡ false → Through pl s r
from-2 {s = s} a no_char e = (s, two-letters a, reads_none)
from-2 {pl = pl} {s = s} a (a-char {c = c} {s = r} m h) e = by-letter (eqb (lower c) 0x6C) refl
  where
    by-letter : (y : Bool) → eqb (lower c) 0x6C ≡ y → Through pl s (c ∷ r)
    by-letter true i =
        let p = letter-stays short-2 a c i in
        let q = from-3 p.1 h (rw i at e) in
        (q.0, q.1, reads-char p.2 q.2)
    by-letter false i = named-through (other-stays a c m i) h

from-1 : {pl : Place} {s : State} → Aims x1 pl s → {r : List ℕ} → Many (is_in name_char) r → spells (0x6D ∷ 0x6C ∷ []) r ≡ false → Through pl s r
from-1 {s = s} a no_char e = (s, one-letter a, reads_none)
from-1 {pl = pl} {s = s} a (a-char {c = c} {s = r} m h) e = by-letter (eqb (lower c) 0x6D) refl
  where
    by-letter : (y : Bool) → eqb (lower c) 0x6D ≡ y → Through pl s (c ∷ r)
    by-letter true i =
        let p = letter-stays short-1 a c i in
        let q = from-2 p.1 h (rw i at e) in
        (q.0, q.1, reads-char p.2 q.2)
    by-letter false i = named-through (other-stays a c m i) h

and-false : (x : Bool) → (x && false) ≡ false
and-false true = refl
and-false false = refl

and-true : (x : Bool) → (x && true) ≡ x
and-true true = refl
and-true false = refl

spells-xml : (s : List ℕ) → is_xml s ≡ false → spells (0x78 ∷ 0x6D ∷ 0x6C ∷ []) s ≡ false
spells-xml [] e = refl
spells-xml (a ∷ []) e = and-false (eqb (lower a) 0x78)
spells-xml (a ∷ b ∷ []) e = rw (and-false (eqb (lower b) 0x6D)) (and-false (eqb (lower a) 0x78))
spells-xml (a ∷ b ∷ c ∷ []) e = rw (and-true (eqb (lower c) 0x6C)) e
spells-xml (a ∷ b ∷ c ∷ d ∷ s) e = rw (and-false (eqb (lower c) 0x6C), and-false (eqb (lower b) 0x6D)) (and-false (eqb (lower a) 0x78))

pub target-reads : {n : List ℕ} → Target n → {pl : Place} {s : State} → Aims x0 pl s → Through pl s n
target-reads (target-of (name_of {c = c} {s = r} m h) x) {pl = pl} {s = s} a = by-letter (eqb (lower c) 0x78) refl
  where
    by-letter : (y : Bool) → eqb (lower c) 0x78 ≡ y → Through pl s (c ∷ r)
    by-letter true i =
        let p = letter-stays short-0 a c i in
        let q = from-1 p.1 h (rw i at (spells-xml (c ∷ r) x)) in
        (q.0, q.1, reads-char p.2 q.2)
    by-letter false i = named-through (other-stays a c m i) h

-- ---- behind a target
pub ended-space : {pl : Place} {s : State} → Ended pl s → (c : ℕ) → is_space c ≡ true → step s c ≡ state.go Stay (misc pi_data whole pl)
unfolding step in_misc in_target in_heading char crosses lower
ended-space {pl = pl} (one-letter aims) c e = space-cases (λ c. step (misc (target x1) whole pl) c ≡ state.go Stay (misc pi_data whole pl)) refl refl refl refl c e
ended-space (one-letter heads) c e = space-cases (λ c. step (heading x1) c ≡ state.go Stay (misc pi_data whole before)) refl refl refl refl c e
ended-space {pl = pl} (two-letters aims) c e = space-cases (λ c. step (misc (target x2) whole pl) c ≡ state.go Stay (misc pi_data whole pl)) refl refl refl refl c e
ended-space (two-letters heads) c e = space-cases (λ c. step (heading x2) c ≡ state.go Stay (misc pi_data whole before)) refl refl refl refl c e
ended-space {pl = pl} a-name c e = space-cases (λ c. step (misc named whole pl) c ≡ state.go Stay (misc pi_data whole pl)) refl refl refl refl c e

pub ended-query : {pl : Place} {s : State} → Ended pl s → step s 0x3F ≡ state.go Stay (misc pi_close whole pl)
unfolding step in_misc in_target in_heading char crosses lower
ended-query (one-letter aims) = refl
ended-query (one-letter heads) = refl
ended-query (two-letters aims) = refl
ended-query (two-letters heads) = refl
ended-query a-name = refl
