-- Names: of tags, keys and entities. Assumes nothing.
use Prim.Native.Nat.{ℕ}
use mathlib.Core.Path.{◌≡◌, refl, sym, subst}
use mathlib.Core.List.{List, [], ◌∷◌, ◌++◌, append_assoc, append-nil}
use mathlib.Core.Bool.{true, cond, false≢true}
use native.Mathlib.Omega.{arith}
use borrow.Author.Tests.{ne_eqb}
use lib.Dec.{eqb}
use Rattle.xml_grammar.specs.of_utf8.Characters.{encode, is_scalar}
use Rattle.xml_grammar.specs.of_xml_chars.Chars.{Range, crosses, is_in, name_start, name_char}
use Rattle.xml_grammar.specs.of_xml_chars.Bytes.{utf8, Part, whole}
use Rattle.xml_grammar.proofs.of_xml_chars.CharLaws.{start-scalar, name-scalar}
use Rattle.xml_grammar.specs.Grammar.{Many, no_char, a-char, Name, name_of}
use Rattle.xml_machine.specs.State as state
use Rattle.xml_machine.specs.State.{State, lt_first, lt, misc, ref, tag, Act, Stay, Here, Next, Place, before, inside, Host, named, ampersand, ref_name, name, gap, key, key_eq, quote}
use Rattle.xml_machine.specs.Machine.{char, only, spaced, target_end, opens_misc, ref_end, in_misc, in_ref, behind, in_tag, in_lt, step}
use Rattle.xml_machine.proofs.Stays.{Stays, there, Takes, stays_then, takes-then, takes-stays}
use Rattle.xml_machine.proofs.Characters.{Carries, char-takes}
use Rattle.xml_machine.proofs.Carries.{misc-carries, ref-carries, tag-carries}
use Rattle.xml_complete.proofs.Reading.{Reads, many-reads, reads-char}

-- a state that takes characters of a class, whatever their first byte
pub class-takes : (s : State) (g : List ℕ → Part → State) → Carries g → (cls : List Range) (act : Act) (other : ℕ → Next) →
    ((b : ℕ) → step s b ≡ char cls b act (λ p. g (b ∷ []) p) (other b)) → (c : ℕ) → is_in cls c ≡ true → is_scalar c ≡ true → Takes act s (encode c) (g (encode c) whole)
class-takes s g carries cls act other f c m r = char-takes s g carries cls act other c (λ h. f c) (λ b i. f b) m r

-- ---- keys
key-takes : (n : List ℕ) (ns : List (List ℕ)) (b : ℕ) →
    step (tag key whole n ns) b ≡ char name_char b Stay (λ p. tag key p n ns) (spaced b state.Key (tag key_eq whole n ns) (only 0x3D b state.Key (tag quote whole n ns)))
unfolding step in_tag
key-takes n ns b = refl

key-char : (n : List ℕ) (ns : List (List ℕ)) (c : ℕ) → is_in name_char c ≡ true → Stays (tag key whole n ns) (encode c) (tag key whole n ns)
key-char n ns c m = takes-stays (class-takes (tag key whole n ns) (λ bs p. tag key p n ns) (tag-carries key n ns) name_char Stay _ (key-takes n ns) c m (name-scalar c m))

gap-takes : (n : List ℕ) (ns : List (List ℕ)) (b : ℕ) → step (tag gap whole n ns) b ≡ char name_start b Here (λ p. tag key p n ns) (behind Stay state.Start n ns b)
unfolding step in_tag
gap-takes n ns b = refl

-- a key begins behind white space
pub key_here : {k : List ℕ} → Name k → (n : List ℕ) (ns : List (List ℕ)) → Takes Here (tag gap whole n ns) (utf8 k) (tag key whole n ns)
key_here (name_of {c = c} m h) n ns =
    takes-then (class-takes (tag gap whole n ns) (λ bs p. tag key p n ns) (tag-carries key n ns) name_start Here _ (gap-takes n ns) c m (start-scalar c m))
    (many-reads (key-char n ns) h).stays

-- ---- tags
name-takes : (n : List ℕ) (ns : List (List ℕ)) (b : ℕ) → step (tag name whole n ns) b ≡ char name_char b Stay (λ p. tag name p (n ++ (b ∷ [])) ns) (behind state.Name state.NameStart n ns b)
unfolding step in_tag
name-takes n ns b = refl

name-stays : {cs : List ℕ} → Many (is_in name_char) cs → (n : List ℕ) (ns : List (List ℕ)) → Stays (tag name whole n ns) (utf8 cs) (tag name whole (n ++ utf8 cs) ns)
name-stays no_char n ns = subst (λ z. Stays (tag name whole n ns) [] (tag name whole z ns)) (sym (append-nil n)) there
name-stays (a-char {c = c} {s = s} m h) n ns =
    stays_then
    (takes-stays (class-takes (tag name whole n ns) (λ bs p. tag name p (n ++ bs) ns) (tag-carries name n ns) name_char Stay _ (name-takes n ns) c m (name-scalar c m)))
    (subst (λ z. Stays (tag name whole (n ++ encode c) ns) (utf8 s) (tag name whole z ns)) (append_assoc n (encode c) (utf8 s)) (name-stays h (n ++ encode c) ns))

-- behind `<`, where an element may begin: the names that are open
pub data Begins : State → List (List ℕ) → Type 0 where
  at_first : Begins lt_first []
  at-root : Begins (lt before) []
  within : {n : List ℕ} {ns : List (List ℕ)} → Begins (lt (inside n ns)) (n ∷ ns)

abbrev rival : {v : State} {ns : List (List ℕ)} → Begins v ns → ℕ → Next
rival at_first b = opens_misc before b
rival at-root b = opens_misc before b
rival (within {n = n} {ns = ns}) b = cond (eqb b 0x2F) (state.go state.Mark (state.ending n ns)) (opens_misc (inside n ns) b)

begins-takes : {v : State} {ns : List (List ℕ)} (o : Begins v ns) (b : ℕ) → ¬ (b ≡ 0x3F) → step v b ≡ char name_start b Here (λ p. tag name p (b ∷ []) ns) (rival o b)
unfolding step in_lt
begins-takes at_first b h = rw (ne_eqb b 0x3F h) refl
begins-takes at-root b h = refl
begins-takes within b h = refl

no-query : (c : ℕ) → is_in name_start c ≡ true → ¬ (c ≡ 0x3F)
unfolding crosses
no-query c m e = false≢true (rw e at m)

-- an element's name begins behind `<`
pub name-here : {v : State} {ns : List (List ℕ)} → Begins v ns → {n : List ℕ} → Name n → Takes Here v (utf8 n) (tag name whole (utf8 n) ns)
name-here {v = v} {ns = ns} o (name_of {c = c} m h) =
    takes-then
    (char-takes v (λ bs p. tag name p bs ns) (tag-carries name [] ns) name_start Here (rival o) c (λ i. begins-takes o c (no-query c m)) (λ b i. begins-takes o b (omega arith)) m (start-scalar c m))
    (name-stays h (encode c) ns)

-- ---- entities
entity-takes : (h : Host) (b : ℕ) → step (ref ref_name whole h) b ≡ char name_char b Stay (λ p. ref ref_name p h) (cond (eqb b 0x3B) (ref_end h) state.no)
unfolding step in_ref
entity-takes h b = refl

entity-char : (h : Host) (c : ℕ) → is_in name_char c ≡ true → Stays (ref ref_name whole h) (encode c) (ref ref_name whole h)
entity-char h c m = takes-stays (class-takes (ref ref_name whole h) (λ bs p. ref ref_name p h) (ref-carries ref_name h) name_char Stay _ (entity-takes h) c m (name-scalar c m))

ampersand-takes : (h : Host) (b : ℕ) → step (ref ampersand whole h) b ≡ char name_start b Stay (λ p. ref ref_name p h) (only 0x23 b Stay (ref state.hash whole h))
unfolding step in_ref
ampersand-takes h b = refl

pub entity-reads : {n : List ℕ} → Name n → (h : Host) → Reads (ref ampersand whole h) n (ref ref_name whole h)
entity-reads (name_of {c = c} m i) h =
    reads-char (takes-stays (class-takes (ref ampersand whole h) (λ bs p. ref ref_name p h) (ref-carries ref_name h) name_start Stay _ (ampersand-takes h) c m (start-scalar c m)))
    (many-reads (entity-char h) i)

-- ---- targets
named-takes : (pl : Place) (b : ℕ) → step (misc named whole pl) b ≡ char name_char b Stay (λ p. misc named p pl) (target_end pl b)
unfolding step in_misc
named-takes pl b = refl

pub named-char : (pl : Place) (c : ℕ) → is_in name_char c ≡ true → Stays (misc named whole pl) (encode c) (misc named whole pl)
named-char pl c m = takes-stays (class-takes (misc named whole pl) (λ bs p. misc named p pl) (misc-carries named pl) name_char Stay _ (named-takes pl) c m (name-scalar c m))
