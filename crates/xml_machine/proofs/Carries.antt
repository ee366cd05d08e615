-- The states that hold characters open. Assumes nothing.
use Prim.Native.Nat.{ℕ}
use mathlib.Core.Path.{◌≡◌, refl, ap, subst}
use mathlib.Core.List.{List, [], ◌∷◌, append_assoc, append-nil}
use Rattle.xml_chars.specs.Chars.{Range}
use Rattle.xml_chars.specs.Bytes.{Left, whole, part}
use Rattle.xml_chars.proofs.Encoding.{tail, Inside}
use Rattle.xml_machine.specs.State.{Brackets, Place, Host, InMisc, InRef, InTag, name, gap, slash, key, key_eq, quote, value, value_end, text, misc, section, ref, tag}
use Rattle.xml_machine.specs.Machine.{follow, step, grown}
use Rattle.xml_machine.proofs.Stays.{Stays}
use Rattle.xml_machine.proofs.Characters.{Carries, tail-stays}

pub text-carries : (k : Brackets) (n : List ℕ) (ns : List (List ℕ)) → Carries (λ bs p. text k p n ns)
unfolding step
text-carries k n ns bs cls low l least b = refl

pub section-carries : (k : Brackets) (n : List ℕ) (ns : List (List ℕ)) → Carries (λ bs p. section k p n ns)
unfolding step
section-carries k n ns bs cls low l least b = refl

pub misc-carries : (m : InMisc) (pl : Place) → Carries (λ bs p. misc m p pl)
unfolding step
misc-carries m pl bs cls low l least b = refl

pub ref-carries : (m : InRef) (h : Host) → Carries (λ bs p. ref m p h)
unfolding step
ref-carries m h bs cls low l least b = refl

pub tag-carries : (m : InTag) (n : List ℕ) (ns : List (List ℕ)) → Carries (λ bs p. tag m p (grown m n bs) ns)
unfolding step
tag-carries name n ns bs cls low l least b = ap (λ x. follow cls low l least b (λ p. tag name p x ns)) (append_assoc n bs (b ∷ []))
tag-carries gap n ns bs cls low l least b = refl
tag-carries slash n ns bs cls low l least b = refl
tag-carries key n ns bs cls low l least b = refl
tag-carries key_eq n ns bs cls low l least b = refl
tag-carries quote n ns bs cls low l least b = refl
tag-carries (value q) n ns bs cls low l least b = refl
tag-carries value_end n ns bs cls low l least b = refl

pub grown-nil : (m : InTag) (n : List ℕ) → grown m n [] ≡ n
grown-nil name n = append-nil n
grown-nil gap n = refl
grown-nil slash n = refl
grown-nil key n = refl
grown-nil key_eq n = refl
grown-nil quote n = refl
grown-nil (value q) n = refl
grown-nil value_end n = refl

-- within a tag, a character's last bytes
pub tag-tail : (m : InTag) (n : List ℕ) (ns : List (List ℕ)) (cls : List Range) (low : ℕ) (l : Left) (least d : ℕ) → Inside cls low l least d →
    Stays (tag m (part cls low l least) n ns) (tail l d) (tag m whole (grown m n (tail l d)) ns)
tag-tail m n ns cls low l least d h =
    subst (λ x. Stays (tag m (part cls low l least) x ns) (tail l d) (tag m whole (grown m n (tail l d)) ns)) (grown-nil m n)
    (tail-stays (λ bs p. tag m p (grown m n bs) ns) (tag-carries m n ns) cls least l [] low d h)
