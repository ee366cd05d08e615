-- Misc* with each run of white space in one piece derives what plain Misc* does. Assumes nothing.
use Prim.Native.Nat.{ℕ}
use mathlib.Core.Path.{subst}
use mathlib.Core.List.{List, ◌++◌, append_assoc, append-nil}
use mathlib.Core.Bool.{Bool}
use mathlib.Core.Logic.{◌↔◌}
use Rattle.xml_sound.specs.of_xml_grammar.Grammar.{Many, no_char, a-char, chars, Space, Spaces, Miscs, last-space, misc}
use Rattle.xml_claims.specs.MiscStar.{white, other, MiscStar, no-misc, a-misc}

many-append : {is : ℕ → Bool} {s t : List ℕ} → Many is s → Many is t → Many is (s ++ t)
many-append no_char k = k
many-append (a-char e h) k = a-char e (many-append h k)

spaces_of : {s : List ℕ} → Space s → Spaces s
spaces_of (chars e h) = a-char e h

-- white space before, in one piece with what white space is first
space-before : {w m : List ℕ} → Spaces w → Miscs m → Miscs (w ++ m)
space-before h (last-space k) = last-space (many-append h k)
space-before {w = w} h (misc {w = v} {e = e} {m = m} k x r) = subst Miscs (append_assoc w v (e ++ m)) (misc (many-append h k) x r)

in_pieces : {s : List ℕ} → MiscStar s → Miscs s
in_pieces no-misc = last-space no_char
in_pieces (a-misc (white w) r) = space-before (spaces_of w) (in_pieces r)
in_pieces (a-misc (other e) r) = misc no_char e (in_pieces r)

white-before : {w m : List ℕ} → Spaces w → MiscStar m → MiscStar (w ++ m)
white-before no_char r = r
white-before (a-char e h) r = a-misc (white (chars e h)) r

plainly : {s : List ℕ} → Miscs s → MiscStar s
plainly (last-space {w = w} h) = subst MiscStar (append-nil w) (white-before h no-misc)
plainly (misc h e r) = white-before h (a-misc (other e) (plainly r))

pub misc-star : (s : List ℕ) → MiscStar s ↔ Miscs s
misc-star s = (λ h. in_pieces h, λ h. plainly h)
