-- What each state still has to read, in the grammar's words. Assumes nothing.
use Prim.Native.Nat.{ℕ}
use mathlib.Core.Path.{◌≡◌}
use mathlib.Core.List.{List, [], ◌∷◌, ◌++◌}
use mathlib.Core.Bool.{true}
use Rattle.xml_grammar.specs.of_xml_chars.Chars.{Range, is_in, name_char}
use Rattle.xml_grammar.specs.of_xml_chars.Bytes.{utf8, Left, Part, whole, part}
use Rattle.xml_grammar.proofs.of_xml_chars.Encoding.{tail, Inside}
use Rattle.xml_grammar.specs.Grammar.{Many, Spaces, Attributes, Miscs, Element, Prolog}
use Rattle.xml_grammar.specs.Documents.{Mark}
use Rattle.xml_machine.specs.State.{State, fresh, marked, lt_first, heading, decl, literal, prolog, epilog, text, lt, misc, section, ref, tag, ending, end_space, Brackets, b0, Place, before, after, inside, Host, content, attribute}
use Rattle.xml_machine.specs.State.{Goal, to_marked, to_section, to_equals, to_point, to_chosen, InDecl, opening, equals, quoting, point, digit, letters, choice, chosen, valued, between, InTag, name, gap, slash, key, key_eq, quote, value, value_end}
use Rattle.xml_machine.specs.Machine.{grown}
use Rattle.xml_sound.proofs.Then.{Then}
use Rattle.xml_sound.proofs.Parts.{ascii, Closed, Spaced, RefRest, Markup, MiscRest, SectionRest, Inner, Quoting, Equals, ValueRest, KeyRest, DeclRest, HeadingRest}

-- ---- outside the root
abbrev pub AtEnd : List ℕ → Type 0
AtEnd t = t ≡ []

abbrev pub AtEpilog : List ℕ → Type 0
AtEpilog t = Then Miscs AtEnd t

abbrev pub AtRoot : List ℕ → Type 0
AtRoot t = Then Element AtEpilog t

abbrev pub AtProlog : List ℕ → Type 0
AtProlog t = Then Miscs AtRoot t

abbrev pub AtFirst : List ℕ → Type 0
AtFirst t = Then Prolog AtRoot t

-- where a byte-order mark may stand
pub data AtStart (t : List ℕ) : Type 0 where
  at-start : (front u : List ℕ) → Mark front → t ≡ front ++ u → AtFirst u → AtStart t

-- ---- content
-- these bytes, and then R
pub data Spelt (x : List ℕ) (R : List ℕ → Type 0) (t : List ℕ) : Type 0 where
  spelt : (u : List ℕ) → t ≡ x ++ u → R u → Spelt x R t

-- the rest of an end tag behind the name; from within the name, of which the bytes n are to come
abbrev pub EndRest : (List ℕ → Type 0) → List ℕ → Type 0
EndRest R t = Then (Closed Spaces (0x3E ∷ [])) R t

abbrev pub Ending : List ℕ → (List ℕ → Type 0) → List ℕ → Type 0
Ending n R t = Spelt n (EndRest R) t

-- content, an end tag named n, and then R
abbrev pub InText : Brackets → List ℕ → (List ℕ → Type 0) → List ℕ → Type 0
InText k n R t = Then (Inner k) (Spelt (0x3C ∷ 0x2F ∷ []) (Ending n R)) t

-- what follows an element where the names ns are open
abbrev pub Shut : List (List ℕ) → List ℕ → Type 0
Shut [] t = AtEpilog t
Shut (n ∷ ns) t = InText b0 n (Shut ns) t

-- what follows a comment or an instruction
abbrev pub Follow : Place → List ℕ → Type 0
Follow before t = AtProlog t
Follow after t = AtEpilog t
Follow (inside n ns) t = Shut (n ∷ ns) t

-- an element whose `<` stands, and then R
abbrev pub Opened : (List ℕ → Type 0) → List ℕ → Type 0
Opened R t = Then (λ s. Element (0x3C ∷ s)) R t

pub data AtLt : Place → List ℕ → Type 0 where
  beside-it : {pl : Place} {t : List ℕ} → Then (λ s. Markup pl (0x3C ∷ s)) (Follow pl) t → AtLt pl t
  the-root : {t : List ℕ} → Opened AtEpilog t → AtLt before t
  a-child : {n : List ℕ} {ns : List (List ℕ)} {t : List ℕ} → Opened (Shut (n ∷ ns)) t → AtLt (inside n ns) t
  an-end : {n : List ℕ} {ns : List (List ℕ)} {t : List ℕ} → Spelt (0x2F ∷ []) (Ending n (Shut ns)) t → AtLt (inside n ns) t

pub data AtFirstLt (t : List ℕ) : Type 0 where
  first-prolog : Then (λ s. Prolog (0x3C ∷ s)) AtRoot t → AtFirstLt t
  first-root : Opened AtEpilog t → AtFirstLt t

-- ---- tags
-- behind the attributes of a tag named n
pub data Body (n : List ℕ) (R : List ℕ → Type 0) (t : List ℕ) : Type 0 where
  alone : Spelt (0x2F ∷ 0x3E ∷ []) R t → Body n R t
  open-tag : Spelt (0x3E ∷ []) (InText b0 n R) t → Body n R t

-- within a tag's name, of which the bytes n stand
pub data InName (n : List ℕ) (R : List ℕ → Type 0) (t : List ℕ) : Type 0 where
  in-name : (s u : List ℕ) → Many (is_in name_char) s → t ≡ utf8 s ++ u → Then Attributes (Body (n ++ utf8 s) R) u → InName n R t

abbrev pub TagRest : InTag → List ℕ → (List ℕ → Type 0) → List ℕ → Type 0
TagRest name n R t = InName n R t
TagRest gap n R t = Then (Spaced Attributes) (Body n R) t
TagRest slash n R t = Spelt (0x3E ∷ []) R t
TagRest key n R t = Then KeyRest (Body n R) t
TagRest key_eq n R t = Then (Equals ValueRest) (Body n R) t
TagRest quote n R t = Then (Quoting ValueRest) (Body n R) t
TagRest (value q) n R t = Then (ValueRest q) (Body n R) t
TagRest value_end n R t = Then Attributes (Body n R) t

-- what follows a reference
abbrev pub HostRest : Host → List ℕ → Type 0
HostRest (content n ns) t = Shut (n ∷ ns) t
HostRest (attribute q n ns) t = TagRest (value q) n (Shut ns) t

-- letters that are to come are ASCII, or nothing is said
abbrev pub AtDecl : InDecl → List ℕ → Type 0
AtDecl opening t = Then (DeclRest opening) AtProlog t
AtDecl (equals i) t = Then (DeclRest (equals i)) AtProlog t
AtDecl (quoting i) t = Then (DeclRest (quoting i)) AtProlog t
AtDecl (point q) t = Then (DeclRest (point q)) AtProlog t
AtDecl (digit q) t = Then (DeclRest (digit q)) AtProlog t
AtDecl (letters q cs) t = ascii cs ≡ true → Then (DeclRest (letters q cs)) AtProlog t
AtDecl (choice q) t = Then (DeclRest (choice q)) AtProlog t
AtDecl (chosen q) t = Then (DeclRest (chosen q)) AtProlog t
AtDecl (valued i) t = Then (DeclRest (valued i)) AtProlog t
AtDecl (between i) t = Then (DeclRest (between i)) AtProlog t

-- what follows fixed bytes
abbrev pub GoalRest : Goal → List ℕ → Type 0
GoalRest to_marked t = AtFirst t
GoalRest (to_section n ns) t = Then (SectionRest b0) (Shut (n ∷ ns)) t
GoalRest (to_equals i) t = Then (DeclRest (equals i)) AtProlog t
GoalRest (to_point q) t = Then (DeclRest (point q)) AtProlog t
GoalRest (to_chosen q) t = Then (DeclRest (chosen q)) AtProlog t

-- ---- characters of which some bytes stand
-- the last bytes of a character, and then F of them
abbrev pub Rem : List Range → ℕ → Left → ℕ → (List ℕ → List ℕ → Type 0) → List ℕ → Type 0
Rem cls low l least F t = (d : ℕ) × (v : List ℕ) × Inside cls low l least d × (t ≡ tail l d ++ v) × F (tail l d) v

abbrev pub Held : Part → (List ℕ → Type 0) → List ℕ → Type 0
Held whole F t = F t
Held (part cls low l least) F t = Rem cls low l least (λ bs. F) t

-- ---- the states
abbrev pub Rest : State → List ℕ → Type 0
Rest fresh t = AtStart t
Rest marked t = AtFirst t
Rest lt_first t = AtFirstLt t
Rest (heading x) t = Then (HeadingRest x) AtRoot t
Rest (decl d) t = AtDecl d t
Rest (literal c cs g) t = Spelt (c ∷ cs) (GoalRest g) t
Rest prolog t = AtProlog t
Rest epilog t = AtEpilog t
Rest (text k p n ns) t = Held p (InText k n (Shut ns)) t
Rest (lt pl) t = AtLt pl t
Rest (misc m p pl) t = Held p (Then (MiscRest m pl) (Follow pl)) t
Rest (section k p n ns) t = Held p (Then (SectionRest k) (Shut (n ∷ ns))) t
Rest (ref m p h) t = Held p (Then (RefRest m) (HostRest h)) t
Rest (tag m whole n ns) t = TagRest m n (Shut ns) t
Rest (tag m (part cls low l least) n ns) t = Rem cls low l least (λ bs v. TagRest m (grown m n bs) (Shut ns) v) t
Rest (ending n ns) t = Ending n (Shut ns) t
Rest (end_space ns) t = EndRest (Shut ns) t
