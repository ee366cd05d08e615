-- What is left of a production behind its first characters, over characters. Assumes nothing.
use Prim.Native.Nat.{ℕ}
use mathlib.Core.Path.{◌≡◌}
use mathlib.Core.List.{List, [], ◌∷◌, ◌++◌, map}
use mathlib.Core.Bool.{Bool, true, ◌&&◌}
use lib.Dec.{ltb, eqb}
use Rattle.xml_grammar.specs.of_names.Bytes.{bytes}
use Rattle.xml_grammar.specs.of_xml_chars.Chars.{is_in, any_char, name_char, is_space, is_digit, is_hex, lower, Quote, mark}
use Rattle.xml_grammar.specs.Grammar.{Many, lacks, Spaces, Referred, Value, Attributes, in_data_of, Remark, Misc, Beside, Element, Content, Declares, Maybe, Version, Encoding, Standalone, Prolog}
use Rattle.xml_machine.specs.State.{Brackets, b0, b1, b2, Letters, x0, x1, x2, x3, Place, before, after, inside, InMisc, bang, dash, remark0, remark1, remark2, target, named, pi_data, pi_query, pi_close, InRef, ampersand, ref_name, hash, digits, hash_x, hexes}
use Rattle.xml_machine.specs.State.{Item, version, encoding, standalone, InDecl, opening, equals, quoting, point, digit, letters, choice, chosen, valued, between}

abbrev pub ascii : List ℕ → Bool
ascii [] = true
ascii (b ∷ x) = ltb b 0x80 && ascii x

-- P, and what closes it
pub data Closed (P : List ℕ → Type 0) (x : List ℕ) : List ℕ → Type 0 where
  closed : {s : List ℕ} → P s → Closed P x (s ++ x)

-- P behind a character of white space, whichever it is
abbrev pub Spaced : (List ℕ → Type 0) → List ℕ → Type 0
Spaced P s = (c : ℕ) → is_space c ≡ true → P (c ∷ s)

-- ---- references
abbrev pub RefRest : InRef → List ℕ → Type 0
RefRest ampersand s = Closed Referred (0x3B ∷ []) s
RefRest ref_name s = Closed (Many (is_in name_char)) (0x3B ∷ []) s
RefRest hash s = Closed Referred (0x3B ∷ []) (0x23 ∷ s)
RefRest digits s = Closed (Many is_digit) (0x3B ∷ []) s
RefRest hash_x s = Closed Referred (0x3B ∷ []) (0x23 ∷ 0x78 ∷ s)
RefRest hexes s = Closed (Many is_hex) (0x3B ∷ []) s

-- ---- comments and instructions
-- the data of an instruction
pub data Datum : List ℕ → Type 0 where
  datum : {s : List ℕ} → Many (is_in any_char) s → lacks (bytes "?>") s ≡ true → Datum s

-- behind a `?` in it
pub data Asked : List ℕ → Type 0 where
  ask-ends : Asked (0x3E ∷ [])
  ask_goes : {s : List ℕ} → Many (is_in any_char) s → lacks (bytes "?>") (0x3F ∷ s) ≡ true → Asked (s ++ (0x3F ∷ 0x3E ∷ []))

-- within a target that isn't `xml`
pub data Named : List ℕ → Type 0 where
  bare-end : {n : List ℕ} → Many (is_in name_char) n → Named (n ++ (0x3F ∷ 0x3E ∷ []))
  data-end : {n s : List ℕ} (c : ℕ) → Many (is_in name_char) n → is_space c ≡ true → Many (is_in any_char) s → lacks (bytes "?>") s ≡ true →
      Named (n ++ (c ∷ (s ++ (0x3F ∷ 0x3E ∷ []))))

-- `<?`, and letters of `xml` in any case
abbrev pub TargetRest : Letters → List ℕ → Type 0
TargetRest x0 s = Misc (0x3C ∷ 0x3F ∷ s)
TargetRest x1 s = (a : ℕ) → eqb (lower a) 0x78 ≡ true → Misc (0x3C ∷ 0x3F ∷ a ∷ s)
TargetRest x2 s = (a b : ℕ) → eqb (lower a) 0x78 ≡ true → eqb (lower b) 0x6D ≡ true → Misc (0x3C ∷ 0x3F ∷ a ∷ b ∷ s)
TargetRest x3 s = (a b c : ℕ) → eqb (lower a) 0x78 ≡ true → eqb (lower b) 0x6D ≡ true → eqb (lower c) 0x6C ≡ true → Misc (0x3C ∷ 0x3F ∷ a ∷ b ∷ c ∷ s)

-- what `<!` and `<?` may begin
abbrev pub Markup : Place → List ℕ → Type 0
Markup before s = Misc s
Markup after s = Misc s
Markup (inside n ns) s = Beside s

abbrev pub MiscRest : InMisc → Place → List ℕ → Type 0
MiscRest bang pl s = Markup pl (0x3C ∷ 0x21 ∷ s)
MiscRest dash pl s = Misc (0x3C ∷ 0x21 ∷ 0x2D ∷ s)
MiscRest remark0 pl s = Closed Remark (0x2D ∷ 0x2D ∷ 0x3E ∷ []) s
MiscRest remark1 pl s = Closed Remark (0x2D ∷ 0x2D ∷ 0x3E ∷ []) (0x2D ∷ s)
MiscRest remark2 pl s = Closed Remark (0x2D ∷ 0x2D ∷ 0x3E ∷ []) (0x2D ∷ 0x2D ∷ s)
MiscRest (target x) pl s = TargetRest x s
MiscRest named pl s = Named s
MiscRest pi_data pl s = Closed Datum (0x3F ∷ 0x3E ∷ []) s
MiscRest pi_query pl s = Asked s
MiscRest pi_close pl s = s ≡ 0x3E ∷ []

-- ---- sections
abbrev pub standing : Brackets → List ℕ
standing b0 = []
standing b1 = 0x5D ∷ []
standing b2 = 0x5D ∷ 0x5D ∷ []

-- behind some brackets, which may be the first of `]]>`
pub data SectionRest : Brackets → List ℕ → Type 0 where
  goes_on : {k : Brackets} {s : List ℕ} → Many (is_in any_char) s → lacks (bytes "]]>") (standing k ++ s) ≡ true → SectionRest k (s ++ (0x5D ∷ 0x5D ∷ 0x3E ∷ []))
  one-there : SectionRest b1 (0x5D ∷ 0x3E ∷ [])
  one-used : SectionRest b2 (0x5D ∷ 0x3E ∷ [])
  two-there : SectionRest b2 (0x3E ∷ [])

-- ---- content behind some brackets
pub data Inner (k : Brackets) : List ℕ → Type 0 where
  final : {d : List ℕ} → Many in_data_of d → lacks (bytes "]]>") (standing k ++ d) ≡ true → Inner k d
  again : {d e c : List ℕ} → Many in_data_of d → lacks (bytes "]]>") (standing k ++ d) ≡ true → Element e → Content c → Inner k (d ++ (e ++ c))
  aside : {d e c : List ℕ} → Many in_data_of d → lacks (bytes "]]>") (standing k ++ d) ≡ true → Beside e → Content c → Inner k (d ++ (e ++ c))

-- ---- what stands in quotes
-- a quote, and what In says behind it; an `=` before them
pub data Quoting (In : Quote → List ℕ → Type 0) : List ℕ → Type 0 where
  quoting-of : {y s : List ℕ} → Spaces y → (q : Quote) → In q s → Quoting In (y ++ (mark q ∷ s))

pub data Equals (In : Quote → List ℕ → Type 0) : List ℕ → Type 0 where
  equals-of : {x s : List ℕ} → Spaces x → Quoting In s → Equals In (x ++ (0x3D ∷ s))

-- P, a quote, and Q
pub data Quoted (P Q : List ℕ → Type 0) (q : Quote) : List ℕ → Type 0 where
  quoted-of : {v s : List ℕ} → P v → Q s → Quoted P Q q (v ++ (mark q ∷ s))

-- ---- attributes
abbrev pub ValueRest : Quote → List ℕ → Type 0
ValueRest q s = Quoted (Value q) Attributes q s

pub data KeyRest : List ℕ → Type 0 where
  key-of : {k s : List ℕ} → Many (is_in name_char) k → Equals ValueRest s → KeyRest (k ++ s)

-- ---- the declaration
pub data Blank : List ℕ → Type 0 where
  blank : Blank []

abbrev pub word : Item → List ℕ
word version = bytes "version"
word encoding = bytes "encoding"
word standalone = bytes "standalone"

abbrev pub ValueOf : Item → List ℕ → Type 0
ValueOf version s = Version s
ValueOf encoding s = Encoding s
ValueOf standalone s = Standalone s

pub data Behind (P Q : List ℕ → Type 0) : List ℕ → Type 0 where
  behind-of : {a s : List ℕ} → P a → Q s → Behind P Q (a ++ s)

-- behind the last item, the second, the first
abbrev pub LastEnd : List ℕ → Type 0
LastEnd s = Closed Spaces (0x3F ∷ 0x3E ∷ []) s

abbrev pub SecondEnd : List ℕ → Type 0
SecondEnd s = Behind (Maybe (Declares (bytes "standalone") Standalone)) LastEnd s

abbrev pub FirstEnd : List ℕ → Type 0
FirstEnd s = Behind (Maybe (Declares (bytes "encoding") Encoding)) SecondEnd s

abbrev pub ItemEnd : Item → List ℕ → Type 0
ItemEnd version s = FirstEnd s
ItemEnd encoding s = SecondEnd s
ItemEnd standalone s = LastEnd s

-- an item and what is behind it
abbrev pub ItemRest : Item → List ℕ → Type 0
ItemRest i s = Behind (Declares (word i) (ValueOf i)) (ItemEnd i) s

abbrev pub DeclRest : InDecl → List ℕ → Type 0
DeclRest opening s = Spaced (ItemRest version) s
DeclRest (equals i) s = Equals (Quoted (ValueOf i) (ItemEnd i)) s
DeclRest (quoting i) s = Quoting (Quoted (ValueOf i) (ItemEnd i)) s
DeclRest (point q) s = Quoted (λ v. Version (0x31 ∷ 0x2E ∷ v)) (ItemEnd version) q s
DeclRest (digit q) s = Quoted (Many is_digit) (ItemEnd version) q s
DeclRest (letters q cs) s = Quoted (λ v. map lower v ≡ cs) (ItemEnd encoding) q s
DeclRest (choice q) s = Quoted Standalone (ItemEnd standalone) q s
DeclRest (chosen q) s = Quoted Blank (ItemEnd standalone) q s
DeclRest (valued i) s = ItemEnd i s
DeclRest (between i) s = Spaced (ItemEnd i) s

-- `<?` where the document begins, and letters of `xml`
abbrev pub HeadingRest : Letters → List ℕ → Type 0
HeadingRest x0 s = Prolog (0x3C ∷ 0x3F ∷ s)
HeadingRest x1 s = Prolog (0x3C ∷ 0x3F ∷ 0x78 ∷ s)
HeadingRest x2 s = Prolog (0x3C ∷ 0x3F ∷ 0x78 ∷ 0x6D ∷ s)
HeadingRest x3 s = Prolog (0x3C ∷ 0x3F ∷ 0x78 ∷ 0x6D ∷ 0x6C ∷ s)
