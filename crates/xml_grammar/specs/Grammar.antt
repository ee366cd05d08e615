-- XML 1.0 (fifth edition): the productions that are taken in, over characters (code points), each with its number. What is left out or
-- changed is said at its production. Definitions only.
use Rattle.std.specs.Prelude.{ℕ, ◌≡◌, List, [], ◌∷◌, ◌++◌, map, Bool, true, false, not, ◌&&◌, ◌||◌, eqb}
use Rattle.names.specs.Bytes.{bytes}
use Rattle.xml_chars.specs.Chars.{is_in, any_char, name_start, name_char, is_space, is_digit, is_hex, lower, Quote, mark, begins}

-- any number of characters of a kind
pub data Many (is : ℕ → Bool) : List ℕ → Type 0 where
  no_char : Many is []
  a-char : {c : ℕ} {s : List ℕ} → is c ≡ true → Many is s → Many is (c ∷ s)

-- one or more
pub data Some (is : ℕ → Bool) : List ℕ → Type 0 where
  chars : {c : ℕ} {s : List ℕ} → is c ≡ true → Many is s → Some is (c ∷ s)

-- x stands nowhere in s: the difference Char* - (Char* x Char*) of [14], [16], [20]
abbrev pub lacks : List ℕ → List ℕ → Bool
lacks x [] = true
lacks x (c ∷ s) = not (begins x (c ∷ s)) && lacks x s

-- [3] S, and S?
abbrev pub Space : List ℕ → Type 0
Space = Some is_space

abbrev pub Spaces : List ℕ → Type 0
Spaces = Many is_space

-- [5] Name
pub data Name : List ℕ → Type 0 where
  name_of : {c : ℕ} {s : List ℕ} → is_in name_start c ≡ true → Many (is_in name_char) s → Name (c ∷ s)

-- [66] CharRef, [67] Reference, [68] EntityRef: what stands between `&` and `;`. Which name is known and which number is a
-- character is asked by reading (rule N5)
pub data Referred : List ℕ → Type 0 where
  entity : {n : List ℕ} → Name n → Referred n
  decimal : {n : List ℕ} → Some is_digit n → Referred (0x23 ∷ n)
  hexadecimal : {n : List ℕ} → Some is_hex n → Referred (0x23 ∷ 0x78 ∷ n)

-- [^<&"] or [^<&']
abbrev pub in_value : Quote → ℕ → Bool
in_value q c = is_in any_char c && not (eqb c (mark q) || (eqb c 0x3C || eqb c 0x26))

-- [10] AttValue, between its quotes
pub data Value (q : Quote) : List ℕ → Type 0 where
  no_value : Value q []
  value-char : {c : ℕ} {s : List ℕ} → in_value q c ≡ true → Value q s → Value q (c ∷ s)
  value-ref : {n s : List ℕ} → Referred n → Value q s → Value q (0x26 ∷ (n ++ (0x3B ∷ s)))

-- (S Attribute)* S? of [40] and [44], with [41] Attribute and [25] Eq; a repeated key is refused by reading (rule N5)
pub data Attributes : List ℕ → Type 0 where
  no-attribute : {w : List ℕ} → Spaces w → Attributes w
  attribute : {w k x y v a : List ℕ} → Space w → Name k → Spaces x → Spaces y → (q : Quote) → Value q v → Attributes a →
      Attributes (w ++ (k ++ (x ++ (0x3D ∷ (y ++ (mark q ∷ (v ++ (mark q ∷ a))))))))

-- [^<&]
abbrev pub in_data_of : ℕ → Bool
in_data_of c = is_in any_char c && not (eqb c 0x3C || eqb c 0x26)

-- [14] CharData, which may be empty
pub data CharData : List ℕ → Type 0 where
  data_of : {s : List ℕ} → Many in_data_of s → lacks (bytes "]]>") s ≡ true → CharData s

-- Char - '-'
abbrev pub in_remark_of : ℕ → Bool
in_remark_of c = is_in any_char c && not (eqb c 0x2D)

-- [15] Comment, between `<!--` and `-->`
pub data Remark : List ℕ → Type 0 where
  no-remark : Remark []
  plain : {c : ℕ} {s : List ℕ} → in_remark_of c ≡ true → Remark s → Remark (c ∷ s)
  dashed : {c : ℕ} {s : List ℕ} → in_remark_of c ≡ true → Remark s → Remark (0x2D ∷ c ∷ s)

-- [17] PITarget: no name that is `xml` in any letter case
abbrev pub is_xml : List ℕ → Bool
is_xml [] = false
is_xml (a ∷ []) = false
is_xml (a ∷ b ∷ []) = false
is_xml (a ∷ b ∷ c ∷ []) = eqb (lower a) 0x78 && (eqb (lower b) 0x6D && eqb (lower c) 0x6C)
is_xml (a ∷ b ∷ c ∷ d ∷ s) = false

pub data Target : List ℕ → Type 0 where
  target-of : {n : List ℕ} → Name n → is_xml n ≡ false → Target n

-- [16] PI, between `<?` and `?>`
pub data Instruction : List ℕ → Type 0 where
  bare : {n : List ℕ} → Target n → Instruction n
  with-data : {n w s : List ℕ} → Target n → Space w → Many (is_in any_char) s → lacks (bytes "?>") s ≡ true → Instruction (n ++ (w ++ s))

-- [27] Misc without S
pub data Misc : List ℕ → Type 0 where
  comment : {s : List ℕ} → Remark s → Misc (0x3C ∷ 0x21 ∷ 0x2D ∷ 0x2D ∷ (s ++ (0x2D ∷ 0x2D ∷ 0x3E ∷ [])))
  instruction : {s : List ℕ} → Instruction s → Misc (0x3C ∷ 0x3F ∷ (s ++ (0x3F ∷ 0x3E ∷ [])))

-- Misc* of [1] and [22], as S? ((Comment | PI) S?)*: each run of white space is one S
pub data Miscs : List ℕ → Type 0 where
  last-space : {w : List ℕ} → Spaces w → Miscs w
  misc : {w e m : List ℕ} → Spaces w → Misc e → Miscs m → Miscs (w ++ (e ++ m))

-- what may stand in content beside elements and character data: Reference, [18] CDSect, PI, Comment
pub data Beside : List ℕ → Type 0 where
  reference : {n : List ℕ} → Referred n → Beside (0x26 ∷ (n ++ (0x3B ∷ [])))
  section : {s : List ℕ} → Many (is_in any_char) s → lacks (bytes "]]>") s ≡ true →
      Beside (0x3C ∷ 0x21 ∷ 0x5B ∷ 0x43 ∷ 0x44 ∷ 0x41 ∷ 0x54 ∷ 0x41 ∷ 0x5B ∷ (s ++ (0x5D ∷ 0x5D ∷ 0x3E ∷ [])))
  aside : {s : List ℕ} → Misc s → Beside s

mutual
  -- [39] element, [40] STag, [42] ETag, [44] EmptyElemTag; both tags of a pair have the same name (Element Type Match)
  pub data Element : List ℕ → Type 0 where
    empty : {s n a : List ℕ} → Name n → Attributes a → s ≡ 0x3C ∷ (n ++ (a ++ (0x2F ∷ 0x3E ∷ []))) → Element s
    pair : {s n a c w : List ℕ} → Name n → Attributes a → Content c → Spaces w →
        s ≡ 0x3C ∷ (n ++ (a ++ (0x3E ∷ (c ++ (0x3C ∷ 0x2F ∷ (n ++ (w ++ (0x3E ∷ [])))))))) → Element s

  -- [43] content
  pub data Content : List ℕ → Type 0 where
    last-data : {s : List ℕ} → CharData s → Content s
    child : {s d e c : List ℕ} → CharData d → Element e → Content c → s ≡ d ++ (e ++ c) → Content s
    beside : {s d e c : List ℕ} → CharData d → Beside e → Content c → s ≡ d ++ (e ++ c) → Content s

-- S word Eq and a quoted value, as in [24] VersionInfo, [80] EncodingDecl, [32] SDDecl
pub data Declares (word : List ℕ) (Is : List ℕ → Type 0) : List ℕ → Type 0 where
  declares : {w x y v : List ℕ} → Space w → Spaces x → Spaces y → (q : Quote) → Is v →
      Declares word Is (w ++ (word ++ (x ++ (0x3D ∷ (y ++ (mark q ∷ (v ++ (mark q ∷ []))))))))

-- what may be missing
pub data Maybe (Is : List ℕ → Type 0) : List ℕ → Type 0 where
  absent : Maybe Is []
  present : {s : List ℕ} → Is s → Maybe Is s

-- [26] VersionNum
pub data Version : List ℕ → Type 0 where
  version : {n : List ℕ} → Some is_digit n → Version (0x31 ∷ 0x2E ∷ n)

-- [81] EncName, of which one is left: UTF-8 in any letter case (rule N1)
pub data Encoding : List ℕ → Type 0 where
  encoding : {s : List ℕ} → map lower s ≡ bytes "utf-8" → Encoding s

pub data Standalone : List ℕ → Type 0 where
  yes-alone : Standalone (bytes "yes")
  no-alone : Standalone (bytes "no")

-- [23] XMLDecl, between `<?` and `?>`
pub data Declaration : List ℕ → Type 0 where
  declaration : {v e s w : List ℕ} → Declares (bytes "version") Version v → Maybe (Declares (bytes "encoding") Encoding) e →
      Maybe (Declares (bytes "standalone") Standalone) s → Spaces w → Declaration (0x78 ∷ 0x6D ∷ 0x6C ∷ (v ++ (e ++ (s ++ w))))

-- [22] prolog without [28] doctypedecl, which is refusal 19
pub data Prolog : List ℕ → Type 0 where
  undeclared : {m : List ℕ} → Miscs m → Prolog m
  declared : {d m : List ℕ} → Declaration d → Miscs m → Prolog (0x3C ∷ 0x3F ∷ (d ++ (0x3F ∷ 0x3E ∷ m)))

-- [1] document (rule N1)
pub data Document : List ℕ → Type 0 where
  document : {p e m : List ℕ} → Prolog p → Element e → Miscs m → Document (p ++ (e ++ m))
