-- What stands open after some bytes of a document, and what a byte ends or begins. Each state can go on to a document. Definitions only.
use Rattle.std.specs.Prelude.{ℕ, List}
use Rattle.xml_chars.specs.Chars.{Quote}
use Rattle.xml_chars.specs.Bytes.{Part}

-- how many of `]]` stand before
pub data Brackets : Type 0 where
  b0 b1 b2 : Brackets

-- the letters of `xml` that stand
pub data Letters : Type 0 where
  x0 x1 x2 x3 : Letters

-- before the root; inside it, with the open names innermost first; behind it
pub data Place : Type 0 where
  before after : Place
  inside : List ℕ → List (List ℕ) → Place

-- a comment or an instruction
pub data InMisc : Type 0 where
  -- `<!`, `<!-`
  bang dash : InMisc
  -- a comment, without, behind one and behind two `-`
  remark0 remark1 remark2 : InMisc
  -- `<?` and letters of `xml` in any case; another name
  target : Letters → InMisc
  named : InMisc
  -- the data of an instruction, without and behind a `?`; the `?` that must end it
  pi_data pi_query pi_close : InMisc

-- the three parts of a declaration
pub data Item : Type 0 where
  version encoding standalone : Item

pub data InDecl : Type 0 where
  -- white space before `version`
  opening : InDecl
  -- behind an item's word; behind its `=`
  equals quoting : Item → InDecl
  -- behind `1.`, without and with a digit
  point digit : Quote → InDecl
  -- the letters of `utf-8` that are to come
  letters : Quote → List ℕ → InDecl
  -- before `yes` or `no`, and behind it
  choice chosen : Quote → InDecl
  -- behind an item's value; white space there
  valued between : Item → InDecl

-- a start tag
pub data InTag : Type 0 where
  name gap slash key key_eq quote : InTag
  value : Quote → InTag
  value_end : InTag

-- a reference: `&`, its name; `&#`, its digits; `&#x`, its digits
pub data InRef : Type 0 where
  ampersand ref_name hash digits hash_x hexes : InRef

-- where a reference stands: in content; in a value, where the tag's name so far is the first
pub data Host : Type 0 where
  content : List ℕ → List (List ℕ) → Host
  attribute : Quote → List ℕ → List (List ℕ) → Host

-- what fixed bytes lead to
pub data Goal : Type 0 where
  to_marked : Goal
  to_section : List ℕ → List (List ℕ) → Goal
  to_equals : Item → Goal
  to_point to_chosen : Quote → Goal

pub data State : Type 0 where
  -- nothing stands; the byte-order mark does; `<` does, at the very first position
  fresh marked lt_first : State
  -- `<?` at the very first position, and letters of `xml` in lower case
  heading : Letters → State
  decl : InDecl → State
  -- the byte that must come, and those behind it
  literal : ℕ → List ℕ → Goal → State
  -- outside the root, between markup
  prolog epilog : State
  text : Brackets → Part → List ℕ → List (List ℕ) → State
  lt : Place → State
  misc : InMisc → Part → Place → State
  section : Brackets → Part → List ℕ → List (List ℕ) → State
  ref : InRef → Part → Host → State
  -- a start tag: its name so far, and the open names
  tag : InTag → Part → List ℕ → List (List ℕ) → State
  -- an end tag: the bytes of its name that are to come, and the names that are open behind it; white space there
  ending : List ℕ → List (List ℕ) → State
  end_space : List (List ℕ) → State

-- what a byte ends or begins; what is marked begins behind the byte, Here with it
pub data Act : Type 0 where
  Stay Mark Here : Act
  -- a run of text ends before the byte; TextMark: and a reference is marked
  EndText TextMark : Act
  -- a tag's name ends before the byte, and with `>` the tag
  Name NameStart NameEnd : Act
  Start Empty End : Act
  -- a key ends before the byte; a value does
  Key Value : Act
  Ref Comment Pi CData : Act

-- no document has this byte here; or what the byte ends or begins, and the state behind it
pub data Next : Type 0 where
  no : Next
  go : Act → State → Next
