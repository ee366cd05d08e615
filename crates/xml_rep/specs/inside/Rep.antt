-- How the code's registers, and the parts of the source that are open names, stand for the definition's state and marks.
-- Definitions only.
use Rattle.std.specs.Prelude.{ℕ, ◌+◌, ◌-◌, ◌≤◌, ◌<◌, ◌≡◌, List, [], ◌∷◌, false, eqb, length, get_or, take, drop}
use Rattle.xml_state.specs.of_xml_chars.Chars as chars
use Rattle.xml_state.specs.of_xml_chars.Bytes.{Left, one, two, three, Part, whole, part}
use Rattle.xml_state.specs.of_xml_machine.State.{Place, before, after, inside, Host, content, attribute, Goal, to_marked, to_section, to_equals, to_point, to_chosen}
use Rattle.xml_state.specs.of_xml_machine.State.{State, fresh, marked, lt_first, heading, decl, literal, prolog, epilog, text, lt, misc, section, ref, tag, ending, end_space}
use Rattle.xml_state.specs.of_xml_machine.State.{InDecl, opening, equals, quoting, point, digit, letters, choice, chosen, valued, between}
use Rattle.xml_state.specs.of_xml_machine.State.{InTag, name, gap, slash, key, key_eq, quote, value, value_end}
use Rattle.xml_state.specs.of_xml_machine.Machine.{resume, reached}
use Rattle.xml_state.specs.of_xml_machine.Tokens.{Marks}
use Rattle.xml_state.specs.of_xml_stack.Stack.{Range, range}
use Rattle.xml_state.specs.declared.Part.{Part as Open}
use Rattle.xml_state.specs.declared.State.{State as Registers}
use Rattle.xml_state.specs.inside.Rows as row
use Rattle.xml_state.specs.inside.Parts.{class_of}
use Rattle.xml_state.specs.inside.Acts.{words}
use Rattle.xml_rep.specs.inside.Modes.{mode_of}

-- ---- the mode
abbrev pub left_of : Left → ℕ
left_of one = 1
left_of two = 2
left_of three = 3

abbrev pub Parted : List chars.Range → ℕ → Left → ℕ → Open → Type 0
Parted cls low l least p = (class_of p.class ≡ cls) × (p.left ≡ left_of l) × (p.low ≡ low) × (p.least ≡ least)

-- in the mode k, or within a character that leads back to it
abbrev pub Partly : Part → ℕ → Registers → Type 0
Partly whole k st = st.mode ≡ k
Partly (part cls low l least) k st = (st.mode ≡ row.within) × (st.then ≡ k) × Parted cls low l least st.part

-- from w on, the fixed bytes are c, then cs, then the one that ends them
abbrev pub Spells : ℕ → ℕ → List ℕ → ℕ → Type 0
Spells w c [] end = (get_or words w 0 ≡ c) × (get_or words (w + 1) 0 ≡ end)
Spells w c (d ∷ cs) end = (get_or words w 0 ≡ c) × (eqb d 10 ≡ false) × (eqb d 9 ≡ false) × Spells (w + 1) d cs end

-- the newline or tab behind fixed bytes
abbrev pub end_of : Goal → ℕ
end_of to_marked = 9
end_of (to_section n ns) = 9
end_of (to_equals i) = 10
end_of (to_point q) = 10
end_of (to_chosen q) = 10

abbrev pub Spelling : ℕ → ℕ → List ℕ → ℕ → Registers → Type 0
Spelling k c cs end st = (st.mode ≡ row.spelled) × (st.then ≡ k) × Spells st.word c cs end

abbrev pub DeclModed : InDecl → Registers → Type 0
DeclModed opening st = st.mode ≡ mode_of (decl opening)
DeclModed (equals i) st = st.mode ≡ mode_of (decl (equals i))
DeclModed (quoting i) st = st.mode ≡ mode_of (decl (quoting i))
DeclModed (point q) st = st.mode ≡ mode_of (decl (point q))
DeclModed (digit q) st = st.mode ≡ mode_of (decl (digit q))
DeclModed (letters q []) st = st.mode ≡ mode_of (decl (letters q []))
DeclModed (letters q (c ∷ cs)) st = Spelling (mode_of (decl (letters q []))) c cs 10 st × (44 ≤ st.word) × (st.word + length cs < 49)
DeclModed (choice q) st = st.mode ≡ mode_of (decl (choice q))
DeclModed (chosen q) st = st.mode ≡ mode_of (decl (chosen q))
DeclModed (valued i) st = st.mode ≡ mode_of (decl (valued i))
DeclModed (between i) st = st.mode ≡ mode_of (decl (between i))

abbrev pub Moded : State → Registers → Type 0
Moded fresh st = st.mode ≡ mode_of fresh
Moded marked st = st.mode ≡ mode_of marked
Moded lt_first st = st.mode ≡ mode_of lt_first
Moded (heading x) st = st.mode ≡ mode_of (heading x)
Moded (decl d) st = DeclModed d st
Moded (literal c cs g) st = Spelling (mode_of (reached g)) c cs (end_of g) st × (st.word + length cs < 44)
Moded prolog st = st.mode ≡ mode_of prolog
Moded epilog st = st.mode ≡ mode_of epilog
Moded (text k p n ns) st = Partly p (mode_of (text k p n ns)) st
Moded (lt pl) st = st.mode ≡ mode_of (lt pl)
Moded (misc m p pl) st = Partly p (mode_of (misc m p pl)) st
Moded (section k p n ns) st = Partly p (mode_of (section k p n ns)) st
Moded (ref m p h) st = Partly p (mode_of (ref m p h)) st
Moded (tag k p n ns) st = Partly p (mode_of (tag k p n ns)) st
Moded (ending n ns) st = st.mode ≡ mode_of (ending n ns)
Moded (end_space ns) st = st.mode ≡ mode_of (end_space ns)

-- ---- the mode behind other markup, or behind a reference
abbrev pub goal_home : Goal → ℕ
goal_home to_marked = row.text_before
goal_home (to_section n ns) = row.text_in_of
goal_home (to_equals i) = row.text_before
goal_home (to_point q) = row.text_before
goal_home (to_chosen q) = row.text_before

abbrev pub host_home : Host → ℕ
host_home (content n ns) = row.text_in_of
host_home (attribute q n ns) = mode_of (tag (value q) whole n ns)

-- in a value; elsewhere in a tag it is free
abbrev pub TagHome : InTag → ℕ → Type 0
TagHome name h = Unit {0}
TagHome gap h = Unit {0}
TagHome slash h = Unit {0}
TagHome key h = Unit {0}
TagHome key_eq h = Unit {0}
TagHome quote h = Unit {0}
TagHome (value q) h = h ≡ mode_of (tag (value q) whole [] [])
TagHome value_end h = Unit {0}

abbrev pub Homed : State → ℕ → Type 0
Homed fresh h = h ≡ row.text_before
Homed marked h = h ≡ row.text_before
Homed lt_first h = h ≡ row.text_before
Homed (heading x) h = h ≡ row.text_before
Homed (decl d) h = h ≡ row.text_before
Homed (literal c cs g) h = h ≡ goal_home g
Homed prolog h = h ≡ row.text_before
Homed epilog h = h ≡ row.text_after_of
Homed (text k p n ns) h = h ≡ row.text_in_of
Homed (lt pl) h = h ≡ mode_of (resume pl)
Homed (misc m p pl) h = h ≡ mode_of (resume pl)
Homed (section k p n ns) h = h ≡ row.text_in_of
Homed (ref m p host) h = h ≡ host_home host
Homed (tag k p n ns) h = TagHome k h
Homed (ending n ns) h = Unit {0}
Homed (end_space ns) h = Unit {0}

-- ---- names
-- parts of the source that are names, none of them empty
pub data Named (src : List ℕ) : List Range → List (List ℕ) → Type 0 where
  no_name_of : Named src [] []
  a_name : {s l : ℕ} {ns : List Range} {n : List ℕ} {ms : List (List ℕ)} → n ≡ take l (drop s src) → 0 < l → s + l ≤ length src → Named src ns ms →
      Named src (range s l ∷ ns) (n ∷ ms)

-- the names that are open at a place
abbrev pub opened : Place → List (List ℕ)
opened before = []
opened after = []
opened (inside n ns) = n ∷ ns

abbrev pub goal_opened : Goal → List (List ℕ)
goal_opened to_marked = []
goal_opened (to_section n ns) = n ∷ ns
goal_opened (to_equals i) = []
goal_opened (to_point q) = []
goal_opened (to_chosen q) = []

-- the tag's name begins at the mark, and `at` is behind its last byte so far
abbrev pub Growing : List ℕ → List ℕ → ℕ → ℕ → Type 0
Growing src n mark at = (mark < at) × (at ≤ length src) × (n ≡ take (at - mark) (drop mark src))

-- the registers name, long and first, behind the tag's name
abbrev pub Tagged : List ℕ → List ℕ → Registers → Marks → Type 0
Tagged src n st m =
    (0 < st.long) × (st.name + st.long ≤ length src) × (n ≡ take st.long (drop st.name src)) × (m.name_from ≡ st.name) × (m.name_to - m.name_from ≡ st.long)
    × (m.first ≡ st.first)

-- the registers key and wide, behind the key
abbrev pub Keyed : Registers → Marks → Type 0
Keyed st m = (m.key_from ≡ st.key) × (m.key_to - m.key_from ≡ st.wide)

abbrev pub TagPlaced : List ℕ → ℕ → InTag → List ℕ → Registers → Marks → Type 0
TagPlaced src at name n st m = Growing src n st.mark at
TagPlaced src at gap n st m = Tagged src n st m
TagPlaced src at slash n st m = Tagged src n st m
TagPlaced src at key n st m = Tagged src n st m
TagPlaced src at key_eq n st m = Tagged src n st m × Keyed st m
TagPlaced src at quote n st m = Tagged src n st m × Keyed st m
TagPlaced src at (value q) n st m = Tagged src n st m × Keyed st m
TagPlaced src at value_end n st m = Tagged src n st m

abbrev pub HostPlaced : List ℕ → Host → Registers → Marks → List Range → Type 0
HostPlaced src (content n ns) st m rs = Named src rs (n ∷ ns)
HostPlaced src (attribute q n ns) st m rs = Named src rs ns × (Tagged src n st m × Keyed st m)

-- an end tag: the innermost open name is in the registers name and long, behind it are the names ms
pub record Closing (src : List ℕ) (ms : List (List ℕ)) (name long : ℕ) (rs : List Range) : Type 0 where
  pub others : List Range
  pub first : rs ≡ range name long ∷ others
  pub behind : Named src others ms
  pub some : 0 < long
  pub within : name + long ≤ length src

abbrev pub Placed : List ℕ → ℕ → State → Registers → Marks → List Range → Type 0
Placed src at fresh st m rs = Named src rs []
Placed src at marked st m rs = Named src rs []
Placed src at lt_first st m rs = Named src rs []
Placed src at (heading x) st m rs = Named src rs []
Placed src at (decl d) st m rs = Named src rs []
Placed src at (literal c cs g) st m rs = Named src rs (goal_opened g)
Placed src at prolog st m rs = Named src rs []
Placed src at epilog st m rs = Named src rs []
Placed src at (text k p n ns) st m rs = Named src rs (n ∷ ns)
Placed src at (lt pl) st m rs = Named src rs (opened pl)
Placed src at (misc k p pl) st m rs = Named src rs (opened pl)
Placed src at (section k p n ns) st m rs = Named src rs (n ∷ ns)
Placed src at (ref k p h) st m rs = HostPlaced src h st m rs
Placed src at (tag k p n ns) st m rs = Named src rs ns × TagPlaced src at k n st m
Placed src at (ending rest ns) st m rs =
    Closing src ns st.name st.long rs × (st.mark ≤ at) × (at ≤ st.mark + st.long) × (rest ≡ drop (at - st.mark) (take st.long (drop st.name src)))
Placed src at (end_space ns) st m rs = Closing src ns st.name st.long rs × (m.name_from ≡ st.mark) × (m.name_to ≡ st.mark + st.long)

-- THE RELATION behind `at` bytes of the source, where n attributes stand and rs are the open names; top and count are free
pub record Rep (src : List ℕ) (at : ℕ) (st : Registers) (s : State) (m : Marks) (n : ℕ) (rs : List Range) : Type 0 where
  pub moded : Moded s st
  pub homed : Homed s st.home
  pub placed : Placed src at s st m rs
  pub mark : st.mark ≡ m.mark
  pub kept : st.kept ≡ n
