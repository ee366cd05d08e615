-- When each kind of record comes due, computed: at the last byte of what it tells of, and not before. Assumes nothing.
use Prim.Native.Nat.{ℕ}
use mathlib.Core.Path.{◌≡◌, refl}
use mathlib.Core.List.{List, [], ◌∷◌, ◌++◌}
use lib.ListN.{length}
use Rattle.xml_complete.specs.of_names.Bytes.{bytes}
use Rattle.xml_complete.specs.of_xml_chars.Chars.{crosses, lower}
use Rattle.xml_complete.specs.of_xml_chars.Bytes.{fits}
use Rattle.xml_complete.specs.of_xml_machine.Machine.{begun, char, follow, in_text, in_section, in_ref, in_target, in_misc, in_heading, in_decl, behind, in_tag, in_lt, step}
use Rattle.xml_tokens.specs.Due.{due_from, due_in_of, events_due, attributes_due}

-- the events that are due in each of these
abbrev due_each : List (List ℕ) → List ℕ
due_each [] = []
due_each (p ∷ ps) = length (events_due (due_in_of p)) ∷ due_each ps

-- an attribute at its closing quote
attributes-due : length (attributes_due (due_in_of (bytes "<a x='1"))) ∷ length (attributes_due (due_in_of (bytes "<a x='1'"))) ∷ [] ≡ 0 ∷ 1 ∷ []
unfolding begun char follow in_text in_section in_ref in_target in_misc in_heading in_decl behind in_tag in_lt step crosses lower fits due_from
attributes-due = refl

-- Start, Empty and End at their `>`
tags-due : due_each (bytes "<a x='1'" ∷ bytes "<a x='1'>" ∷ bytes "<a/" ∷ bytes "<a/>" ∷ bytes "<a></a " ∷ bytes "<a></a >" ∷ []) ≡ 0 ∷ 1 ∷ 0 ∷ 1 ∷ 1 ∷ 2 ∷ []
unfolding begun char follow in_text in_section in_ref in_target in_misc in_heading in_decl behind in_tag in_lt step crosses lower fits due_from
tags-due = refl

-- a reference at `;`, but in a value no event
references-due : due_each (bytes "<a>&lt" ∷ bytes "<a>&lt;" ∷ bytes "<a x='&lt;" ∷ []) ≡ 1 ∷ 2 ∷ 0 ∷ []
unfolding begun char follow in_text in_section in_ref in_target in_misc in_heading in_decl behind in_tag in_lt step crosses lower fits due_from
references-due = refl

-- declaration, comment, instruction and section at the `>` of their closing mark
marks-due : due_each (bytes "<?xml version='1.0'?" ∷ bytes "<?xml version='1.0'?>" ∷ bytes "<!--c--" ∷ bytes "<!--c-->" ∷ bytes "<?p d?" ∷ bytes "<?p d?>" ∷ bytes "<a><![CDATA[x]]" ∷ bytes "<a><![CDATA[x]]>" ∷ []) ≡ 0 ∷ 1 ∷ 0 ∷ 1 ∷ 0 ∷ 1 ∷ 1 ∷ 2 ∷ []
unfolding begun char follow in_text in_section in_ref in_target in_misc in_heading in_decl behind in_tag in_lt step crosses lower fits due_from
marks-due = refl

-- a run of text from its first byte on, also within a character, and one record however long; white space outside the root too
texts-due : due_each (bytes "<a>" ∷ bytes "<a>t" ∷ bytes "<a>te" ∷ (bytes "<a>" ++ (0xC3 ∷ [])) ∷ bytes "<a>t<" ∷ bytes " " ∷ bytes "<a/> " ∷ []) ≡ 1 ∷ 2 ∷ 2 ∷ 2 ∷ 2 ∷ 1 ∷ 2 ∷ []
unfolding begun char follow in_text in_section in_ref in_target in_misc in_heading in_decl behind in_tag in_lt step crosses lower fits due_from
texts-due = refl

-- the byte-order mark is no text
mark-due : due_each ((0xEF ∷ 0xBB ∷ []) ∷ (0xEF ∷ 0xBB ∷ 0xBF ∷ []) ∷ []) ≡ 0 ∷ 0 ∷ []
unfolding begun char follow in_text in_section in_ref in_target in_misc in_heading in_decl behind in_tag in_lt step crosses lower fits due_from
mark-due = refl
