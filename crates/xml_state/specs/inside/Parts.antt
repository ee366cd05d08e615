-- What the code does with a character of which some bytes stand, on plain numbers. Definitions only.
use Rattle.std.specs.Prelude.{ℕ, ◌+◌, ◌-◌, ◌*◌, ◌%◌, max, List, cond, ◌||◌, ltb, eqb, take, Option, Some, None}
use Rattle.xml_stack.specs.of_xml_chars.Chars.{Range, meets, any_char, name_start, name_char}
use Rattle.xml_state.specs.declared.Part.{Part}
use Rattle.xml_state.specs.declared.class.Class.{Class}
use Rattle.xml_state.specs.declared.class.Class.TheVariants.{Any, Start, Name}

-- the characters of a class
abbrev pub class_of : Class → List Range
class_of Any = any_char
class_of Start = name_start
class_of Name = name_char

-- the first half of NameStartChar
abbrev pub low_start : List Range
low_start = take 8 name_start

-- how many code points begin alike behind the next byte
abbrev pub unit_of : ℕ → ℕ
unit_of left = cond (eqb left 1) 1 (cond (eqb left 2) 64 4096)

abbrev pub part_of : Class → ℕ → ℕ → ℕ → Part
part_of class left low least = record { class = class; left = left; low = low; least = least }

unfoldable pub lead_of : Class → ℕ → Part
lead_of class b =
    cond (ltb b 0xE0) (part_of class 1 ((b - 0xC0) * 64) 0x80)
    (cond (ltb b 0xF0) (part_of class 2 ((b - 0xE0) * 4096) 0x800) (part_of class 3 ((b - 0xF0) * 262144) 0x10000))

abbrev pub low_of : Part → ℕ → ℕ
low_of p b = p.low + (b - 0x80) * unit_of p.left

unfoldable pub follow_of : Part → ℕ → Option Part
follow_of p b =
    cond (ltb b 0x80 || ltb 0xBF b) None
    (cond (meets (class_of p.class) (max (low_of p b) p.least) (low_of p b + (unit_of p.left - 1)))
    (Some (part_of p.class (p.left - 1) (low_of p b % 4294967296) p.least)) None)
