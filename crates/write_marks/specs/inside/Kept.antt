-- What marks say of the three areas. Definitions only.
use Rattle.std.specs.Prelude.{List, cond, ◌&&◌, eqb, leb, ℕ, ◌+◌, Option, Some, None}
use Rattle.write_codes.specs.of_area.Limits.{most_bytes}
use Rattle.write_codes.specs.of_table.Kinds as kind
use Rattle.write_form.specs.of_write_table.inside.Forms as forms
use Rattle.write_form.specs.of_write_table.inside.Putting.{Areas}
use Rattle.write_marks.specs.declared.Marks.{Marks}

abbrev pub kept : Marks → List ℕ → List ℕ → List ℕ → Areas
kept k ev at by =
    record { mark = k.bytes; form = k.form; level = k.level; events = k.events; attributes = k.attributes; event_area = ev; attribute_area = at; byte_area = by }

-- nothing is put yet
abbrev pub empty : Marks
empty = record { events = 0; attributes = 0; bytes = Some 0; form = forms.table; level = 0 }

-- and in the XML form
abbrev pub bare : Marks
bare = record { events = 0; attributes = 0; bytes = Some 0; form = forms.free; level = 0 }

abbrev pub shut_by : Marks → Marks
shut_by k = record { events = k.events; attributes = k.attributes; bytes = None; form = k.form; level = k.level }

abbrev pub event_more : Marks → Option ℕ → Marks
event_more k to = record { events = k.events + 1; attributes = k.attributes; bytes = to; form = k.form; level = k.level }

abbrev pub attribute_more : Marks → Option ℕ → Marks
attribute_more k to = record { events = k.events; attributes = k.attributes + 1; bytes = to; form = k.form; level = k.level }

-- in the XML form: an entry more, a text more
abbrev pub entry_more : Marks → Option ℕ → ℕ → Marks
entry_more k to n =
    cond (eqb n kind.start && leb most_bytes k.level) (shut_by k)
    (record { events = k.events; attributes = k.attributes; bytes = to; form = forms.form_behind k.form n; level = forms.level_behind k.level n })

abbrev pub text_more : Marks → Option ℕ → Marks
text_more k to = record { events = k.events; attributes = k.attributes; bytes = to; form = k.form; level = k.level }
