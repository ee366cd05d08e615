-- What the tables mean: the move of each mode, over tests of the byte. Definitions only.
use Rattle.std.specs.Prelude.{ℕ, ◌-◌, ◌*◌, List, [], ◌∷◌, cond, ltb, eqb, get_or}
use Rattle.xml_stack.specs.of_xml_chars.Chars.{Range, meets, any_char, name_start, name_char, is_space, is_digit, is_hex, lower, Quote, single, double, mark}
use Rattle.xml_stack.specs.of_xml_chars.Bytes.{one, two, three, fits}
use Rattle.xml_state.specs.declared.Move.{Move}

-- modes, counted from `0` on in the order of the rows
abbrev pub text_before : ℕ
text_before = 0x30

abbrev pub text_after_of : ℕ
text_after_of = 0x31

abbrev pub text_in_of : ℕ
text_in_of = 0x32

abbrev pub text_shut1 : ℕ
text_shut1 = 0x33

abbrev pub text_shut2 : ℕ
text_shut2 = 0x34

abbrev pub first : ℕ
first = 0x35

abbrev pub lt_first : ℕ
lt_first = 0x36

abbrev pub lt_before : ℕ
lt_before = 0x37

abbrev pub lt_in : ℕ
lt_in = 0x38

abbrev pub lt_after : ℕ
lt_after = 0x39

abbrev pub bang_out : ℕ
bang_out = 0x3A

abbrev pub bang_in : ℕ
bang_in = 0x3B

abbrev pub bang_dash : ℕ
bang_dash = 0x3C

abbrev pub comment : ℕ
comment = 0x3D

abbrev pub comment1 : ℕ
comment1 = 0x3E

abbrev pub comment2 : ℕ
comment2 = 0x3F

abbrev pub cdata : ℕ
cdata = 0x40

abbrev pub cdata1 : ℕ
cdata1 = 0x41

abbrev pub cdata2 : ℕ
cdata2 = 0x42

abbrev pub pi_first : ℕ
pi_first = 0x43

abbrev pub pi_open : ℕ
pi_open = 0x44

abbrev pub pi_xFirst : ℕ
pi_xFirst = 0x45

abbrev pub pi_x : ℕ
pi_x = 0x46

abbrev pub pi_xm_first : ℕ
pi_xm_first = 0x47

abbrev pub pi_xm : ℕ
pi_xm = 0x48

abbrev pub pi_xml_first : ℕ
pi_xml_first = 0x49

abbrev pub pi_xml : ℕ
pi_xml = 0x4A

abbrev pub pi_name : ℕ
pi_name = 0x4B

abbrev pub pi_close : ℕ
pi_close = 0x4C

abbrev pub pi_data : ℕ
pi_data = 0x4D

abbrev pub pi_query : ℕ
pi_query = 0x4E

abbrev pub decl_space0 : ℕ
decl_space0 = 0x4F

abbrev pub decl_space1 : ℕ
decl_space1 = 0x50

abbrev pub decl_space2 : ℕ
decl_space2 = 0x51

abbrev pub decl_space3 : ℕ
decl_space3 = 0x52

abbrev pub decl_eq0 : ℕ
decl_eq0 = 0x53

abbrev pub decl_eq1 : ℕ
decl_eq1 = 0x54

abbrev pub decl_eq2 : ℕ
decl_eq2 = 0x55

abbrev pub decl_quote0 : ℕ
decl_quote0 = 0x56

abbrev pub decl_quote1 : ℕ
decl_quote1 = 0x57

abbrev pub decl_quote2 : ℕ
decl_quote2 = 0x58

abbrev pub decl_after1 : ℕ
decl_after1 = 0x59

abbrev pub decl_after2 : ℕ
decl_after2 = 0x5A

abbrev pub decl_after3 : ℕ
decl_after3 = 0x5B

abbrev pub begin : ℕ
begin = 0x5C

abbrev pub version_d : ℕ
version_d = 0x5D

abbrev pub version_s : ℕ
version_s = 0x5E

abbrev pub digits_d : ℕ
digits_d = 0x5F

abbrev pub digits_s : ℕ
digits_s = 0x60

abbrev pub encoding_d : ℕ
encoding_d = 0x61

abbrev pub encoding_s : ℕ
encoding_s = 0x62

abbrev pub standalone_d : ℕ
standalone_d = 0x63

abbrev pub standalone_s : ℕ
standalone_s = 0x64

abbrev pub answer_d : ℕ
answer_d = 0x65

abbrev pub answer_s : ℕ
answer_s = 0x66

abbrev pub tag_name : ℕ
tag_name = 0x67

abbrev pub in_tag : ℕ
in_tag = 0x68

abbrev pub tag_slash : ℕ
tag_slash = 0x69

abbrev pub key : ℕ
key = 0x6A

abbrev pub key_eq : ℕ
key_eq = 0x6B

abbrev pub quote : ℕ
quote = 0x6C

abbrev pub value_d : ℕ
value_d = 0x6D

abbrev pub value_s : ℕ
value_s = 0x6E

abbrev pub value_end : ℕ
value_end = 0x6F

abbrev pub end_tag : ℕ
end_tag = 0x70

abbrev pub ref_open : ℕ
ref_open = 0x71

abbrev pub ref_name : ℕ
ref_name = 0x72

abbrev pub ref_hash : ℕ
ref_hash = 0x73

abbrev pub ref_digits : ℕ
ref_digits = 0x74

abbrev pub ref_x : ℕ
ref_x = 0x75

abbrev pub ref_hex : ℕ
ref_hex = 0x76

abbrev pub end_name : ℕ
end_name = 0x77

abbrev pub within : ℕ
within = 0x78

abbrev pub spelled : ℕ
spelled = 0x79

-- acts
abbrev pub stay : ℕ
stay = 0x2E

abbrev pub here : ℕ
here = 0x68

abbrev pub marked : ℕ
marked = 0x6D

abbrev pub name_end : ℕ
name_end = 0x6E

abbrev pub key_end : ℕ
key_end = 0x6B

abbrev pub quoted : ℕ
quoted = 0x71

abbrev pub closing : ℕ
closing = 0x63

abbrev pub lead_any : ℕ
lead_any = 0x43

abbrev pub lead_start : ℕ
lead_start = 0x53

abbrev pub lead_here : ℕ
lead_here = 0x48

abbrev pub lead_name : ℕ
lead_name = 0x4E

abbrev pub text_end : ℕ
text_end = 0x74

abbrev pub name_start_end : ℕ
name_start_end = 0x67

abbrev pub start_end : ℕ
start_end = 0x73

abbrev pub empty_end : ℕ
empty_end = 0x65

abbrev pub end_end : ℕ
end_end = 0x7A

abbrev pub ref_end : ℕ
ref_end = 0x72

abbrev pub comment_end : ℕ
comment_end = 0x6F

abbrev pub pi_end : ℕ
pi_end = 0x70

abbrev pub cdata_end : ℕ
cdata_end = 0x64

abbrev pub value_ended : ℕ
value_ended = 0x76

abbrev pub wanted : ℕ
wanted = 0x78

abbrev pub further : ℕ
further = 0x77

abbrev pub letter : ℕ
letter = 0x6C

abbrev pub to : ℕ → ℕ → Move
to m a = record { mode = m; act = a }

abbrev pub bad : Move
bad = to 0x2D 0x2D

abbrev pub always : Move → ℕ → Move
always m b = m

abbrev pub only : ℕ → ℕ → ℕ → ℕ → Move
only c m a b = cond (eqb b c) (to m a) bad

-- the first byte of a character of the class, of one byte or of more; another ASCII byte is left to `other`
unfoldable pub char_row : List Range → ℕ → Move → Move → Move → Move
char_row cls b m lead other =
    cond (ltb b 0x80) (cond (meets cls b b) m other)
    (cond (ltb b 0xC0) bad
    (cond (ltb b 0xE0) (cond (fits cls ((b - 0xC0) * 64) one 0x80) lead bad)
    (cond (ltb b 0xF0) (cond (fits cls ((b - 0xE0) * 4096) two 0x800) lead bad)
    (cond (ltb b 0xF8) (cond (fits cls ((b - 0xF0) * 262144) three 0x10000) lead bad) bad))))

abbrev pub any_row : ℕ → ℕ → Move
any_row m b = char_row any_char b (to m stay) (to m lead_any) bad

abbrev pub name_row : ℕ → Move → ℕ → Move
name_row m other b = char_row name_char b (to m stay) (to m lead_name) other

-- ---- text
abbrev pub space_row : ℕ → ℕ → ℕ → Move
space_row lt own b = cond (eqb b 0x3C) (to lt text_end) (cond (is_space b) (to own stay) bad)

abbrev pub first_row : ℕ → Move
first_row b = space_row lt_first text_before b

abbrev pub begin_row : ℕ → Move
begin_row b = cond (eqb b 0xEF) (to first 0x37) (first_row b)

abbrev pub text_row : ℕ → Move → ℕ → Move
text_row more angle b =
    cond (eqb b 0x3C) (to lt_in text_end)
    (cond (eqb b 0x26) (to ref_open text_end)
    (cond (eqb b 0x5D) (to more stay)
    (cond (eqb b 0x3E) angle (any_row text_in_of b))))

abbrev pub section_row : ℕ → Move → ℕ → Move
section_row more angle b = cond (eqb b 0x5D) (to more stay) (cond (eqb b 0x3E) angle (any_row cdata b))

-- ---- `<`
abbrev pub opens_row : ℕ → ℕ → Move
opens_row bang b = cond (eqb b 0x3F) (to pi_open marked) (only 0x21 bang stay b)

abbrev pub lt_before_row : ℕ → Move
lt_before_row b = char_row name_start b (to tag_name here) (to tag_name lead_here) (opens_row bang_out b)

abbrev pub lt_first_row : ℕ → Move
lt_first_row b = cond (eqb b 0x3F) (to pi_first marked) (lt_before_row b)

abbrev pub lt_in_row : ℕ → Move
lt_in_row b = char_row name_start b (to tag_name here) (to tag_name lead_here) (cond (eqb b 0x2F) (to end_name closing) (opens_row bang_in b))

abbrev pub bang_in_row : ℕ → Move
bang_in_row b = cond (eqb b 0x2D) (to bang_dash stay) (only 0x5B cdata 0x30 b)

-- ---- comments and instructions
abbrev pub comment_row : ℕ → ℕ → Move
comment_row more b = cond (eqb b 0x2D) (to more stay) (any_row comment b)

abbrev pub target_end : ℕ → Move
target_end b = cond (is_space b) (to pi_data stay) (only 0x3F pi_close stay b)

abbrev pub target0_row : ℕ → Move
target0_row b = cond (eqb (lower b) 0x78) (to pi_x stay) (char_row name_start b (to pi_name stay) (to pi_name lead_start) bad)

abbrev pub target1_row : ℕ → Move
target1_row b = cond (eqb (lower b) 0x6D) (to pi_xm stay) (name_row pi_name (target_end b) b)

abbrev pub target2_row : ℕ → Move
target2_row b = cond (eqb (lower b) 0x6C) (to pi_xml stay) (name_row pi_name (target_end b) b)

abbrev pub target3_row : ℕ → Move
target3_row b = name_row pi_name bad b

abbrev pub target_row : ℕ → Move
target_row b = name_row pi_name (target_end b) b

abbrev pub pi_data_row : ℕ → Move
pi_data_row b = cond (eqb b 0x3F) (to pi_query stay) (any_row pi_data b)

abbrev pub pi_query_row : ℕ → Move
pi_query_row b = cond (eqb b 0x3F) (to pi_query stay) (cond (eqb b 0x3E) (to text_in_of pi_end) (any_row pi_data b))

abbrev pub head3_row : ℕ → Move
head3_row b = cond (is_space b) (to decl_space0 stay) (target3_row b)

abbrev pub head_row : ℕ → ℕ → (ℕ → Move) → ℕ → Move
head_row c m other b = cond (eqb b c) (to m stay) (other b)

-- ---- the declaration
abbrev pub decl_end : ℕ → Move
decl_end b = only 0x3F pi_close stay b

abbrev pub opening_row : ℕ → Move
opening_row b = cond (is_space b) (to decl_space0 stay) (only 0x76 decl_eq0 0x31 b)

abbrev pub between_row0 : ℕ → Move
between_row0 b = cond (is_space b) (to decl_space1 stay) (cond (eqb b 0x65) (to decl_eq1 0x32) (cond (eqb b 0x73) (to decl_eq2 0x33) (decl_end b)))

abbrev pub between_row1 : ℕ → Move
between_row1 b = cond (is_space b) (to decl_space2 stay) (cond (eqb b 0x73) (to decl_eq2 0x33) (decl_end b))

abbrev pub between_row2 : ℕ → Move
between_row2 b = cond (is_space b) (to decl_space3 stay) (decl_end b)

abbrev pub equals_row : ℕ → ℕ → ℕ → Move
equals_row own q b = cond (is_space b) (to own stay) (only 0x3D q stay b)

abbrev pub quoting_row : ℕ → ℕ → ℕ → ℕ → ℕ → Move
quoting_row own d s a b = cond (is_space b) (to own stay) (cond (eqb b (mark double)) (to d a) (cond (eqb b (mark single)) (to s a) bad))

abbrev pub valued_row : ℕ → ℕ → Move
valued_row m b = cond (is_space b) (to m stay) (decl_end b)

abbrev pub point_row : ℕ → ℕ → Move
point_row m b = cond (is_digit b) (to m stay) bad

abbrev pub choice_row : ℕ → ℕ → Move
choice_row m b = cond (eqb b 0x79) (to m 0x35) (only 0x6E m 0x36 b)

abbrev pub digit_row : ℕ → Quote → ℕ → Move
digit_row m q b = cond (is_digit b) (to m stay) (only (mark q) decl_after1 stay b)

-- ---- tags
abbrev pub behind : ℕ → ℕ → ℕ → Move
behind a start b = cond (is_space b) (to in_tag a) (cond (eqb b 0x2F) (to tag_slash a) (only 0x3E text_in_of start b))

abbrev pub tag_name_row : ℕ → Move
tag_name_row b = name_row tag_name (behind name_end name_start_end b) b

abbrev pub in_tag_row : ℕ → Move
in_tag_row b = char_row name_start b (to key here) (to key lead_here) (behind stay start_end b)

abbrev pub key_row : ℕ → Move
key_row b = name_row key (cond (is_space b) (to key_eq key_end) (only 0x3D quote key_end b)) b

abbrev pub end_tag_row : ℕ → Move
end_tag_row b = cond (is_space b) (to end_tag stay) (only 0x3E text_in_of end_end b)

abbrev pub value_row_of : Quote → ℕ → ℕ → Move
value_row_of q m b = cond (eqb b (mark q)) (to value_end value_ended) (cond (eqb b 0x26) (to ref_open stay) (cond (eqb b 0x3C) bad (any_row m b)))

-- ---- references
abbrev pub ref_open_row : ℕ → Move
ref_open_row b = char_row name_start b (to ref_name stay) (to ref_name lead_start) (only 0x23 ref_hash stay b)

abbrev pub ref_name_row : ℕ → Move
ref_name_row b = name_row ref_name (only 0x3B text_in_of ref_end b) b

abbrev pub ref_hash_row : ℕ → Move
ref_hash_row b = cond (is_digit b) (to ref_digits stay) (only 0x78 ref_x stay b)

abbrev pub ref_digits_row : ℕ → Move
ref_digits_row b = cond (is_digit b) (to ref_digits stay) (only 0x3B text_in_of ref_end b)

abbrev pub ref_xRow : ℕ → Move
ref_xRow b = cond (is_hex b) (to ref_hex stay) bad

abbrev pub ref_hex_row : ℕ → Move
ref_hex_row b = cond (is_hex b) (to ref_hex stay) (only 0x3B text_in_of ref_end b)

-- the modes in order
unfoldable pub all_rows : List (ℕ → Move)
all_rows =
    (space_row lt_before text_before)
    ∷ (space_row lt_after text_after_of)
    ∷ (text_row text_shut1 (to text_in_of stay))
    ∷ (text_row text_shut2 (to text_in_of stay))
    ∷ (text_row text_shut2 bad)
    ∷ first_row
    ∷ lt_first_row
    ∷ lt_before_row
    ∷ lt_in_row
    ∷ (opens_row bang_out)
    ∷ (only 0x2D bang_dash stay)
    ∷ bang_in_row
    ∷ (only 0x2D comment marked)
    ∷ (comment_row comment1)
    ∷ (comment_row comment2)
    ∷ (only 0x3E text_in_of comment_end)
    ∷ (section_row cdata1 (to cdata stay))
    ∷ (section_row cdata2 (to cdata stay))
    ∷ (section_row cdata2 (to text_in_of cdata_end))
    ∷ (head_row 0x78 pi_xFirst target0_row)
    ∷ target0_row
    ∷ (head_row 0x6D pi_xm_first target1_row)
    ∷ target1_row
    ∷ (head_row 0x6C pi_xml_first target2_row)
    ∷ target2_row
    ∷ head3_row
    ∷ target3_row
    ∷ target_row
    ∷ (only 0x3E text_in_of pi_end)
    ∷ pi_data_row
    ∷ pi_query_row
    ∷ opening_row
    ∷ between_row0
    ∷ between_row1
    ∷ between_row2
    ∷ (equals_row decl_eq0 decl_quote0)
    ∷ (equals_row decl_eq1 decl_quote1)
    ∷ (equals_row decl_eq2 decl_quote2)
    ∷ (quoting_row decl_quote0 version_d version_s 0x34)
    ∷ (quoting_row decl_quote1 encoding_d encoding_s 0x38)
    ∷ (quoting_row decl_quote2 standalone_d standalone_s stay)
    ∷ (valued_row decl_space1)
    ∷ (valued_row decl_space2)
    ∷ (valued_row decl_space3)
    ∷ begin_row
    ∷ (point_row digits_d)
    ∷ (point_row digits_s)
    ∷ (digit_row digits_d double)
    ∷ (digit_row digits_s single)
    ∷ (only (mark double) decl_after2 stay)
    ∷ (only (mark single) decl_after2 stay)
    ∷ (choice_row answer_d)
    ∷ (choice_row answer_s)
    ∷ (only (mark double) decl_after3 stay)
    ∷ (only (mark single) decl_after3 stay)
    ∷ tag_name_row
    ∷ in_tag_row
    ∷ (only 0x3E text_in_of empty_end)
    ∷ key_row
    ∷ (equals_row key_eq quote)
    ∷ (quoting_row quote value_d value_s quoted)
    ∷ (value_row_of double value_d)
    ∷ (value_row_of single value_s)
    ∷ (behind stay start_end)
    ∷ end_tag_row
    ∷ ref_open_row
    ∷ ref_name_row
    ∷ ref_hash_row
    ∷ ref_digits_row
    ∷ ref_xRow
    ∷ ref_hex_row
    ∷ (always (to end_name wanted))
    ∷ (always (to within further))
    ∷ (always (to spelled letter))
    ∷ []

-- the move of the mode at the byte
unfoldable pub move_of : ℕ → ℕ → Move
move_of m b = get_or all_rows (m - 48) (always bad) b
