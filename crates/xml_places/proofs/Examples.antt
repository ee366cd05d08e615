-- Places of small documents, computed, and tables that the claims exclude. Assumes nothing.
use Prim.Native.Nat.{ℕ}
use mathlib.Core.Path.{◌≡◌, refl, sym, ap, ◌∙◌}
use mathlib.Core.List.{List, [], ◌∷◌, ◌++◌, append-nil}
use native.Mathlib.Omega.{arith}
use lib.ListN.{get_or}
use Rattle.xml_tokens.specs.of_names.Bytes.{bytes}
use Rattle.xml_tokens.specs.of_utf8.Characters.{encode}
use Rattle.xml_tokens.specs.of_table.Event.{event_of, event_at, attributes_from, resolve_from, resolve}
use Rattle.xml_tokens.specs.of_table.Table.{check_from, check_event, good_sizes, good_shape, bad_from, check_of}
use Rattle.std.specs.Prelude.{Ok}
use Rattle.xml_tokens.specs.of_xml_chars.Chars.{crosses, single}
use Rattle.xml_tokens.specs.of_xml_grammar.Grammar.{no_char, a-char, chars, Name, name_of, Value, no_value, value-char, no-attribute, attribute, CharData, data_of}
use Rattle.xml_tokens.specs.of_xml_grammar.Grammar.{last-space, comment, plain, no-remark, Remark, misc, empty, pair, last-data, undeclared, document}
use Rattle.xml_tokens.specs.of_xml_grammar.Events.{element_of, content_of}
use Rattle.xml_tokens.specs.of_xml_grammar.Documents.{unmarked, marked, WellFormed, events_of}
use Rattle.xml_tokens.specs.of_xml_machine.Tokens.{Rec, rec, Due}
use Rattle.xml_tokens.specs.Due.{attributes_due}
use Rattle.xml_places.specs.Places.{element_attributes, content_attributes, element_at, content_at, events_placed, attributes_placed, event_words}
use Rattle.xml_places.specs.Begun.{Begun}
use Rattle.xml_places.proofs.Broken.{attributes-append, run_none}

name-a : Name (bytes "a")
unfolding crosses
name-a = name_of refl no_char

name-x : Name (bytes "x")
unfolding crosses
name-x = name_of refl no_char

data_a : CharData (bytes "a")
unfolding crosses
data_a = data_of (a-char refl no_char) refl

value-1 : Value single (bytes "1")
unfolding crosses
value-1 = value-char refl no_value

remark_c : Remark (bytes "c")
unfolding crosses
remark_c = plain refl no-remark

-- ---- <a>a</a>
abbrev letter : WellFormed (bytes "<a>a</a>")
unfolding encode
letter = record {
  front = [];
  chars = bytes "<a>a</a>";
  skipped = unmarked;
  spelt = refl;
  derived = document (undeclared (last-space no_char)) (pair name-a (no-attribute no_char) (last-data data_a) no_char refl) (last-space no_char);
}

letter-placed : events_placed letter ≡ rec 0 1 1 0 0 ∷ rec 3 3 1 0 0 ∷ rec 2 6 1 0 0 ∷ rec 7 0 0 0 0 ∷ []
unfolding element_at content_at encode
letter-placed = refl

-- the same table with a Text that points at byte 1, where an `a` stands, too
abbrev astray : List ℕ
astray = 0 ∷ 1 ∷ 1 ∷ 0 ∷ 0 ∷ 3 ∷ 1 ∷ 1 ∷ 0 ∷ 0 ∷ 2 ∷ 6 ∷ 1 ∷ 0 ∷ 0 ∷ 7 ∷ 0 ∷ 0 ∷ 0 ∷ 0 ∷ []

-- it resolves to the same events and passes refusal 11
astray-resolves : resolve astray [] (bytes "<a>a</a>") ≡ events_of letter
unfolding event_of event_at attributes_from resolve_from resolve element_of content_of encode
astray-resolves = refl

astray-passes : check_of astray [] (bytes "<a>a</a>") ≡ Ok tt
unfolding check_from check_event good_sizes good_shape bad_from check_of
astray-passes = refl

-- but has not the derivation's words
astray-refused : ¬ (astray ≡ event_words letter)
unfolding element_at content_at encode
astray-refused e = let z : ◌≡◌ {A = ℕ} 1 3 = ap (λ (l : List ℕ). get_or l 6 0) e in omega arith

-- ---- behind a byte-order mark: <!--c--><a x='1'/>
abbrev remarked : WellFormed (0xEF ∷ 0xBB ∷ 0xBF ∷ bytes "<!--c--><a x='1'/>")
unfolding encode
remarked = record {
  front = 0xEF ∷ 0xBB ∷ 0xBF ∷ [];
  chars = bytes "<!--c--><a x='1'/>";
  skipped = marked;
  spelt = refl;
  derived =
      document (undeclared (misc no_char (comment remark_c) (last-space no_char)))
      (empty name-a (attribute {w = 32 ∷ []} (chars refl no_char) name-x no_char no_char single value-1 (no-attribute no_char)) refl) (last-space no_char);
}

remarked-placed : (events_placed remarked ≡ rec 6 7 1 0 0 ∷ rec 1 12 1 0 1 ∷ rec 7 0 0 0 0 ∷ []) × (attributes_placed remarked ≡ rec 0 14 1 17 1 ∷ [])
unfolding element_at content_at element_attributes content_attributes encode
remarked-placed = (refl, refl)

-- ---- <a x=''/> and <a x='1'/>, which begin alike up to the opening quote
abbrev valueless : WellFormed (bytes "<a x=''/>")
unfolding encode
valueless = record {
  front = [];
  chars = bytes "<a x=''/>";
  skipped = unmarked;
  spelt = refl;
  derived =
      document (undeclared (last-space no_char))
      (empty name-a (attribute {w = 32 ∷ []} (chars refl no_char) name-x no_char no_char single no_value (no-attribute no_char)) refl) (last-space no_char);
}

abbrev valued : WellFormed (bytes "<a x='1'/>")
unfolding encode
valued = record {
  front = [];
  chars = bytes "<a x='1'/>";
  skipped = unmarked;
  spelt = refl;
  derived =
      document (undeclared (last-space no_char))
      (empty name-a (attribute {w = 32 ∷ []} (chars refl no_char) name-x no_char no_char single value-1 (no-attribute no_char)) refl) (last-space no_char);
}

-- a value without length has the place 0
valueless-placed : attributes_placed valueless ≡ rec 0 3 1 0 0 ∷ []
unfolding element_attributes content_attributes encode
valueless-placed = refl

valued-placed : attributes_placed valued ≡ rec 0 3 1 6 1 ∷ []
unfolding element_attributes content_attributes encode
valued-placed = refl

abbrev first_of : List Rec → Rec
first_of [] = rec 0 0 0 0 0
first_of (r ∷ rs) = r

abbrev length_of : Rec → ℕ
length_of (rec m a b c d) = d

due-first : (ds : List Due) (r : Rec) (es xs : List Rec) → attributes_due ds ≡ r ∷ [] → Begun ds es xs → first_of xs ≡ r
due-first ds r es xs d (ended, run, e, (rest, f, g), (more, h)) =
    let z : attributes_due ended ≡ r ∷ [] =
    sym (append-nil (attributes_due ended)) ∙ ap (λ (l : List Rec). attributes_due ended ++ l) (sym (run_none run rest g)) ∙ sym (attributes-append ended (run ∷ [])) ∙ ap attributes_due (sym e) ∙ d in
    ap first_of (h ∙ ap (λ (l : List Rec). l ++ more) z)

-- whatever record were due for the attribute at its opening quote, it would not begin the records of both documents
early-refused : (ds : List Due) (r : Rec) → attributes_due ds ≡ r ∷ [] → Begun ds (events_placed valueless) (attributes_placed valueless) → ¬ Begun ds (events_placed valued) (attributes_placed valued)
early-refused ds r d b c =
    let p = sym (ap first_of valueless-placed) ∙ due-first ds r (events_placed valueless) (attributes_placed valueless) d b in
    let q = sym (ap first_of valued-placed) ∙ due-first ds r (events_placed valued) (attributes_placed valued) d c in
    let z : ◌≡◌ {A = ℕ} 0 1 = ap length_of (p ∙ sym q) in
    omega arith

-- so a definition that counts an attribute at its opening quote isn't one of what is due
early_excluded : (dues : List ℕ → List Due) (r : Rec) → attributes_due (dues (bytes "<a x='")) ≡ r ∷ [] →
    ¬ ((p t : List ℕ) (w : WellFormed (p ++ t)) → Begun (dues p) (events_placed w) (attributes_placed w))
early_excluded dues r d f = early-refused (dues (bytes "<a x='")) r d (f (bytes "<a x='") (bytes "'/>") valueless) (f (bytes "<a x='") (bytes "1'/>") valued)
