-- Attributes and elements of a report that fits XML, part by part. Assumes nothing.
use Prim.Native.Nat.{ℕ}
use mathlib.Core.Path.{◌≡◌, refl, ap, ◌∙◌}
use mathlib.Core.List.{List, [], ◌∷◌, ◌++◌, map}
use mathlib.Core.Bool.{Bool, true}
use mathlib.Core.Option.{Option, none, some}
use Rattle.xml_grammar.specs.of_names.Bytes.{bytes}
use Rattle.document_events.specs.of_utf8.Utf8 as bytewise
use Rattle.document_events.specs.of_timestamp.declared.Moment.{Moment}
use Rattle.xml_grammar.specs.of_table.Event.{Attribute, Event}
use Rattle.document_events.specs.of_tree_report.Report.{Text, Duration, Pair}
use Rattle.document_events.specs.of_tree_report.Encode.{every}
use Rattle.document_events.proofs.of_tree_report.EncodeLists.{and_left, and_right, Each, done, more}
use Rattle.round_elements.specs.of_write_escape.Escape.{escaped}
use Rattle.round_elements.specs.of_write_report.Written.{attribute, textual, numeric, optional, stamped, timed, extra_attribute, start_tag, end_tag, indented, each, element}
use Rattle.round_elements.specs.Plain.{listed}
use Rattle.xml_grammar.specs.of_xml_chars.Chars.{crosses, double}
use Rattle.xml_grammar.specs.Grammar.{Name, Value}
use Rattle.document_grammar.specs.XmlFit.{xml_text, xml_name, fit_extra}
use Rattle.document_grammar.proofs.Characters.{Spelt, text-spelt, name-spelt}
use Rattle.document_grammar.proofs.Escapes.{escaped-utf8, escaped-value}
use Rattle.document_grammar.proofs.Values.{number-spelt, time-spelt, timestamp-spelt}
use Rattle.document_grammar.proofs.Attributes.{Fits, Fine, fine}
use Rattle.document_grammar.proofs.Elements.{Whole, Kids, no-kid, a_kid, whole-empty, whole-kids, whole-text, whole-both, kids_append}

-- ---- tests of lists
pub every_front : {A : Type 0} (p : A → Bool) (xs ys : List A) → every p (xs ++ ys) ≡ true → every p xs ≡ true
every_front p [] ys e = refl
every_front p (x ∷ xs) ys e = rw (and_left (p x) (every p (xs ++ ys)) e) (every_front p xs ys (and_right (p x) (every p (xs ++ ys)) e))

pub every-behind : {A : Type 0} (p : A → Bool) (xs ys : List A) → every p (xs ++ ys) ≡ true → every p ys ≡ true
every-behind p [] ys e = e
every-behind p (x ∷ xs) ys e = every-behind p xs ys (and_right (p x) (every p (xs ++ ys)) e)

-- ---- attributes
value-spelt : (t : Text) → xml_text t ≡ true → Spelt (Value double) (escaped t)
value-spelt t e =
    let s = text-spelt t e in
    record { chars = escaped s.chars; same = ap escaped s.same ∙ escaped-utf8 s.chars s.are; are = escaped-value s.chars s.are }

one : {k v : List ℕ} → Spelt Name k → Spelt (Value double) v → Each Fine (attribute k v ∷ [])
one n v = more (fine n v refl) done

module _ (key : List ℕ) (k : xml_name key ≡ true) where
  pub textual-fine : (t : Text) → xml_text t ≡ true → Each Fine (textual key t)
  textual-fine t e = one (name-spelt key k) (value-spelt t e)

  pub numeric-fine : (n : ℕ) → Each Fine (numeric key n)
  numeric-fine n = one (name-spelt key k) (number-spelt n)

  pub texts-fine : (v : Option Text) → every xml_text (listed v) ≡ true → Each Fine (optional (textual key) v)
  texts-fine none e = done
  texts-fine (some t) e = textual-fine t (and_left (xml_text t) true e)

  pub numbers-fine : (v : Option ℕ) → Each Fine (optional (numeric key) v)
  numbers-fine none = done
  numbers-fine (some n) = numeric-fine n

pub stamped-fine : (m : Option Moment) → Each Fine (stamped m)
unfolding xml_name crosses bytewise.need bytewise.low bytewise.high
stamped-fine none = done
stamped-fine (some m) = one (name-spelt (bytes "timestamp") refl) (timestamp-spelt m)

pub timed-fine : (d : Option Duration) → Each Fine (timed d)
unfolding xml_name crosses bytewise.need bytewise.low bytewise.high
timed-fine none = done
timed-fine (some d) = one (name-spelt (bytes "time") refl) (time-spelt d.seconds d.nanos)

pub extras-fine : (ps : List Pair) → every fit_extra ps ≡ true → Each Fine (map extra_attribute ps)
unfolding fit_extra
extras-fine [] e = done
extras-fine (p ∷ ps) e =
    let f = and_left (fit_extra p) (every fit_extra ps) e in
    more (fine (name-spelt p.key (and_left (xml_name p.key) (xml_text p.value) f)) (value-spelt p.value (and_right (xml_name p.key) (xml_text p.value) f)) refl)
    (extras-fine ps (and_right (fit_extra p) (every fit_extra ps) e))

-- ---- elements
pub each-kids : {A : Type 0} (p : A → Bool) (f : A → List Event) → ((x : A) → p x ≡ true → Kids (f x)) → (xs : List A) → every p xs ≡ true → Kids (each f xs)
each-kids p f h [] e = no-kid
each-kids p f h (x ∷ xs) e = kids_append (h x (and_left (p x) (every p xs) e)) (each-kids p f h xs (and_right (p x) (every p xs) e))

module _ (name : List ℕ) (n : xml_name name ≡ true) {xs : List Attribute} (fits : Fits xs) where
  -- a suite or case: Empty without children
  pub element-whole : (es : List Event) → Kids es → Whole (element name xs es)
  element-whole [] k = whole-empty (name-spelt name n) fits
  element-whole (c ∷ cs) k = whole-kids (name-spelt name n) fits k

  -- a run: its description before its children
  pub run-whole : (d : Option Text) → every xml_text (listed d) ≡ true → (es : List Event) → Kids es → Whole (start_tag name xs ∷ (indented d es ++ (end_tag name ∷ [])))
  run-whole none e es k = whole-kids (name-spelt name n) fits k
  run-whole (some t) e [] k = whole-text (name-spelt name n) fits (text-spelt t (and_left (xml_text t) true e))
  run-whole (some t) e (c ∷ cs) (a_kid w k q) = whole-both (name-spelt name n) fits (text-spelt t (and_left (xml_text t) true e)) w k q
