-- The code's table: the sentences, each in a line of its own. Assumes nothing.
use Prim.Native.Nat.{ℕ}
use mathlib.Core.Path.{◌≡◌, refl}
use mathlib.Core.List.{List, ◌++◌, ◌∷◌}
use mathlib.Core.Bool.{Bool, true, false, cond}
use lib.Dec.{eqb}
use Rattle.list_text.specs.of_names.Bytes.{bytes}
use Rattle.explain_lines.specs.Lines.{line_in}
use Rattle.explain_xml.specs.XmlExplanation.{short_sentence, xml_sentence}
use Rattle.explain_xml.specs.inside.Place.{short_place, place_of}

abbrev pub table : List ℕ
table =
    bytes "from this byte on the document is not well-formed XML"
    ++ (10 ∷ (bytes "the document ends too early"
    ++ (10 ∷ (bytes "a document type declaration is not taken"
    ++ (10 ∷ (bytes "the document is longer than 16777216 bytes"
    ++ (10 ∷ (bytes "the area for events or attributes is too short"
    ++ (10 ∷ (bytes "the area for attributes is too short, or the document has more than 65536 events"
    ++ (10 ∷ (bytes "the area for events is too short, or the document has more than 65536 attributes"
    ++ (10 ∷ (bytes "the document has more than 65536 events or attributes"
    ++ (10 ∷ bytes "?")))))))))))))))

short-at : (x y : Bool) → line_in (short_place x y) table ≡ short_sentence x y
unfolding line_in
short-at true true = refl
short-at true false = refl
short-at false true = refl
short-at false false = refl

by_tests : (x y a e b c d : Bool) → line_in (cond a (cond e 1 0) (cond b 2 (cond c 3 (cond d (short_place x y) 8)))) table
    ≡ cond a (cond e (bytes "the document ends too early") (bytes "from this byte on the document is not well-formed XML"))
    (cond b (bytes "a document type declaration is not taken") (cond c (bytes "the document is longer than 16777216 bytes") (cond d (short_sentence x y) (bytes "?"))))
unfolding line_in
by_tests x y true true b c d = refl
by_tests x y true false b c d = refl
by_tests x y false e true c d = refl
by_tests x y false e false true d = refl
by_tests x y false e false false true = short-at x y
by_tests x y false e false false false = refl

pub sentence-at : (number : ℕ) (ended events attributes : Bool) → line_in (place_of number ended (short_place events attributes)) table ≡ xml_sentence number ended events attributes
unfolding xml_sentence
sentence-at number ended events attributes = by_tests events attributes (eqb number 18) ended (eqb number 19) (eqb number 11) (eqb number 16)
