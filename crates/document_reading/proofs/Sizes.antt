-- A document's pieces are no longer than the document. Assumes nothing.
use Prim.Native.Nat.{ℕ, ◌+◌, ◌≤◌}
use mathlib.Core.List.{List, [], ◌∷◌, ◌++◌}
use mathlib.Core.Path.{◌≡◌, refl, ap, ◌∙◌}
use native.Mathlib.Omega.{arith}
use lib.ListN.{length, length-append}
use Rattle.xml_grammar.specs.of_table.Event.{End, Event, Tag, Piece, Eof, Fault}
use Rattle.xml_grammar.specs.of_xml_chars.Bytes.{utf8}
use Rattle.xml_grammar.proofs.of_xml_chars.Encoding.{utf8_append}
use Rattle.xml_grammar.specs.Grammar.{Misc, comment, instruction, Miscs, last-space, misc, Beside, reference, section, aside, Element, empty, pair, Content, last-data, child, beside}
use Rattle.xml_grammar.specs.Grammar.{Prolog, undeclared, declared, Document, document}
use Rattle.xml_grammar.specs.Events.{text_of, misc_of, miscs_of, beside_of, element_of, content_of, prolog_of, document_of, numbered}
use Rattle.xml_grammar.specs.Documents.{WellFormed, events_of}
use Rattle.round_report.specs.of_round_rooms.Pieces.{event_size}
use Rattle.round_report.specs.of_round_rooms.inside.Sums.{pieces}

-- ---- lists
pieces-append : (a b : List Event) → pieces (a ++ b) ≡ pieces a + pieces b
unfolding pieces
pieces-append [] b = omega arith
pieces-append (e ∷ a) b = let h = pieces-append a b in omega arith

pieces-numbered : (j : ℕ) (es : List Event) → pieces (numbered j es) ≡ pieces es
unfolding pieces
pieces-numbered j [] = refl
pieces-numbered j (Tag k n f [] ∷ es) = ap (λ (n : ℕ). 0 + n) (pieces-numbered j es)
pieces-numbered j (Tag k n f (a ∷ more) ∷ es) = ap (λ (n : ℕ). 0 + n) (pieces-numbered (j + length (a ∷ more)) es)
pieces-numbered j (Piece k s ∷ es) = ap (λ (n : ℕ). event_size (Piece k s) + n) (pieces-numbered j es)
pieces-numbered j (Eof ∷ es) = ap (λ (n : ℕ). 0 + n) (pieces-numbered j es)
pieces-numbered j (Fault ∷ es) = ap (λ (n : ℕ). 0 + n) (pieces-numbered j es)

-- the bytes that characters take
abbrev size : List ℕ → ℕ
size s = length (utf8 s)

size-append : (a b : List ℕ) → size (a ++ b) ≡ size a + size b
size-append a b = ap length (utf8_append a b) ∙ length-append (utf8 a) (utf8 b)

-- characters between others
size-within : (a s b : List ℕ) → size s ≤ size (a ++ (s ++ b))
size-within a s b = omega (arith, size-append a (s ++ b), size-append s b)

-- ---- productions
text-size : (s : List ℕ) → pieces (text_of s) ≤ size s
unfolding pieces
text-size [] = omega arith
text-size (c ∷ s) = omega arith

misc-size : {s : List ℕ} (m : Misc s) → event_size (misc_of m) ≤ 0
misc-size (comment r) = omega arith
misc-size (instruction i) = omega arith

miscs-size : {s : List ℕ} (m : Miscs s) → pieces (miscs_of m) ≤ size s
unfolding pieces
miscs-size (last-space {w = w} s) = text-size w
miscs-size (misc {w = w} {e = e} {m = m} s i r) =
    let h = miscs-size r in
    let z = misc-size i in
    omega (arith, pieces-append (text_of w) (misc_of i ∷ miscs_of r), text-size w, size-append w (e ++ m), size-append e m)

beside-size : {s : List ℕ} (b : Beside s) → event_size (beside_of b) ≤ size s
beside-size (reference {n = n} r) = size-within (0x26 ∷ []) n (0x3B ∷ [])
beside-size (section {s = s} c l) = size-within (0x3C ∷ 0x21 ∷ 0x5B ∷ 0x43 ∷ 0x44 ∷ 0x41 ∷ 0x54 ∷ 0x41 ∷ 0x5B ∷ []) s (0x5D ∷ 0x5D ∷ 0x3E ∷ [])
beside-size (aside m) = let z = misc-size m in omega arith

-- content between a pair's tags
pair_size : (s n a c b : List ℕ) → s ≡ 0x3C ∷ (n ++ (a ++ (0x3E ∷ (c ++ b)))) → size c ≤ size s
pair_size s n a c b e =
    let f : size s ≡ size (0x3C ∷ (n ++ (a ++ (0x3E ∷ (c ++ b))))) = ap size e in
    omega (arith, f, size-append (0x3C ∷ []) (n ++ (a ++ (0x3E ∷ (c ++ b)))), size-append n (a ++ (0x3E ∷ (c ++ b))), size-append a (0x3E ∷ (c ++ b)), size-within (0x3E ∷ []) c b)

-- a part of content before the rest
behind-size : (s d e c : List ℕ) → s ≡ d ++ (e ++ c) → (x y z : ℕ) → x ≤ size d → y ≤ size e → z ≤ size c → x + (y + z) ≤ size s
behind-size s d e c q x y z f g h =
    let p : size s ≡ size (d ++ (e ++ c)) = ap size q in
    omega (arith, p, size-append d (e ++ c), size-append e c)

mutual
  unfolding element_of content_of pieces

  element-size : {s : List ℕ} (e : Element s) → pieces (element_of e) ≤ size s
  element-size (empty i a e) = omega arith
  element-size {s} (pair {n = n} {a = a} {c = c} {w = w} i h j k e) =
      let z = content-size j in
      let l : size c ≤ size s = pair_size s n a c (0x3C ∷ 0x2F ∷ (n ++ (w ++ (0x3E ∷ [])))) e in
      omega (arith, z, l, pieces-append (content_of j) (Tag End (utf8 n) 0 [] ∷ []))

  content-size : {s : List ℕ} (c : Content s) → pieces (content_of c) ≤ size s
  content-size (last-data {s = s} d) = text-size s
  content-size {s} (child {d = d} {e = e} {c = c} h i j q) =
      let z = behind-size s d e c q (pieces (text_of d)) (pieces (element_of i)) (pieces (content_of j)) (text-size d) (element-size i) (content-size j) in
      omega (arith, z, pieces-append (text_of d) (element_of i ++ content_of j), pieces-append (element_of i) (content_of j))
  content-size {s} (beside {d = d} {e = e} {c = c} h i j q) =
      let z = behind-size s d e c q (pieces (text_of d)) (event_size (beside_of i)) (pieces (content_of j)) (text-size d) (beside-size i) (content-size j) in
      omega (arith, z, pieces-append (text_of d) (beside_of i ∷ content_of j))

prolog-size : {s : List ℕ} (p : Prolog s) → pieces (prolog_of p) ≤ size s
unfolding pieces
prolog-size (undeclared m) = miscs-size m
prolog-size (declared {d = d} {m = m} h i) =
    let z = miscs-size i in
    omega (arith, size-append (0x3C ∷ 0x3F ∷ []) (d ++ (0x3F ∷ 0x3E ∷ m)), size-append d (0x3F ∷ 0x3E ∷ m), size-append (0x3F ∷ 0x3E ∷ []) m)

document-size : {s : List ℕ} (d : Document s) → pieces (document_of d) ≤ size s
unfolding pieces
document-size (document {p = p} {e = e} {m = m} i j k) =
    let z = behind-size (p ++ (e ++ m)) p e m refl (pieces (prolog_of i)) (pieces (element_of j)) (pieces (miscs_of k)) (prolog-size i) (element-size j) (miscs-size k) in
    omega (arith, z, pieces-append (prolog_of i) (element_of j ++ (miscs_of k ++ (Eof ∷ []))), pieces-append (element_of j) (miscs_of k ++ (Eof ∷ [])), pieces-append (miscs_of k) (Eof ∷ []))

pub document-pieces : {s : List ℕ} (w : WellFormed s) → pieces (events_of w) ≤ length s
document-pieces w =
    let n = pieces-numbered 0 (document_of w.derived) in
    let l = ap length w.spelt ∙ length-append w.front (utf8 w.chars) in
    let z = document-size w.derived in
    omega (arith, n, l, z)
