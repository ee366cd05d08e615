-- The number of a tag's first attribute changes neither the bytes nor how events come back. Assumes nothing.
use Prim.Native.Nat.{ℕ, ◌+◌, ◌-◌}
use mathlib.Core.Path.{◌≡◌, refl, ap, ◌∙◌}
use mathlib.Core.List.{List, [], ◌∷◌, ◌++◌}
use mathlib.Core.Bool.{Bool, true, false}
use lib.ListN.{length}
use Rattle.xml_grammar.specs.of_names.Bytes.{bytes}
use Rattle.xml_grammar.specs.of_table.Event.{Attribute, TagKind, Start, Empty, End, Text, CData, Ref, Other, Indent, Event, Tag, Piece, Eof, Fault}
use Rattle.round_elements.specs.of_write_report.Written.{numbered as ranked}
use Rattle.round_elements.specs.of_write_spelled.Spelled.{newline, line, attributes_text, spelled}
use Rattle.document_events.specs.inside.Respelt.{run, Joins, no-piece, a_piece, Respelt, a-tag, a-text, indented, declared, ended}
use Rattle.xml_grammar.specs.Events.{numbered}

-- ---- the bytes
pub spelled-ranked : (es : List Event) (l : ℕ) (b : Bool) (n : ℕ) → spelled l b (ranked n es) ≡ spelled l b es
unfolding spelled ranked
spelled-ranked [] l b n = refl
spelled-ranked (Tag Start name first xs ∷ es) l b n = ap (λ x. line l b ++ (bytes "<" ++ (name ++ (attributes_text xs ++ (bytes ">" ++ x))))) (spelled-ranked es (l + 1) true (n + length xs))
spelled-ranked (Tag Empty name first xs ∷ es) l b n = ap (λ x. line l b ++ (bytes "<" ++ (name ++ (attributes_text xs ++ (bytes "/>" ++ x))))) (spelled-ranked es l true (n + length xs))
spelled-ranked (Tag End name first xs ∷ es) l b n =
    ap (λ x. line (l - 1) b ++ (bytes "</" ++ (name ++ (attributes_text xs ++ (bytes ">" ++ x))))) (spelled-ranked es (l - 1) true (n + length xs))
spelled-ranked (Piece Text s ∷ es) l b n = ap (λ x. s ++ x) (spelled-ranked es l false (n + 0))
spelled-ranked (Piece CData s ∷ es) l b n = ap (λ x. s ++ x) (spelled-ranked es l false (n + 0))
spelled-ranked (Piece Ref s ∷ es) l b n = ap (λ x. s ++ x) (spelled-ranked es l false (n + 0))
spelled-ranked (Piece Other s ∷ es) l b n = ap (λ x. line l b ++ (bytes "<?" ++ (s ++ (bytes "?>" ++ x)))) (spelled-ranked es l true (n + 0))
spelled-ranked (Piece Indent s ∷ es) l b n = ap (λ x. newline l ++ x) (spelled-ranked es l false (n + 0))
spelled-ranked (Eof ∷ es) l b n = spelled-ranked es l b (n + 0)
spelled-ranked (Fault ∷ es) l b n = spelled-ranked es l b (n + 0)

-- ---- the events
numbered-run : (j : ℕ) (w : List ℕ) (fs : List Event) → numbered j (run w ++ fs) ≡ run w ++ numbered j fs
numbered-run j [] fs = refl
numbered-run j (b ∷ w) fs = refl

numbered-pieces : (j : ℕ) {ps : List Event} {v : List ℕ} → Joins ps v → (fs : List Event) → numbered j (ps ++ fs) ≡ ps ++ numbered j fs
numbered-pieces j no-piece fs = refl
numbered-pieces j (a_piece {k = k} {s = s} e p) fs = ap (λ x. Piece k s ∷ x) (numbered-pieces j p fs)

-- a tag's own number, and the one to go on with
record Numbered (j : ℕ) (kind : TagKind) (name : List ℕ) (i : ℕ) (xs : List Attribute) (fs : List Event) : Type 0 where
  own : ℕ
  next : ℕ
  same : numbered j (Tag kind name i xs ∷ fs) ≡ Tag kind name own xs ∷ numbered next fs

numbered-tag : (j : ℕ) (kind : TagKind) (name : List ℕ) (i : ℕ) (xs : List Attribute) (fs : List Event) → Numbered j kind name i xs fs
numbered-tag j kind name i [] fs = record { own = 0; next = j; same = refl }
numbered-tag j kind name i (a ∷ more) fs = record { own = j; next = j + length (a ∷ more); same = refl }

pub renumbered : {fresh : Bool} {es gs : List Event} → Respelt fresh es gs → (n j : ℕ) → Respelt fresh (ranked n es) (numbered j gs)
unfolding ranked
renumbered (a-tag {kind = kind} {name = name} {xs = xs} {fs = fs} w i e r q) n j =
    let t = numbered-tag j kind name i xs fs in
    a-tag w t.own e (renumbered r (n + length xs) t.next) (ap (numbered j) q ∙ numbered-run j w (Tag kind name i xs ∷ fs) ∙ ap (λ x. run w ++ x) t.same)
renumbered (a-text {ps = ps} {fs = fs} e p r q) n j = a-text e p (renumbered r (n + 0) j) (ap (numbered j) q ∙ numbered-pieces j p fs)
renumbered (indented {ps = ps} {fs = fs} w e h p r q) n j = indented w e h p (renumbered r (n + 0 + 0) j) (ap (numbered j) q ∙ numbered-pieces j p fs)
renumbered (declared r) n j = declared (renumbered r (n + 0) j)
renumbered (ended w e q) n j = ended w e (ap (numbered j) q ∙ numbered-run j w (Eof ∷ []))
