-- The numbers of first attributes, where events are added one by one. Assumes nothing.
use Prim.Native.Nat.{ℕ, suc, ◌+◌}
use mathlib.Core.Path.{◌≡◌, refl, sym, ap, ◌∙◌}
use mathlib.Core.List.{List, [], ◌∷◌, ◌++◌}
use native.Mathlib.Omega.{arith}
use lib.ListN.{length}
use Rattle.xml_complete.specs.of_table.Event.{Event, Tag, Piece, Eof, Fault}
use Rattle.xml_complete.specs.of_xml_grammar.Events.{numbered}
use Rattle.xml_tokens.specs.Due.{attributes_in}

pub numbered-append : (j : ℕ) (es fs : List Event) → numbered j (es ++ fs) ≡ numbered j es ++ numbered (j + attributes_in es) fs
numbered-append j [] fs = let z : j ≡ j + 0 = omega arith in ap (λ (n : ℕ). numbered n fs) z
numbered-append j (Tag k n f [] ∷ es) fs = let z : 0 + attributes_in es ≡ attributes_in es = omega arith in ap (λ (l : List Event). Tag k n 0 [] ∷ l) (numbered-append j es fs ∙ ap (λ (i : ℕ). numbered j es ++ numbered (j + i) fs) (sym z))
numbered-append j (Tag k n f (a ∷ more) ∷ es) fs =
    let z : (j + length (a ∷ more)) + attributes_in es ≡ j + (length (a ∷ more) + attributes_in es) = omega arith in
    ap (λ (l : List Event). Tag k n j (a ∷ more) ∷ l) (numbered-append (j + length (a ∷ more)) es fs ∙ ap (λ (i : ℕ). numbered (j + length (a ∷ more)) es ++ numbered i fs) z)
numbered-append j (Piece k s ∷ es) fs = ap (λ (l : List Event). Piece k s ∷ l) (numbered-append j es fs)
numbered-append j (Eof ∷ es) fs = ap (λ (l : List Event). Eof ∷ l) (numbered-append j es fs)
numbered-append j (Fault ∷ es) fs = ap (λ (l : List Event). Fault ∷ l) (numbered-append j es fs)

pub attributes-append : (es fs : List Event) → attributes_in (es ++ fs) ≡ attributes_in es + attributes_in fs
attributes-append [] fs = omega arith
attributes-append (Tag k n f xs ∷ es) fs = let z = attributes-append es fs in omega arith
attributes-append (Piece k s ∷ es) fs = attributes-append es fs
attributes-append (Eof ∷ es) fs = attributes-append es fs
attributes-append (Fault ∷ es) fs = attributes-append es fs

pub numbered-attributes : (j : ℕ) (es : List Event) → attributes_in (numbered j es) ≡ attributes_in es
numbered-attributes j [] = refl
numbered-attributes j (Tag k n f [] ∷ es) = ap (λ (i : ℕ). 0 + i) (numbered-attributes j es)
numbered-attributes j (Tag k n f (a ∷ more) ∷ es) = ap (λ (i : ℕ). length (a ∷ more) + i) (numbered-attributes (j + length (a ∷ more)) es)
numbered-attributes j (Piece k s ∷ es) = numbered-attributes j es
numbered-attributes j (Eof ∷ es) = numbered-attributes j es
numbered-attributes j (Fault ∷ es) = numbered-attributes j es

pub numbered-length : (j : ℕ) (es : List Event) → length (numbered j es) ≡ length es
numbered-length j [] = refl
numbered-length j (Tag k n f [] ∷ es) = ap suc (numbered-length j es)
numbered-length j (Tag k n f (a ∷ more) ∷ es) = ap suc (numbered-length (j + length (a ∷ more)) es)
numbered-length j (Piece k s ∷ es) = ap suc (numbered-length j es)
numbered-length j (Eof ∷ es) = ap suc (numbered-length j es)
numbered-length j (Fault ∷ es) = ap suc (numbered-length j es)
