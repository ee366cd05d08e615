-- Pieces and the byte area that they are laid out in: only an Indent's newline isn't there. Assumes nothing.
use Prim.Native.Nat.{ℕ, zero, suc, ◌+◌, ◌≤◌}
use mathlib.Core.Path.{◌≡◌, ap, ◌∙◌}
use mathlib.Core.List.{List, [], ◌∷◌, ◌++◌}
use mathlib.Core.Bool.{Bool, true, false, cond}
use native.Mathlib.Omega.{arith}
use lib.ListN.{length, length-append}
use lib.Dec.{eqb, lit≤}
use Rattle.write_report.specs.of_table.Event.{Attribute, Text, CData, Ref, Other, Indent, Event, Tag, Piece, Eof, Fault, event_of, event_at, resolve_from, resolve, kind_at, bytes_at, attributes_from}
use Rattle.write_report.specs.of_table.Kinds as kind
use Rattle.write_report.specs.of_table.Table.{word, count_of}
use Rattle.write_report.proofs.of_tree_report.EncodeLists.{Each, done, more}
use Rattle.write_table.specs.Laid.{Item, entry, pair, items_of_event, items_of, laid_bytes}
use Rattle.write_table.proofs.Writing.{items_append}
use Rattle.round_rooms.specs.Pieces.{event_size}
use Rattle.round_rooms.specs.inside.Sums.{pieces}
use Rattle.round_rooms.specs.Needs.{event_bytes, most_text_of}

pub laid-append : (is js : List Item) → length (laid_bytes (is ++ js)) ≡ length (laid_bytes is) + length (laid_bytes js)
unfolding laid_bytes
laid-append [] js = omega arith
laid-append (entry k s n ∷ is) js = omega (arith, laid-append is js, length-append s (laid_bytes (is ++ js)), length-append s (laid_bytes is))
laid-append (pair key value ∷ is) js = omega (arith, laid-append is js, length-append (key ++ value) (laid_bytes (is ++ js)), length-append (key ++ value) (laid_bytes is))

-- the bytes of events in the byte area
abbrev pub laid_size : List Event → ℕ
laid_size es = length (laid_bytes (items_of es))

pub laid-first : (e : Event) (es : List Event) → laid_size (e ∷ es) ≡ length (laid_bytes (items_of_event e)) + laid_size es
unfolding items_of
laid-first e es = laid-append (items_of_event e) (items_of es)

pub laid-events : (es fs : List Event) → laid_size (es ++ fs) ≡ laid_size es + laid_size fs
laid-events es fs = ap (λ (is : List Item). length (laid_bytes is)) (items_append es fs) ∙ laid-append (items_of es) (items_of fs)

pub text-append : (es fs : List Event) → most_text_of (es ++ fs) ≡ most_text_of es + most_text_of fs
unfolding most_text_of
text-append [] fs = omega arith
text-append (e ∷ es) fs = omega (arith, text-append es fs)

-- what goes through scratch may be stored
event-stored : (e : Event) → event_size e ≤ event_bytes e
event-stored (Tag k name j xs) = omega arith
event-stored (Piece k s) = omega arith
event-stored Eof = omega arith
event-stored Fault = omega arith

pub pieces-stored : (es : List Event) → pieces es ≤ most_text_of es
unfolding pieces most_text_of
pieces-stored [] = omega arith
pieces-stored (e ∷ es) = omega (arith, event-stored e, pieces-stored es)

-- the bytes of an Indent, which stand in no byte area
abbrev indent_size : Event → ℕ
indent_size (Tag kind name first attributes) = 0
indent_size (Piece Text s) = 0
indent_size (Piece CData s) = 0
indent_size (Piece Ref s) = 0
indent_size (Piece Other s) = 0
indent_size (Piece Indent s) = length s
indent_size Eof = 0
indent_size Fault = 0

event-covered : (e : Event) → event_size e ≤ length (laid_bytes (items_of_event e)) + indent_size e
unfolding laid_bytes
event-covered (Tag k name j xs) = omega arith
event-covered (Piece Text s) = omega (arith, length-append s [])
event-covered (Piece CData s) = omega (arith, length-append s [])
event-covered (Piece Ref s) = omega (arith, length-append s [])
event-covered (Piece Other s) = omega arith
event-covered (Piece Indent s) = omega arith
event-covered Eof = omega arith
event-covered Fault = omega arith

-- an Indent is one newline, as in a resolved table
abbrev pub Single : Event → Type 0
Single e = indent_size e ≤ 1

pub pieces-bound : {es : List Event} → Each Single es → pieces es ≤ laid_size es + length es
unfolding pieces
pieces-bound done = omega arith
pieces-bound (more {x = e} {xs = es} h hs) = omega (arith, pieces-bound hs, event-covered e, laid-first e es)

-- ---- resolved events
data One : Event → Type 0 where
  one : {e : Event} → Single e → One e

choose : (b : Bool) {e f : Event} → One e → One f → One (cond b e f)
choose true p q = p
choose false p q = q

event-one : (k : ℕ) (bytes : List ℕ) (j : ℕ) (xs : List Attribute) → One (event_of k bytes j xs)
unfolding event_of
event-one k bytes j xs =
    choose (eqb k kind.start) (one (lit≤ tt))
    (choose (eqb k kind.empty) (one (lit≤ tt))
    (choose (eqb k kind.end) (one (lit≤ tt))
    (choose (eqb k kind.text) (one (lit≤ tt))
    (choose (eqb k kind.cdata) (one (lit≤ tt))
    (choose (eqb k kind.ref) (one (lit≤ tt))
    (choose (eqb k kind.other) (one (lit≤ tt))
    (choose (eqb k kind.eof) (one (lit≤ tt))
    (choose (eqb k kind.fault) (one (lit≤ tt)) (one (lit≤ tt))))))))))

single : {e : Event} → One e → Single e
single (one h) = h

resolved-from : (events attributes source : List ℕ) (n i : ℕ) → Each Single (resolve_from events attributes source n i)
unfolding resolve_from event_at
resolved-from events attributes source zero i = done
resolved-from events attributes source (suc n) i =
    more (single (event-one (kind_at events i) (bytes_at events source i) (word events i 3) (attributes_from attributes source (word events i 4) (word events i 3))))
    (resolved-from events attributes source n (i + 1))

pub resolved-single : (events attributes source : List ℕ) → Each Single (resolve events attributes source)
unfolding resolve
resolved-single events attributes source = resolved-from events attributes source (count_of events) 0
