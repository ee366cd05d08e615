-- What is due along characters by their places alone: the mark before and behind them, the first byte and the byte behind. Assumes nothing.
use Prim.Native.Nat.{ℕ, ◌+◌, ◌-◌, ◌<◌}
use mathlib.Core.Path.{◌≡◌, refl, sym, ap, ◌∙◌, subst}
use mathlib.Core.List.{List, [], ◌∷◌, ◌++◌}
use mathlib.Core.Bool.{Bool, true, false, cond}
use native.Mathlib.Omega.{arith}
use lib.Dec.{ltb}
use lib.ListN.{length, length-append}
use Rattle.xml_tokens.specs.of_table.Kinds as kind
use Rattle.xml_tokens.specs.of_xml_machine.State as state
use Rattle.xml_tokens.specs.of_xml_machine.State.{State, Act, Stay, Mark, EndText, TextMark, Ref, Comment, Pi, CData}
use Rattle.xml_tokens.specs.of_xml_machine.Machine.{step}
use Rattle.xml_tokens.specs.of_xml_machine.Tokens.{Rec, rec, unless0, over, Marks, no_marks, marking, marks_by, nothing, event, text_due, due}
use Rattle.xml_tokens.proofs.of_xml_complete.Reading.{Reads, reads_none, reads_byte}
use Rattle.xml_tokens.specs.Due.{counted, events_due, attributes_due}
use Rattle.xml_places.specs.Places.{size, piece_at, numbered}
use Rattle.xml_places.proofs.Going.{size-ascii, Goes, spot, goes_then, goes_as, goes-reads, goes-byte}

-- ---- numbers of first attributes
abbrev pub counts : List Rec → ℕ
counts [] = 0
counts (rec k at n first count ∷ rs) = count + counts rs

pub counts-append : (es fs : List Rec) → counts (es ++ fs) ≡ counts es + counts fs
counts-append [] fs = omega arith
counts-append (rec k at n first count ∷ es) fs = let z = counts-append es fs in omega arith

pub numbered-append : (j : ℕ) (es fs : List Rec) → numbered j (es ++ fs) ≡ numbered j es ++ numbered (j + counts es) fs
numbered-append j [] fs = let z : j ≡ j + 0 = omega arith in ap (λ (i : ℕ). numbered i fs) z
numbered-append j (rec k at n first c ∷ es) fs =
    let z : j + c + counts es ≡ j + (c + counts es) = omega arith in
    ap (λ (l : List Rec). rec k at n (unless0 j c) c ∷ l) (numbered-append (j + c) es fs ∙ ap (λ (i : ℕ). numbered (j + c) es ++ numbered i fs) z)

-- ---- the records that characters put
pub record Ahead (s : State) (at count : ℕ) (m : Marks) (cs : List ℕ) (u : State) (y to : ℕ) (es xs : List Rec) : Type 0 where
  pub marks : Marks
  pub marked : marks.mark ≡ y
  pub goes : Goes (spot s at count m) cs (spot u to (count + length xs) marks) (numbered count es) xs

-- from the mark x to the mark y, from the byte `at` to the byte `to`
pub record Puts (s : State) (x at : ℕ) (cs : List ℕ) (u : State) (y to : ℕ) (es xs : List Rec) : Type 0 where
  pub even : counts es ≡ length xs
  pub ahead : (count : ℕ) (m : Marks) → m.mark ≡ x → Ahead s at count m cs u y to es xs

pub puts-long : {s u : State} {x at y to : ℕ} {cs : List ℕ} {es xs : List Rec} → Puts s x at cs u y to es xs → to ≡ at + size cs
puts-long {x = x} h = (h.ahead 0 (marking x no_marks) refl).goes.long

pub puts_then : {s u w : State} {x at y mid z to : ℕ} {a b : List ℕ} {es fs xs ys : List Rec} → Puts s x at a u y mid es xs → Puts u y mid b w z to fs ys →
    Puts s x at (a ++ b) w z to (es ++ fs) (xs ++ ys)
puts_then {es = es} {fs = fs} {xs = xs} {ys = ys} h i = record {
  even = let p = h.even in let q = i.even in let c = counts-append es fs in let l = length-append xs ys in omega arith;
  ahead = λ count m e.
      let p = h.ahead count m e in
      let q = i.ahead (count + length xs) p.marks p.marked in
      let n : count + length xs + length ys ≡ count + length (xs ++ ys) = let l = length-append xs ys in omega arith in
      record {
        marks = q.marks;
        marked = q.marked;
        goes = goes_as n (sym (numbered-append count es fs ∙ ap (λ (j : ℕ). numbered count es ++ numbered (count + j) fs) h.even)) refl (goes_then p.goes q.goes);
      };
}

-- other words for the same places and records
pub puts_these : {s u : State} {x at y to : ℕ} {cs : List ℕ} {es fs xs ys : List Rec} → es ≡ fs → xs ≡ ys → Puts s x at cs u y to es xs → Puts s x at cs u y to fs ys
puts_these {s = s} {u = u} {x = x} {at = at} {y = y} {to = to} {cs = cs} {fs = fs} {xs = xs} e f h =
    subst (λ (z : List Rec). Puts s x at cs u y to fs z) f (subst (λ (z : List Rec). Puts s x at cs u y to z xs) e h)

pub puts-to : {s u : State} {x at y z to end : ℕ} {cs : List ℕ} {es xs : List Rec} → y ≡ z → to ≡ end → Puts s x at cs u y to es xs → Puts s x at cs u z end es xs
puts-to {s = s} {u = u} {x = x} {at = at} {y = y} {end = end} {cs = cs} {es = es} {xs = xs} e f h =
    subst (λ (n : ℕ). Puts s x at cs u n end es xs) e (subst (λ (n : ℕ). Puts s x at cs u y n es xs) f h)

pub puts-from : {s u : State} {w x at from y to : ℕ} {cs : List ℕ} {es xs : List Rec} → w ≡ x → from ≡ at → Puts s w from cs u y to es xs → Puts s x at cs u y to es xs
puts-from {s = s} {u = u} {w = w} {at = at} {y = y} {to = to} {cs = cs} {es = es} {xs = xs} e f h =
    subst (λ (n : ℕ). Puts s n at cs u y to es xs) e (subst (λ (n : ℕ). Puts s w n cs u y to es xs) f h)

pub puts-reads : {s u : State} {x at : ℕ} {cs : List ℕ} → Reads s cs u → Puts s x at cs u x (at + size cs) [] []
puts-reads {at = at} h = record {
  even = refl;
  ahead = λ count m e. let z : count ≡ count + 0 = omega arith in record { marks = m; marked = e; goes = goes_as z refl refl (goes-reads h at count m) };
}

pub puts-stay : {s u : State} {x at c : ℕ} → c < 0x80 → step s c ≡ state.go Stay u → Puts s x at (c ∷ []) u x (at + 1) [] []
puts-stay {at = at} {c = c} h e = puts-to refl (let z = size-ascii c [] h in omega arith) (puts-reads (reads_byte h e reads_none))

-- a byte that puts an event without attributes, or none
abbrev pub Does : Act → ℕ → ℕ → ℕ → List Rec → Type 0
Does act x at y es = (count : ℕ) (m : Marks) → m.mark ≡ x →
    ((marks_by act at count m).mark ≡ y) × (events_due (due act at count m ∷ []) ≡ numbered count es) × (attributes_due (due act at count m ∷ []) ≡ []) × (counted count (due act at count m) ≡ count)

pub puts-byte : {s u : State} {act : Act} {x at y c : ℕ} {es : List Rec} → c < 0x80 → step s c ≡ state.go act u → counts es ≡ 0 → Does act x at y es → Puts s x at (c ∷ []) u y (at + 1) es []
puts-byte {act = act} {at = at} h e n f = record {
  even = n;
  ahead = λ count m i.
      let g = f count m i in
      let z : count ≡ count + 0 = omega arith in
      record { marks = marks_by act at count m; marked = g.0; goes = goes_as (g.3 ∙ z) g.1 g.2 (goes-byte h e at count m) };
}

pub puts-mark : {s u : State} {x at c : ℕ} → c < 0x80 → step s c ≡ state.go Mark u → Puts s x at (c ∷ []) u (at + 1) (at + 1) [] []
puts-mark h e = puts-byte h e refl (λ count m i. (refl, refl, refl, refl))

-- ---- runs of text
-- the run from a mark to the byte `at`, if it has bytes
abbrev pub run_at : ℕ → ℕ → List Rec
run_at x at = events_due (text_due x at ∷ [])

pub run-counts : (x at : ℕ) → counts (run_at x at) ≡ 0
run-counts x at = by (ltb x at)
  where
    by : (z : Bool) → counts (events_due (cond z (event (over kind.text x at)) nothing ∷ [])) ≡ 0
    by true = refl
    by false = refl

pub run-numbered : (count x at : ℕ) → numbered count (run_at x at) ≡ run_at x at
run-numbered count x at = by (ltb x at)
  where
    by : (z : Bool) → numbered count (events_due (cond z (event (over kind.text x at)) nothing ∷ [])) ≡ events_due (cond z (event (over kind.text x at)) nothing ∷ [])
    by true = refl
    by false = refl

pub run-bare : (x at : ℕ) → attributes_due (text_due x at ∷ []) ≡ []
run-bare x at = by (ltb x at)
  where
    by : (z : Bool) → attributes_due (cond z (event (over kind.text x at)) nothing ∷ []) ≡ []
    by true = refl
    by false = refl

run-counted : (count x at : ℕ) → counted count (text_due x at) ≡ count
run-counted count x at = by (ltb x at)
  where
    by : (z : Bool) → counted count (cond z (event (over kind.text x at)) nothing) ≡ count
    by true = refl
    by false = refl

run-does : (x at count : ℕ) (m : Marks) → m.mark ≡ x →
    (events_due (text_due m.mark at ∷ []) ≡ numbered count (run_at x at)) × (attributes_due (text_due m.mark at ∷ []) ≡ []) × (counted count (text_due m.mark at) ≡ count)
run-does x at count m i = (
  ap (λ (n : ℕ). run_at n at) i ∙ sym (run-numbered count x at),
  run-bare m.mark at,
  run-counted count m.mark at,
)

pub puts-text : {s u : State} {x at c : ℕ} → c < 0x80 → step s c ≡ state.go EndText u → Puts s x at (c ∷ []) u (at + 1) (at + 1) (run_at x at) []
puts-text {x = x} {at = at} h e = puts-byte h e (run-counts x at) (λ count m i. let g = run-does x at count m i in (refl, g.0, g.1, g.2))

pub puts_text-mark : {s u : State} {x at c : ℕ} → c < 0x80 → step s c ≡ state.go TextMark u → Puts s x at (c ∷ []) u (at + 1) (at + 1) (run_at x at) []
puts_text-mark {x = x} {at = at} h e = puts-byte h e (run-counts x at) (λ count m i. let g = run-does x at count m i in (refl, g.0, g.1, g.2))

-- ---- pieces: what stands from p on, at its closing mark's last byte
pub over-piece : (k from to p : ℕ) (s : List ℕ) → from ≡ p → to ≡ p + size s → over k from to ≡ piece_at k p s
over-piece k from to p s e f = let n : to - from ≡ size s = omega arith in λ i. rec k (unless0 (e i) (n i)) (n i) 0 0

module _ {s u : State} {x at c : ℕ} (p : ℕ) (r : List ℕ) (h : c < 0x80) (e : x ≡ p) where
  pub puts-ref : step s c ≡ state.go Ref u → at ≡ p + size r → Puts s x at (c ∷ []) u (at + 1) (at + 1) (piece_at kind.ref p r ∷ []) []
  puts-ref j f = puts-byte h j refl (λ count m i. (refl, ap (λ (z : Rec). z ∷ []) (over-piece kind.ref m.mark at p r (i ∙ e) f), refl, refl))

  pub puts-comment : step s c ≡ state.go Comment u → at ≡ p + size r + 2 → Puts s x at (c ∷ []) u (at + 1) (at + 1) (piece_at kind.other p r ∷ []) []
  puts-comment j f = puts-byte h j refl (λ count m i. (refl, ap (λ (z : Rec). z ∷ []) (over-piece kind.other m.mark (at - 2) p r (i ∙ e) (omega arith)), refl, refl))

  pub puts-instruction : step s c ≡ state.go Pi u → at ≡ p + size r + 1 → Puts s x at (c ∷ []) u (at + 1) (at + 1) (piece_at kind.other p r ∷ []) []
  puts-instruction j f = puts-byte h j refl (λ count m i. (refl, ap (λ (z : Rec). z ∷ []) (over-piece kind.other m.mark (at - 1) p r (i ∙ e) (omega arith)), refl, refl))

  pub puts-section : step s c ≡ state.go CData u → at ≡ p + size r + 2 → Puts s x at (c ∷ []) u (at + 1) (at + 1) (piece_at kind.cdata p r ∷ []) []
  puts-section j f = puts-byte h j refl (λ count m i. (refl, ap (λ (z : Rec). z ∷ []) (over-piece kind.cdata m.mark (at - 2) p r (i ∙ e) (omega arith)), refl, refl))
