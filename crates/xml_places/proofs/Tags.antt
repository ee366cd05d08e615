-- Tags and what they put. Assumes nothing.
use Prim.Native.Nat.{ℕ, zero, suc, ◌+◌, ◌-◌, ◌<◌}
use mathlib.Core.Path.{◌≡◌, refl, ap, ◌∙◌}
use mathlib.Core.List.{List, [], ◌∷◌, ◌++◌, append-nil}
use mathlib.Core.Bool.{Bool, cond}
use native.Mathlib.Omega.{arith}
use lib.Dec.{eqb-suc-zero}
use lib.ListN.{length, length-append}
use Rattle.xml_tokens.specs.of_table.Kinds as kind
use Rattle.xml_tokens.specs.of_xml_chars.Chars.{crosses}
use Rattle.xml_tokens.specs.of_xml_chars.Bytes.{utf8, whole}
use Rattle.xml_tokens.specs.of_xml_grammar.Grammar.{no_char, a-char, Spaces, Name, Attributes}
use Rattle.xml_tokens.specs.of_xml_machine.State as state
use Rattle.xml_tokens.specs.of_xml_machine.State.{State, text, lt, tag, ending, Act, NameStart, Start, inside, b0, InTag, name, gap, slash, value_end}
use Rattle.xml_tokens.specs.of_xml_machine.Machine.{char, behind, in_tag, shut, step}
use Rattle.xml_tokens.specs.of_xml_machine.Tokens.{Rec, rec, unless0, over, Marks, marking, naming, marks_by}
use Rattle.xml_tokens.proofs.of_xml_machine.Stays.{Takes, takes}
use Rattle.xml_tokens.proofs.of_xml_complete.Spaces.{space-ascii, spaces-read, end-space}
use Rattle.xml_tokens.proofs.of_xml_complete.Names.{Begins, name-here}
use Rattle.xml_tokens.proofs.of_xml_complete.TagsTold.{to-shut, ending-stays, slash-ends, name-ends, name-spaces, space-ends}
use Rattle.xml_places.specs.Places.{size, tag_at, attributes_at, numbered}
use Rattle.xml_places.proofs.Going.{size-ascii, spot, Goes, goes_then, goes_to, goes_with, goes_as, goes-reads, goes-here, goes-byte}
use Rattle.xml_places.proofs.Putting.{Puts, puts_then, puts-to, puts-byte, puts-mark, puts-reads, over-piece}
use Rattle.xml_places.proofs.Attributes.{At, at_name, at_gap, at_value, leaves, left_at, left-goes, attributes-goes}

-- ---- names
takes-long : {act : Act} {s u : State} {a : List ℕ} → Takes act s a u → 0 < length a
takes-long (takes e h) = omega arith

pub name-long : {v : State} {ns : List (List ℕ)} → Begins v ns → {n : List ℕ} → Name n → 0 < size n
name-long o i = takes-long (name-here o i)

pub unless-some : (a n : ℕ) → 0 < n → unless0 a n ≡ a
unless-some a zero l = absurd (omega arith)
unless-some a (suc n) l = ap (λ (z : Bool). cond z 0 a) (eqb-suc-zero n)

over-tag : (k from to p : ℕ) (n : List ℕ) → from ≡ p → to ≡ p + size n → 0 < size n → over k from to ≡ tag_at k p n 0
over-tag k from to p n e f l = over-piece k from to p n e f ∙ ap (λ (a : ℕ). rec k a (size n) 0 0) (unless-some p (size n) l)

-- a tag of so many attributes, of which the first has the number j
abbrev tagged : ℕ → ℕ → List ℕ → ℕ → ℕ → Rec
tagged k from n j count = rec k from (size n) (unless0 j (count - j)) (count - j)

tagged-as : (k from : ℕ) (n : List ℕ) (m : Marks) (j count to : ℕ) → m.name_from ≡ from → m.name_to ≡ to → to ≡ from + size n → m.first ≡ j →
    rec k m.name_from (m.name_to - m.name_from) (unless0 m.first (count - m.first)) (count - m.first) ≡ tagged k from n j count
tagged-as k from n m j count to e f h g = let z : m.name_to - m.name_from ≡ size n = omega arith in λ i. rec k (e i) (z i) (unless0 (g i) (count - g i)) (count - g i)

bare-as : (from : ℕ) (n : List ℕ) (x at j count : ℕ) → x ≡ from → at ≡ from + size n → count ≡ j → 0 < size n → over kind.start x at ≡ tagged kind.start from n j count
bare-as from n x at j count e f g l =
    let z : 0 ≡ count - j = omega arith in
    over-tag kind.start x at from n e f l ∙ ap (λ (c : ℕ). rec kind.start from (size n) (unless0 j c) c) z

-- ---- start tags
name-text : (n : List ℕ) (ns : List (List ℕ)) → step (tag name whole n ns) 0x3E ≡ state.go NameStart (text b0 whole n ns)
unfolding step in_tag behind char crosses
name-text n ns = refl

gap-text : (n : List ℕ) (ns : List (List ℕ)) → step (tag gap whole n ns) 0x3E ≡ state.go Start (text b0 whole n ns)
unfolding step in_tag behind char crosses
gap-text n ns = refl

value-text : (n : List ℕ) (ns : List (List ℕ)) → step (tag value_end whole n ns) 0x3E ≡ state.go Start (text b0 whole n ns)
unfolding step in_tag behind char crosses
value-text n ns = refl

starts-goes : {from to j : ℕ} {k : InTag} {at count : ℕ} {m : Marks} (a : At from to j k at count m) (c : List ℕ) → to ≡ from + size c → 0 < size c → (n : List ℕ) (ns : List (List ℕ)) →
    Goes (spot (tag k whole n ns) at count m) (0x3E ∷ []) (spot (text b0 whole n ns) (at + 1) count (marking (at + 1) m)) (tagged kind.start from c j count ∷ []) []
starts-goes {from = from} {j = j} {at = at} {count = count} {m = m} (at_name e f g) c h l n ns =
    goes_with (ap (λ (r : Rec). r ∷ []) (bare-as from c m.mark at j count e (f ∙ h) g l)) refl (goes-byte (omega arith) (name-text n ns) at count m)
starts-goes {from = from} {to = to} {j = j} {at = at} {count = count} {m = m} (at_gap e f g) c h l n ns =
    goes_with (ap (λ (r : Rec). r ∷ []) (tagged-as kind.start from c m j count to e f h g)) refl (goes-byte (omega arith) (gap-text n ns) at count m)
starts-goes {from = from} {to = to} {j = j} {at = at} {count = count} {m = m} (at_value e f g) c h l n ns =
    goes_with (ap (λ (r : Rec). r ∷ []) (tagged-as kind.start from c m j count to e f h g)) refl (goes-byte (omega arith) (value-text n ns) at count m)

numbered-tag : (k from : ℕ) (n : List ℕ) (j : ℕ) (xs es : List Rec) → tagged k from n j (j + length xs) ∷ numbered (j + length xs) es ≡ numbered j (tag_at k from n (length xs) ∷ es)
numbered-tag k from n j xs es = let z : j + length xs - j ≡ length xs = omega arith in ap (λ (c : ℕ). rec k from (size n) (unless0 j c) c ∷ numbered (j + length xs) es) z

pub start-puts : {v : State} {ns : List (List ℕ)} → Begins v ns → {n a : List ℕ} → Name n → (h : Attributes a) → (x at : ℕ) {r : List ℕ} {w : State} {y to : ℕ} {es xs : List Rec} →
    Puts (text b0 whole (utf8 n) ns) (at + size n + size a + 1) (at + size n + size a + 1) r w y to es xs →
    Puts v x at (n ++ (a ++ (0x3E ∷ r))) w y to (tag_at kind.start at n (length (attributes_at (at + size n) h)) ∷ es) (attributes_at (at + size n) h ++ xs)
start-puts {ns = ns} o {n = n} {a = a} i h x at {es = es} {xs = xs} f =
    let ys : List Rec = attributes_at (at + size n) h in
    record {
      even = let p = f.even in let q = length-append ys xs in omega arith;
      ahead = λ count m e.
          let b : At at (at + size n) count name (at + size n) count (marking at m) = at_name refl refl refl in
          let z = attributes-goes h b (utf8 n) ns in
          let d : z.end ≡ at + size n + size a = z.goes.long in
          let k : Marks = marking (z.end + 1) z.marks in
          let q = f.ahead (count + length ys) k (ap (λ (b : ℕ). b + 1) d) in
          let s = starts-goes z.place n refl (name-long o i) (utf8 n) ns in
          let c : count + length ys + length xs ≡ count + length (ys ++ xs) = let l = length-append ys xs in omega arith in
          record {
            marks = q.marks;
            marked = q.marked;
            goes =
                goes_as c (numbered-tag kind.start at n count ys es) refl
                (goes_then (goes-here {cs = n} (name-here o i) at count m)
                (goes_then z.goes (goes_then (goes_to (ap (λ (b : ℕ). b + 1) d) s) q.goes)));
          };
    }

-- ---- empty-element tags
to-slash : {from to j : ℕ} {k : InTag} {at count : ℕ} {m : Marks} (a : At from to j k at count m) (n : List ℕ) (ns : List (List ℕ)) →
    step (tag k whole n ns) 0x2F ≡ state.go (leaves a) (tag slash whole n ns)
unfolding step in_tag behind char crosses
to-slash (at_name e f g) n ns = refl
to-slash (at_gap e f g) n ns = refl
to-slash (at_value e f g) n ns = refl

emptied : {from to j at count : ℕ} {m : Marks} → At from to j gap at count m → (c : List ℕ) → to ≡ from + size c → (n : List ℕ) (ns : List (List ℕ)) →
    Goes (spot (tag slash whole n ns) at count m) (0x3E ∷ []) (spot (shut ns) (at + 1) count (marking (at + 1) m)) (tagged kind.empty from c j count ∷ []) []
emptied {from = from} {to = to} {j = j} {at = at} {count = count} {m = m} (at_gap e f g) c h n ns =
    goes_with (ap (λ (r : Rec). r ∷ []) (tagged-as kind.empty from c m j count to e f h g)) refl (goes-byte (omega arith) (to-shut n ns) at count m)

pub empty-puts : {v : State} {ns : List (List ℕ)} → Begins v ns → {n a : List ℕ} → Name n → (h : Attributes a) → (x at : ℕ) →
    Puts v x at (n ++ (a ++ (0x2F ∷ 0x3E ∷ []))) (shut ns) (at + size n + size a + 1 + 1) (at + size n + size a + 1 + 1)
    (tag_at kind.empty at n (length (attributes_at (at + size n) h)) ∷ []) (attributes_at (at + size n) h)
empty-puts {ns = ns} o {n = n} {a = a} i h x at =
    let ys : List Rec = attributes_at (at + size n) h in
    record {
      even = omega arith;
      ahead = λ count m e.
          let b : At at (at + size n) count name (at + size n) count (marking at m) = at_name refl refl refl in
          let z = attributes-goes h b (utf8 n) ns in
          let d : z.end ≡ at + size n + size a = z.goes.long in
          let k : Marks = marks_by (leaves z.place) z.end (count + length ys) z.marks in
          record {
            marks = marking (z.end + 1 + 1) k;
            marked = ap (λ (b : ℕ). b + 1 + 1) d;
            goes =
                goes_with (numbered-tag kind.empty at n count ys []) (append-nil ys)
                (goes_to (ap (λ (b : ℕ). b + 1 + 1) d)
                (goes_then (goes-here {cs = n} (name-here o i) at count m)
                (goes_then z.goes
                (goes_then (left-goes z.place (omega arith) (to-slash z.place (utf8 n) ns)) (emptied (left_at z.place (z.end + 1)) n refl (utf8 n) ns)))));
          };
    }

-- ---- end tags
closing-puts : {w : List ℕ} → Spaces w → (n : List ℕ) → 0 < size n → (ns : List (List ℕ)) (p at : ℕ) → at ≡ p + size n →
    Puts (ending [] ns) p at (w ++ (0x3E ∷ [])) (shut ns) (at + size w + 1) (at + size w + 1) (tag_at kind.end p n 0 ∷ []) []
closing-puts no_char n l ns p at f =
    let z : at + 1 ≡ at + 0 + 1 = omega arith in
    puts-to z z (puts-byte (omega arith) (name-ends ns) refl (λ count m i. (refl, ap (λ (r : Rec). r ∷ []) (over-tag kind.end m.mark at p n i f l), refl, refl)))
closing-puts (a-char {c = c} {s = s} e h) n l ns p at f =
    let b : ℕ = at + 1 + size s in
    let z : at + 1 + size s + 1 ≡ at + size (c ∷ s) + 1 = let y = size-ascii c s (space-ascii c e) in omega arith in
    puts-to z z (record {
      even = refl;
      ahead = λ count m i.
          record {
            marks = marking (at + 1 + size s + 1) (naming at count m);
            marked = refl;
            goes =
                goes_as (omega arith) (ap (λ (r : Rec). r ∷ []) (over-tag kind.end m.mark at p n i f l)) refl
                (goes_then (goes-byte (space-ascii c e) (name-spaces ns c e) at count m)
                (goes_then (goes-reads (spaces-read (end-space ns) h) (at + 1) count (naming at count m)) (goes-byte (omega arith) (space-ends ns) b count (naming at count m))));
          };
    })

pub end-puts : (n : List ℕ) → 0 < size n → {w : List ℕ} → Spaces w → (ns : List (List ℕ)) (x at : ℕ) →
    Puts (lt (inside (utf8 n) ns)) x at (0x2F ∷ (n ++ (w ++ (0x3E ∷ [])))) (shut ns) (at + 1 + size n + size w + 1) (at + 1 + size n + size w + 1) (tag_at kind.end (at + 1) n 0 ∷ []) []
end-puts n l h ns x at =
    puts_then (puts-mark (omega arith) (slash-ends (utf8 n) ns))
    (puts_then {a = n} (puts-reads (record { stays = ending-stays (utf8 n) ns })) (closing-puts h n l ns (at + 1) (at + 1 + size n) refl))
