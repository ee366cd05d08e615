-- Attributes, from a tag's name or a value to the next. Assumes nothing.
use Prim.Native.Nat.{ℕ, ◌+◌, ◌-◌, ◌<◌}
use mathlib.Core.Path.{◌≡◌, refl, ap, subst}
use mathlib.Core.List.{List, [], ◌∷◌, ◌++◌}
use mathlib.Core.Bool.{true}
use native.Mathlib.Omega.{arith}
use lib.ListN.{length}
use Rattle.xml_tokens.specs.of_xml_chars.Chars.{crosses, is_space, Quote, mark}
use Rattle.xml_tokens.specs.of_xml_chars.Bytes.{whole}
use Rattle.xml_tokens.specs.of_xml_grammar.Grammar as grammar
use Rattle.xml_tokens.specs.of_xml_grammar.Grammar.{no_char, a-char, chars, Space, Spaces, Attributes, no-attribute}
use Rattle.xml_tokens.specs.of_xml_machine.State as state
use Rattle.xml_tokens.specs.of_xml_machine.State.{State, tag, Act, Stay, InTag, name, gap, key, quote, value_end}
use Rattle.xml_tokens.specs.of_xml_machine.Machine.{char, behind, in_tag, step}
use Rattle.xml_tokens.specs.of_xml_machine.Tokens.{Rec, rec, unless0, Marks, marking, keying, marks_by}
use Rattle.xml_tokens.proofs.of_xml_complete.Spaces.{space-cases, space-ascii, spaces-read, gap-space, equal_space, quote-space}
use Rattle.xml_tokens.proofs.of_xml_complete.Names.{key_here}
use Rattle.xml_tokens.proofs.of_xml_complete.References.{mark-low, value-reads}
use Rattle.xml_tokens.proofs.of_xml_complete.Tags.{key-equals, key-spaces, space-equals, quote-opens, quote-closes}
use Rattle.xml_places.specs.Places.{size, value_at, attributes_at}
use Rattle.xml_places.proofs.Going.{size-ascii, Spot, spot, Goes, goes_none, goes_then, goes_to, goes-from, goes_as, goes_with, goes-reads, goes-here, goes-byte}

-- behind a tag's name, a value, or white space there: where the name lies, and the number of attributes before the tag
pub data At (from to j : ℕ) : InTag → ℕ → ℕ → Marks → Type 0 where
  at_name : {at count : ℕ} {m : Marks} → m.mark ≡ from → at ≡ to → count ≡ j → At from to j name at count m
  at_gap : {at count : ℕ} {m : Marks} → m.name_from ≡ from → m.name_to ≡ to → m.first ≡ j → At from to j gap at count m
  at_value : {at count : ℕ} {m : Marks} → m.name_from ≡ from → m.name_to ≡ to → m.first ≡ j → At from to j value_end at count m

-- what white space and `/` end there
abbrev pub leaves : {from to j : ℕ} {k : InTag} {at count : ℕ} {m : Marks} → At from to j k at count m → Act
leaves (at_name e f g) = state.Name
leaves (at_gap e f g) = Stay
leaves (at_value e f g) = Stay

pub left_at : {from to j : ℕ} {k : InTag} {at count : ℕ} {m : Marks} (a : At from to j k at count m) (b : ℕ) → At from to j gap b count (marks_by (leaves a) at count m)
left_at (at_name e f g) b = at_gap e f g
left_at (at_gap e f g) b = at_gap e f g
left_at (at_value e f g) b = at_gap e f g

pub left-goes : {from to j : ℕ} {k : InTag} {at count : ℕ} {m : Marks} (a : At from to j k at count m) {s u : State} {c : ℕ} → c < 0x80 → step s c ≡ state.go (leaves a) u →
    Goes (spot s at count m) (c ∷ []) (spot u (at + 1) count (marks_by (leaves a) at count m)) [] []
left-goes {at = at} {count = count} {m = m} (at_name e f g) h i = goes-byte h i at count m
left-goes {at = at} {count = count} {m = m} (at_gap e f g) h i = goes-byte h i at count m
left-goes {at = at} {count = count} {m = m} (at_value e f g) h i = goes-byte h i at count m

to-gap : {from to j : ℕ} {k : InTag} {at count : ℕ} {m : Marks} (a : At from to j k at count m) (n : List ℕ) (ns : List (List ℕ)) (c : ℕ) → is_space c ≡ true →
    step (tag k whole n ns) c ≡ state.go (leaves a) (tag gap whole n ns)
unfolding step in_tag behind char crosses
to-gap (at_name e f g) n ns c i = space-cases (λ c. step (tag name whole n ns) c ≡ state.go state.Name (tag gap whole n ns)) refl refl refl refl c i
to-gap (at_gap e f g) n ns c i = space-cases (λ c. step (tag gap whole n ns) c ≡ state.go Stay (tag gap whole n ns)) refl refl refl refl c i
to-gap (at_value e f g) n ns c i = space-cases (λ c. step (tag value_end whole n ns) c ≡ state.go Stay (tag gap whole n ns)) refl refl refl refl c i

-- white space leads to the gap before a key
record Gap (from to j : ℕ) (k : InTag) (at count : ℕ) (m : Marks) (w n : List ℕ) (ns : List (List ℕ)) (end : ℕ) : Type 0 where
  pub marks : Marks
  pub place : At from to j gap end count marks
  pub goes : Goes (spot (tag k whole n ns) at count m) w (spot (tag gap whole n ns) end count marks) [] []

space_goes : {w : List ℕ} → Space w → {from to j : ℕ} {k : InTag} {at count : ℕ} {m : Marks} → At from to j k at count m → (n : List ℕ) (ns : List (List ℕ)) →
    Gap from to j k at count m w n ns (at + size w)
space_goes (chars {c = c} {s = s} e h) {at = at} {count = count} {m = m} a n ns =
    let z : at + 1 + size s ≡ at + size (c ∷ s) = let y = size-ascii c s (space-ascii c e) in omega arith in
    record {
      marks = marks_by (leaves a) at count m;
      place = left_at a (at + size (c ∷ s));
      goes = goes_to z (goes_then (left-goes a (space-ascii c e) (to-gap a n ns c e)) (goes-reads (spaces-read (gap-space n ns) h) (at + 1) count (marks_by (leaves a) at count m)));
    }

-- ---- behind a key, at the byte b: white space and `=`
equal_goes : {x : List ℕ} → Spaces x → (n : List ℕ) (ns : List (List ℕ)) (b count : ℕ) (m : Marks) {r : List ℕ} {w : Spot} {es xs : List Rec} →
    Goes (spot (tag quote whole n ns) (b + size x + 1) count (keying b m)) r w es xs → Goes (spot (tag key whole n ns) b count m) (x ++ (0x3D ∷ r)) w es xs
equal_goes no_char n ns b count m k = let z : b + 0 + 1 ≡ b + 1 = omega arith in goes_then (goes-byte (omega arith) (key-equals n ns) b count m) (goes-from z k)
equal_goes (a-char {c = c} {s = s} e h) n ns b count m k =
    let z : b + size (c ∷ s) + 1 ≡ b + 1 + size s + 1 = let y = size-ascii c s (space-ascii c e) in omega arith in
    goes_then (goes-byte (space-ascii c e) (key-spaces n ns c e) b count m)
    (goes_then (goes-reads (spaces-read (equal_space n ns) h) (b + 1) count (keying b m))
    (goes_then (goes-byte (omega arith) (space-equals n ns) (b + 1 + size s) count (keying b m)) (goes-from z k)))

-- ---- behind `=`, at the byte b: white space and a value in its quotes
value-goes : {q : Quote} {y v : List ℕ} → Spaces y → grammar.Value q v → (n : List ℕ) (ns : List (List ℕ)) (b count : ℕ) (m : Marks) {r : List ℕ} {w : Spot} {es xs : List Rec} →
    Goes (spot (tag value_end whole n ns) (b + size y + 1 + size v + 1) (count + 1) (marking (b + size y + 1) m)) r w es xs →
    Goes (spot (tag quote whole n ns) b count m) (y ++ (mark q ∷ (v ++ (mark q ∷ r)))) w es
    (rec 0 m.key_from (m.key_to - m.key_from) (unless0 (b + size y + 1) (size v)) (size v) ∷ xs)
value-goes {q = q} {y = y} {v = v} s h n ns b count m {xs = xs} k =
    let i : ℕ = b + size y + 1 in
    let z : b + size y + 1 + size v - (b + size y + 1) ≡ size v = omega arith in
    goes_with refl (ap (λ (l : ℕ). rec 0 m.key_from (m.key_to - m.key_from) (unless0 (b + size y + 1) l) l ∷ xs) z)
    (goes_then (goes-reads (spaces-read (quote-space n ns) s) b count m)
    (goes_then (goes-byte (mark-low q) (quote-opens q n ns) (b + size y) count m)
    (goes_then (goes-reads (value-reads h n ns) i count (marking i m)) (goes_then (goes-byte (mark-low q) (quote-closes q n ns) (i + size v) count (marking i m)) k))))

-- ---- all attributes of a tag
pub record Later (from to j : ℕ) (k : InTag) (at count : ℕ) (m : Marks) (cs n : List ℕ) (ns : List (List ℕ)) (xs : List Rec) : Type 0 where
  pub mode : InTag
  pub end : ℕ
  pub marks : Marks
  pub place : At from to j mode end (count + length xs) marks
  pub goes : Goes (spot (tag k whole n ns) at count m) cs (spot (tag mode whole n ns) end (count + length xs) marks) [] xs

value-at : {from to j at count b c : ℕ} {m : Marks} → At from to j gap at count m → (p q v : ℕ) → At from to j value_end b c (marking v (keying q (marking p m)))
value-at (at_gap e f g) p q v = at_value e f g

pub attributes-goes : {a : List ℕ} (h : Attributes a) {from to j : ℕ} {k : InTag} {at count : ℕ} {m : Marks} → At from to j k at count m → (n : List ℕ) (ns : List (List ℕ)) →
    Later from to j k at count m a n ns (attributes_at at h)
attributes-goes (no-attribute no_char) {from = from} {to = to} {j = j} {k = k} {at = at} {count = count} {m = m} a n ns =
    let z : count ≡ count + 0 = omega arith in
    record { mode = k; end = at; marks = m; place = subst (λ (d : ℕ). At from to j k at d m) z a; goes = goes_as z refl refl goes_none }
attributes-goes (no-attribute (a-char {c = c} {s = s} e h)) {from = from} {to = to} {j = j} {at = at} {count = count} a n ns =
    let z : count ≡ count + 0 = omega arith in
    let p = space_goes (chars e h) a n ns in
    record { mode = gap; end = at + size (c ∷ s); marks = p.marks; place = subst (λ (d : ℕ). At from to j gap (at + size (c ∷ s)) d p.marks) z p.place; goes = goes_as z refl refl p.goes }
attributes-goes (grammar.attribute {w = w} {k = k} {x = x} {y = y} {v = v} {a = r} s i e f q g h) {from = from} {to = to} {j = j} {k = o} {at = at} {count = count} {m = m} a n ns =
    let p = space_goes s a n ns in
    let b : ℕ = at + size w in
    let c : ℕ = at + size w + size k in
    let u : ℕ = value_at at w k x y in
    let l : Marks = keying c (marking b p.marks) in
    let z = attributes-goes h (value-at {b = u + size v + 1} {c = count + 1} p.place b c u) n ns in
    let xs : List Rec = attributes_at (value_at at w k x y + size v + 1) h in
    let wide : at + size w + size k - (at + size w) ≡ size k = omega arith in
    let more : count + 1 + length xs ≡ count + length (rec 0 b (size k) (unless0 u (size v)) (size v) ∷ xs) = omega arith in
    record {
      mode = z.mode;
      end = z.end;
      marks = z.marks;
      place = subst (λ (d : ℕ). At from to j z.mode z.end d z.marks) more z.place;
      goes =
          goes_with refl (ap (λ (d : ℕ). rec 0 b d (unless0 u (size v)) (size v) ∷ xs) wide)
          (subst (λ (d : ℕ). Goes (spot (tag o whole n ns) at count m) (w ++ (k ++ (x ++ (0x3D ∷ (y ++ (mark q ∷ (v ++ (mark q ∷ r))))))))
          (spot (tag z.mode whole n ns) z.end d z.marks) [] (rec 0 b (c - b) (unless0 u (size v)) (size v) ∷ xs)) more
          (goes_then p.goes
          (goes_then (goes-here {cs = k} (key_here i n ns) b count p.marks)
          (equal_goes e n ns c count (marking b p.marks) (value-goes f g n ns (c + size x + 1) count l z.goes)))));
    }
