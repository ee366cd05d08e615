-- Attributes, from a tag's name or a value to the next. Assumes nothing.
use Prim.Native.Nat.{ℕ}
use mathlib.Core.Path.{◌≡◌, refl, sym, ap, ◌∙◌, subst}
use mathlib.Core.List.{List, [], ◌∷◌, ◌++◌, append_assoc, append-nil}
use mathlib.Core.Bool.{true}
use native.Mathlib.Omega.{arith}
use Rattle.xml_grammar.specs.of_table.Event.{Attribute}
use Rattle.xml_grammar.specs.of_xml_chars.Chars.{crosses, is_space, Quote, single, double, mark}
use Rattle.xml_grammar.specs.of_xml_chars.Bytes.{utf8, whole}
use Rattle.xml_grammar.specs.Grammar as grammar
use Rattle.xml_grammar.specs.Grammar.{no_char, a-char, chars, Space, Spaces, Attributes, no-attribute}
use Rattle.xml_grammar.specs.Events.{attributes_of}
use Rattle.xml_machine.specs.State as state
use Rattle.xml_machine.specs.State.{tag, Act, Stay, Mark, Key, Value, InTag, name, gap, key, key_eq, quote, value, value_end}
use Rattle.xml_machine.specs.Machine.{char, behind, in_tag, step}
use Rattle.xml_machine.specs.inside.Saying.{Said, marks, grows, keys, values, saying, Telling, telling}
use Rattle.xml_complete.proofs.Reading.{Goes, goes_none, goes_then, goes-reads, goes-here, goes-byte}
use Rattle.xml_complete.proofs.Spaces.{space-cases, space-ascii, spaces-read, gap-space, equal_space, quote-space}
use Rattle.xml_complete.proofs.Names.{key_here}
use Rattle.xml_complete.proofs.References.{mark-low, value-reads}

-- behind a tag's name, a value, or white space there: the tag's name and attributes so far
pub data At (nm : List ℕ) : List Attribute → InTag → Said → Type 0 where
  at_name : {d : Said} → d.mark ≡ nm → At nm [] name d
  at_gap : {xs : List Attribute} {d : Said} → d.name ≡ nm → d.attributes ≡ xs → At nm xs gap d
  at_value : {xs : List Attribute} {d : Said} → d.name ≡ nm → d.attributes ≡ xs → At nm xs value_end d

-- what white space and `/` end there
abbrev pub leaves : {nm : List ℕ} {xs : List Attribute} {m : InTag} {d : Said} → At nm xs m d → Act
leaves (at_name e) = state.Name
leaves (at_gap e f) = Stay
leaves (at_value e f) = Stay

pub left_at : {nm : List ℕ} {xs : List Attribute} {m : InTag} {d : Said} (a : At nm xs m d) (c : ℕ) → At nm xs gap (saying (leaves a) c d)
left_at (at_name e) c = at_gap e refl
left_at (at_gap e f) c = at_gap e f
left_at (at_value e f) c = at_gap e f

pub left-events : {nm : List ℕ} {xs : List Attribute} {m : InTag} {d : Said} (a : At nm xs m d) (c : ℕ) → (saying (leaves a) c d).events ≡ d.events
left-events (at_name e) c = refl
left-events (at_gap e f) c = refl
left-events (at_value e f) c = refl

to-gap : {nm : List ℕ} {xs : List Attribute} {m : InTag} {d : Said} (a : At nm xs m d) (n : List ℕ) (ns : List (List ℕ)) (c : ℕ) → is_space c ≡ true →
    step (tag m whole n ns) c ≡ state.go (leaves a) (tag gap whole n ns)
unfolding step in_tag behind char crosses
to-gap (at_name e) n ns c i = space-cases (λ c. step (tag name whole n ns) c ≡ state.go state.Name (tag gap whole n ns)) refl refl refl refl c i
to-gap (at_gap e f) n ns c i = space-cases (λ c. step (tag gap whole n ns) c ≡ state.go Stay (tag gap whole n ns)) refl refl refl refl c i
to-gap (at_value e f) n ns c i = space-cases (λ c. step (tag value_end whole n ns) c ≡ state.go Stay (tag gap whole n ns)) refl refl refl refl c i

gap-stays : {nm : List ℕ} {xs : List Attribute} {d : Said} → At nm xs gap d → (x : List ℕ) → At nm xs gap (marks x d)
gap-stays (at_gap e f) x = at_gap e f

-- these characters lead on to such a place
pub record Later (nm : List ℕ) (xs : List Attribute) (m : InTag) (d : Said) (cs n : List ℕ) (ns : List (List ℕ)) (j : InTag) : Type 0 where
  pub said : Said
  pub place : At nm xs j said
  pub kept : said.events ≡ d.events
  pub reached : Goes (telling (tag m whole n ns) d) cs (telling (tag j whole n ns) said)

space_goes : {w : List ℕ} → Space w → {nm : List ℕ} {xs : List Attribute} {m : InTag} {d : Said} → At nm xs m d → (n : List ℕ) (ns : List (List ℕ)) → Later nm xs m d w n ns gap
space_goes (chars {c = c} {s = s} e h) {d = d} a n ns =
    let r = spaces-read (gap-space n ns) h in
    let u : Said = saying (leaves a) c d in
    record {
      said = marks (u.mark ++ utf8 s) u;
      place = gap-stays (left_at a c) (u.mark ++ utf8 s);
      kept = left-events a c;
      reached = goes-byte (space-ascii c e) (to-gap a n ns c e) d (goes-reads r u);
    }

-- ---- a key and its `=`
pub key-equals : (n : List ℕ) (ns : List (List ℕ)) → step (tag key whole n ns) 0x3D ≡ state.go Key (tag quote whole n ns)
unfolding step in_tag char crosses
key-equals n ns = refl

pub key-spaces : (n : List ℕ) (ns : List (List ℕ)) (c : ℕ) → is_space c ≡ true → step (tag key whole n ns) c ≡ state.go Key (tag key_eq whole n ns)
unfolding step in_tag char crosses
key-spaces n ns c e = space-cases (λ c. step (tag key whole n ns) c ≡ state.go Key (tag key_eq whole n ns)) refl refl refl refl c e

pub space-equals : (n : List ℕ) (ns : List (List ℕ)) → step (tag key_eq whole n ns) 0x3D ≡ state.go Stay (tag quote whole n ns)
unfolding step in_tag
space-equals n ns = refl

equal_goes : {x : List ℕ} → Spaces x → (d : Said) (n : List ℕ) (ns : List (List ℕ)) {r : List ℕ} {w : Telling} →
    ((k : List ℕ) → Goes (telling (tag quote whole n ns) (marks k (keys d))) r w) → Goes (telling (tag key whole n ns) d) (x ++ (0x3D ∷ r)) w
equal_goes no_char d n ns f = goes-byte (omega arith) (key-equals n ns) d (f (d.mark ++ (0x3D ∷ [])))
equal_goes (a-char {c = c} {s = s} e h) d n ns f =
    let u : Said = saying Key c d in
    let k : List ℕ = u.mark ++ utf8 s in
    goes-byte (space-ascii c e) (key-spaces n ns c e) d
    (goes_then (goes-reads (spaces-read (equal_space n ns) h) u)
    (goes-byte (omega arith) (space-equals n ns) (marks k u) (f (k ++ (0x3D ∷ [])))))

-- ---- a value in its quotes
pub quote-opens : (q : Quote) (n : List ℕ) (ns : List (List ℕ)) → step (tag quote whole n ns) (mark q) ≡ state.go Mark (tag (value q) whole n ns)
unfolding step in_tag
quote-opens single n ns = refl
quote-opens double n ns = refl

pub quote-closes : (q : Quote) (n : List ℕ) (ns : List (List ℕ)) → step (tag (value q) whole n ns) (mark q) ≡ state.go Value (tag value_end whole n ns)
unfolding step in_tag
quote-closes single n ns = refl
quote-closes double n ns = refl

value-goes : {q : Quote} {y v : List ℕ} → Spaces y → grammar.Value q v → (d : Said) (n : List ℕ) (ns : List (List ℕ)) {r : List ℕ} {w : Telling} →
    Goes (telling (tag value_end whole n ns) (grows (mark q) (values (marks (utf8 v) d)))) r w → Goes (telling (tag quote whole n ns) d) (y ++ (mark q ∷ (v ++ (mark q ∷ r)))) w
value-goes {q = q} {y = y} {v = v} s h d n ns k =
    let u : Said = marks (d.mark ++ utf8 y) d in
    goes_then (goes-reads (spaces-read (quote-space n ns) s) d)
    (goes-byte (mark-low q) (quote-opens q n ns) u
    (goes_then (goes-reads (value-reads h n ns) (marks [] u)) (goes-byte (mark-low q) (quote-closes q n ns) (marks (utf8 v) u) k)))

-- ---- all attributes of a tag
abbrev pub pair_of : List ℕ → List ℕ → Attribute
pair_of k v = record { good = true; key = k; value = v }

value-at : {nm : List ℕ} {xs : List Attribute} {d : Said} → At nm xs gap d → (q : Quote) (k v : List ℕ) →
    At nm (xs ++ (pair_of k v ∷ [])) value_end (grows (mark q) (values (marks v (keys (marks k d)))))
value-at (at_gap e f) q k v = at_value e (ap (λ z. z ++ (pair_of k v ∷ [])) f)

pub attributes-goes : {a : List ℕ} (h : Attributes a) {nm : List ℕ} {xs : List Attribute} {m : InTag} {d : Said} → At nm xs m d → (n : List ℕ) (ns : List (List ℕ)) →
    (j : InTag) × Later nm (xs ++ attributes_of h) m d a n ns j
attributes-goes (no-attribute no_char) {nm = nm} {xs = xs} {m = m} {d = d} a n ns = (
  m,
  record { said = d; place = subst (λ z. At nm z m d) (sym (append-nil xs)) a; kept = refl; reached = goes_none },
)
attributes-goes (no-attribute (a-char {c = c} {s = s} e h)) {nm = nm} {xs = xs} {m = m} {d = d} a n ns = (
  gap,
  subst (λ z. Later nm z m d (c ∷ s) n ns gap) (sym (append-nil xs)) (space_goes (chars e h) a n ns),
)
attributes-goes (grammar.attribute {k = k} {v = v} s i e f q g h) {nm = nm} {xs = xs} a n ns =
    let p = space_goes s a n ns in
    let u : Said = marks (utf8 k) p.said in
    let z = attributes-goes h (value-at p.place q (utf8 k) (utf8 v)) n ns in (
      z.0,
      record {
        said = z.1.said;
        place = subst (λ y. At nm y z.0 z.1.said) (append_assoc xs (pair_of (utf8 k) (utf8 v) ∷ []) (attributes_of h)) z.1.place;
        kept = z.1.kept ∙ p.kept;
        reached =
            goes_then p.reached
            (goes_then (goes-here {cs = k} (key_here i n ns) p.said) (equal_goes e u n ns (λ b. value-goes f g (marks b (keys u)) n ns z.1.reached)));
      },
    )
