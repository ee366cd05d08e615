-- References and values of attributes. Assumes nothing.
use Prim.Native.Nat.{ℕ, ◌<◌, ◌≤◌}
use mathlib.Core.Path.{◌≡◌, refl}
use mathlib.Core.List.{List}
use mathlib.Core.Bool.{true, false, not, ◌||◌, and-eq-true_iff}
use native.Mathlib.Omega.{arith}
use borrow.Author.Tests.{ne_eqb}
use lib.Dec.{eqb}
use Rattle.xml_grammar.specs.of_utf8.Characters.{encode}
use Rattle.xml_grammar.specs.of_xml_chars.Chars.{crosses, is_in, any_char, is_digit, is_hex, Quote, single, double, mark}
use Rattle.xml_grammar.specs.of_xml_chars.Bytes.{whole}
use Rattle.xml_grammar.proofs.of_xml_chars.CharLaws.{in-scalar, digit_low, hex-low}
use Rattle.xml_grammar.specs.Grammar.{chars, Referred, entity, decimal, hexadecimal, in_value, Value, no_value, value-char, value-ref}
use Rattle.xml_machine.specs.State as state
use Rattle.xml_machine.specs.State.{ref, tag, Stay, Host, attribute, InRef, ampersand, ref_name, hash, digits, hash_x, hexes, value}
use Rattle.xml_machine.specs.Machine.{char, ref_end, in_ref, in_tag, step}
use Rattle.xml_machine.proofs.Stays.{Stays, takes-stays}
use Rattle.xml_machine.proofs.Characters.{char-takes}
use Rattle.xml_machine.proofs.Carries.{tag-carries}
use Rattle.xml_complete.proofs.Reading.{Reads, reads_none, reads_then, reads-char, reads_byte, ascii-stays, many-reads}
use Rattle.xml_complete.proofs.Booleans.{or-false, not-true}
use Rattle.xml_complete.proofs.Names.{entity-reads}

-- where a reference may end
pub data Refers : InRef → Type 0 where
  by_name : Refers ref_name
  by_digits : Refers digits
  by-hexes : Refers hexes

pub refers-end : {m : InRef} → Refers m → (h : Host) → step (ref m whole h) 0x3B ≡ ref_end h
unfolding step in_ref char crosses
refers-end by_name h = refl
refers-end by_digits h = refl
refers-end by-hexes h = refl

number-sign : (h : Host) → step (ref ampersand whole h) 0x23 ≡ state.go Stay (ref hash whole h)
unfolding step in_ref char crosses
number-sign h = refl

hex-sign : (h : Host) → step (ref hash whole h) 0x78 ≡ state.go Stay (ref hash_x whole h)
unfolding step in_ref
hex-sign h = refl

first-digit : (h : Host) (c : ℕ) → is_digit c ≡ true → step (ref hash whole h) c ≡ state.go Stay (ref digits whole h)
unfolding step in_ref
first-digit h c e = rw e refl

next-digit : (h : Host) (c : ℕ) → is_digit c ≡ true → step (ref digits whole h) c ≡ state.go Stay (ref digits whole h)
unfolding step in_ref
next-digit h c e = rw e refl

first-hex : (h : Host) (c : ℕ) → is_hex c ≡ true → step (ref hash_x whole h) c ≡ state.go Stay (ref hexes whole h)
unfolding step in_ref
first-hex h c e = rw e refl

next-hex : (h : Host) (c : ℕ) → is_hex c ≡ true → step (ref hexes whole h) c ≡ state.go Stay (ref hexes whole h)
unfolding step in_ref
next-hex h c e = rw e refl

pub referred-reads : {n : List ℕ} → Referred n → (h : Host) → (m : InRef) × Refers m × Reads (ref ampersand whole h) n (ref m whole h)
referred-reads (entity i) h = (ref_name, by_name, entity-reads i h)
referred-reads (decimal (chars {c = c} e i)) h = (
  digits,
  by_digits,
  reads_byte (omega arith) (number-sign h)
      (reads_byte (digit_low c e) (first-digit h c e) (many-reads (λ b f. ascii-stays (digit_low b f) (next-digit h b f)) i)),
)
referred-reads (hexadecimal (chars {c = c} e i)) h = (
  hexes,
  by-hexes,
  reads_byte (omega arith) (number-sign h)
      (reads_byte (omega arith) (hex-sign h)
      (reads_byte (hex-low c e) (first-hex h c e) (many-reads (λ b f. ascii-stays (hex-low b f) (next-hex h b f)) i))),
)

-- ---- values
pub mark-low : (q : Quote) → mark q < 0x80
mark-low single = omega arith
mark-low double = omega arith

ampersand-opens : (q : Quote) (n : List ℕ) (ns : List (List ℕ)) → step (tag (value q) whole n ns) 0x26 ≡ state.go Stay (ref ampersand whole (attribute q n ns))
unfolding step in_tag
ampersand-opens single n ns = refl
ampersand-opens double n ns = refl

value-takes : (q : Quote) (n : List ℕ) (ns : List (List ℕ)) (b : ℕ) → (eqb b (mark q) || (eqb b 0x3C || eqb b 0x26)) ≡ false →
    step (tag (value q) whole n ns) b ≡ char any_char b Stay (λ p. tag (value q) p n ns) state.no
unfolding step in_tag
value-takes q n ns b e =
    let p = or-false (eqb b (mark q)) _ e in
    let r = or-false (eqb b 0x3C) (eqb b 0x26) p.1 in
    rw (p.0, r.0, r.1) refl

value-high : (q : Quote) (b : ℕ) → 0x80 ≤ b → (eqb b (mark q) || (eqb b 0x3C || eqb b 0x26)) ≡ false
value-high q b h = let i = mark-low q in simp (ne_eqb b (mark q) (omega arith), ne_eqb b 0x3C (omega arith), ne_eqb b 0x26 (omega arith))

value-one : (q : Quote) (n : List ℕ) (ns : List (List ℕ)) (c : ℕ) → in_value q c ≡ true → Stays (tag (value q) whole n ns) (encode c) (tag (value q) whole n ns)
value-one q n ns c e =
    let p = (and-eq-true_iff (is_in any_char c) (not (eqb c (mark q) || (eqb c 0x3C || eqb c 0x26)))).0 e in
    takes-stays
    (char-takes (tag (value q) whole n ns) (λ bs p. tag (value q) p n ns) (tag-carries (value q) n ns) any_char Stay (λ b. state.no) c
    (λ h. value-takes q n ns c (not-true _ p.1)) (λ b h. value-takes q n ns b (value-high q b (omega arith))) p.0 (in-scalar c p.0))

pub value-reads : {q : Quote} {v : List ℕ} → Value q v → (n : List ℕ) (ns : List (List ℕ)) → Reads (tag (value q) whole n ns) v (tag (value q) whole n ns)
value-reads no_value n ns = reads_none
value-reads {q = q} (value-char {c = c} e h) n ns = reads-char (value-one q n ns c e) (value-reads h n ns)
value-reads {q = q} (value-ref r h) n ns =
    let p = referred-reads r (attribute q n ns) in
    reads_byte (omega arith) (ampersand-opens q n ns) (reads_then p.2 (reads_byte (omega arith) (refers-end p.1 (attribute q n ns)) (value-reads h n ns)))
