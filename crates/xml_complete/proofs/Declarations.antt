-- The declaration. Assumes nothing.
use Prim.Native.Nat.{ℕ}
use mathlib.Core.Path.{◌≡◌, refl, ap, subst}
use mathlib.Core.List.{List, [], ◌∷◌, ◌++◌, map}
use mathlib.Core.Bool.{true, and-eq-true_iff}
use native.Mathlib.Omega.{arith}
use borrow.Author.Tests.{eq-eqb, ltb-true}
use lib.Dec.{ltb}
use Rattle.xml_grammar.specs.of_names.Bytes.{bytes}
use Rattle.xml_grammar.specs.of_xml_chars.Chars.{is_space, is_digit, lower, Quote, single, double, mark}
use Rattle.xml_grammar.specs.of_xml_chars.Bytes.{whole}
use Rattle.xml_grammar.proofs.of_xml_chars.CharLaws.{digit_low, lower-least}
use Rattle.xml_grammar.specs.Grammar as grammar
use Rattle.xml_grammar.specs.Grammar.{no_char, a-char, chars, Space, Spaces, Declares, declares, Maybe, absent, present, Version, Encoding, Standalone, yes-alone, no-alone, Declaration, declaration}
use Rattle.xml_machine.specs.State as state
use Rattle.xml_machine.specs.State.{State, heading, decl, literal, misc, Stay, x0, x1, x2, x3, before, pi_close, to_equals, to_point, to_chosen}
use Rattle.xml_machine.specs.State.{Item, version, encoding, standalone, opening, equals, quoting, point, digit, letters, choice, chosen, valued, between}
use Rattle.xml_machine.specs.Machine.{in_heading, in_decl, value_of, step}
use Rattle.xml_complete.proofs.Reading.{Reads, reads_none, reads_then, reads_byte, ascii-stays, many-reads}
use Rattle.xml_complete.proofs.Spaces.{space-ascii, spaces-read, opening-space, equals-space, quoting-space, between-space}
use Rattle.xml_complete.proofs.References.{mark-low}
use Rattle.xml_complete.proofs.Literals.{lows, literal-reads}
use Rattle.xml_complete.proofs.Instructions.{Closes, closes, close-ends}

-- ---- an item, from its `=` on
equals-sign : (i : Item) → step (decl (equals i)) 0x3D ≡ state.go Stay (decl (quoting i))
unfolding step in_decl
equals-sign i = refl

quote-opens : (i : Item) (q : Quote) → step (decl (quoting i)) (mark q) ≡ state.go Stay (value_of i q)
unfolding step in_decl
quote-opens i single = refl
quote-opens i double = refl

item-reads : (i : Item) (q : Quote) (v : List ℕ) {x y : List ℕ} → Spaces x → Spaces y → Reads (value_of i q) (v ++ (mark q ∷ [])) (decl (valued i)) →
    Reads (decl (equals i)) (x ++ (0x3D ∷ (y ++ (mark q ∷ (v ++ (mark q ∷ [])))))) (decl (valued i))
item-reads i q v h k r =
    reads_then (spaces-read (equals-space i) h)
    (reads_byte (omega arith) (equals-sign i) (reads_then (spaces-read (quoting-space i) k) (reads_byte (mark-low q) (quote-opens i q) r)))

-- ---- values
first-digit : (q : Quote) (c : ℕ) → is_digit c ≡ true → step (decl (point q)) c ≡ state.go Stay (decl (digit q))
unfolding step in_decl
first-digit q c e = rw e refl

next-digit : (q : Quote) (c : ℕ) → is_digit c ≡ true → step (decl (digit q)) c ≡ state.go Stay (decl (digit q))
unfolding step in_decl
next-digit q c e = rw e refl

digits-end : (q : Quote) → step (decl (digit q)) (mark q) ≡ state.go Stay (decl (valued version))
unfolding step in_decl
digits-end single = refl
digits-end double = refl

version-reads : (q : Quote) {v : List ℕ} → Version v → Reads (value_of version q) (v ++ (mark q ∷ [])) (decl (valued version))
version-reads q (grammar.version (chars {c = c} e h)) =
    reads_then (literal-reads 0x31 (0x2E ∷ []) (to_point q) refl refl)
    (reads_byte (digit_low c e) (first-digit q c e)
    (reads_then (many-reads (λ b f. ascii-stays (digit_low b f) (next-digit q b f)) h) (reads_byte (mark-low q) (digits-end q) reads_none)))

letter-step : (q : Quote) (c : ℕ) (l : List ℕ) → step (decl (letters q (lower c ∷ l))) c ≡ state.go Stay (decl (letters q l))
unfolding step in_decl
letter-step q c l = rw (eq-eqb (lower c) (lower c) refl) refl

letters-end : (q : Quote) → step (decl (letters q [])) (mark q) ≡ state.go Stay (decl (valued encoding))
unfolding step in_decl
letters-end single = refl
letters-end double = refl

letters-read : (q : Quote) (s : List ℕ) → lows (map lower s) ≡ true → Reads (decl (letters q (map lower s))) s (decl (letters q []))
letters-read q [] e = reads_none
letters-read q (c ∷ s) e =
    let p = (and-eq-true_iff (ltb (lower c) 0x80) (lows (map lower s))).0 e in
    let i = ltb-true (lower c) 0x80 p.0 in
    let j = lower-least c in
    reads_byte (omega arith) (letter-step q c (map lower s)) (letters-read q s p.1)

encoding-reads : (q : Quote) {v : List ℕ} → Encoding v → Reads (value_of encoding q) (v ++ (mark q ∷ [])) (decl (valued encoding))
encoding-reads q (grammar.encoding {s = s} e) =
    reads_then (subst (λ z. Reads (decl (letters q z)) s (decl (letters q []))) e (letters-read q s (ap lows e))) (reads_byte (mark-low q) (letters-end q) reads_none)

chooses-yes : (q : Quote) → step (decl (choice q)) 0x79 ≡ state.go Stay (literal 0x65 (0x73 ∷ []) (to_chosen q))
unfolding step in_decl
chooses-yes q = refl

chooses-no : (q : Quote) → step (decl (choice q)) 0x6E ≡ state.go Stay (literal 0x6F [] (to_chosen q))
unfolding step in_decl
chooses-no q = refl

chosen-ends : (q : Quote) → step (decl (chosen q)) (mark q) ≡ state.go Stay (decl (valued standalone))
unfolding step in_decl
chosen-ends single = refl
chosen-ends double = refl

standalone-reads : (q : Quote) {v : List ℕ} → Standalone v → Reads (value_of standalone q) (v ++ (mark q ∷ [])) (decl (valued standalone))
standalone-reads q yes-alone =
    reads_byte (omega arith) (chooses-yes q) (reads_then (literal-reads 0x65 (0x73 ∷ []) (to_chosen q) refl refl) (reads_byte (mark-low q) (chosen-ends q) reads_none))
standalone-reads q no-alone =
    reads_byte (omega arith) (chooses-no q) (reads_then (literal-reads 0x6F [] (to_chosen q) refl refl) (reads_byte (mark-low q) (chosen-ends q) reads_none))

-- ---- words
version-word : step (decl opening) 0x76 ≡ state.go Stay (literal 0x65 (bytes "rsion") (to_equals version))
unfolding step in_decl
version-word = refl

encoding-word : step (decl (between version)) 0x65 ≡ state.go Stay (literal 0x6E (bytes "coding") (to_equals encoding))
unfolding step in_decl
encoding-word = refl

-- behind which `standalone` may come
data Early : Item → Type 0 where
  early-version : Early version
  early-encoding : Early encoding

standalone-word : {i : Item} → Early i → step (decl (between i)) 0x73 ≡ state.go Stay (literal 0x74 (bytes "andalone") (to_equals standalone))
unfolding step in_decl
standalone-word early-version = refl
standalone-word early-encoding = refl

-- ---- white space before them
heading-space : (c : ℕ) → is_space c ≡ true → step (heading x3) c ≡ state.go Stay (decl opening)
unfolding step in_heading
heading-space c e = rw e refl

valued-space : (i : Item) (c : ℕ) → is_space c ≡ true → step (decl (valued i)) c ≡ state.go Stay (decl (between i))
unfolding step in_decl
valued-space i c e = rw e refl

opening-reads : {w : List ℕ} → Space w → Reads (heading x3) w (decl opening)
opening-reads (chars {c = c} e h) = reads_byte (space-ascii c e) (heading-space c e) (spaces-read opening-space h)

between-reads : (i : Item) {w : List ℕ} → Space w → Reads (decl (valued i)) w (decl (between i))
between-reads i (chars {c = c} e h) = reads_byte (space-ascii c e) (valued-space i c e) (spaces-read (between-space i) h)

-- ---- the items
version-item : {s : List ℕ} → Declares (bytes "version") Version s → Reads (heading x3) s (decl (valued version))
version-item (declares {v = v} w x y q h) =
    reads_then (opening-reads w)
    (reads_byte (omega arith) version-word
    (reads_then (literal-reads 0x65 (bytes "rsion") (to_equals version) refl refl) (item-reads version q v x y (version-reads q h))))

encoding-item : {s : List ℕ} → Maybe (Declares (bytes "encoding") Encoding) s → (i : Item) × Early i × Reads (decl (valued version)) s (decl (valued i))
encoding-item absent = (version, early-version, reads_none)
encoding-item (present (declares {v = v} w x y q h)) = (
  encoding,
  early-encoding,
  reads_then (between-reads version w)
      (reads_byte (omega arith) encoding-word
      (reads_then (literal-reads 0x6E (bytes "coding") (to_equals encoding) refl refl) (item-reads encoding q v x y (encoding-reads q h)))),
)

standalone-item : {i : Item} → Early i → {s : List ℕ} → Maybe (Declares (bytes "standalone") Standalone) s → (j : Item) × Reads (decl (valued i)) s (decl (valued j))
standalone-item {i = i} e absent = (i, reads_none)
standalone-item {i = i} e (present (declares {v = v} w x y q h)) = (
  standalone,
  reads_then (between-reads i w)
      (reads_byte (omega arith) (standalone-word e)
      (reads_then (literal-reads 0x74 (bytes "andalone") (to_equals standalone) refl refl) (item-reads standalone q v x y (standalone-reads q h)))),
)

-- ---- the end
valued-ends : (i : Item) → step (decl (valued i)) 0x3F ≡ state.go Stay (misc pi_close whole before)
unfolding step in_decl
valued-ends i = refl

between_ends : (i : Item) → step (decl (between i)) 0x3F ≡ state.go Stay (misc pi_close whole before)
unfolding step in_decl
between_ends version = refl
between_ends encoding = refl
between_ends standalone = refl

ending-reads : (i : Item) {w : List ℕ} → Spaces w → (u : State) × Closes before u × Reads (decl (valued i)) w u
ending-reads i no_char = (decl (valued i), closes (valued-ends i) (close-ends before), reads_none)
ending-reads i (a-char e h) = (decl (between i), closes (between_ends i) (close-ends before), between-reads i (chars e h))

first-letter : step (heading x0) 0x78 ≡ state.go Stay (heading x1)
unfolding step in_heading
first-letter = refl

second-letter : step (heading x1) 0x6D ≡ state.go Stay (heading x2)
unfolding step in_heading
second-letter = refl

third-letter : step (heading x2) 0x6C ≡ state.go Stay (heading x3)
unfolding step in_heading
third-letter = refl

pub declaration-reads : {d : List ℕ} → Declaration d → (u : State) × Closes before u × Reads (heading x0) d u
declaration-reads (declaration v e s w) =
    let p = encoding-item e in
    let q = standalone-item p.1 s in
    let r = ending-reads q.0 w in (
      r.0,
      r.1,
      reads_byte (omega arith) first-letter
          (reads_byte (omega arith) second-letter
          (reads_byte (omega arith) third-letter (reads_then (version-item v) (reads_then p.2 (reads_then q.1 r.2))))),
    )
