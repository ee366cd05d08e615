-- Texts, comments, instructions, references and sections. Assumes nothing.
use Prim.Native.Nat.{ℕ, ◌+◌, ◌<◌}
use mathlib.Core.Path.{◌≡◌, refl, ap, ◌∙◌}
use mathlib.Core.List.{List, [], ◌∷◌, ◌++◌}
use mathlib.Core.Bool.{Bool, true, cond}
use native.Mathlib.Omega.{arith}
use borrow.Author.Tests.{lt-ltb, le-ltb}
use lib.ListN.{length}
use Rattle.xml_tokens.specs.of_names.Bytes.{bytes}
use Rattle.xml_tokens.specs.of_utf8.Characters.{is_scalar, encode}
use Rattle.xml_tokens.specs.of_table.Kinds as kind
use Rattle.xml_tokens.specs.of_table.Event.{Piece, Text}
use Rattle.xml_tokens.specs.of_xml_chars.Chars.{is_in, any_char}
use Rattle.xml_tokens.specs.of_xml_chars.Bytes.{utf8, whole}
use Rattle.xml_tokens.proofs.of_xml_chars.CharLaws.{in-scalar, low_scalar}
use Rattle.xml_tokens.specs.of_xml_grammar.Grammar as grammar
use Rattle.xml_tokens.specs.of_xml_grammar.Grammar.{Many, no_char, a-char, lacks, Spaces, in_data_of, Remark, Referred, Misc, comment, instruction, Beside, reference, aside}
use Rattle.xml_tokens.specs.of_xml_machine.State.{State, text, Brackets, b0, Place, content, to_section}
use Rattle.xml_tokens.specs.of_xml_machine.Machine.{resume}
use Rattle.xml_tokens.specs.of_xml_machine.Tokens.{Rec, over, event, nothing}
use Rattle.xml_tokens.specs.of_xml_machine.inside.Saying.{text_said}
use Rattle.xml_tokens.proofs.of_xml_complete.Reading.{Reads}
use Rattle.xml_tokens.proofs.of_xml_complete.Spaces.{space-ascii}
use Rattle.xml_tokens.proofs.of_xml_complete.Pieces.{text-said}
use Rattle.xml_tokens.proofs.of_xml_complete.Literals.{literal-last}
use Rattle.xml_tokens.proofs.of_xml_complete.References.{referred-reads, refers-end}
use Rattle.xml_tokens.proofs.of_xml_complete.CharacterData.{data-char, section-reads, section-bracket, section-brackets}
use Rattle.xml_tokens.proofs.of_xml_complete.Comments.{Opens, in-text, opens-step, opens-bang, bang-dash, dash-opens, first-dash, second-dash, dash-ends, remark-reads}
use Rattle.xml_tokens.proofs.of_xml_complete.Instructions.{Closes, closes, asks, asks-aims, asks-step, instruction-reads}
use Rattle.xml_tokens.proofs.of_xml_complete.Elements.{ampersand-opens, section-ends, opening-reads}
use Rattle.xml_tokens.specs.Due.{events_due}
use Rattle.xml_places.specs.Places.{size, piece_at, text_at, misc_at, beside_at}
use Rattle.xml_places.proofs.Putting.{Puts, puts-long, puts_then, puts-to, puts-reads, puts-stay, puts-mark, puts-text}
use Rattle.xml_places.proofs.Putting.{puts_text-mark, puts-ref, puts-comment, puts-instruction, puts-section, run_at, over-piece}

-- ---- a whole run of text
said-long : (l r : List ℕ) → text_said l ≡ Piece Text r ∷ [] → 0 < length l
said-long [] r e = let z : ◌≡◌ {A = ℕ} 0 1 = cc in absurd (omega arith)
said-long (b ∷ l) r e = omega arith

pub run-text : {is : ℕ → Bool} → ((c : ℕ) → is c ≡ true → is_scalar c ≡ true) → {w : List ℕ} → Many is w → (x to : ℕ) → to ≡ x + size w → run_at x to ≡ text_at x w
run-text f no_char x to e = ap (λ (z : Bool). events_due (cond z (event (over kind.text x to)) nothing ∷ [])) (le-ltb x to (omega arith))
run-text f (a-char {c = c} {s = s} i h) x to e =
    let l = said-long (utf8 (c ∷ s)) (utf8 (c ∷ s)) (text-said f (a-char i h)) in
    ap (λ (z : Bool). events_due (cond z (event (over kind.text x to)) nothing ∷ [])) (lt-ltb x to (omega arith))
    ∙ ap (λ (r : Rec). r ∷ []) (over-piece kind.text x to x (c ∷ s) refl e)

pub run-space : {w : List ℕ} → Spaces w → (x to : ℕ) → to ≡ x + size w → run_at x to ≡ text_at x w
run-space h = run-text (λ c e. let p = space-ascii c e in low_scalar c (omega arith)) h

pub run-data : {w : List ℕ} → Many in_data_of w → (x to : ℕ) → to ≡ x + size w → run_at x to ≡ text_at x w
run-data h = run-text (λ c m. in-scalar c (data-char c m)) h

-- ---- markup: it begins at the byte `at`, and its end is the next mark
pub puts-end : {s u : State} {x at y : ℕ} {cs : List ℕ} {es xs : List Rec} → Puts s x at cs u y y es xs → Puts s x at cs u (at + size cs) (at + size cs) es xs
puts-end h = puts-to (puts-long h) (puts-long h) h

comment-puts : {s v : State} {pl : Place} → Opens s v pl → {r : List ℕ} → Remark r → (x at : ℕ) →
    Puts s x at (0x3C ∷ 0x21 ∷ 0x2D ∷ 0x2D ∷ (r ++ (0x2D ∷ 0x2D ∷ 0x3E ∷ []))) (resume pl) (at + 4 + size r + 3) (at + 4 + size r + 3) (run_at x at ++ (piece_at kind.other (at + 4) r ∷ [])) []
comment-puts {pl = pl} o {r = r} h x at =
    puts-to (omega arith) (omega arith)
    (puts_then (puts-text (omega arith) (opens-step o))
    (puts_then (puts-stay (omega arith) (opens-bang o))
    (puts_then (puts-stay (omega arith) (bang-dash pl))
    (puts_then (puts-mark (omega arith) (dash-opens pl))
    (puts_then (puts-reads (remark-reads h pl))
    (puts_then (puts-stay (omega arith) (first-dash pl))
    (puts_then (puts-stay (omega arith) (second-dash pl)) (puts-comment (at + 4) r (omega arith) (omega arith) (dash-ends pl) (omega arith)))))))))

pub query_puts : {s v : State} {pl : Place} (o : Opens s v pl) {i : List ℕ} {u : State} → Closes pl u → Reads (asks o) i u → (x at : ℕ) →
    Puts s x at (0x3C ∷ 0x3F ∷ (i ++ (0x3F ∷ 0x3E ∷ []))) (resume pl) (at + 2 + size i + 2) (at + 2 + size i + 2) (run_at x at ++ (piece_at kind.other (at + 2) i ∷ [])) []
query_puts o {i = i} (closes e f) h x at =
    puts-to (omega arith) (omega arith)
    (puts_then (puts-text (omega arith) (opens-step o))
    (puts_then (puts-mark (omega arith) (asks-step o))
    (puts_then (puts-reads h)
    (puts_then (puts-stay (omega arith) e) (puts-instruction (at + 2) i (omega arith) (omega arith) f (omega arith))))))

pub misc-puts : {s v : State} {pl : Place} → Opens s v pl → {e : List ℕ} (h : Misc e) → (x at : ℕ) →
    Puts s x at e (resume pl) (at + size e) (at + size e) (run_at x at ++ (misc_at at h ∷ [])) []
misc-puts o (comment r) x at = puts-end (comment-puts o r x at)
misc-puts o (instruction i) x at = let p = instruction-reads i (asks-aims o) in puts-end (query_puts o p.1 p.2 x at)

opening-size : (at : ℕ) → at + 1 + size (0x21 ∷ 0x5B ∷ 0x43 ∷ 0x44 ∷ 0x41 ∷ 0x54 ∷ 0x41 ∷ []) ≡ at + 8
unfolding encode
opening-size at = omega arith

section-puts : {s : List ℕ} → Many (is_in any_char) s → lacks (bytes "]]>") s ≡ true → (k : Brackets) (n : List ℕ) (ns : List (List ℕ)) (x at : ℕ) →
    Puts (text k whole n ns) x at (0x3C ∷ 0x21 ∷ 0x5B ∷ 0x43 ∷ 0x44 ∷ 0x41 ∷ 0x54 ∷ 0x41 ∷ 0x5B ∷ (s ++ (0x5D ∷ 0x5D ∷ 0x3E ∷ []))) (text b0 whole n ns)
    (at + 9 + size s + 3) (at + 9 + size s + 3) (run_at x at ++ (piece_at kind.cdata (at + 9) s ∷ [])) []
section-puts {s = s} c l k n ns x at =
    let p = section-reads c l n ns in
    puts-to (omega arith) (omega arith)
    (puts_then (puts-text (omega arith) (opens-step in-text))
    (puts_then (puts-to refl (opening-size at) (puts-reads (opening-reads n ns)))
    (puts_then (puts-mark (omega arith) (literal-last 0x5B (to_section n ns)))
    (puts_then (puts-reads p.1)
    (puts_then (puts-stay (omega arith) (section-bracket n ns p.0))
    (puts_then (puts-stay (omega arith) (section-brackets p.0 n ns)) (puts-section (at + 9) s (omega arith) (omega arith) (section-ends n ns) (omega arith))))))))

reference-puts : {r : List ℕ} → Referred r → (k : Brackets) (n : List ℕ) (ns : List (List ℕ)) (x at : ℕ) →
    Puts (text k whole n ns) x at (0x26 ∷ (r ++ (0x3B ∷ []))) (text b0 whole n ns) (at + 1 + size r + 1) (at + 1 + size r + 1) (run_at x at ++ (piece_at kind.ref (at + 1) r ∷ [])) []
reference-puts {r = r} i k n ns x at =
    let p = referred-reads i (content n ns) in
    puts_then (puts_text-mark (omega arith) (ampersand-opens k n ns))
    (puts_then (puts-reads p.2) (puts-ref (at + 1) r (omega arith) refl (refers-end p.1 (content n ns)) refl))

pub beside-puts : {e : List ℕ} (h : Beside e) (k : Brackets) (n : List ℕ) (ns : List (List ℕ)) (x at : ℕ) →
    Puts (text k whole n ns) x at e (text b0 whole n ns) (at + size e) (at + size e) (run_at x at ++ (beside_at at h ∷ [])) []
beside-puts (reference r) k n ns x at = puts-end (reference-puts r k n ns x at)
beside-puts (grammar.section c l) k n ns x at = puts-end (section-puts c l k n ns x at)
beside-puts (aside h) k n ns x at = misc-puts in-text h x at
