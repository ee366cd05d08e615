-- Instructions, and comments or instructions wherever they stand. Assumes nothing.
use Prim.Native.Nat.{ℕ}
use mathlib.Core.Path.{◌≡◌, refl}
use mathlib.Core.List.{List, [], ◌∷◌, ◌++◌}
use mathlib.Core.Bool.{Bool, true, false, false≢true}
use native.Mathlib.Omega.{arith}
use borrow.Author.Tests.{ne_eqb, eqb-true, eqb-false}
use lib.Dec.{eqb}
use Rattle.xml_grammar.specs.of_names.Bytes.{bytes}
use Rattle.xml_grammar.specs.of_utf8.Characters.{encode}
use Rattle.xml_grammar.specs.of_table.Event.{Piece, Other}
use Rattle.xml_grammar.specs.of_xml_chars.Chars.{crosses, is_in, any_char, is_space}
use Rattle.xml_grammar.specs.of_xml_chars.Bytes.{utf8, whole}
use Rattle.xml_grammar.proofs.of_xml_chars.CharLaws.{in-scalar}
use Rattle.xml_grammar.specs.Grammar.{Many, no_char, a-char, chars, lacks, Instruction, bare, with-data, Misc, comment, instruction}
use Rattle.xml_grammar.specs.Events.{misc_of}
use Rattle.xml_machine.specs.State as state
use Rattle.xml_machine.specs.State.{State, heading, misc, Stay, Mark, Pi, x0, Place, before, inside, InMisc, target, pi_data, pi_query, pi_close}
use Rattle.xml_machine.specs.Machine.{char, resume, in_misc, in_lt, step}
use Rattle.xml_machine.specs.inside.Saying.{text_said}
use Rattle.xml_machine.proofs.Stays.{Stays, takes-stays}
use Rattle.xml_machine.proofs.Characters.{char-takes}
use Rattle.xml_machine.proofs.Carries.{misc-carries}
use Rattle.xml_complete.proofs.Reading.{Reads, reads_none, reads_then, reads-char, reads_byte, ascii-stays, Tells, tells-then, tells-reads, tells-mark, tells-text}
use Rattle.xml_complete.proofs.Spaces.{space-cases, space-ascii, spaces-read}
use Rattle.xml_complete.proofs.CharacterData.{lacks-next}
use Rattle.xml_complete.proofs.Pieces.{tells-stay, tells-instruction}
use Rattle.xml_complete.proofs.Comments.{Opens, at-fresh, at-marked, at-prolog, at-epilog, in-text, opens-step, comment-tells}
use Rattle.xml_complete.proofs.Targets.{Aims, aims, heads, target-reads, ended-space, ended-query}

-- ---- data: whether a `?` stands
abbrev data_at : Bool → InMisc
data_at true = pi_query
data_at false = pi_data

abbrev asked : Bool → List ℕ
asked true = 0x3F ∷ []
asked false = []

abbrev shutting : List ℕ
shutting = bytes "?>"

query-steps : (q : Bool) (pl : Place) → step (misc (data_at q) whole pl) 0x3F ≡ state.go Stay (misc pi_query whole pl)
unfolding step in_misc
query-steps true pl = refl
query-steps false pl = refl

query-takes : (pl : Place) (b : ℕ) → ¬ (b ≡ 0x3F) → ¬ (b ≡ 0x3E) → step (misc pi_query whole pl) b ≡ char any_char b Stay (λ p. misc pi_data p pl) state.no
unfolding step in_misc
query-takes pl b h i = simp (ne_eqb b 0x3F h, ne_eqb b 0x3E i)

data-takes : (pl : Place) (b : ℕ) → ¬ (b ≡ 0x3F) → step (misc pi_data whole pl) b ≡ char any_char b Stay (λ p. misc pi_data p pl) state.no
unfolding step in_misc
data-takes pl b h = simp (ne_eqb b 0x3F h)

asked-once : (q : Bool) (s : List ℕ) → lacks shutting (asked q ++ (0x3F ∷ s)) ≡ true → lacks shutting (0x3F ∷ s) ≡ true
asked-once true s e = lacks-next shutting 0x3F (0x3F ∷ s) e
asked-once false s e = e

asked-none : (q : Bool) (c : ℕ) (s : List ℕ) → lacks shutting (asked q ++ (c ∷ s)) ≡ true → lacks shutting s ≡ true
asked-none true c s e = lacks-next shutting c s (lacks-next shutting 0x3F (c ∷ s) e)
asked-none false c s e = lacks-next shutting c s e

not-shut : (c : ℕ) (s : List ℕ) → lacks shutting (0x3F ∷ c ∷ s) ≡ true → ¬ (c ≡ 0x3E)
not-shut c s e f = false≢true (rw f at e)

data-char : (q : Bool) (c : ℕ) (s : List ℕ) → is_in any_char c ≡ true → ¬ (c ≡ 0x3F) → lacks shutting (asked q ++ (c ∷ s)) ≡ true → (pl : Place) →
    Stays (misc (data_at q) whole pl) (encode c) (misc pi_data whole pl)
data-char true c s m h e pl =
    takes-stays
    (char-takes (misc pi_query whole pl) (λ bs p. misc pi_data p pl) (misc-carries pi_data pl) any_char Stay (λ b. state.no) c
    (λ i. query-takes pl c h (not-shut c s e)) (λ b i. query-takes pl b (omega arith) (omega arith)) m (in-scalar c m))
data-char false c s m h e pl =
    takes-stays
    (char-takes (misc pi_data whole pl) (λ bs p. misc pi_data p pl) (misc-carries pi_data pl) any_char Stay (λ b. state.no) c
    (λ i. data-takes pl c h) (λ b i. data-takes pl b (omega arith)) m (in-scalar c m))

data-one : (c : ℕ) (s : List ℕ) (q : Bool) → is_in any_char c ≡ true → lacks shutting (asked q ++ (c ∷ s)) ≡ true → (pl : Place) →
    (j : Bool) × (lacks shutting (asked j ++ s) ≡ true) × Stays (misc (data_at q) whole pl) (encode c) (misc (data_at j) whole pl)
data-one c s q m f pl = by_byte (eqb c 0x3F) refl
  where
    by_byte : (x : Bool) → eqb c 0x3F ≡ x → (j : Bool) × (lacks shutting (asked j ++ s) ≡ true) × Stays (misc (data_at q) whole pl) (encode c) (misc (data_at j) whole pl)
    by_byte true e =
        let p = eqb-true c 0x3F e in
        (true, asked-once q s (rw p at f), rw p (ascii-stays (omega arith) (query-steps q pl)))
    by_byte false e = (false, asked-none q c s f, data-char q c s m (eqb-false c 0x3F e) f pl)

data_reads : {d : List ℕ} → Many (is_in any_char) d → (q : Bool) → lacks shutting (asked q ++ d) ≡ true → (pl : Place) → (j : Bool) × Reads (misc (data_at q) whole pl) d (misc (data_at j) whole pl)
data_reads no_char q f pl = (q, reads_none)
data_reads (a-char {c = c} {s = s} m h) q f pl =
    let p = data-one c s q m f pl in
    let z = data_reads h p.0 p.1 pl in
    (z.0, reads-char p.2 z.1)

data_space : (pl : Place) (c : ℕ) → is_space c ≡ true → step (misc pi_data whole pl) c ≡ state.go Stay (misc pi_data whole pl)
unfolding step in_misc char crosses
data_space pl c e = space-cases (λ c. step (misc pi_data whole pl) c ≡ state.go Stay (misc pi_data whole pl)) refl refl refl refl c e

-- ---- the end
-- a state behind which `?>` ends what was marked
pub data Closes : Place → State → Type 0 where
  closes : {pl : Place} {s u : State} → step s 0x3F ≡ state.go Stay u → step u 0x3E ≡ state.go Pi (resume pl) → Closes pl s

pub closing-tells : {pl : Place} {s : State} → Closes pl s → (x : List ℕ) → Tells s x (0x3F ∷ 0x3E ∷ []) (resume pl) [] (Piece Other x ∷ [])
closing-tells (closes e f) x = tells-then (tells-stay (omega arith) e) (tells-instruction x 0x3F (omega arith) f)

pub close-ends : (pl : Place) → step (misc pi_close whole pl) 0x3E ≡ state.go Pi (resume pl)
unfolding step in_misc
close-ends pl = refl

query-ends : (pl : Place) → step (misc pi_query whole pl) 0x3E ≡ state.go Pi (resume pl)
unfolding step in_misc
query-ends pl = refl

pub instruction-reads : {i : List ℕ} → Instruction i → {pl : Place} {s : State} → Aims x0 pl s → (u : State) × Closes pl u × Reads s i u
instruction-reads (bare t) {pl = pl} a =
    let p = target-reads t a in
    (p.0, closes (ended-query p.1) (close-ends pl), p.2)
instruction-reads (with-data t (chars {c = c} e w) d l) {pl = pl} a =
    let p = target-reads t a in
    let z = data_reads d false l pl in (
      misc (data_at z.0) whole pl,
      closes (query-steps z.0 pl) (query-ends pl),
      reads_then p.2 (reads_byte (space-ascii c e) (ended-space p.1 c e) (reads_then (spaces-read (data_space pl) w) z.1)),
    )

-- behind `<?`
abbrev pub asks : {s v : State} {pl : Place} → Opens s v pl → State
asks at-fresh = heading x0
asks at-marked = heading x0
asks at-prolog = misc (target x0) whole before
asks at-epilog = misc (target x0) whole state.after
asks (in-text {n = n} {ns = ns}) = misc (target x0) whole (inside n ns)

pub asks-aims : {s v : State} {pl : Place} (o : Opens s v pl) → Aims x0 pl (asks o)
asks-aims at-fresh = heads
asks-aims at-marked = heads
asks-aims at-prolog = aims
asks-aims at-epilog = aims
asks-aims in-text = aims

pub asks-step : {s v : State} {pl : Place} (o : Opens s v pl) → step v 0x3F ≡ state.go Mark (asks o)
unfolding step in_lt char crosses
asks-step at-fresh = refl
asks-step at-marked = refl
asks-step at-prolog = refl
asks-step at-epilog = refl
asks-step in-text = refl

pub query-tells : {s v : State} {pl : Place} (o : Opens s v pl) {i : List ℕ} {u : State} → Closes pl u → Reads (asks o) i u → {m : List ℕ} →
    Tells s m (0x3C ∷ 0x3F ∷ (i ++ (0x3F ∷ 0x3E ∷ []))) (resume pl) [] (text_said m ++ (Piece Other (utf8 i) ∷ []))
query-tells o {i = i} c h =
    tells-then (tells-text (omega arith) (opens-step o))
    (tells-then (tells-mark (omega arith) (asks-step o)) (tells-then {m = []} (tells-reads h) (closing-tells c (utf8 i))))

pub misc-tells : {s v : State} {pl : Place} → Opens s v pl → {e : List ℕ} (h : Misc e) → {m : List ℕ} → Tells s m e (resume pl) [] (text_said m ++ (misc_of h ∷ []))
misc-tells o (comment r) = comment-tells o r
misc-tells o (instruction i) = let p = instruction-reads i (asks-aims o) in query-tells o p.1 p.2
