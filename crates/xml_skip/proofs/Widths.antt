-- Whole characters beyond ASCII that are left out. Assumes nothing.
use Prim.Native.Nat.{ℕ, ◌+◌, ◌-◌, ◌*◌, ◌/◌, ◌%◌, ◌≤◌, ◌<◌}
use mathlib.Core.Path.{◌≡◌, refl, sym, ap, ◌∙◌}
use mathlib.Core.List.{List, [], ◌∷◌, ◌++◌}
use mathlib.Core.Bool.{true, ◌&&◌, ◌||◌, and-eq-true_iff}
use native.Mathlib.Omega.{arith}
use native.Mathlib.Decide.{dec_lt}
use native.Mathlib.Numerals.{add-one}
use borrow.Author.Tests.{ltb-true}
use lib.Dec.{ltb}
use lib.ListN.{length, get_or, drop}
use lib.Seq.{drop-cons}
use Rattle.xml_agree.specs.of_utf8.Characters.{encode}
use Rattle.xml_agree.specs.of_xml_chars.Chars.{crosses, is_in, any_char}
use Rattle.xml_agree.proofs.of_xml_chars.CharLaws.{or_cases, or_left, or_right, in-crosses, in-scalar}
use Rattle.xml_agree.proofs.of_xml_chars.Encoding.{two_bytes, three-bytes, four_bytes}
use Rattle.xml_agree.specs.of_xml_machine.State as state
use Rattle.xml_agree.specs.of_xml_machine.State.{State, Stay}
use Rattle.xml_agree.specs.of_xml_machine.Machine.{step}
use Rattle.xml_agree.specs.of_xml_machine.Tokens.{Marks, Room, Kept, keep, records, rooms}
use Rattle.xml_agree.proofs.of_xml_machine.Stays.{Stays, there, stay}
use Rattle.xml_skip.specs.inside.Passes.{loose, Wide, further, two_bytes_of, three_bytes, four_bytes_of}
use Rattle.xml_skip.proofs.Passing.{pass-nothing}
use Rattle.xml_skip.proofs.Loose.{is-loose, loose-stays, loose-placed}

-- ---- the definition's run over bytes that end and begin nothing
records-stay : (s u : State) (b : ℕ) (t : List ℕ) (at : ℕ) (room : Room) (m : Marks) (kept : Kept) → step s b ≡ state.go Stay u →
    records (b ∷ t) s at room m kept ≡ records t u (at + 1) room m kept
unfolding records keep
records-stay s u b t at room m kept e = rw e refl

records-stays : {s u : State} {a : List ℕ} → Stays s a u → (t : List ℕ) (at : ℕ) (room : Room) (m : Marks) (kept : Kept) →
    records (a ++ t) s at room m kept ≡ records t u (at + length a) room m kept
records-stays (there {s = s}) t at room m kept = let z : at ≡ at + 0 = omega arith in ap (λ (k : ℕ). records t s k room m kept) z
records-stays (stay {s = s} {u = u} {w = w} {b = b} {t = r} e h) t at room m kept =
    let z : at + 1 + length r ≡ at + length (b ∷ r) = omega arith in
    records-stay s u b (r ++ t) at room m kept e ∙ records-stays h t (at + 1) room m kept ∙ ap (λ (k : ℕ). records t w k room m kept) z

-- ---- one character
char-wide : (src : List ℕ) (at r c : ℕ) → 0x80 ≤ c → is_in any_char c ≡ true → at + r ≤ length src → length (encode c) ≡ r → drop at src ≡ encode c ++ drop (at + r) src → Wide src at r
char-wide src at r c h m i l e mode t words wide st events attributes same a =
    let x = is-loose a.state st a.stands.rep.moded (ap loose same ∙ t) in
    record {
      within = i;
      short = a.short;
      long = a.long;
      broad = a.broad;
      state = a.state;
      marks = a.marks;
      kept = a.kept;
      names = a.names;
      stands = record {
        rep = record {
          moded = a.stands.rep.moded;
          homed = a.stands.rep.homed;
          placed = loose-placed src at (at + r) st a.marks a.names x a.stands.rep.placed;
          mark = a.stands.rep.mark;
          kept = a.stands.rep.kept;
        };
        holds = a.stands.holds;
      };
      same = a.same
          ∙ ap (λ (z : List ℕ). records z a.state at (rooms words wide) a.marks a.kept) e
          ∙ records-stays (loose-stays x c h m) (drop (at + r) src) at (rooms words wide) a.marks a.kept
          ∙ ap (λ (z : ℕ). records (drop (at + r) src) a.state (at + z) (rooms words wide) a.marks a.kept) l;
    }

pub nothing-wide : (src : List ℕ) (at : ℕ) → Wide src at 0
nothing-wide src at mode t = pass-nothing src mode at

-- ---- code points of Char
any-low : (c : ℕ) → 0x20 ≤ c → c ≤ 0xD7FF → is_in any_char c ≡ true
any-low c h k = or_right (crosses 0x9 0xA c c) _ (or_right (crosses 0xD 0xD c c) _ (or_left (crosses 0x20 0xD7FF c c) _ (in-crosses 0x20 0xD7FF c c (omega arith) (omega arith) h k)))

any_mid : (c : ℕ) → 0xE000 ≤ c → c ≤ 0xFFFD → is_in any_char c ≡ true
any_mid c h k =
    or_right (crosses 0x9 0xA c c) _ (or_right (crosses 0xD 0xD c c) _ (or_right (crosses 0x20 0xD7FF c c) _
    (or_left (crosses 0xE000 0xFFFD c c) _ (in-crosses 0xE000 0xFFFD c c (omega arith) (omega arith) h k))))

any-high : (c : ℕ) → 0x10000 ≤ c → c ≤ 0x10FFFF → is_in any_char c ≡ true
any-high c h k =
    or_right (crosses 0x9 0xA c c) _ (or_right (crosses 0xD 0xD c c) _ (or_right (crosses 0x20 0xD7FF c c) _
    (or_right (crosses 0xE000 0xFFFD c c) _ (or_left (crosses 0x10000 0x10FFFF c c) _ (in-crosses 0x10000 0x10FFFF c c (omega arith) (omega arith) h k)))))

-- ---- bytes of the source
turn : (src : List ℕ) (at : ℕ) → at < length src → drop at src ≡ get_or src at 0 ∷ drop (at + 1) src
turn src at h = rw (add-one, drop-cons src at 0 h)

turn-2 : (src : List ℕ) (at : ℕ) → at + 1 < length src → drop at src ≡ get_or src at 0 ∷ get_or src (at + 1) 0 ∷ drop (at + 2) src
turn-2 src at h =
    let z : at + 1 + 1 ≡ at + 2 = omega arith in
    turn src at (omega arith) ∙ ap (λ (l : List ℕ). get_or src at 0 ∷ l) (turn src (at + 1) h ∙ ap (λ (k : ℕ). get_or src (at + 1) 0 ∷ drop k src) z)

turn-3 : (src : List ℕ) (at : ℕ) → at + 2 < length src → drop at src ≡ get_or src at 0 ∷ get_or src (at + 1) 0 ∷ get_or src (at + 2) 0 ∷ drop (at + 3) src
turn-3 src at h =
    let z : at + 2 + 1 ≡ at + 3 = omega arith in
    turn-2 src at (omega arith) ∙ ap (λ (l : List ℕ). get_or src at 0 ∷ get_or src (at + 1) 0 ∷ l) (turn src (at + 2) h ∙ ap (λ (k : ℕ). get_or src (at + 2) 0 ∷ drop k src) z)

turn-4 : (src : List ℕ) (at : ℕ) → at + 3 < length src → drop at src ≡ get_or src at 0 ∷ get_or src (at + 1) 0 ∷ get_or src (at + 2) 0 ∷ get_or src (at + 3) 0 ∷ drop (at + 4) src
turn-4 src at h =
    let z : at + 3 + 1 ≡ at + 4 = omega arith in
    turn-3 src at (omega arith)
    ∙ ap (λ (l : List ℕ). get_or src at 0 ∷ get_or src (at + 1) 0 ∷ get_or src (at + 2) 0 ∷ l) (turn src (at + 3) h ∙ ap (λ (k : ℕ). get_or src (at + 3) 0 ∷ drop k src) z)

abbrev Lies : ℕ → Type 0
Lies b = (0x80 ≤ b) × (b < 0xC0)

lies : (b : ℕ) → further b ≡ true → Lies b
lies b e =
    let p = (and-eq-true_iff (ltb 0x7F b) (ltb b 0xC0)).0 e in
    let l = ltb-true 0x7F b p.0 in
    let r = ltb-true b 0xC0 p.1 in
    (omega arith, r)

-- two bytes
two-coded : (a b : ℕ) → 0xC2 ≤ a → a < 0xE0 → Lies b → encode ((a - 0xC0) * 64 + (b - 0x80)) ≡ a ∷ b ∷ []
two-coded a b h k l =
    let z : 128 + (b - 0x80) ≡ b = omega arith in
    two_bytes a (b - 0x80) (omega arith) k (omega arith) (omega arith) ∙ rw z refl

pub two-wide : (src : List ℕ) (at : ℕ) → at + 1 < length src → two_bytes_of (get_or src at 0) (get_or src (at + 1) 0) ≡ true → Wide src at 2
two-wide src at h e =
    let a = get_or src at 0 in
    let b = get_or src (at + 1) 0 in
    let p = (and-eq-true_iff (ltb 0xC1 a) (ltb a 0xE0 && further b)).0 e in
    let q = (and-eq-true_iff (ltb a 0xE0) (further b)).0 p.1 in
    let i = ltb-true 0xC1 a p.0 in
    let j = ltb-true a 0xE0 q.0 in
    let l = lies b q.1 in
    let c = two-coded a b (omega arith) j l in
    char-wide src at 2 ((a - 0xC0) * 64 + (b - 0x80)) (omega arith) (any-low ((a - 0xC0) * 64 + (b - 0x80)) (omega arith) (omega arith)) (omega arith) (ap length c)
    (turn-2 src at h ∙ ap (λ (z : List ℕ). z ++ drop (at + 2) src) (sym c))

-- three bytes
abbrev three : ℕ → ℕ → ℕ → ℕ
three a b c = (a - 0xE0) * 4096 + ((b - 0x80) * 64 + (c - 0x80))

three-least : (a b c : ℕ) → (ltb 0xE0 a || ltb 0x9F b) ≡ true → 0x800 ≤ three a b c
three-least a b c e = or_cases (ltb 0xE0 a) (ltb 0x9F b) e (λ x. let i = ltb-true 0xE0 a x in omega arith) (λ x. let i = ltb-true 0x9F b x in omega arith)

three-most : (a b c : ℕ) → a < 0xF0 → b < 0xC0 → c < 0xC0 → (ltb a 0xEF || (ltb b 0xBF || ltb c 0xBE)) ≡ true → three a b c ≤ 0xFFFD
three-most a b c h i j e =
    or_cases (ltb a 0xEF) (ltb b 0xBF || ltb c 0xBE) e (λ x. let k = ltb-true a 0xEF x in omega arith)
    (λ y. or_cases (ltb b 0xBF) (ltb c 0xBE) y (λ x. let k = ltb-true b 0xBF x in omega arith) (λ x. let k = ltb-true c 0xBE x in omega arith))

three-in : (a b c : ℕ) → a < 0xF0 → b < 0xC0 → c < 0xC0 → 0x800 ≤ three a b c → three a b c ≤ 0xFFFD → (ltb a 0xED || (ltb 0xED a || ltb b 0xA0)) ≡ true → is_in any_char (three a b c) ≡ true
three-in a b c h i j low high e =
    let under : three a b c ≤ 0xD7FF → is_in any_char (three a b c) ≡ true = any-low (three a b c) (omega arith) in
    or_cases (ltb a 0xED) (ltb 0xED a || ltb b 0xA0) e (λ x. let k = ltb-true a 0xED x in under (omega arith))
    (λ y. or_cases (ltb 0xED a) (ltb b 0xA0) y (λ x. let k = ltb-true 0xED a x in any_mid (three a b c) (omega arith) high) (λ x. let k = ltb-true b 0xA0 x in beyond (dec_lt a 0xEE) k))
  where
    beyond : Dec (a < 0xEE) → b < 0xA0 → is_in any_char (three a b c) ≡ true
    beyond (yes p) k = any-low (three a b c) (omega arith) (omega arith)
    beyond (no p) k = any_mid (three a b c) (omega arith) high

three_coded : (a b c : ℕ) → 0xE0 ≤ a → a < 0xF0 → Lies b → Lies c → 0x800 ≤ three a b c → is_in any_char (three a b c) ≡ true → encode (three a b c) ≡ a ∷ b ∷ c ∷ []
three_coded a b c h k l m low e =
    let d = (b - 0x80) * 64 + (c - 0x80) in
    let y : 128 + d / 64 ≡ b = omega arith in
    let z : 128 + d % 64 ≡ c = omega arith in
    three-bytes a d h k (omega arith) low (in-scalar (three a b c) e) ∙ rw (y, z) refl

pub three-wide : (src : List ℕ) (at : ℕ) → at + 2 < length src → three_bytes (get_or src at 0) (get_or src (at + 1) 0) (get_or src (at + 2) 0) ≡ true → Wide src at 3
three-wide src at h e =
    let a = get_or src at 0 in
    let b = get_or src (at + 1) 0 in
    let c = get_or src (at + 2) 0 in
    let p = (and-eq-true_iff (ltb 0xDF a && (ltb a 0xF0 && (further b && further c)))
    ((ltb 0xE0 a || ltb 0x9F b) && ((ltb a 0xED || (ltb 0xED a || ltb b 0xA0)) && (ltb a 0xEF || (ltb b 0xBF || ltb c 0xBE))))).0 e in
    let q = (and-eq-true_iff (ltb 0xDF a) (ltb a 0xF0 && (further b && further c))).0 p.0 in
    let r = (and-eq-true_iff (ltb a 0xF0) (further b && further c)).0 q.1 in
    let s = (and-eq-true_iff (further b) (further c)).0 r.1 in
    let t = (and-eq-true_iff (ltb 0xE0 a || ltb 0x9F b) ((ltb a 0xED || (ltb 0xED a || ltb b 0xA0)) && (ltb a 0xEF || (ltb b 0xBF || ltb c 0xBE)))).0 p.1 in
    let u = (and-eq-true_iff (ltb a 0xED || (ltb 0xED a || ltb b 0xA0)) (ltb a 0xEF || (ltb b 0xBF || ltb c 0xBE))).0 t.1 in
    let i = ltb-true 0xDF a q.0 in
    let j = ltb-true a 0xF0 r.0 in
    let l = lies b s.0 in
    let m = lies c s.1 in
    let low = three-least a b c t.0 in
    let high = three-most a b c j l.1 m.1 u.1 in
    let x = three-in a b c j l.1 m.1 low high u.0 in
    let y = three_coded a b c (omega arith) j l m low x in
    char-wide src at 3 (three a b c) (omega arith) x (omega arith) (ap length y) (turn-3 src at h ∙ ap (λ (z : List ℕ). z ++ drop (at + 3) src) (sym y))

-- four bytes
abbrev four : ℕ → ℕ → ℕ → ℕ → ℕ
four a b c d = (a - 0xF0) * 262144 + ((b - 0x80) * 4096 + ((c - 0x80) * 64 + (d - 0x80)))

four-least : (a b c d : ℕ) → (ltb 0xF0 a || ltb 0x8F b) ≡ true → 0x10000 ≤ four a b c d
four-least a b c d e = or_cases (ltb 0xF0 a) (ltb 0x8F b) e (λ x. let i = ltb-true 0xF0 a x in omega arith) (λ x. let i = ltb-true 0x8F b x in omega arith)

four-most : (a b c d : ℕ) → a < 0xF5 → b < 0xC0 → c < 0xC0 → d < 0xC0 → (ltb a 0xF4 || ltb b 0x90) ≡ true → four a b c d ≤ 0x10FFFF
four-most a b c d h i j k e = or_cases (ltb a 0xF4) (ltb b 0x90) e (λ x. let l = ltb-true a 0xF4 x in omega arith) (λ x. let l = ltb-true b 0x90 x in omega arith)

four_coded : (a b c d : ℕ) → 0xF0 ≤ a → Lies b → Lies c → Lies d → 0x10000 ≤ four a b c d → is_in any_char (four a b c d) ≡ true → encode (four a b c d) ≡ a ∷ b ∷ c ∷ d ∷ []
four_coded a b c d h l m n low e =
    let f = (b - 0x80) * 4096 + ((c - 0x80) * 64 + (d - 0x80)) in
    let x : 128 + f / 4096 ≡ b = omega arith in
    let w : f / 64 ≡ (b - 0x80) * 64 + (c - 0x80) = omega arith in
    let v : 128 + ((b - 0x80) * 64 + (c - 0x80)) % 64 ≡ c = omega arith in
    let y : 128 + f / 64 % 64 ≡ c = rw w v in
    let z : 128 + f % 64 ≡ d = omega arith in
    four_bytes a f h (omega arith) low (in-scalar (four a b c d) e) ∙ rw (x, y, z) refl

pub four-wide : (src : List ℕ) (at : ℕ) → at + 3 < length src → four_bytes_of (get_or src at 0) (get_or src (at + 1) 0) (get_or src (at + 2) 0) (get_or src (at + 3) 0) ≡ true → Wide src at 4
four-wide src at h e =
    let a = get_or src at 0 in
    let b = get_or src (at + 1) 0 in
    let c = get_or src (at + 2) 0 in
    let d = get_or src (at + 3) 0 in
    let p = (and-eq-true_iff (ltb 0xEF a && (ltb a 0xF5 && (further b && (further c && further d)))) ((ltb 0xF0 a || ltb 0x8F b) && (ltb a 0xF4 || ltb b 0x90))).0 e in
    let q = (and-eq-true_iff (ltb 0xEF a) (ltb a 0xF5 && (further b && (further c && further d)))).0 p.0 in
    let r = (and-eq-true_iff (ltb a 0xF5) (further b && (further c && further d))).0 q.1 in
    let s = (and-eq-true_iff (further b) (further c && further d)).0 r.1 in
    let t = (and-eq-true_iff (further c) (further d)).0 s.1 in
    let u = (and-eq-true_iff (ltb 0xF0 a || ltb 0x8F b) (ltb a 0xF4 || ltb b 0x90)).0 p.1 in
    let i = ltb-true 0xEF a q.0 in
    let j = ltb-true a 0xF5 r.0 in
    let l = lies b s.0 in
    let m = lies c t.0 in
    let n = lies d t.1 in
    let low = four-least a b c d u.0 in
    let high = four-most a b c d j l.1 m.1 n.1 u.1 in
    let x = any-high (four a b c d) low high in
    let y = four_coded a b c d (omega arith) l m n low x in
    char-wide src at 4 (four a b c d) (omega arith) x (omega arith) (ap length y) (turn-4 src at h ∙ ap (λ (z : List ℕ). z ++ drop (at + 4) src) (sym y))
