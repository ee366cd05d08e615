-- A step back: what holds of the rest behind a byte gives what holds with the byte before it. Assumes nothing.
use Prim.Native.Nat.{ℕ, ◌+◌, ◌-◌, ◌*◌, ◌/◌, ◌%◌, ◌≤◌, ◌<◌, max}
use mathlib.Core.Path.{◌≡◌, refl, sym, ap, ◌∙◌, subst}
use mathlib.Core.List.{List, [], ◌∷◌, ◌++◌}
use mathlib.Core.Bool.{Bool, true, false, cond, ◌&&◌, and-eq-true_iff}
use native.Mathlib.Omega.{arith}
use lib.Dec.{leb, ltb, eqb}
use borrow.Author.Tests.{ltb-true, ltb-false, leb-true, eqb-true, eqb-false}
use Rattle.xml_grammar.specs.of_utf8.Characters.{encode, is_scalar}
use Rattle.xml_grammar.specs.of_xml_chars.Chars.{Range, meets, is_in, is_space}
use Rattle.xml_grammar.specs.of_xml_chars.Bytes.{Left, one, two, three, Part, whole, part, fits}
use Rattle.xml_grammar.proofs.of_xml_chars.CharLaws.{pick, pick-in, space-low}
use Rattle.xml_grammar.proofs.of_xml_chars.Encoding.{tail, Inside, encode-1, two_bytes, three-bytes, four_bytes}
use Rattle.xml_machine.specs.State as state
use Rattle.xml_machine.specs.State.{State, Act, Stay, Next}
use Rattle.xml_machine.specs.Machine.{begun, char, follow}
use Rattle.xml_sound.proofs.Then.{Then, take-char, each}
use Rattle.xml_sound.proofs.Rests.{Rem, Held, Rest}

pub data Leads (P : List ℕ → Type 0) (b : ℕ) : Next → Type 0 where
  bad : Leads P b state.no
  good : {act : Act} {u : State} → ((t : List ℕ) → Rest u t → P (b ∷ t)) → Leads P b (state.go act u)

pub when : {P : List ℕ → Type 0} {b : ℕ} (c : Bool) {x y : Next} → (c ≡ true → Leads P b x) → (c ≡ false → Leads P b y) → Leads P b (cond c x y)
when true h k = h refl
when false h k = k refl

pub weaker : {P Q : List ℕ → Type 0} {b : ℕ} {x : Next} → ((t : List ℕ) → P t → Q t) → Leads P b x → Leads Q b x
weaker f bad = bad
weaker {b = b} f (good h) = good (λ t r. f (b ∷ t) (h t r))

-- one byte
pub byte : {P : List ℕ → Type 0} (b c : ℕ) {x y : Next} → Leads P c x → (¬ (b ≡ c) → Leads P b y) → Leads P b (cond (eqb b c) x y)
byte {P} b c {x} h k = when (eqb b c) (λ e. subst (λ z. Leads P z x) (sym (eqb-true b c e)) h) (λ e. k (eqb-false b c e))

-- white space
pub space : {P : List ℕ → Type 0} (b : ℕ) {x y : Next} → (is_space b ≡ true → b < 0x80 → Leads P b x) → Leads P b y → Leads P b (cond (is_space b) x y)
space b h k = when (is_space b) (λ e. let i = space-low b e in h e (omega arith)) (λ e. k)

-- the first byte of a character
module _ (P : List ℕ → Type 0) (cls : List Range) (scalar : (c : ℕ) → is_in cls c ≡ true → is_scalar c ≡ true) (b : ℕ) (act : Act) (g : Part → State) (F : List ℕ → List ℕ → Type 0)
    (whole_in : (v : List ℕ) → Rest (g whole) v → F (b ∷ []) v)
    (part_in : (low : ℕ) (l : Left) (least : ℕ) (t : List ℕ) → Rest (g (part cls low l least)) t → Rem cls low l least (λ bs v. F (b ∷ bs) v) t)
    (taken : (c : ℕ) (v : List ℕ) → (c < 0x80 → c ≡ b) → is_in cls c ≡ true → F (encode c) v → P (encode c ++ v)) where
  wide : (low : ℕ) (l : Left) (least : ℕ) → ((d : ℕ) → Inside cls low l least d → encode (low + d) ≡ b ∷ tail l d) → 0x80 ≤ least → Leads P b (begun cls low l least act g)
  unfolding begun
  wide low l least e i =
      when (fits cls low l least)
      (λ x. good (λ t r.
      let p = part_in low l least t r in
      let j = p.2 in
      let c = low + p.0 in
      subst (λ z. P (b ∷ z)) (sym p.3)
      (subst (λ z. P (z ++ p.1)) (e p.0 j) (taken c p.1 (λ h. absurd (too-low least c i j.1 h)) j.2 (subst (λ z. F z p.1) (sym (e p.0 j)) p.4)))))
      (λ x. bad)
    where
      too-low : (m c : ℕ) → 0x80 ≤ m → m ≤ c → c < 0x80 → ⊥
      too-low m c h k j = omega arith

  pub char-back : (other : Next) → (b < 0x80 → Leads P b other) → Leads P b (char cls b act g other)
  unfolding char
  char-back other o =
      when (ltb b 0x80)
      (λ e. when (meets cls b b)
      (λ m. good (λ t r.
      let x = encode-1 b (ltb-true b 0x80 e) in
      subst (λ z. P (z ++ t)) x (taken b t (λ h. refl) m (subst (λ z. F z t) (sym x) (whole_in t r)))))
      (λ m. o (ltb-true b 0x80 e)))
      (λ e0. when (ltb b 0xC0) (λ e. bad)
      (λ e1. when (ltb b 0xE0)
      (λ e. wide ((b - 0xC0) * 64) one 0x80 (λ d j. two_bytes b d (ltb-false b 0xC0 e1) (ltb-true b 0xE0 e) j.0 j.1) (omega arith))
      (λ e2. when (ltb b 0xF0)
      (λ e. wide ((b - 0xE0) * 4096) two 0x800 (λ d j. three-bytes b d (ltb-false b 0xE0 e2) (ltb-true b 0xF0 e) j.0 j.1 (scalar ((b - 0xE0) * 4096 + d) j.2)) (omega arith))
      (λ e3. when (ltb b 0xF8)
      (λ e. wide ((b - 0xF0) * 262144) three 0x10000 (λ d j. four_bytes b d (ltb-false b 0xF0 e3) j.0 j.1 (scalar ((b - 0xF0) * 262144 + d) j.2)) (omega arith))
      (λ e. bad)))))

-- a further byte
module _ (cls : List Range) (low least b : ℕ) (g : Part → State) (F : List ℕ → List ℕ → Type 0)
    (whole_in : (v : List ℕ) → Rest (g whole) v → F (b ∷ []) v)
    (part_in : (low : ℕ) (l : Left) (least : ℕ) (t : List ℕ) → Rest (g (part cls low l least)) t → Rem cls low l least (λ bs v. F (b ∷ bs) v) t) where
  one_more : (next : ℕ) (l k : Left) → ((d : ℕ) → Inside cls next k least d → (e : ℕ) × Inside cls low l least e × (tail l e ≡ b ∷ tail k d)) →
      Leads (Rem cls low l least F) b (begun cls next k least Stay g)
  unfolding begun
  one_more next l k h =
      when (fits cls next k least)
      (λ e. good (λ t r.
      let p = part_in next k least t r in
      let q = h p.0 p.2 in
      (q.0, p.1, q.1, ap (λ z. b ∷ z) p.3 ∙ ap (λ z. z ++ p.1) (sym q.2), subst (λ z. F z p.1) (sym q.2) p.4)))
      (λ e. bad)

  same : {x y : ℕ} → x ≡ y → is_in cls y ≡ true → is_in cls x ≡ true
  same e k = rw e k

  pub follow-back : (l : Left) → Leads (Rem cls low l least F) b (follow cls low l least b g)
  unfolding follow
  follow-back one =
      when (leb 0x80 b && ltb b 0xC0)
      (λ e. when (meets cls (max (low + (b - 0x80)) least) (low + (b - 0x80)))
      (λ m. good (λ t r.
      let q = (and-eq-true_iff (leb 0x80 b) (ltb b 0xC0)).0 e in
      let i = leb-true 0x80 b q.0 in
      let j = ltb-true b 0xC0 q.1 in
      let p = pick-in cls (max (low + (b - 0x80)) least) (low + (b - 0x80)) m in
      let x : pick cls (max (low + (b - 0x80)) least) (low + (b - 0x80)) ≡ low + (b - 0x80) = omega arith in
      let y : b ∷ [] ≡ tail one (b - 0x80) = ap (λ z. z ∷ []) (omega arith) in
      (b - 0x80, t, (omega arith, omega arith, same (sym x) p.2), ap (λ z. z ++ t) y, subst (λ z. F z t) y (whole_in t r))))
      (λ m. bad))
      (λ e. bad)
  follow-back two =
      when (leb 0x80 b && ltb b 0xC0)
      (λ e. one_more (low + (b - 0x80) * 64) two one (λ d p.
      let q = (and-eq-true_iff (leb 0x80 b) (ltb b 0xC0)).0 e in
      let i = leb-true 0x80 b q.0 in
      let j = ltb-true b 0xC0 q.1 in
      let x : 128 + ((b - 0x80) * 64 + d) / 64 ≡ b = omega arith in
      let y : ((b - 0x80) * 64 + d) % 64 ≡ d = omega arith in
      ((b - 0x80) * 64 + d, (omega arith, omega arith, same (omega arith) p.2), rw (x, y) refl)))
      (λ e. bad)
  follow-back three =
      when (leb 0x80 b && ltb b 0xC0)
      (λ e. one_more (low + (b - 0x80) * 4096) three two (λ d p.
      let q = (and-eq-true_iff (leb 0x80 b) (ltb b 0xC0)).0 e in
      let i = leb-true 0x80 b q.0 in
      let j = ltb-true b 0xC0 q.1 in
      let x : 128 + ((b - 0x80) * 4096 + d) / 4096 ≡ b = omega arith in
      let y : ((b - 0x80) * 4096 + d) / 64 % 64 ≡ d / 64 = omega arith in
      let z : ((b - 0x80) * 4096 + d) % 64 ≡ d % 64 = omega arith in
      ((b - 0x80) * 4096 + d, (omega arith, omega arith, same (omega arith) p.2), rw (x, y, z) refl)))
      (λ e. bad)

-- states that only hold a character open
pub held_back : (cls : List Range) (low : ℕ) (l : Left) (least b : ℕ) (g : Part → State) (F : List ℕ → Type 0) →
    ((p : Part) (t : List ℕ) → Rest (g p) t → Held p F t) → Leads (Rem cls low l least (λ bs. F)) b (follow cls low l least b g)
held_back cls low l least b g F h =
    follow-back cls low least b g (λ bs. F) (λ v r. h whole v r) (λ m k n t r. h (part cls m k n) t r) l

-- a character of a class, where P is of characters
pub char-then : (P G R : List ℕ → Type 0) (cls : List Range) → ((c : ℕ) → is_in cls c ≡ true → is_scalar c ≡ true) → (b : ℕ) (act : Act) (g : Part → State) →
    ((p : Part) (t : List ℕ) → Rest (g p) t → Held p (Then G R) t) →
    ((c : ℕ) → (c < 0x80 → c ≡ b) → is_in cls c ≡ true → (s : List ℕ) → G s → P (c ∷ s)) →
    (other : Next) → (b < 0x80 → Leads (Then P R) b other) → Leads (Then P R) b (char cls b act g other)
char-then P G R cls scalar b act g h f other o =
    char-back (Then P R) cls scalar b act g (λ bs. Then G R) (λ v r. h whole v r) (λ m k n t r. h (part cls m k n) t r)
    (λ c v i m r. take-char c (each (f c i m) r)) other o

-- the same byte or none of ASCII: what b isn't, c isn't
pub apart : {b c : ℕ} (k : ℕ) → ltb k 0x80 ≡ true → (c < 0x80 → c ≡ b) → ¬ (b ≡ k) → ¬ (c ≡ k)
apart {b} {c} k h f i e = i (sym (f (low e)) ∙ e)
  where
    low : c ≡ k → c < 0x80
    low e = let j = ltb-true k 0x80 h in omega arith
