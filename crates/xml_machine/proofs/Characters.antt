-- A character's bytes take a state to the state behind the character. Assumes nothing.
use Prim.Native.Nat.{ℕ, ◌+◌, ◌-◌, ◌*◌, ◌/◌, ◌%◌, ◌≤◌, ◌<◌, max}
use mathlib.Core.Path.{◌≡◌, refl, ◌∙◌, subst}
use mathlib.Core.List.{List, [], ◌∷◌, ◌++◌, append_assoc}
use mathlib.Core.Bool.{true, false}
use native.Mathlib.Omega.{arith}
use native.Mathlib.Decide.{dec_lt}
use borrow.Author.Tests.{le-leb, le-ltb, lt-ltb}
use Rattle.xml_chars.specs.of_utf8.Characters.{encode, is_scalar}
use Rattle.xml_chars.proofs.of_utf8.Forms.{scalar-most}
use Rattle.xml_chars.specs.Chars.{Range, is_in}
use Rattle.xml_chars.specs.Bytes.{Left, one, two, three, Part, whole, part, fits}
use Rattle.xml_chars.proofs.CharLaws.{fits-of}
use Rattle.xml_chars.proofs.Encoding.{tail, Inside, encode-1, encode-2, encode-3, encode-4}
use Rattle.xml_machine.specs.State as state
use Rattle.xml_machine.specs.State.{State, Act, Stay, Next}
use Rattle.xml_machine.specs.Machine.{begun, char, follow, step}
use Rattle.xml_machine.proofs.Stays.{Stays, there, stay, Takes, takes}

pub begun-fits : (cls : List Range) (low : ℕ) (l : Left) (least : ℕ) (act : Act) (f : Part → State) → fits cls low l least ≡ true →
    begun cls low l least act f ≡ state.go act (f (part cls low l least))
unfolding begun
begun-fits cls low l least act f e = rw e refl

pub follow_one : (cls : List Range) (low least b : ℕ) (f : Part → State) → 128 ≤ b → b < 192 → least ≤ low + (b - 128) → is_in cls (low + (b - 128)) ≡ true →
    follow cls low one least b f ≡ state.go Stay (f whole)
unfolding follow
follow_one cls low least b f h k j m =
    let x : max (low + (b - 128)) least ≡ low + (b - 128) = omega arith in
    simp (le-leb 128 b h, lt-ltb b 192 k, x, m)

pub follow-two : (cls : List Range) (low least b : ℕ) (f : Part → State) → 128 ≤ b → b < 192 → fits cls (low + (b - 128) * 64) one least ≡ true →
    follow cls low two least b f ≡ state.go Stay (f (part cls (low + (b - 128) * 64) one least))
unfolding follow
follow-two cls low least b f h k m =
    simp (le-leb 128 b h, lt-ltb b 192 k) (begun-fits cls (low + (b - 128) * 64) one least Stay f m)

pub follow-three : (cls : List Range) (low least b : ℕ) (f : Part → State) → 128 ≤ b → b < 192 → fits cls (low + (b - 128) * 4096) two least ≡ true →
    follow cls low three least b f ≡ state.go Stay (f (part cls (low + (b - 128) * 4096) two least))
unfolding follow
follow-three cls low least b f h k m =
    simp (le-leb 128 b h, lt-ltb b 192 k) (begun-fits cls (low + (b - 128) * 4096) two least Stay f m)

-- states that hold a character open, and take its bytes in: g of the bytes so far and of what stands open
abbrev pub Carries : (List ℕ → Part → State) → Type 0
Carries g = (bs : List ℕ) (cls : List Range) (low : ℕ) (l : Left) (least b : ℕ) →
    step (g bs (part cls low l least)) b ≡ follow cls low l least b (λ p. g (bs ++ (b ∷ [])) p)

module _ (g : List ℕ → Part → State) (carries : Carries g) (cls : List Range) (least : ℕ) where
  joined : {s : State} {a : List ℕ} (bs x y : List ℕ) → Stays s a (g ((bs ++ x) ++ y) whole) → Stays s a (g (bs ++ (x ++ y)) whole)
  joined {s} {a} bs x y h = subst (λ z. Stays s a (g z whole)) (append_assoc bs x y) h

  stays-one : (bs : List ℕ) (low d : ℕ) → Inside cls low one least d → Stays (g bs (part cls low one least)) (tail one d) (g (bs ++ tail one d) whole)
  stays-one bs low d h =
      let e : low + (128 + d - 128) ≡ low + d = omega arith in
      stay (carries bs cls low one least (128 + d) ∙ follow_one cls low least (128 + d) _ (omega arith) (omega arith) (omega arith) (rw e h.2)) there

  stays_two : (bs : List ℕ) (low d : ℕ) → Inside cls low two least d → Stays (g bs (part cls low two least)) (tail two d) (g (bs ++ tail two d) whole)
  stays_two bs low d h =
      let b : ℕ = 128 + d / 64 in
      let next : ℕ = low + (b - 128) * 64 in
      let e : next + d % 64 ≡ low + d = omega arith in
      let i : Inside cls next one least (d % 64) = (omega arith, omega arith, rw e h.2) in
      stay
      (carries bs cls low two least b ∙ follow-two cls low least b _ (omega arith) (omega arith) (fits-of cls next one least (low + d) h.2 (omega arith) (omega arith) h.1))
      (joined bs (b ∷ []) (tail one (d % 64)) (stays-one (bs ++ (b ∷ [])) next (d % 64) i))

  stays-three : (bs : List ℕ) (low d : ℕ) → Inside cls low three least d → Stays (g bs (part cls low three least)) (tail three d) (g (bs ++ tail three d) whole)
  stays-three bs low d h =
      let b : ℕ = 128 + d / 4096 in
      let next : ℕ = low + (b - 128) * 4096 in
      let e : next + d % 4096 ≡ low + d = omega arith in
      let i : Inside cls next two least (d % 4096) = (omega arith, omega arith, rw e h.2) in
      let u : 128 + d / 64 % 64 ≡ 128 + d % 4096 / 64 = omega arith in
      let v : 128 + d % 64 ≡ 128 + d % 4096 % 64 = omega arith in
      rw (u, v)
      (stay
      (carries bs cls low three least b ∙ follow-three cls low least b _ (omega arith) (omega arith) (fits-of cls next two least (low + d) h.2 (omega arith) (omega arith) h.1))
      (joined bs (b ∷ []) (tail two (d % 4096)) (stays_two (bs ++ (b ∷ [])) next (d % 4096) i)))

  -- the last bytes of a character
  pub tail-stays : (l : Left) (bs : List ℕ) (low d : ℕ) → Inside cls low l least d → Stays (g bs (part cls low l least)) (tail l d) (g (bs ++ tail l d) whole)
  tail-stays one bs low d h = stays-one bs low d h
  tail-stays two bs low d h = stays_two bs low d h
  tail-stays three bs low d h = stays-three bs low d h

-- the first byte of each width
pub char-1 : (cls : List Range) (b : ℕ) (act : Act) (f : Part → State) (o : Next) → b < 0x80 → is_in cls b ≡ true → char cls b act f o ≡ state.go act (f whole)
unfolding char
char-1 cls b act f o h m = simp (lt-ltb b 0x80 h, m)

pub char-other : (cls : List Range) (b : ℕ) (act : Act) (f : Part → State) (o : Next) → b < 0x80 → is_in cls b ≡ false → char cls b act f o ≡ o
unfolding char
char-other cls b act f o h m = simp (lt-ltb b 0x80 h, m)

pub char-2 : (cls : List Range) (b : ℕ) (act : Act) (f : Part → State) (o : Next) → 0xC0 ≤ b → b < 0xE0 → char cls b act f o ≡ begun cls ((b - 0xC0) * 64) one 0x80 act f
unfolding char
char-2 cls b act f o h k = simp (le-ltb b 0x80 (omega arith), le-ltb b 0xC0 h, lt-ltb b 0xE0 k)

pub char-3 : (cls : List Range) (b : ℕ) (act : Act) (f : Part → State) (o : Next) → 0xE0 ≤ b → b < 0xF0 → char cls b act f o ≡ begun cls ((b - 0xE0) * 4096) two 0x800 act f
unfolding char
char-3 cls b act f o h k = simp (le-ltb b 0x80 (omega arith), le-ltb b 0xC0 (omega arith), le-ltb b 0xE0 h, lt-ltb b 0xF0 k)

pub char-4 : (cls : List Range) (b : ℕ) (act : Act) (f : Part → State) (o : Next) → 0xF0 ≤ b → b < 0xF8 → char cls b act f o ≡ begun cls ((b - 0xF0) * 262144) three 0x10000 act f
unfolding char
char-4 cls b act f o h k = simp (le-ltb b 0x80 (omega arith), le-ltb b 0xC0 (omega arith), le-ltb b 0xE0 (omega arith), le-ltb b 0xF0 h, lt-ltb b 0xF8 k)

-- a state that takes the character c of the class
module _ (s : State) (g : List ℕ → Part → State) (carries : Carries g) (cls : List Range) (act : Act) (other : ℕ → Next) (c : ℕ)
    (first : c < 0x80 → step s c ≡ char cls c act (λ p. g (c ∷ []) p) (other c))
    (leads : (b : ℕ) → 0xC0 ≤ b → step s b ≡ char cls b act (λ p. g (b ∷ []) p) (other b)) where
  wide : (b low : ℕ) (l : Left) (least d : ℕ) → 0xC0 ≤ b → char cls b act (λ p. g (b ∷ []) p) (other b) ≡ begun cls low l least act (λ p. g (b ∷ []) p) → Inside cls low l least d →
      Takes act s (b ∷ tail l d) (g (b ∷ tail l d) whole)
  wide b low l least d i e h =
      takes
      (leads b i ∙ e ∙ begun-fits cls low l least act _ (fits-of cls low l least (low + d) h.2 (omega arith) (omega arith) h.1))
      (tail-stays g carries cls least l (b ∷ []) low d h)

  same : {x : ℕ} → x ≡ c → is_in cls c ≡ true → is_in cls x ≡ true
  same e k = rw e k

  pub char-takes : is_in cls c ≡ true → is_scalar c ≡ true → Takes act s (encode c) (g (encode c) whole)
  char-takes m r = by_width (dec_lt c 0x80) (dec_lt c 0x800) (dec_lt c 0x10000)
    where
      by_width : Dec (c < 0x80) → Dec (c < 0x800) → Dec (c < 0x10000) → Takes act s (encode c) (g (encode c) whole)
      by_width (yes p) q z = rw (encode-1 c p) (takes (first p ∙ char-1 cls c act _ _ p m) there)
      by_width (no p) (yes q) z =
          let x : (192 + c / 64 - 0xC0) * 64 + c % 64 ≡ c = omega arith in
          rw (encode-2 c (omega arith) q) (wide (192 + c / 64) ((192 + c / 64 - 0xC0) * 64) one 0x80 (c % 64) (omega arith) (char-2 cls (192 + c / 64) act _ _ (omega arith) (omega arith)) (omega arith, omega arith, same x m))
      by_width (no p) (no q) (yes z) =
          let x : (224 + c / 4096 - 0xE0) * 4096 + c % 4096 ≡ c = omega arith in
          rw (encode-3 c r (omega arith) z) (wide (224 + c / 4096) ((224 + c / 4096 - 0xE0) * 4096) two 0x800 (c % 4096) (omega arith) (char-3 cls (224 + c / 4096) act _ _ (omega arith) (omega arith)) (omega arith, omega arith, same x m))
      by_width (no p) (no q) (no z) =
          let most = scalar-most c r in
          let x : (240 + c / 262144 - 0xF0) * 262144 + c % 262144 ≡ c = omega arith in
          rw (encode-4 c r (omega arith)) (wide (240 + c / 262144) ((240 + c / 262144 - 0xF0) * 262144) three 0x10000 (c % 262144) (omega arith) (char-4 cls (240 + c / 262144) act _ _ (omega arith) (omega (arith, most))) (omega arith, omega arith, same x m))
