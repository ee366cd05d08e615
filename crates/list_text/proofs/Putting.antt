-- Texts put one behind the other. Assumes nothing.
use Prim.Native.Nat.{ℕ, ◌+◌, ◌-◌, ◌≤◌, ◌<◌, min}
use mathlib.Core.Path.{◌≡◌, refl, sym, ap, subst, ◌∙◌}
use mathlib.Core.List.{List, [], ◌∷◌, ◌++◌, append_assoc}
use mathlib.Core.Bool.{Bool, true, false, cond, not, ◌&&◌}
use native.Mathlib.Nat.{min-eq_left, min-eq_right}
use native.Mathlib.Omega.{arith}
use native.Mathlib.Decide.{dec_le}
use borrow.Author.Tests.{le-leb, lt-leb, leb-true, leb-false}
use borrow.Rule.Slice.PartMut.{put_mid}
use lib.Dec.{leb}
use lib.ListN.{length, take, drop, length-append, length-drop, drop_of_length-le, take-append-drop}
use lib.Seq.{length-take-le, take_all, take_at, drop_at, take-append-le}
use Rattle.std.specs.Borrow.{MutBor}
use Rattle.std.specs.Fn.{Once, FnOnceReturnsAtMut}
use Rattle.std.specs.Prelude.{Option, Some, None}
use Rattle.time_text.specs.of_area.Answer.{gives, refuses}
use Rattle.time_text.specs.of_area.Area.{placing, laid, stored_answer}
use Rattle.time_text.proofs.of_area.Parts.{rest_part, rest_back}
use Rattle.time_text.proofs.of_area.Laying.{laid-fits, laid-over, laid-append, put-fits, full-over}
use Rattle.list_text.specs.inside.Behind.{Filled, filled, is_full, free_of, Writes, behind, Puts}
use Rattle.time_text.specs.of_refusal.declared.Cause.TheVariants as cause

leb-less : (a b r : ℕ) → a ≤ r → leb b (r - a) ≡ leb (a + b) r
leb-less a b r h = go (leb b (r - a)) refl
  where
    go : (t : Bool) → leb b (r - a) ≡ t → t ≡ leb (a + b) r
    go true e = let l = leb-true b (r - a) e in sym (le-leb (a + b) r (omega arith))
    go false e = let l = leb-false b (r - a) e in sym (lt-leb (a + b) r (omega arith))

module _ (k : ℕ) (out : List ℕ) where
  abbrev room : ℕ
  room = length out - k

  -- the text fits, or only its front does
  fits-behind : (f : List ℕ) → length f ≤ room → behind (gives k, out) f ≡ (gives (k + length f), take k out ++ (f ++ drop (length f) (drop k out)))
  unfolding behind
  fits-behind f h = rw (le-leb (length f) (length out - k) h, laid-fits (drop k out) f (rw (length-drop k out) h)) refl

  over-behind : (f : List ℕ) → room < length f → behind (gives k, out) f ≡ (refuses cause.OutputFull, take k out ++ take room f)
  unfolding behind
  over-behind f h =
      let d : length (drop k out) ≤ length f = rw (length-drop k out) (omega arith) in
      rw (lt-leb (length f) (length out - k) h, laid-over (drop k out) f d, length-drop k out) refl

  none-behind : behind (gives k, out) [] ≡ (gives k, out)
  none-behind =
      let z : k + 0 ≡ k = omega arith in
      fits-behind [] (omega arith) ∙ rw (z, take-append-drop k out) refl

  module _ (f g : List ℕ) where
    -- f fits: the area with f in it, and then g
    abbrev rest : List ℕ
    rest = drop (length f) (drop k out)

    abbrev with-f : List ℕ
    with-f = take k out ++ (f ++ rest)

    module _ (h : k ≤ length out) (l : length f ≤ room) where
      front : length (take k out ++ f) ≡ k + length f
      front = length-append (take k out) f ∙ ap (λ (n : ℕ). n + length f) (length-take-le k out h)

      parted : with-f ≡ (take k out ++ f) ++ rest
      parted = sym (append_assoc (take k out) f rest)

      room-left : length with-f - (k + length f) ≡ room - length f
      room-left =
          let a : length with-f ≡ length (take k out ++ f) + length rest = ap length parted ∙ length-append (take k out ++ f) rest in
          let b : length rest ≡ length (drop k out) - length f = length-drop (length f) (drop k out) in
          let c : length (drop k out) ≡ length out - k = length-drop k out in
          omega (arith, front)

      area-then : take (k + length f) with-f ++ laid (drop (k + length f) with-f) g ≡ take k out ++ laid (drop k out) (f ++ g)
      area-then =
          let t : take (k + length f) with-f ≡ take k out ++ f = ap (take (k + length f)) parted ∙ take_at (take k out ++ f) rest (k + length f) front in
          let u : drop (k + length f) with-f ≡ rest = ap (drop (k + length f)) parted ∙ drop_at (take k out ++ f) rest (k + length f) front in
          let dd : length f ≤ length (drop k out) = rw (length-drop k out) l in
          ap (λ (x : List ℕ). x ++ laid (drop (k + length f) with-f) g) t
          ∙ ap (λ (x : List ℕ). (take k out ++ f) ++ laid x g) u
          ∙ append_assoc (take k out) f (laid rest g)
          ∙ ap (λ (x : List ℕ). take k out ++ x) (sym (laid-append (drop k out) f g dd))

      answer-then : cond (leb (length g) (length with-f - (k + length f))) (gives (k + length f + length g)) (refuses cause.OutputFull)
          ≡ cond (leb (length (f ++ g)) room) (gives (k + length (f ++ g))) (refuses cause.OutputFull)
      answer-then =
          let m : length (f ++ g) ≡ length f + length g = length-append f g in
          let w : k + length f + length g ≡ k + length (f ++ g) = omega arith in
          ap (λ (n : ℕ). cond (leb (length g) n) (gives (k + length f + length g)) (refuses cause.OutputFull)) room-left
          ∙ ap (λ (b : Bool). cond b (gives (k + length f + length g)) (refuses cause.OutputFull)) (leb-less (length f) (length g) room l ∙ ap (λ (n : ℕ). leb n room) (sym m))
          ∙ ap (λ (n : ℕ). cond (leb (length (f ++ g)) room) (gives n) (refuses cause.OutputFull)) w

      fits-then : behind (gives (k + length f), with-f) g ≡ behind (gives k, out) (f ++ g)
      unfolding behind
      fits-then = let p = answer-then in let q = area-then in cc

    over-then : room < length f → behind (gives k, out) f ≡ behind (gives k, out) (f ++ g)
    over-then h =
        let m : length (f ++ g) ≡ length f + length g = length-append f g in
        over-behind f h ∙ sym (over-behind (f ++ g) (omega arith) ∙ ap (λ (x : List ℕ). (refuses cause.OutputFull, take k out ++ x)) (take-append-le room f g (omega arith)))

    over-stays : room < length f → behind (behind (gives k, out) f) g ≡ behind (gives k, out) f
    unfolding behind
    over-stays h = ap (λ (s : Filled). behind s g) (over-behind f h) ∙ sym (over-behind f h)

  both : (f g : List ℕ) → behind (behind (gives k, out) f) g ≡ behind (gives k, out) (f ++ g)
  both [] g = ap (λ (s : Filled). behind s g) none-behind
  both (b ∷ f) g = go (dec_le (length (b ∷ f)) room)
    where
      go : Dec (length (b ∷ f) ≤ room) → behind (behind (gives k, out) (b ∷ f)) g ≡ behind (gives k, out) ((b ∷ f) ++ g)
      go (yes l) = ap (λ (s : Filled). behind s g) (fits-behind (b ∷ f) l) ∙ fits-then (b ∷ f) g (omega arith) l
      go (no l) = over-stays (b ∷ f) g (omega arith) ∙ over-then (b ∷ f) g (omega arith)

pub behind-none : (s : Filled) → behind s [] ≡ s
unfolding behind
behind-none (gives k, out) = none-behind k out
behind-none (refuses n, out) = refl

behind-behind : (s : Filled) (f g : List ℕ) → behind (behind s f) g ≡ behind s (f ++ g)
unfolding behind
behind-behind (gives k, out) f g = both k out f g
behind-behind (refuses n, out) f g = refl

-- nothing put
pub puts_none : (s : Filled) → Puts s [] s
puts_none s = record { same = sym (behind-none s) }

-- two texts, one behind the other
pub more : {s t u : Filled} {f g : List ℕ} → Puts s f t → Puts t g u → Puts s (f ++ g) u
more {s} {t} {u} {f} {g} p q = record { same = q.same ∙ ap (λ (x : Filled). behind x g) p.same ∙ behind-behind s f g }

-- the same text, said otherwise
pub other : {s t : Filled} {f g : List ℕ} → Puts s f t → f ≡ g → Puts s g t
other {s} p q = record { same = p.same ∙ ap (behind s) q }

-- once a text didn't fit, nothing more is put, whatever it is
pub puts-full : (out f : List ℕ) → Puts (filled None out) f (filled None out)
unfolding behind
puts-full out f = record { same = refl }

rest-same : (used from : ℕ) (out : List ℕ) → from ≡ min used (length out) → drop from out ≡ drop used out
rest-same used from out e = go (dec_le used (length out))
  where
    go : Dec (used ≤ length out) → drop from out ≡ drop used out
    go (yes h) = rw (e, min-eq_left h) refl
    go (no h) =
        let z : from ≡ length out = e ∙ min-eq_right (omega arith) in
        drop_of_length-le out {i = from} (omega arith) ∙ sym (drop_of_length-le out {i = used} (omega arith))

front-same : (used from : ℕ) (out : List ℕ) → from ≡ min used (length out) → take from out ≡ take used out
front-same used from out e = go (dec_le used (length out))
  where
    go : Dec (used ≤ length out) → take from out ≡ take used out
    go (yes h) = rw (e, min-eq_left h) refl
    go (no h) =
        let z : from ≡ length out = e ∙ min-eq_right (omega arith) in
        take_all from out (omega arith) ∙ sym (take_all used out (omega arith))

-- a call that is lent the area from the mark on
module _ (used from : ℕ) (out out' f : List ℕ) (e : from ≡ min used (length out)) (o : out' ≡ take from out ++ laid (drop from out) f) where
  same-front : take from out ++ laid (drop from out) f ≡ take used out ++ laid (drop used out) f
  same-front = rw (front-same used from out e, rest-same used from out e) refl

  room-same : length (drop from out) ≡ length out - used
  room-same = length-drop from out ∙ go (dec_le used (length out))
    where
      go : Dec (used ≤ length out) → length out - from ≡ length out - used
      go (yes h) = rw (e, min-eq_left h) refl
      go (no h) = let z : from ≡ length out = e ∙ min-eq_right (omega arith) in omega arith

  pub put-behind : (n : ℕ) → gives n ≡ placing cause.OutputFull (length (drop from out)) f → Puts (gives used, out) f (gives (used + n), out')
  unfolding behind
  put-behind n p =
      let q = put-fits cause.OutputFull (length (drop from out)) f n p in
      let m : n ≡ length f = q.1 in
      let l : length f ≤ length out - used = rw room-same at q.0 in
      record { same = rw (le-leb (length f) (length out - used) l, m, o ∙ same-front) refl }

  pub full_put : refuses cause.OutputFull ≡ placing cause.OutputFull (length (drop from out)) f → Puts (gives used, out) f (refuses cause.OutputFull, out')
  unfolding behind
  full_put p =
      let l : length out - used < length f = rw room-same at (full-over cause.OutputFull (length (drop from out)) f p) in
      record { same = rw (lt-leb (length f) (length out - used) l, o ∙ same-front) refl }

-- the same in the code's terms: ys is what the call left of the part that it was lent, r its answer
pub full-stays : {k : Option ℕ} (out t : List ℕ) → k ≡ None → Puts (filled k out) t (filled None out)
full-stays out t e = rw e (puts-full out t)

abbrev lent : List ℕ → ℕ → List ℕ
lent out from = take (length out - from) (drop from out)

module _ (r : Option ℕ) (out t ys : List ℕ) (used from : ℕ) (e : from ≡ min used (length out)) (w : ys ≡ laid (lent out from) t)
    (a : stored_answer cause.OutputFull r ≡ placing cause.OutputFull (length (lent out from)) t) where
  back : put_mid from (length out - from) out ys ≡ take from out ++ laid (drop from out) t
  back = rest_back out from ys ∙ ap (λ (z : List ℕ). take from out ++ z) (w ∙ ap (λ (z : List ℕ). laid z t) (rest_part out from))

  answer : stored_answer cause.OutputFull r ≡ placing cause.OutputFull (length (drop from out)) t
  answer = a ∙ ap (λ (z : List ℕ). placing cause.OutputFull (length z) t) (rest_part out from)

  -- a call that was lent the free part of the area and put its text: the text is put behind what is in use
  pub lent-put : {k : Option ℕ} (n : ℕ) → k ≡ Some used → r ≡ Some n → Puts (filled k out) t (filled (Some (used + n)) (put_mid from (length out - from) out ys))
  lent-put n q p = rw q (put-behind used from out (put_mid from (length out - from) out ys) t e back n (sym (ap (stored_answer cause.OutputFull) p) ∙ answer))

  -- a call that was lent the free part and had no room: the area counts as full from then on
  pub lent-full : {k : Option ℕ} → k ≡ Some used → r ≡ None → Puts (filled k out) t (filled None (put_mid from (length out - from) out ys))
  lent-full q p = rw q (full_put used from out (put_mid from (length out - from) out ys) t e back (sym (ap (stored_answer cause.OutputFull) p) ∙ answer))

  -- what such a call put fits into what was free, so that the sum of both doesn't overflow
  pub lent-most : (n : ℕ) → r ≡ Some n → n ≤ length out - used
  lent-most n p =
      let q = put-fits cause.OutputFull (length (drop from out)) t n (sym (ap (stored_answer cause.OutputFull) p) ∙ answer) in
      let s : length (drop from out) ≡ length out - used = room-same used from out (put_mid from (length out - from) out ys) t e back in
      omega (arith, q.0, q.1)

-- the same of a closure that was lent that part
module _ {F : Type 0} {g : Once F (MutBor (List ℕ) × Unit {0}) (Option ℕ × (MutBor (List ℕ) × Unit {0}))} {write : F} {k : Option ℕ} {used from : ℕ}
    (t : List ℕ) (r : Option ℕ) (out ys : List ℕ) (q : k ≡ Some used) (e : from ≡ min used (length out)) (v : Writes g write (free_of k out) t)
    (h : FnOnceReturnsAtMut g write (lent out from) r ys) where
  free-lent : free_of k out ≡ lent out from
  free-lent = ap (λ (x : Option ℕ). free_of x out) q ∙ sym (rest-same used from out e) ∙ sym (rest_part out from)

  written : (stored_answer cause.OutputFull r ≡ placing cause.OutputFull (length (lent out from)) t) × (ys ≡ laid (lent out from) t)
  written = let P : List ℕ → Type 0 = λ x. Writes g write x t in subst P free-lent v r ys h

  pub wrote : (n : ℕ) → r ≡ Some n → Puts (filled k out) t (filled (Some (used + n)) (put_mid from (length out - from) out ys))
  wrote n p = lent-put r out t ys used from e written.1 written.0 n q p

  pub wrote-full : r ≡ None → Puts (filled k out) t (filled None (put_mid from (length out - from) out ys))
  wrote-full p = lent-full r out t ys used from e written.1 written.0 q p

  pub wrote-most : (n : ℕ) → r ≡ Some n → n ≤ length out - used
  wrote-most n p = lent-most r out t ys used from e written.1 written.0 n p

-- ---- a loop that puts: of the text w the part f is still to come, s₀ is the area at the start, s as it is
pub record Coming (s₀ : Filled) (w : List ℕ) (s : Filled) (f : List ℕ) : Type 0 where
  pub left : behind s f ≡ behind s₀ w

-- before the first call the whole text is to come
pub coming-start : (s : Filled) (w : List ℕ) → Coming s w s w
coming-start s w = record { left = refl }

-- what is to come, said otherwise
pub coming_on : {s₀ s : Filled} {w f g : List ℕ} → Coming s₀ w s f → f ≡ g → Coming s₀ w s g
coming_on {s₀} {s} c e = record { left = ap (behind s) (sym e) ∙ c.left }

-- a call puts the next part of what is to come
pub coming_puts : {s₀ s t : Filled} {w f g : List ℕ} → Coming s₀ w s (f ++ g) → Puts s f t → Coming s₀ w t g
coming_puts {s₀} {s} {t} {w} {f} {g} c p = record { left = ap (λ (x : Filled). behind x g) p.same ∙ behind-behind s f g ∙ c.left }

-- nothing is to come: the whole text was put
pub coming-done : {s₀ s : Filled} {w : List ℕ} → Coming s₀ w s [] → Puts s₀ w s
coming-done {s₀} {s} c = record { same = sym (behind-none s) ∙ c.left }

coming-full : {s₀ : Filled} {w : List ℕ} (out : List ℕ) {f : List ℕ} → Coming s₀ w (filled None out) f → Puts s₀ w (filled None out)
coming-full out {f} c = record { same = (puts-full out f).same ∙ c.left }

-- the loop ends once a text didn't fit, or where nothing is left
pub coming-stop : {s₀ : Filled} {w : List ℕ} (k : Option ℕ) {out f : List ℕ} (b : Bool) → Coming s₀ w (filled k out) f → (not (is_full k) && b) ≡ false → (b ≡ false → f ≡ []) → Puts s₀ w (filled k out)
coming-stop (Some k) b c e none = coming-done (coming_on c (none e))
coming-stop None {out} b c e none = coming-full out c
