-- What is due along characters, whatever comes behind them. Assumes nothing.
use Prim.Native.Nat.{ℕ, ◌+◌, ◌<◌}
use mathlib.Core.Path.{◌≡◌, refl, sym, ap, ◌∙◌, subst}
use mathlib.Core.List.{List, [], ◌∷◌, ◌++◌, append_assoc}
use native.Mathlib.Omega.{arith}
use lib.ListN.{length, length-append}
use Rattle.xml_tokens.specs.of_xml_chars.Bytes.{utf8}
use Rattle.xml_tokens.proofs.of_xml_chars.Encoding.{encode-1, utf8_append}
use Rattle.xml_tokens.specs.of_xml_machine.State as state
use Rattle.xml_tokens.specs.of_xml_machine.State.{State, Act, Stay, Here}
use Rattle.xml_tokens.specs.of_xml_machine.Machine.{step}
use Rattle.xml_tokens.specs.of_xml_machine.Tokens.{Rec, Marks, marking, marks_by, Due, nothing, event, attribute, due}
use Rattle.xml_tokens.proofs.of_xml_machine.Stays.{Stays, there, stay, Takes, takes}
use Rattle.xml_tokens.proofs.of_xml_complete.Reading.{Reads}
use Rattle.xml_tokens.specs.Due.{counted, due_from, events_due, attributes_due}
use Rattle.xml_places.specs.Places.{size}

-- ---- sizes
pub size-append : (a b : List ℕ) → size (a ++ b) ≡ size a + size b
size-append a b = ap length (utf8_append a b) ∙ length-append (utf8 a) (utf8 b)

pub size-ascii : (c : ℕ) (s : List ℕ) → c < 0x80 → size (c ∷ s) ≡ size s + 1
size-ascii c s h = let z : size (c ∷ s) ≡ length (c ∷ utf8 s) = ap (λ (x : List ℕ). length (x ++ utf8 s)) (encode-1 c h) in omega arith

-- ---- a byte
due-step : (s u : State) (act : Act) (b at count : ℕ) (m : Marks) (t : List ℕ) → step s b ≡ state.go act u →
    due_from (b ∷ t) s at count m ≡ due act at count m ∷ due_from t u (at + 1) (counted count (due act at count m)) (marks_by act at count m)
unfolding due_from
due-step s u act b at count m t e = rw e refl

first-event : (d : Due) (ds : List Due) → events_due (d ∷ ds) ≡ events_due (d ∷ []) ++ events_due ds
first-event nothing ds = refl
first-event (event r) ds = refl
first-event (attribute r) ds = refl

first-attribute : (d : Due) (ds : List Due) → attributes_due (d ∷ ds) ≡ attributes_due (d ∷ []) ++ attributes_due ds
first-attribute nothing ds = refl
first-attribute (event r) ds = refl
first-attribute (attribute r) ds = refl

-- bytes at which nothing ends or begins, for events and for attributes
module _ (f : List Due → List Rec) (skip : (ds : List Due) → f (nothing ∷ ds) ≡ f ds) where
  stays-skip : {s u : State} {a : List ℕ} → Stays s a u → (at count : ℕ) (m : Marks) (t : List ℕ) → f (due_from (a ++ t) s at count m) ≡ f (due_from t u (at + length a) count m)
  stays-skip (there {s = s}) at count m t = let z : at ≡ at + 0 = omega arith in ap (λ (n : ℕ). f (due_from t s n count m)) z
  stays-skip (stay {s = s} {u = u} {w = w} {b = b} {t = r} e h) at count m t =
      let z : at + 1 + length r ≡ at + length (b ∷ r) = omega arith in
      ap f (due-step s u Stay b at count m (r ++ t) e) ∙ skip _ ∙ stays-skip h (at + 1) count m t ∙ ap (λ (n : ℕ). f (due_from t w n count m)) z

  here-skip : {s u : State} {a : List ℕ} → Takes Here s a u → (at count : ℕ) (m : Marks) (t : List ℕ) →
      f (due_from (a ++ t) s at count m) ≡ f (due_from t u (at + length a) count (marking at m))
  here-skip (takes {s = s} {u = u} {w = w} {b = b} {t = r} e h) at count m t =
      let z : at + 1 + length r ≡ at + length (b ∷ r) = omega arith in
      ap f (due-step s u Here b at count m (r ++ t) e) ∙ skip _ ∙ stays-skip h (at + 1) count (marking at m) t ∙ ap (λ (n : ℕ). f (due_from t w n count (marking at m))) z

-- ---- a run
-- where it stands: a state, the byte, the number of attributes so far, marks
pub data Spot : Type 0 where
  spot : State → ℕ → ℕ → Marks → Spot

abbrev pub due_at : Spot → List ℕ → List Due
due_at (spot s at count m) t = due_from t s at count m

abbrev pub byte_of : Spot → ℕ
byte_of (spot s at count m) = at

-- along these characters, these events and attributes are due
pub record Goes (c : Spot) (cs : List ℕ) (u : Spot) (es xs : List Rec) : Type 0 where
  pub long : byte_of u ≡ byte_of c + size cs
  pub events : (t : List ℕ) → events_due (due_at c (utf8 cs ++ t)) ≡ es ++ events_due (due_at u t)
  pub attributes : (t : List ℕ) → attributes_due (due_at c (utf8 cs ++ t)) ≡ xs ++ attributes_due (due_at u t)

pub goes_none : {c : Spot} → Goes c [] c [] []
goes_none {c = c} = record { long = let z : byte_of c ≡ byte_of c + 0 = omega arith in z; events = λ t. refl; attributes = λ t. refl }

pub goes_then : {c u w : Spot} {a b : List ℕ} {es fs xs ys : List Rec} → Goes c a u es xs → Goes u b w fs ys → Goes c (a ++ b) w (es ++ fs) (xs ++ ys)
goes_then {c = c} {u = u} {w = w} {a = a} {b = b} {es = es} {fs = fs} {xs = xs} {ys = ys} h k = record {
  long = let p = h.long in let q = k.long in let z = size-append a b in omega arith;
  events = λ t.
      ap (λ (z : List ℕ). events_due (due_at c z)) (ap (λ (z : List ℕ). z ++ t) (utf8_append a b) ∙ append_assoc (utf8 a) (utf8 b) t)
      ∙ h.events (utf8 b ++ t) ∙ ap (λ (z : List Rec). es ++ z) (k.events t) ∙ sym (append_assoc es fs (events_due (due_at w t)));
  attributes = λ t.
      ap (λ (z : List ℕ). attributes_due (due_at c z)) (ap (λ (z : List ℕ). z ++ t) (utf8_append a b) ∙ append_assoc (utf8 a) (utf8 b) t)
      ∙ h.attributes (utf8 b ++ t) ∙ ap (λ (z : List Rec). xs ++ z) (k.attributes t) ∙ sym (append_assoc xs ys (attributes_due (due_at w t)));
}

pub goes_as : {c : Spot} {cs : List ℕ} {s : State} {to n k : ℕ} {m : Marks} {es fs xs ys : List Rec} → n ≡ k → es ≡ fs → xs ≡ ys →
    Goes c cs (spot s to n m) es xs → Goes c cs (spot s to k m) fs ys
goes_as {c = c} {cs = cs} {s = s} {to = to} {k = k} {m = m} {es = es} {fs = fs} {xs = xs} e f g h =
    subst (λ (z : List Rec). Goes c cs (spot s to k m) fs z) g
    (subst (λ (z : List Rec). Goes c cs (spot s to k m) z xs) f (subst (λ (z : ℕ). Goes c cs (spot s to z m) es xs) e h))

pub goes-reads : {s u : State} {cs : List ℕ} → Reads s cs u → (at count : ℕ) (m : Marks) → Goes (spot s at count m) cs (spot u (at + size cs) count m) [] []
goes-reads h at count m = record {
  long = refl;
  events = λ t. stays-skip events_due (λ ds. refl) h.stays at count m t;
  attributes = λ t. stays-skip attributes_due (λ ds. refl) h.stays at count m t;
}

pub goes-here : {s u : State} {cs : List ℕ} → Takes Here s (utf8 cs) u → (at count : ℕ) (m : Marks) → Goes (spot s at count m) cs (spot u (at + size cs) count (marking at m)) [] []
goes-here h at count m = record {
  long = refl;
  events = λ t. here-skip events_due (λ ds. refl) h at count m t;
  attributes = λ t. here-skip attributes_due (λ ds. refl) h at count m t;
}

pub goes-byte : {s u : State} {act : Act} {c : ℕ} → c < 0x80 → step s c ≡ state.go act u → (at count : ℕ) (m : Marks) →
    Goes (spot s at count m) (c ∷ []) (spot u (at + 1) (counted count (due act at count m)) (marks_by act at count m)) (events_due (due act at count m ∷ [])) (attributes_due (due act at count m ∷ []))
goes-byte {s = s} {u = u} {act = act} {c = c} h e at count m = record {
  long = let z = size-ascii c [] h in omega arith;
  events = λ t.
      ap (λ (z : List ℕ). events_due (due_from ((z ++ []) ++ t) s at count m)) (encode-1 c h)
      ∙ ap events_due (due-step s u act c at count m t e) ∙ first-event (due act at count m) (due_from t u (at + 1) (counted count (due act at count m)) (marks_by act at count m));
  attributes = λ t.
      ap (λ (z : List ℕ). attributes_due (due_from ((z ++ []) ++ t) s at count m)) (encode-1 c h)
      ∙ ap attributes_due (due-step s u act c at count m t e) ∙ first-attribute (due act at count m) (due_from t u (at + 1) (counted count (due act at count m)) (marks_by act at count m));
}

-- the byte behind them, or the attributes, in other words
pub goes_to : {c : Spot} {cs : List ℕ} {s : State} {to end n : ℕ} {m : Marks} {es xs : List Rec} → to ≡ end → Goes c cs (spot s to n m) es xs → Goes c cs (spot s end n m) es xs
goes_to {c = c} {cs = cs} {s = s} {n = n} {m = m} {es = es} {xs = xs} e h = subst (λ (z : ℕ). Goes c cs (spot s z n m) es xs) e h

pub goes-from : {w : Spot} {cs : List ℕ} {s : State} {at from n : ℕ} {m : Marks} {es xs : List Rec} → from ≡ at → Goes (spot s from n m) cs w es xs → Goes (spot s at n m) cs w es xs
goes-from {w = w} {cs = cs} {s = s} {n = n} {m = m} {es = es} {xs = xs} e h = subst (λ (z : ℕ). Goes (spot s z n m) cs w es xs) e h

pub goes_with : {c u : Spot} {cs : List ℕ} {es fs xs ys : List Rec} → es ≡ fs → xs ≡ ys → Goes c cs u es xs → Goes c cs u fs ys
goes_with {c = c} {u = u} {cs = cs} {fs = fs} {xs = xs} e f h = subst (λ (z : List Rec). Goes c cs u fs z) f (subst (λ (z : List Rec). Goes c cs u z xs) e h)
