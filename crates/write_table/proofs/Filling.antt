-- The areas behind items that have room: what is put lies behind what was there. Assumes nothing.
use Prim.Native.Nat.{ℕ, suc, ◌+◌, ◌*◌, ◌≤◌}
use mathlib.Core.Path.{◌≡◌, refl, sym, ap, ◌∙◌}
use mathlib.Core.List.{List, [], ◌∷◌, ◌++◌, append_assoc}
use native.Mathlib.Omega.{arith}
use lib.ListN.{length, take, drop, length-append, length-drop, take-append-drop}
use lib.Seq.{length-take-le, take_at, drop_at, take-nil}
use Rattle.write_spelled.specs.of_area.Area.{laid}
use Rattle.write_spelled.proofs.of_area.Laying.{laid-fits, laid-append, length-laid}
use Rattle.write_table.specs.Laid.{Item, entry, pair, entry_words, pair_words, event_words, attribute_words, laid_bytes}
use Rattle.write_table.specs.inside.Putting.{Held, over, with_entry, with_pair}

module _ (area : List ℕ) (k : ℕ) where
  pub length_over : (f : List ℕ) → length (over area k f) ≡ length area
  length_over f =
      length-append (take k area) (laid (drop k area) f)
      ∙ ap (λ (n : ℕ). length (take k area) + n) (length-laid (drop k area) f)
      ∙ sym (length-append (take k area) (drop k area))
      ∙ ap length (take-append-drop k area)

  -- nothing over an area leaves it as it was
  pub over_none : over area k [] ≡ area
  over_none =
      ap (λ (x : List ℕ). take k area ++ (x ++ drop k area)) (take-nil {A = ℕ} (length (drop k area)))
      ∙ take-append-drop k area

  module _ (f g : List ℕ) (h : k + length f ≤ length area) where
    abbrev rest : List ℕ
    rest = drop (length f) (drop k area)

    short : length f ≤ length (drop k area)
    short = let d = length-drop k area in omega arith

    parted : over area k f ≡ (take k area ++ f) ++ rest
    parted = ap (λ (x : List ℕ). take k area ++ x) (laid-fits (drop k area) f short) ∙ sym (append_assoc (take k area) f rest)

    front : length (take k area ++ f) ≡ k + length f
    front = length-append (take k area) f ∙ ap (λ (n : ℕ). n + length f) (length-take-le k area (omega arith))

    -- one text behind another
    pub over-over : over (over area k f) (k + length f) g ≡ over area k (f ++ g)
    over-over =
        let t : take (k + length f) (over area k f) ≡ take k area ++ f = ap (take (k + length f)) parted ∙ take_at (take k area ++ f) rest (k + length f) front in
        let u : drop (k + length f) (over area k f) ≡ rest = ap (drop (k + length f)) parted ∙ drop_at (take k area ++ f) rest (k + length f) front in
        ap (λ (x : List ℕ). x ++ laid (drop (k + length f) (over area k f)) g) t
        ∙ ap (λ (x : List ℕ). (take k area ++ f) ++ laid x g) u
        ∙ append_assoc (take k area) f (laid rest g)
        ∙ ap (λ (x : List ℕ). take k area ++ x) (sym (laid-append (drop k area) f g short))

-- five words more
over-five : (area : List ℕ) (k : ℕ) (f g : List ℕ) → length f ≡ 5 → k * 5 + 5 ≤ length area → over (over area (k * 5) f) ((k + 1) * 5) g ≡ over area (k * 5) (f ++ g)
over-five area k f g e h =
    let z : (k + 1) * 5 ≡ k * 5 + length f = omega arith in
    ap (λ (n : ℕ). over (over area (k * 5) f) n g) z ∙ over-over area (k * 5) f g (omega arith)

-- ---- how many of the items are events, and how many attributes
unfoldable pub entries : List Item → ℕ
entries [] = 0
entries (entry kind s n ∷ is) = suc (entries is)
entries (pair key value ∷ is) = entries is

unfoldable pub pairs : List Item → ℕ
pairs [] = 0
pairs (entry kind s n ∷ is) = pairs is
pairs (pair key value ∷ is) = suc (pairs is)

pub length-events : (a b : ℕ) (is : List Item) → length (event_words a b is) ≡ entries is * 5
unfolding event_words entries
length-events a b [] = omega arith
length-events a b (entry kind s n ∷ is) = let h = length-events a (b + length s) is in omega arith
length-events a b (pair key value ∷ is) = length-events (a + 1) (b + length (key ++ value)) is

pub length-attributes : (b : ℕ) (is : List Item) → length (attribute_words b is) ≡ pairs is * 5
unfolding attribute_words pairs
length-attributes b [] = omega arith
length-attributes b (entry kind s n ∷ is) = length-attributes (b + length s) is
length-attributes b (pair key value ∷ is) = let h = length-attributes (b + length (key ++ value)) is in omega arith

-- ---- the areas with all items in them
abbrev pub after : Held → List Item → Held
after h is =
    record {
      events = h.events + entries is;
      attributes = h.attributes + pairs is;
      bytes = h.bytes + length (laid_bytes is);
      event_area = over h.event_area (h.events * 5) (event_words h.attributes h.bytes is);
      attribute_area = over h.attribute_area (h.attributes * 5) (attribute_words h.bytes is);
      byte_area = over h.byte_area h.bytes (laid_bytes is);
    }

pub same-held : (h k : Held) → h.events ≡ k.events → h.attributes ≡ k.attributes → h.bytes ≡ k.bytes →
    h.event_area ≡ k.event_area → h.attribute_area ≡ k.attribute_area → h.byte_area ≡ k.byte_area → h ≡ k
same-held h k a b c d e f = λ i. record { events = a i; attributes = b i; bytes = c i; event_area = d i; attribute_area = e i; byte_area = f i }

pub after_none : (h : Held) → after h [] ≡ h
unfolding entries pairs event_words attribute_words laid_bytes
after_none h = same-held (after h []) h (omega arith) (omega arith) (omega arith) (over_none h.event_area (h.events * 5))
    (over_none h.attribute_area (h.attributes * 5)) (over_none h.byte_area h.bytes)

pub after-entry : (h : Held) (kind : ℕ) (s : List ℕ) (n : ℕ) (is : List Item) → h.events * 5 + 5 ≤ length h.event_area → h.bytes + length s ≤ length h.byte_area →
    after (with_entry h kind s n) is ≡ after h (entry kind s n ∷ is)
unfolding entries pairs event_words attribute_words laid_bytes
after-entry h kind s n is p q =
    let l = length-append s (laid_bytes is) in
    same-held (after (with_entry h kind s n) is) (after h (entry kind s n ∷ is)) (omega arith) refl (omega arith)
    (over-five h.event_area h.events (entry_words h.attributes h.bytes kind s n) (event_words h.attributes (h.bytes + length s) is) refl p) refl
    (over-over h.byte_area h.bytes s (laid_bytes is) q)

pub after-pair : (h : Held) (key value : List ℕ) (is : List Item) → h.attributes * 5 + 5 ≤ length h.attribute_area → h.bytes + length (key ++ value) ≤ length h.byte_area →
    after (with_pair h key value) is ≡ after h (pair key value ∷ is)
unfolding entries pairs event_words attribute_words laid_bytes
after-pair h key value is p q =
    let l = length-append (key ++ value) (laid_bytes is) in
    same-held (after (with_pair h key value) is) (after h (pair key value ∷ is)) refl (omega arith) (omega arith) refl
    (over-five h.attribute_area h.attributes (pair_words h.bytes key value) (attribute_words (h.bytes + length (key ++ value)) is) refl p)
    (over-over h.byte_area h.bytes (key ++ value) (laid_bytes is) q)
