-- A text that is good in one text area stands in another. Assumes nothing.
use Prim.Native.Nat.{ℕ, ◌+◌, ◌-◌, ◌≤◌, min}
use mathlib.Core.Path.{◌≡◌, refl, sym, ap, ◌∙◌}
use mathlib.Core.Bool.{Bool, true, ◌&&◌}
use mathlib.Core.List.{List, ◌++◌, append_assoc}
use native.Mathlib.Omega.{arith}
use borrow.Author.Tests.{leb-true, le-leb}
use lib.Dec.{leb}
use lib.ListN.{length, take, drop, length-append, length-take, length-drop, take-append-drop}
use lib.Seq.{take-append-le, drop-append-le, take_at, drop-append_seam}
use Rattle.tree_merge.specs.of_utf8.Utf8.{utf8}
use Rattle.tree_merge.specs.of_utf8.Characters.{boundary}
use Rattle.tree_merge.proofs.of_utf8.Boundaries.{utf8-part, boundary-append}
use Rattle.tree_merge.proofs.of_utf8.Rules.{utf8_append}
use Rattle.tree_merge.specs.of_text_filter.Filter.{unfiltered}
use Rattle.tree_merge.proofs.of_text_filter.Filtering.{unfiltered-append}
use Rattle.tree_merge.specs.of_schema.Schema.{text}
use Rattle.tree_merge.specs.of_schema.Records.{Span, good_value}
use Rattle.tree_merge.specs.of_schema.Texts.{read_value}
use Rattle.tree_merge.proofs.of_tree_report.EncodeLists.{both, and_left, and_right}
use Rattle.merge_claims.specs.inside.Stands.{Clean, Stands}

-- ---- clean texts
pub clean-both : (a b : List ℕ) → Clean a → Clean b → Clean (a ++ b)
clean-both a b p q = (utf8_append a b p.0 ∙ q.0, unfiltered-append a b ∙ both p.1 q.1)

-- a part of a text holds nothing that the text doesn't
part-clean : (n m : ℕ) (s : List ℕ) → unfiltered s ≡ true → unfiltered (take m (drop n s)) ≡ true
part-clean n m s e =
    let halves : (k : ℕ) (l : List ℕ) → unfiltered l ≡ true → (unfiltered (take k l) && unfiltered (drop k l)) ≡ true
    = λ k l h. sym (unfiltered-append (take k l) (drop k l)) ∙ ap unfiltered (take-append-drop k l) ∙ h in
    let back = and_right (unfiltered (take n s)) (unfiltered (drop n s)) (halves n s e) in
    and_left (unfiltered (take m (drop n s))) (unfiltered (drop m (drop n s))) (halves m (drop n s) back)

-- ---- a text by its place in the texts t, with z behind them
module _ (t z : List ℕ) (v : Span) (g : good_value t text v ≡ true) where
  abbrev a : ℕ
  a = v.start

  abbrev n : ℕ
  n = v.size

  abbrev ends : Bool
  ends = boundary t a && boundary t (a + n)

  inside : a + n ≤ length t
  inside = leb-true (a + n) (length t) (and_left (leb (a + n) (length t)) ends g)

  part : read_value (t ++ z) text v ≡ take n (drop a t)
  part =
      let l : length (drop a t) ≡ length t - a = length-drop a t in
      let h = inside in
      ap (take n) (drop-append-le a t z (omega arith)) ∙ take-append-le n (drop a t) z (omega arith)

  pub text-size : length (read_value (t ++ z) text v) ≡ v.size
  text-size =
      let l : length (drop a t) ≡ length t - a = length-drop a t in
      let m : length (take n (drop a t)) ≡ min n (length (drop a t)) = length-take n (drop a t) in
      let h = inside in
      ap length part ∙ omega arith

  pub text-clean : Clean t → Clean (read_value (t ++ z) text v)
  text-clean c =
      let b = and_right (leb (a + n) (length t)) ends g in
      let e : a + n - a ≡ n = omega arith in (
        ap utf8 part ∙ ap (λ (k : ℕ). utf8 (take k (drop a t))) (sym e)
            ∙ utf8-part t a (a + n) c.0 (and_left (boundary t a) (boundary t (a + n)) b) (and_right (boundary t a) (boundary t (a + n)) b) (omega arith),
        ap unfiltered part ∙ part-clean a n t c.1,
      )

-- ---- texts one behind the other
module _ {texts : List ℕ} {fill : ℕ} (s u : List ℕ) (h : Stands texts fill (s ++ u)) where
  pub stands-first : Clean u → Stands texts fill s
  stands-first c = record {
    before = h.before;
    after = u ++ h.after;
    whole = h.whole ∙ ap (λ (l : List ℕ). h.before ++ l) (append_assoc s u h.after);
    start = h.start;
    clean = clean-both u h.after c h.clean;
  }

  pub stands-rest : Stands texts (fill + length s) u
  stands-rest = record {
    before = h.before ++ s;
    after = h.after;
    whole = h.whole ∙ ap (λ (l : List ℕ). h.before ++ l) (append_assoc s u h.after) ∙ sym (append_assoc h.before s (u ++ h.after));
    start = length-append h.before s ∙ ap (λ (k : ℕ). k + length s) h.start;
    clean = h.clean;
  }

-- a text between others: it is read back, and its ends are no middle of a character
module _ (b t u : List ℕ) where
  text-between : (z : List ℕ) → take (length t) (drop (length b) ((b ++ (t ++ u)) ++ z)) ≡ t
  text-between z = rw (append_assoc b (t ++ u) z, append_assoc t u z, drop-append_seam b (t ++ (u ++ z))) (take_at t (u ++ z) (length t) refl)

  good-between : utf8 t ≡ true → utf8 u ≡ true
      → (leb (length b + length t) (length (b ++ (t ++ u))) && (boundary (b ++ (t ++ u)) (length b) && boundary (b ++ (t ++ u)) (length b + length t))) ≡ true
  good-between h k =
      let n : length (b ++ (t ++ u)) ≡ length b + (length t + length u) = length-append b (t ++ u) ∙ ap (λ (n : ℕ). length b + n) (length-append t u) in
      let m : length (b ++ t) ≡ length b + length t = length-append b t in
      both (le-leb (length b + length t) (length (b ++ (t ++ u))) (omega arith))
      (both (boundary-append b (t ++ u) (utf8_append t u h ∙ k))
      (ap (λ (l : List ℕ). boundary l (length b + length t)) (sym (append_assoc b t u)) ∙ ap (boundary ((b ++ t) ++ u)) (sym m) ∙ boundary-append (b ++ t) u k))

-- a text that stands there is read back, and is good
module _ {texts : List ℕ} {fill : ℕ} (s : List ℕ) (c : Clean s) (h : Stands texts fill s) where
  abbrev place : Span
  place = record { start = fill; size = length s }

  pub stands_good : good_value texts text place ≡ true
  stands_good = rw (h.whole, ← h.start) (good-between h.before s h.after c.0 h.clean.0)

  pub stands_read : (z : List ℕ) → read_value (texts ++ z) text place ≡ s
  stands_read z = rw (h.whole, ← h.start) (text-between h.before s h.after z)
