-- The records of two areas that are a layout. Assumes nothing.
use Prim.Native.Nat.{ℕ, zero, suc, ◌*◌, ◌/◌, ◌≤◌, min}
use mathlib.Core.Bool.{Bool, true, false, cond, ◌&&◌, false≢true}
use mathlib.Core.List.{List, [], ◌∷◌}
use mathlib.Core.Path.{◌≡◌, refl, sym, ◌∙◌}
use native.Mathlib.Omega.{arith}
use borrow.Author.Tests.{leb-true}
use lib.Dec.{leb, eqb}
use lib.ListN.{length, get_or, take, drop, length-take}
use Rattle.tree_layout.specs.of_area.Limits.{most_records, most_words}
use Rattle.tree_layout.specs.of_tree_report.Fields.{live, is_report, is_suite, is_case, is_suite_property, is_case_property, is_suite_extra, is_case_extra}
use Rattle.tree_layout.specs.of_tree_report.Layout.{used_words, used_text, filled, all_zero, good_text, good_record, all_good, nothing, may_follow, following, good_order, records_from, records_of, layout}
use Rattle.tree_layout.specs.of_tree_report.ReportOf.{only}
use Rattle.tree_layout.proofs.of_tree_report.EncodeLists.{both, and_left, and_right, Each, done, more}
use Rattle.round_sound.specs.Words.{are_words}
use Rattle.round_sound.proofs.Records.{Narrow}
use Rattle.round_sound.proofs.Rows.{Fine}

-- ---- words of 32 bits
abbrev is_word : ℕ → Bool
is_word w = leb w 4294967295

narrow : (l : List ℕ) → are_words l ≡ true → Narrow l
narrow [] e i = omega arith
narrow (w ∷ l) e zero = leb-true w 4294967295 (and_left (is_word w) (are_words l) e)
narrow (w ∷ l) e (suc i) = narrow l (and_right (is_word w) (are_words l) e) i

words-front : (n : ℕ) (l : List ℕ) → are_words l ≡ true → are_words (take n l) ≡ true
words-front zero l e = refl
words-front (suc n) [] e = refl
words-front (suc n) (w ∷ l) e = both (and_left (is_word w) (are_words l) e) (words-front n l (and_right (is_word w) (are_words l) e))

words-behind : (n : ℕ) (l : List ℕ) → are_words l ≡ true → are_words (drop n l) ≡ true
words-behind zero l e = e
words-behind (suc n) [] e = refl
words-behind (suc n) (w ∷ l) e = words-behind n l (and_right (is_word w) (are_words l) e)

-- ---- records
from-fine : (texts : List ℕ) (n : ℕ) (words : List ℕ) → are_words words ≡ true → all_good texts (records_from n words) ≡ true → Each (Fine texts) (records_from n words)
unfolding records_from
from-fine texts zero words w e = done
from-fine texts (suc n) words w e = go (eqb (get_or words 0 0) 0) e (from-fine texts n (drop 32 words) (words-behind 32 words w))
  where
    r : List ℕ
    r = take 32 words

    rs : List (List ℕ)
    rs = records_from n (drop 32 words)

    go : (b : Bool) → all_good texts (cond b [] (r ∷ rs)) ≡ true → (all_good texts rs ≡ true → Each (Fine texts) rs) → Each (Fine texts) (cond b [] (r ∷ rs))
    go true g next = done
    go false g next =
        more (record { good = and_left (good_record texts r) (all_good texts rs) g; narrow = narrow r (words-front 32 words w) }) (next (and_right (good_record texts r) (all_good texts rs) g))

from-many : (n : ℕ) (words : List ℕ) → length (records_from n words) ≤ n
unfolding records_from
from-many zero words = omega arith
from-many (suc n) words = go (eqb (get_or words 0 0) 0) (from-many n (drop 32 words))
  where
    go : (b : Bool) → length (records_from n (drop 32 words)) ≤ n → length (cond b [] (take 32 words ∷ records_from n (drop 32 words))) ≤ suc n
    go true h = omega arith
    go false h = omega arith

pub records-limit : (words : List ℕ) → (length (records_of words) ≤ most_records) × (length (records_of words) * 32 ≤ length words)
unfolding records_of
records-limit words =
    let l : length (take most_words words) ≡ min most_words (length words) = length-take most_words words in
    let n : length (records_from (length (take most_words words) / 32) words) ≤ length (take most_words words) / 32 = from-many (length (take most_words words) / 32) words in
    (omega arith, omega arith)

-- ---- the first live record is the report's
passed : (b x : Bool) → x ≡ false → cond b false x ≡ false
passed true x e = refl
passed false x e = e

opens : (r : List ℕ) → may_follow nothing r ≡ true → is_report r ≡ true
unfolding may_follow
opens r e = go (is_report r) e
  where
    go : (b : Bool) → cond b true (cond (is_suite r) false
        (cond (is_case r) false (cond (is_suite_extra r) false (cond (is_case_extra r) false (cond (is_suite_property r) false (cond (is_case_property r) false false)))))) ≡ true → b ≡ true
    go true h = refl
    go false h =
        absurd (false≢true (sym
        (passed (is_suite r) _ (passed (is_case r) _ (passed (is_suite_extra r) _ (passed (is_case_extra r) _ (passed (is_suite_property r) _ (passed (is_case_property r) _ refl)))))) ∙ h))

pub record Begun (rs : List (List ℕ)) : Type 0 where
  pub top : List ℕ
  pub behind : List (List ℕ)
  pub whole : only live rs ≡ top ∷ behind
  pub report : is_report top ≡ true

begun : (rs : List (List ℕ)) → good_order nothing rs ≡ true → Begun rs
unfolding good_order
begun [] e = absurd (false≢true e)
begun (r ∷ rs) e = go (live r) refl e (begun rs)
  where
    go : (b : Bool) → live r ≡ b → cond b (may_follow nothing r && good_order (following nothing r) rs) (good_order nothing rs) ≡ true → (good_order nothing rs ≡ true → Begun rs) → Begun (r ∷ rs)
    go true l h next = record { top = r; behind = only live rs; whole = rw l refl; report = opens r (and_left (may_follow nothing r) (good_order (following nothing r) rs) h) }
    go false l h next = let b = next h in record { top = b.top; behind = b.behind; whole = rw l b.whole; report = b.report }

-- ---- what `layout` says
module _ (words text : List ℕ) (e : layout words text ≡ true) where
  abbrev rs : List (List ℕ)
  rs = records_of words

  abbrev texts : List ℕ
  texts = filled (used_text text)

  abbrev ordered : Bool
  ordered = good_order nothing rs && all_zero (drop (length rs * 32) (used_words words))

  pub text-good : good_text (used_text text) ≡ true
  unfolding layout
  text-good = and_left (good_text (used_text text)) (all_good texts rs && ordered) e

  behind-text : (all_good texts rs && ordered) ≡ true
  unfolding layout
  behind-text = and_right (good_text (used_text text)) (all_good texts rs && ordered) e

  pub records-fine : are_words words ≡ true → Each (Fine (filled (used_text text))) (records_of words)
  unfolding records_of
  records-fine w = from-fine texts (length (used_words words) / 32) words w (and_left (all_good texts rs) ordered behind-text)

  pub records-begun : Begun (records_of words)
  records-begun = begun rs (and_left (good_order nothing rs) (all_zero (drop (length rs * 32) (used_words words))) (and_right (all_good texts rs) ordered behind-text))
