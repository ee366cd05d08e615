-- What a layout says of its records: the report's first, then those below it. Assumes nothing.
use Prim.Native.Nat.{ℕ, zero, suc, ◌*◌, ◌/◌, ◌-◌, ◌≤◌, min}
use mathlib.Core.Path.{◌≡◌, refl, sym, ap, ◌∙◌}
use mathlib.Core.Bool.{Bool, true, false, cond, not, ◌&&◌, ◌||◌, false≢true}
use mathlib.Core.List.{List, [], ◌∷◌, ◌++◌}
use native.Mathlib.Omega.{arith}
use borrow.Author.Tests.{leb-true, eqb-true}
use lib.Dec.{leb, eqb}
use lib.ListN.{length, get_or, take, drop, length-take, length-drop, take-append-drop}
use lib.Seq.{get_or-take}
use Rattle.tree_merge.specs.of_area.Limits.{most_words}
use Rattle.tree_merge.specs.of_utf8.Utf8.{utf8}
use Rattle.tree_merge.specs.of_text_filter.Filter.{unfiltered}
use Rattle.tree_merge.proofs.of_tree_layout.Filling.{filled-front}
use Rattle.tree_merge.specs.of_tree_report.Fields.{live, is_report, is_suite, is_case, is_suite_property, is_case_property, is_suite_extra, is_case_extra}
use Rattle.tree_merge.specs.of_tree_report.Layout.{Open, nothing, opened, used_words, used_text, filled, all_zero, good_text}
use Rattle.tree_merge.specs.of_tree_report.Layout.{good_record, all_good, may_follow, following, good_order, records_from, records_of, layout}
use Rattle.tree_merge.specs.of_tree_report.ReportOf.{only}
use Rattle.tree_merge.proofs.of_tree_report.EncodeAreas.{Whole}
use Rattle.tree_merge.proofs.of_tree_report.EncodeLists.{both, and_left, and_right, Each, done, more, only-first, only-rest}
use Rattle.tree_merge.specs.Answer.{is_below}
use Rattle.merge_claims.specs.inside.Stands.{Clean, Held}
use Rattle.merge_claims.proofs.Order.{passed, live-order}

-- ---- whole records
from-whole : (n : ℕ) (words : List ℕ) → n * 32 ≤ length words → Each Whole (records_from n words)
unfolding records_from
from-whole zero words h = done
from-whole (suc n) words h =
    let l : length (drop 32 words) ≡ length words - 32 = length-drop 32 words in
    go (eqb (get_or words 0 0) 0) refl (from-whole n (drop 32 words) (omega arith))
  where
    long : length (take 32 words) ≡ 32
    long = let l : length (take 32 words) ≡ min 32 (length words) = length-take 32 words in l ∙ omega arith

    go : (b : Bool) → eqb (get_or words 0 0) 0 ≡ b → Each Whole (records_from n (drop 32 words)) → Each Whole (cond b [] (take 32 words ∷ records_from n (drop 32 words)))
    go true e w = done
    go false e w = more (long, ap (λ (k : ℕ). eqb k 0) (get_or-take 32 words 0 0 (omega arith)) ∙ e) w

records-whole : (words : List ℕ) → Each Whole (records_of words)
unfolding records_of
records-whole words =
    let l : length (take most_words words) ≡ min most_words (length words) = length-take most_words words in
    from-whole (length (take most_words words) / 32) words (omega arith)

-- ---- the order
opens : (r : List ℕ) → may_follow nothing r ≡ true → is_report r ≡ true
unfolding may_follow
opens r e = go (is_report r) e
  where
    go : (b : Bool) → cond b true (cond (is_suite r) false
        (cond (is_case r) false (cond (is_suite_extra r) false (cond (is_case_extra r) false (cond (is_suite_property r) false (cond (is_case_property r) false false)))))) ≡ true → b ≡ true
    go true h = refl
    go false h =
        absurd (false≢true (sym
        (passed (is_suite r) _ (passed (is_case r) _ (passed (is_suite_extra r) _ (passed (is_case_extra r) _ (passed (is_suite_property r) _ (passed (is_case_property r) _ refl)))))) ∙ h))

report-opens : (r : List ℕ) → is_report r ≡ true → following nothing r ≡ opened 1 0
unfolding following
report-opens r e = rw e refl

-- something is open
abbrev Inside : Open → Type 0
Inside o = leb 1 o.level ≡ true

inside-cond : (b : Bool) (p q : Open) → Inside p → Inside q → Inside (cond b p q)
inside-cond true p q a b = a
inside-cond false p q a b = b

inside-next : (o : Open) (r : List ℕ) → Inside o → Inside (following o r)
unfolding following
inside-next o r h =
    inside-cond (is_report r) _ _ refl
    (inside-cond (is_suite r) _ _ refl
    (inside-cond (is_case r) _ _ refl
    (inside-cond (is_suite_extra r || is_case_extra r) o _ h
    (inside-cond (is_suite_property r) _ _ refl
    (inside-cond (is_case_property r) _ _ refl refl)))))

-- then no report may stand
no-report : (o : Open) (r : List ℕ) → Inside o → may_follow o r ≡ true → is_report r ≡ false
unfolding may_follow
no-report o r h e = go (is_report r) refl
  where
    closed : (n : ℕ) → leb 1 n ≡ true → eqb n 0 ≡ true → ⊥
    closed n a b = let l = leb-true 1 n a in let z = eqb-true n 0 b in omega arith

    go : (b : Bool) → is_report r ≡ b → is_report r ≡ false
    go true q = absurd (closed o.level h (sym (rw q refl) ∙ e))
    go false q = q

-- so that below the report the live records are those that are copied
below-live : (o : Open) (rs : List (List ℕ)) → Inside o → good_order o rs ≡ true → only live rs ≡ only is_below rs
unfolding good_order
below-live o [] h e = refl
below-live o (r ∷ rs) h e = go (live r) refl e (λ g. below-live (following o r) rs (inside-next o r h) g) (λ g. below-live o rs h g)
  where
    go : (b : Bool) → live r ≡ b → cond b (may_follow o r && good_order (following o r) rs) (good_order o rs) ≡ true
        → (good_order (following o r) rs ≡ true → only live rs ≡ only is_below rs) → (good_order o rs ≡ true → only live rs ≡ only is_below rs)
        → only live (r ∷ rs) ≡ only is_below (r ∷ rs)
    go true a g p q =
        let n = no-report o r h (and_left (may_follow o r) (good_order (following o r) rs) g) in
        only-first live r rs a ∙ ap (λ (l : List (List ℕ)). r ∷ l) (p (and_right (may_follow o r) (good_order (following o r) rs) g))
        ∙ sym (only-first is_below r rs (both a (ap not n)))
    go false a g p q = only-rest live r rs a ∙ q g ∙ sym (only-rest is_below r rs (ap (λ (b : Bool). b && not (is_report r)) a))

-- ---- the report's record, and the records below it
pub record Top (t : List ℕ) (rs : List (List ℕ)) : Type 0 where
  pub top : List ℕ
  pub held : Held t top
  pub report : is_report top ≡ true
  pub whole : only live rs ≡ top ∷ only is_below rs
  pub order : good_order (opened 1 0) (only is_below rs) ≡ true
  pub below : Each (Held t) (only is_below rs)

abbrev Fit : List ℕ → List ℕ → Type 0
Fit t r = Whole r × (good_record t r ≡ true)

fits : (t : List ℕ) {rs : List (List ℕ)} → Each Whole rs → all_good t rs ≡ true → Each (Fit t) rs
fits t done e = done
fits t (more {x = r} {xs = rs} h hs) e = more (h, and_left (good_record t r) (all_good t rs) e) (fits t hs (and_right (good_record t r) (all_good t rs) e))

held : (t r : List ℕ) → Fit t r → live r ≡ true → Held t r
held t r f a = record { long = f.0.0; kind = f.0.1; alive = a; good = f.1 }

below-held : (t : List ℕ) {rs : List (List ℕ)} → Each (Fit t) rs → Each (Held t) (only is_below rs)
below-held t done = done
below-held t (more {x = r} {xs = rs} f fs) = go (is_below r) refl (below-held t fs)
  where
    go : (b : Bool) → is_below r ≡ b → Each (Held t) (only is_below rs) → Each (Held t) (cond b (r ∷ only is_below rs) (only is_below rs))
    go true e h = more (held t r f (and_left (live r) (not (is_report r)) e)) h
    go false e h = h

top_of : (t : List ℕ) {rs : List (List ℕ)} → Each (Fit t) rs → good_order nothing rs ≡ true → Top t rs
unfolding good_order
top_of t done e = absurd (false≢true e)
top_of t (more {x = r} {xs = rs} f fs) e = go (live r) refl e (top_of t fs)
  where
    go : (b : Bool) → live r ≡ b → cond b (may_follow nothing r && good_order (following nothing r) rs) (good_order nothing rs) ≡ true
        → (good_order nothing rs ≡ true → Top t rs) → Top t (r ∷ rs)
    go true a g back =
        let q = opens r (and_left (may_follow nothing r) (good_order (following nothing r) rs) g) in
        let h : good_order (opened 1 0) rs ≡ true = ap (λ (o : Open). good_order o rs) (sym (report-opens r q)) ∙ and_right (may_follow nothing r) (good_order (following nothing r) rs) g in
        let s : only live rs ≡ only is_below rs = below-live (opened 1 0) rs refl h in
        let p : only is_below (r ∷ rs) ≡ only is_below rs = only-rest is_below r rs (ap (λ (b : Bool). b && not (is_report r)) a ∙ ap not q) in
        record {
          top = r;
          held = held t r f a;
          report = q;
          whole = only-first live r rs a ∙ ap (λ (l : List (List ℕ)). r ∷ l) (s ∙ sym p);
          order = ap (good_order (opened 1 0)) (p ∙ sym s) ∙ live-order (opened 1 0) rs ∙ h;
          below = below-held t (more f fs);
        }
    go false a g back =
        let m = back g in
        let p : only is_below (r ∷ rs) ≡ only is_below rs = only-rest is_below r rs (ap (λ (b : Bool). b && not (is_report r)) a) in
        record {
          top = m.top;
          held = m.held;
          report = m.report;
          whole = only-rest live r rs a ∙ m.whole ∙ ap (λ (l : List (List ℕ)). m.top ∷ l) (sym p);
          order = ap (good_order (opened 1 0)) p ∙ m.order;
          below = below-held t (more f fs);
        }

-- ---- what `layout` says
module _ (words text : List ℕ) (e : layout words text ≡ true) where
  abbrev rs : List (List ℕ)
  rs = records_of words

  abbrev area : List ℕ
  area = used_text text

  abbrev texts : List ℕ
  texts = filled area

  abbrev behind : List ℕ
  behind = drop (length texts) area

  abbrev zero-behind : Bool
  zero-behind = all_zero (drop (length rs * 32) (used_words words))

  abbrev ordered : Bool
  ordered = good_order nothing rs && zero-behind

  text-good : good_text area ≡ true
  unfolding layout
  text-good = and_left (good_text area) (all_good texts rs && ordered) e

  records-good : (all_good texts rs && ordered) ≡ true
  unfolding layout
  records-good = and_right (good_text area) (all_good texts rs && ordered) e

  pub text-parts : texts ++ behind ≡ area
  text-parts = ap (λ (l : List ℕ). l ++ behind) (sym (filled-front area)) ∙ take-append-drop (length texts) area

  pub texts-clean : Clean texts
  unfolding good_text
  texts-clean = (
    and_left (utf8 texts) (unfiltered texts && all_zero behind) text-good,
    and_left (unfiltered texts) (all_zero behind) (and_right (utf8 texts) (unfiltered texts && all_zero behind) text-good),
  )

  pub layout-top : Top texts rs
  layout-top =
      top_of texts (fits texts (records-whole words) (and_left (all_good texts rs) ordered records-good))
      (and_left (good_order nothing rs) zero-behind (and_right (all_good texts rs) ordered records-good))
