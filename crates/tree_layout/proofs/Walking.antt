-- The records are gone through from the front, one behind the other. Assumes nothing.
use Prim.Native.Nat.{ℕ, zero, suc, ◌+◌, ◌-◌, ◌*◌, ◌/◌, ◌≤◌, ◌<◌}
use mathlib.Core.Bool.{Bool, true, false, cond, not, ◌&&◌, ◌||◌, true≢false, false≢true}
use mathlib.Core.List.{List, [], ◌∷◌}
use mathlib.Core.Path.{◌≡◌, refl, sym, ap, ◌∙◌}
use native.Mathlib.Omega.{arith}
use borrow.Author.Tests.{eq-eqb, ne_eqb, leb-true, leb-false, eqb-true, eqb-false}
use lib.Dec.{leb, eqb}
use lib.ListN.{length, get_or, take, drop}
use lib.Seq.{drop-drop, get_or-drop, take-nil}
use Rattle.tree_shape.proofs.of_area.Parts.{length_part}
use Rattle.tree_shape.specs.of_tree_record.Record.{kind_of, live}
use Rattle.tree_shape.specs.of_tree_status.Status.{no_status, Few}
use Rattle.tree_shape.proofs.of_tree_status.Tallies.{few-more, few-none, few-tallied}
use Rattle.tree_order.specs.of_tree_report.Fields.{is_report, is_suite, is_case, is_suite_property, is_case_property, is_suite_extra, is_case_extra}
use Rattle.tree_order.specs.of_tree_report.Layout.{Open, all_zero, good_record, all_good, nothing, may_end, may_follow, following, good_order, records_from}
use Rattle.tree_layout.specs.inside.Walk.{admits, behind, stands_at, layout_from, walked}

-- ---- no count of status elements is above the number of words passed
few-open : {n : ℕ} (b : Bool) (o p : Open) → Few n o.tally → Few n p.tally → Few n (cond b o p).tally
few-open true o p f g = f
few-open false o p f g = g

few-following : {n : ℕ} (o : Open) (r : List ℕ) → Few n o.tally → Few (n + 32) (following o r).tally
unfolding following
few-following {n} o r f =
    let none : Few (n + 32) no_status = few-none (n + 32) in
    let same : Few (n + 32) o.tally = few-more f (omega arith) in
    few-open (is_report r) _ _ none
    (few-open (is_suite r) _ _ none
    (few-open (is_case r) _ _ none
    (few-open (is_suite_extra r || is_case_extra r) _ _ same
    (few-open (is_suite_property r) _ _ none
    (few-open (is_case_property r) _ _ same
    (few-more (few-tallied o.tally (kind_of r) f) (omega arith)))))))

few-behind : {n : ℕ} (o : Open) (r : List ℕ) → Few n o.tally → Few (n + 32) (behind o r).tally
unfolding behind
few-behind o r f = few-open (live r) _ _ (few-following o r f) (few-more f (omega arith))

-- ---- one record
parts : (g l m a x y z : Bool) → ((g && a) && (cond l (m && x) y && z)) ≡ ((g && (not l || m)) && (a && (cond l x y && z)))
parts true true true a x y z = refl
parts true true false true x y z = refl
parts true true false false x y z = refl
parts true false m a x y z = refl
parts false l m a x y z = refl

order-behind : (o : Open) (r : List ℕ) (rs : List (List ℕ)) → good_order (behind o r) rs ≡ cond (live r) (good_order (following o r) rs) (good_order o rs)
unfolding behind
order-behind o r rs = go (live r)
  where
    go : (t : Bool) → good_order (cond t (following o r) o) rs ≡ cond t (good_order (following o r) rs) (good_order o rs)
    go true = refl
    go false = refl

order-next : (o : Open) (r : List ℕ) (rs : List (List ℕ)) → good_order o (r ∷ rs) ≡ cond (live r) (may_follow o r && good_order (following o r) rs) (good_order o rs)
unfolding good_order
order-next o r rs = refl

module _ (texts : List ℕ) (o : Open) (words rest : List ℕ) where
  records-next : (n : ℕ) → (get_or words 0 0 ≡ 0 → ⊥) → records_from (suc n) words ≡ take 32 words ∷ records_from n (drop 32 words)
  unfolding records_from
  records-next n h = rw (ne_eqb (get_or words 0 0) 0 h) refl

  records-none : (n : ℕ) → get_or words 0 0 ≡ 0 → records_from n words ≡ []
  unfolding records_from
  records-none zero e = refl
  records-none (suc n) e = rw (eq-eqb (get_or words 0 0) 0 e) refl

  abbrev from : List (List ℕ) → Bool
  from rs = all_good texts rs && (good_order o rs && all_zero (drop (length rs * 32) rest))

  layout-next :
      (n : ℕ) → (get_or words 0 0 ≡ 0 → ⊥)
      → layout_from texts o (suc n) words rest ≡ (admits texts o (take 32 words) && layout_from texts (behind o (take 32 words)) n (drop 32 words) (drop 32 rest))
  unfolding layout_from admits
  layout-next n h =
      let r = take 32 words in
      let rs = records_from n (drop 32 words) in
      let k : suc (length rs) * 32 ≡ 32 + length rs * 32 = omega arith in
      ap from (records-next n h)
      ∙ ap (λ (j : ℕ). (good_record texts r && all_good texts rs) && (good_order o (r ∷ rs) && all_zero (drop j rest))) k
      ∙ ap (λ (l : List ℕ). (good_record texts r && all_good texts rs) && (good_order o (r ∷ rs) && all_zero l)) (sym (drop-drop (length rs * 32) 32 rest))
      ∙ ap (λ (b : Bool). (good_record texts r && all_good texts rs) && (b && all_zero (drop (length rs * 32) (drop 32 rest)))) (order-next o r rs)
      ∙ parts (good_record texts r) (live r) (may_follow o r) (all_good texts rs) (good_order (following o r) rs) (good_order o rs) (all_zero (drop (length rs * 32) (drop 32 rest)))
      ∙ ap (λ (b : Bool). (good_record texts r && (not (live r) || may_follow o r)) && (all_good texts rs && (b && all_zero (drop (length rs * 32) (drop 32 rest))))) (sym (order-behind o r rs))

  none_left : from [] ≡ ((leb 1 o.level && may_end o) && all_zero rest)
  unfolding good_order
  none_left = refl

  layout-none : (n : ℕ) → get_or words 0 0 ≡ 0 → layout_from texts o n words rest ≡ ((leb 1 o.level && may_end o) && all_zero rest)
  unfolding layout_from
  layout-none n e = ap from (records-none n e) ∙ none_left

  layout-zero : layout_from texts o 0 words rest ≡ ((leb 1 o.level && may_end o) && all_zero rest)
  unfolding layout_from records_from
  layout-zero = none_left

-- ---- the first `limit` words
drop-take : (a e : ℕ) (l : List ℕ) → drop a (take e l) ≡ take (e - a) (drop a l)
drop-take zero e l = let z : e - 0 ≡ e = omega arith in rw z refl
drop-take (suc a) zero l = let z : 0 - suc a ≡ 0 = omega arith in rw z refl
drop-take (suc a) (suc e) [] = sym (take-nil (suc e - suc a))
drop-take (suc a) (suc e) (x ∷ l) = let z : suc e - suc a ≡ e - a = omega arith in drop-take a e l ∙ ap (λ (n : ℕ). take n (drop a l)) (sym z)

module _ (words : List ℕ) (at : ℕ) where
  pub record-part : take (at + 32 - at) (drop at words) ≡ take 32 (drop at words)
  record-part = let z : at + 32 - at ≡ 32 = omega arith in ap (λ (n : ℕ). take n (drop at words)) z

  pub record-length : at + 32 ≤ length words → length (take (at + 32 - at) (drop at words)) ≡ 32
  record-length h = let z : at + 32 - at ≡ 32 = omega arith in length_part words at (at + 32) h ∙ z

-- the words before `at` are records in good order
pub record Walking (texts words : List ℕ) (limit at : ℕ) (o : Open) : Type 0 where
  pub fits : at ≤ limit
  pub left : walked texts words limit ≡ layout_from texts o ((limit - at) / 32) (drop at words) (drop at (take limit words))
  pub few : Few at o.tally

pub walking_start : (texts words : List ℕ) (limit : ℕ) (o : Open) → o ≡ nothing → Walking texts words limit 0 o
unfolding walked
walking_start texts words limit o e =
    let z : limit ≡ limit - 0 = omega arith in
    record {
      fits = omega arith;
      left = ap (λ (n : ℕ). layout_from texts nothing (n / 32) words (take limit words)) z ∙ ap (λ (p : Open). layout_from texts p ((limit - 0) / 32) words (take limit words)) (sym e);
      few = rw e (few-none 0);
    }

module _ {texts words : List ℕ} {limit at : ℕ} {o : Open} (w : Walking texts words limit at o) where
  stands : stands_at words at limit ≡ true → (at + 32 ≤ limit) × (get_or (drop at words) 0 0 ≡ 0 → ⊥)
  unfolding stands_at
  stands e = go (leb (at + 32) limit) (eqb (get_or words at 0) 0) refl refl e
    where
      go : (p q : Bool) → leb (at + 32) limit ≡ p → eqb (get_or words at 0) 0 ≡ q → (p && not q) ≡ true → (at + 32 ≤ limit) × (get_or (drop at words) 0 0 ≡ 0 → ⊥)
      go true false u v x =
          let z : at + 0 ≡ at = omega arith in
          (leb-true (at + 32) limit u, λ y. eqb-false (get_or words at 0) 0 v (sym (ap (λ (j : ℕ). get_or words j 0) z) ∙ sym (get_or-drop at words 0 0) ∙ y))
      go true true u v x = absurd (false≢true x)
      go false q u v x = absurd (false≢true x)

  pub stands-fits : stands_at words at limit ≡ true → at + 32 ≤ limit
  stands-fits e = (stands e).0

  -- the record at `at`
  module _ (r : List ℕ) (e : r ≡ take 32 (drop at words)) (s : stands_at words at limit ≡ true) where
    here : walked texts words limit ≡ (admits texts o r && layout_from texts (behind o r) ((limit - (at + 32)) / 32) (drop (at + 32) words) (drop (at + 32) (take limit words)))
    here =
        let h : at + 32 ≤ limit = (stands s).0 in
        let n : (limit - at) / 32 ≡ suc ((limit - (at + 32)) / 32) = omega arith in
        w.left
        ∙ ap (λ (m : ℕ). layout_from texts o m (drop at words) (drop at (take limit words))) n
        ∙ layout-next texts o (drop at words) (drop at (take limit words)) ((limit - (at + 32)) / 32) (stands s).1
        ∙ rw (drop-drop 32 at words, drop-drop 32 at (take limit words), sym e) refl

    pub walking-next : (p : Open) → admits texts o r ≡ true → p ≡ behind o r → Walking texts words limit (at + 32) p
    walking-next p t q =
        rw q (record {
          fits = (stands s).0;
          left = here ∙ ap (λ (b : Bool). b && layout_from texts (behind o r) ((limit - (at + 32)) / 32) (drop (at + 32) words) (drop (at + 32) (take limit words))) t;
          few = few-behind o r w.few;
        })

    pub walking-stop : admits texts o r ≡ false → false ≡ walked texts words limit
    walking-stop t = sym (here ∙ ap (λ (b : Bool). b && layout_from texts (behind o r) ((limit - (at + 32)) / 32) (drop (at + 32) words) (drop (at + 32) (take limit words))) t)

  pub walking-done : stands_at words at limit ≡ false → ((leb 1 o.level && may_end o) && all_zero (take (limit - at) (drop at words))) ≡ walked texts words limit
  unfolding stands_at
  walking-done e = sym (w.left ∙ go (leb (at + 32) limit) (eqb (get_or words at 0) 0) refl refl e ∙ ap (λ (l : List ℕ). (leb 1 o.level && may_end o) && all_zero l) (drop-take at limit words))
    where
      go : (p q : Bool) → leb (at + 32) limit ≡ p → eqb (get_or words at 0) 0 ≡ q → (p && not q) ≡ false
          → layout_from texts o ((limit - at) / 32) (drop at words) (drop at (take limit words)) ≡ ((leb 1 o.level && may_end o) && all_zero (drop at (take limit words)))
      go true true u v x =
          let z : at + 0 ≡ at = omega arith in
          layout-none texts o (drop at words) (drop at (take limit words)) ((limit - at) / 32) (get_or-drop at words 0 0 ∙ ap (λ (j : ℕ). get_or words j 0) z ∙ eqb-true (get_or words at 0) 0 v)
      go true false u v x = absurd (true≢false x)
      go false q u v x =
          let h : limit < at + 32 = leb-false (at + 32) limit u in
          let n : (limit - at) / 32 ≡ 0 = (let f = w.fits in omega arith) in
          ap (λ (m : ℕ). layout_from texts o m (drop at words) (drop at (take limit words))) n ∙ layout-zero texts o (drop at words) (drop at (take limit words))
