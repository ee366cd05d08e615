-- Records of two layouts, one behind the other, stand in the order of a layout. Assumes nothing.
use Prim.Native.Nat.{ℕ}
use mathlib.Core.Path.{◌≡◌, refl, sym, ap, ◌∙◌}
use mathlib.Core.Bool.{Bool, true, false, cond, ◌&&◌, ◌||◌, false≢true}
use mathlib.Core.List.{List, [], ◌∷◌, ◌++◌}
use borrow.Author.Tests.{eqb-true}
use lib.Dec.{leb, ltb, eqb}
use Rattle.tree_merge.specs.of_tree_status.Status.{tallied}
use Rattle.tree_merge.specs.of_tree_report.Fields.{kind_of, live, is_report, is_suite, is_case, is_suite_property, is_case_property, is_suite_extra, is_case_extra}
use Rattle.tree_merge.specs.of_tree_report.Layout.{Open, nothing, over, opened, may_end, may_follow, following, good_order}
use Rattle.tree_merge.specs.of_tree_report.ReportOf.{only}
use Rattle.tree_merge.proofs.of_tree_report.EncodeLists.{both, and_left, and_right, Each, done, more, Starts}
use Rattle.merge_claims.specs.inside.Pairs.{Pairs, ended, next}
use Rattle.merge_claims.specs.inside.Alike.{Like}

-- ---- dead records don't count
pub live-order : (o : Open) (rs : List (List ℕ)) → good_order o (only live rs) ≡ good_order o rs
unfolding good_order
live-order o [] = refl
live-order o (r ∷ rs) = go (live r) refl (live-order (following o r) rs) (live-order o rs)
  where
    go : (b : Bool) → live r ≡ b → good_order (following o r) (only live rs) ≡ good_order (following o r) rs → good_order o (only live rs) ≡ good_order o rs
        → good_order o (cond b (r ∷ only live rs) (only live rs)) ≡ cond b (may_follow o r && good_order (following o r) rs) (good_order o rs)
    go true e f g = rw e (ap (λ (t : Bool). may_follow o r && t) f)
    go false e f g = g

-- ---- a suite may stand wherever one may end
pub passed : (b x : Bool) → x ≡ false → cond b false x ≡ false
passed true x e = refl
passed false x e = e

-- behind the report's record only a suite may stand
first-suite : (r : List ℕ) → may_follow (opened 1 0) r ≡ true → is_suite r ≡ true
unfolding may_follow
first-suite r e = go (is_report r) (is_suite r) e
  where
    others : Bool
    others = cond (is_case r) false (cond (is_suite_extra r) false (cond (is_case_extra r) false (cond (is_suite_property r) false (cond (is_case_property r) false false))))

    go : (a b : Bool) → cond a false (cond b (may_end (opened 1 0)) others) ≡ true → b ≡ true
    go true b h = absurd (false≢true h)
    go false true h = refl
    go false false h =
        absurd (false≢true (sym
        (passed (is_case r) _ (passed (is_suite_extra r) _ (passed (is_case_extra r) _ (passed (is_suite_property r) _ (passed (is_case_property r) _ refl))))) ∙ h))

not-report : (r : List ℕ) → is_suite r ≡ true → is_report r ≡ false
not-report r e = ap (λ (k : ℕ). eqb k 1) (eqb-true (kind_of r) 2 e)

suite-follows : (o : Open) (r : List ℕ) → is_suite r ≡ true → leb 1 o.level ≡ true → may_end o ≡ true → may_follow o r ≡ true
unfolding may_follow
suite-follows o r e l m = rw (not-report r e, e) (both l m)

suite-opens : (o : Open) (r : List ℕ) → is_suite r ≡ true → following o r ≡ opened 2 0
unfolding following
suite-opens o r e = rw (not-report r e, e) refl

pub order-live : (o : Open) (r : List ℕ) (rs : List (List ℕ)) → live r ≡ true → good_order o (r ∷ rs) ≡ (may_follow o r && good_order (following o r) rs)
unfolding good_order
order-live o r rs e = rw e refl

-- what stands behind the report's record may stand wherever a suite may
order-behind : (o : Open) (rs : List (List ℕ)) → leb 1 o.level ≡ true → may_end o ≡ true → good_order (opened 1 0) rs ≡ true → good_order o rs ≡ true
unfolding good_order
order-behind o [] l m e = both l m
order-behind o (r ∷ rs) l m e = go (live r) refl e (order-behind o rs l m)
  where
    go : (b : Bool) → live r ≡ b → cond b (may_follow (opened 1 0) r && good_order (following (opened 1 0) r) rs) (good_order (opened 1 0) rs) ≡ true
        → (good_order (opened 1 0) rs ≡ true → good_order o rs ≡ true) → cond b (may_follow o r && good_order (following o r) rs) (good_order o rs) ≡ true
    go true a h back =
        let s = first-suite r (and_left (may_follow (opened 1 0) r) (good_order (following (opened 1 0) r) rs) h) in
        let g = and_right (may_follow (opened 1 0) r) (good_order (following (opened 1 0) r) rs) h in
        both (suite-follows o r s l m) (ap (λ (p : Open). good_order p rs) (suite-opens o r s ∙ sym (suite-opens (opened 1 0) r s)) ∙ g)
    go false a h back = back h

-- ys stands in order behind a report's record; so it does behind any records in order
pub order_append : (o : Open) (xs ys : List (List ℕ)) → good_order o xs ≡ true → good_order (opened 1 0) ys ≡ true → good_order o (xs ++ ys) ≡ true
unfolding good_order
order_append o [] ys e f = order-behind o ys (and_left (leb 1 o.level) (may_end o) e) (and_right (leb 1 o.level) (may_end o) e) f
order_append o (x ∷ xs) ys e f = go (live x) e (λ g. order_append (following o x) xs ys g f) (λ g. order_append o xs ys g f)
  where
    go : (b : Bool) → cond b (may_follow o x && good_order (following o x) xs) (good_order o xs) ≡ true
        → (good_order (following o x) xs ≡ true → good_order (following o x) (xs ++ ys) ≡ true) → (good_order o xs ≡ true → good_order o (xs ++ ys) ≡ true)
        → cond b (may_follow o x && good_order (following o x) (xs ++ ys)) (good_order o (xs ++ ys)) ≡ true
    go true h p q = both (and_left (may_follow o x) (good_order (following o x) xs) h) (p (and_right (may_follow o x) (good_order (following o x) xs) h))
    go false h p q = q h

-- live records behind a report's record are none, or begin with a suite
pub starts-suite : {ys : List (List ℕ)} → Each (λ r. live r ≡ true) ys → good_order (opened 1 0) ys ≡ true → Starts is_suite ys
starts-suite done e = tt
starts-suite (more {x = r} {xs = rs} a h) e =
    first-suite r (and_left (may_follow (opened 1 0) r) (good_order (following (opened 1 0) r) rs) (sym (order-live (opened 1 0) r rs a) ∙ e))

-- the report's record comes first, and opens the report
pub order-report : (r : List ℕ) (rs : List (List ℕ)) → is_report r ≡ true → good_order nothing (r ∷ rs) ≡ good_order (opened 1 0) rs
unfolding good_order may_follow following
order-report r rs e = let k = eqb-true (kind_of r) 1 e in rw k refl

-- ---- the order reads kinds and the flaky bit alone
follow-like : (o : Open) {r s : List ℕ} → Like r s → may_follow o r ≡ may_follow o s
unfolding may_follow
follow-like o {r} {s} h =
    let k = h.kind in
    λ i. cond (eqb (k i) 1) (eqb o.level 0)
    (cond (eqb (k i) 2) (leb 1 o.level && may_end o)
    (cond (eqb (k i) 3) (leb 2 o.level && may_end o)
    (cond (eqb (k i) 13) (eqb o.level 2 && o.extras)
    (cond (eqb (k i) 14) (eqb o.level 3 && o.extras)
    (cond (eqb (k i) 4) (leb 2 o.level && (may_end o && leb o.suite_list_of 1))
    (cond (eqb (k i) 5) (eqb o.level 3 && leb o.case_list 1)
    (eqb o.level 3)))))))

open-like : (o : Open) {r s : List ℕ} → Like r s → following o r ≡ following o s
unfolding following
open-like o {r} {s} h =
    let k = h.kind in
    let f = h.flaky in
    λ i. cond (eqb (k i) 1) (opened 1 0)
    (cond (eqb (k i) 2) (opened 2 0)
    (cond (eqb (k i) 3) (opened 3 (over o.suite_list_of))
    (cond (eqb (k i) 13 || eqb (k i) 14) o
    (cond (eqb (k i) 4) (record { level = 2; extras = false; suite_list_of = 1; case_list = 0; tally = (opened 0 0).tally; flagged = false })
    (cond (eqb (k i) 5) (record { level = 3; extras = false; suite_list_of = o.suite_list_of; case_list = 1; tally = o.tally; flagged = o.flagged })
    (record { level = 3; extras = false; suite_list_of = o.suite_list_of; case_list = over o.case_list; tally = tallied o.tally (k i); flagged = o.flagged || f i }))))))

pub order-like : (o : Open) {rs ss : List (List ℕ)} → Pairs Like rs ss → good_order o rs ≡ good_order o ss
unfolding good_order
order-like o ended = refl
order-like o (next {x = r} {y = s} {xs = rs} {ys = ss} h hs) =
    let k = h.kind in
    let m = follow-like o h in
    let f = ap (λ (p : Open). good_order p rs) (open-like o h) ∙ order-like (following o s) hs in
    let g = order-like o hs in
    λ i. cond (ltb (k i) 16) (m i && f i) (g i)
