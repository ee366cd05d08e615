-- Records that a layout may hold, live and dead, by their kinds. Assumes nothing.
use Prim.Native.Nat.{ℕ, zero, suc, ◌+◌, ◌≤◌}
use mathlib.Core.Bool.{Bool, true, false, cond, false≢true}
use mathlib.Core.List.{List, [], ◌∷◌}
use mathlib.Core.Path.{◌≡◌, refl, sym, ap, subst, ◌∙◌}
use native.Mathlib.Omega.{arith}
use borrow.Author.Tests.{ltb-true, lt-ltb, le-ltb, le-leb, leb-true, ne_eqb, eqb-true, eqb-false}
use lib.Dec.{leb, ltb, eqb, lit≤}
use lib.ListN.{length, get_or, set, length-set}
use Rattle.read_path.specs.of_tree_report.Fields.{kind_of, live, has_bit}
use Rattle.read_path.specs.of_tree_report.Layout.{good_record, all_good}
use Rattle.read_path.proofs.of_tree_report.EncodeLists.{both, and_left, and_right, Each, done, more}
use Rattle.read_path.proofs.of_tree_report.EncodeAreas.{Whole}
use Rattle.read_path.specs.of_read_element.Attributes.{changed}
use Rattle.read_path.proofs.of_read_element.TreeSheet.{text, name, outputs, pair, Grows, Sorts, Sheet, sheet-kind, sheet-size, sheet-plain, sheet-more}
use Rattle.read_path.proofs.of_read_element.TreeGood.{report_sorts, suite_sorts, case_sorts, pair_sorts, main_sorts, run_sorts, Final, report, suite, case, suite_property, case_property}
use Rattle.read_path.proofs.of_read_element.TreeGood.{failure, error, skipped, flaky_failure, flaky_error, rerun_failure, rerun_error, suite_extra, case_extra, final_bounds, sheet-good}
use Rattle.read_path.proofs.of_read_element.TreeRoles.{Class}
use Rattle.read_path.proofs.of_read_element.TreeRoles
use Rattle.read_path.specs.of_read_state.Control.{is_status}
use Rattle.read_content.specs.Content.{killed, kill_all, kill_kind}
use Rattle.read_machine.proofs.TreeOrder.{kinds, dead, Some, kind-killed}

pub data Kept (texts r : List ℕ) : Type 0 where
  alive : {κ : ℕ} {S : Sorts} → Final κ S → Sheet S texts κ r → Kept texts r
  gone : length r ≡ 32 → 17 ≤ kind_of r → kind_of r ≤ 30 → Kept texts r

module _ {texts r : List ℕ} where
  pub kept-size : Kept texts r → length r ≡ 32
  kept-size (alive f h) = sheet-size h
  kept-size (gone l a b) = l

  pub kept-some : Kept texts r → Some r
  kept-some k = let e = kept-size k in omega arith

  pub kept-good : Kept texts r → good_record texts r ≡ true
  unfolding good_record
  kept-good (alive f h) = sheet-good f h
  kept-good (gone l a b) = rw (le-ltb (kind_of r) 16 (omega arith)) (both (le-leb 17 (kind_of r) a) (le-leb (kind_of r) 30 b))

  pub kept_whole : Kept texts r → Whole r
  kept_whole (alive f h) = (sheet-size h, ne_eqb (kind_of r) 0 (λ z. let b = (final_bounds f).0 in let e = sheet-kind h in omega arith))
  kept_whole (gone l a b) = (l, ne_eqb (kind_of r) 0 (λ z. omega arith))

  pub kept-plain : Kept texts r → live r ≡ true → has_bit 9 r ≡ false
  kept-plain (alive f h) e = sheet-plain h
  kept-plain (gone l a b) e = absurd (let h = ltb-true (kind_of r) 16 e in omega arith)

pub kept_more : {s t r : List ℕ} → Grows s t → Kept s r → Kept t r
kept_more g (alive f h) = alive f (sheet-more g h)
kept_more g (gone l a b) = gone l a b

pub all-good : {texts : List ℕ} {rs : List (List ℕ)} → Each (Kept texts) rs → all_good texts rs ≡ true
all-good done = refl
all-good (more k ks) = both (kept-good k) (all-good ks)

-- ---- records marked dead (rule M3)
length-killed : (r : List ℕ) → length (killed r) ≡ length r
length-killed r = go (ltb (get_or r 0 0) 16)
  where
    go : (t : Bool) → length (cond t (set r 0 (get_or r 0 0 + 16)) r) ≡ length r
    go true = length-set r 0 (get_or r 0 0 + 16)
    go false = refl

dead-live : (k : ℕ) → k ≤ 14 → dead k ≡ k + 16
dead-live k h = rw (lt-ltb k 16 (omega arith)) refl

dead-dead : (k : ℕ) → 17 ≤ k → dead k ≡ k
dead-dead k h = rw (le-ltb k 16 (omega arith)) refl

kept-killed : {texts r : List ℕ} → Kept texts r → Kept texts (killed r)
kept-killed {texts} {r} (alive {κ = κ} f h) =
    let e = sheet-kind h in
    let l = sheet-size h in
    let b = final_bounds f in
    let low = b.0 in
    let high = b.1 in
    let d : kind_of (killed r) ≡ kind_of r + 16 = kind-killed r (omega arith) ∙ dead-live (kind_of r) (omega arith) in
    gone (length-killed r ∙ l) (omega arith) (omega arith)
kept-killed {texts} {r} (gone l a b) =
    let d : kind_of (killed r) ≡ kind_of r = kind-killed r (omega arith) ∙ dead-dead (kind_of r) a in
    gone (length-killed r ∙ l) (omega arith) (omega arith)

pub all-killed : {texts : List ℕ} {rs : List (List ℕ)} → Each (Kept texts) rs → Each (Kept texts) (kill_all rs)
all-killed done = done
all-killed (more k ks) = more (kept-killed k) (all-killed ks)

-- marking all records dead leaves their number
pub length-all : (rs : List (List ℕ)) → length (kill_all rs) ≡ length rs
length-all [] = refl
length-all (r ∷ rs) = ap suc (length-all rs)

kept-cond : {texts r q : List ℕ} (t : Bool) → Kept texts r → Kept texts q → Kept texts (cond t r q)
kept-cond true a b = a
kept-cond false a b = b

pub kind-killed-kept : {texts : List ℕ} (κ i : ℕ) {rs : List (List ℕ)} → Each (Kept texts) rs → Each (Kept texts) (kill_kind κ i rs)
kind-killed-kept κ i done = done
kind-killed-kept κ zero (more {x = r} k ks) = more (kept-cond (eqb (kind_of r) κ) (kept-killed k) k) (kind-killed-kept κ zero ks)
kind-killed-kept κ (suc i) (more k ks) = more k (kind-killed-kept κ i ks)

-- marking a kind dead leaves the number of records
pub length-kind : (κ i : ℕ) (rs : List (List ℕ)) → length (kill_kind κ i rs) ≡ length rs
length-kind κ i [] = refl
length-kind κ zero (r ∷ rs) = ap suc (length-kind κ zero rs)
length-kind κ (suc i) (r ∷ rs) = ap suc (length-kind κ i rs)

-- ---- a record of a known kind, changed
abbrev pub sorts_of : ℕ → Sorts
sorts_of κ =
    cond (eqb κ 1) report_sorts
    (cond (eqb κ 2) (suite_sorts name)
    (cond (eqb κ 3) (case_sorts name)
    (cond (leb κ 5) (pair_sorts name pair) (cond (leb κ 8) main_sorts (cond (leb κ 12) run_sorts (pair_sorts name pair))))))

final_sorts : {κ : ℕ} {S : Sorts} → Final κ S → S ≡ sorts_of κ
final_sorts report = refl
final_sorts suite = refl
final_sorts case = refl
final_sorts suite_property = refl
final_sorts case_property = refl
final_sorts failure = refl
final_sorts error = refl
final_sorts skipped = refl
final_sorts flaky_failure = refl
final_sorts flaky_error = refl
final_sorts rerun_failure = refl
final_sorts rerun_error = refl
final_sorts suite_extra = refl
final_sorts case_extra = refl

pub kept_at : {texts r : List ℕ} (κ : ℕ) → κ ≤ 14 → Kept texts r → kind_of r ≡ κ → Final κ (sorts_of κ) × Sheet (sorts_of κ) texts κ r
kept_at {texts} {r} κ l (alive {κ = j} {S = S} f h) q =
    subst (λ (k : ℕ). Final k (sorts_of k) × Sheet (sorts_of k) texts k r) (sym (sheet-kind h) ∙ q)
    (subst (λ (T : Sorts). Final j T × Sheet T texts j r) (final_sorts f) (f, h))
kept_at κ l (gone e a b) q = absurd (omega arith)

pub kept-changed : {texts : List ℕ} (i κ : ℕ) (f : List ℕ → List ℕ) → κ ≤ 14 → ((r : List ℕ) → Sheet (sorts_of κ) texts κ r → Sheet (sorts_of κ) texts κ (f r))
    → {rs : List (List ℕ)} → Each (Kept texts) rs → get_or (kinds rs) i 0 ≡ κ → Each (Kept texts) (changed i f rs) × (kinds (changed i f rs) ≡ kinds rs)
kept-changed i κ f l h done q = (done, refl)
kept-changed zero κ f l h (more {x = r} {xs = rs} k ks) q =
    let p = kept_at κ l k q in
    let s = h r p.1 in
    (more (alive p.0 s) ks, ap (λ (j : ℕ). j ∷ kinds rs) (sheet-kind s ∙ sym q))
kept-changed (suc i) κ f l h (more {x = r} k ks) q =
    let p = kept-changed i κ f l h ks q in
    (more k p.0, ap (λ (js : List ℕ). kind_of r ∷ js) p.1)

pub changed-same : (i : ℕ) (f : List ℕ → List ℕ) → ((r : List ℕ) → f r ≡ r) → (rs : List (List ℕ)) → changed i f rs ≡ rs
changed-same i f h [] = refl
changed-same zero f h (r ∷ rs) = ap (λ (q : List ℕ). q ∷ rs) (h r)
changed-same (suc i) f h (r ∷ rs) = ap (λ (qs : List (List ℕ)). r ∷ qs) (changed-same i f h rs)

-- ---- the seven status elements
pub data Status : ℕ → Type 0 where
  six : Status 6
  seven : Status 7
  eight : Status 8
  nine : Status 9
  ten : Status 10
  eleven : Status 11
  twelve : Status 12

pub status-of : (κ : ℕ) → is_status κ ≡ true → Status κ
status-of κ e =
    let l = leb-true 6 κ (and_left (leb 6 κ) (leb κ 12) e) in
    let h = leb-true κ 12 (and_right (leb 6 κ) (leb κ 12) e) in
    is κ 6 six λ a. is κ 7 seven λ b. is κ 8 eight λ c. is κ 9 nine λ d. is κ 10 ten λ f. is κ 11 eleven λ g. is κ 12 twelve λ i. absurd (go κ l h a b c d f g i)
  where
    is : (κ n : ℕ) → Status n → ((κ ≡ n → ⊥) → Status κ) → Status κ
    is κ n s k = at (eqb κ n) refl
      where
        at : (t : Bool) → eqb κ n ≡ t → Status κ
        at true q = subst Status (sym (eqb-true κ n q)) s
        at false q = k (eqb-false κ n q)

    above : (n κ : ℕ) → n ≤ κ → (κ ≡ n → ⊥) → suc n ≤ κ
    above n κ l d = omega arith

    go : (κ : ℕ) → 6 ≤ κ → κ ≤ 12 → (κ ≡ 6 → ⊥) → (κ ≡ 7 → ⊥) → (κ ≡ 8 → ⊥) → (κ ≡ 9 → ⊥) → (κ ≡ 10 → ⊥) → (κ ≡ 11 → ⊥) → (κ ≡ 12 → ⊥) → ⊥
    go κ l h a b c d f g i = past κ h (above 12 κ (above 11 κ (above 10 κ (above 9 κ (above 8 κ (above 7 κ (above 6 κ l a) b) c) d) f) g) i)
      where
        past : (κ : ℕ) → κ ≤ 12 → 13 ≤ κ → ⊥
        past κ h l = omega arith

pub status-bounds : {κ : ℕ} → Status κ → (6 ≤ κ) × (κ ≤ 12)
status-bounds six = (lit≤ tt, lit≤ tt)
status-bounds seven = (lit≤ tt, lit≤ tt)
status-bounds eight = (lit≤ tt, lit≤ tt)
status-bounds nine = (lit≤ tt, lit≤ tt)
status-bounds ten = (lit≤ tt, lit≤ tt)
status-bounds eleven = (lit≤ tt, lit≤ tt)
status-bounds twelve = (lit≤ tt, lit≤ tt)

pub status-class : {κ : ℕ} → Status κ → Class κ (sorts_of κ) (sorts_of κ)
status-class six = TreeRoles.failure
status-class seven = TreeRoles.error
status-class eight = TreeRoles.skipped
status-class nine = TreeRoles.flaky_failure
status-class ten = TreeRoles.flaky_error
status-class eleven = TreeRoles.rerun_failure
status-class twelve = TreeRoles.rerun_error

pub status-first : {κ : ℕ} → Status κ → (sorts_of κ).first ≡ text
status-first six = refl
status-first seven = refl
status-first eight = refl
status-first nine = refl
status-first ten = refl
status-first eleven = refl
status-first twelve = refl

pub status-second : {κ : ℕ} → Status κ → (sorts_of κ).second ≡ text
status-second six = refl
status-second seven = refl
status-second eight = refl
status-second nine = refl
status-second ten = refl
status-second eleven = refl
status-second twelve = refl

pub status-third : {κ : ℕ} → Status κ → (sorts_of κ).third ≡ text
status-third six = refl
status-third seven = refl
status-third eight = refl
status-third nine = refl
status-third ten = refl
status-third eleven = refl
status-third twelve = refl

pub status-outputs : {κ : ℕ} → Status κ → leb 9 κ ≡ true → ((sorts_of κ).middle ≡ outputs) × ((sorts_of κ).fourth ≡ text)
status-outputs six e = absurd (false≢true e)
status-outputs seven e = absurd (false≢true e)
status-outputs eight e = absurd (false≢true e)
status-outputs nine e = (refl, refl)
status-outputs ten e = (refl, refl)
status-outputs eleven e = (refl, refl)
status-outputs twelve e = (refl, refl)
