-- The records of a tree, copied behind one another. Assumes nothing.
use Prim.Native.Nat.{ℕ, ◌+◌, ◌/◌, ◌%◌, ◌≤◌, ◌<◌}
use mathlib.Core.Path.{◌≡◌, refl, sym, ap, subst, ◌∙◌}
use mathlib.Core.Bool.{Bool, true, false, cond, ◌&&◌}
use mathlib.Core.List.{List, ◌++◌}
use native.Mathlib.Omega.{arith}
use borrow.Author.Tests.{eqb-true, leb-true, leb-false}
use lib.Dec.{leb, ltb, eqb, lit≤}
use lib.ListN.{length, get_or}
use Rattle.tree_merge.specs.of_schema.Report.{Text}
use Rattle.tree_merge.specs.of_schema.Schema.{Row, suite, case, main, skipped, run, table_of}
use Rattle.tree_merge.specs.of_schema.Records.{Fields, bits_in, good_from, good}
use Rattle.tree_merge.specs.of_schema.Texts.{fields_of}
use Rattle.tree_merge.specs.of_tree_report.Fields.{kind_of, is_main, is_run}
use Rattle.tree_merge.specs.of_tree_report.Layout.{all_good}
use Rattle.tree_merge.proofs.of_tree_report.EncodeAreas.{Whole}
use Rattle.tree_merge.proofs.of_tree_report.EncodeLists.{both, and_left, and_right, Each, done, more}
use Rattle.tree_merge.proofs.Records.{table-good}
use Rattle.tree_merge.specs.Moved.{texts_of, moved_to, texts_in, moved_from}
use Rattle.merge_claims.specs.inside.Pairs.{Pairs, ended, next}
use Rattle.merge_claims.specs.inside.Alike.{Alike}
use Rattle.merge_claims.specs.inside.Stands.{Clean, Stands, Held}
use Rattle.merge_claims.proofs.Texts.{clean-both, stands-first, stands-rest}
use Rattle.merge_claims.proofs.Rows.{clean-fields, moved_length}
use Rattle.merge_claims.proofs.Moved.{moved_front, moved-good, moved-shown}
use Rattle.merge_claims.proofs.Tables.{table-fine, table-main, table-run}

-- ---- one live record
module _ (t r : List ℕ) (h : Held t r) where
  abbrev k : ℕ
  k = kind_of r

  tests : (leb k 14 && good (table_of k) t r) ≡ true
  tests = sym (ap (λ (b : Bool). cond b (leb k 14 && good (table_of k) t r) (leb 17 k && leb k 30)) h.alive) ∙ sym (table-good t r) ∙ h.good

  pub table-held : good (table_of k) t r ≡ true
  table-held = and_right (leb k 14) (good (table_of k) t r) tests

  pub rows-held : good_from t r 2 (table_of (kind_of r)) ≡ true
  unfolding good
  rows-held = and_right (eqb (get_or r 1 0) (bits_in (table_of k) r)) (good_from t r 2 (table_of k)) table-held

  pub clean-texts : (z : List ℕ) → Clean t → Clean (texts_of (t ++ z) r)
  unfolding texts_of
  clean-texts z c = clean-fields t z r c 2 (table_of k) rows-held

  module _ (z u y : List ℕ) (c : Clean t) (fill : ℕ) (stands : Stands u fill (texts_of (t ++ z) r)) where
    abbrev w : List ℕ
    w = moved_to (t ++ z) fill r

    front : (i : ℕ) → i < 2 → get_or w i 0 ≡ get_or r i 0
    unfolding moved_to texts_of
    front = moved_front t z u y r c (table_of k) (table-fine k) fill h.long table-held stands

    same_kind : kind_of w ≡ k
    same_kind = front 0 (lit≤ tt)

    long : length w ≡ 32
    unfolding moved_to
    long = moved_length (t ++ z) r (table_of k) fill r ∙ h.long

    table-good-moved : good (table_of k) u w ≡ true
    unfolding moved_to texts_of
    table-good-moved = moved-good t z u y r c (table_of k) (table-fine k) fill h.long table-held stands

    pub held_moved : Held u w
    held_moved = record {
      long = long;
      kind = ap (λ (n : ℕ). eqb n 0) same_kind ∙ h.kind;
      alive = ap (λ (n : ℕ). ltb n 16) same_kind ∙ h.alive;
      good =
          table-good u w ∙ ap (λ (n : ℕ). cond (ltb n 16) (leb n 14 && good (table_of n) u w) (leb 17 n && leb n 30)) same_kind
          ∙ ap (λ (b : Bool). cond b (leb k 14 && good (table_of k) u w) (leb 17 k && leb k 30)) h.alive
          ∙ both (and_left (leb k 14) (good (table_of k) t r) tests) table-good-moved;
    }

    abbrev Shows : List Row → Type 0
    Shows xs = fields_of xs (t ++ z) r ≡ fields_of xs (u ++ y) w

    shows : Shows (table_of k)
    unfolding moved_to texts_of
    shows = sym (moved-shown t z u y r c (table_of k) (table-fine k) fill h.long table-held stands)

    at-kind : (n : ℕ) → eqb k n ≡ true → Shows (table_of n)
    at-kind n e = subst (λ (j : ℕ). Shows (table_of j)) (eqb-true k n e) shows

    at_table : {xs : List Row} → table_of k ≡ xs → Shows xs
    at_table e = subst Shows e shows

    -- a failure's or error's fields without the flaky bit
    abbrev bare : Fields Text main → Fields Text skipped
    bare f = (f.0, (f.1.0, (f.1.1.0, (f.1.1.1.0, (f.1.1.1.1.0, tt)))))

    shows-main : is_main r ≡ true → Shows skipped
    shows-main e = go (leb k 7) refl
      where
        least : 6 ≤ k
        least = leb-true 6 k (and_left (leb 6 k) (leb k 8) e)

        most : k ≤ 8
        most = leb-true k 8 (and_right (leb 6 k) (leb k 8) e)

        go : (b : Bool) → leb k 7 ≡ b → Shows skipped
        go true q = ap bare (at_table (table-main k least (leb-true k 7 q)))
        go false q = let n : k ≡ 8 = let a = leb-false k 7 q in let b = most in omega arith in subst (λ (j : ℕ). Shows (table_of j)) n shows

    shows-run : is_run r ≡ true → Shows run
    shows-run e =
        let least = leb-true 9 k (and_left (leb 9 k) (leb k 12) e) in
        let most = leb-true k 12 (and_right (leb 9 k) (leb k 12) e) in
        at_table (table-run k (omega arith) least most)

    pub alike_moved : Alike (t ++ z) (u ++ y) r w
    alike_moved = record {
      like = record { kind = sym same_kind; flaky = ap (λ (b : ℕ). eqb (b / 512 % 2) 1) (sym (front 1 (lit≤ tt))) };
      suite = at-kind 2;
      case = at-kind 3;
      main = shows-main;
      run = shows-run;
      suite_property = at-kind 4;
      case_property = at-kind 5;
      suite_extra = at-kind 13;
      case_extra = at-kind 14;
    }

-- ---- records one behind the other
pub all-clean : (t z : List ℕ) → Clean t → {rs : List (List ℕ)} → Each (Held t) rs → Clean (texts_in (t ++ z) rs)
all-clean t z c done = (refl, refl)
all-clean t z c (more {x = r} {xs = rs} h hs) = clean-both (texts_of (t ++ z) r) (texts_in (t ++ z) rs) (clean-texts t r h z c) (all-clean t z c hs)

module _ (t z u y : List ℕ) (c : Clean t) where
  pub all_held : (fill : ℕ) {rs : List (List ℕ)} → Each (Held t) rs → Stands u fill (texts_in (t ++ z) rs) → Each (Held u) (moved_from (t ++ z) fill rs)
  all_held fill done s = done
  all_held fill (more {x = r} {xs = rs} h hs) s =
      more (held_moved t r h z u y c fill (stands-first (texts_of (t ++ z) r) (texts_in (t ++ z) rs) s (all-clean t z c hs)))
      (all_held (fill + length (texts_of (t ++ z) r)) hs (stands-rest (texts_of (t ++ z) r) (texts_in (t ++ z) rs) s))

  pub all_alike : (fill : ℕ) {rs : List (List ℕ)} → Each (Held t) rs → Stands u fill (texts_in (t ++ z) rs) → Pairs (Alike (t ++ z) (u ++ y)) rs (moved_from (t ++ z) fill rs)
  all_alike fill done s = ended
  all_alike fill (more {x = r} {xs = rs} h hs) s =
      next (alike_moved t r h z u y c fill (stands-first (texts_of (t ++ z) r) (texts_in (t ++ z) rs) s (all-clean t z c hs)))
      (all_alike (fill + length (texts_of (t ++ z) r)) hs (stands-rest (texts_of (t ++ z) r) (texts_in (t ++ z) rs) s))

-- what a layout asks of each record, and that each is whole
pub held-good : {u : List ℕ} {rs : List (List ℕ)} → Each (Held u) rs → all_good u rs ≡ true
held-good done = refl
held-good (more h hs) = both h.good (held-good hs)

pub held_whole : {u : List ℕ} {rs : List (List ℕ)} → Each (Held u) rs → Each Whole rs
held_whole done = done
held_whole (more h hs) = more (h.long, h.kind) (held_whole hs)
