-- A loop along the records that puts what is shown of them. Assumes nothing.
use Prim.Native.Nat.{ℕ, ◌+◌, ◌-◌, ◌≤◌}
use mathlib.Core.Path.{◌≡◌, refl, sym, ap, ◌∙◌}
use mathlib.Core.List.{List, [], ◌∷◌, ◌++◌}
use mathlib.Core.Bool.{Bool, true, false, not, ◌&&◌, and-eq-true_iff}
use native.Mathlib.Omega.{arith}
use lib.ListN.{length, take, drop}
use Rattle.std.specs.Prelude.{Option}
use Rattle.list_status.specs.of_list_text.inside.Behind.{Filled, filled, is_full, Puts}
use Rattle.list_status.proofs.of_list_text.Putting.{Coming, coming-start, coming_on, coming_puts, coming-done, coming-stop, other, puts_none}
use Rattle.list_status.specs.of_list_sums.inside.Rows.{stands, records_in}
use Rattle.list_status.proofs.of_list_sums.Records.{stands-room, records-here, records-over}

-- the loop goes on, and a record stands there
pub goes_on : (a b : Bool) {x : Bool} → (a && b) ≡ true → b ≡ x → x ≡ true
goes_on a b e f = sym f ∙ ((and-eq-true_iff a b).0 e).1

module _ (shown : List (List ℕ) → List ℕ) where
  -- the records before `at` are shown: out₀ and k₀ are the area and its mark at the start, out and k as they are
  pub record Going (out₀ words : List ℕ) (k₀ : Option ℕ) (out : List ℕ) (at : ℕ) (k : Option ℕ) : Type 0 where
    pub fits : at ≤ length words
    pub same : length out ≡ length out₀
    pub coming : Coming (filled k₀ out₀) (shown (records_in words)) (filled k out) (shown (records_in (drop at words)))

  -- before the first record everything is to come
  pub going_start : (out words : List ℕ) (k : Option ℕ) → Going out words k out 0 k
  going_start out words k = record { fits = omega arith; same = refl; coming = coming-start (filled k out) (shown (records_in words)) }

  module _ {out₀ words : List ℕ} {k₀ : Option ℕ} {out : List ℕ} {at : ℕ} {k : Option ℕ} (g : Going out₀ words k₀ out at k) where
    -- the loop's condition failed: output is full or no record is left, and either way all was put
    pub going-stop : (a b : Bool) → shown [] ≡ [] → (a && b) ≡ false → a ≡ not (is_full k)
        → b ≡ stands (take (length words - at) (drop at words)) → Puts (filled k₀ out₀) (shown (records_in words)) (filled k out)
    going-stop a b none e p q =
        coming-stop k (stands (take (length words - at) (drop at words))) g.coming
        (ap (λ (x : Bool). x && stands (take (length words - at) (drop at words))) (sym p) ∙ ap (λ (x : Bool). a && x) (sym q) ∙ e)
        (λ z. ap shown (records-over words at z) ∙ none)

    module _ (s : stands (take (length words - at) (drop at words)) ≡ true) where
      abbrev here : List ℕ
      here = take (at + 32 - at) (drop at words)

      abbrev rest : List (List ℕ)
      rest = records_in (drop (at + 32) words)

      next : shown (records_in (drop at words)) ≡ shown (here ∷ rest)
      next = ap shown (records-here words at s)

      -- the loop was left at a record from which on nothing is shown: all was put
      pub going_end : shown (here ∷ rest) ≡ [] → Puts (filled k₀ out₀) (shown (records_in words)) (filled k out)
      going_end e = coming-done (coming_on g.coming (next ∙ e))

      -- a record of which nothing is shown is passed over
      pub going-pass : shown (here ∷ rest) ≡ shown rest → Going out₀ words k₀ out (at + 32) k
      going-pass e = record { fits = stands-room words at s; same = g.same; coming = coming_on g.coming (next ∙ e) }

      -- a record of which f is shown, and a call that put f: the loop stands one record further
      pub going-puts : {out' : List ℕ} {k' : Option ℕ} (f : List ℕ) → shown (here ∷ rest) ≡ f ++ shown rest
          → Puts (filled k out) f (filled k' out') → length out' ≡ length out → Going out₀ words k₀ out' (at + 32) k'
      going-puts f e p l = record { fits = stands-room words at s; same = l ∙ g.same; coming = coming_puts (coming_on g.coming (next ∙ e)) p }

  -- ---- a loop that looks for the record whose text is the whole
  pub record Seeking (out₀ words out : List ℕ) (at : ℕ) : Type 0 where
    pub fits : at ≤ length words
    pub same : out ≡ out₀
    pub left : shown (records_in (drop at words)) ≡ shown (records_in words)

  -- before the first record the text looked for is that of all records
  pub seeking-start : (out words : List ℕ) → Seeking out words out 0
  seeking-start out words = record { fits = omega arith; same = refl; left = refl }

  module _ {out₀ words out : List ℕ} {at : ℕ} (g : Seeking out₀ words out at) where
    module _ (s : stands (take (length words - at) (drop at words)) ≡ true) where
      -- a record without the text is passed over
      pub seeking-pass : shown (take (at + 32 - at) (drop at words) ∷ records_in (drop (at + 32) words)) ≡ shown (records_in (drop (at + 32) words)) → Seeking out₀ words out (at + 32)
      seeking-pass e = record { fits = stands-room words at s; same = g.same; left = sym e ∙ ap shown (sym (records-here words at s)) ∙ g.left }

      -- the record has the text, and a call that puts it has put what is shown of all records
      pub seeking-found : {f : List ℕ} (k : Option ℕ) {t : Filled} → shown (take (at + 32 - at) (drop at words) ∷ records_in (drop (at + 32) words)) ≡ f
          → Puts (filled k out) f t → Puts (filled k out₀) (shown (records_in words)) t
      seeking-found k e p = rw (sym g.same) (other p (sym e ∙ ap shown (sym (records-here words at s)) ∙ g.left))

    -- no record is left: nothing is shown, and the area is as it was
    pub seeking-none : (k : Option ℕ) → shown [] ≡ [] → stands (take (length words - at) (drop at words)) ≡ false → Puts (filled k out₀) (shown (records_in words)) (filled k out)
    seeking-none k none e = rw (sym g.same) (other (puts_none (filled k out)) (sym none ∙ ap shown (sym (records-over words at e)) ∙ g.left))
