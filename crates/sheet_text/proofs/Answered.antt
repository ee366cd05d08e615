-- The last line by its parts; the whole answer of printing, and the area. Assumes nothing.
use Prim.Native.Nat.{ℕ}
use mathlib.Core.Path.{◌≡◌, refl, sym, ap, ◌∙◌, subst}
use mathlib.Core.Bool.{Bool, true, false, cond}
use mathlib.Core.List.{List, ◌∷◌, ◌++◌, append_assoc}
use lib.Dec.{leb}
use lib.ListN.{length, length-replicate}
use Rattle.std.specs.Prelude.{Some, None}
use Rattle.list_text.specs.of_refusal.Refusal.{Outcome, accepted, refused, late, no_refusal}
use Rattle.list_text.specs.of_refusal.declared.Refusal.{Refusal}
use Rattle.list_text.specs.of_refusal.declared.Verdict.{Verdict}
use Rattle.list_text.specs.of_refusal.declared.Verdict.TheVariants.{Accepted, Refused}
use Rattle.list_text.specs.of_refusal.declared.Cause.TheVariants as cause
use Rattle.list_text.specs.of_area.Answer.{Answer, gives, refuses}
use Rattle.list_text.specs.of_area.Area.{zeros, placing, laid}
use Rattle.list_text.specs.of_names.Bytes.{bytes}
use Rattle.list_text.specs.of_digits.Digits.{decimal}
use Rattle.list_text.specs.Listing.{outcome_of, output_for}
use Rattle.list_text.specs.inside.Behind.{Filled, filled, behind, Puts}
use Rattle.list_text.proofs.Answering.{from_start}
use Rattle.sheet_sums.specs.declared.Sheet.{Sheet}
use Rattle.sheet_sums.specs.declared.Released.{Released}
use Rattle.sheet_sums.specs.Sheet.{sum_of, sheet_of, release_sheet, released_from}
use Rattle.sheet_sums.specs.of_tree_counts.declared.Counts.{Counts}
use Rattle.sheet_sums.specs.of_tree_counts.Counts.{are_counts}
use Rattle.sheet_text.specs.declared.Printed.{Printed}
use Rattle.sheet_text.specs.Printed.{line, or_missing, share, sheet_text, printing, sheet_area, said_by, outcome_in, printed_from}

-- the two numbers of the last line are put by themselves
pub share-parts : (passed tests : ℕ) → bytes "(passed " ++ (decimal passed ++ line (bytes " ") (decimal tests)) ≡ line (bytes "(passed ") (share passed tests)
share-parts passed tests = ap (λ (x : List ℕ). bytes "(passed " ++ x) (sym (append_assoc (decimal passed) (32 ∷ decimal tests) (bytes ")\n")))

-- the six lines one behind the other
pub sheet-parts : (s : Sheet) → line (bytes "(tests ") (decimal s.sums.tests) ++ (line (bytes "(failures ") (decimal s.sums.failures)
    ++ (line (bytes "(errors ") (decimal s.sums.errors) ++ (line (bytes "(skipped ") (decimal s.sums.skipped)
    ++ (line (bytes "(disabled ") (or_missing s.sums.presence s.sums.disabled) ++ line (bytes "(passed ") (share s.passed s.sums.tests))))) ≡ sheet_text s
unfolding sheet_text
sheet-parts s = refl

-- what is printed of o into an area of n bytes
abbrev Prints : ℕ → Outcome Sheet → Printed → List ℕ → Type 0
Prints n o x out = (x ≡ printed_from (printing o n)) × (out ≡ sheet_area o n)

by-verdict : (n : ℕ) (r : Released) {x : Printed} {out : List ℕ} (v : Verdict) → r.verdict ≡ v → Prints n (said_by v r.sheet r.refusal.cause) x out → Prints n (outcome_in r) x out
by-verdict n r {x} {out} v e h = subst (λ (w : Verdict). Prints n (said_by w r.sheet r.refusal.cause) x out) (sym e) h

module _ (n : ℕ) (r : Released) where
  -- there is no sheet
  pub no-sheet : {x : Printed} {out : List ℕ} → r.verdict ≡ Refused → x ≡ printed_from (refused (late r.refusal.cause)) → out ≡ zeros n
      → (x ≡ printed_from (printing (outcome_in r) n)) × (out ≡ sheet_area (outcome_in r) n)
  unfolding printing sheet_area
  no-sheet v e z = by-verdict n r Refused v (e, z)

  abbrev f : List ℕ
  f = sheet_text r.sheet

  module _ {out : List ℕ} {t : Filled} (z : out ≡ zeros n) (p : Puts (filled (Some 0) out) f t) where
    left_behind : t ≡ (placing cause.OutputFull n f, laid (zeros n) f)
    left_behind =
        p.same ∙ ap (λ (x : List ℕ). behind (gives 0, x) f) z ∙ from_start (zeros n) f
        ∙ ap (λ (m : ℕ). (placing cause.OutputFull m f, laid (zeros n) f)) (length-replicate {A = ℕ} n 0)

  -- it was put
  pub whole-sheet : {out out' : List ℕ} {m : ℕ} {q : Refusal} → r.verdict ≡ Accepted → q ≡ no_refusal → out ≡ zeros n → Puts (filled (Some 0) out) f (filled (Some m) out')
      → (◌≡◌ {A = Printed} (record { verdict = Accepted; length = m; refusal = q }) (printed_from (printing (outcome_in r) n))) × (out' ≡ sheet_area (outcome_in r) n)
  unfolding printing sheet_area
  whole-sheet {m = m} {q = q} v e z p =
      let l = left_behind z p in
      let a : gives m ≡ placing cause.OutputFull n f = ap (λ (x : Filled). x.0) l in
      by-verdict n r Accepted v (told e ∙ ap (λ (x : Answer ℕ). printed_from (outcome_of x)) a, ap (λ (x : Filled). x.1) l ∙ ap (λ (x : Answer ℕ). output_for x n f) a)
    where
      told : q ≡ no_refusal → ◌≡◌ {A = Printed} (record { verdict = Accepted; length = m; refusal = q }) (printed_from (outcome_of (gives m)))
      told e = rw e refl

  -- it didn't fit
  pub short-sheet : {out out' out'' : List ℕ} {x : Printed} → r.verdict ≡ Accepted → x ≡ printed_from (refused (late cause.OutputFull)) → out ≡ zeros n
      → Puts (filled (Some 0) out) f (filled None out') → out'' ≡ zeros n → (x ≡ printed_from (printing (outcome_in r) n)) × (out'' ≡ sheet_area (outcome_in r) n)
  unfolding printing sheet_area
  short-sheet v e z p y =
      let l = left_behind z p in
      let a : refuses cause.OutputFull ≡ placing cause.OutputFull n f = ap (λ (x : Filled). x.0) l in
      by-verdict n r Accepted v (e ∙ ap (λ (x : Answer ℕ). printed_from (outcome_of x)) a, y ∙ ap (λ (x : Answer ℕ). output_for x n f) a)

-- the answer of release_sheet says what the list comes to
pub released-said : (cs : List Counts) → outcome_in (released_from (release_sheet cs)) ≡ release_sheet cs
unfolding release_sheet
released-said cs = go (leb (length cs) 4096) (are_counts (sum_of cs))
  where
    go : (a b : Bool) → let o = cond a (cond b (accepted (sheet_of (sum_of cs))) (refused (late cause.CountLimit))) (refused (late cause.TooManyReports)) in outcome_in (released_from o) ≡ o
    go true true = refl
    go true false = refl
    go false b = refl
