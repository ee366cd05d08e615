-- A text stored behind the texts of a draft, against the definition. Assumes nothing.
use Prim.Native.Nat.{ℕ, ◌+◌, ◌-◌, ◌≤◌, ◌<◌}
use mathlib.Core.Path.{◌≡◌, refl, sym, ap, ◌∙◌}
use mathlib.Core.Bool.{Bool, true, false, not, ◌||◌}
use mathlib.Core.List.{List, ◌++◌, append_assoc}
use native.Mathlib.Omega.{arith}
use lib.Dec.{leb}
use lib.ListN.{length, take, drop, take-append-drop}
use lib.Seq.{drop-append-le, drop-drop}
use borrow.Author.Tests.{le-leb, lt-leb, leb-true, not-true, not-false}
use borrow.Rule.Slice.PartMut.{put_mid}
use Rattle.std.specs.Prelude.{Option, Some, None, Ok, Err}
use Rattle.build_draft.specs.of_area.Area.{stored_answer, placing, laid}
use Rattle.build_draft.proofs.of_area.Laying.{laid-fits, put-fits, full-over}
use Rattle.build_draft.proofs.of_area.Parts.{length_part}
use Rattle.build_draft.specs.of_utf8.Utf8.{utf8}
use Rattle.build_draft.specs.of_refusal.Refusal.{Outcome, accepted}
use Rattle.build_draft.specs.of_refusal.declared.Cause.{Cause}
use Rattle.build_draft.specs.of_refusal.declared.Cause.TheVariants as cause
use Rattle.build_draft.specs.declared.Builder.{Builder}
use Rattle.build_draft.specs.Draft.{Draft, draft_of, asks, bytes_for}
use Rattle.build_draft.specs.Parts.{text_for, put_at, keeping}
use Rattle.build_draft.proofs.Steps.{plain}

abbrev pub with_bytes : ℕ → Builder → Builder
with_bytes n b = record { records = b.records; bytes = n; report = b.report; suite = b.suite; case = b.case; main = b.main }

-- ---- what the code came to
module _ (b : Builder) (text s : List ℕ) (lossy : Bool) where
  abbrev stored : List ℕ
  stored = text_for lossy s

  pub kept-foul : {t : Bool} → t ≡ not (lossy || utf8 s) → t ≡ true → (words text' : List ℕ) → draft_of (Err cause.NotUtf8) words text' ≡ keeping lossy s (plain b words text)
  unfolding keeping asks draft_of
  kept-foul e h words text' = rw (not-true (lossy || utf8 s) (sym e ∙ h)) refl

  module _ {t : Bool} (e : t ≡ not (lossy || utf8 s)) (h : t ≡ false) where
    passed : (lossy || utf8 s) ≡ true
    passed = not-false (lossy || utf8 s) (sym e ∙ h)

    full : bytes_for text < b.bytes + length stored → (words text' : List ℕ) → draft_of (Err cause.TextFull) words text' ≡ keeping lossy s (plain b words text)
    unfolding keeping asks draft_of
    full f words text' = rw (passed, lt-leb (b.bytes + length stored) (bytes_for text) f) refl

    -- the texts that are there end behind what may be used
    pub kept-behind : {m : ℕ} → m ≡ bytes_for text → m < b.bytes → (words text' : List ℕ) → draft_of (Err cause.TextFull) words text' ≡ keeping lossy s (plain b words text)
    kept-behind {m} q f = full (omega arith)

    module _ {m : ℕ} (q : m ≡ bytes_for text) (f : b.bytes ≤ m) where
      inside : m ≤ length text
      inside = omega arith

      pub kept_full : {p : Option ℕ} → p ≡ None → stored_answer cause.TextFull p ≡ placing cause.TextFull (length (take (m - b.bytes) (drop b.bytes text))) stored
          → (words text' : List ℕ) → draft_of (Err cause.TextFull) words text' ≡ keeping lossy s (plain b words text)
      kept_full {p} g a =
          let o = full-over cause.TextFull (length (take (m - b.bytes) (drop b.bytes text))) stored (sym (ap (stored_answer cause.TextFull) g) ∙ a) in
          let n = length_part text b.bytes m inside in full (omega arith)

      module _ {p : Option ℕ} {n : ℕ} (g : p ≡ Some n) (a : stored_answer cause.TextFull p ≡ placing cause.TextFull (length (take (m - b.bytes) (drop b.bytes text))) stored) where
        fitted : (length stored ≤ length (take (m - b.bytes) (drop b.bytes text))) × (n ≡ length stored)
        fitted = put-fits cause.TextFull (length (take (m - b.bytes) (drop b.bytes text))) stored n (sym (ap (stored_answer cause.TextFull) g) ∙ a)

        pub kept-end : b.bytes + n ≤ 16777216
        kept-end = let u = fitted.0 in let v = fitted.1 in let l = length_part text b.bytes m inside in omega arith

        back : {ys : List ℕ} → ys ≡ laid (take (m - b.bytes) (drop b.bytes text)) stored → put_mid b.bytes (m - b.bytes) text ys ≡ put_at b.bytes stored text
        back y =
            let l : List ℕ = drop b.bytes text in
            let k : ℕ = m - b.bytes in
            ap (λ (x : List ℕ). take b.bytes text ++ (x ++ drop k l)) (y ∙ laid-fits (take k l) stored fitted.0)
            ∙ ap (λ (x : List ℕ). take b.bytes text ++ x)
            (append_assoc stored (drop (length stored) (take k l)) (drop k l)
            ∙ ap (λ (x : List ℕ). stored ++ x)
            (sym (drop-append-le (length stored) (take k l) (drop k l) fitted.0) ∙ ap (drop (length stored)) (take-append-drop k l) ∙ drop-drop (length stored) b.bytes text))

        pub kept-done : {ys : List ℕ} → ys ≡ laid (take (m - b.bytes) (drop b.bytes text)) stored
            → (words : List ℕ) → draft_of (Ok (with_bytes (b.bytes + n) b)) words (put_mid b.bytes (m - b.bytes) text ys) ≡ keeping lossy s (plain b words text)
        unfolding keeping asks draft_of
        kept-done {ys} y words =
            let l = length_part text b.bytes m inside in
            let u = fitted.0 in
            rw (passed, le-leb (b.bytes + length stored) (bytes_for text) (omega arith))
            (λ i. accepted (plain (with_bytes (b.bytes + fitted.1 i) b) words (back y i)))

-- ---- what a text that was kept tells
pub record Kept (lossy : Bool) (s : List ℕ) (d e : Draft) : Type 0 where
  pub passes : (lossy || utf8 s) ≡ true
  pub fits : d.builder.bytes + length (text_for lossy s) ≤ bytes_for d.text
  pub made : e ≡ plain (with_bytes (d.builder.bytes + length (text_for lossy s)) d.builder) d.words (put_at d.builder.bytes (text_for lossy s) d.text)

-- an accepted outcome behind a demand tells that the demand was met
pub asks-passed : {A : Type 0} (t : Bool) (why : Cause) (m : Outcome A) {a : A} → accepted a ≡ asks t why m → (t ≡ true) × (accepted a ≡ m)
unfolding asks
asks-passed true why m h = (refl, h)
asks-passed false why m h = let z : ◌≡◌ {A = ℕ} 0 1 = cc in absurd (omega arith)

-- where keeping a text was accepted: the text is good and fits, and the draft is known
pub is-kept : (lossy : Bool) (s : List ℕ) (d e : Draft) → accepted e ≡ keeping lossy s d → Kept lossy s d e
unfolding keeping
is-kept lossy s d e h =
    let x : Draft = plain (with_bytes (d.builder.bytes + length (text_for lossy s)) d.builder) d.words (put_at d.builder.bytes (text_for lossy s) d.text) in
    let t : Bool = leb (d.builder.bytes + length (text_for lossy s)) (bytes_for d.text) in
    let p = asks-passed (lossy || utf8 s) cause.NotUtf8 (asks t cause.TextFull (accepted x)) h in
    let q = asks-passed t cause.TextFull (accepted x) p.1 in
    let g = q.1 in
    record {
      passes = p.0;
      fits = leb-true (d.builder.bytes + length (text_for lossy s)) (bytes_for d.text) q.0;
      made = cc;
    }
