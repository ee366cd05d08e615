-- A value's text put piece by piece. Assumes nothing.
use Prim.Native.Nat.{ℕ, ◌+◌, ◌-◌, ◌≤◌, ◌<◌}
use mathlib.Core.Path.{◌≡◌, refl, sym, ap, ◌∙◌}
use mathlib.Core.List.{List, [], ◌∷◌, ◌++◌, append_assoc}
use mathlib.Core.Bool.{Bool, true, false, not, ◌&&◌, and-eq-true_iff}
use native.Mathlib.Omega.{arith}
use borrow.Author.Tests.{ltb-true, ltb-false}
use lib.Dec.{ltb}
use lib.ListN.{length, take, drop}
use Rattle.std.specs.Prelude.{Option}
use Rattle.table_events.specs.of_names.Bytes.{bytes}
use Rattle.explain_text.specs.of_escape.Escape.{listed, escaped}
use Rattle.explain_text.proofs.of_escape.Spelling.{spelled-append}
use Rattle.explain_text.specs.of_reference.Reference.{decoded}
use Rattle.explain_text.specs.of_text.Decode.{is_value, piece_of, piece_width, cleaned, Pieced}
use Rattle.explain_text.specs.of_text.Value.{value_text}
use Rattle.explain_text.specs.of_text.declared.decode.Piece.{Piece}
use Rattle.explain_text.proofs.of_text.Pieces.{piece_moves, piece-fits, piece-next, piece-end}
use Rattle.explain_text.specs.of_list_text.inside.Behind.{Filled, filled, is_full, Puts}
use Rattle.explain_text.proofs.of_list_text.Putting.{Coming, coming-start, coming_on, coming_puts, coming-stop, other, puts_none}
use Rattle.explain_text.specs.Explanation.{text_of, bracketed}

-- the loop goes on, and there are bytes left
pub goes_on : (a : Bool) (i n : ℕ) → (a && ltb i n) ≡ true → i < n
goes_on a i n e = ltb-true i n ((and-eq-true_iff a (ltb i n)).0 e).1

-- what is to come from byte i on
abbrev rest : List ℕ → ℕ → List ℕ
rest s i = escaped (cleaned true (decoded (drop i s) 0))

-- the value s is put up to its byte i: out₀ and k₀ are the area and its mark at the start, out and k as they are
pub record Showing (s out₀ : List ℕ) (k₀ : Option ℕ) (out : List ℕ) (i : ℕ) (k : Option ℕ) : Type 0 where
  pub within : i ≤ length s
  pub same : length out ≡ length out₀
  pub coming : Coming (filled k₀ out₀) (escaped (value_text s)) (filled k out) (rest s i)

pub showing-start : (s out : List ℕ) (k : Option ℕ) → Showing s out k out 0 k
showing-start s out k = record { within = omega arith; same = refl; coming = coming-start (filled k out) (escaped (value_text s)) }

module _ {s out₀ : List ℕ} {k₀ : Option ℕ} {out : List ℕ} {i : ℕ} {k : Option ℕ} (g : Showing s out₀ k₀ out i k) where
  module _ (h : i < length s) (p : Piece) (d : Pieced (cleaned true (piece_of (take (length s - i) (drop i s)))) (piece_width (take (length s - i) (drop i s))) p) where
    pub showing_moves : 0 < p.width
    showing_moves = piece_moves true s i h p d

    pub showing-more : {out' : List ℕ} {k' : Option ℕ} → Puts (filled k out) (escaped (take p.n p.bytes)) (filled k' out') → length out' ≡ length out → Showing s out₀ k₀ out' (i + p.width) k'
    showing-more q l =
        let e : rest s i ≡ escaped (take p.n p.bytes) ++ rest s (i + p.width) =
        ap escaped (piece-next true s i h p d) ∙ spelled-append listed (take p.n p.bytes) (cleaned true (decoded (drop (i + p.width) s) 0)) in
        record { within = piece-fits true s i h p d; same = l ∙ g.same; coming = coming_puts (coming_on g.coming e) q }

  pub showing-stop : (a : Bool) → a ≡ not (is_full k) → (a && ltb i (length s)) ≡ false → Puts (filled k₀ out₀) (escaped (value_text s)) (filled k out)
  showing-stop a p e =
      coming-stop k (ltb i (length s)) g.coming (ap (λ (x : Bool). x && ltb i (length s)) (sym p) ∙ e)
      (λ z. ap escaped (piece-end true s i (ltb-false i (length s) z)))

-- ---- in brackets, where it is a value
module _ (s : List ℕ) where
  pub not-shown : is_value s ≡ false → {t : Filled} → Puts t (bracketed (text_of s)) t
  not-shown e {t} = other (puts_none t) (sym (rw e refl))

  pub shown : is_value s ≡ true → bytes "(\"" ++ (escaped (value_text s) ++ bytes "\")") ≡ bracketed (text_of s)
  shown e = sym (rw e (ap (λ (l : List ℕ). 40 ∷ 34 ∷ l) (append_assoc (escaped (value_text s)) (34 ∷ []) (41 ∷ []))))
