-- The explanation of a refusal is one line, whatever the refusal and the table hold: its first newline is its last byte. Assumes nothing.
use Prim.Native.Nat.{ℕ, zero, suc, ◌+◌, ◌/◌, ◌%◌}
use mathlib.Core.Path.{◌≡◌, refl, ap, ◌∙◌}
use mathlib.Core.List.{List, [], ◌∷◌, ◌++◌}
use mathlib.Core.Bool.{Bool, true, false, cond, not, ◌&&◌, and-eq-true_iff}
use mathlib.Core.Option.{Option, none, some}
use native.Mathlib.Omega.{arith}
use borrow.Author.Tests.{ne_eqb, not-true}
use lib.Dec.{leb, eqb}
use lib.ListN.{length}
use Rattle.text.specs.of_refusal.Refusal.{nowhere, number}
use Rattle.text.specs.of_refusal.declared.Cause.{Cause}
use Rattle.text.specs.of_refusal.declared.Cause.TheVariants.{XmlFault, EofInSkip, NotUtf8, BadInteger, BadTimestamp, BadTime, BadUuid, MissingAttribute, MissingReport, EofInElement, StatusRule}
use Rattle.text.specs.of_refusal.declared.Cause.TheVariants.{UnknownEntity, FaultyAttribute, RepeatedKey, BadReference, BadTable, RecordsSpent}
use Rattle.text.specs.of_refusal.declared.Cause.TheVariants.{TextFull, ScratchFull, NotLayout, OutputFull, CountLimit, TooManyCases, NoSuchReport}
use Rattle.text.specs.of_refusal.declared.Cause.TheVariants.{TooManyReports, TimeLimit}
use Rattle.text.specs.of_refusal.declared.PathElement.{PathElement}
use Rattle.text.specs.of_refusal.declared.Refusal.{Refusal}
use Rattle.text.specs.of_area.Area.{first_at}
use Rattle.text.specs.of_area.Limits.{most_words, most_bytes}
use Rattle.text.specs.of_names.Bytes.{bytes}
use Rattle.text.specs.of_names.Keys.{keys}
use Rattle.text.specs.of_digits.Digits.{last_digits_of, places, decimal}
use Rattle.list_text.specs.of_escape.Escape.{marked, letter, listed, escaped}
use Rattle.explain_text.specs.Sentences.{sentence}
use Rattle.explain_text.specs.Explanation.{kind_names, attribute_names, named, attribute, has_name, has_index, index_text, bracketed, attribute_text}
use Rattle.explain_text.specs.Explanation.{elements_of, attribute_shown, place_text, name_at, name_text, element_text, elements_text, path_text, line_of}

-- ---- texts without a newline
abbrev flat : List ℕ → Bool
flat [] = true
flat (b ∷ s) = not (eqb b 10) && flat s

join : (s t : List ℕ) → flat s ≡ true → flat t ≡ true → flat (s ++ t) ≡ true
join [] t p q = q
join (b ∷ s) t p q =
    let h = (and-eq-true_iff (not (eqb b 10)) (flat s)).0 p in
    (and-eq-true_iff (not (eqb b 10)) (flat (s ++ t))).1 (h.0, join s t h.1 q)

choose : (t : Bool) (s : List ℕ) → flat s ≡ true → flat (cond t s []) ≡ true
choose true s p = p
choose false s p = refl

choose-not : (t : Bool) (s : List ℕ) → flat s ≡ true → flat (cond t [] s) ≡ true
choose-not true s p = refl
choose-not false s p = p

-- ---- a text that ends with its first newline
abbrev Ended : List ℕ → Type 0
Ended l = suc (first_at 10 l) ≡ length l

before : (s l : List ℕ) → flat s ≡ true → Ended l → Ended (s ++ l)
before [] l p e = e
before (b ∷ s) l p e =
    let h = (and-eq-true_iff (not (eqb b 10)) (flat s)).0 p in
    ap (λ (t : Bool). suc (cond t 0 (suc (first_at 10 (s ++ l))))) (not-true (eqb b 10) h.0) ∙ ap suc (before s l h.1 e)

-- ---- the parts
flat-digits : (k n : ℕ) → flat (last_digits_of k n) ≡ true
flat-digits zero n = refl
flat-digits (suc k) n = join (last_digits_of k (n / 10)) ((0x30 + n % 10) ∷ []) (flat-digits k (n / 10)) (rw (ne_eqb (0x30 + n % 10) 10 (λ e. omega arith)) refl)

flat-decimal : (n : ℕ) → flat (decimal n) ≡ true
unfolding decimal
flat-decimal n = flat-digits (places n) n

letter-flat : (b : ℕ) → eqb (letter b) 10 ≡ false
unfolding letter
letter-flat b = go (eqb b 10) (eqb b 9) (eqb b 13) refl
  where
    go : (s t u : Bool) → eqb b 10 ≡ s → eqb (cond s 110 (cond t 116 (cond u 114 b))) 10 ≡ false
    go true t u p = refl
    go false true u p = refl
    go false false true p = refl
    go false false false p = p

flat-listed : (b : ℕ) → flat (listed b) ≡ true
unfolding listed
flat-listed b = go (marked b)
  where
    go : (t : Bool) → flat (cond t (92 ∷ letter b ∷ []) (letter b ∷ [])) ≡ true
    go true = rw (letter-flat b) refl
    go false = rw (letter-flat b) refl

flat-escaped : (s : List ℕ) → flat (escaped s) ≡ true
flat-escaped [] = refl
flat-escaped (b ∷ s) = join (listed b) (escaped s) (flat-listed b) (flat-escaped s)

flat-within : (b : Bool) (s t : List ℕ) → flat s ≡ true → flat t ≡ true → flat (cond b t s) ≡ true
flat-within true s t p q = q
flat-within false s t p q = p

flat-sentence : (c : Cause) (lent : ℕ) → flat (sentence c lent) ≡ true
unfolding sentence
flat-sentence XmlFault lent = refl
flat-sentence EofInSkip lent = refl
flat-sentence NotUtf8 lent = refl
flat-sentence BadInteger lent = refl
flat-sentence BadTimestamp lent = refl
flat-sentence BadTime lent = refl
flat-sentence BadUuid lent = refl
flat-sentence MissingAttribute lent = refl
flat-sentence MissingReport lent = refl
flat-sentence EofInElement lent = refl
flat-sentence StatusRule lent = refl
flat-sentence UnknownEntity lent = refl
flat-sentence FaultyAttribute lent = refl
flat-sentence RepeatedKey lent = refl
flat-sentence BadReference lent = refl
flat-sentence BadTable lent = refl
flat-sentence RecordsSpent lent = flat-within (leb most_words lent) _ _ refl refl
flat-sentence TextFull lent = flat-within (leb most_bytes lent) _ _ refl refl
flat-sentence ScratchFull lent = flat-within (leb most_bytes lent) _ _ refl refl
flat-sentence NotLayout lent = refl
flat-sentence OutputFull lent = flat-within (leb most_bytes lent) _ _ refl refl
flat-sentence CountLimit lent = refl
flat-sentence TooManyCases lent = refl
flat-sentence NoSuchReport lent = refl
flat-sentence TooManyReports lent = refl
flat-sentence TimeLimit lent = refl

abbrev all_flat : List (List ℕ) → Bool
all_flat [] = true
all_flat (s ∷ ss) = flat s && all_flat ss

flat-named : (names : List (List ℕ)) (k : ℕ) → all_flat names ≡ true → flat (named names k) ≡ true
flat-named [] k p = refl
flat-named (s ∷ ss) zero p = ((and-eq-true_iff (flat s) (all_flat ss)).0 p).0
flat-named (s ∷ ss) (suc k) p = flat-named ss k ((and-eq-true_iff (flat s) (all_flat ss)).0 p).1

flat-kind : (k : ℕ) → flat (named kind_names k) ≡ true
unfolding kind_names
flat-kind k = flat-named kind_names k refl

flat-attribute : (kind index : ℕ) → flat (attribute_text kind index) ≡ true
unfolding attribute_names keys
flat-attribute kind index = choose (eqb kind attribute) (named attribute_names index) (flat-named attribute_names index refl)

flat-index : (kind index : ℕ) → flat (index_text kind index) ≡ true
unfolding index_text
flat-index kind index =
    choose (has_index kind) (bytes "[" ++ (decimal index ++ bytes "]")) (join (bytes "[") (decimal index ++ bytes "]") refl (join (decimal index) (bytes "]") (flat-decimal index) refl))

flat-bracketed : (name : Option (List ℕ)) → flat (bracketed name) ≡ true
flat-bracketed none = refl
flat-bracketed (some s) = join (34 ∷ (escaped s ++ (34 ∷ []))) (bytes ")") (join (escaped s) (34 ∷ []) (flat-escaped s) refl) refl

flat-place : (event a : ℕ) → flat (place_text event a) ≡ true
unfolding place_text
flat-place event a =
    choose-not (eqb event nowhere) (bytes " (event " ++ (decimal event ++ (attribute_shown a ++ bytes ")")))
    (join (decimal event) (attribute_shown a ++ bytes ")") (flat-decimal event)
    (join (attribute_shown a) (bytes ")") (choose-not (eqb a nowhere) (bytes ", attribute " ++ decimal a) (flat-decimal a)) refl))

-- ---- the line
module _ (events attributes source : List ℕ) where
  flat-element : (e : PathElement) → flat (element_text events attributes source e) ≡ true
  unfolding element_text
  flat-element e =
      join (named kind_names e.kind) (index_text e.kind e.index ++ (name_text events attributes source e.kind e.event ++ attribute_text e.kind e.index)) (flat-kind e.kind)
      (join (index_text e.kind e.index) (name_text events attributes source e.kind e.event ++ attribute_text e.kind e.index) (flat-index e.kind e.index)
      (join (name_text events attributes source e.kind e.event) (attribute_text e.kind e.index)
      (choose (has_name e.kind) (bracketed (name_at events attributes source e.event)) (flat-bracketed (name_at events attributes source e.event))) (flat-attribute e.kind e.index)))

  flat-elements : (mark : List ℕ) (es : List PathElement) → flat mark ≡ true → flat (elements_text events attributes source mark es) ≡ true
  unfolding elements_text
  flat-elements mark [] p = refl
  flat-elements mark (e ∷ es) p =
      join mark (element_text events attributes source e ++ elements_text events attributes source (bytes "/") es) p
      (join (element_text events attributes source e) (elements_text events attributes source (bytes "/") es) (flat-element e) (flat-elements (bytes "/") es refl))

  pub one_line : (r : Refusal) (lent : ℕ) → suc (first_at 10 (line_of events attributes source r lent)) ≡ length (line_of events attributes source r lent)
  unfolding line_of path_text
  one_line r lent =
      let path = path_text events attributes source r.path in
      let said = sentence r.cause lent ++ (place_text r.event r.attribute ++ bytes "\n") in
      before (bytes "refused ") (decimal (number r.cause) ++ (path ++ (bytes ": " ++ said))) refl
      (before (decimal (number r.cause)) (path ++ (bytes ": " ++ said)) (flat-decimal (number r.cause))
      (before path (bytes ": " ++ said) (flat-elements (bytes " at ") (elements_of r.path) refl)
      (before (bytes ": ") said refl
      (before (sentence r.cause lent) (place_text r.event r.attribute ++ bytes "\n") (flat-sentence r.cause lent)
      (before (place_text r.event r.attribute) (bytes "\n") (flat-place r.event r.attribute) refl)))))
