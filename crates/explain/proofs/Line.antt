-- The line, by the parts in which it is put. Assumes nothing.
use Prim.Native.Nat.{ℕ}
use mathlib.Core.Path.{◌≡◌, ap}
use mathlib.Core.List.{List, ◌++◌}
use Rattle.explain_sentence.specs.of_refusal.Refusal.{number}
use Rattle.explain_sentence.specs.of_refusal.declared.Refusal.{Refusal}
use Rattle.explain_sentence.specs.of_names.Bytes.{bytes}
use Rattle.explain_sentence.specs.of_digits.Digits.{decimal}
use Rattle.explain_sentence.specs.of_explain_text.Sentences.{sentence}
use Rattle.explain_sentence.specs.of_explain_text.Explanation.{place_text, path_text, line_of}

pub line-parts : (events attributes source : List ℕ) (r : Refusal) (lent : ℕ) {n : ℕ} → n ≡ number r.cause
    → bytes "refused " ++ (decimal n ++ (path_text events attributes source r.path ++ (bytes ": " ++ (sentence r.cause lent ++ (place_text r.event r.attribute ++ bytes "\n")))))
    ≡ line_of events attributes source r lent
unfolding line_of
line-parts events attributes source r lent e =
    ap (λ (m : ℕ).
    bytes "refused " ++ (decimal m ++ (path_text events attributes source r.path ++ (bytes ": " ++ (sentence r.cause lent ++ (place_text r.event r.attribute ++ bytes "\n")))))) e
