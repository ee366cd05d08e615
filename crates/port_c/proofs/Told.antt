-- What tokenizing and explaining a document answer, by their cases. Assumes nothing.
use Prim.Native.Nat.{ℕ}
use mathlib.Core.Path.{◌≡◌, refl, sym, ap, ◌∙◌}
use mathlib.Core.List.{List}
use Rattle.std.specs.Prelude.{Option, Some, None}
use Rattle.case_tags.specs.of_refusal.declared.Cause.TheVariants as cause
use Rattle.case_tags.specs.of_area.Answer.{Answer}
use Rattle.case_tags.specs.of_area.Area.{stored_answer}
use Rattle.explain.specs.of_time_text.Written.{count}
use Rattle.xml_call.specs.of_xml_machine.Tokens.{done-with, refused, Result}
use Rattle.xml_call.specs.of_xml_state.declared.Tokenized.{Tokenized}
use Rattle.xml_call.specs.of_xml_state.declared.Tokenized.TheVariants.{Table, Refused}
use Rattle.xml_call.specs.of_xml_state.Answer.{told}
use Rattle.port_c.specs.declared.documents.KTokenized.{KTokenized}
use Rattle.port_c.specs.Documents.{tokenized_port}

module _ {r : Result} (s : Result) (e : r ≡ s) where
  -- the answer and the two areas
  pub told-port : (x : KTokenized) → x ≡ tokenized_port r.answer → (x ≡ tokenized_port s.answer) × ((r.events ≡ s.events) × (r.attributes ≡ s.attributes))
  told-port x h = (h ∙ ap (λ (q : Result). tokenized_port q.answer) e, (ap (λ (q : Result). q.events) e, ap (λ (q : Result). q.attributes) e))

pub port-table : (t : Tokenized) (n k : ℕ) → t ≡ Table n k → tokenized_port (done-with n k) ≡ tokenized_port (told t)
port-table t n k e = ap (λ (q : Tokenized). tokenized_port (told q)) (sym e)

pub port-refused : (t : Tokenized) (number byte : ℕ) → t ≡ Refused number byte → tokenized_port (refused number byte) ≡ tokenized_port (told t)
port-refused t number byte e = ap (λ (q : Tokenized). tokenized_port (told q)) (sym e)

module _ (s : Option ℕ) {a : Answer ℕ} (e : stored_answer cause.OutputFull s ≡ a) where
  pub count-put : (n : ℕ) → s ≡ Some n → n ≡ count a
  count-put n p = ap (λ (x : Option ℕ). count (stored_answer cause.OutputFull x)) (sym p) ∙ ap count e

  pub count-full : s ≡ None → 0 ≡ count a
  count-full p = ap (λ (x : Option ℕ). count (stored_answer cause.OutputFull x)) (sym p) ∙ ap count e
