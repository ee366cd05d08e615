use Rattle.port_c.specs.Answers.{port_explained}
use Rattle.port_values.specs.of_port_refusal.declared.KRefusal.{KRefusal}
use Rattle.explain.specs.Answer.{explained_from}
use Rattle.explain.specs.of_explain_text.Explanation.{explained, explanation_in}
use Rattle.case_tags.specs.of_refusal.declared.Refusal.{Refusal}
use mathlib.Core.Path.{ap, ◌∙◌}
use lib.ListN.{length}
use Rattle.port_c.proofs.tables.kerzhoma_explain.Goals as goal

pub returns : goal.returns
returns c =
    let a = c.args in
    let x = c.explain-answer in
    let n = length a.out.now in
    let same = c.to_refusal.ensures in record {
      value = ap (λ (k : KRefusal). record { length = x.result.length; refusal = k }) c.from_refusal.ensures
          ∙ ap port_explained (x.ensures.value ∙ ap (λ (q : Refusal). explained_from (explained a.events.now a.attributes.now a.source.now q a.lent n)) same);
      out_after = x.ensures.out_after ∙ ap (λ (q : Refusal). explanation_in a.events.now a.attributes.now a.source.now q a.lent n) same;
    }
