use mathlib.Core.Path.{ap, ◌∙◌}
use Rattle.tokenizer.specs.of_area.Area.{zeros}
use lib.ListN.{length}
use Rattle.xml_listing.specs.XmlListing.{lent}
use Rattle.xml_call.proofs.Calls.{listed}
use Rattle.xml_call.proofs.list_xml.Goals as goal

pub returns : goal.returns
returns c =
    let a = c.args in
    let t = c.tokenize-told in
    let l = c.list_tokens-n.ensures in
    let w = c.clear_words.ensures in
    let b = lent a.records.now a.text.now a.scratch.now a.out.now in
    let h = listed a.source.now (length a.events.now) (length a.attributes.now) b (length a.out.now) _ t.ensures _ _ (l.out, l.count) in
    record {
      out = h.0;
      count = h.1;
      events = w ∙ ap zeros t.auto.events;
      attributes = c.clear_words-2.ensures ∙ ap zeros t.auto.attributes;
      records = l.records;
      text = l.text;
      scratch = l.scratch;
    }
