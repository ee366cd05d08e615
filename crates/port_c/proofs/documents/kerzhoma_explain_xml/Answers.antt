use Rattle.port_c.proofs.Told.{count-put, count-full}
use Rattle.port_c.proofs.documents.kerzhoma_explain_xml.Goals as goal

pub returns-in-Some : goal.returns-in-Some
returns-in-Some c = record { value = count-put c.explain_xml-stored.result c.explain_xml-stored.ensures.result_value _ c.in-Some.is; out_after = c.explain_xml-stored.ensures.out_after }

pub returns-in-None : goal.returns-in-None
returns-in-None c = record { value = count-full c.explain_xml-stored.result c.explain_xml-stored.ensures.result_value c.in-None.is; out_after = c.explain_xml-stored.ensures.out_after }
