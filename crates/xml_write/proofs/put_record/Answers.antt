use Rattle.xml_checks.specs.of_xml_stack.Stack.{put_at}
use Rattle.xml_write.proofs.put_record.Goals as goal

pub returns : goal.returns
unfolding put_at
returns c =
    let wide = c.wide-at in
    let put-field = c.put_field in
    let put-field2 = c.put_field-2 in
    let put-field3 = c.put_field-3 in
    let put-field4 = c.put_field-4 in
    simp (c.put_field-5.ensures, put-field4.ensures, put-field3.ensures, put-field2.ensures, put-field.ensures, wide.ensures)
