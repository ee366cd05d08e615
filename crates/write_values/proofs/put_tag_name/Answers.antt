use Rattle.tree_stamp.specs.of_names.Tags.{tags}
use Rattle.write_codes.specs.of_write_items.inside.Values.{tag_name}
use Rattle.write_values.proofs.put_tag_name.Goals as goal

pub returns-in-3 : goal.returns-in-3
unfolding tag_name tags
returns-in-3 c = rw c.in-3.is c.put.ensures

pub returns-in-5 : goal.returns-in-5
unfolding tag_name tags
returns-in-5 c = rw c.in-5.is c.put-in-5.ensures

pub returns-in-6 : goal.returns-in-6
unfolding tag_name tags
returns-in-6 c = rw c.in-6.is c.put-in-6.ensures

pub returns-in-7 : goal.returns-in-7
unfolding tag_name tags
returns-in-7 c = rw c.in-7.is c.put-in-7.ensures

pub returns-in-8 : goal.returns-in-8
unfolding tag_name tags
returns-in-8 c = rw c.in-8.is c.put-in-8.ensures

pub returns-in-11 : goal.returns-in-11
unfolding tag_name tags
returns-in-11 c = rw c.in-11.is c.put-in-11.ensures

pub returns-in-14 : goal.returns-in-14
unfolding tag_name tags
returns-in-14 c = rw c.in-14.is c.put-in-14.ensures

pub returns-in-15 : goal.returns-in-15
unfolding tag_name tags
returns-in-15 c = rw c.in-15.is c.put-in-15.ensures
