use Rattle.tree_stamp.specs.of_names.Keys.{keys}
use Rattle.write_codes.specs.of_write_items.inside.Values.{key_name}
use Rattle.write_values.proofs.put_key_name.Goals as goal

pub returns-in-1 : goal.returns-in-1
unfolding key_name keys
returns-in-1 c = rw c.in-1.is c.put.ensures

pub returns-in-2 : goal.returns-in-2
unfolding key_name keys
returns-in-2 c = rw c.in-2.is c.put-in-2.ensures

pub returns-in-4 : goal.returns-in-4
unfolding key_name keys
returns-in-4 c = rw c.in-4.is c.put-in-4.ensures

pub returns-in-5 : goal.returns-in-5
unfolding key_name keys
returns-in-5 c = rw c.in-5.is c.put-in-5.ensures

pub returns-in-12 : goal.returns-in-12
unfolding key_name keys
returns-in-12 c = rw c.in-12.is c.put-in-12.ensures

pub returns-in-13 : goal.returns-in-13
unfolding key_name keys
returns-in-13 c = rw c.in-13.is c.put-in-13.ensures

pub returns-in-14 : goal.returns-in-14
unfolding key_name keys
returns-in-14 c = rw c.in-14.is c.put-in-14.ensures
