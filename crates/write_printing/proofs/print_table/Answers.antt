use Rattle.write_printing.proofs.Printing.{whole-printed, part-printed}
use Rattle.write_printing.proofs.print_table.Goals as goal

pub returns-in-Some : goal.returns-in-Some
returns-in-Some c =
    let args = c.args in
    let clear = c.clear in
    let put-table = c.put_table-put in
    let both = whole-printed args.out.now _ _ _ clear.ensures _ put-table.ensures _ c.in-Some.is in record { out = both.0; count = both.1 }

pub returns-in-None : goal.returns-in-None
returns-in-None c =
    let args = c.args in
    let clear = c.clear in
    let put-table = c.put_table-put in
    let both = part-printed args.out.now _ _ _ clear.ensures _ put-table.ensures c.in-None.is in record { out = both.0; count = both.1 }
