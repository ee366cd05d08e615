use Rattle.sheet_text.proofs.Answered.{no-sheet, whole-sheet, short-sheet}
use Rattle.list_text.specs.of_area.Area.{zeros}
use lib.ListN.{length}
use mathlib.Core.Path.{◌≡◌, ap, ◌∙◌}
use borrow.Author.Rules.{rules}
use Rattle.sheet_text.proofs.print_sheet.Goals as goal

pub returns-in_default : goal.returns-in_default
returns-in_default c =
    let clear = c.clear in
    let args = c.args in
    let both = no-sheet (length args.out.now) args.released c.in_default.is c.refuse.ensures clear.ensures in record { value = both.0; out_after = both.1 }

pub returns-in_default-put : goal.returns-in_default-put
returns-in_default-put c =
    let put-sheet = c.put_sheet-put in
    let at-enum-told = c in
    let at_clear = at-enum-told in
    let args = at_clear.args in
    let l : length put-sheet.new.out ≡ length args.out.now = search rules in
    let p = rw c.in_default-put.is at put-sheet.ensures in
    let both = short-sheet (length args.out.now) args.released at-enum-told.in-Accepted.is c.refuse-in_default-put.ensures at_clear.clear.ensures p
    (c.clear-in_default-put.ensures ∙ ap zeros l) in record { value = both.0; out_after = both.1 }

pub returns : goal.returns
returns c =
    let put-sheet = c.put_sheet-put in
    let at-enum-told = c in
    let at_clear = at-enum-told in
    let args = at_clear.args in
    let p = rw c.in-Some.is at put-sheet.ensures in
    let both = whole-sheet (length args.out.now) args.released at-enum-told.in-Accepted.is c.no_refusal.ensures at_clear.clear.ensures p in record { value = both.0; out_after = both.1 }
