use Prim.Native.Nat.{ℕ}
use mathlib.Core.Path.{ap, ◌∙◌}
use mathlib.Core.List.{List}
use lib.ListN.{length}
use Rattle.list_input.specs.of_area.Area.{zeros}
use Rattle.list_input.specs.Input.{input_of}
use Rattle.list_input.proofs.Inputs.{found-lies, found-table}
use Rattle.list_printing.specs.Printed.{lent, printed}
use Rattle.list_printing.proofs.Inputs.{same-found}
use Rattle.list_printing.proofs.print_listing.Goals as goal

pub print_found-k-requires : goal.print_found-k-requires
print_found-k-requires c =
    let front = c.front-given in
    let a = c.args in
    let i = c.input_of-found in
    found-lies i.result (length a.events.now) (length i.new.events) (length a.attributes.now)
    (length i.new.attributes) front.result.now i.ensures.value i.auto.events i.auto.attributes

pub returns : goal.returns
unfolding printed
returns c =
    let at-print-found = c in
    let front = at-print-found.front-given in
    let clear-words = c.clear_words in
    let a = c.args in
    let i = c.input_of-found in
    let m = length a.events.now in
    let n = length a.attributes.now in
    let e = found-table i.result a.events.now i.new.events a.attributes.now i.new.attributes front.result.now i.ensures.value i.ensures.events_after i.ensures.attributes_after
    ∙ ap (λ (s : List ℕ). input_of m n s) front.ensures in
    let f = at-print-found.print_found-k.ensures in
    let h = same-found (lent a.records.now a.text.now a.scratch.now a.out.now) (length a.out.now) _ _ e _ _ (f.out, f.count) in
    record {
      out = h.0;
      count = h.1;
      events = clear-words.ensures ∙ ap zeros i.auto.events;
      attributes = c.clear_words-2.ensures ∙ ap zeros i.auto.attributes;
      records = f.records;
      text = f.text;
      scratch = f.scratch;
    }
