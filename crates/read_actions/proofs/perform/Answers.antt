use Rattle.std.specs.Prelude.{Ok}
use Rattle.read_actions.proofs.Performing.{held, text-end, gathered-end, description-end, record-end, status-end, list-end, property-end, kind-end, acted-still}
use Rattle.read_actions.proofs.Performing.{acted-close, acted-close-text, acted-property, acted-list, acted-open, acted-missing, acted-broken}
use Rattle.read_texts.specs.of_read_place.inside.Coded.{marks_of}
use Rattle.read_texts.specs.of_read_state.inside.Coded.{level_of, output_of, control_of}
use Rattle.read_texts.specs.of_table.Event.{attributes_from}
use Prim.Native.Nat.{◌-◌}
use mathlib.Core.Path.{refl, ap}
use Rattle.read_actions.proofs.perform.Goals as goal

pub open_element-requires : goal.open_element-requires
open_element-requires c =
    let start = c in
    let b = kind-end start.args.control.mode (level_of start.args.control.level) (output_of start.args.control.output) (marks_of start.args.marks) start.requires.ready_in.1.1.1.1
    c.in-Open.is start.requires.control_value in record {
      le_kind = b.0;
      kind_bound = b.1;
      ready = (
        start.requires.ready_in.0,
        (
          start.requires.ready_in.1.0,
          (
            start.requires.ready_in.1.1.0,
            (
              start.requires.ready_in.1.1.1.0,
              held start.args.control.mode (level_of start.args.control.level) (output_of start.args.control.output) (marks_of start.args.marks) start.requires.ready_in.1.1.1.1,
            ),
          ),
        ),
      );
    }

pub close-requires : goal.close-requires
close-requires c =
    let start = c in record { text_len_bound = start.requires.ready_in.1.1.1.0; fill_in_bounds = text-end start.args.control.mode (level_of start.args.control.level) (output_of start.args.control.output) (marks_of start.args.marks) start.requires.ready_in.1.1.1.1; description_in_bounds = description-end start.args.control.mode (level_of start.args.control.level) (output_of start.args.control.output) (marks_of start.args.marks) start.requires.ready_in.1.1.1.1; marks_in_bounds = status-end start.args.control.mode (level_of start.args.control.level) (output_of start.args.control.output) (marks_of start.args.marks) start.requires.ready_in.1.1.1.1 }

pub close_text-requires : goal.close_text-requires
close_text-requires c =
    let start = c in record { marks_in_bounds = record-end start.args.control.mode (level_of start.args.control.level) (output_of start.args.control.output) (marks_of start.args.marks) start.requires.ready_in.1.1.1.1; fill_in_bounds = text-end start.args.control.mode (level_of start.args.control.level) (output_of start.args.control.output) (marks_of start.args.marks) start.requires.ready_in.1.1.1.1; text_len_bound = start.requires.ready_in.1.1.1.0; gathered_in_bounds = gathered-end start.args.control.mode (level_of start.args.control.level) (output_of start.args.control.output) (marks_of start.args.marks) start.requires.ready_in.1.1.1.1 }

pub open_list-requires : goal.open_list-requires
open_list-requires c =
    let start = c in
    list-end start.args.control.mode (level_of start.args.control.level) (output_of start.args.control.output)
    (marks_of start.args.marks) start.requires.ready_in.1.1.1.1 c.in-OpenList.is start.requires.control_value

pub read_property-requires : goal.read_property-requires
read_property-requires c =
    let start = c in record {
      content_in_bounds = property-end start.args.control.mode (level_of start.args.control.level) (output_of start.args.control.output)
          (marks_of start.args.marks) start.requires.ready_in.1.1.1.1 c.in-ReadProperty.is start.requires.control_value;
      ready = (
        start.requires.ready_in.0,
        (
          start.requires.ready_in.1.0,
          (
            start.requires.ready_in.1.1.0,
            (
              start.requires.ready_in.1.1.1.0,
              held start.args.control.mode (level_of start.args.control.level) (output_of start.args.control.output) (marks_of start.args.marks) start.requires.ready_in.1.1.1.1,
            ),
          ),
        ),
      );
    }

pub returns-in-Open : goal.returns-in-Open
returns-in-Open c =
    let start = c in
    let open-element = c.open_element in
    λ rooms p s name pa lo hd li sz. acted-open (level_of start.args.control.level) (output_of start.args.control.output) start.args.control.seen start.args.control.closed
    start.args.control.tally name (marks_of start.args.marks) p rooms start.args.range.first (attributes_from start.args.attributes.now start.args.source.now
    (start.args.range.end - start.args.range.first) start.args.range.first) _ _ _ _ _ start.args.content s _ start.args.control.mode start.requires.control_value
    li c.in-Open.is (λ x. open-element.ensures rooms p s start.args.scratch.now (control_of start.args.control) (marks_of start.args.marks) _ pa x hd li sz)

pub returns-in-Close : goal.returns-in-Close
returns-in-Close c =
    let start = c in
    let close = c.close in
    λ rooms p s name pa lo hd li sz. acted-close (level_of start.args.control.level) (output_of start.args.control.output) start.args.control.seen start.args.control.closed
    start.args.control.tally name (marks_of start.args.marks) p rooms start.args.range.first (attributes_from start.args.attributes.now start.args.source.now
    (start.args.range.end - start.args.range.first) start.args.range.first) _ _ _ _ _ start.args.content s _ start.args.control.mode start.requires.control_value li
    c.in-Close.is
    (λ x. close.ensures rooms p s (control_of start.args.control) _ _ start.args.attributes.now start.args.source.now pa refl (lo c.in-Close.is) hd x sz)

pub returns-in-CloseText : goal.returns-in-CloseText
returns-in-CloseText c =
    let start = c in
    let close-text = c.close_text in
    λ rooms p s name pa lo hd li sz. acted-close-text (level_of start.args.control.level) (output_of start.args.control.output) start.args.control.seen
    start.args.control.closed start.args.control.tally name (marks_of start.args.marks) p rooms start.args.range.first
    (attributes_from start.args.attributes.now start.args.source.now (start.args.range.end - start.args.range.first) start.args.range.first) _ _ _ _ _ start.args.content
    s _ start.args.control.mode start.requires.control_value li c.in-CloseText.is (λ x. close-text.ensures rooms p s start.args.attributes.now start.args.source.now pa hd x sz)

pub returns-in-OpenList : goal.returns-in-OpenList
returns-in-OpenList c =
    let start = c in
    λ rooms p s name pa lo hd li sz. acted-list (level_of start.args.control.level) (output_of start.args.control.output) start.args.control.seen
    start.args.control.closed start.args.control.tally name (marks_of start.args.marks) p rooms start.args.range.first
    (attributes_from start.args.attributes.now start.args.source.now (start.args.range.end - start.args.range.first) start.args.range.first) _ _ _ _ _ start.args.content
    s _ start.args.control.mode start.requires.control_value li c.in-OpenList.is hd c.open_list.ensures.records_after (ap Ok c.open_list.ensures.value)

pub returns-in-ReadProperty : goal.returns-in-ReadProperty
returns-in-ReadProperty c =
    let start = c in
    let read-property = c.read_property in
    λ rooms p s name pa lo hd li sz. acted-property (level_of start.args.control.level) (output_of start.args.control.output) start.args.control.seen
    start.args.control.closed start.args.control.tally name (marks_of start.args.marks) p rooms start.args.range.first
    (attributes_from start.args.attributes.now start.args.source.now (start.args.range.end - start.args.range.first) start.args.range.first) _ _ _ _ _ start.args.content
    s _ start.args.control.mode start.requires.control_value li c.in-ReadProperty.is (λ x. read-property.ensures rooms p s start.args.scratch.now (marks_of start.args.marks) pa hd x sz)

pub returns-in-Missing : goal.returns-in-Missing
returns-in-Missing c =
    let start = c in
    λ rooms p s name pa lo hd li sz. acted-missing (level_of start.args.control.level) (output_of start.args.control.output) start.args.control.seen
    start.args.control.closed start.args.control.tally name (marks_of start.args.marks) p rooms start.args.range.first
    (attributes_from start.args.attributes.now start.args.source.now (start.args.range.end - start.args.range.first) start.args.range.first)
    _ _ _ _ _ start.args.content s _ start.args.control.mode start.requires.control_value pa c.in-Missing.is c.refused.ensures

pub returns-in-Broken : goal.returns-in-Broken
returns-in-Broken c =
    let start = c in
    λ rooms p s name pa lo hd li sz. acted-broken (level_of start.args.control.level) (output_of start.args.control.output) start.args.control.seen
    start.args.control.closed start.args.control.tally name (marks_of start.args.marks) p rooms start.args.range.first
    (attributes_from start.args.attributes.now start.args.source.now (start.args.range.end - start.args.range.first) start.args.range.first)
    _ _ _ _ _ start.args.content s _ start.args.control.mode start.requires.control_value pa c.in-Broken.is c.refused-in-Broken.ensures

pub returns-in-Pass : goal.returns-in-Pass
returns-in-Pass c =
    let start = c in
    λ rooms p s name pa lo hd li sz. acted-still (level_of start.args.control.level) (output_of start.args.control.output) start.args.control.seen
    start.args.control.closed start.args.control.tally name (marks_of start.args.marks) p rooms start.args.range.first
    (attributes_from start.args.attributes.now start.args.source.now (start.args.range.end - start.args.range.first) start.args.range.first)
    _ _ _ _ _ start.args.content s _ start.args.control.mode start.requires.control_value li hd refl c.in-Pass.is
