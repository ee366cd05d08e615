use mathlib.Core.Path.{refl}
use Rattle.merge_rows.proofs.Splicing.{put_back}
use Rattle.merge_rows.proofs.put_text.Goals as goal

pub returns : goal.returns
returns c =
    let start = c in
    record { value = refl; bytes_after = put_back start.args.bytes.now start.args.s.now _ start.args.fill start.requires c.copy_into.ensures.out_after }
