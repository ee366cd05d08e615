-- A description that a child's text was put over is in scratch again. Assumes nothing.
use Prim.Native.Nat.{ℕ, ◌≤◌}
use mathlib.Core.Path.{◌≡◌, sym, ap, ◌∙◌}
use mathlib.Core.List.{List, []}
use mathlib.Core.Logic.{◌⊎◌, inl, inr}
use native.Mathlib.Omega.{arith}
use lib.ListN.{length, take, drop}
use lib.Seq.{take_at}
use Rattle.read_pieces.specs.of_area.Area.{laid}
use Rattle.read_pieces.proofs.of_area.Laying.{laid-fits, length-laid}
use Rattle.read_machine.specs.of_read_content.Content.{Content}
use Rattle.read_machine.specs.of_read_content.declared.Content.{Content as CodedContent}
use Rattle.read_machine.specs.of_read_content.inside.Holds.{Holds}
use Rattle.read_again.specs.inside.Since.{found}

none-front : (n : ℕ) (l s : List ℕ) → n ≡ length s → s ≡ [] → take n l ≡ s
none-front n l s e q = let z : n ≡ 0 = e ∙ ap length q in ap (λ (k : ℕ). take k l) z ∙ sym q

front : (n : ℕ) (before f d : List ℕ) → n ≡ length d → n ≤ length before → (d ≡ []) ⊎ (f ≡ d) → take n (laid before f) ≡ d
front n before f d e h (inl q) = none-front n (laid before f) d e q
front n before f d e h (inr q) =
    ap (λ (x : List ℕ). take n (laid before x)) q
    ∙ ap (take n) (laid-fits before d (omega arith))
    ∙ take_at d (drop (length d) before) n (sym e)

pub restores : {words text before attributes source : List ℕ} {c : CodedContent} {s : Content} (f after : List ℕ) → Holds words text before attributes source c s → s.gathered ≡ []
    → (s.description ≡ []) ⊎ (f ≡ s.description) → after ≡ laid before f → Holds words text after attributes source (found c) s
restores {before = before} {c = c} {s = s} f after hd g d e =
    let n = ap length e ∙ length-laid before f in
    let w = hd.within in
    record {
      room = hd.room;
      left = hd.left;
      records = hd.records;
      whole = hd.whole;
      used = hd.used;
      stored = hd.stored;
      fill = hd.fill;
      within = omega arith;
      described = λ x. ap (take c.description) e ∙ front c.description before f s.description hd.description hd.within d;
      begins = omega arith;
      behind = none-front c.gathered (drop c.description after) s.gathered hd.gathered g;
      description = hd.description;
      gathered = hd.gathered;
      free = hd.free;
      report = hd.report;
      dead = hd.dead;
    }
