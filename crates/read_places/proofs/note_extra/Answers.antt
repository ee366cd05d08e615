use Prim.Native.Nat.{ℕ}
use mathlib.Core.Path.{refl, subst}
use mathlib.Core.List.{List}
use Rattle.read_element.proofs.of_area.Parts.{rest_part, rest_back}
use Rattle.read_places.specs.inside.Told.{Quiet}
use Rattle.read_places.proofs.Noting.{noted-front, noted_quiet}
use Rattle.read_places.proofs.note_extra.Goals as goal

pub returns-then-next-extras : goal.returns-then-next-extras
returns-then-next-extras c = record { own_unchanged = refl; quiet = λ i e. e }

pub returns : goal.returns
returns c =
    let s = c.args in
    let w = c.tell_place.new.words in
    let q = rest_back s.own.now s.k w in record {
      own_unchanged = noted-front s.k s.own.now w c.requires.k_in_bounds q;
      quiet = noted_quiet s.k s.own.now w c.requires.k_in_bounds q
          (subst (λ (l : List ℕ). Quiet l w) (rest_part s.own.now s.k) c.tell_place.ensures);
    }
