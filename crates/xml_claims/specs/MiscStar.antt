-- [27] Misc with its S, and Misc*, as XML 1.0 (fifth edition) writes them. Definitions only.
use Rattle.std.specs.Prelude.{ℕ, List, [], ◌++◌}
use Rattle.xml_sound.specs.of_xml_grammar.Grammar.{Space, Misc}

pub data AnyMisc : List ℕ → Type 0 where
  white : {s : List ℕ} → Space s → AnyMisc s
  other : {s : List ℕ} → Misc s → AnyMisc s

pub data MiscStar : List ℕ → Type 0 where
  no-misc : MiscStar []
  a-misc : {s t : List ℕ} → AnyMisc s → MiscStar t → MiscStar (s ++ t)
