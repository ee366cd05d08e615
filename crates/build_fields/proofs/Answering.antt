-- The code's test r tells the definition's test t. Assumes nothing.
use mathlib.Core.Path.{◌≡◌, sym, ◌∙◌}
use mathlib.Core.Bool.{Bool, true, false, not}
use borrow.Author.Tests.{not-true, not-false}

module _ {r t : Bool} (same : r ≡ t) where
  -- the code went the way of "not r": the definition's test fails
  pub fails : not r ≡ true → t ≡ false
  fails h = sym same ∙ not-true r h

  -- the code didn't go the way of "not r": the definition's test passes
  pub passes : not r ≡ false → t ≡ true
  passes h = sym same ∙ not-false r h
