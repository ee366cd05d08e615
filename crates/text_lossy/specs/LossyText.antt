-- The text that is stored for bytes that go in lossily, as `set_system_out_lossy` stores it: what isn't UTF-8 becomes U+FFFD, then
-- the filter is applied (rule B6). Definitions only.
use Rattle.std.specs.Prelude.{ℕ, List}
use Rattle.text_filter.specs.Filter.{filtered}
use Rattle.utf8_lossy.specs.Lossy.{lossy}

-- rule B6
abbrev pub lossy_text : List ℕ → List ℕ
lossy_text s = filtered (lossy s)
