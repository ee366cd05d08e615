-- The attribute keys that reading knows: one table of name, code, and public or not. src/lib.rt has the names in the same order,
-- src/key.rt the codes. Definitions only.
use Rattle.std.specs.Prelude.{ℕ, List, [], ◌∷◌, map, Bool, true, false, cond, eqb}
use Prim.Native.String.{String}
use Rattle.names.specs.Bytes.{bytes}
use Rattle.names.specs.Names.{code_in}

-- the codes, by name
abbrev pub name : ℕ
name = 1

abbrev pub classname : ℕ
classname = 2

abbrev pub uuid : ℕ
uuid = 3

abbrev pub timestamp : ℕ
timestamp = 4

abbrev pub time : ℕ
time = 5

abbrev pub tests : ℕ
tests = 6

abbrev pub failures : ℕ
failures = 7

abbrev pub errors : ℕ
errors = 8

abbrev pub skipped : ℕ
skipped = 9

abbrev pub disabled : ℕ
disabled = 10

abbrev pub assertions : ℕ
assertions = 11

abbrev pub message : ℕ
message = 12

abbrev pub type : ℕ
type = 13

abbrev pub value : ℕ
value = 14

abbrev pub hostname : ℕ
hostname = 15

pub record Row : Type 0 where
  pub text : List ℕ
  pub code : ℕ
  pub public : Bool

abbrev pub row : String → ℕ → Bool → Row
row text code public = record { text = bytes text; code = code; public = public }

-- the public keys up to assertions (rule L1), then the other keys of deserialize.rs, and the one that only we know (docs/DIFFERENCES.md). A code is the place in the table, from 1
abbrev pub table : List Row
table =
    row "name" name true
    ∷ row "classname" classname true
    ∷ row "uuid" uuid true
    ∷ row "timestamp" timestamp true
    ∷ row "time" time true
    ∷ row "tests" tests true
    ∷ row "failures" failures true
    ∷ row "errors" errors true
    ∷ row "skipped" skipped true
    ∷ row "disabled" disabled true
    ∷ row "assertions" assertions true
    ∷ row "message" message false
    ∷ row "type" type false
    ∷ row "value" value false
    ∷ row "hostname" hostname false
    ∷ []

unfoldable pub keys : List (List ℕ)
keys = map (λ (r : Row). r.text) table

-- the code of a key, 0 for one that reading doesn't know (rule A4)
abbrev pub key_of : List ℕ → ℕ
key_of s = code_in keys s

-- whether the rows say so of a code
abbrev pub public_in : List Row → ℕ → Bool
public_in [] c = false
public_in (r ∷ rs) c = cond (eqb r.code c) r.public (public_in rs c)

-- whether a code is that of a public key (rule L1)
abbrev pub is_public : ℕ → Bool
is_public c = public_in table c
