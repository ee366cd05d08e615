-- Small cases of demand 3's definitions, where a wrong definition would differ. Assumes nothing.
use Prim.Native.String.{String}
use mathlib.Core.Path.{◌≡◌, refl, ap}
use mathlib.Core.List.{List, [], ◌∷◌}
use mathlib.Core.Bool.{Bool, true, false}
use Rattle.read_report.specs.of_names.Bytes.{bytes}
use Rattle.read_report.specs.of_names.Names.{code_from, same_bytes}
use Rattle.read_report.specs.of_names.Keys.{keys}
use Rattle.read_report.specs.of_names.Tags.{tags}
use Rattle.read_report.specs.of_table.Event.{Attribute, TagKind, Start, Empty, End, Text, CData, Ref, Other, Indent, Event, Tag, Piece, Eof}
use Rattle.public_claims.specs.Agree.{PublicEvent, PublicTag, PublicEof, PublicFault, is_public_key, agree}
use Rattle.public_claims.specs.OwnStatus.{move, own_from, cases_from, own_statuses}
use Rattle.public_claims.specs.PublicListing.{refused_text}
use Rattle.public_claims.specs.Demand3.{fitted}
use Rattle.public_claims.proofs.Acts.{impossible}

abbrev named : String → String → Attribute
named k v = record { good = true; key = bytes k; value = bytes v }

-- ---- events that agree though they aren't equal: a stronger agreement would not hold of them
abbrev short : List Event
short =
    Tag Start (bytes "testcase") 0 (named "name" "a" ∷ [])
    ∷ Tag Start (bytes "failure") 1 (named "message" "m" ∷ named "type" "" ∷ [])
    ∷ Tag End (bytes "failure") 0 []
    ∷ Eof
    ∷ []

-- another message and type, text of every kind, attributes elsewhere
abbrev long : List Event
long =
    Piece Other (bytes "by hand")
    ∷ Tag Start (bytes "testcase") 7 (named "name" "a" ∷ [])
    ∷ Piece Indent (10 ∷ [])
    ∷ Tag Start (bytes "failure") 3 (named "message" "private" ∷ named "type" "t" ∷ [])
    ∷ Piece Text (bytes "x")
    ∷ Piece CData (bytes "y")
    ∷ Piece Ref (bytes "lt")
    ∷ Tag End (bytes "failure") 0 []
    ∷ Eof
    ∷ []

alike : agree short long
unfolding code_from same_bytes keys
alike = refl

-- suites that differ in their host alone
hosts-alike : agree (Tag Empty (bytes "testsuite") 0 (named "name" "a" ∷ named "hostname" "box" ∷ []) ∷ [])
    (Tag Empty (bytes "testsuite") 2 (named "name" "a" ∷ named "hostname" "&" ∷ []) ∷ [])
unfolding code_from same_bytes keys
hosts-alike = refl

-- ---- events that are read alike and don't agree: one spelling isn't traded for the other
abbrev emptied : List Event
emptied = Tag Empty (bytes "property") 0 [] ∷ []

abbrev started : List Event
started = Tag Start (bytes "property") 0 [] ∷ Tag End (bytes "property") 0 [] ∷ []

abbrev begins_empty : List PublicEvent → Bool
begins_empty [] = false
begins_empty (PublicTag Start name xs ∷ es) = false
begins_empty (PublicTag Empty name xs ∷ es) = true
begins_empty (PublicTag End name xs ∷ es) = false
begins_empty (PublicEof ∷ es) = false
begins_empty (PublicFault ∷ es) = false

apart : agree started emptied → ⊥
apart e = impossible (ap begins_empty e)

-- ---- the public keys, the first and the last of them, and keys that aren't
name-public : is_public_key (bytes "name") ≡ true
unfolding code_from same_bytes keys
name-public = refl

assertions-public : is_public_key (bytes "assertions") ≡ true
unfolding code_from same_bytes keys
assertions-public = refl

message-private : is_public_key (bytes "message") ≡ false
unfolding code_from same_bytes keys
message-private = refl

-- a suite's own, which the listing doesn't show
hostname-private : is_public_key (bytes "hostname") ≡ false
unfolding code_from same_bytes keys
hostname-private = refl

unknown_private : is_public_key (bytes "package") ≡ false
unfolding code_from same_bytes keys
unknown_private = refl

-- ---- a case's own status elements: not those of the case behind it, nor what stands in a status element, which the End of a stack trace
-- doesn't close, the first End of a status name does
abbrev tag : TagKind → String → PublicEvent
tag k name = PublicTag k (bytes name) []

two_cases : own_statuses (
    tag Start "testsuites" ∷ tag Start "testsuite"
    ∷ tag Start "testcase" ∷ tag End "testcase"
    ∷ tag Start "testcase" ∷ tag Start "rerunError" ∷ tag End "stackTrace" ∷ tag Empty "failure" ∷ tag End "failure" ∷ tag Empty "error" ∷ tag End "error"
    ∷ tag Empty "error" ∷ tag End "testcase"
    ∷ tag End "testsuite" ∷ tag End "testsuites" ∷ []) ≡ [] ∷ (12 ∷ 7 ∷ 7 ∷ []) ∷ []
unfolding own_statuses cases_from own_from move code_from same_bytes tags
two_cases = refl

-- an Empty output in a status element takes nothing in: the next case is found
empty-output : own_statuses (
    tag Start "testsuites" ∷ tag Start "testsuite"
    ∷ tag Start "testcase" ∷ tag Start "failure" ∷ tag Empty "system-out" ∷ tag Empty "x" ∷ tag End "failure" ∷ tag End "testcase"
    ∷ tag Start "testcase" ∷ tag Empty "error" ∷ tag End "testcase"
    ∷ tag End "testsuite" ∷ tag End "testsuites" ∷ []) ≡ (6 ∷ []) ∷ (7 ∷ []) ∷ []
unfolding own_statuses cases_from own_from move code_from same_bytes tags
empty-output = refl

-- an Empty list is behind the walk at once; in a list that isn't, what stands in a Start `property` doesn't end it, nor does an Empty of its name
lists : own_statuses (
    tag Start "testsuites" ∷ tag Start "testsuite" ∷ tag Start "testcase" ∷ tag Empty "properties" ∷ tag Empty "flakyError"
    ∷ tag Start "properties" ∷ tag Start "property" ∷ tag Empty "property" ∷ tag End "properties" ∷ tag Empty "error" ∷ tag End "property"
    ∷ tag Empty "error" ∷ tag Empty "properties" ∷ tag Empty "error" ∷ tag End "properties" ∷ tag Empty "failure" ∷ tag End "testcase"
    ∷ tag End "testsuite" ∷ tag End "testsuites" ∷ []) ≡ (10 ∷ 6 ∷ []) ∷ []
unfolding own_statuses cases_from own_from move code_from same_bytes tags
lists = refl

-- ---- a text that fits exactly, and one byte early
fits-exactly : fitted 3 (bytes "abc") ≡ bytes "abc"
fits-exactly = refl

one-early : fitted 2 (bytes "abc") ≡ refused_text
one-early = refl
