-- Which records have which field: every kind from 0 to 30, those of dead records among them, and of these exactly the ones that are named. Assumes nothing.
use Prim.Native.Nat.{ℕ}
use mathlib.Core.Path.{◌≡◌, refl}
use mathlib.Core.List.{List, [], ◌∷◌, ◌++◌}
use mathlib.Core.Bool.{Bool, cond}
use Rattle.tree_put.specs.of_tree_record.Kinds as kind
use Rattle.build_draft.specs.declared.TextField.TheVariants.{Classname, Message, Ty, Description, StackTrace, SystemOut, SystemErr, Hostname}
use Rattle.build_draft.specs.Parts.{has_text, has_times, is_output}

abbrev kinds : List ℕ
kinds =
    0 ∷ 1 ∷ 2 ∷ 3 ∷ 4 ∷ 5 ∷ 6 ∷ 7 ∷ 8 ∷ 9 ∷ 10 ∷ 11 ∷ 12 ∷ 13 ∷ 14 ∷ 15
    ∷ 16 ∷ 17 ∷ 18 ∷ 19 ∷ 20 ∷ 21 ∷ 22 ∷ 23 ∷ 24 ∷ 25 ∷ 26 ∷ 27 ∷ 28 ∷ 29 ∷ 30 ∷ []

abbrev those : {A : Type 0} → (A → Bool) → List A → List A
those f [] = []
those f (x ∷ xs) = cond (f x) (x ∷ those f xs) (those f xs)

abbrev mains : List ℕ
mains = kind.failure ∷ kind.error ∷ kind.skipped ∷ []

abbrev runs : List ℕ
runs = kind.flaky_failure ∷ kind.flaky_error ∷ kind.rerun_failure ∷ kind.rerun_error ∷ []

-- ---- texts
classname : those (λ k. has_text k Classname) kinds ≡ kind.case ∷ []
classname = refl

message : those (λ k. has_text k Message) kinds ≡ mains ++ runs
message = refl

type : those (λ k. has_text k Ty) kinds ≡ mains ++ runs
type = refl

description : those (λ k. has_text k Description) kinds ≡ mains ++ runs
description = refl

stack-trace : those (λ k. has_text k StackTrace) kinds ≡ runs
stack-trace = refl

system-out : those (λ k. has_text k SystemOut) kinds ≡ kind.suite ∷ kind.case ∷ runs
system-out = refl

system-err : those (λ k. has_text k SystemErr) kinds ≡ kind.suite ∷ kind.case ∷ runs
system-err = refl

hostname : those (λ k. has_text k Hostname) kinds ≡ kind.suite ∷ []
hostname = refl

-- those that may go in lossily
outputs : those is_output (Classname ∷ Message ∷ Ty ∷ Description ∷ StackTrace ∷ SystemOut ∷ SystemErr ∷ Hostname ∷ []) ≡ SystemOut ∷ SystemErr ∷ []
outputs = refl

-- ---- timestamp and time
times : those has_times kinds ≡ kind.report ∷ kind.suite ∷ kind.case ∷ runs
times = refl
