-- The status rule (rules S6 to S9), as a function of what a case's own status elements come to. Definitions only.
use Rattle.std.specs.Prelude.{ℕ, suc, ◌+◌, ◌≤◌, Bool, cond, not, ◌&&◌, leb, eqb, ltb}
use Rattle.tree_record.specs.Kinds as kind
use Rattle.tree_status.specs.declared.Tally.{Tally}

abbrev pub no_status : Tally
no_status = record { mains = 0; main = 0; flaky = 0; reruns = 0 }

-- one status element more, by its kind: up to `skipped` mains, up to `flakyError` flaky runs, then reruns (rules S1 and S5)
unfoldable pub tallied : Tally → ℕ → Tally
tallied t k =
    cond (leb k kind.skipped) (record { mains = suc t.mains; main = k; flaky = t.flaky; reruns = t.reruns })
    (cond (leb k kind.flaky_error) (record { mains = t.mains; main = t.main; flaky = suc t.flaky; reruns = t.reruns })
    (record { mains = t.mains; main = t.main; flaky = t.flaky; reruns = suc t.reruns }))

-- at most one main, no reruns without one, nothing beside `skipped`, one kind of runs (rules S6 to S9); else 20
unfoldable pub ruled : Tally → Bool
ruled t =
    leb t.mains 1
    && (not (eqb t.mains 0 && ltb 0 t.reruns)
    && (not (eqb t.main kind.skipped && ltb 0 (t.flaky + t.reruns))
    && not (ltb 0 t.flaky && ltb 0 t.reruns)))

-- no count is above n
pub record Few (n : ℕ) (t : Tally) : Type 0 where
  pub mains : t.mains ≤ n
  pub flaky : t.flaky ≤ n
  pub reruns : t.reruns ≤ n
