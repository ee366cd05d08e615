-- The calls from C refuse a code that is none with 15, and else as the call does. Assumes nothing.
use Prim.Native.Nat.{ℕ}
use mathlib.Core.Path.{◌≡◌, refl}
use mathlib.Core.List.{List}
use mathlib.Core.Bool.{Bool, true, false, cond}
use lib.Dec.{ltb}
use lib.ListN.{length}
use Rattle.explain_text.specs.of_refusal.Refusal.{Outcome}
use Rattle.explain_text.specs.of_refusal.declared.Cause.TheVariants as cause
use Rattle.port_values.specs.of_build_draft.Draft.{Draft}
use Rattle.port_values.specs.Codes.{no_code_of, coded}
use Rattle.port_values.specs.Codes as code
use Rattle.call_claims.specs.Demand1.{is_one_of, refuses, Continues, CodedCalls}
use Rattle.call_claims.proofs.LateCalls.{Within, within-late, within-cond}
use Rattle.call_claims.proofs.BuilderCalls.{builder-calls}

pub within-coded : {A : Type 0} {ns : List ℕ} (b : Bool) {o : Outcome A} → is_one_of 15 ns ≡ true → Within ns o → Within ns (cond b o no_code_of)
within-coded b h k = within-cond b k (within-late cause.NotLayout h)

module _ (d : Draft) where
  continues-coded : {A : Type 0} {ns : List ℕ} (variants : List A) (n : ℕ) {o : Outcome Draft} → is_one_of 15 ns ≡ true → Continues d ns o → Continues d ns (coded variants n o)
  continues-coded {ns = ns} variants n {o} h k = go (ltb n (length variants))
    where
      go : (b : Bool) → Continues d ns (cond b o no_code_of)
      go true = k
      go false = refuses (record { known = h; placeless = refl }) (record { words = refl; text = refl })

  pub coded-calls : CodedCalls d
  coded-calls =
      let b = builder-calls d in
      record {
        add_test_case = λ name n. continues-coded code.outcomes n refl (b.add_test_case name (code.outcome_at n));
        add_rerun = λ n. continues-coded code.kinds n refl (b.add_rerun (code.kind_at n));
        set_rerun_kind = λ n. continues-coded code.families n refl (b.set_rerun_kind (code.family_at n));
        add_property = λ n key value. continues-coded code.holders n refl (b.add_property (code.holder_at n) key value);
        add_extra = λ n key value. continues-coded code.holders n refl (b.add_extra (code.holder_at n) key value);
        set_text = λ n m s. continues-coded code.elements n refl (continues-coded code.fields m refl (b.set_text (code.element_at n) (code.field_at m) s));
        set_output_lossy = λ n m s. continues-coded code.elements n refl (continues-coded code.fields m refl (b.set_output_lossy (code.element_at n) (code.field_at m) s));
        set_timestamp = λ n m. continues-coded code.elements n refl (b.set_timestamp (code.element_at n) m);
        set_time = λ n seconds nanos. continues-coded code.elements n refl (b.set_time (code.element_at n) seconds nanos);
        set_number = λ n m. continues-coded code.numbers n refl (b.set_number (code.number_at n) m);
      }
