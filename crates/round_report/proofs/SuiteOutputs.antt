-- The outputs of a suite, read back behind its cases. Assumes nothing.
use Prim.Native.Nat.{ℕ}
use mathlib.Core.Bool.{true}
use mathlib.Core.List.{List, [], ◌∷◌, ◌++◌, append_assoc, append-nil}
use mathlib.Core.Option.{Option, none, some}
use mathlib.Core.Path.{◌≡◌, sym, subst}
use lib.ListN.{length}
use Rattle.round_rooms.specs.of_names.Bytes.{bytes}
use Rattle.round_rooms.specs.of_table.Event.{Event}
use Rattle.round_rooms.specs.of_tree_put.Put.{put_text}
use Rattle.round_rooms.specs.of_tree_report.Report.{Text, TestSuite}
use Rattle.round_rooms.specs.of_tree_report.inside.Cells.{every, fits_row, suite_row}
use Rattle.round_rooms.specs.of_read_state.Control.{suite, out, err}
use Rattle.round_rooms.specs.of_read_content.Content.{word_of, bit_of}
use Rattle.round_rooms.specs.of_read_machine.Machine.{Machine}
use Rattle.round_rooms.specs.of_write_report.Written.{optional, serialize_output, serialize_outputs, numbered}
use Rattle.round_case.specs.of_round_elements.Plain.{listed, bare}
use Rattle.round_case.specs.of_round_elements.inside.Held.{SuiteHeld}
use Rattle.round_case.specs.of_round_elements.inside.Read.{Leads, Stands}
use Rattle.round_case.proofs.of_round_elements.Fits.{fitting}
use Rattle.round_case.proofs.of_round_elements.Gathered.{suite-out, suite-err}
use Rattle.round_case.proofs.Clean.{Cleans, cleans}
use Rattle.round_case.proofs.Conditions.{every_front, every-behind}
use Rattle.round_report.proofs.Parts.{changed-at}
use Rattle.round_report.proofs.Leading.{Goes, goes_none, goes_on, behind, numbered-append, leads-then}
use Rattle.round_report.proofs.Gathered.{out-named, err-named, output-goes}

-- ---- texts that may be missing
pub goods : (s : TestSuite) → fits_row (suite_row s) ≡ true → every bare (listed s.system_out ++ listed s.system_err) ≡ true → Cleans s.system_out × Cleans s.system_err
goods s f b =
    let g = fitting (suite_row s) f in (
      cleans s.system_out g.out (every_front bare (listed s.system_out) (listed s.system_err) b),
      cleans s.system_err g.err (every-behind bare (listed s.system_out) (listed s.system_err) b),
    )

-- ---- behind the outputs
pub record OutputsRead (es : List Event) (m : Machine) (before rest : List (List ℕ)) (texts : List ℕ) (s : TestSuite) (o e : Option Text) : Type 0 where
  pub main : List ℕ
  pub added : List ℕ
  pub goes : Goes es m (Stands suite (length before) (before ++ (main ∷ rest)) (texts ++ added))
  pub head : SuiteHeld s o e (texts ++ added) main

module _ (before rest : List (List ℕ)) (s : TestSuite) (n : ℕ) where
  nothing_read : (main texts : List ℕ) (m : Machine) (o e : Option Text) → SuiteHeld s o e texts main
      → Stands suite (length before) (before ++ (main ∷ rest)) texts m → OutputsRead [] m before rest texts s o e
  nothing_read main texts m o e h k =
      record {
        main = main;
        added = [];
        goes = goes_none m (subst (λ (t : List ℕ). Stands suite (length before) (before ++ (main ∷ rest)) t m) (sym (append-nil texts)) k);
        head = subst (λ (t : List ℕ). SuiteHeld s o e t main) (sym (append-nil texts)) h;
      }

  out-read : (main texts : List ℕ) (m : Machine) (o e : Option Text) → Cleans o → SuiteHeld s none e texts main → Stands suite (length before) (before ++ (main ∷ rest)) texts m
      → OutputsRead (numbered n (optional (serialize_output (bytes "system-out")) o)) m before rest texts s o e
  unfolding numbered serialize_output
  out-read main texts m none e g h k = nothing_read main texts m none e h k
  out-read main texts m (some t) e g h k =
      record {
        main = put_text (word_of out) (bit_of out) (length texts) (length t) main;
        added = t;
        goes = goes_on (output-goes t g out (before ++ (main ∷ rest)) texts (length before) (bytes "system-out") m out-named k)
            (λ u z. subst (λ (l : List (List ℕ)). Stands suite (length before) l (texts ++ t) u) (changed-at (put_text (word_of out) (bit_of out) (length texts) (length t)) before main rest) z);
        head = suite-out texts main t h;
      }

  err-read : (main texts : List ℕ) (m : Machine) (o e : Option Text) → Cleans e → SuiteHeld s o none texts main → Stands suite (length before) (before ++ (main ∷ rest)) texts m
      → OutputsRead (numbered n (optional (serialize_output (bytes "system-err")) e)) m before rest texts s o e
  unfolding numbered serialize_output
  err-read main texts m o none g h k = nothing_read main texts m o none h k
  err-read main texts m o (some t) g h k =
      record {
        main = put_text (word_of err) (bit_of err) (length texts) (length t) main;
        added = t;
        goes = goes_on (output-goes t g err (before ++ (main ∷ rest)) texts (length before) (bytes "system-err") m err-named k)
            (λ u z. subst (λ (l : List (List ℕ)). Stands suite (length before) l (texts ++ t) u) (changed-at (put_text (word_of err) (bit_of err) (length texts) (length t)) before main rest) z);
        head = suite-err texts main t h;
      }

pub outputs-read : (before rest : List (List ℕ)) (s : TestSuite) (n : ℕ) (main texts : List ℕ) (m : Machine) (o e : Option Text) → Cleans o → Cleans e → SuiteHeld s none none texts main
    → Stands suite (length before) (before ++ (main ∷ rest)) texts m → OutputsRead (numbered n (serialize_outputs o e)) m before rest texts s o e
unfolding serialize_outputs
outputs-read before rest s n main texts m o e g f h k =
    let a = out-read before rest s n main texts m o none g h k in
    let es = optional (serialize_output (bytes "system-out")) o in
    let fs = optional (serialize_output (bytes "system-err")) e in
    let b = err-read before rest s (behind n es) a.main (texts ++ a.added) a.goes.after o e f a.head a.goes.holds in
    let q = append_assoc texts a.added b.added in
    record {
      main = b.main;
      added = a.added ++ b.added;
      goes = record {
        after = b.goes.after;
        leads = subst (λ (l : List Event). Leads l m b.goes.after) (sym (numbered-append n es fs))
            (leads-then (numbered n es) (numbered (behind n es) fs) m a.goes.after b.goes.after a.goes.leads b.goes.leads);
        holds = subst (λ (t : List ℕ). Stands suite (length before) (before ++ (b.main ∷ rest)) t b.goes.after) q b.goes.holds;
      };
      head = subst (λ (t : List ℕ). SuiteHeld s o e t b.main) q b.head;
    }
