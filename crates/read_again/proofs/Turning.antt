-- The events of a table gone over again, one by one. Assumes nothing.
use Rattle.std.specs.Prelude.{Some, Result, Ok, Err}
use Prim.Native.Nat.{ℕ, zero, suc, ◌+◌, ◌-◌, ◌≤◌, ◌<◌}
use mathlib.Core.Path.{◌≡◌, refl, sym, ap, subst, ◌∙◌}
use mathlib.Core.List.{List, [], ◌∷◌, ◌++◌}
use mathlib.Core.Bool.{Bool, true, false, cond}
use native.Mathlib.Omega.{arith}
use borrow.Author.Tests.{leb-true, leb-false}
use lib.Dec.{leb}
use lib.ListN.{length, take, drop}
use Rattle.read_pieces.specs.of_area.Answer.{gives, refuses}
use Rattle.read_pieces.specs.of_area.Area.{placing, laid}
use Rattle.read_pieces.proofs.of_area.Laying.{put-fits, full-over}
use Rattle.read_pieces.specs.of_names.Names.{same_bytes}
use Rattle.read_pieces.specs.of_table.Table.{word, count_of}
use Rattle.read_pieces.specs.of_table.Event.{Attribute, Start, Empty, End, Event, Tag, Piece, Eof, Fault, tag_kind, piece_kind, piece_bytes, kind_at, bytes_at, attributes_from, event_of, event_at, resolve_from}
use Rattle.read_pieces.proofs.of_table.Resolving.{event-of-kind, resolve-end, resolve-next}
use Rattle.read_machine.specs.of_table_events.Skip.{Skip, next, broken_at, up_from, skip_of, skip_answer}
use Rattle.read_pieces.specs.of_refusal.declared.Cause.{Cause}
use Rattle.read_machine.proofs.of_table_events.Numbered.{kind-within, kind-is, bytes-in}
use Rattle.read_machine.proofs.of_table_events.Turns.{Far}
use Rattle.read_pieces.specs.of_read_element.Outcome.{unlimited}
use Rattle.read_machine.proofs.Skipping.{skip-within}
use Rattle.read_pieces.specs.of_read_state.Control.{status, Mode, at, skipping}
use Rattle.read_pieces.specs.of_read_state.inside.Coded.{output_of, mode_at}
use Rattle.read_pieces.specs.of_read_state.declared.Output.{Output as CodedOutput}
use Rattle.read_pieces.specs.of_read_state.declared.Mode.{Mode as CodedMode}
use Rattle.read_pieces.specs.of_read_rules.Rules.{plan_at, in_skip, shallower}
use Rattle.read_again.specs.declared.Again.{Again}
use Rattle.read_again.specs.Told.{added, along, told}
use Rattle.read_machine.specs.of_table_events.inside.Pieces.{is_piece}
use Rattle.read_again.specs.inside.Turns.{turn_behind, rest, told_from, Known, Went, Over, Turned}
use Rattle.read_again.proofs.Putting.{none-laid}
use Rattle.read_pieces.specs.of_refusal.declared.Cause.TheVariants as cause

clash : true ≡ false → ⊥
clash e = let z : ◌≡◌ {A = ℕ} 0 1 = cc in omega arith

-- ---- an event by its kind
piece-event : (kind : ℕ) (bytes : List ℕ) (first : ℕ) (xs : List Attribute) → is_piece kind ≡ true → kind ≤ 9 → event_of kind bytes first xs ≡ Piece (piece_kind kind) (piece_bytes kind bytes)
unfolding event_of
piece-event zero bytes first xs p h = absurd (clash (sym p))
piece-event (suc zero) bytes first xs p h = absurd (clash (sym p))
piece-event (suc (suc zero)) bytes first xs p h = absurd (clash (sym p))
piece-event (suc (suc (suc zero))) bytes first xs p h = refl
piece-event (suc (suc (suc (suc zero)))) bytes first xs p h = refl
piece-event (suc (suc (suc (suc (suc zero))))) bytes first xs p h = refl
piece-event (suc (suc (suc (suc (suc (suc zero)))))) bytes first xs p h = refl
piece-event (suc (suc (suc (suc (suc (suc (suc zero))))))) bytes first xs p h = absurd (clash (sym p))
piece-event (suc (suc (suc (suc (suc (suc (suc (suc zero)))))))) bytes first xs p h = absurd (clash (sym p))
piece-event (suc (suc (suc (suc (suc (suc (suc (suc (suc zero))))))))) bytes first xs p h = refl
piece-event (suc (suc (suc (suc (suc (suc (suc (suc (suc (suc k)))))))))) bytes first xs p h = absurd (omega arith)

module _ (m : Mode) (es : List Event) (bytes : List ℕ) (first : ℕ) (xs : List Attribute) where
  pub tag-told : (kind : ℕ) → is_piece kind ≡ false → (kind ≡ 7 → ⊥) → (kind ≡ 8 → ⊥) → kind ≤ 9
      → told m (event_of kind bytes first xs ∷ es) ≡ along (plan_at m true (tag_kind kind) bytes) λ n. told n es
  unfolding event_of told
  tag-told zero p a b h = refl
  tag-told (suc zero) p a b h = refl
  tag-told (suc (suc zero)) p a b h = refl
  tag-told (suc (suc (suc zero))) p a b h = absurd (clash p)
  tag-told (suc (suc (suc (suc zero)))) p a b h = absurd (clash p)
  tag-told (suc (suc (suc (suc (suc zero))))) p a b h = absurd (clash p)
  tag-told (suc (suc (suc (suc (suc (suc zero)))))) p a b h = absurd (clash p)
  tag-told (suc (suc (suc (suc (suc (suc (suc zero))))))) p a b h = absurd (a refl)
  tag-told (suc (suc (suc (suc (suc (suc (suc (suc zero)))))))) p a b h = absurd (b refl)
  tag-told (suc (suc (suc (suc (suc (suc (suc (suc (suc zero))))))))) p a b h = absurd (clash p)
  tag-told (suc (suc (suc (suc (suc (suc (suc (suc (suc (suc k)))))))))) p a b h = absurd (omega arith)

  piece-told : (kind : ℕ) → is_piece kind ≡ true → kind ≤ 9 → told m (event_of kind bytes first xs ∷ es) ≡ added m (piece_kind kind) (piece_bytes kind bytes) ++ told m es
  unfolding told
  piece-told kind p h = ap (λ (e : Event). told m (e ∷ es)) (piece-event kind bytes first xs p h)

  eof-told : told m (event_of 7 bytes first xs ∷ es) ≡ []
  unfolding event_of told
  eof-told = refl

  fault-told : told m (event_of 8 bytes first xs ∷ es) ≡ []
  unfolding event_of told
  fault-told = refl

end-told : (m : Mode) → told m [] ≡ []
unfolding told
end-told m = refl

-- ---- a skip
module _ (events attributes source : List ℕ) (outer : Mode) (name : List ℕ) (count : ℕ) where
  abbrev from : ℕ → ℕ → List Event
  from n i = resolve_from events attributes source n i

  abbrev pub behind : Skip → List ℕ
  behind (next j) = told outer (from (count - j) j)
  behind (broken_at why j) = []

  turns : (e : Event) (es : List Event) (i depth : ℕ) → ((d : ℕ) → told (skipping outer name d) es ≡ behind (skip_of name d (i + 1) es)) → told outer es ≡ behind (next (i + 1))
      → told (skipping outer name depth) (e ∷ es) ≡ behind (skip_of name depth i (e ∷ es))
  unfolding told plan_at in_skip skip_of
  turns (Tag Start tag j xs) es i depth on out = on (cond (same_bytes tag name) (suc depth) depth)
  turns (Tag Empty tag j xs) es i depth on out = on depth
  turns (Tag End tag j xs) es i depth on out = go (same_bytes tag name) depth
    where
      go : (t : Bool) (d : ℕ) → told (cond t (shallower outer name d) (skipping outer name d)) es
          ≡ behind (cond t (up_from d (next (i + 1)) λ d. skip_of name d (i + 1) es) (skip_of name d (i + 1) es))
      go true zero = out
      go true (suc d) = on d
      go false d = on d
  turns (Piece k bytes) es i depth on out = on depth
  turns Eof es i depth on out = refl
  turns Fault es i depth on out = refl

  pub skip-told : (n i depth : ℕ) → n + i ≡ count → told (skipping outer name depth) (from n i) ≡ behind (skip_of name depth i (from n i))
  unfolding resolve_from told skip_of
  skip-told zero i depth e = refl
  skip-told (suc n) i depth e =
      let z : n ≡ count - (i + 1) = omega arith in
      turns (event_at events attributes source i) (from n (i + 1)) i depth
      (λ d. skip-told n (i + 1) d (omega arith))
      (ap (λ (m : ℕ). told outer (from m (i + 1))) z)

-- ---- one turn
module _ (events source : List ℕ) (a : Again) (kind : ℕ) (e : kind ≡ cond (leb (count_of events) a.event) 7 (kind_at events a.event)) where
  abbrev m : Mode
  m = mode_at a.mode status (output_of a.output)

  abbrev told_here : List ℕ → List ℕ
  told_here attributes = told (mode_at a.mode status (output_of a.output))
      (event_of kind (bytes_at events source a.event) (word events a.event 3) (attributes_from attributes source (word events a.event 4) (word events a.event 3))
      ∷ rest events attributes source (a.event + 1))

  at-event : (attributes : List ℕ) → a.event < count_of events → kind_at events a.event ≡ kind → told_from events attributes source a ≡ told_here attributes
  at-event attributes h q =
      ap (told (mode_at a.mode status (output_of a.output))) (resolve-next events attributes source (count_of events) a.event h)
      ∙ ap (λ (x : Event). told (mode_at a.mode status (output_of a.output)) (x ∷ rest events attributes source (a.event + 1))) (event-of-kind events attributes source a.event kind q)

  pub turn-eof : kind ≡ 7 → (attributes : List ℕ) → told_from events attributes source a ≡ []
  turn-eof z attributes = go (leb (count_of events) a.event) refl e
    where
      go : (t : Bool) → leb (count_of events) a.event ≡ t → kind ≡ cond t 7 (kind_at events a.event) → told_from events attributes source a ≡ []
      go true p q =
          ap (told (mode_at a.mode status (output_of a.output))) (resolve-end events attributes source (count_of events) a.event (leb-true (count_of events) a.event p))
          ∙ end-told (mode_at a.mode status (output_of a.output))
      go false p q = at-event attributes (leb-false (count_of events) a.event p) (sym q)
          ∙ rw z (eof-told (mode_at a.mode status (output_of a.output)) (rest events attributes source (a.event + 1)) (bytes_at events source a.event) (word events a.event 3)
          (attributes_from attributes source (word events a.event 4) (word events a.event 3)))

  module _ (h : kind ≡ 7 → ⊥) where
    pub in_table : a.event < count_of events
    in_table = kind-within events a.event kind e h

    here : (attributes : List ℕ) → told_from events attributes source a ≡ told_here attributes
    here attributes = at-event attributes in_table (kind-is events a.event kind e h)

    pub turn-fault : kind ≡ 8 → (attributes : List ℕ) → told_from events attributes source a ≡ []
    turn-fault z attributes = here attributes
        ∙ rw z (fault-told (mode_at a.mode status (output_of a.output)) (rest events attributes source (a.event + 1)) (bytes_at events source a.event) (word events a.event 3)
        (attributes_from attributes source (word events a.event 4) (word events a.event 3)))

    module _ (known : Known events) (bytes : List ℕ) (b : bytes ≡ cond (leb (count_of events) a.event) [] (bytes_at events source a.event)) where
      low : kind ≤ 9
      low = subst (λ (k : ℕ). k ≤ 9) (kind-is events a.event kind e h) (known a.event in_table)

      same : bytes ≡ bytes_at events source a.event
      same = bytes-in events source a.event in_table bytes b

      abbrev piece : List ℕ
      piece = added (mode_at a.mode status (output_of a.output)) (piece_kind kind) (piece_bytes kind bytes)

      piece-tells : is_piece kind ≡ true → (attributes : List ℕ) → told_from events attributes source a
          ≡ piece ++ told (mode_at a.mode status (output_of a.output)) (rest events attributes source (a.event + 1))
      piece-tells p attributes = here attributes
          ∙ piece-told (mode_at a.mode status (output_of a.output)) (rest events attributes source (a.event + 1)) (bytes_at events source a.event) (word events a.event 3)
          (attributes_from attributes source (word events a.event 4) (word events a.event 3)) kind p low
          ∙ ap (λ (s : List ℕ). added (mode_at a.mode status (output_of a.output)) (piece_kind kind) (piece_bytes kind s)
          ++ told (mode_at a.mode status (output_of a.output)) (rest events attributes source (a.event + 1))) (sym same)

      module _ (before after : List ℕ) (area : after ≡ take a.fill before ++ laid (drop a.fill before) piece) where
        pub turn-piece : is_piece kind ≡ true → (n : ℕ) → gives n ≡ placing cause.ScratchFull (length before - a.fill) piece
            → Went events source before after a (record { mode = a.mode; output = a.output; event = a.event + 1; fill = a.fill + n })
        turn-piece p n q =
            let f = put-fits cause.ScratchFull (length before - a.fill) piece n q in
            record {
              more = piece;
              tells = piece-tells p;
              later = omega arith;
              within = let z = in_table in omega arith;
              fill = ap (λ (x : ℕ). a.fill + x) f.1;
              fits = f.0;
              area = area;
            }

        pub turn-over : is_piece kind ≡ true → refuses cause.ScratchFull ≡ placing cause.ScratchFull (length before - a.fill) piece → Over events source before after a
        turn-over p q = record {
          more = piece;
          behind = λ attributes. told (mode_at a.mode status (output_of a.output)) (rest events attributes source (a.event + 1));
          tells = piece-tells p;
          over = full-over cause.ScratchFull (length before - a.fill) piece q;
          area = area;
        }

      module _ (p : is_piece kind ≡ false) (h' : kind ≡ 8 → ⊥) where
        tag-tells : (attributes : List ℕ) → told_from events attributes source a
            ≡ along (plan_at (mode_at a.mode status (output_of a.output)) true (tag_kind kind) bytes) λ n. told n (rest events attributes source (a.event + 1))
        tag-tells attributes = here attributes
            ∙ tag-told (mode_at a.mode status (output_of a.output)) (rest events attributes source (a.event + 1)) (bytes_at events source a.event) (word events a.event 3)
            (attributes_from attributes source (word events a.event 4) (word events a.event 3)) kind p h h' low
            ∙ ap (λ (s : List ℕ). along (plan_at (mode_at a.mode status (output_of a.output)) true (tag_kind kind) s) λ n. told n (rest events attributes source (a.event + 1))) (sym same)

        pub turn-to : (before : List ℕ) (n : CodedMode) (o : CodedOutput)
            → ((f : Mode → List ℕ) → along (plan_at (mode_at a.mode status (output_of a.output)) true (tag_kind kind) bytes) f ≡ f (mode_at n status (output_of o)))
            → Went events source before before a (record { mode = n; output = o; event = a.event + 1; fill = a.fill })
        turn-to before n o l = record {
          more = [];
          tells = λ attributes. tag-tells attributes ∙ l (λ x. told x (rest events attributes source (a.event + 1)));
          later = omega arith;
          within = let z = in_table in omega arith;
          fill = omega arith;
          fits = omega arith;
          area = none-laid before a.fill;
        }

        pub turn_end : ((f : Mode → List ℕ) → along (plan_at (mode_at a.mode status (output_of a.output)) true (tag_kind kind) bytes) f ≡ [])
            → (attributes : List ℕ) → told_from events attributes source a ≡ []
        turn_end l attributes = tag-tells attributes ∙ l (λ x. told x (rest events attributes source (a.event + 1)))

        module _ (l : (f : Mode → List ℕ) → along (plan_at (mode_at a.mode status (output_of a.output)) true (tag_kind kind) bytes) f ≡ f (skipping (at status) bytes 0)) where
          skip-tells : (attributes : List ℕ) → told_from events attributes source a
              ≡ behind events attributes source (at status) bytes (count_of events) (skip_of bytes 0 (a.event + 1) (rest events attributes source (a.event + 1)))
          skip-tells attributes = tag-tells attributes ∙ l (λ x. told x (rest events attributes source (a.event + 1)))
              ∙ skip-told events attributes source (at status) bytes (count_of events) (count_of events - (a.event + 1)) (a.event + 1) 0 (let z = in_table in omega arith)

          pub turn-skip : (before : List ℕ) (r : Result ℕ (Cause × ℕ))
              → ((attributes : List ℕ) → skip_answer r ≡ skip_of (bytes_at events source a.event) 0 (a.event + 1) (rest events attributes source (a.event + 1)))
              → Turned events source before before a (Some (turn_behind r a.output a.fill))
          turn-skip before (Ok j) q =
              let w : Far (a.event + 1) (a.event + 1 + (count_of events - (a.event + 1))) (next j) =
              subst (Far (a.event + 1) (a.event + 1 + (count_of events - (a.event + 1)))) (sym (q []))
              (skip-within unlimited events [] source (bytes_at events source a.event) 0 (count_of events - (a.event + 1)) (a.event + 1)) in
              record {
                more = [];
                tells = λ attributes. skip-tells attributes
                    ∙ ap (λ (s : List ℕ). behind events attributes source (at status) bytes (count_of events) (skip_of s 0 (a.event + 1) (rest events attributes source (a.event + 1)))) same
                    ∙ ap (behind events attributes source (at status) bytes (count_of events)) (sym (q attributes));
                later = let x = w.0 in omega arith;
                within = let x = w.1 in let z = in_table in omega arith;
                fill = omega arith;
                fits = omega arith;
                area = none-laid before a.fill;
              }
          turn-skip before (Err (why, j)) q = (
            λ attributes. skip-tells attributes
                ∙ ap (λ (s : List ℕ). behind events attributes source (at status) bytes (count_of events) (skip_of s 0 (a.event + 1) (rest events attributes source (a.event + 1)))) same
                ∙ ap (behind events attributes source (at status) bytes (count_of events)) (sym (q attributes)),
            refl,
          )
