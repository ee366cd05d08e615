-- A record put: the areas hold what the definition keeps. Assumes nothing.
use Prim.Native.Nat.{ℕ, ◌+◌, ◌*◌, ◌≤◌}
use mathlib.Core.Path.{◌≡◌, refl, ◌∙◌}
use mathlib.Core.List.{List, [], ◌∷◌, ◌++◌}
use mathlib.Core.Bool.{Bool, true, false, cond}
use native.Mathlib.Omega.{arith}
use lib.Dec.{ltb}
use lib.ListN.{length, length-append}
use Rattle.xml_rep.specs.of_xml_machine.Tokens.{Rec, rec, Due, event, attribute, Kept, keep, rooms, room_of}
use Rattle.xml_rep.specs.of_xml_stack.Stack.{Range, Stacked, put_at}
use Rattle.xml_rep.specs.of_xml_state.declared.State.{State}
use Rattle.xml_rep.specs.of_xml_state.declared.Step.TheVariants.{Go, Full}
use Rattle.xml_rep.specs.of_xml_state.inside.Registers.{with_kept, with_count}
use Rattle.xml_rep.specs.of_xml_state.inside.Puts.{Stepped, stepped, room_for, putting}
use Rattle.xml_records.specs.inside.Holding.{Holds, Puts}
use Rattle.xml_records.proofs.Rooms.{room-law, room_fits, laid_more, fits_more}

module _ {size : ℕ} {kept : Kept} {rs : List Range} {st : State} {events attributes : List ℕ} (h : Holds size kept rs st events attributes) (Q : State → ℕ → Type 0) where
  -- a step of the event area, and of the attributes' area
  abbrev pub Does : Due → List Range → Stepped → Type 0
  Does d ms p = Puts size (rooms (length events) (length attributes)) kept d ms Q p.step p.events attributes

  abbrev pub Adds : Due → Stepped → Type 0
  Adds d p = Puts size (rooms (length events) (length attributes)) kept d rs Q p.step events p.events

  -- an event, behind a change of the chain that gave ev
  pub put-event : (x : State) (ev : List ℕ) (ms : List Range) (k s l f c : ℕ) (r : Rec) → length ev ≡ length events → x.count ≡ length kept.events → x.kept ≡ length kept.attributes →
      (length kept.events * 5 + 5 ≤ length ev → Stacked size (kept.events ++ (r ∷ [])) ms x.top (put_at ev (length kept.events) k s l f c)) →
      Q (with_count (x.count + 1) x) (length kept.attributes) → Does (event r) ms (putting x k s l f c ev)
  unfolding putting keep
  put-event x ev ms k s l f c r w n m new q = by (room_for x.count (length ev)) refl
    where
      same : ltb (length kept.events) (room_of (length events)) ≡ room_for x.count (length ev)
      same = rw (n, w) (room-law (length kept.events) (length events))

      by : (y : Bool) → room_for x.count (length ev) ≡ y → Does (event r) ms (putting x k s l f c ev)
      by true t =
          let g : length kept.events * 5 + 5 ≤ length ev = omega (arith, n, (room_fits x.count (length ev) t).1) in
          simp t (
            record { events = kept.events ++ (r ∷ []); attributes = kept.attributes },
            (λ f. simp (same ∙ t) refl),
            record {
              stacked = rw n (new g);
              count = omega (arith, n, length-append kept.events (r ∷ []));
              fits = h.fits;
              laid = h.laid;
              many = m;
            },
            q,
          )
      by false t = simp t (λ f. simp (same ∙ t) refl)

  -- an attribute
  pub put-attribute : (x : State) (k s l f c : ℕ) → x.count ≡ st.count → x.top ≡ st.top → Q (with_kept (st.kept + 1) x) (length kept.attributes + 1) →
      Adds (attribute (rec k s l f c)) (cond (room_for st.kept (length attributes)) (stepped (Go (with_kept (st.kept + 1) x)) (put_at attributes st.kept k s l f c)) (stepped Full attributes))
  unfolding keep
  put-attribute x k s l f c n p q = by (room_for st.kept (length attributes)) refl
    where
      same : ltb (length kept.attributes) (room_of (length attributes)) ≡ room_for st.kept (length attributes)
      same = rw h.many (room-law (length kept.attributes) (length attributes))

      more : length (kept.attributes ++ (rec k s l f c ∷ [])) ≡ length kept.attributes + 1
      more = length-append kept.attributes (rec k s l f c ∷ [])

      by : (y : Bool) → room_for st.kept (length attributes) ≡ y →
          Adds (attribute (rec k s l f c)) (cond y (stepped (Go (with_kept (st.kept + 1) x)) (put_at attributes st.kept k s l f c)) (stepped Full attributes))
      by true t =
          let g : length kept.attributes * 5 + 5 ≤ length attributes = omega (arith, h.many, (room_fits st.kept (length attributes) t).1) in (
            record { events = kept.events; attributes = kept.attributes ++ (rec k s l f c ∷ []) },
            (λ f. simp (same ∙ t) refl),
            record {
              stacked = rw p h.stacked;
              count = n ∙ h.count;
              fits = rw h.many (fits_more kept.attributes attributes k s l f c g);
              laid = rw h.many (laid_more kept.attributes attributes k s l f c h.laid g);
              many = omega (arith, h.many, more);
            },
            rw more q,
          )
      by false t = λ f. simp (same ∙ t) refl
