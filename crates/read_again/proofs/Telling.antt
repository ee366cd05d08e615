-- Inside a status element, what the description has and what is told of the events to come are together the same behind each event,
-- so that the description at the element's End is what is told of the events from its first piece on. Assumes nothing.
use Prim.Native.Nat.{ℕ, zero, suc}
use mathlib.Core.Path.{◌≡◌, refl, sym, ap, ◌∙◌}
use mathlib.Core.List.{List, [], ◌∷◌, ◌++◌, append_assoc}
use mathlib.Core.Bool.{Bool, true, false, cond}
use mathlib.Core.Logic.{◌⊎◌, inl, inr}
use lib.Dec.{eqb}
use native.Mathlib.Omega.{arith}
use Rattle.read_pieces.specs.of_names.Names.{same_bytes}
use Rattle.read_pieces.specs.of_names.Tags.{tag_of}
use Rattle.read_pieces.specs.of_area.Answer.{Answer, gives}
use Rattle.read_pieces.specs.of_table.Event.{Attribute, TagKind, Start, Empty, End, PieceKind, Event, Tag, Piece}
use Rattle.read_pieces.specs.of_read_element.Outcome.{◌>>=◌, Rooms, Place}
use Rattle.read_pieces.proofs.of_read_element.TreeOutcome.{Holds, accept, bind, needed, answered, either}
use Rattle.read_pieces.specs.of_read_state.Control.{Level, top, suite, case, status, Output, Mode, at, gathering, listing, skipping, finished, gathers, turn, is_status}
use Rattle.read_pieces.specs.of_read_state.Control.{Act, pass, open_report, open_suite, open_case, open_status, close_suite, close_case, close_status}
use Rattle.read_pieces.specs.of_read_state.Control.{open_text, close_text, open_list, read_property, stop, missing, broken, or_skip}
use Rattle.read_pieces.specs.of_read_rules.Rules.{plan_at, at_status, child, outputs, emptied, in_text, in_skip, tag_of_output, shallower}
use Rattle.read_pieces.specs.of_read_place.Marks.{Marks}
use Rattle.read_machine.specs.of_read_path.Paths.{act_place}
use Rattle.read_machine.specs.of_read_content.Content.{Content, piece_of, join_piece, gather, takes, record_of_it, word_of, bit_of, keeping, outputting, perform}
use Rattle.read_machine.specs.Machine.{Machine, act, step}
use Rattle.read_again.specs.Told.{given, added, along, told}
use Rattle.read_again.specs.inside.Since.{is_status_level, inside}
use Rattle.read_pieces.specs.of_refusal.declared.Cause.TheVariants as cause

never : false ≡ true → ⊥
never e = let z : ◌≡◌ {A = ℕ} 0 1 = cc in omega arith

-- the acts behind which it still does
abbrev pub stays : Act → Bool
stays (pass m) = inside m
stays (open_text l o) = is_status_level l
stays (close_text l o) = is_status_level l
stays close_status = false
stays (open_report e) = false
stays (open_suite e) = false
stays (open_case e) = false
stays (open_status k e) = false
stays close_suite = false
stays close_case = false
stays (open_list l e) = false
stays (read_property l e name) = false
stays stop = false
stays missing = false
stays (broken why) = false

-- a tag there closes the element, or leaves reading inside it
abbrev Stays : Act → Type 0
Stays a = (a ≡ close_status) ⊎ (stays a ≡ true)

one_of : (b : Bool) {x y : Act} → Stays x → Stays y → Stays (cond b x y)
one_of true p q = p
one_of false p q = q

pub plan-stays : (m : Mode) (seen : Bool) (k : TagKind) (name : List ℕ) → inside m ≡ true → Stays (plan_at m seen k name)
unfolding plan_at at_status child outputs emptied or_skip in_text in_skip
plan-stays (at status) seen Start name h = one_of (eqb (tag_of name) 13) (inr refl) (one_of (eqb (tag_of name) 14) (inr refl) (one_of (eqb (tag_of name) 15) (inr refl) (inr refl)))
plan-stays (at status) seen Empty name h = one_of (eqb (tag_of name) 13) (inr refl) (one_of (eqb (tag_of name) 14) (inr refl) (one_of (eqb (tag_of name) 15) (inr refl) (inr refl)))
plan-stays (at status) seen End name h = one_of (is_status (tag_of name)) (inl refl) (inr refl)
plan-stays (gathering l o) seen Start name h = inr h
plan-stays (gathering l o) seen Empty name h = inr h
plan-stays (gathering l o) seen End name h = one_of (eqb (tag_of name) (tag_of_output o)) (inr h) (inr h)
plan-stays (skipping m skipped depth) seen Start name h = inr h
plan-stays (skipping m skipped depth) seen Empty name h = inr h
plan-stays (skipping m skipped depth) seen End name h = inr (go (same_bytes name skipped) depth)
  where
    go : (t : Bool) (d : ℕ) → inside (cond t (shallower m skipped d) (skipping m skipped d)) ≡ true
    go true zero = h
    go true (suc d) = h
    go false d = h
plan-stays (at top) seen k name h = absurd (never h)
plan-stays (at suite) seen k name h = absurd (never h)
plan-stays (at case) seen k name h = absurd (never h)
plan-stays (listing l) seen k name h = absurd (never h)
plan-stays finished seen k name h = absurd (never h)

-- whether a report was seen doesn't matter there
pub plan-unseen : (m : Mode) (seen : Bool) (k : TagKind) (name : List ℕ) → inside m ≡ true → plan_at m seen k name ≡ plan_at m true k name
unfolding plan_at
plan-unseen (at status) seen k name h = refl
plan-unseen (gathering l o) seen k name h = refl
plan-unseen (skipping m skipped depth) seen k name h = refl
plan-unseen (at top) seen k name h = absurd (never h)
plan-unseen (at suite) seen k name h = absurd (never h)
plan-unseen (at case) seen k name h = absurd (never h)
plan-unseen (listing l) seen k name h = absurd (never h)
plan-unseen finished seen k name h = absurd (never h)

-- ---- one step
module _ (rooms : Rooms) (es : List Event) where
  -- behind a step reading is inside, and description and what is to come are what they were
  pub record Tells (s : Machine) (whole : List ℕ) (t : Machine) : Type 0 where
    pub stands : inside t.control.mode ≡ true
    pub same : s.content.description ++ whole ≡ t.content.description ++ told t.control.mode es

  keeps : (p : Place) (b : Bool) (i o k : ℕ) (v : List ℕ) (c : Content) → Holds (λ (d : Content). d.description ≡ c.description) (keeping rooms p b i o k v c)
  unfolding keeping
  keeps p b i o k v c = needed _ p cause.TextFull λ z. accept refl

  pub outputs-keep : (p : Place) (l : Level) (o : Output) (m : Marks) (c : Content) → Holds (λ (d : Content). d.description ≡ c.description) (outputting rooms p l o m c)
  unfolding outputting
  outputs-keep p l o m c = bind (keeps p (takes l m) (record_of_it l m) (word_of o) (bit_of o) c.gathered c) λ d e. accept e

  pub act-tells : (a : Act) (j : ℕ) (xs : List Attribute) (s : Machine) → stays a ≡ true → Holds (Tells s (along a λ n. told n es)) (act rooms a j xs s)
  unfolding act perform turn ◌>>=◌
  act-tells (pass m) j xs s h = accept (record { stands = h; same = refl })
  act-tells (open_text l o) j xs s h = accept (record { stands = h; same = refl })
  act-tells (close_text l o) j xs s h =
      bind (outputs-keep (act_place (close_text l o) s.control.mode s.marks) l o s.marks s.content) λ c e.
      accept (record { stands = h; same = ap (λ (x : List ℕ). x ++ told (at l) es) (sym e) })
  act-tells (open_report x) j xs s h = absurd (never h)
  act-tells (open_suite x) j xs s h = absurd (never h)
  act-tells (open_case x) j xs s h = absurd (never h)
  act-tells (open_status k x) j xs s h = absurd (never h)
  act-tells close_suite j xs s h = absurd (never h)
  act-tells close_case j xs s h = absurd (never h)
  act-tells close_status j xs s h = absurd (never h)
  act-tells (open_list l x) j xs s h = absurd (never h)
  act-tells (read_property l x name) j xs s h = absurd (never h)
  act-tells stop j xs s h = absurd (never h)
  act-tells missing j xs s h = absurd (never h)
  act-tells (broken why) j xs s h = absurd (never h)

  join-tells : (m : Mode) (k : PieceKind) (b v : List ℕ) (c : Content) → gathers m ≡ true → piece_of k b ≡ gives v
      → c.description ++ (added m k b ++ told m es) ≡ (join_piece m v c).description ++ told m es
  unfolding gathers
  join-tells (at l) k b v c g e = ap (λ (a : Answer (List ℕ)). c.description ++ (given a ++ told (at l) es)) e ∙ sym (append_assoc c.description v (told (at l) es))
  join-tells (gathering l o) k b v c g e = refl
  join-tells (listing l) k b v c g e = absurd (never g)
  join-tells (skipping m name depth) k b v c g e = absurd (never g)
  join-tells finished k b v c g e = absurd (never g)

  pub piece-tells : (k : PieceKind) (b : List ℕ) (s : Machine) → inside s.control.mode ≡ true → Holds (Tells s (told s.control.mode (Piece k b ∷ es))) (step rooms (Piece k b) s)
  unfolding step gather told gathers
  piece-tells k b s h =
      bind (either (gathers s.control.mode)
      (λ g. bind (answered _ (piece_of k b)) λ v e. needed _ _ cause.ScratchFull λ z. accept {a = join_piece s.control.mode v s.content} (join-tells s.control.mode k b v s.content g e))
      (λ g. accept {a = s.content} (unread s.control.mode g h))) λ c q.
      accept (record { stands = h; same = q })
    where
      unread : (m : Mode) → gathers m ≡ false → inside m ≡ true → s.content.description ++ (added m k b ++ told m es) ≡ s.content.description ++ told m es
      unread (skipping m name depth) g i = refl
      unread (at top) g i = absurd (never i)
      unread (at suite) g i = absurd (never i)
      unread (at case) g i = absurd (never i)
      unread (at status) g i = absurd (never (sym g))
      unread (gathering l o) g i = absurd (never (sym g))
      unread (listing l) g i = absurd (never i)
      unread finished g i = absurd (never i)

  pub tag-tells : (k : TagKind) (name : List ℕ) (j : ℕ) (xs : List Attribute) (s : Machine) → inside s.control.mode ≡ true
      → (plan_at s.control.mode true k name ≡ close_status) ⊎ Holds (Tells s (told s.control.mode (Tag k name j xs ∷ es))) (step rooms (Tag k name j xs) s)
  unfolding step told
  tag-tells k name j xs s h = go (plan-stays s.control.mode true k name h)
    where
      u : plan_at s.control.mode s.control.seen k name ≡ plan_at s.control.mode true k name
      u = plan-unseen s.control.mode s.control.seen k name h

      go : Stays (plan_at s.control.mode true k name)
          → (plan_at s.control.mode true k name ≡ close_status)
          ⊎ Holds (Tells s (along (plan_at s.control.mode true k name) λ n. told n es)) (act rooms (plan_at s.control.mode s.control.seen k name) j xs s)
      go (inl e) = inl e
      go (inr e) = inr (rw u (act-tells (plan_at s.control.mode true k name) j xs s e))

-- ---- the End of the element: nothing is to come
pub close-tells : (m : Mode) (k : TagKind) (name : List ℕ) (j : ℕ) (xs : List Attribute) (es : List Event) → plan_at m true k name ≡ close_status → told m (Tag k name j xs ∷ es) ≡ []
unfolding told
close-tells m k name j xs es e = ap (λ (a : Act). along a λ n. told n es) e
