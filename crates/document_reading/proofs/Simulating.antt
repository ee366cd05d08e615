-- The events of a document are read as the written ones, where areas have no limit. Assumes nothing.
use Prim.Native.Nat.{ℕ}
use mathlib.Core.Bool.{Bool, true, false}
use mathlib.Core.List.{List, [], ◌∷◌, ◌++◌}
use mathlib.Core.Path.{◌≡◌, refl, sym, ap, subst, ◌∙◌}
use Rattle.read_spelling.specs.of_area.Answer.{gives}
use Rattle.read_spelling.specs.of_refusal.Refusal.{Outcome, accepted, refused}
use Rattle.xml_grammar.specs.of_table.Event.{Attribute, TagKind, Start, Empty, End, Text, Other, Indent, Event, Tag, Piece, Eof}
use Rattle.read_spelling.specs.of_read_element.Outcome.{unlimited}
use Rattle.read_spelling.proofs.of_read_element.TreeOutcome.{Holds, accept, refuse}
use Rattle.read_spelling.proofs.of_read_element.TreeOutcome as hold
use Rattle.read_spelling.specs.of_read_place.Marks.{Marks, onward}
use Rattle.document_events.specs.of_read_content.Content.{piece_of}
use Rattle.read_spelling.specs.of_read_report.Deserialize.{Reader, act, step, steps, begin}
use Rattle.read_spelling.proofs.ValueBare.{BareReader, stepped}
use Rattle.document_events.specs.inside.Respelt.{opens, Respelt, a-tag, a-text, indented, declared, ended}
use Rattle.document_reading.specs.inside.Calm.{Calm}
use Rattle.document_reading.proofs.White.{trimmed-white}
use Rattle.document_reading.proofs.Following.{Follow, bind, knowing, weaken, followed}
use Rattle.document_reading.proofs.Beside.{drafts, Beside, beside, tag-follows, eof-follows, same-control, same-report, same-room}
use Rattle.document_reading.proofs.Pieces.{taken, piece-steps, joins-steps, white-joins, Vacant, beside-white, white-beside, beside-text, taken-bare}
use Rattle.document_reading.proofs.Starting.{start-vacant, Rest, outside, tag-rest, piece-rest, start-still}

-- directly behind a Start nothing is gathered yet
abbrev Fresh : Bool → Reader → Type 0
Fresh true s = Vacant s.control.mode s.draft
Fresh false s = Unit {0}

-- both readers before events that are to come
record Standing (fresh : Bool) (es : List Event) (s t : Reader) : Type 0 where
  pub near : Beside s t
  pub first : BareReader s × Fresh fresh s
  pub second : BareReader t × Fresh fresh t
  pub rest : Rest s.control.mode es

-- ---- behind a tag
nothing : {A : Type 0} (m : Outcome A) → Holds (λ a. Unit {0}) m
nothing (accepted a) = accept tt
nothing (refused r) = refuse

both : {A : Type 0} {P Q : A → Type 0} {m : Outcome A} → Holds P m → Holds Q m → Holds (λ a. P a × Q a) m
both (accept p) (accept q) = accept (p, q)
both refuse refuse = refuse

module _ (k : TagKind) (name : List ℕ) (xs : List Attribute) (es : List Event) where
  fresh-behind : (k : TagKind) (i j : ℕ) (s : Reader) → Rest s.control.mode (Tag k name i xs ∷ es) → BareReader s → Holds (Fresh (opens k)) (step unlimited (Tag k name j xs) s)
  fresh-behind Start i j s r b = start-vacant unlimited name j xs s (start-still r) b
  fresh-behind Empty i j s r b = nothing (step unlimited (Tag Empty name j xs) s)
  fresh-behind End i j s r b = nothing (step unlimited (Tag End name j xs) s)

  rest-behind : (i : ℕ) (s : Reader) → Rest s.control.mode (Tag k name i xs ∷ es) → Holds (λ u. Rest u.control.mode es) (step unlimited (Tag k name i xs) s)
  unfolding step act
  rest-behind i s r = hold.bind (nothing _) λ d u. accept (tag-rest s.control k name i xs es r)

  tag-behind : (i j : ℕ) (s t : Reader) → Beside s t → BareReader s → BareReader t → Rest s.control.mode (Tag k name i xs ∷ es)
      → Follow (Standing (opens k) es) (step unlimited (Tag k name i xs) s) (step unlimited (Tag k name j xs) t)
  tag-behind i j s t h b c r =
      let q : Rest t.control.mode (Tag k name i xs ∷ es) = subst (λ (x : _). Rest x.mode (Tag k name i xs ∷ es)) (sym (same-control h)) r in
      weaken (knowing (tag-follows unlimited k name i j xs h)
      (both (both (stepped unlimited (Tag k name i xs) s b) (fresh-behind k i i s r b)) (rest-behind i s r))
      (both (stepped unlimited (Tag k name j xs) t c) (fresh-behind k i j t q c))) λ u v z.
      record { near = z.0; first = z.1.0; second = z.2; rest = z.1.1 }

-- ---- the whole
along : {o n u v : Outcome Reader} → o ≡ n → u ≡ v → Follow Beside n v → Follow Beside o u
along {n = n} {u = u} e f h = subst (λ (x : Outcome Reader). Follow Beside x u) (sym e) (subst (λ (x : Outcome Reader). Follow Beside n x) (sym f) h)

abbrev next : Reader → Marks
next s = onward s.marks

newline : piece_of Indent (10 ∷ []) ≡ gives (10 ∷ [])
unfolding piece_of
newline = refl

no_text : (s : List ℕ) → piece_of Other s ≡ gives []
unfolding piece_of
no_text s = refl

simulate : {fresh : Bool} {es gs : List Event} → Respelt fresh es gs → (s t : Reader) → Standing fresh es s t → Follow Beside (steps unlimited es s) (steps unlimited gs t)
unfolding steps
simulate (a-tag {kind = k} {name = name} {i = i} {xs = xs} {es = es} {fs = fs} w j white r e) s t h =
    let q = joins-steps (white-joins w white) (Tag k name j xs ∷ fs) t in
    along refl (ap (λ (l : List Event). steps unlimited l t) e ∙ q.1)
    (bind (tag-behind k name xs es i j s (taken w q.0 t) (beside-white w white q.0 h.near) h.first.0 (taken-bare w q.0 t h.second.0) h.rest) λ u v n. simulate r u v n)
simulate (a-text {s = b} {v = v} {ps = ps} {es = es} {fs = fs} p c r e) s t h =
    let q = joins-steps c fs t in
    along (piece-steps Text b v p es s) (ap (λ (l : List Event). steps unlimited l t) e ∙ q.1)
    (simulate r (taken v (next s) s) (taken v q.0 t) (record {
      near = beside-text v v refl (next s) q.0 h.near h.first.1 h.second.1;
      first = (taken-bare v (next s) s h.first.0, tt);
      second = (taken-bare v q.0 t h.second.0, tt);
      rest = piece-rest h.rest;
    }))
simulate (indented {s = b} {v = v} {ps = ps} {es = es} {fs = fs} w p white c r e) s t h =
    let q = joins-steps c fs t in
    let u : Reader = taken v (next s) s in
    along (piece-steps Text b v p (Piece Indent (10 ∷ []) ∷ es) s ∙ piece-steps Indent (10 ∷ []) (10 ∷ []) newline es u) (ap (λ (l : List Event). steps unlimited l t) e ∙ q.1)
    (simulate r (taken (10 ∷ []) (next u) u) (taken (v ++ w) q.0 t) (record {
      near = white-beside (10 ∷ []) refl (next u) (beside-text v (v ++ w) (trimmed-white w white v) (next s) q.0 h.near h.first.1 h.second.1);
      first = (taken-bare (10 ∷ []) (next u) u (taken-bare v (next s) s h.first.0), tt);
      second = (taken-bare (v ++ w) q.0 t h.second.0, tt);
      rest = piece-rest (piece-rest h.rest);
    }))
simulate (declared {s = b} {es = es} {fs = fs} r) s t h =
    along (piece-steps Other b [] (no_text b) es s) (piece-steps Other b [] (no_text b) fs t)
    (simulate r (taken [] (next s) s) (taken [] (next t) t) (record {
      near = white-beside [] refl (next s) (beside-white [] refl (next t) h.near);
      first = (taken-bare [] (next s) s h.first.0, tt);
      second = (taken-bare [] (next t) t h.second.0, tt);
      rest = piece-rest h.rest;
    }))
simulate (ended w white e) s t h =
    let q = joins-steps (white-joins w white) (Eof ∷ []) t in
    along refl (ap (λ (l : List Event). steps unlimited l t) e ∙ q.1)
    (bind (eof-follows unlimited (beside-white w white q.0 h.near)) λ u v n.
    along (piece-steps Indent (10 ∷ []) (10 ∷ []) newline [] u) refl (eof-follows unlimited (white-beside (10 ∷ []) refl (next u) n)))

pub respelt-steps : (es fs : List Event) (last : Reader) → Calm es → Respelt false es fs → steps unlimited es begin ≡ accepted last
    → (end : Reader) × (steps unlimited fs begin ≡ accepted end) × (end.draft.used ≡ last.draft.used) × (end.draft.report ≡ last.draft.report)
respelt-steps es fs last c r e =
    let h = followed (simulate r begin begin (record { near = beside (drafts refl refl); first = ((refl, refl), tt); second = ((refl, refl), tt); rest = outside refl c })) last e in
    (h.0, h.1, same-room h.2, same-report h.2)
