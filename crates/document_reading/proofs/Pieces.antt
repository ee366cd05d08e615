-- What pieces add to a reader where areas have no limit. Assumes nothing.
use Prim.Native.Nat.{ℕ}
use mathlib.Core.Bool.{true, cond}
use mathlib.Core.List.{List, [], ◌∷◌, ◌++◌, append_assoc, append-nil}
use mathlib.Core.Path.{◌≡◌, refl, sym, ap, subst, ◌∙◌}
use Rattle.read_spelling.specs.of_area.Answer.{gives}
use Rattle.read_spelling.specs.of_trim.Trim.{trimmed}
use Rattle.read_spelling.specs.of_refusal.Refusal.{nowhere, Outcome, accepted}
use Rattle.xml_grammar.specs.of_table.Event.{PieceKind, Event, Piece}
use Rattle.read_spelling.specs.of_tree_report.Report.{Text}
use Rattle.read_spelling.specs.of_read_element.Outcome.{◌>>=◌, Place, there, need, fits, unlimited}
use Rattle.read_spelling.specs.of_read_state.Control.{top, suite, case, status, Mode, at, gathering, listing, skipping, finished, gathers}
use Rattle.read_spelling.specs.of_read_place.Marks.{Marks, onward}
use Rattle.read_spelling.specs.of_read_path.Paths.{mode_path}
use Rattle.document_events.specs.of_read_content.Content.{piece_of}
use Rattle.read_spelling.specs.of_read_report.Deserialize.{Draft, with_texts, join_piece, gather, Reader, step, steps}
use Rattle.read_spelling.proofs.ValueBare.{Bare, BareReader}
use Rattle.document_events.specs.inside.Respelt.{is_white, run, Joins, no-piece, a_piece}
use Rattle.document_reading.proofs.White.{trimmed-white, white-piece}
use Rattle.document_reading.proofs.Beside.{Drafts, drafts, reader, Beside, beside}

-- a text behind the one that is gathered
abbrev pub grown : Mode → Text → Draft → Draft
grown (at top) v d = d
grown (at suite) v d = d
grown (at case) v d = d
grown (at status) v d = with_texts d (d.description ++ v) d.text
grown (gathering l o) v d = with_texts d d.description (d.text ++ v)
grown (listing l) v d = d
grown (skipping m name depth) v d = d
grown finished v d = d

abbrev pub taken : Text → Marks → Reader → Reader
taken v m s = reader s.control (grown s.control.mode v s.draft) m

-- ---- one piece
module _ (k : PieceKind) (s v : List ℕ) (e : piece_of k s ≡ gives v) where
  gathered : (p : Place) (m : Mode) (d : Draft) → gather unlimited p m k s d ≡ accepted (join_piece m v d)
  unfolding gather there need fits ◌>>=◌
  gathered p m d = rw e refl

  grows : (p : Place) (m : Mode) (d : Draft) → cond (gathers m) (gather unlimited p m k s d) (accepted d) ≡ accepted (grown m v d)
  unfolding gathers
  grows p (at top) d = refl
  grows p (at suite) d = refl
  grows p (at case) d = refl
  grows p (at status) d = gathered p (at status) d
  grows p (gathering l o) d = gathered p (gathering l o) d
  grows p (listing l) d = refl
  grows p (skipping m name depth) d = refl
  grows p finished d = refl

  pub piece-step : (t : Reader) → step unlimited (Piece k s) t ≡ accepted (taken v (onward t.marks) t)
  unfolding step ◌>>=◌
  piece-step t =
      ap (λ (o : Outcome Draft). o >>= λ d. accepted (reader t.control d (onward t.marks)))
      (grows (record { path = mode_path t.control.mode t.marks; event = t.marks.event; attribute = nowhere }) t.control.mode t.draft)

  pub piece-steps : (es : List Event) (t : Reader) → steps unlimited (Piece k s ∷ es) t ≡ steps unlimited es (taken v (onward t.marks) t)
  unfolding steps ◌>>=◌
  piece-steps es t = ap (λ (o : Outcome Reader). o >>= λ u. steps unlimited es u) (piece-step t)

-- ---- pieces that join to a text
grown-nothing : (m : Mode) (d : Draft) → grown m [] d ≡ d
grown-nothing (at top) d = refl
grown-nothing (at suite) d = refl
grown-nothing (at case) d = refl
grown-nothing (at status) d = ap (λ (v : Text). with_texts d v d.text) (append-nil d.description)
grown-nothing (gathering l o) d = ap (λ (v : Text). with_texts d d.description v) (append-nil d.text)
grown-nothing (listing l) d = refl
grown-nothing (skipping m name depth) d = refl
grown-nothing finished d = refl

pub grown-twice : (m : Mode) (v w : Text) (d : Draft) → grown m w (grown m v d) ≡ grown m (v ++ w) d
grown-twice (at top) v w d = refl
grown-twice (at suite) v w d = refl
grown-twice (at case) v w d = refl
grown-twice (at status) v w d = ap (λ (x : Text). with_texts d x d.text) (append_assoc d.description v w)
grown-twice (gathering l o) v w d = ap (λ (x : Text). with_texts d d.description x) (append_assoc d.text v w)
grown-twice (listing l) v w d = refl
grown-twice (skipping m name depth) v w d = refl
grown-twice finished v w d = refl

pub joins-steps : {ps : List Event} {v : Text} → Joins ps v → (es : List Event) (t : Reader) → (m : Marks) × (steps unlimited (ps ++ es) t ≡ steps unlimited es (taken v m t))
joins-steps no-piece es t = (t.marks, ap (λ (d : Draft). steps unlimited es (reader t.control d t.marks)) (sym (grown-nothing t.control.mode t.draft)))
joins-steps (a_piece {k = k} {s = s} {v = v} {w = w} {ps = ps} e h) es t =
    let r = joins-steps h es (taken v (onward t.marks) t) in
    (r.0, piece-steps k s v e (ps ++ es) t ∙ r.1 ∙ ap (λ (d : Draft). steps unlimited es (reader t.control d r.0)) (grown-twice t.control.mode v w t.draft))

-- white space before a tag
pub white-joins : (w : List ℕ) → is_white w ≡ true → Joins (run w) w
white-joins [] h = no-piece
white-joins (b ∷ w) h = subst (λ (v : List ℕ). Joins (run (b ∷ w)) v) (append-nil (b ∷ w)) (a_piece (white-piece (b ∷ w) h) no-piece)

-- ---- the same but for white space
-- nothing is gathered yet
abbrev pub Vacant : Mode → Draft → Type 0
Vacant (at top) d = Unit {0}
Vacant (at suite) d = Unit {0}
Vacant (at case) d = Unit {0}
Vacant (at status) d = d.description ≡ []
Vacant (gathering l o) d = d.text ≡ []
Vacant (listing l) d = Unit {0}
Vacant (skipping m name depth) d = Unit {0}
Vacant finished d = Unit {0}

module _ (w : List ℕ) (white : is_white w ≡ true) where
  drafts-white : (m : Mode) {d e : Draft} → Drafts d e → Drafts d (grown m w e)
  drafts-white (at top) h = h
  drafts-white (at suite) h = h
  drafts-white (at case) h = h
  drafts-white (at status) (drafts {v = v} x y) = drafts (trimmed-white w white v ∙ x) y
  drafts-white (gathering l o) (drafts {w = v} x y) = drafts x (trimmed-white w white v ∙ y)
  drafts-white (listing l) h = h
  drafts-white (skipping m name depth) h = h
  drafts-white finished h = h

  white-drafts : (m : Mode) {d e : Draft} → Drafts d e → Drafts (grown m w d) e
  white-drafts (at top) h = h
  white-drafts (at suite) h = h
  white-drafts (at case) h = h
  white-drafts (at status) {d = d} (drafts x y) = drafts (x ∙ sym (trimmed-white w white d.description)) y
  white-drafts (gathering l o) {d = d} (drafts x y) = drafts x (y ∙ sym (trimmed-white w white d.text))
  white-drafts (listing l) h = h
  white-drafts (skipping m name depth) h = h
  white-drafts finished h = h

  pub beside-white : {s t : Reader} (m : Marks) → Beside s t → Beside s (taken w m t)
  beside-white {s} m (beside h) = beside (drafts-white s.control.mode h)

  pub white-beside : {s t : Reader} (m : Marks) → Beside s t → Beside (taken w m s) t
  white-beside {s} m (beside h) = beside (white-drafts s.control.mode h)

module _ (v w : Text) (same : trimmed w ≡ trimmed v) where
  begun : (x y : Text) → x ≡ [] → y ≡ [] → trimmed (y ++ w) ≡ trimmed (x ++ v)
  begun x y p q = ap (λ (z : Text). trimmed (z ++ w)) q ∙ same ∙ ap (λ (z : Text). trimmed (z ++ v)) (sym p)

  drafts-text : (m : Mode) {d e : Draft} → Drafts d e → Vacant m d → Vacant m e → Drafts (grown m v d) (grown m w e)
  drafts-text (at top) h p q = h
  drafts-text (at suite) h p q = h
  drafts-text (at case) h p q = h
  drafts-text (at status) {d = d} (drafts {v = y} f g) p q = drafts (begun d.description y p q) g
  drafts-text (gathering l o) {d = d} (drafts {w = y} f g) p q = drafts f (begun d.text y p q)
  drafts-text (listing l) h p q = h
  drafts-text (skipping m name depth) h p q = h
  drafts-text finished h p q = h

  pub beside-text : {s t : Reader} (m n : Marks) → Beside s t → Vacant s.control.mode s.draft → Vacant t.control.mode t.draft → Beside (taken v m s) (taken w n t)
  beside-text {s} m n (beside h) p q = beside (drafts-text s.control.mode h p q)

-- ---- outside of status elements nothing is gathered but in an output
grown-bare : (m : Mode) (v : Text) (d : Draft) → Bare m d → Bare m (grown m v d)
grown-bare (at top) v d b = b
grown-bare (at suite) v d b = b
grown-bare (at case) v d b = b
grown-bare (at status) v d b = b
grown-bare (gathering top o) v d b = b
grown-bare (gathering suite o) v d b = b
grown-bare (gathering case o) v d b = b
grown-bare (gathering status o) v d b = tt
grown-bare (listing l) v d b = b
grown-bare (skipping m name depth) v d b = b
grown-bare finished v d b = b

pub taken-bare : (v : Text) (m : Marks) (s : Reader) → BareReader s → BareReader (taken v m s)
taken-bare v m s b = grown-bare s.control.mode v s.draft b
