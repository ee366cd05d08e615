-- One event amid a case. Assumes nothing.
use Prim.Native.Nat.{ℕ}
use mathlib.Core.Bool.{Bool, true, false, cond}
use mathlib.Core.List.{List, [], ◌∷◌, ◌++◌}
use mathlib.Core.Path.{◌≡◌, refl, ap, ◌∙◌}
use lib.Dec.{eqb}
use lib.ListN.{length}
use Rattle.round_elements.specs.of_area.Answer.{gives}
use Rattle.round_elements.specs.of_refusal.Refusal.{Outcome, accepted}
use Rattle.round_elements.specs.of_table.Event.{Attribute, TagKind, Start, End, PieceKind, Tag, Piece}
use Rattle.round_elements.specs.of_tree_status.declared.Tally.{Tally}
use Rattle.round_elements.specs.of_tree_put.Put.{put_text}
use Rattle.round_elements.specs.of_read_element.Outcome.{◌>>=◌, there, need, fits, Place, unlimited}
use Rattle.round_elements.specs.of_read_element.Attributes.{changed}
use Rattle.round_elements.specs.of_read_state.Control.{Level, top, suite, case, status, Output, Mode, at, gathering, control, Act, open_text, close_text, gathers, turn}
use Rattle.round_elements.specs.of_read_rules.Rules.{plan_at}
use Rattle.round_elements.specs.of_read_place.Marks.{Marks, marks_after, onward}
use Rattle.round_elements.specs.of_read_path.Paths.{act_place}
use Rattle.round_elements.specs.of_read_content.Content.{Content, piece_of, join_piece, with_texts, gather, keeping, takes, record_of_it, word_of, bit_of, cleaned, outputting, perform}
use Rattle.round_elements.specs.of_read_machine.Machine.{Machine, act, step}
use Rattle.round_elements.specs.of_write_report.Written.{start_tag, end_tag}
use Rattle.round_case.specs.inside.Amid.{machine, holding, Spots, spots_of, Amid, Reads, Performs, record_in, takes_in}
use Rattle.round_case.proofs.Following.{reads-step, amid-reads}

-- ---- a tag
abbrev pub acted : Act → Mode → Tally → Content → Content → Marks → Machine
acted a mode tally c c' m = record { control = turn a (control mode true false tally); content = c'; marks = onward (marks_after a (length c.records) m) }

pub tag-reads : {n : ℕ} {P : Machine → Type 0} {Q : Content → Type 0} (k : TagKind) (name : List ℕ) (xs : List Attribute) (mode : Mode) (tally : Tally) (c : Content) (m : Marks) (a : Act)
    → plan_at mode true k name ≡ a → ((p : Place) (j : ℕ) → Performs (perform unlimited p a j xs (control mode true false tally) m c) Q)
    → ((c' : Content) → Q c' → P (acted a mode tally c c' m)) → Reads n (Tag k name 0 xs ∷ []) (machine mode tally c m) P
unfolding step act ◌>>=◌
tag-reads {n} k name xs mode tally c m a e f g =
    let j : ℕ = cond (eqb (length xs) 0) 0 n in
    let r = f (act_place a mode m) j in
    let s : Machine = machine mode tally c m in
    reads-step (acted a mode tally c r.after m) (Tag k name 0 xs)
    (ap (λ (x : Act). act unlimited x j xs s) e
    ∙ ap (λ (o : Outcome Content). o >>= λ c'. accepted (acted a mode tally c c' m)) r.answer)
    (g r.after r.holds)

-- ---- a piece of text
pub piece-reads : {n : ℕ} {mode : Mode} {tally : Tally} {c : Content} {spots : Spots} {s : Machine} (k : PieceKind) (b v : List ℕ) → gathers mode ≡ true → piece_of k b ≡ gives v
    → Amid mode tally c spots s → Reads n (Piece k b ∷ []) s (Amid mode tally (join_piece mode v c) spots)
unfolding step gather there need fits ◌>>=◌
piece-reads {n} {mode} {tally} {c} {spots} k b v g e h =
    amid-reads h (λ m q. reads-step (machine mode tally (join_piece mode v c) (onward m)) (Piece k b) (rw (g, e) refl) (record { marks = onward m; here = refl; same = q }))

-- ---- the texts of an element
record_of : (l : Level) (m : Marks) → record_of_it l m ≡ record_in l (spots_of m)
record_of top m = refl
record_of suite m = refl
record_of case m = refl
record_of status m = refl

takes_of : (l : Level) (m : Marks) → takes l m ≡ takes_in l (spots_of m)
takes_of top m = refl
takes_of suite m = refl
takes_of case m = refl
takes_of status m = refl

changed-seam : (f : List ℕ → List ℕ) (xs : List (List ℕ)) (r : List ℕ) (ys : List (List ℕ)) → changed (length xs) f (xs ++ (r ∷ ys)) ≡ xs ++ (f r ∷ ys)
changed-seam f [] r ys = refl
changed-seam f (x ∷ xs) r ys = ap (λ (l : List (List ℕ)). x ∷ l) (changed-seam f xs r ys)

-- a text that comes to t is stored, and put into the record that stands between xs and ys
module _ (o k : ℕ) (v t : List ℕ) (clean : cleaned v ≡ t) (xs : List (List ℕ)) (r : List ℕ) (ys : List (List ℕ)) (texts d g : List ℕ) where
  abbrev put : List ℕ
  put = put_text o k (length texts) (length t) r

  pub keeps : (p : Place) (taken : Bool) (i : ℕ) → taken ≡ true → i ≡ length xs
      → keeping unlimited p taken i o k v (holding (xs ++ (r ∷ ys)) texts d g) ≡ accepted (holding (xs ++ (put ∷ ys)) (texts ++ t) d g)
  unfolding keeping need fits
  keeps p taken i y e =
      rw (y, e, clean) (ap (λ (rs : List (List ℕ)). accepted (holding rs (texts ++ t) d g)) (changed-seam (put_text o k (length texts) (length t)) xs r ys))

-- where a child's text begins
pub text-opens : {n : ℕ} {c : Content} {spots : Spots} {tally : Tally} {s : Machine} (l : Level) (u : Output) (name : List ℕ) → plan_at (at l) true Start name ≡ open_text l u
    → Amid (at l) tally c spots s → Reads n (start_tag name [] ∷ []) s (Amid (gathering l u) tally c spots)
unfolding perform turn marks_after
text-opens {c = c} {tally = tally} l u name plan a =
    amid-reads a (λ m q. tag-reads {Q = λ x. x ≡ c} Start name [] (at l) tally c m (open_text l u) plan
    (λ p j. record { after = c; answer = refl; holds = refl })
    (λ x f. record { marks = onward m; here = ap (λ (y : Content). machine (gathering l u) tally y (onward m)) f; same = q }))

-- where it ends
pub text-closes : {n : ℕ} {spots : Spots} {tally : Tally} {s : Machine} {texts d v : List ℕ} (xs : List (List ℕ))
    (r : List ℕ) (ys : List (List ℕ)) (t : List ℕ) (l : Level) (u : Output) (name : List ℕ) → cleaned v ≡ t
    → plan_at (gathering l u) true End name ≡ close_text l u → record_in l spots ≡ length xs → takes_in l spots ≡ true → Amid (gathering l u) tally (holding (xs ++ (r ∷ ys)) texts d v) spots s
    → Reads n (end_tag name ∷ []) s (Amid (at l) tally (holding (xs ++ (put_text (word_of u) (bit_of u) (length texts) (length t) r ∷ ys)) (texts ++ t) d []) spots)
unfolding perform outputting turn marks_after ◌>>=◌
text-closes {spots = spots} {tally = tally} {texts = texts} {d = d} {v = v} xs r ys t l u name clean plan i y a =
    let after : Content = holding (xs ++ (put_text (word_of u) (bit_of u) (length texts) (length t) r ∷ ys)) (texts ++ t) d [] in
    amid-reads a (λ m q. tag-reads {Q = λ x. x ≡ after} End name [] (gathering l u) tally (holding (xs ++ (r ∷ ys)) texts d v) m (close_text l u) plan
    (λ p j. record {
      after = after;
      answer = ap (λ (o : Outcome Content). o >>= λ c. accepted (with_texts c c.description []))
          (keeps (word_of u) (bit_of u) v t clean xs r ys texts d v p (takes l m) (record_of_it l m) (takes_of l m ∙ ap (takes_in l) q ∙ y) (record_of l m ∙ ap (record_in l) q ∙ i));
      holds = refl;
    })
    (λ x f. record { marks = onward m; here = ap (λ (c : Content). machine (at l) tally c (onward m)) f; same = q }))
