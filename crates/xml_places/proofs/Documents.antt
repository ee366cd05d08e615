-- What stands outside the root, and whole documents. Assumes nothing.
use Prim.Native.Nat.{ℕ, ◌+◌}
use mathlib.Core.Path.{◌≡◌, refl, sym, ap, ◌∙◌, subst}
use mathlib.Core.List.{List, [], ◌∷◌, ◌++◌, append_assoc, append-nil}
use mathlib.Core.Bool.{Bool, cond}
use native.Mathlib.Omega.{arith}
use borrow.Author.Tests.{le-ltb}
use Rattle.xml_tokens.specs.of_table.Kinds as kind
use Rattle.xml_tokens.specs.of_xml_grammar.Grammar as grammar
use Rattle.xml_tokens.specs.of_xml_grammar.Grammar.{Miscs, last-space, Prolog, undeclared, declared, Document, document}
use Rattle.xml_tokens.specs.of_xml_machine.State.{State, prolog, epilog, Place, before}
use Rattle.xml_tokens.specs.of_xml_machine.Tokens.{Rec, rec, over, event, nothing}
use Rattle.xml_tokens.proofs.of_xml_complete.Comments.{at-fresh, at-marked}
use Rattle.xml_tokens.proofs.of_xml_complete.Declarations.{declaration-reads}
use Rattle.xml_tokens.proofs.of_xml_complete.Documents.{Outside, is-prolog, is-epilog, outside-opens, resumed, Out, spaces-out, First, first-fresh, first-marked, first-outside, before-begins, after-ends}
use Rattle.xml_tokens.specs.Due.{events_due}
use Rattle.xml_places.specs.Places.{size, piece_at, misc_at, miscs_at, element_at, element_attributes, prolog_at, document_at, document_attributes}
use Rattle.xml_places.proofs.Putting.{Puts, puts-long, puts_then, puts_these, puts-from, puts-reads, run_at}
use Rattle.xml_places.proofs.Markup.{run-space, query_puts, misc-puts}
use Rattle.xml_places.proofs.Elements.{Stretch, joined, element-puts}

miscs-put : {s v : State} {pl : Place} → Outside s v pl → {ms : List ℕ} (h : Miscs ms) (at : ℕ) → Stretch s at ms (Out pl) (miscs_at at h) []
miscs-put o (last-space {w = w} h) at =
    let p = spaces-out o h in
    record { state = p.0; place = p.1; mark = at; to = at + size w; events = []; puts = puts-reads p.2; all = run-space h at (at + size w) refl }
miscs-put o (grammar.misc {w = w} {e = e} h i m) at =
    let p = spaces-out o h in
    let r = miscs-put (resumed o) m (at + size w + size e) in
    record {
      state = r.state;
      place = r.place;
      mark = r.mark;
      to = r.to;
      events = (run_at at (at + size w) ++ (misc_at (at + size w) i ∷ [])) ++ r.events;
      puts = puts_then (puts-reads p.2) (puts_then (misc-puts (outside-opens p.1.1) i at (at + size w)) r.puts);
      all = joined (misc_at (at + size w) i ∷ []) r.events (run_at r.mark r.to) (run-space h at (at + size w) refl) r.all;
    }

-- ---- the prolog
run_none : (x : ℕ) → run_at x x ≡ []
run_none x = ap (λ (z : Bool). events_due (cond z (event (over kind.text x x)) nothing ∷ [])) (le-ltb x x (omega arith))

declared-puts : {s : State} → First s → {d : List ℕ} → grammar.Declaration d → (at : ℕ) →
    Puts s at at (0x3C ∷ 0x3F ∷ (d ++ (0x3F ∷ 0x3E ∷ []))) prolog (at + 2 + size d + 2) (at + 2 + size d + 2) (piece_at kind.other (at + 2) d ∷ []) []
declared-puts first-fresh {d = d} h at =
    let p = declaration-reads h in puts_these (ap (λ (z : List Rec). z ++ (piece_at kind.other (at + 2) d ∷ [])) (run_none at)) refl (query_puts at-fresh p.1 p.2 at at)
declared-puts first-marked {d = d} h at =
    let p = declaration-reads h in puts_these (ap (λ (z : List Rec). z ++ (piece_at kind.other (at + 2) d ∷ [])) (run_none at)) refl (query_puts at-marked p.1 p.2 at at)

prolog-puts : {s : State} → First s → {cs : List ℕ} (h : Prolog cs) (at : ℕ) → Stretch s at cs (Out before) (prolog_at at h) []
prolog-puts f (undeclared m) at = miscs-put (first-outside f) m at
prolog-puts {s = s} f (declared {d = d} {m = ms} h m) at =
    let r = miscs-put is-prolog m (at + 2 + size d + 2) in
    record {
      state = r.state;
      place = r.place;
      mark = r.mark;
      to = r.to;
      events = piece_at kind.other (at + 2) d ∷ r.events;
      puts = subst (λ (z : List ℕ). Puts s at at (0x3C ∷ 0x3F ∷ z) r.state r.mark r.to (piece_at kind.other (at + 2) d ∷ r.events) []) (append_assoc d (0x3F ∷ 0x3E ∷ []) ms)
          (puts_then (declared-puts f h at) r.puts);
      all = ap (λ (z : List Rec). piece_at kind.other (at + 2) d ∷ z) r.all;
    }

-- ---- documents
all-records : (qs qt es rs rt l : List Rec) {ps ms : List Rec} → qs ++ qt ≡ ps → rs ++ rt ≡ ms → (qs ++ ((qt ++ es) ++ rs)) ++ (rt ++ l) ≡ ps ++ (es ++ (ms ++ l))
all-records qs qt es rs rt l {ps = ps} i j =
    let k : (qs ++ ((qt ++ es) ++ rs)) ++ (rt ++ l) ≡ (qs ++ qt) ++ (es ++ ((rs ++ rt) ++ l)) = simp append_assoc in
    k ∙ ap (λ (z : List Rec). z ++ (es ++ ((rs ++ rt) ++ l))) i ∙ ap (λ (z : List Rec). ps ++ (es ++ (z ++ l))) j

-- all that a document puts, but for the white space at its end and Eof
pub record Whole (s : State) (at : ℕ) {cs : List ℕ} (h : Document cs) : Type 0 where
  pub mark : ℕ
  pub to : ℕ
  pub events : List Rec
  pub puts : Puts s at at cs epilog mark to events (document_attributes at h)
  pub all : events ++ (run_at mark to ++ (rec kind.eof 0 0 0 0 ∷ [])) ≡ document_at at h

pub document-puts : {s : State} → First s → {cs : List ℕ} (h : Document cs) (at : ℕ) → Whole s at h
document-puts {s = s} f (document {p = a} {e = b} {m = c} p e m) at =
    let q = prolog-puts f p at in
    let r = miscs-put is-epilog m (at + size a + size b) in
    let d : q.to ≡ at + size a = puts-long q.puts in
    let xs : List Rec = element_attributes (at + size a) e in
    let t : List Rec = run_at q.mark q.to ++ element_at (at + size a) e in
    let eof : List Rec = rec kind.eof 0 0 0 0 ∷ [] in
    let o = element-puts e (outside-opens q.place.1) (before-begins q.place.1) q.mark (at + size a) in
    let same : run_at q.mark (at + size a) ++ element_at (at + size a) e ≡ t = ap (λ (z : ℕ). run_at q.mark z ++ element_at (at + size a) e) (sym d) in
    let i = puts_then q.puts (puts_then (puts-from refl (sym d) (puts_these same refl o)) r.puts) in
    record {
      mark = r.mark;
      to = r.to;
      events = q.events ++ (t ++ r.events);
      puts = subst (λ (u : State). Puts s at at (a ++ (b ++ c)) u r.mark r.to (q.events ++ (t ++ r.events)) xs) (after-ends r.place.1) (puts_these refl (append-nil xs) i);
      all = all-records q.events (run_at q.mark q.to) (element_at (at + size a) e) r.events (run_at r.mark r.to) eof q.all r.all;
    }
