-- The answer of writing a document and the area that it leaves. Assumes nothing.
use Prim.Native.Nat.{ℕ, ◌+◌, ◌-◌, ◌≤◌, ◌<◌, min}
use mathlib.Core.Path.{◌≡◌, refl, sym, ap, ◌∙◌}
use mathlib.Core.List.{List, [], ◌++◌, append_assoc}
use mathlib.Core.Bool.{Bool, true, false, cond, true≢false}
use native.Mathlib.Omega.{arith}
use native.Mathlib.Decide.{dec_le}
use lib.Dec.{eqb}
use lib.ListN.{length, take, drop, length-replicate, replicate-append-replicate}
use Rattle.std.specs.Prelude.{Option, Some, None}
use Rattle.writer.specs.of_refusal.declared.Cause.TheVariants as cause
use Rattle.writer.specs.of_area.Answer.{Answer, gives, refuses}
use Rattle.writer.specs.of_area.Area.{zeros, laid}
use Rattle.writer.specs.of_area.Limits.{most_bytes}
use Rattle.writer.proofs.of_area.Laying.{laid-zeros, fits-put, over-full}
use Rattle.writer.proofs.of_area.Lists.{drop-zeros, take-zeros}
use Rattle.writer.specs.of_tree_report.Layout.{layout}
use Rattle.writer.specs.of_write_table.Laid.{Item, items_of}
use Rattle.writer.specs.of_write_table.inside.Putting.{Kept, none, some, xml, blank, put_all, Areas, held_by_of, held}
use Rattle.writer.proofs.of_write_table.Spelling.{items_text, spelt, Near, all-spelt, none-spelt}
use Rattle.writer.specs.of_write_marks.declared.Marks.{Marks}
use Rattle.writer.specs.of_write_marks.inside.Kept.{kept}
use Rattle.writer.specs.of_write_answer.Answer.{events_of}
use Rattle.xml_answer.specs.of_list_text.Listing.{output_for}
use Rattle.xml_answer.specs.Answer.{document_of, document_answer, document_left}
use Rattle.xml_writer.specs.inside.Put as put
use Rattle.xml_writer.proofs.Documents.{document-text}

-- ---- what is held, in either form
abbrev bytes_of : Kept → ℕ
bytes_of none = 0
bytes_of (some h) = h.bytes
bytes_of (xml h) = h.bytes

abbrev area_of : Kept → List ℕ
area_of none = []
area_of (some h) = h.byte_area
area_of (xml h) = h.byte_area

abbrev holds : Kept → Bool
holds none = false
holds (some h) = true
holds (xml h) = true

module _ (t : Areas) (n : ℕ) (p : t.mark ≡ Some n) where
  is_held : held t ≡ held_by_of (Some n) t
  is_held = ap (λ (m : Option ℕ). held_by_of m t) p

  held_bytes : bytes_of (held t) ≡ n
  held_bytes = ap bytes_of is_held ∙ go (eqb t.form 0)
    where
      go : (b : Bool)
          → bytes_of (cond b (some (record { events = t.events; attributes = t.attributes; bytes = n; event_area = t.event_area; attribute_area = t.attribute_area; byte_area = t.byte_area }))
          (xml (record { form = t.form; level = t.level; bytes = n; byte_area = t.byte_area }))) ≡ n
      go true = refl
      go false = refl

  held-area : area_of (held t) ≡ t.byte_area
  held-area = ap area_of is_held ∙ go (eqb t.form 0)
    where
      go : (b : Bool)
          → area_of (cond b (some (record { events = t.events; attributes = t.attributes; bytes = n; event_area = t.event_area; attribute_area = t.attribute_area; byte_area = t.byte_area }))
          (xml (record { form = t.form; level = t.level; bytes = n; byte_area = t.byte_area }))) ≡ t.byte_area
      go true = refl
      go false = refl

  held-some : holds (held t) ≡ true
  held-some = ap holds is_held ∙ go (eqb t.form 0)
    where
      go : (b : Bool) → holds (cond b (some (record { events = t.events; attributes = t.attributes; bytes = n; event_area = t.event_area; attribute_area = t.attribute_area; byte_area = t.byte_area }))
          (xml (record { form = t.form; level = t.level; bytes = n; byte_area = t.byte_area }))) ≡ true
      go true = refl
      go false = refl

module _ (words text : List ℕ) (n : ℕ) where
  -- an answer, and the area that goes with it
  pub record Left (o : Answer ℕ) (out : List ℕ) : Type 0 where
    pub answer : o ≡ document_answer words text n
    pub area : out ≡ document_left words text n

  abbrev f : List ℕ
  f = document_of words text

  abbrev used : ℕ
  used = min n most_bytes

  left-from : {o : Answer ℕ} {out : List ℕ} → o ≡ document_answer words text n → out ≡ output_for o n f → Left o out
  unfolding document_left
  left-from p x = record { answer = p; area = x ∙ ap (λ (o : Answer ℕ). output_for o n f) p }

  -- not a layout
  pub no-document : {out : List ℕ} → layout words text ≡ false → out ≡ zeros n → Left (refuses cause.NotLayout) out
  unfolding document_answer
  no-document l x = left-from (rw l refl) x

  module _ (l : layout words text ≡ true) where
    fitting : length f ≤ used → gives (length f) ≡ document_answer words text n
    unfolding document_answer
    fitting h = rw l (fits-put cause.OutputFull used f h)

    short : used < length f → refuses cause.OutputFull ≡ document_answer words text n
    unfolding document_answer
    short h = rw l (over-full cause.OutputFull used f h)

    -- into the used front of the cleared area
    module _ {part out' : List ℕ} {m : Marks} (z : part ≡ zeros used) (p : put.Put part (items_of (events_of words text)) m out') where
      abbrev t : Areas
      t = kept m p.events' p.attributes' out'

      abbrev items : List Item
      items = items_of (events_of words text)

      all-put : held t ≡ put_all (xml (blank used)) items
      all-put = p.wrote.same ∙ ap (λ (x : List ℕ). put_all (xml (record { form = 4; level = 0; bytes = 0; byte_area = x })) items) z

      near : Near (blank used)
      near = let a = length-replicate {A = ℕ} used 0 in record { level = omega arith; within = omega arith; most = omega arith }

      abbrev text_of : List ℕ
      text_of = items_text 4 0 items

      size : length text_of ≡ length f
      size = ap length (document-text words text)

      put-all : length f ≤ used → held t ≡ xml (spelt (blank used) items)
      put-all h = let a = length-replicate {A = ℕ} used 0 in let b = size in all-put ∙ all-spelt (blank used) items near (omega arith)

      put-none : used < length f → held t ≡ none
      put-none h = let a = length-replicate {A = ℕ} used 0 in let b = size in all-put ∙ none-spelt (blank used) items near (omega arith)

      -- the document was put
      pub whole-document : (k : ℕ) → m.bytes ≡ Some k → Left (gives k) (out' ++ drop used (zeros n))
      whole-document k q = go (dec_le (length f) used)
        where
          go : Dec (length f ≤ used) → Left (gives k) (out' ++ drop used (zeros n))
          go (yes h) =
              let e = put-all h in
              let x : k ≡ length f = sym (held_bytes t k q) ∙ ap bytes_of e ∙ (let b = size in omega arith) in
              let y : out' ≡ laid (zeros used) f = sym (held-area t k q) ∙ ap area_of e ∙ ap (laid (zeros used)) (document-text words text) in
              let d : used - length f + (n - used) ≡ n - length f = omega arith in
              let w : out' ++ drop used (zeros n) ≡ laid (zeros n) f =
              ap (λ (v : List ℕ). v ++ drop used (zeros n)) (y ∙ laid-zeros used f h)
              ∙ append_assoc f (zeros (used - length f)) (drop used (zeros n))
              ∙ ap (λ (v : List ℕ). f ++ (zeros (used - length f) ++ v)) (drop-zeros used n)
              ∙ ap (λ (v : List ℕ). f ++ v) (replicate-append-replicate {A = ℕ} (used - length f) (n - used) 0 ∙ ap zeros d)
              ∙ sym (laid-zeros n f (omega arith)) in
              left-from (ap gives x ∙ fitting h) w
          go (no h) = absurd (true≢false (sym (held-some t k q) ∙ ap holds (put-none (omega arith))))

      -- it didn't fit
      pub short-document : {out : List ℕ} → m.bytes ≡ None → out ≡ zeros n → Left (refuses cause.OutputFull) out
      short-document {out} q x = go (dec_le (length f) used)
        where
          none-held : held t ≡ none
          none-held = ap (λ (s : Option ℕ). held_by_of s t) q

          go : Dec (length f ≤ used) → Left (refuses cause.OutputFull) out
          go (yes h) = absurd (true≢false (sym (ap holds (put-all h)) ∙ ap holds none-held))
          go (no h) = left-from (short (omega arith)) x

    -- the same from what the code lends: the used front of the cleared area
    module _ (cleared : List ℕ) (ec : cleared ≡ zeros n) (u : ℕ) (eu : u ≡ min (length cleared) most_bytes) {out' : List ℕ} {m : Marks}
        (p : put.Put (take u cleared) (items_of (events_of words text)) m out') where
      u-is : u ≡ used
      u-is = eu ∙ ap (λ (k : ℕ). min k most_bytes) (ap length ec ∙ length-replicate {A = ℕ} n 0)

      part-is : take u cleared ≡ zeros used
      part-is = ap (take u) ec ∙ ap (λ (k : ℕ). take k (zeros n)) u-is ∙ take-zeros used n (omega arith)

      pub whole-call : (k : ℕ) → m.bytes ≡ Some k → Left (gives k) (out' ++ drop u cleared)
      whole-call k q =
          let a : out' ++ drop u cleared ≡ out' ++ drop used (zeros n) = ap (λ (x : List ℕ). out' ++ drop u x) ec ∙ ap (λ (i : ℕ). out' ++ drop i (zeros n)) u-is in
          let w = whole-document part-is p k q in
          record { answer = w.answer; area = a ∙ w.area }

      pub short-call : {out : List ℕ} → m.bytes ≡ None → out ≡ zeros n → Left (refuses cause.OutputFull) out
      short-call q x = short-document part-is p q x
