-- A gathered text stored and put into a record, against the definitions. Assumes nothing.
use Prim.Native.Nat.{ℕ, zero, suc, ◌+◌, ◌-◌, ◌*◌, ◌≤◌, ◌<◌}
use mathlib.Core.Path.{◌≡◌, refl, sym, ap, subst, ◌∙◌}
use mathlib.Core.Bool.{Bool, true, false, cond}
use mathlib.Core.List.{List, [], ◌∷◌, ◌++◌, append_assoc}
use native.Mathlib.Omega.{arith}
use lib.Dec.{lit≤}
use lib.ListN.{length, take, drop, length-append, length-drop, take-append-drop}
use lib.Seq.{take_at, drop_at}
use borrow.Author.Tests.{le-leb, lt-leb}
use borrow.Rule.Slice.PartMut.{put_mid}
use Rattle.std.specs.Prelude.{Ok, Option, Some, None}
use Rattle.read_content.specs.of_area.Answer.{Answer, gives}
use Rattle.read_content.specs.of_area.Area.{zeros, stored_answer, placing, laid}
use Rattle.read_content.proofs.of_area.Laying.{laid-zeros, put-fits, full-over}
use Rattle.read_content.proofs.of_area.Parts.{rest_part, rest_back}
use Rattle.read_content.specs.of_utf8.Characters.{joined}
use Rattle.read_content.specs.of_trim.Trim.{trimmed}
use Rattle.read_content.specs.of_text_filter.Filter.{filtered}
use Rattle.read_content.specs.of_refusal.Refusal.{nowhere, Outcome, accepted}
use Rattle.read_content.specs.of_refusal.declared.Cause.TheVariants.{TextFull}
use Rattle.read_content.specs.of_read_element.Outcome.{◌>>=◌, Place, refused_at, need, Rooms, fits}
use Rattle.read_content.specs.of_read_element.Attributes.{changed}
use Rattle.read_content.specs.of_tree_put.Put.{put_text}
use Rattle.read_content.specs.of_read_state.Control.{Level, top, suite, case, status, Output, trace, out, err, at}
use Rattle.read_content.specs.of_read_place.Marks.{Marks}
use Rattle.read_content.specs.Content.{Content, record_of_it, word_of, bit_of, takes, kept, with_texts, cleaned, keeping, is_empty, describing, outputting}
use Rattle.read_content.specs.of_read_element.inside.Refines.{went}
use Rattle.read_content.specs.inside.Holds.{Performed, in_record, Holds, Sized, Opened, Lists, Comes, Performs}
use Rattle.read_texts.specs.inside.Stored.{stored_in, stored_end, kept_words, kept_to}
use Rattle.read_content.specs.declared.Content.{Content as CodedContent}
use Rattle.read_content.proofs.Records.{kept-local, kept-size, kept-kind, joined-changed, changed-size, changed-whole, changed-kind}
use Rattle.read_content.proofs.Listing.{dead-kinds, opened-kinds}
use Rattle.read_content.proofs.Refusing.{halts}
use Rattle.read_content.proofs.Areas.{text-size, description-part, gathered-part}
use Rattle.read_content.specs.of_refusal.declared.Cause.TheVariants as cause

-- ---- the text stored behind `fill` bytes of l
module _ (l : List ℕ) (fill : ℕ) (g clean : List ℕ) (e : clean ≡ trimmed g) where
  pub kept-answer : {a : Answer ℕ} → a ≡ placing cause.TextFull (length (take (length l - fill) (drop fill l))) (filtered clean) → a ≡ placing cause.TextFull (length l - fill) (cleaned g)
  kept-answer h =
      h ∙ ap (λ (n : ℕ). placing cause.TextFull n (filtered clean)) (ap length (rest_part l fill) ∙ length-drop fill l)
      ∙ ap (λ (x : List ℕ). placing cause.TextFull (length l - fill) (filtered x)) e

  pub kept-fits : {n : ℕ} → fill ≤ length l → gives n ≡ placing cause.TextFull (length (take (length l - fill) (drop fill l))) (filtered clean) → fill + n ≤ length l
  kept-fits {n} f h =
      let p = put-fits cause.TextFull (length l - fill) (cleaned g) n (kept-answer h) in
      let q = p.0 in let r = p.1 in omega arith

  pub kept_back : {ys : List ℕ} → ys ≡ laid (take (length l - fill) (drop fill l)) (filtered clean) → put_mid fill (length l - fill) l ys ≡ take fill l ++ laid (drop fill l) (cleaned g)
  kept_back {ys} h =
      rest_back l fill ys
      ∙ ap (λ (x : List ℕ). take fill l ++ x) (h ∙ ap (λ (x : List ℕ). laid x (filtered clean)) (rest_part l fill) ∙ ap (λ (x : List ℕ). laid (drop fill l) (filtered x)) e)

-- where the texts end then
pub end_fits : (stored : Option ℕ) (n fill : ℕ) (v : List ℕ) → fill ≤ n → stored_answer cause.TextFull stored ≡ placing cause.TextFull (n - fill) v → stored_end fill stored ≤ n
end_fits (Some m) n fill v h e = let p = put-fits cause.TextFull (n - fill) v m e in let q = p.0 in let r = p.1 in omega arith
end_fits None n fill v h e = h

-- ---- the record
module _ (i o k start n : ℕ) (w : List ℕ) where
  pub words-taken : {taken : Bool} {ys : List ℕ} → taken ≡ true → ys ≡ put_text o k start n (take (length w - i * 32) (drop (i * 32) w))
      → put_mid (i * 32) (length w - i * 32) w ys ≡ in_record i (kept taken (put_text o k start n)) w
  words-taken {taken} {ys} t e =
      rest_back w (i * 32) ys
      ∙ ap (λ (x : List ℕ). take (i * 32) w ++ x) (e ∙ ap (put_text o k start n) (rest_part w (i * 32)))
      ∙ ap (λ (b : Bool). in_record i (kept b (put_text o k start n)) w) (sym t)

  pub words-dropped : {taken : Bool} → taken ≡ false → w ≡ in_record i (kept taken (put_text o k start n)) w
  words-dropped t = sym (take-append-drop (i * 32) w) ∙ ap (λ (b : Bool). in_record i (kept b (put_text o k start n)) w) (sym t)

changed-none : (i : ℕ) (f : List ℕ → List ℕ) (rs : List (List ℕ)) → changed i (kept false f) rs ≡ rs
changed-none i f [] = refl
changed-none zero f (r ∷ rs) = refl
changed-none (suc i) f (r ∷ rs) = ap (λ (qs : List (List ℕ)). r ∷ qs) (changed-none i f rs)

-- ---- against the definition
module _ {words text scratch attributes source : List ℕ} {c : CodedContent} {s : Content} (hd : Holds words text scratch attributes source c s)
    (taken : Bool) (i o k : ℕ) (v : List ℕ) (low : 2 ≤ o) (high : o + 1 < 32) (inside : taken ≡ true → i < length s.records) where
  new-records : (b : Bool) → (b ≡ true → i < length s.records) → (a n : ℕ)
      → in_record i (kept b (put_text o k a n)) words ≡ joined (changed i (kept b (put_text o k a n)) s.records) ++ zeros hd.room
  new-records true h a n =
      ap (in_record i (kept true (put_text o k a n))) hd.records
      ∙ joined-changed (kept true (put_text o k a n)) (kept-local o k a n true high) s.records i (zeros hd.room) hd.whole (h refl)
  new-records false h a n =
      take-append-drop (i * 32) words ∙ hd.records ∙ ap (λ (rs : List (List ℕ)). joined rs ++ zeros hd.room) (sym (changed-none i (put_text o k a n) s.records))

  -- the content with the text, and with that description
  abbrev grown : List ℕ → Content
  grown d = record {
    records = changed i (kept taken (put_text o k (length s.texts) (length (cleaned v)))) s.records;
    texts = s.texts ++ cleaned v;
    description = d;
    gathered = [];
  }

  put : ℕ → List ℕ → List ℕ
  put n r = kept taken (put_text o k (length s.texts) n) r

  module _ {n : ℕ} (e : gives n ≡ placing cause.TextFull (length text - c.fill) (cleaned v)) where
    fitted : length (cleaned v) ≤ length text - c.fill
    fitted = (put-fits cause.TextFull (length text - c.fill) (cleaned v) n e).0

    counted : n ≡ length (cleaned v)
    counted = (put-fits cause.TextFull (length text - c.fill) (cleaned v) n e).1

    new-text : {text' : List ℕ} → text' ≡ take c.fill text ++ laid (drop c.fill text) (cleaned v) → text' ≡ (s.texts ++ cleaned v) ++ zeros (hd.left - length (cleaned v))
    new-text {text'} t =
        let q = text-size hd in
        let f = fitted in
        t
        ∙ ap (λ (x : List ℕ). take c.fill x ++ laid (drop c.fill x) (cleaned v)) hd.stored
        ∙ ap (λ (x : List ℕ). x ++ laid (drop c.fill (s.texts ++ zeros hd.left)) (cleaned v)) (take_at s.texts (zeros hd.left) c.fill (sym hd.fill))
        ∙ ap (λ (x : List ℕ). s.texts ++ laid x (cleaned v)) (drop_at s.texts (zeros hd.left) c.fill (sym hd.fill))
        ∙ ap (λ (x : List ℕ). s.texts ++ x) (laid-zeros hd.left (cleaned v) (omega arith))
        ∙ sym (append_assoc s.texts (cleaned v) (zeros (hd.left - length (cleaned v))))

    kept-holds : (d : List ℕ) (dn bn : ℕ) {words' text' : List ℕ} → dn ≤ length scratch → bn ≤ dn
        → (bn ≡ dn → take dn scratch ≡ d) → dn ≡ length d → words' ≡ in_record i (kept taken (put_text o k c.fill n)) words
        → text' ≡ take c.fill text ++ laid (drop c.fill text) (cleaned v) → Holds words' text' scratch attributes source (stored_in n dn bn c) (grown d)
    kept-holds d dn bn {words'} {text'} wi be sc dl w t =
        let f : List ℕ → List ℕ = kept taken (put_text o k (length s.texts) (length (cleaned v))) in
        let q = length-append s.texts (cleaned v) in
        let a = hd.fill in
        let b = counted in
        record {
          room = hd.room;
          left = hd.left - length (cleaned v);
          records =
              w ∙ ap (λ (x : ℕ). in_record i (kept taken (put_text o k x n)) words) hd.fill
              ∙ ap (λ (x : ℕ). in_record i (kept taken (put_text o k (length s.texts) x)) words) b
              ∙ new-records taken inside (length s.texts) (length (cleaned v));
          whole = changed-whole f (kept-size o k (length s.texts) (length (cleaned v)) taken) i s.records hd.whole;
          used = hd.used ∙ sym (changed-size f i s.records);
          stored = new-text t;
          fill = omega arith;
          within = wi;
          begins = be;
          described = sc;
          behind = refl;
          description = dl;
          gathered = refl;
          free = hd.free;
          report = hd.report;
          dead = dead-kinds s.records (changed i f s.records) (changed-size f i s.records)
              (changed-kind f (kept-kind o k (length s.texts) (length (cleaned v)) taken low) i s.records) hd.dead;
        }

  -- the elements that are open stay so
  pub still_open : (m : Marks) (l : Level) (n dn bn : ℕ) (d : List ℕ) → Opened l m c s → Opened l m (stored_in n dn bn c) (grown d)
  still_open m l n dn bn d x =
      let f : List ℕ → List ℕ = kept taken (put_text o k (length s.texts) (length (cleaned v))) in
      opened-kinds m c (stored_in n dn bn c) s (grown d) refl refl (changed-size f i s.records)
      (changed-kind f (kept-kind o k (length s.texts) (length (cleaned v)) taken low) i s.records) l x

  module _ {rooms : Rooms} (sz : Sized rooms (length words) (length text) (length scratch)) (p : Place) (pa : p.attribute ≡ nowhere) (f : Content → List ℕ) where
    made : length (cleaned v) ≤ length text - c.fill → (keeping rooms p taken i o k v s >>= λ x. accepted (with_texts x (f x) [])) ≡ accepted (grown (f (record {
      records = changed i (kept taken (put_text o k (length s.texts) (length (cleaned v)))) s.records;
      texts = s.texts ++ cleaned v;
      description = s.description;
      gathered = s.gathered;
    })))
    unfolding keeping need ◌>>=◌
    made h =
        let q = text-size hd in
        let a = hd.fill in
        let b : fits rooms.text (length s.texts + length (cleaned v)) ≡ true =
        sz.for-text (length s.texts + length (cleaned v)) ∙ le-leb (length s.texts + length (cleaned v)) (length text) (omega arith) in
        rw b refl

    short : length text - c.fill < length (cleaned v) → (keeping rooms p taken i o k v s >>= λ x. accepted (with_texts x (f x) [])) ≡ refused_at p cause.TextFull
    unfolding keeping need ◌>>=◌
    short h =
        let a = hd.fill in
        let b : fits rooms.text (length s.texts + length (cleaned v)) ≡ false =
        sz.for-text (length s.texts + length (cleaned v)) ∙ lt-leb (length s.texts + length (cleaned v)) (length text) (omega arith) in
        rw b refl

    pub kept-comes : (Q : CodedContent → Content → Type 0) (d : List ℕ) (dn bn : ℕ) {words' text' : List ℕ} → dn ≤ length scratch → bn ≤ dn → (bn ≡ dn → take dn scratch ≡ d) → dn ≡ length d
        → f (record {
          records = changed i (kept taken (put_text o k (length s.texts) (length (cleaned v)))) s.records;
          texts = s.texts ++ cleaned v;
          description = s.description;
          gathered = s.gathered;
        }) ≡ d
        → (stored : Option ℕ) → stored_answer cause.TextFull stored ≡ placing cause.TextFull (length text - c.fill) (cleaned v) → words' ≡ kept_words stored taken i o k c.fill words
        → text' ≡ take c.fill text ++ laid (drop c.fill text) (cleaned v) → ((n : ℕ) → Q (stored_in n dn bn c) (grown d))
        → Comes Q p words' text' scratch attributes source (keeping rooms p taken i o k v s >>= λ x. accepted (with_texts x (f x) [])) (kept_to stored dn bn c)
    kept-comes Q d dn bn {words'} {text'} wi be sc dl fd (Some n) e w t q =
        subst (λ (x : Outcome Content). Comes Q p words' text' scratch attributes source x (Ok (stored_in n dn bn c)))
        (sym (made (fitted e) ∙ ap (λ (x : List ℕ). accepted (grown x)) fd))
        (went (kept-holds e d dn bn wi be sc dl w t, q n))
    kept-comes Q d dn bn wi be sc dl fd None e w t q = halts p TextFull pa (short (full-over cause.TextFull (length text - c.fill) (cleaned v) e)) refl

-- ---- the two texts
empty-true : (l : List ℕ) → length l ≡ 0 → is_empty l ≡ true
empty-true [] e = refl
empty-true (b ∷ l) e = absurd (omega arith)

empty-false : (l : List ℕ) → (length l ≡ 0 → ⊥) → is_empty l ≡ false
empty-false [] e = absurd (e refl)
empty-false (b ∷ l) e = refl

word_low : (o : Output) → 2 ≤ word_of o
word_low trace = lit≤ tt
word_low out = lit≤ tt
word_low err = lit≤ tt

word-high : (o : Output) → word_of o + 1 < 32
word-high trace = lit≤ tt
word-high out = lit≤ tt
word-high err = lit≤ tt

-- the record of the open element is there
pub record-inside : (l : Level) (m : Marks) (c : CodedContent) (s : Content) → Opened l m c s → takes l m ≡ true → record_of_it l m < length s.records
record-inside top m c s o e = let z : ◌≡◌ {A = Bool} false true = e in absurd (let n : ◌≡◌ {A = ℕ} 0 1 = ap (λ (b : Bool). cond b 1 0) z in omega arith)
record-inside suite m c s o e = o.inside
record-inside case m c s o e = o.1.inside
record-inside status m c s o e = o.1.1

module _ {words text scratch attributes source : List ℕ} {c : CodedContent} {s : Content} (hd : Holds words text scratch attributes source c s)
    {rooms : Rooms} (sz : Sized rooms (length words) (length text) (length scratch)) (p : Place) (pa : p.attribute ≡ nowhere) (m : Marks) where
  -- a description that trimming leaves empty is missing (rule X11)
  pub none-described : {clean : List ℕ} → c.child ≡ c.description → Lists (at status) m c s
      → clean ≡ trimmed (take c.description scratch) → length clean ≡ 0 → {r : Performed} → r ≡ kept_to (Some 0) 0 0 c
      → Performs (at case) m p words text scratch attributes source (describing rooms p m s) r
  unfolding describing
  none-described {clean} lo li e z {r} q =
      let t : is_empty (trimmed s.description) ≡ true = empty-true (trimmed s.description) (ap (λ (x : List ℕ). length (trimmed x)) (sym (description-part hd lo)) ∙ sym (ap length e) ∙ z) in
      rw (q, t) (went {s = with_texts s [] []} {c = stored_in 0 0 0 c} (
        record {
          room = hd.room;
          left = hd.left;
          records = hd.records;
          whole = hd.whole;
          used = hd.used;
          stored = hd.stored;
          fill = let a = hd.fill in omega arith;
          within = omega arith;
          begins = omega arith;
          described = λ x. refl;
          behind = refl;
          description = refl;
          gathered = refl;
          free = hd.free;
          report = hd.report;
          dead = hd.dead;
        },
        ((li.0.0, li.0.1.0), refl),
      ))

  pub some-described : {clean words' text' : List ℕ} (i : ℕ) → m.status_at_of ≡ i → c.child ≡ c.description
      → Lists (at status) m c s → clean ≡ trimmed (take c.description scratch) → (length clean ≡ 0 → ⊥)
      → (stored : Option ℕ) → stored_answer cause.TextFull stored ≡ placing cause.TextFull (length text - c.fill) (cleaned (take c.description scratch))
      → words' ≡ kept_words stored true i 20 6 c.fill words
      → text' ≡ take c.fill text ++ laid (drop c.fill text) (cleaned (take c.description scratch)) → {r : Performed} → r ≡ kept_to stored 0 0 c
      → Performs (at case) m p words' text' scratch attributes source (describing rooms p m s) r
  unfolding describing
  some-described {clean} i im lo li e z stored a w t {r} q =
      let u : is_empty (trimmed s.description) ≡ false = empty-false (trimmed s.description) (λ y. z (ap length e ∙ ap (λ (x : List ℕ). length (trimmed x)) (description-part hd lo) ∙ y)) in
      rw (q, u)
      (kept-comes hd true m.status_at_of 20 6 s.description (lit≤ tt) (lit≤ tt) (λ y. li.0.1.1) sz p
      pa (λ x. []) (Lists (at case) m) [] 0 0 (omega arith) (omega arith) (λ y. refl) refl refl stored
      (a ∙ ap (λ (x : List ℕ). placing cause.TextFull (length text - c.fill) (cleaned x)) (description-part hd lo))
      (w ∙ ap (λ (x : ℕ). kept_words stored true x 20 6 c.fill words) (sym im))
      (t ∙ ap (λ (x : List ℕ). take c.fill text ++ laid (drop c.fill text) (cleaned x)) (description-part hd lo))
      (λ n. (still_open hd true m.status_at_of 20 6 s.description (lit≤ tt) (lit≤ tt) (λ y. li.0.1.1) m case n 0 0 [] (li.0.0, li.0.1.0), refl)))

  -- an output is kept, an empty one too (rule X12)
  pub output-kept : {words' text' : List ℕ} (l : Level) (o : Output) {taken : Bool} {i w k : ℕ} {g : List ℕ} → Opened l m c s → taken ≡ takes l m → i ≡ record_of_it l m → w ≡ word_of o → k ≡ bit_of o
      → g ≡ take (c.child + c.gathered - c.child) (drop c.child scratch)
      → (stored : Option ℕ) → stored_answer cause.TextFull stored ≡ placing cause.TextFull (length text - c.fill) (cleaned g) → words' ≡ kept_words stored taken i w k c.fill words
      → text' ≡ take c.fill text ++ laid (drop c.fill text) (cleaned g) → {r : Performed} → r ≡ kept_to stored c.description c.child c
      → Performs (at l) m p words' text' scratch attributes source (outputting rooms p l o m s) r
  unfolding outputting
  output-kept l o {g = g} op te ie we ke ge stored a w t {r} q =
      let n : c.child + c.gathered - c.child ≡ c.gathered = omega arith in
      let h : g ≡ s.gathered = ge ∙ ap (λ (x : ℕ). take x (drop c.child scratch)) n ∙ gathered-part hd in
      rw q
      (kept-comes hd (takes l m) (record_of_it l m) (word_of o) (bit_of o) s.gathered (word_low o) (word-high o) (record-inside l m c s op)
      sz p pa (λ x. x.description) (Lists (at l) m) s.description c.description c.child
      hd.within hd.begins hd.described hd.description refl stored
      (a ∙ ap (λ (x : List ℕ). placing cause.TextFull (length text - c.fill) (cleaned x)) h)
      (w ∙ cc)
      (t ∙ ap (λ (x : List ℕ). take c.fill text ++ laid (drop c.fill text) (cleaned x)) h)
      (λ n. (
        still_open hd (takes l m) (record_of_it l m) (word_of o) (bit_of o) s.gathered (word_low o) (word-high o) (record-inside l m c s op) m l n c.description c.child s.description op,
        refl,
      )))
