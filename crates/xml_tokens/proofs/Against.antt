-- Bytes against marks: what the records tell of, resolved, is what the run with bytes says. Assumes nothing.
use Prim.Native.Nat.{ℕ, zero, suc, ◌+◌, ◌-◌, ◌≤◌, ◌<◌}
use mathlib.Core.Path.{◌≡◌, refl, sym, ap, ◌∙◌, subst}
use mathlib.Core.List.{List, [], ◌∷◌, ◌++◌, append-nil, map, map-append}
use mathlib.Core.Bool.{Bool, true, false, cond}
use native.Mathlib.Omega.{arith}
use borrow.Author.Tests.{ltb-true, ltb-false}
use lib.Dec.{ltb, eqb-suc-zero}
use lib.ListN.{length, take, drop, length-append, length-drop, length-map}
use lib.Seq.{drop-append-le, take-append-le, drop-length, take_all}
use Rattle.xml_complete.specs.of_table.Kinds as kind
use Rattle.xml_complete.specs.of_table.Event as table
use Rattle.xml_complete.specs.of_table.Event.{Event, Tag, Piece, part, event_of}
use Rattle.xml_complete.specs.of_xml_grammar.Events.{numbered}
use Rattle.xml_complete.specs.of_xml_machine.State.{Act, Stay, Mark, Here, EndText, TextMark, Name, NameStart, NameEnd, Start, Empty, End, Key, Value, Ref, Comment, Pi, CData}
use Rattle.xml_complete.specs.of_xml_machine.Tokens.{Rec, rec, unless0, over, Marks, marking, marks_by, nothing, event, attribute, due, Kept}
use Rattle.xml_complete.specs.of_xml_machine.inside.Saying.{Said, less, text_said, marks, tells, saying}
use Rattle.xml_tokens.specs.Due.{attributes_in}
use Rattle.xml_tokens.proofs.Rooms.{put, put_count}
use Rattle.xml_tokens.proofs.Flat.{attribute_of, event_from, Each, EventIn, each_append}
use Rattle.xml_tokens.proofs.Ranges.{Bounded, more-in, over-in, due_in, marked-bounded, marks-bounded}
use Rattle.xml_tokens.proofs.Tags.{Lawful}
use Rattle.xml_tokens.proofs.Parts.{part-grows, part-here, part_none, part-unless, part_length, part-less}
use Rattle.xml_tokens.proofs.Numbering.{numbered-append, attributes-append}

module _ (source : List ℕ) where
  -- ---- what is kept, against the events that were told
  pub record Tells (k : Kept) (es : List Event) : Type 0 where
    pub ranged : Each (EventIn (length source) (length k.attributes)) k.events
    pub events : map (event_from source k.attributes) k.events ≡ numbered 0 es

  -- attributes behind those that a record has
  event_from-more : (r : Rec) (xs ys : List Rec) → EventIn (length source) (length xs) r → event_from source (xs ++ ys) r ≡ event_from source xs r
  event_from-more (rec k from len first count) xs ys g =
      let n = length-drop first xs in
      ap (λ (rs : List Rec). event_of k (part source from len) first (map (attribute_of source) rs))
      (ap (take count) (drop-append-le first xs ys (omega arith)) ∙ take-append-le count (drop first xs) ys (omega arith))

  events-more : (rs xs ys : List Rec) → Each (EventIn (length source) (length xs)) rs → map (event_from source (xs ++ ys)) rs ≡ map (event_from source xs) rs
  events-more [] xs ys g = refl
  events-more (r ∷ rs) xs ys g = λ i. event_from-more r xs ys g.0 i ∷ events-more rs xs ys g.1 i

  each_more : (n c : ℕ) (rs : List Rec) → n ≤ c → Each (EventIn (length source) n) rs → Each (EventIn (length source) c) rs
  each_more n c [] l g = tt
  each_more n c (r ∷ rs) l g = (more-in (length source) n c r l g.0, each_more n c rs l g.1)

  tells-attribute : (k : Kept) (es : List Event) (r : Rec) → Tells k es → Tells (put k (attribute r)) es
  tells-attribute k es r t = record {
    ranged = each_more (length k.attributes) (length (k.attributes ++ (r ∷ []))) k.events (omega (arith, length-append k.attributes (r ∷ []))) t.ranged;
    events = events-more k.events k.attributes (r ∷ []) t.ranged ∙ t.events;
  }

  pub tells-event : (k : Kept) (es : List Event) (r : Rec) (e : Event) → Tells k es → EventIn (length source) (length k.attributes) r →
      event_from source k.attributes r ∷ [] ≡ numbered (attributes_in es) (e ∷ []) → Tells (put k (event r)) (es ++ (e ∷ []))
  tells-event k es r e t g h = record {
    ranged = each_append (EventIn (length source) (length k.attributes)) k.events (r ∷ []) t.ranged (g, tt);
    events = map-append (event_from source k.attributes) k.events (r ∷ []) ∙ (λ i. t.events i ++ h i) ∙ sym (numbered-append 0 es (e ∷ []) ∙ zeroed);
  }
    where
      zeroed : numbered 0 es ++ numbered (0 + attributes_in es) (e ∷ []) ≡ numbered 0 es ++ numbered (attributes_in es) (e ∷ [])
      zeroed = let z : 0 + attributes_in es ≡ attributes_in es = omega arith in ap (λ (n : ℕ). numbered 0 es ++ numbered n (e ∷ [])) z

  -- ---- an event with its attributes
  tag-by : (k : table.TagKind) (n : List ℕ) (first : ℕ) (xs rs : List Rec) (c : ℕ) → drop first xs ≡ rs → length rs ≡ c →
      Tag k n (unless0 first c) (map (attribute_of source) (take c (drop (unless0 first c) xs))) ∷ [] ≡ numbered first (Tag k n 0 (map (attribute_of source) rs) ∷ [])
  tag-by k n first xs [] zero h l = refl
  tag-by k n first xs [] (suc c) h l = absurd (omega arith)
  tag-by k n first xs (r ∷ rs) zero h l = absurd (omega arith)
  tag-by k n first xs (r ∷ rs) (suc c) h l =
      let u : unless0 first (suc c) ≡ first = ap (λ (x : Bool). cond x 0 first) (eqb-suc-zero c) in
      ap (λ (i : ℕ). Tag k n i (map (attribute_of source) (take (suc c) (drop i xs))) ∷ []) u
      ∙ ap (λ (ys : List Rec). Tag k n first (map (attribute_of source) ys) ∷ []) (ap (take (suc c)) h ∙ take_all (suc c) (r ∷ rs) (omega arith))

  -- ---- a run of text, if it has bytes
  said-some : (s : List ℕ) → 0 < length s → text_said s ≡ Piece table.Text s ∷ []
  said-some [] h = absurd (omega arith)
  said-some (c ∷ s) h = refl

  said-bare : (s : List ℕ) → attributes_in (text_said s) ≡ 0
  said-bare [] = refl
  said-bare (c ∷ s) = refl

  over-said : (from to : ℕ) (s : List ℕ) → part source from (to - from) ≡ s → part source (unless0 from (to - from)) (to - from) ≡ s
  over-said from to s e = part-unless source from (to - from) ∙ e

  pub text-told : (k : Kept) (es : List Event) (mark at : ℕ) (s : List ℕ) → Tells k es → mark ≤ at → at ≤ length source → part source mark (at - mark) ≡ s →
      (z : Bool) → ltb mark at ≡ z → Tells (put k (cond z (event (over kind.text mark at)) nothing)) (es ++ text_said s)
  unfolding event_of
  text-told k es mark at s t l g h true e =
      let some : text_said s ≡ Piece table.Text s ∷ [] =
      said-some s (let p = ltb-true mark at e in let n = part_length source mark (at - mark) (omega arith) in let q = ap length h in omega arith) in
      subst (λ (fs : List Event). Tells (put k (event (over kind.text mark at))) (es ++ fs)) (sym some)
      (tells-event k es (over kind.text mark at) (Piece table.Text s) t (over-in kind.text mark at (length source) (length k.attributes) (omega arith) g)
      (ap (λ (w : List ℕ). Piece table.Text w ∷ []) (over-said mark at s h)))
  text-told k es mark at s t l g h false e =
      let none : s ≡ [] = sym h ∙ part_none source mark at (ltb-false mark at e) in
      subst (Tells k) (sym (ap (λ (w : List ℕ). es ++ text_said w) none ∙ append-nil es)) t

  -- whether a tag is open decides which attributes are told
  abbrev Counts : Bool → ℕ → ℕ → ℕ → Type 0
  Counts false first count said = count ≡ said
  Counts true first count said = first ≡ said

  -- at the byte at `at`: marks and records, what was said, whether a tag is open
  pub record Against (at : ℕ) (m : Marks) (k : Kept) (d : Said) (x : Bool) : Type 0 where
    pub inside : at ≤ length source
    pub bounded : Bounded at (length k.attributes) m
    pub tells : Tells k d.events
    pub mark : part source m.mark (at - m.mark) ≡ d.mark
    pub name : part source m.name_from (m.name_to - m.name_from) ≡ d.name
    pub key : part source m.key_from (m.key_to - m.key_from) ≡ d.key
    pub attributes : map (attribute_of source) (drop m.first k.attributes) ≡ d.attributes
    pub counts : Counts x m.first (length k.attributes) (attributes_in d.events)

  count-as : (x y : Bool) (first count n o : ℕ) → x ≡ y → n ≡ o → Counts x first count n → Counts y first count o
  count-as x y first count n o e f h = subst (λ (z : Bool). Counts z first count o) e (subst (Counts x first count) f h)

  count-open : (x : Bool) (first count n : ℕ) → x ≡ true → Counts x first count n → first ≡ n
  count-open x first count n e h = subst (λ (z : Bool). Counts z first count n) e h

  count-shut : (x : Bool) (first count n : ℕ) → x ≡ false → Counts x first count n → count ≡ n
  count-shut x first count n e h = subst (λ (z : Bool). Counts z first count n) e h

  count-all : (y : Bool) (count n : ℕ) → count ≡ n → Counts y count count n
  count-all true count n e = e
  count-all false count n e = e

  module _ (at : ℕ) (m : Marks) (k : Kept) (d : Said) (x : Bool) (g : Against at m k d x) (b : ℕ) (t : List ℕ) (h : drop at source ≡ b ∷ t) where
    within : at + 1 ≤ length source
    within = let z = ap length h in let y = length-drop at source in omega arith

    abbrev count : ℕ
    count = length k.attributes

    marks-grown : part source m.mark (at + 1 - m.mark) ≡ d.mark ++ (b ∷ [])
    marks-grown = part-grows source m.mark at b t g.bounded.mark h ∙ ap (λ (s : List ℕ). s ++ (b ∷ [])) g.mark

    -- an event is told, and the mark lies behind the byte
    ends : (r : Rec) (e : Event) (y : Bool) → EventIn (length source) count r → event_from source k.attributes r ∷ [] ≡ numbered (attributes_in d.events) (e ∷ []) →
        Counts y m.first count (attributes_in (d.events ++ (e ∷ []))) →
        Against (at + 1) (marking (at + 1) m) (put k (event r)) (tells (e ∷ []) d) y
    ends r e y p q c = record {
      inside = within;
      bounded = marks-bounded at count m g.bounded Mark;
      tells = tells-event k d.events r e g.tells p q;
      mark = part_none source (at + 1) (at + 1) (omega arith);
      name = g.name;
      key = g.key;
      attributes = g.attributes;
      counts = c;
    }

    -- one without attributes
    bare : (e : Event) (y : Bool) → attributes_in (e ∷ []) ≡ 0 → x ≡ y → Counts y m.first count (attributes_in (d.events ++ (e ∷ [])))
    bare e y z l = count-as x y m.first count (attributes_in d.events) (attributes_in (d.events ++ (e ∷ []))) l (omega (arith, attributes-append d.events (e ∷ []))) g.counts

    -- what is left out at the end of an instruction, a comment or a section
    less-said : (n : ℕ) → part source m.mark (at - n - m.mark) ≡ less n d.mark
    less-said n =
        let l = g.bounded.mark in
        let i = g.inside in
        let z : at - n - m.mark ≡ at - m.mark - n = omega arith in
        ap (part source m.mark) z ∙ sym (part-less source n m.mark (at - m.mark) (omega arith)) ∙ ap (less n) g.mark

    -- the mark lies behind the byte, or at it
    marks-at : (n : ℕ) (s : List ℕ) (y : Bool) → n ≤ at + 1 → part source n (at + 1 - n) ≡ s → x ≡ y → Against (at + 1) (marking n m) k (marks s d) y
    marks-at n s y l e q = record {
      inside = within;
      bounded = marked-bounded at count m g.bounded count n (omega arith) l;
      tells = g.tells;
      mark = e;
      name = g.name;
      key = g.key;
      attributes = g.attributes;
      counts = count-as x y m.first count (attributes_in d.events) (attributes_in d.events) q refl g.counts;
    }

    text-ends : (z : Bool) → ltb m.mark at ≡ z → (y : Bool) → x ≡ y →
        Against (at + 1) (marking (at + 1) m) (put k (cond z (event (over kind.text m.mark at)) nothing)) (tells (text_said d.mark) d) y
    text-ends z e y q =
        with-text z (text-told k d.events m.mark at d.mark g.tells g.bounded.mark g.inside g.mark z e)
      where
        same : attributes_in d.events ≡ attributes_in (d.events ++ text_said d.mark)
        same = let p = attributes-append d.events (text_said d.mark) in let o = said-bare d.mark in omega arith

        with-text : (z : Bool) → Tells (put k (cond z (event (over kind.text m.mark at)) nothing)) (d.events ++ text_said d.mark) →
            Against (at + 1) (marking (at + 1) m) (put k (cond z (event (over kind.text m.mark at)) nothing)) (tells (text_said d.mark) d) y
        with-text true w = record {
          inside = within;
          bounded = marks-bounded at count m g.bounded Mark;
          tells = w;
          mark = part_none source (at + 1) (at + 1) (omega arith);
          name = g.name;
          key = g.key;
          attributes = g.attributes;
          counts = count-as x y m.first count (attributes_in d.events) _ q same g.counts;
        }
        with-text false w = record {
          inside = within;
          bounded = marks-bounded at count m g.bounded Mark;
          tells = w;
          mark = part_none source (at + 1) (at + 1) (omega arith);
          name = g.name;
          key = g.key;
          attributes = g.attributes;
          counts = count-as x y m.first count (attributes_in d.events) _ q same g.counts;
        }

    -- a piece over the bytes up to `to`
    piece : (n to : ℕ) (e : Event) (y : Bool) → n ≤ 9 → to ≤ at → event_from source k.attributes (over n m.mark to) ∷ [] ≡ numbered (attributes_in d.events) (e ∷ []) → attributes_in (e ∷ []) ≡ 0 → x ≡ y →
        Against (at + 1) (marking (at + 1) m) (put k (event (over n m.mark to))) (tells (e ∷ []) d) y
    piece n to e y l p q z i =
        let w = g.inside in
        ends (over n m.mark to) e y (over-in n m.mark to (length source) count l (omega arith)) q (bare e y z i)

    tag-said : (n : table.TagKind) (s : List ℕ) → x ≡ true → part source m.name_from (m.name_to - m.name_from) ≡ s →
        Tag n (part source m.name_from (m.name_to - m.name_from)) (unless0 m.first (count - m.first)) (map (attribute_of source) (take (count - m.first) (drop (unless0 m.first (count - m.first)) k.attributes))) ∷ []
        ≡ numbered (attributes_in d.events) (Tag n s 0 d.attributes ∷ [])
    tag-said n s o e =
        ap (λ (w : List ℕ). Tag n w (unless0 m.first (count - m.first)) (map (attribute_of source) (take (count - m.first) (drop (unless0 m.first (count - m.first)) k.attributes))) ∷ []) e
        ∙ tag-by n s m.first k.attributes (drop m.first k.attributes) (count - m.first) refl (length-drop m.first k.attributes)
        ∙ (λ i. numbered (count-open x m.first count (attributes_in d.events) o g.counts i) (Tag n s 0 (g.attributes i) ∷ []))

    -- all attributes are told with the tag
    tag-counts : (n : table.TagKind) (y : Bool) → x ≡ true → y ≡ false → Counts y m.first count (attributes_in (d.events ++ (Tag n d.name 0 d.attributes ∷ [])))
    tag-counts n y o q =
        let p = attributes-append d.events (Tag n d.name 0 d.attributes ∷ []) in
        let j = count-open x m.first count (attributes_in d.events) o g.counts in
        let a : length (map (attribute_of source) (drop m.first k.attributes)) ≡ length d.attributes = ap length g.attributes in
        let c = length-map (drop m.first k.attributes) (attribute_of source) in
        let r = length-drop m.first k.attributes in
        let l = g.bounded.first in
        let z : count ≡ attributes_in (d.events ++ (Tag n d.name 0 d.attributes ∷ [])) = omega arith in
        subst (λ (w : Bool). Counts w m.first count (attributes_in (d.events ++ (Tag n d.name 0 d.attributes ∷ [])))) (sym q) z

    values-said : (y : Bool) → x ≡ true → y ≡ true → Against (at + 1) m (put k (due Value at count m)) (saying Value b d) y
    values-said y o q =
        let r : Rec = rec 0 m.key_from (m.key_to - m.key_from) (unless0 m.mark (at - m.mark)) (at - m.mark) in
        let one : attribute_of source r ≡ record { good = true; key = d.key; value = d.mark } = (λ i. record { good = true; key = g.key i; value = over-said m.mark at d.mark g.mark i }) in
        record {
          inside = within;
          bounded = subst (λ (c : ℕ). Bounded (at + 1) c m) (sym (put_count k (due Value at count m))) (marks-bounded at count m g.bounded Value);
          tells = tells-attribute k d.events r g.tells;
          mark = marks-grown;
          name = g.name;
          key = g.key;
          attributes =
              ap (map (attribute_of source)) (drop-append-le m.first k.attributes (r ∷ []) g.bounded.first)
              ∙ map-append (attribute_of source) (drop m.first k.attributes) (r ∷ [])
              ∙ (λ i. g.attributes i ++ (one i ∷ []));
          counts = subst (λ (w : Bool). Counts w m.first (length (k.attributes ++ (r ∷ []))) (attributes_in d.events)) (sym q) (count-open x m.first count (attributes_in d.events) o g.counts);
        }

    pub step-against : (a : Act) (y : Bool) → Lawful a x y → Against (at + 1) (marks_by a at count m) (put k (due a at count m)) (saying a b d) y
    unfolding event_of
    step-against Stay y l = record {
      inside = within;
      bounded = marks-bounded at count m g.bounded Stay;
      tells = g.tells;
      mark = marks-grown;
      name = g.name;
      key = g.key;
      attributes = g.attributes;
      counts = count-as x y m.first count (attributes_in d.events) (attributes_in d.events) l refl g.counts;
    }
    step-against Mark y l = marks-at (at + 1) [] y (omega arith) (part_none source (at + 1) (at + 1) (omega arith)) l
    step-against Here y l = marks-at at (b ∷ []) y (omega arith) (part-here source at b t h) l
    step-against EndText y l = text-ends (ltb m.mark at) refl y l
    step-against TextMark y l = text-ends (ltb m.mark at) refl y l
    step-against Name y l = record {
      inside = within;
      bounded = marks-bounded at count m g.bounded Name;
      tells = g.tells;
      mark = marks-grown;
      name = g.mark;
      key = g.key;
      attributes = ap (map (attribute_of source)) (drop-length k.attributes);
      counts = count-all y count (attributes_in d.events) (count-shut x m.first count (attributes_in d.events) l g.counts);
    }
    step-against NameStart y l = piece kind.start at (Tag table.Start d.mark 0 []) y (omega arith) (omega arith) (ap (λ (w : List ℕ). Tag table.Start w 0 [] ∷ []) (over-said m.mark at d.mark g.mark)) refl l
    step-against NameEnd y l = piece kind.end at (Tag table.End d.mark 0 []) y (omega arith) (omega arith) (ap (λ (w : List ℕ). Tag table.End w 0 [] ∷ []) (over-said m.mark at d.mark g.mark)) refl l
    step-against Start y l =
        ends _ (Tag table.Start d.name 0 d.attributes) y (due_in (length source) at count m g.bounded g.inside Start) (tag-said table.Start d.name l.0 g.name) (tag-counts table.Start y l.0 l.1)
    step-against Empty y l =
        ends _ (Tag table.Empty d.name 0 d.attributes) y (due_in (length source) at count m g.bounded g.inside Empty) (tag-said table.Empty d.name l.0 g.name) (tag-counts table.Empty y l.0 l.1)
    step-against End y l =
        ends _ (Tag table.End d.name 0 []) y (due_in (length source) at count m g.bounded g.inside End) (ap (λ (w : List ℕ). Tag table.End w 0 [] ∷ []) (over-said m.name_from m.name_to d.name g.name)) (bare (Tag table.End d.name 0 []) y refl l)
    step-against Key y l = record {
      inside = within;
      bounded = marks-bounded at count m g.bounded Key;
      tells = g.tells;
      mark = marks-grown;
      name = g.name;
      key = g.mark;
      attributes = g.attributes;
      counts = count-as x y m.first count (attributes_in d.events) (attributes_in d.events) l refl g.counts;
    }
    step-against Value y l = values-said y l.0 l.1
    step-against Ref y l = piece kind.ref at (Piece table.Ref d.mark) y (omega arith) (omega arith) (ap (λ (w : List ℕ). Piece table.Ref w ∷ []) (over-said m.mark at d.mark g.mark)) refl l
    step-against Comment y l = piece kind.other (at - 2) (Piece table.Other (less 2 d.mark)) y (omega arith) (omega arith) (ap (λ (w : List ℕ). Piece table.Other w ∷ []) (over-said m.mark (at - 2) (less 2 d.mark) (less-said 2))) refl l
    step-against Pi y l = piece kind.other (at - 1) (Piece table.Other (less 1 d.mark)) y (omega arith) (omega arith) (ap (λ (w : List ℕ). Piece table.Other w ∷ []) (over-said m.mark (at - 1) (less 1 d.mark) (less-said 1))) refl l
    step-against CData y l = piece kind.cdata (at - 2) (Piece table.CData (less 2 d.mark)) y (omega arith) (omega arith) (ap (λ (w : List ℕ). Piece table.CData w ∷ []) (over-said m.mark (at - 2) (less 2 d.mark) (less-said 2))) refl l
