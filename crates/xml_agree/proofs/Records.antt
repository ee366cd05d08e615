-- The acts that put a record, and `</`: one law each. Assumes nothing.
use Prim.Native.Nat.{ℕ, ◌+◌, ◌-◌, ◌≤◌, ◌<◌}
use mathlib.Core.Path.{◌≡◌, refl, sym, ap, ◌∙◌}
use mathlib.Core.List.{List, [], ◌∷◌}
use mathlib.Core.Bool.{Bool, true, cond}
use native.Mathlib.Omega.{arith}
use borrow.Author.Tests.{ne_eqb}
use lib.ListN.{length, take, drop}
use Rattle.xml_rep.specs.of_table.Kinds as kind
use Rattle.xml_rep.specs.of_xml_chars.Chars.{Quote, single, double}
use Rattle.xml_rep.specs.of_xml_chars.Bytes.{whole}
use Rattle.xml_rep.specs.of_xml_machine.State.{text, b0, tag, value, value_end, ending, Place, before, after, inside, Stay, Mark, NameStart, NameEnd, Start, Empty, End, Value, Ref, Comment, Pi, CData, go}
use Rattle.xml_rep.specs.of_xml_machine.Machine.{shut, resume}
use Rattle.xml_rep.specs.of_xml_machine.Tokens.{rec, unless0, over, Marks, marking, event, attribute}
use Rattle.xml_rep.specs.of_xml_stack.Stack.{Range, range}
use Rattle.xml_rep.specs.of_xml_state.declared.State.{State as Registers}
use Rattle.xml_rep.specs.of_xml_state.declared.Step.TheVariants.{Go}
use Rattle.xml_rep.specs.of_xml_state.inside.Rows as row
use Rattle.xml_rep.specs.of_xml_state.inside.Registers.{in_mode, at_mark_of, with_name, with_count}
use Rattle.xml_rep.specs.of_xml_state.inside.Acts.{named_of, acted_of}
use Rattle.xml_rep.specs.of_xml_state.inside.Puts.{by_events, stepped, put_over, fresh_of, settled_of, in_value, act_ref, act_between, act_on}
use Rattle.xml_rep.specs.inside.Modes.{mode_of, by_quote, end_mode}
use Rattle.xml_rep.specs.inside.Rep.{Growing, Tagged, Keyed, Named, no_name_of, a_name, opened, Closing, Rep}
use Rattle.xml_rep.specs.inside.Agree.{shut_in, Agree, closing, starting, emptying, closed, between, valuing}
use Rattle.xml_agree.proofs.Agreeing.{Level, stayed}
use Rattle.xml_agree.proofs.Names.{none_left}

-- a start with a length is kept
started : (s l : ℕ) → 0 < l → unless0 s l ≡ s
started s l h = rw (ne_eqb l 0 (λ e. omega arith)) refl

-- ---- behind a closed element
shut-rep : (src : List ℕ) (at : ℕ) (st : Registers) (m : Marks) (n : ℕ) (rs : List Range) (ms : List (List ℕ)) → Named src rs ms → st.kept ≡ n → (top count : ℕ) →
    Rep src (at + 1) (with_count count (settled_of st (shut_in rs) at top)) (shut ms) (marking (at + 1) m) n rs
shut-rep src at st m n [] (o ∷ ms) x4 k top count = elim x4 [ ]
shut-rep src at st m n (range s l ∷ rs) [] x6 k top count = elim x6 [ ]
shut-rep src at st m n [] [] no_name_of k top count = record { moded = refl; homed = refl; placed = no_name_of; mark = refl; kept = k }
shut-rep src at st m n (range s l ∷ rs) (o ∷ ms) (a_name e p w r) k top count = record { moded = refl; homed = refl; placed = a_name e p w r; mark = refl; kept = k }

-- ---- the records that are due, in the words of the registers
tag-due : (k from to first n : ℕ) (st : Registers) → from ≡ st.name → to - from ≡ st.long → first ≡ st.first → st.kept ≡ n →
    event (rec k from (to - from) (unless0 first (n - first)) (n - first)) ≡ event (rec k st.name st.long (unless0 st.first (st.kept - st.first)) (st.kept - st.first))
tag-due k from to first n st e f g h = rw (f, e, g, h) refl

name-due : (k from at kept : ℕ) → from < at → event (over k from at) ≡ event (rec k from (at - from) (unless0 kept (kept - kept)) (kept - kept))
name-due k from at kept h =
    let z : kept - kept ≡ 0 = omega arith in
    rw (z, started from (at - from) (omega arith)) refl

end-due : (from to mark long : ℕ) → from ≡ mark → to - from ≡ long → 0 < long → event (over kind.end from to) ≡ event (rec kind.end mark long 0 0)
end-due from to mark long e f h = rw (f, started from long h, e) refl

value-due : (key key' wide wide' mark mark' at : ℕ) → key ≡ key' → wide ≡ wide' → mark ≡ mark' → attribute (rec 0 key wide (unless0 mark (at - mark)) (at - mark)) ≡ attribute (rec 0 key' wide' (unless0 mark' (at - mark')) (at - mark'))
value-due key key' wide wide' mark mark' at e f g = rw (e, f, g) refl

over-due : (k mark mark' end : ℕ) → mark ≡ mark' → event (over k mark end) ≡ event (over k mark' end)
over-due k mark mark' end e = rw e refl

-- ---- behind other markup
resume-rep : (src : List ℕ) (at : ℕ) (st : Registers) (m : Marks) (n : ℕ) (rs : List Range) (pl : Place) → st.home ≡ mode_of (resume pl) → Named src rs (opened pl) → st.kept ≡ n → (count : ℕ) →
    Rep src (at + 1) (with_count count (fresh_of st st.home at)) (resume pl) (marking (at + 1) m) n rs
resume-rep src at st m n rs before h p k count = record { moded = h; homed = h; placed = p; mark = refl; kept = k }
resume-rep src at st m n rs after h p k count = record { moded = h; homed = h; placed = p; mark = refl; kept = k }
resume-rep src at st m n rs (inside o ns) h p k count = record { moded = h; homed = h; placed = p; mark = refl; kept = k }

module _ {src : List ℕ} {at : ℕ} {st : Registers} {m : Marks} {n : ℕ} {rs : List Range} (v : Level st m n) where
  -- `>` behind a tag's name
  pub names-start : (o : List ℕ) (ns : List (List ℕ)) → Named src rs ns → Growing src o st.mark at → Agree src at st m n rs (row.to row.text_in_of row.name_start_end) (go NameStart (text b0 whole o ns))
  unfolding act_on
  names-start o ns p g =
      starting (record {
        from = named_of st row.text_in_of at;
        does = λ events attributes. refl;
        dues = over-due kind.start m.mark st.mark at (sym v.same) ∙ name-due kind.start st.mark at st.kept g.0;
        top = refl;
        count = refl;
        within = omega (arith, g.0, g.1);
        onward = λ top count. record { moded = refl; homed = refl; placed = a_name {s = st.mark} {l = at - st.mark} g.2 (omega (arith, g.0)) (omega (arith, g.0, g.1)) p; mark = refl; kept = v.kept };
      })

  -- `>` further on
  pub starts : (o : List ℕ) (ns : List (List ℕ)) → Named src rs ns → Tagged src o st m → Agree src at st m n rs (row.to row.text_in_of row.start_end) (go Start (text b0 whole o ns))
  unfolding act_on
  starts o ns p t =
      starting (record {
        from = st;
        does = λ events attributes. refl;
        dues = tag-due kind.start m.name_from m.name_to m.first n st t.3 t.4 t.5 v.kept;
        top = refl;
        count = refl;
        within = t.1;
        onward = λ top count. record { moded = refl; homed = refl; placed = a_name t.2 t.0 t.1 p; mark = refl; kept = v.kept };
      })

  pub empties : (o : List ℕ) (ns : List (List ℕ)) → Named src rs ns → Tagged src o st m → Agree src at st m n rs (row.to row.text_in_of row.empty_end) (go Empty (shut ns))
  unfolding act_on
  empties o ns p t = emptying (record { does = λ events attributes. refl; dues = tag-due kind.empty m.name_from m.name_to m.first n st t.3 t.4 t.5 v.kept; onward = shut-rep src at st m n rs ns p v.kept })

  -- ---- end tags
  pub names-end : (ms : List (List ℕ)) → Closing src ms st.name st.long rs → st.mark + st.long ≡ at → Agree src at st m n rs (row.to row.text_in_of row.end_end) (go NameEnd (shut ms))
  unfolding act_on
  names-end ms c e =
      closed (record {
        start = st.name;
        long = st.long;
        others = c.others;
        open_is = c.first;
        does = λ events attributes. refl;
        dues = end-due m.mark at st.mark st.long (sym v.same) (omega (arith, v.same)) c.some;
        onward = shut-rep src at st m n c.others ms c.behind v.kept;
      })

  pub ends-later : (ms : List (List ℕ)) → Closing src ms st.name st.long rs → m.name_from ≡ st.mark → m.name_to ≡ st.mark + st.long → Agree src at st m n rs (row.to row.text_in_of row.end_end) (go End (shut ms))
  unfolding act_on
  ends-later ms c e f =
      closed (record {
        start = st.name;
        long = st.long;
        others = c.others;
        open_is = c.first;
        does = λ events attributes. refl;
        dues = end-due m.name_from m.name_to st.mark st.long e (omega arith) c.some;
        onward = shut-rep src at st m n c.others ms c.behind v.kept;
      })

  -- ---- values
  pub values : (o : List ℕ) (ns : List (List ℕ)) → Named src rs ns → Tagged src o st m → Keyed st m → Agree src at st m n rs (row.to row.value_end row.value_ended) (go Value (tag value_end whole o ns))
  unfolding act_on
  values o ns p t k =
      valuing {mv = row.to row.value_end row.value_ended} {a = Value} {u = tag value_end whole o ns} (record {
        does = λ events attributes. refl;
        dues = value-due m.key_from st.key (m.key_to - m.key_from) st.wide m.mark st.mark at k.0 k.1 (sym v.same);
        onward = record { moded = refl; homed = tt; placed = (p, t); mark = v.same; kept = ap (λ (x : ℕ). x + 1) v.kept };
      })

  -- ---- what leads back home
  -- in content a reference is a record
  pub refers : (o : List ℕ) (ns : List (List ℕ)) → st.home ≡ row.text_in_of → Named src rs (o ∷ ns) → Agree src at st m n rs (row.to row.text_in_of row.ref_end) (go Ref (text b0 whole o ns))
  unfolding act_on act_ref
  refers o ns h p =
      between {mv = row.to row.text_in_of row.ref_end} {a = Ref} {u = text b0 whole o ns} (record {
        k = kind.ref;
        end = at;
        does = λ events attributes. rw h refl;
        dues = over-due kind.ref m.mark st.mark at (sym v.same);
        onward = λ count. record { moded = h; homed = h; placed = p; mark = refl; kept = v.kept };
      })

  -- in a value it isn't
  pub refers-value : (q : Quote) (o : List ℕ) (ns : List (List ℕ)) → st.home ≡ by_quote q row.value_d row.value_s → Named src rs ns → Tagged src o st m → Keyed st m →
      Agree src at st m n rs (row.to row.text_in_of row.ref_end) (go Stay (tag (value q) whole o ns))
  unfolding act_on act_ref
  refers-value q o ns h p t k =
      stayed (in_mode st.home st) (tag (value q) whole o ns) (λ events attributes. ap (λ (x : Bool). by_events (cond x (stepped (Go (in_mode st.home st)) events) (put_over (fresh_of st st.home at) kind.ref st.mark at events)) attributes) (home q h)) refl refl
      (record { moded = h; homed = h; placed = (p, (t, k)); mark = v.same; kept = v.kept })
    where
      home : (q : Quote) → st.home ≡ by_quote q row.value_d row.value_s → in_value st.home ≡ true
      home double h = rw h refl
      home single h = rw h refl

  pub sections : (o : List ℕ) (ns : List (List ℕ)) → st.home ≡ row.text_in_of → Named src rs (o ∷ ns) → Agree src at st m n rs (row.to row.text_in_of row.cdata_end) (go CData (text b0 whole o ns))
  unfolding act_on act_between
  sections o ns h p =
      between (record {
        k = kind.cdata;
        end = at - 2;
        does = λ events attributes. refl;
        dues = over-due kind.cdata m.mark st.mark (at - 2) (sym v.same);
        onward = λ count. record { moded = h; homed = h; placed = p; mark = refl; kept = v.kept };
      })

  pub comments : (pl : Place) → st.home ≡ mode_of (resume pl) → Named src rs (opened pl) → Agree src at st m n rs (row.to row.text_in_of row.comment_end) (go Comment (resume pl))
  unfolding act_on act_between
  comments pl h p =
      between (record {
        k = kind.other;
        end = at - 2;
        does = λ events attributes. refl;
        dues = over-due kind.other m.mark st.mark (at - 2) (sym v.same);
        onward = resume-rep src at st m n rs pl h p v.kept;
      })

  pub instructs : (pl : Place) → st.home ≡ mode_of (resume pl) → Named src rs (opened pl) → Agree src at st m n rs (row.to row.text_in_of row.pi_end) (go Pi (resume pl))
  unfolding act_on act_between
  instructs pl h p =
      between (record {
        k = kind.other;
        end = at - 1;
        does = λ events attributes. refl;
        dues = over-due kind.other m.mark st.mark (at - 1) (sym v.same);
        onward = resume-rep src at st m n rs pl h p v.kept;
      })

-- `</`
close-rep : (src : List ℕ) (at : ℕ) (st : Registers) (m : Marks) (n s l : ℕ) (others : List Range) (o : List ℕ) (ns : List (List ℕ)) → st.kept ≡ n → o ≡ take l (drop s src) → 0 < l → s + l ≤ length src →
    Named src others ns → Rep src (at + 1) (with_name s l (at_mark_of (at + 1) (in_mode row.end_name st))) (ending o ns) (marking (at + 1) m) n (range s l ∷ others)
close-rep src at st m n s l others o ns k e p w r =
    let z : at + 1 - (at + 1) ≡ 0 = omega arith in
    record {
      moded = sym (long o e);
      homed = tt;
      placed = (record { others = others; first = refl; behind = r; some = p; within = w }, omega arith, omega arith, rw z e);
      mark = refl;
      kept = k;
    }
  where
    long : (o : List ℕ) → o ≡ take l (drop s src) → end_mode o ≡ row.end_name
    long [] e = absurd (let h = none_left src s l 0 w e in omega arith)
    long (c ∷ o) e = refl

pub closes : {src : List ℕ} {at : ℕ} {st : Registers} {m : Marks} {n : ℕ} (rs : List Range) (v : Level st m n) (o : List ℕ) (ns : List (List ℕ)) → Named src rs (o ∷ ns) →
    Agree src at st m n rs (row.to row.end_name row.closing) (go Mark (ending o ns))
unfolding act_on acted_of
closes {src = src} {at = at} {st = st} {m = m} {n = n} [] v o ns x' = elim x' [ ]
closes {src} {at} {st} {m} {n} (range s l ∷ others) v o ns (a_name e p w r) =
    closing (record {
      start = s;
      long = l;
      others = others;
      open_is = refl;
      does = λ events attributes. refl;
      dues = refl;
      onward = close-rep src at st m n s l others o ns v.kept e p w r;
    })
