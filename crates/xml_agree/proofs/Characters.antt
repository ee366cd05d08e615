-- A character's first byte, and its further ones. Assumes nothing.
use Prim.Native.Nat.{ℕ, ◌+◌, ◌-◌, ◌*◌}
use mathlib.Core.Path.{◌≡◌, refl, ap}
use mathlib.Core.List.{List}
use mathlib.Core.Bool.{true, false}
use lib.Dec.{ltb}
use lib.ListN.{get_or}
use Rattle.xml_rep.specs.of_xml_chars.Chars as chars
use Rattle.xml_rep.specs.of_xml_chars.Chars.{meets, any_char, name_start, name_char}
use Rattle.xml_rep.specs.of_xml_chars.Bytes.{Left, one, two, three, Part, whole, part, fits}
use Rattle.xml_rep.specs.of_xml_machine.State.{State, Act, Stay, Here, Next, no, go}
use Rattle.xml_rep.specs.of_xml_machine.Machine.{char, begun}
use Rattle.xml_rep.specs.of_xml_machine.Tokens.{Marks, marking}
use Rattle.xml_rep.specs.of_xml_stack.Stack.{Range}
use Rattle.xml_rep.specs.of_xml_state.declared.Part.{Part as Open}
use Rattle.xml_rep.specs.of_xml_state.declared.Move.{Move}
use Rattle.xml_rep.specs.of_xml_state.declared.State.{State as Registers}
use Rattle.xml_rep.specs.of_xml_state.inside.Rows as row
use Rattle.xml_rep.specs.of_xml_state.inside.Rows.{char_row}
use Rattle.xml_rep.specs.of_xml_state.declared.class.Class.{Class}
use Rattle.xml_rep.specs.of_xml_state.declared.class.Class.TheVariants as classes
use Rattle.xml_rep.specs.of_xml_state.inside.Parts.{class_of, part_of, lead_of}
use Rattle.xml_rep.specs.of_xml_state.inside.Registers.{in_mode, at_mark_of}
use Rattle.xml_rep.specs.of_xml_state.inside.Acts.{led_of, opened_of, acted_of}
use Rattle.xml_rep.specs.of_xml_state.inside.Puts.{act_on}
use Rattle.xml_rep.specs.inside.Rep.{left_of, Parted, Partly, Moded, Homed, Placed, Rep}
use Rattle.xml_rep.specs.inside.Agree.{Agree, quietly}
use Rattle.xml_agree.proofs.Agreeing.{moved, Level, either, given, refused, stayed}

-- ---- what a first byte leaves open
lead-one : (class : Class) (b : ℕ) → ltb b 0xE0 ≡ true → lead_of class b ≡ part_of class 1 ((b - 0xC0) * 64) 0x80
unfolding lead_of
lead-one class b e = rw e refl

lead-two : (class : Class) (b : ℕ) → ltb b 0xE0 ≡ false → ltb b 0xF0 ≡ true → lead_of class b ≡ part_of class 2 ((b - 0xE0) * 4096) 0x800
unfolding lead_of
lead-two class b e f = rw (e, f) refl

lead-three : (class : Class) (b : ℕ) → ltb b 0xE0 ≡ false → ltb b 0xF0 ≡ false → lead_of class b ≡ part_of class 3 ((b - 0xF0) * 262144) 0x10000
unfolding lead_of
lead-three class b e f = rw (e, f) refl

lead-parted : (class : Class) (low least : ℕ) (l : Left) (p : Open) → p ≡ part_of class (left_of l) low least → Parted (class_of class) low l least p
lead-parted class low least l p e = (ap (λ (q : Open). class_of q.class) e, ap (λ (q : Open). q.left) e, ap (λ (q : Open). q.low) e, ap (λ (q : Open). q.least) e)

module _ (src : List ℕ) (at : ℕ) {st : Registers} {m : Marks} {n : ℕ} {rs : List Range} where
  -- a whole character, the first byte of a longer one, or another ASCII byte
  char-agrees : (cls : List chars.Range) (class : Class) (mv lead other : Move) (a : Act) (f : Part → State) (nx : Next) → Agree src at st m n rs mv (go a (f whole)) →
      ((low : ℕ) (l : Left) (least : ℕ) → lead_of class (get_or src at 0) ≡ part_of class (left_of l) low least → Agree src at st m n rs lead (go a (f (part cls low l least)))) →
      Agree src at st m n rs other nx → Agree src at st m n rs (char_row cls (get_or src at 0) mv lead other) (char cls (get_or src at 0) a f nx)
  unfolding char_row char begun
  char-agrees cls class mv lead other a f nx p q o =
      either (ltb (get_or src at 0) 0x80) (either (meets cls (get_or src at 0) (get_or src at 0)) p o)
      (either (ltb (get_or src at 0) 0xC0) refused
      (given (ltb (get_or src at 0) 0xE0) (λ e. either (fits cls ((get_or src at 0 - 0xC0) * 64) one 0x80) (q _ one _ (lead-one class (get_or src at 0) e)) refused)
      (λ e. given (ltb (get_or src at 0) 0xF0) (λ g. either (fits cls ((get_or src at 0 - 0xE0) * 4096) two 0x800) (q _ two _ (lead-two class (get_or src at 0) e g)) refused)
      (λ g. either (ltb (get_or src at 0) 0xF8) (either (fits cls ((get_or src at 0 - 0xF0) * 262144) three 0x10000) (q _ three _ (lead-three class (get_or src at 0) e g)) refused) refused))))

  module _ (v : Level st m n) (k : ℕ) (f : Part → State) (e : (q : Part) (to : Registers) → Partly q k to → Moded (f q) to) (h : (q : Part) → Homed (f q) st.home) where
    module _ (p : (q : Part) (k t : ℕ) (o : Open) → Placed src (at + 1) (f q) (moved k t o st) m rs) where
      whole-rep : Rep src (at + 1) (in_mode k st) (f whole) m n rs
      whole-rep = record { moded = e whole (in_mode k st) refl; homed = h whole; placed = p whole k st.then st.part; mark = v.same; kept = v.kept }

      whole-agrees : Agree src at st m n rs (row.to k row.stay) (go Stay (f whole))
      whole-agrees = stayed (in_mode k st) (f whole) (λ events attributes. refl) refl refl whole-rep

      part-rep : (cls : List chars.Range) (low : ℕ) (l : Left) (least : ℕ) (o : Open) → Parted cls low l least o → Rep src (at + 1) (moved row.within k o st) (f (part cls low l least)) m n rs
      part-rep cls low l least o d =
          record { moded = e (part cls low l least) (moved row.within k o st) (refl, refl, d); homed = h (part cls low l least); placed = p (part cls low l least) row.within k o; mark = v.same; kept = v.kept }

      pub any-agrees : Agree src at st m n rs (row.any_row k (get_or src at 0)) (char any_char (get_or src at 0) Stay f no)
      unfolding act_on acted_of opened_of
      any-agrees =
          char-agrees any_char classes.Any _ _ _ Stay f no whole-agrees
          (λ low l least d. stayed (led_of st k classes.Any (get_or src at 0)) (f (part any_char low l least)) (λ events attributes. refl) refl refl (part-rep any_char low l least (lead_of classes.Any (get_or src at 0)) (lead-parted classes.Any low least l (lead_of classes.Any (get_or src at 0)) d)))
          refused

      pub start-agrees : (other : Move) (nx : Next) → Agree src at st m n rs other nx →
          Agree src at st m n rs (char_row name_start (get_or src at 0) (row.to k row.stay) (row.to k row.lead_start) other) (char name_start (get_or src at 0) Stay f nx)
      unfolding act_on acted_of opened_of
      start-agrees other nx o =
          char-agrees name_start classes.Start _ _ other Stay f nx whole-agrees
          (λ low l least d. stayed (led_of st k classes.Start (get_or src at 0)) (f (part name_start low l least)) (λ events attributes. refl) refl refl (part-rep name_start low l least (lead_of classes.Start (get_or src at 0)) (lead-parted classes.Start low least l (lead_of classes.Start (get_or src at 0)) d)))
          o

      pub name-agrees : (other : Move) (nx : Next) → Agree src at st m n rs other nx → Agree src at st m n rs (row.name_row k other (get_or src at 0)) (char name_char (get_or src at 0) Stay f nx)
      unfolding act_on acted_of opened_of
      name-agrees other nx o =
          char-agrees name_char classes.Name _ _ other Stay f nx whole-agrees
          (λ low l least d. stayed (led_of st k classes.Name (get_or src at 0)) (f (part name_char low l least)) (λ events attributes. refl) refl refl (part-rep name_char low l least (lead_of classes.Name (get_or src at 0)) (lead-parted classes.Name low least l (lead_of classes.Name (get_or src at 0)) d)))
          o

    -- the character begins a name or a key
    pub here-agrees : ((q : Part) (k t : ℕ) (o : Open) → Placed src (at + 1) (f q) (moved k t o (at_mark_of at st)) (marking at m) rs) → (other : Move) (nx : Next) → Agree src at st m n rs other nx →
        Agree src at st m n rs (char_row name_start (get_or src at 0) (row.to k row.here) (row.to k row.lead_here) other) (char name_start (get_or src at 0) Here f nx)
    unfolding act_on acted_of opened_of
    here-agrees p other nx o =
        char-agrees name_start classes.Start _ _ other Here f nx
        (quietly (record {
          to = at_mark_of at (in_mode k st);
          does = λ events attributes. refl;
          dues = refl;
          top = refl;
          count = refl;
          onward = record { moded = e whole (at_mark_of at (in_mode k st)) refl; homed = h whole; placed = p whole k st.then st.part; mark = refl; kept = v.kept };
        }))
        (λ low l least d. quietly (record {
          to = led_of (at_mark_of at (in_mode k st)) k classes.Start (get_or src at 0);
          does = λ events attributes. refl;
          dues = refl;
          top = refl;
          count = refl;
          onward = record {
            moded = e (part name_start low l least) (moved row.within k (lead_of classes.Start (get_or src at 0)) (at_mark_of at st)) (refl, refl, lead-parted classes.Start low least l (lead_of classes.Start (get_or src at 0)) d);
            homed = h (part name_start low l least);
            placed = p (part name_start low l least) row.within k (lead_of classes.Start (get_or src at 0));
            mark = refl;
            kept = v.kept;
          };
        }))
        o
