-- Each way out, on plain numbers and lists. Assumes nothing.
use Prim.Native.Nat.{ℕ, ◌-◌}
use mathlib.Core.Path.{◌≡◌, refl, sym, ap, ◌∙◌}
use mathlib.Core.List.{List}
use mathlib.Core.Bool.{Bool, true, false, not, ◌&&◌, ◌||◌}
use lib.Dec.{leb, ltb, eqb}
use lib.ListN.{length, drop}
use borrow.Author.Tests.{eq-eqb, ne_eqb}
use Rattle.xml_put.specs.of_names.Bytes.{bytes}
use Rattle.xml_put.specs.of_refusal.Refusal.{nowhere}
use Rattle.xml_put.specs.of_table.Kinds as kind
use Rattle.xml_put.specs.of_xml_chars.Chars.{begins}
use Rattle.xml_put.specs.of_xml_state.declared.State.{State}
use Rattle.xml_put.specs.of_xml_state.declared.Step.{Step}
use Rattle.xml_put.specs.of_xml_state.declared.Step.TheVariants.{Go, Full, Bad}
use Rattle.xml_put.specs.of_xml_state.declared.Tokenized.{Tokenized}
use Rattle.xml_put.specs.of_xml_state.declared.Tokenized.TheVariants.{Table, Refused}
use Rattle.xml_put.specs.of_xml_state.inside.Rows as row
use Rattle.xml_put.specs.of_xml_state.inside.Puts.{stepped, room_for, put_over, act_text}
use Rattle.xml_put.specs.of_xml_state.inside.Turns.{run_mode, broken_of, refused_of, ended, eof_of, finish_of}

-- ---- the open run
module _ (s : State) (at words : ℕ) {m : ℕ} (em : m ≡ run_mode s) where
  abbrev run-open : Bool
  run-open = leb m row.text_shut2 && ltb s.mark at

  pub run-full : {r : Bool} → run-open ≡ true → r ≡ room_for s.count words → not r ≡ true → Refused 16 nowhere ≡ broken_of s at words
  unfolding broken_of
  run-full o e n = rw (sym em, o, sym e, n) refl

  pub run_fits : {r : Bool} → run-open ≡ true → r ≡ room_for s.count words → not r ≡ false → Refused 18 at ≡ broken_of s at words
  unfolding broken_of
  run_fits o e n = rw (sym em, o, sym e, n) refl

  pub no_run : run-open ≡ false → Refused 18 at ≡ broken_of s at words
  unfolding broken_of
  no_run o = rw (sym em, o) refl

-- ---- a refused byte
module _ (s : State) (at words : ℕ) (source : List ℕ) where
  found : {d : Bool} {w : ℕ} → w ≡ at → d ≡ begins (bytes "DOCTYPE") (drop w source) → d ≡ begins (bytes "DOCTYPE") (drop at source)
  found ew e = e ∙ ap (λ (k : ℕ). begins (bytes "DOCTYPE") (drop k source)) ew

  pub is-doctype : {d : Bool} {k w : ℕ} → w ≡ at → (eqb s.mode row.bang_out || eqb s.mode row.bang_in) ≡ true → d ≡ begins (bytes "DOCTYPE") (drop w source) → d ≡ true → k ≡ at - 2 →
      Refused 19 k ≡ refused_of s at source words
  unfolding refused_of
  is-doctype ew b e t q = rw (b, sym (found ew e) ∙ t, q) refl

  pub not-doctype : {d : Bool} {w : ℕ} {r : Tokenized} → w ≡ at → (eqb s.mode row.bang_out || eqb s.mode row.bang_in) ≡ true → d ≡ begins (bytes "DOCTYPE") (drop w source) → d ≡ false →
      r ≡ broken_of s at words → r ≡ refused_of s at source words
  unfolding refused_of
  not-doctype ew b e t q = rw (b, sym (found ew e) ∙ t) q

  pub no-bang : {r : Tokenized} → (eqb s.mode row.bang_out || eqb s.mode row.bang_in) ≡ false → r ≡ broken_of s at words → r ≡ refused_of s at source words
  unfolding refused_of
  no-bang b q = rw b q

-- ---- behind the last byte
module _ (s : State) (events after : List ℕ) {r : Step} (e : stepped r after ≡ put_over s kind.eof 0 0 events) where
  pub eof-put : {t : State} → r ≡ Go t → ended (Table t.count t.kept) after ≡ eof_of s events
  unfolding eof_of
  eof-put q = rw (sym e, q) refl

  pub eof-full : r ≡ Full → ended (Refused 16 nowhere) after ≡ eof_of s events
  unfolding eof_of
  eof-full q = rw (sym e, q) refl

  pub eof-bad : r ≡ Bad → ended (Refused 16 nowhere) after ≡ eof_of s events
  unfolding eof_of
  eof-bad q = rw (sym e, q) refl

module _ (s : State) (at : ℕ) (events after : List ℕ) {r : Step} (here : s.mode ≡ row.text_after_of) (e : stepped r after ≡ act_text s s.mode at events) where
  pub finish-put : {t : State} {x : Tokenized} (last : List ℕ) → r ≡ Go t → ended x last ≡ eof_of t after → ended x last ≡ finish_of s at events
  unfolding finish_of
  finish-put last q w = rw (eq-eqb s.mode row.text_after_of here, sym e, q) w

  pub finish-full : r ≡ Full → ended (Refused 16 nowhere) after ≡ finish_of s at events
  unfolding finish_of
  finish-full q = rw (eq-eqb s.mode row.text_after_of here, sym e, q) refl

  pub finish-bad : r ≡ Bad → ended (Refused 16 nowhere) after ≡ finish_of s at events
  unfolding finish_of
  finish-bad q = rw (eq-eqb s.mode row.text_after_of here, sym e, q) refl

pub cut_off : (s : State) (at : ℕ) (events : List ℕ) {r : Tokenized} → (s.mode ≡ row.text_after_of → ⊥) → r ≡ broken_of s at (length events) → ended r events ≡ finish_of s at events
unfolding finish_of
cut_off s at events other q = rw (ne_eqb s.mode row.text_after_of other, q) refl
