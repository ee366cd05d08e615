-- Characters at which nothing ends or begins, and characters with what they tell. Assumes nothing.
use Prim.Native.Nat.{ℕ, ◌<◌}
use mathlib.Core.Path.{◌≡◌, refl, sym, ap, ◌∙◌, subst}
use mathlib.Core.List.{List, [], ◌∷◌, ◌++◌, append_assoc, append-nil}
use mathlib.Core.Bool.{Bool, true}
use Rattle.xml_grammar.specs.of_utf8.Characters.{encode}
use Rattle.xml_grammar.specs.of_table.Event.{Event}
use Rattle.xml_grammar.specs.of_xml_chars.Bytes.{utf8}
use Rattle.xml_grammar.proofs.of_xml_chars.Encoding.{encode-1, utf8_append}
use Rattle.xml_grammar.specs.Grammar.{Many, no_char, a-char}
use Rattle.xml_machine.specs.State as state
use Rattle.xml_machine.specs.State.{State, Act, Stay, Here, Mark, EndText, TextMark}
use Rattle.xml_machine.specs.Machine.{step}
use Rattle.xml_machine.specs.inside.Saying.{Said, text_said, marks, saying, Telling, telling, tell}
use Rattle.xml_machine.proofs.Runs.{tell-step}
use Rattle.xml_machine.proofs.Stays.{Stays, there, stay, Takes, stays_then, tell-stays, tell-here}

-- these characters lead from one state to another, and nothing ends or begins at their bytes
pub record Reads (s : State) (cs : List ℕ) (u : State) : Type 0 where
  pub stays : Stays s (utf8 cs) u

pub reads_none : {s : State} → Reads s [] s
reads_none = record { stays = there }

pub reads_then : {s u w : State} {a b : List ℕ} → Reads s a u → Reads u b w → Reads s (a ++ b) w
reads_then {s = s} {w = w} {a = a} {b = b} h k = record { stays = subst (λ z. Stays s z w) (sym (utf8_append a b)) (stays_then h.stays k.stays) }

-- one character, then others
pub reads-char : {s u w : State} {c : ℕ} {r : List ℕ} → Stays s (encode c) u → Reads u r w → Reads s (c ∷ r) w
reads-char h k = record { stays = stays_then h k.stays }

pub ascii-stays : {s u : State} {c : ℕ} → c < 0x80 → step s c ≡ state.go Stay u → Stays s (encode c) u
ascii-stays {c = c} h e = rw (encode-1 c h) (stay e there)

pub reads_byte : {s u w : State} {c : ℕ} {r : List ℕ} → c < 0x80 → step s c ≡ state.go Stay u → Reads u r w → Reads s (c ∷ r) w
reads_byte h e k = reads-char (ascii-stays h e) k

-- characters of a kind that leave the state as it is
pub many-reads : {s : State} {is : ℕ → Bool} → ((c : ℕ) → is c ≡ true → Stays s (encode c) s) → {cs : List ℕ} → Many is cs → Reads s cs s
many-reads f no_char = reads_none
many-reads f (a-char {c = c} e h) = reads-char (f c e) (many-reads f h)

-- the run with bytes over these characters, whatever comes behind them
pub record Goes (c : Telling) (cs : List ℕ) (u : Telling) : Type 0 where
  pub goes : (t : List ℕ) → tell c (utf8 cs ++ t) ≡ tell u t

pub goes_none : {c : Telling} → Goes c [] c
goes_none = record { goes = λ t. refl }

pub goes_then : {c u w : Telling} {a b : List ℕ} → Goes c a u → Goes u b w → Goes c (a ++ b) w
goes_then {c = c} {a = a} {b = b} h k = record {
  goes = λ t.
      ap (λ z. tell c (z ++ t)) (utf8_append a b)
      ∙ ap (λ z. tell c z) (append_assoc (utf8 a) (utf8 b) t)
      ∙ h.goes (utf8 b ++ t)
      ∙ k.goes t;
}

pub goes-reads : {s u : State} {cs : List ℕ} → Reads s cs u → (d : Said) → Goes (telling s d) cs (telling u (marks (d.mark ++ utf8 cs) d))
goes-reads h d = record { goes = λ t. tell-stays h.stays d t }

pub goes-here : {s u : State} {cs : List ℕ} → Takes Here s (utf8 cs) u → (d : Said) → Goes (telling s d) cs (telling u (marks (utf8 cs) d))
goes-here h d = record { goes = λ t. tell-here h d t }

pub goes-byte : {s u : State} {act : Act} {c : ℕ} {r : List ℕ} {w : Telling} → c < 0x80 → step s c ≡ state.go act u → (d : Said) → Goes (telling u (saying act c d)) r w →
    Goes (telling s d) (c ∷ r) w
goes-byte {s = s} {u = u} {act = act} {c = c} {r = r} h e d k = record {
  goes = λ t. ap (λ z. tell (telling s d) ((z ++ utf8 r) ++ t)) (encode-1 c h) ∙ tell-step s u act c d (utf8 r ++ t) e ∙ k.goes t;
}

-- where only the mark and the events count: k is the mark behind the characters, es the events that they add
pub record Ahead (s : State) (d : Said) (cs : List ℕ) (u : State) (k : List ℕ) (es : List Event) : Type 0 where
  pub said : Said
  pub marked : said.mark ≡ k
  pub added : said.events ≡ d.events ++ es
  pub reached : Goes (telling s d) cs (telling u said)

pub record Tells (s : State) (m cs : List ℕ) (u : State) (k : List ℕ) (es : List Event) : Type 0 where
  pub ahead : (d : Said) → d.mark ≡ m → Ahead s d cs u k es

pub tells-then : {s u w : State} {m k l a b : List ℕ} {es fs : List Event} → Tells s m a u k es → Tells u k b w l fs → Tells s m (a ++ b) w l (es ++ fs)
tells-then {es = es} {fs = fs} h i = record {
  ahead = λ d e.
      let p = h.ahead d e in
      let q = i.ahead p.said p.marked in
      record {
        said = q.said;
        marked = q.marked;
        added = q.added ∙ ap (λ x. x ++ fs) p.added ∙ append_assoc d.events es fs;
        reached = goes_then p.reached q.reached;
      };
}

pub tells-reads : {s u : State} {m cs : List ℕ} → Reads s cs u → Tells s m cs u (m ++ utf8 cs) []
tells-reads {cs = cs} h = record {
  ahead = λ d e.
      record {
        said = marks (d.mark ++ utf8 cs) d;
        marked = ap (λ x. x ++ utf8 cs) e;
        added = sym (append-nil d.events);
        reached = goes-reads h d;
      };
}

-- what an act does to a mark and to the events
abbrev pub Does : Act → ℕ → List ℕ → List ℕ → List Event → Type 0
Does act c m k es = (d : Said) → d.mark ≡ m → ((saying act c d).mark ≡ k) × ((saying act c d).events ≡ d.events ++ es)

pub tells-byte : {s u : State} {act : Act} {c : ℕ} {m k : List ℕ} {es : List Event} → c < 0x80 → step s c ≡ state.go act u → Does act c m k es → Tells s m (c ∷ []) u k es
tells-byte {act = act} {c = c} h e f = record {
  ahead = λ d i.
      record {
        said = saying act c d;
        marked = (f d i).0;
        added = (f d i).1;
        reached = goes-byte h e d goes_none;
      };
}

pub tells-mark : {s u : State} {c : ℕ} {m : List ℕ} → c < 0x80 → step s c ≡ state.go Mark u → Tells s m (c ∷ []) u [] []
tells-mark h e = tells-byte h e (λ d i. (refl, sym (append-nil d.events)))

pub tells-text : {s u : State} {c : ℕ} {m : List ℕ} → c < 0x80 → step s c ≡ state.go EndText u → Tells s m (c ∷ []) u [] (text_said m)
tells-text h e = tells-byte h e (λ d i. (refl, ap (λ x. d.events ++ text_said x) i))

pub tells-text-mark : {s u : State} {c : ℕ} {m : List ℕ} → c < 0x80 → step s c ≡ state.go TextMark u → Tells s m (c ∷ []) u [] (text_said m)
tells-text-mark h e = tells-byte h e (λ d i. (refl, ap (λ x. d.events ++ text_said x) i))
