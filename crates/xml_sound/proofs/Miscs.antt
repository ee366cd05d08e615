-- Comments and instructions, wherever they stand. Assumes nothing.
use Prim.Native.Nat.{ℕ}
use mathlib.Core.Path.{◌≡◌, refl, sym, subst}
use mathlib.Core.List.{List, [], ◌∷◌, ◌++◌, append_assoc}
use mathlib.Core.Bool.{true, false}
use lib.Dec.{eqb}
use Rattle.xml_grammar.specs.of_names.Bytes.{bytes}
use Rattle.xml_grammar.specs.of_xml_chars.Chars.{crosses, is_in, any_char, name_start, name_char, is_space, lower}
use Rattle.xml_grammar.proofs.of_xml_chars.CharLaws.{in-scalar, start-scalar, name-scalar, start-name}
use Rattle.xml_grammar.specs.Grammar as grammar
use Rattle.xml_grammar.specs.Grammar.{Many, no_char, a-char, chars, name_of, in_remark_of, Remark, no-remark, plain, dashed, is_xml, Target, target-of, Misc, comment, instruction, aside}
use Rattle.xml_machine.specs.State.{Stay, Place, before, after, inside, misc, InMisc, bang, dash, remark0, remark1, remark2, target, named, pi_data, pi_query, pi_close, Letters, x0, x1, x2, x3}
use Rattle.xml_machine.specs.Machine.{resume, section_at, target_end, in_target, in_misc}
use Rattle.xml_sound.proofs.Then.{Then, take-byte, take-mark, last-mark, each}
use Rattle.xml_sound.proofs.Parts.{Closed, closed, Datum, datum, Asked, ask-ends, ask_goes, Named, bare-end, data-end, TargetRest, Markup, MiscRest}
use Rattle.xml_sound.proofs.Rests.{Follow, Rest}
use Rattle.xml_sound.proofs.Lacking.{lacks-other, lacks-query}
use Rattle.xml_sound.proofs.Classes.{in_remark, letter-low, apart-letter, letter-start}
use Rattle.xml_sound.proofs.Spelling.{spelt-then, spelt-more}
use Rattle.xml_sound.proofs.Sections.{section-beside}
use Rattle.xml_sound.proofs.Leading.{Leads, good, bad, when, byte, space, char-then, apart}

-- ---- comments
remark-more : {c : ℕ} {x s : List ℕ} → in_remark_of c ≡ true → Closed Remark x s → Closed Remark x (c ∷ s)
remark-more m (closed h) = closed (plain m h)

dash-more : {c : ℕ} {x s : List ℕ} → in_remark_of c ≡ true → Closed Remark x s → Closed Remark x (0x2D ∷ c ∷ s)
dash-more m (closed h) = closed (dashed m h)

remark-misc : {s : List ℕ} → Closed Remark (0x2D ∷ 0x2D ∷ 0x3E ∷ []) s → Misc (0x3C ∷ 0x21 ∷ 0x2D ∷ 0x2D ∷ s)
remark-misc (closed h) = comment h

-- ---- the data of an instruction
data-more : {c : ℕ} {s : List ℕ} → is_in any_char c ≡ true → ¬ (c ≡ 0x3F) → Closed Datum (0x3F ∷ 0x3E ∷ []) s → Closed Datum (0x3F ∷ 0x3E ∷ []) (c ∷ s)
data-more {c} m i (closed (datum {s = s} h l)) = closed (datum (a-char m h) (lacks-other 0x3F (0x3E ∷ []) c s i l))

data_ask : {s : List ℕ} → Asked s → Closed Datum (0x3F ∷ 0x3E ∷ []) (0x3F ∷ s)
unfolding crosses
data_ask ask-ends = closed (datum no_char refl)
data_ask (ask_goes h l) = closed (datum (a-char refl h) l)

ask_ask : {s : List ℕ} → Asked s → Asked (0x3F ∷ s)
unfolding crosses
ask_ask ask-ends = ask_goes no_char refl
ask_ask (ask_goes h l) = ask_goes (a-char refl h) l

ask-more : {c : ℕ} {s : List ℕ} → is_in any_char c ≡ true → ¬ (c ≡ 0x3F) → ¬ (c ≡ 0x3E) → Closed Datum (0x3F ∷ 0x3E ∷ []) s → Asked (c ∷ s)
ask-more {c} m i j (closed (datum {s = s} h l)) = ask_goes (a-char m h) (lacks-query c s i j l)

-- ---- targets
named_more : {c : ℕ} {s : List ℕ} → is_in name_char c ≡ true → Named s → Named (c ∷ s)
named_more m (bare-end h) = bare-end (a-char m h)
named_more m (data-end c h e k l) = data-end c (a-char m h) e k l

-- behind a whole target
bare-misc : {n : List ℕ} → Target n → Misc (0x3C ∷ 0x3F ∷ (n ++ (0x3F ∷ 0x3E ∷ [])))
bare-misc i = instruction (grammar.bare i)

data-misc : {n s : List ℕ} (c : ℕ) → Target n → is_space c ≡ true → Closed Datum (0x3F ∷ 0x3E ∷ []) s → Misc (0x3C ∷ 0x3F ∷ (n ++ (c ∷ s)))
data-misc {n} c i e (closed (datum {s = s} h l)) =
    subst (λ z. Misc (0x3C ∷ 0x3F ∷ z)) (append_assoc n (c ∷ s) (0x3F ∷ 0x3E ∷ [])) (instruction (grammar.with-data {w = c ∷ []} i (chars e no_char) h l))

-- behind the front of one that isn't `xml` however it goes on
named-misc : (n : List ℕ) {s : List ℕ} → ((m : List ℕ) → Many (is_in name_char) m → Target (n ++ m)) → Named s → Misc (0x3C ∷ 0x3F ∷ (n ++ s))
named-misc n f (bare-end {n = m} h) = subst (λ z. Misc (0x3C ∷ 0x3F ∷ z)) (append_assoc n m (0x3F ∷ 0x3E ∷ [])) (bare-misc (f m h))
named-misc n f (data-end {n = m} {s = s} c h e k l) =
    subst (λ z. Misc (0x3C ∷ 0x3F ∷ z)) (append_assoc n m (c ∷ (s ++ (0x3F ∷ 0x3E ∷ [])))) (data-misc c (f m h) e (closed (datum k l)))

not-xml_1 : (c : ℕ) (n : List ℕ) → eqb (lower c) 0x78 ≡ false → is_xml (c ∷ n) ≡ false
not-xml_1 c [] e = refl
not-xml_1 c (a ∷ []) e = refl
not-xml_1 c (a ∷ b ∷ []) e = rw e refl
not-xml_1 c (a ∷ b ∷ d ∷ n) e = refl

not-xml_2 : (a c : ℕ) (n : List ℕ) → eqb (lower a) 0x78 ≡ true → eqb (lower c) 0x6D ≡ false → is_xml (a ∷ c ∷ n) ≡ false
not-xml_2 a c [] i e = refl
not-xml_2 a c (b ∷ []) i e = rw (i, e) refl
not-xml_2 a c (b ∷ d ∷ n) i e = refl

not-xml_3 : (a b c : ℕ) (n : List ℕ) → eqb (lower a) 0x78 ≡ true → eqb (lower b) 0x6D ≡ true → eqb (lower c) 0x6C ≡ false → is_xml (a ∷ b ∷ c ∷ n) ≡ false
not-xml_3 a b c [] i j e = rw (i, j, e) refl
not-xml_3 a b c (d ∷ n) i j e = refl

-- the letters of `xml` may stand in names
first-letter : (a : ℕ) → eqb (lower a) 0x78 ≡ true → is_in name_start a ≡ true
unfolding crosses
first-letter a e = letter-start a 0x78 refl refl e

second-letter : (a : ℕ) → eqb (lower a) 0x6D ≡ true → is_in name_char a ≡ true
unfolding crosses
second-letter a e = start-name a (letter-start a 0x6D refl refl e)

third-letter : (a : ℕ) → eqb (lower a) 0x6C ≡ true → is_in name_char a ≡ true
unfolding crosses
third-letter a e = start-name a (letter-start a 0x6C refl refl e)

target-1 : (a : ℕ) → eqb (lower a) 0x78 ≡ true → Target (a ∷ [])
target-1 a i = target-of (name_of (first-letter a i) no_char) refl

target-2 : (a b : ℕ) → eqb (lower a) 0x78 ≡ true → eqb (lower b) 0x6D ≡ true → Target (a ∷ b ∷ [])
target-2 a b i j = target-of (name_of (first-letter a i) (a-char (second-letter b j) no_char)) refl

start-0 : {c : ℕ} {s : List ℕ} → is_in name_start c ≡ true → eqb (lower c) 0x78 ≡ false → Named s → TargetRest x0 (c ∷ s)
start-0 {c} m e r = named-misc (c ∷ []) (λ n h. target-of (name_of m h) (not-xml_1 c n e)) r

more-1 : {c : ℕ} {s : List ℕ} → is_in name_char c ≡ true → eqb (lower c) 0x6D ≡ false → Named s → TargetRest x1 (c ∷ s)
more-1 {c} m e r a i = named-misc (a ∷ c ∷ []) (λ n h. target-of (name_of (first-letter a i) (a-char m h)) (not-xml_2 a c n i e)) r

more-2 : {c : ℕ} {s : List ℕ} → is_in name_char c ≡ true → eqb (lower c) 0x6C ≡ false → Named s → TargetRest x2 (c ∷ s)
more-2 {c} m e r a b i j =
    named-misc (a ∷ b ∷ c ∷ []) (λ n h. target-of (name_of (first-letter a i) (a-char (second-letter b j) (a-char m h))) (not-xml_3 a b c n i j e)) r

more-3 : {c : ℕ} {s : List ℕ} → is_in name_char c ≡ true → Named s → TargetRest x3 (c ∷ s)
more-3 {c} m r a b d i j k =
    named-misc (a ∷ b ∷ d ∷ c ∷ []) (λ n h. target-of (name_of (first-letter a i) (a-char (second-letter b j) (a-char (third-letter d k) (a-char m h)))) refl) r

-- ---- the states
target-ends : (P : List ℕ → Type 0) (pl : Place) (b : ℕ) → ((c : ℕ) → is_space c ≡ true → (s : List ℕ) → Closed Datum (0x3F ∷ 0x3E ∷ []) s → P (c ∷ s)) → P (0x3F ∷ 0x3E ∷ []) →
    Leads (Then P (Follow pl)) b (target_end pl b)
target-ends P pl b f p =
    space b (λ e i. good (λ t r. take-byte b i (each (f b e) r)))
    (byte b 0x3F (good (λ t r. take-mark 0x3F refl (each (λ s e. subst (λ z. P (0x3F ∷ z)) (sym e) p) r))) (λ j. bad))

pub target-back : (x : Letters) (pl : Place) (b : ℕ) → Leads (Then (TargetRest x) (Follow pl)) b (in_target x pl b)
unfolding in_target
target-back x0 pl b =
    when (eqb (lower b) 0x78) (λ e. good (λ t r. take-byte b (letter-low b 0x78 refl e) (each (λ s f. f b e) r)))
    (λ e. char-then (TargetRest x0) Named (Follow pl) name_start start-scalar b Stay (λ p. misc named p pl) (λ p t r. r)
    (λ c i m s r. start-0 m (apart-letter 0x78 refl i e) r) _ (λ i. bad))
target-back x1 pl b =
    when (eqb (lower b) 0x6D) (λ e. good (λ t r. take-byte b (letter-low b 0x6D refl e) (each (λ s f a i. f a b i e) r)))
    (λ e. char-then (TargetRest x1) Named (Follow pl) name_char name-scalar b Stay (λ p. misc named p pl) (λ p t r. r)
    (λ c i m s r. more-1 m (apart-letter 0x6D refl i e) r) _
    (λ i. target-ends (TargetRest x1) pl b (λ c f s r a j. data-misc c (target-1 a j) f r) (λ a j. bare-misc (target-1 a j))))
target-back x2 pl b =
    when (eqb (lower b) 0x6C) (λ e. good (λ t r. take-byte b (letter-low b 0x6C refl e) (each (λ s f a c i j. f a c b i j e) r)))
    (λ e. char-then (TargetRest x2) Named (Follow pl) name_char name-scalar b Stay (λ p. misc named p pl) (λ p t r. r)
    (λ c i m s r. more-2 m (apart-letter 0x6C refl i e) r) _
    (λ i. target-ends (TargetRest x2) pl b (λ c f s r a d j k. data-misc c (target-2 a d j k) f r) (λ a d j k. bare-misc (target-2 a d j k))))
target-back x3 pl b =
    char-then (TargetRest x3) Named (Follow pl) name_char name-scalar b Stay (λ p. misc named p pl) (λ p t r. r) (λ c i m s r. more-3 m r) _ (λ i. bad)

pub rest-resume : (pl : Place) (t : List ℕ) → Rest (resume pl) t → Follow pl t
rest-resume before t r = r
rest-resume after t r = r
rest-resume (inside n ns) t r = r

pub markup : (pl : Place) {s : List ℕ} → Misc s → Markup pl s
markup before m = m
markup after m = m
markup (inside n ns) m = aside m

section-opens : (pl : Place) (b : ℕ) → Leads (Then (MiscRest bang pl) (Follow pl)) b (section_at pl b)
section-opens before b = bad
section-opens after b = bad
section-opens (inside n ns) b = byte b 0x5B (good (λ t r. spelt-then (bytes "[CDATA[") refl (λ s. section-beside) (spelt-more 0x5B r))) (λ i. bad)

pub misc-back : (m : InMisc) (pl : Place) (b : ℕ) → Leads (Then (MiscRest m pl) (Follow pl)) b (in_misc m pl b)
unfolding in_misc
misc-back bang pl b = byte b 0x2D (good (λ t r. take-mark 0x2D refl (each (λ s. markup pl) r))) (λ i. section-opens pl b)
misc-back dash pl b = byte b 0x2D (good (λ t r. take-mark 0x2D refl (each (λ s. remark-misc) r))) (λ i. bad)
misc-back remark0 pl b =
    byte b 0x2D (good (λ t r. take-mark 0x2D refl r))
    (λ i. char-then (MiscRest remark0 pl) (MiscRest remark0 pl) (Follow pl) any_char in-scalar b Stay (λ p. misc remark0 p pl) (λ p t r. r)
    (λ c h m s r. remark-more (in_remark m (apart 0x2D refl h i)) r) _ (λ h. bad))
misc-back remark1 pl b =
    byte b 0x2D (good (λ t r. take-mark 0x2D refl r))
    (λ i. char-then (MiscRest remark1 pl) (MiscRest remark0 pl) (Follow pl) any_char in-scalar b Stay (λ p. misc remark0 p pl) (λ p t r. r)
    (λ c h m s r. dash-more (in_remark m (apart 0x2D refl h i)) r) _ (λ h. bad))
misc-back remark2 pl b = byte b 0x3E (good (λ t r. last-mark 0x3E refl (closed no-remark) (rest-resume pl t r))) (λ i. bad)
misc-back (target x) pl b = target-back x pl b
misc-back named pl b =
    char-then Named Named (Follow pl) name_char name-scalar b Stay (λ p. misc named p pl) (λ p t r. r) (λ c h m s r. named_more m r) _
    (λ h. target-ends Named pl b named-data (bare-end no_char))
  where
    named-data : (c : ℕ) → is_space c ≡ true → (s : List ℕ) → Closed Datum (0x3F ∷ 0x3E ∷ []) s → Named (c ∷ s)
    named-data c e s (closed (datum h l)) = data-end c no_char e h l
misc-back pi_data pl b =
    byte b 0x3F (good (λ t r. take-mark 0x3F refl (each (λ s. data_ask) r)))
    (λ i. char-then (MiscRest pi_data pl) (MiscRest pi_data pl) (Follow pl) any_char in-scalar b Stay (λ p. misc pi_data p pl) (λ p t r. r)
    (λ c h m s r. data-more m (apart 0x3F refl h i) r) _ (λ h. bad))
misc-back pi_query pl b =
    byte b 0x3F (good (λ t r. take-mark 0x3F refl (each (λ s. ask_ask) r)))
    (λ i. byte b 0x3E (good (λ t r. last-mark 0x3E refl ask-ends (rest-resume pl t r)))
    (λ j. char-then (MiscRest pi_query pl) (MiscRest pi_data pl) (Follow pl) any_char in-scalar b Stay (λ p. misc pi_data p pl) (λ p t r. r)
    (λ c h m s r. ask-more m (apart 0x3F refl h i) (apart 0x3E refl h j) r) _ (λ h. bad)))
misc-back pi_close pl b = byte b 0x3E (good (λ t r. last-mark 0x3E refl refl (rest-resume pl t r))) (λ i. bad)
