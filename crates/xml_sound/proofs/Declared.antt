-- The declaration. Assumes nothing.
use Prim.Native.Nat.{ℕ}
use mathlib.Core.Path.{◌≡◌, refl, sym, ap, ◌∙◌, subst}
use mathlib.Core.List.{List, [], ◌∷◌, ◌++◌, map, append_assoc}
use mathlib.Core.Bool.{true, and-eq-true_iff}
use lib.Dec.{ltb, eqb}
use borrow.Author.Tests.{eqb-true}
use Rattle.xml_grammar.specs.of_names.Bytes.{bytes}
use Rattle.xml_grammar.specs.of_xml_chars.Chars.{is_space, is_digit, lower, Quote, mark}
use Rattle.xml_grammar.proofs.of_xml_chars.CharLaws.{digit_low}
use Rattle.xml_grammar.specs.Grammar as grammar
use Rattle.xml_grammar.specs.Grammar.{Many, no_char, a-char, chars, Declares, declares, absent, present, Version, Encoding, yes-alone, no-alone, Miscs, Prolog, declared, declaration}
use Rattle.xml_machine.specs.State.{Stay, decl, Item, version, encoding, standalone, InDecl, opening, equals, quoting, point, digit, letters, choice, chosen, valued, between}
use Rattle.xml_machine.specs.Machine.{only, decl_end, item_after, value_of, in_decl}
use Rattle.xml_sound.proofs.Then.{Then, take-byte, take-mark, each}
use Rattle.xml_sound.proofs.Parts.{ascii, closed, Blank, blank, Spaced, quoting-of, equals-of, Quoted, quoted-of, word, ValueOf, behind-of, LastEnd, SecondEnd, FirstEnd, ItemEnd, ItemRest, DeclRest}
use Rattle.xml_sound.proofs.Rests.{AtProlog, AtDecl, Rest}
use Rattle.xml_sound.proofs.Classes.{mark-low, letter-low}
use Rattle.xml_sound.proofs.Spelling.{spelt-then, spelt-more}
use Rattle.xml_sound.proofs.Quoting.{equals-back, quoting-back}
use Rattle.xml_sound.proofs.Leading.{Leads, good, bad, when, weaker, byte, space}

-- white space more at the front
last-space : {c : ℕ} {s : List ℕ} → is_space c ≡ true → LastEnd s → LastEnd (c ∷ s)
last-space e (closed h) = closed (a-char e h)

declares-space : {x : List ℕ} {Is : List ℕ → Type 0} {c : ℕ} {s : List ℕ} → is_space c ≡ true → Declares x Is s → Declares x Is (c ∷ s)
declares-space e (declares (chars f w) x y q v) = declares (chars e (a-char f w)) x y q v

second-space : {c : ℕ} {s : List ℕ} → is_space c ≡ true → SecondEnd s → SecondEnd (c ∷ s)
second-space e (behind-of absent r) = behind-of absent (last-space e r)
second-space e (behind-of (present d) r) = behind-of (present (declares-space e d)) r

first-space : {c : ℕ} {s : List ℕ} → is_space c ≡ true → FirstEnd s → FirstEnd (c ∷ s)
first-space e (behind-of absent r) = behind-of absent (second-space e r)
first-space e (behind-of (present d) r) = behind-of (present (declares-space e d)) r

end-space : (i : Item) (c : ℕ) (s : List ℕ) → is_space c ≡ true → ItemEnd i s → ItemEnd i (c ∷ s)
end-space version c s e r = first-space e r
end-space encoding c s e r = second-space e r
end-space standalone c s e r = last-space e r

item_space : {c : ℕ} {s : List ℕ} → is_space c ≡ true → ItemRest version s → ItemRest version (c ∷ s)
item_space e (behind-of d r) = behind-of (declares-space e d) r

end_mark : (i : Item) → ItemEnd i (0x3F ∷ 0x3E ∷ [])
end_mark version = behind-of absent (behind-of absent (closed no_char))
end_mark encoding = behind-of absent (closed no_char)
end_mark standalone = closed no_char

-- an item from white space and its word
spell-item : (c m : ℕ) (a x y v s : List ℕ) → (c ∷ (a ++ (x ++ (0x3D ∷ (y ++ (m ∷ (v ++ (m ∷ [])))))))) ++ s ≡ c ∷ (a ++ (x ++ (0x3D ∷ (y ++ (m ∷ (v ++ (m ∷ s)))))))
spell-item c m a x y v s = simp (append_assoc)

item_of : (i : Item) {s : List ℕ} → DeclRest (equals i) s → Spaced (ItemRest i) (word i ++ s)
item_of i (equals-of {x = x} h (quoting-of {y = y} k q (quoted-of {v = v} {s = s} p r))) c e =
    subst (ItemRest i) (spell-item c (mark q) (word i) x y v s) (behind-of (declares {w = c ∷ []} (chars e no_char) h k q p) r)

second-item : {s : List ℕ} → ItemRest encoding s → FirstEnd s
second-item (behind-of d r) = behind-of (present d) r

third-item : {s : List ℕ} → ItemRest standalone s → SecondEnd s
third-item (behind-of d r) = behind-of (present d) r

-- ---- values
value-ends : {P Q : List ℕ → Type 0} (q : Quote) {s : List ℕ} → P [] → Q s → Quoted P Q q (mark q ∷ s)
value-ends q p r = quoted-of p r

point-value : (q : Quote) {s : List ℕ} → DeclRest (point q) s → Quoted Version FirstEnd q (0x31 ∷ 0x2E ∷ s)
point-value q (quoted-of p r) = quoted-of p r

letters-value : (q : Quote) {s : List ℕ} → DeclRest (letters q (bytes "utf-8")) s → Quoted Encoding SecondEnd q s
letters-value q (quoted-of {v = v} p r) = quoted-of {v = v} (grammar.encoding p) r

first-digit : (q : Quote) {c : ℕ} {s : List ℕ} → is_digit c ≡ true → DeclRest (digit q) s → DeclRest (point q) (c ∷ s)
first-digit q e (quoted-of p r) = quoted-of (grammar.version (chars e p)) r

digit-more : (q : Quote) {c : ℕ} {s : List ℕ} → is_digit c ≡ true → DeclRest (digit q) s → DeclRest (digit q) (c ∷ s)
digit-more q e (quoted-of p r) = quoted-of (a-char e p) r

letter-more : (q : Quote) (b c : ℕ) (cs : List ℕ) {s : List ℕ} → eqb (lower b) c ≡ true → DeclRest (letters q cs) s → DeclRest (letters q (c ∷ cs)) (b ∷ s)
letter-more q b c cs e (quoted-of {v = v} p r) = quoted-of {v = b ∷ v} (ap (λ z. z ∷ map lower v) (eqb-true (lower b) c e) ∙ ap (λ z. c ∷ z) p) r

yes-chosen : (q : Quote) {s : List ℕ} → DeclRest (chosen q) s → DeclRest (choice q) (bytes "yes" ++ s)
yes-chosen q (quoted-of blank r) = quoted-of yes-alone r

no-chosen : (q : Quote) {s : List ℕ} → DeclRest (chosen q) s → DeclRest (choice q) (bytes "no" ++ s)
no-chosen q (quoted-of blank r) = quoted-of no-alone r

-- ---- the states
ends-back : (P : List ℕ → Type 0) (b : ℕ) → P (0x3F ∷ 0x3E ∷ []) → Leads (Then P AtProlog) b (decl_end b)
ends-back P b p = byte b 0x3F (good (λ t r. take-mark 0x3F refl (each (λ s e. subst (λ z. P (0x3F ∷ z)) (sym e) p) r))) (λ j. bad)

mark-back : (P : List ℕ → Type 0) (i : Item) (q : Quote) (b : ℕ) → P [] → Leads (Then (Quoted P (ItemEnd i) q) AtProlog) b (only (mark q) b Stay (decl (valued i)))
mark-back P i q b p = byte b (mark q) (good (λ t r. take-byte (mark q) (mark-low q) (each (λ s. value-ends q p) r))) (λ j. bad)

value_in : (i : Item) (q : Quote) (t : List ℕ) → Rest (value_of i q) t → Then (Quoted (ValueOf i) (ItemEnd i) q) AtProlog t
value_in version q t r = spelt-then (bytes "1.") refl (λ s. point-value q) r
value_in encoding q t r = each (λ s. letters-value q) (r refl)
value_in standalone q t r = r

after-back : (i : Item) (b : ℕ) → Leads (Then (Spaced (ItemEnd i)) AtProlog) b (item_after i b)
after-back version b =
    byte b 0x65 (good (λ t r. spelt-then (bytes "encoding") refl (λ s h c e. second-item (item_of encoding h c e)) (spelt-more 0x65 r)))
    (λ i. byte b 0x73 (good (λ t r. spelt-then (bytes "standalone") refl (λ s h c e. behind-of absent (third-item (item_of standalone h c e))) (spelt-more 0x73 r)))
    (λ j. ends-back (Spaced FirstEnd) b (λ c e. first-space e (end_mark version))))
after-back encoding b =
    byte b 0x73 (good (λ t r. spelt-then (bytes "standalone") refl (λ s h c e. third-item (item_of standalone h c e)) (spelt-more 0x73 r)))
    (λ j. ends-back (Spaced SecondEnd) b (λ c e. second-space e (end_mark encoding)))
after-back standalone b = ends-back (Spaced LastEnd) b (λ c e. last-space e (end_mark standalone))

pub decl-back : (d : InDecl) (b : ℕ) → Leads (AtDecl d) b (in_decl d b)
unfolding in_decl
decl-back opening b =
    space b (λ e i. good (λ t r. take-byte b i (each (λ s f c h. item_space h (f b e)) r)))
    (byte b 0x76 (good (λ t r. spelt-then (bytes "version") refl (λ s. item_of version) (spelt-more 0x76 r))) (λ j. bad))
decl-back (equals i) b = equals-back (Quoted (ValueOf i) (ItemEnd i)) AtProlog b Stay (decl (equals i)) (decl (quoting i)) (λ t r. r) (λ t r. r)
decl-back (quoting i) b = quoting-back (Quoted (ValueOf i) (ItemEnd i)) AtProlog b Stay Stay (decl (quoting i)) (value_of i) (λ t r. r) (value_in i)
decl-back (point q) b = when (is_digit b) (λ e. good (λ t r. take-byte b (digit_low b e) (each (λ s. first-digit q e) r))) (λ e. bad)
decl-back (digit q) b =
    when (is_digit b) (λ e. good (λ t r. take-byte b (digit_low b e) (each (λ s. digit-more q e) r))) (λ e. mark-back (Many is_digit) version q b no_char)
decl-back (letters q []) b = weaker (λ t r h. r) (mark-back (λ v. map lower v ≡ []) encoding q b refl)
decl-back (letters q (c ∷ cs)) b =
    when (eqb (lower b) c)
    (λ e. good (λ t r h.
    let p = (and-eq-true_iff (ltb c 0x80) (ascii cs)).0 h in
    take-byte b (letter-low b c p.0 e) (each (λ s. letter-more q b c cs e) (r p.1))))
    (λ e. bad)
decl-back (choice q) b =
    byte b 0x79 (good (λ t r. spelt-then (bytes "yes") refl (λ s. yes-chosen q) (spelt-more 0x79 r)))
    (λ i. byte b 0x6E (good (λ t r. spelt-then (bytes "no") refl (λ s. no-chosen q) (spelt-more 0x6E r))) (λ j. bad))
decl-back (chosen q) b = mark-back Blank standalone q b blank
decl-back (valued i) b = space b (λ e h. good (λ t r. take-byte b h (each (λ s f. f b e) r))) (ends-back (ItemEnd i) b (end_mark i))
decl-back (between i) b = space b (λ e h. good (λ t r. take-byte b h (each (λ s f c k. end-space i c (b ∷ s) k (f b e)) r))) (after-back i b)

-- ---- the whole of it
spell-declared : (v e s w m : List ℕ) → (v ++ (e ++ (s ++ w))) ++ (0x3F ∷ 0x3E ∷ m) ≡ (v ++ (e ++ (s ++ (w ++ (0x3F ∷ 0x3E ∷ []))))) ++ m
spell-declared v e s w m = simp (append_assoc)

pub declared-prolog : {s m : List ℕ} → ItemRest version s → Miscs m → Prolog (0x3C ∷ 0x3F ∷ 0x78 ∷ 0x6D ∷ 0x6C ∷ (s ++ m))
declared-prolog {m = m} (behind-of {a = v} d (behind-of {a = e} f (behind-of {a = s} g (closed {s = w} h)))) i =
    subst (λ z. Prolog (0x3C ∷ 0x3F ∷ 0x78 ∷ 0x6D ∷ 0x6C ∷ z)) (spell-declared v e s w m) (declared (declaration d f g h) i)
