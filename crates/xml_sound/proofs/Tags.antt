-- Start tags behind the first character of their names. Assumes nothing.
use Prim.Native.Nat.{ℕ, ◌<◌}
use mathlib.Core.Path.{◌≡◌, refl, sym, ap, ◌∙◌, subst}
use mathlib.Core.List.{List, [], ◌∷◌, ◌++◌, append_assoc, append-nil}
use mathlib.Core.Bool.{true}
use Rattle.xml_grammar.specs.of_utf8.Characters.{encode}
use Rattle.xml_grammar.specs.of_xml_chars.Chars.{Range, is_in, any_char, name_start, name_char, is_space, Quote, single, double, mark}
use Rattle.xml_grammar.specs.of_xml_chars.Bytes.{utf8, Left, Part, whole, part}
use Rattle.xml_grammar.proofs.of_xml_chars.CharLaws.{in-scalar, start-scalar, name-scalar}
use Rattle.xml_grammar.proofs.of_xml_chars.Encoding.{tail}
use Rattle.xml_grammar.specs.Grammar.{no_char, a-char, chars, name_of, Referred, in_value, no_value, value-char, value-ref, Attributes, no-attribute, attribute}
use Rattle.xml_machine.specs.State.{Act, Stay, Mark, Here, Name, NameStart, Start, Key, no, tag, InTag, name, gap, slash, key, key_eq, quote, value, value_end}
use Rattle.xml_machine.specs.Machine.{shut, only, spaced, behind, in_tag, grown, follow}
use Rattle.xml_sound.proofs.Then.{Then, take-byte, take-mark, none_yet, each, both}
use Rattle.xml_sound.proofs.Parts.{Closed, closed, Spaced, quoting-of, Equals, equals-of, quoted-of, ValueRest, KeyRest, key-of}
use Rattle.xml_sound.proofs.Rests.{spelt, Shut, Body, alone, open-tag, InName, in-name, TagRest, Rem, Held, Rest}
use Rattle.xml_sound.proofs.Classes.{in-value, mark-low}
use Rattle.xml_sound.proofs.Spelling.{spelt-more}
use Rattle.xml_sound.proofs.Quoting.{equals-back, quoting-back}
use Rattle.xml_sound.proofs.Leading.{Leads, good, bad, weaker, byte, space, char-back, char-then, follow-back, apart}

pub rest-shut : (ns : List (List ℕ)) (t : List ℕ) → Rest (shut ns) t → Shut ns t
rest-shut [] t r = r
rest-shut (n ∷ ns) t r = r

-- behind a name or a value
behind-back : (P : List ℕ → Type 0) (act start : Act) (n : List ℕ) (ns : List (List ℕ)) (b : ℕ) → ((t : List ℕ) → Then Attributes (Body n (Shut ns)) t → P t) →
    Leads P b (behind act start n ns b)
unfolding behind
behind-back P act start n ns b f =
    space b (λ e i. good (λ t r. f (b ∷ t) (take-byte b i (each (λ s g. g b e) r))))
    (byte b 0x2F (good (λ t r. f (0x2F ∷ t) (none_yet (no-attribute no_char) (alone (spelt-more 0x2F r)))))
    (λ i. byte b 0x3E (good (λ t r. f (0x3E ∷ t) (none_yet (no-attribute no_char) (open-tag (spelt t refl r))))) (λ j. bad)))

attributes-space : {c : ℕ} {s : List ℕ} → is_space c ≡ true → Attributes s → Attributes (c ∷ s)
attributes-space e (no-attribute h) = no-attribute (a-char e h)
attributes-space e (attribute (chars f w) k x y q v a) = attribute (chars e (a-char f w)) k x y q v a

-- ---- the name
name-more : (n : List ℕ) (R : List ℕ → Type 0) (c : ℕ) (v : List ℕ) → is_in name_char c ≡ true → InName (n ++ encode c) R v → InName n R (encode c ++ v)
name-more n R c v m (in-name s u h e r) =
    in-name (c ∷ s) u (a-char m h) (ap (λ z. encode c ++ z) e ∙ sym (append_assoc (encode c) (utf8 s) u))
    (subst (λ z. Then Attributes (Body z R) u) (append_assoc n (encode c) (utf8 s)) r)

name-over : (n : List ℕ) (R : List ℕ → Type 0) (t : List ℕ) → Then Attributes (Body n R) t → InName n R t
name-over n R t r = in-name [] t no_char refl (subst (λ z. Then Attributes (Body z R) t) (sym (append-nil n)) r)

name_back : (n : List ℕ) (ns : List (List ℕ)) (b : ℕ) → Leads (InName n (Shut ns)) b (in_tag name n ns b)
unfolding in_tag
name_back n ns b =
    char-back (InName n (Shut ns)) name_char name-scalar b Stay (λ p. tag name p (n ++ (b ∷ [])) ns) (λ bs v. InName (n ++ bs) (Shut ns) v) (λ v r. r)
    (λ low l least t r. (r.0, r.1, r.2, r.3, subst (λ z. InName z (Shut ns) r.1) (append_assoc n (b ∷ []) (tail l r.0)) r.4))
    (λ c v i m r. name-more n (Shut ns) c v m r) (behind Name NameStart n ns b)
    (λ i. behind-back (InName n (Shut ns)) Name NameStart n ns b (name-over n (Shut ns)))

-- ---- attributes
gap-key : {c : ℕ} {s : List ℕ} → is_in name_start c ≡ true → KeyRest s → Spaced Attributes (c ∷ s)
gap-key m (key-of k (equals-of x (quoting-of y q (quoted-of v a)))) w e = attribute {w = w ∷ []} (chars e no_char) (name_of m k) x y q v a

key_more : {c : ℕ} {s : List ℕ} → is_in name_char c ≡ true → KeyRest s → KeyRest (c ∷ s)
key_more m (key-of k e) = key-of (a-char m k) e

key-over : {s : List ℕ} → Equals ValueRest s → KeyRest s
key-over e = key-of no_char e

value-more : {q : Quote} {c : ℕ} {s : List ℕ} → in_value q c ≡ true → ValueRest q s → ValueRest q (c ∷ s)
value-more m (quoted-of v a) = quoted-of (value-char m v) a

value-over : {q : Quote} {s : List ℕ} → Attributes s → ValueRest q (mark q ∷ s)
value-over a = quoted-of no_value a

value-refers : {q : Quote} {x s : List ℕ} → Closed Referred (0x3B ∷ []) x → ValueRest q s → ValueRest q (0x26 ∷ (x ++ s))
value-refers {q} (closed {s = n} h) (quoted-of {v = v} {s = s} i a) =
    subst (λ z. ValueRest q (0x26 ∷ z))
    (append_assoc n (0x3B ∷ v) (mark q ∷ s) ∙ sym (append_assoc n (0x3B ∷ []) (v ++ (mark q ∷ s))))
    (quoted-of (value-ref h i) a)

held-key : (n : List ℕ) (ns : List (List ℕ)) (p : Part) (t : List ℕ) → Rest (tag key p n ns) t → Held p (Then KeyRest (Body n (Shut ns))) t
held-key n ns whole t r = r
held-key n ns (part cls low l least) t r = r

held-value : (q : Quote) (n : List ℕ) (ns : List (List ℕ)) (p : Part) (t : List ℕ) → Rest (tag (value q) p n ns) t → Held p (Then (ValueRest q) (Body n (Shut ns))) t
held-value q n ns whole t r = r
held-value q n ns (part cls low l least) t r = r

apart-mark : (q : Quote) {b c : ℕ} → (c < 0x80 → c ≡ b) → ¬ (b ≡ mark q) → ¬ (c ≡ mark q)
apart-mark single f h = apart 0x27 refl f h
apart-mark double f h = apart 0x22 refl f h

pub tag_back : (m : InTag) (n : List ℕ) (ns : List (List ℕ)) (b : ℕ) → Leads (TagRest m n (Shut ns)) b (in_tag m n ns b)
unfolding in_tag
tag_back name n ns b = name_back n ns b
tag_back gap n ns b =
    char-then (Spaced Attributes) KeyRest (Body n (Shut ns)) name_start start-scalar b Here (λ p. tag key p n ns) (held-key n ns) (λ c i m s r. gap-key m r)
    (behind Stay Start n ns b)
    (λ i. behind-back (Then (Spaced Attributes) (Body n (Shut ns))) Stay Start n ns b (λ t r. each (λ s a c e. attributes-space e a) r))
tag_back slash n ns b = byte b 0x3E (good (λ t r. spelt t refl (rest-shut ns t r))) (λ i. bad)
tag_back key n ns b =
    char-then KeyRest KeyRest (Body n (Shut ns)) name_char name-scalar b Stay (λ p. tag key p n ns) (held-key n ns) (λ c i m s r. key_more m r)
    (spaced b Key (tag key_eq whole n ns) (only 0x3D b Key (tag quote whole n ns)))
    (λ i. weaker (λ t r. each (λ s. key-over) r) (equals-back ValueRest (Body n (Shut ns)) b Key (tag key_eq whole n ns) (tag quote whole n ns) (λ t r. r) (λ t r. r)))
tag_back key_eq n ns b = equals-back ValueRest (Body n (Shut ns)) b Stay (tag key_eq whole n ns) (tag quote whole n ns) (λ t r. r) (λ t r. r)
tag_back quote n ns b =
    quoting-back ValueRest (Body n (Shut ns)) b Mark Stay (tag quote whole n ns) (λ q. tag (value q) whole n ns) (λ t r. r) (λ q t r. r)
tag_back (value q) n ns b =
    byte b (mark q) (good (λ t r. take-byte (mark q) (mark-low q) (each (λ s. value-over) r)))
    (λ h. byte b 0x26 (good (λ t r. take-mark 0x26 refl (both (λ x s. value-refers) r)))
    (λ i. byte b 0x3C bad
    (λ j. char-then (ValueRest q) (ValueRest q) (Body n (Shut ns)) any_char in-scalar b Stay (λ p. tag (value q) p n ns) (held-value q n ns)
    (λ c f m s r. value-more (in-value q m (apart-mark q f h) (apart 0x3C refl f j) (apart 0x26 refl f i)) r) no (λ f. bad))))
tag_back value_end n ns b = behind-back (Then Attributes (Body n (Shut ns))) Stay Start n ns b (λ t r. r)

-- a further byte of a character
named-one : (m : InTag) (n : List ℕ) (b : ℕ) (bs : List ℕ) → grown m (grown m n (b ∷ [])) bs ≡ grown m n (b ∷ bs)
named-one name n b bs = append_assoc n (b ∷ []) bs
named-one gap n b bs = refl
named-one slash n b bs = refl
named-one key n b bs = refl
named-one key_eq n b bs = refl
named-one quote n b bs = refl
named-one (value q) n b bs = refl
named-one value_end n b bs = refl

pub tag-follow : (m : InTag) (cls : List Range) (low : ℕ) (l : Left) (least : ℕ) (n : List ℕ) (ns : List (List ℕ)) (b : ℕ) →
    Leads (Rem cls low l least (λ bs v. TagRest m (grown m n bs) (Shut ns) v)) b (follow cls low l least b (λ p. tag m p (grown m n (b ∷ [])) ns))
tag-follow m cls low l least n ns b =
    follow-back cls low least b (λ p. tag m p (grown m n (b ∷ [])) ns) (λ bs v. TagRest m (grown m n bs) (Shut ns) v) (λ v r. r)
    (λ low l least t r. (r.0, r.1, r.2, r.3, subst (λ z. TagRest m z (Shut ns) r.1) (named-one m n b (tail l r.0)) r.4)) l
