-- White space: the states that it leaves as they are. Assumes nothing.
use Prim.Native.Nat.{ℕ, ◌<◌}
use mathlib.Core.Path.{◌≡◌, refl, sym, subst}
use mathlib.Core.List.{List}
use mathlib.Core.Bool.{true}
use native.Mathlib.Omega.{arith}
use borrow.Author.Tests.{eqb-true}
use lib.Dec.{eqb}
use Rattle.xml_grammar.specs.of_xml_chars.Chars.{is_space, crosses}
use Rattle.xml_grammar.specs.of_xml_chars.Bytes.{whole}
use Rattle.xml_grammar.proofs.of_xml_chars.CharLaws.{or_cases, space-low}
use Rattle.xml_grammar.specs.Grammar.{Spaces}
use Rattle.xml_machine.specs.State as state
use Rattle.xml_machine.specs.State.{State, prolog, epilog, decl, tag, end_space, Stay, Item, opening, equals, quoting, between, gap, key_eq, quote}
use Rattle.xml_machine.specs.Machine.{char, in_decl, behind, in_tag, step}
use Rattle.xml_complete.proofs.Reading.{Reads, ascii-stays, many-reads}

pub space-cases : (P : ℕ → Type 0) → P 0x20 → P 0x9 → P 0xD → P 0xA → (c : ℕ) → is_space c ≡ true → P c
space-cases P p q r s c e =
    or_cases (eqb c 0x20) _ e (λ x. subst P (sym (eqb-true c 0x20 x)) p)
    (λ e. or_cases (eqb c 0x9) _ e (λ x. subst P (sym (eqb-true c 0x9 x)) q)
    (λ e. or_cases (eqb c 0xD) (eqb c 0xA) e (λ x. subst P (sym (eqb-true c 0xD x)) r) (λ x. subst P (sym (eqb-true c 0xA x)) s)))

pub space-ascii : (c : ℕ) → is_space c ≡ true → c < 0x80
space-ascii c e = let p = space-low c e in omega arith

pub spaces-read : {s : State} → ((c : ℕ) → is_space c ≡ true → step s c ≡ state.go Stay s) → {w : List ℕ} → Spaces w → Reads s w s
spaces-read f h = many-reads (λ c e. ascii-stays (space-ascii c e) (f c e)) h

pub gap-space : (n : List ℕ) (ns : List (List ℕ)) (c : ℕ) → is_space c ≡ true → step (tag gap whole n ns) c ≡ state.go Stay (tag gap whole n ns)
unfolding step in_tag behind char crosses
gap-space n ns c e = space-cases (λ c. step (tag gap whole n ns) c ≡ state.go Stay (tag gap whole n ns)) refl refl refl refl c e

pub equal_space : (n : List ℕ) (ns : List (List ℕ)) (c : ℕ) → is_space c ≡ true → step (tag key_eq whole n ns) c ≡ state.go Stay (tag key_eq whole n ns)
unfolding step in_tag
equal_space n ns c e = rw e refl

pub quote-space : (n : List ℕ) (ns : List (List ℕ)) (c : ℕ) → is_space c ≡ true → step (tag quote whole n ns) c ≡ state.go Stay (tag quote whole n ns)
unfolding step in_tag
quote-space n ns c e = rw e refl

pub end-space : (ns : List (List ℕ)) (c : ℕ) → is_space c ≡ true → step (end_space ns) c ≡ state.go Stay (end_space ns)
unfolding step
end-space ns c e = rw e refl

pub prolog-space : (c : ℕ) → is_space c ≡ true → step prolog c ≡ state.go Stay prolog
unfolding step
prolog-space c e = space-cases (λ c. step prolog c ≡ state.go Stay prolog) refl refl refl refl c e

pub epilog-space : (c : ℕ) → is_space c ≡ true → step epilog c ≡ state.go Stay epilog
unfolding step
epilog-space c e = space-cases (λ c. step epilog c ≡ state.go Stay epilog) refl refl refl refl c e

pub opening-space : (c : ℕ) → is_space c ≡ true → step (decl opening) c ≡ state.go Stay (decl opening)
unfolding step in_decl
opening-space c e = rw e refl

pub equals-space : (i : Item) (c : ℕ) → is_space c ≡ true → step (decl (equals i)) c ≡ state.go Stay (decl (equals i))
unfolding step in_decl
equals-space i c e = rw e refl

pub quoting-space : (i : Item) (c : ℕ) → is_space c ≡ true → step (decl (quoting i)) c ≡ state.go Stay (decl (quoting i))
unfolding step in_decl
quoting-space i c e = rw e refl

pub between-space : (i : Item) (c : ℕ) → is_space c ≡ true → step (decl (between i)) c ≡ state.go Stay (decl (between i))
unfolding step in_decl
between-space i c e = rw e refl
