-- What may begin a document is completed: the declaration, its fixed bytes, and `<?` in the very first place. Assumes nothing.
use Prim.Native.Nat.{ℕ}
use mathlib.Core.Path.{◌≡◌, refl}
use mathlib.Core.List.{List, [], ◌∷◌, ◌++◌}
use mathlib.Core.Option.{some}
use borrow.Author.Tests.{eq-eqb}
use Rattle.xml_machine.specs.of_xml_chars.Chars.{crosses, lower, Quote, single, double}
use Rattle.xml_machine.specs.State.{marked, heading, decl, literal, epilog, b0, Letters, x0, x1, x2, x3, Goal, to_marked, to_section, to_equals, to_point, to_chosen}
use Rattle.xml_machine.specs.State.{Item, version, encoding, standalone, InDecl, opening, equals, quoting, point, digit, letters, choice, chosen, valued, between}
use Rattle.xml_machine.specs.Machine.{char, in_target, in_misc, in_heading, in_decl, behind, in_tag, in_lt, reached, step}
use Rattle.xml_machine.specs.Runs.{run}
use Rattle.xml_finish.proofs.Finish.{root, leave_target, leave_item, item_value, leave_decl, leave_goal}
use Rattle.xml_finish.proofs.Closing.{section-done}

pub heading-done : (x : Letters) → run (heading x) (leave_target x root) ≡ some epilog
unfolding run step in_heading in_target in_misc in_lt in_tag behind char crosses lower
heading-done x0 = refl
heading-done x1 = refl
heading-done x2 = refl
heading-done x3 = refl

pub marked-done : run marked root ≡ some epilog
unfolding run step in_lt in_tag behind char crosses
marked-done = refl

item-done : (i : Item) → run (decl (valued i)) leave_item ≡ some epilog
unfolding run step in_decl in_misc in_lt in_tag behind char crosses
item-done i = refl

between_done : (i : Item) → run (decl (between i)) leave_item ≡ some epilog
unfolding run step in_decl in_misc in_lt in_tag behind char crosses
between_done version = refl
between_done encoding = refl
between_done standalone = refl

-- letters that are the small ones of their pair
abbrev pub Small : List ℕ → Type 0
Small [] = Unit {0}
Small (c ∷ cs) = (lower c ≡ c) × Small cs

letters-done : (q : Quote) (cs : List ℕ) → Small cs → run (decl (letters q cs)) (leave_decl (letters q cs)) ≡ some epilog
unfolding run step in_decl
letters-done single [] v = item-done encoding
letters-done double [] v = item-done encoding
letters-done q (c ∷ cs) v = rw (v.0, eq-eqb c c refl) (letters-done q cs v.1)

quoting-done : (i : Item) → run (decl (quoting i)) (item_value i) ≡ some epilog
unfolding run step in_decl lower
quoting-done version = item-done version
quoting-done encoding = item-done encoding
quoting-done standalone = item-done standalone

-- what a declaration still needs can be met
abbrev pub DeclViable : InDecl → Type 0
DeclViable opening = Unit {0}
DeclViable (equals i) = Unit {0}
DeclViable (quoting i) = Unit {0}
DeclViable (point q) = Unit {0}
DeclViable (digit q) = Unit {0}
DeclViable (letters q cs) = Small cs
DeclViable (choice q) = Unit {0}
DeclViable (chosen q) = Unit {0}
DeclViable (valued i) = Unit {0}
DeclViable (between i) = Unit {0}

pub decl-done : (d : InDecl) → DeclViable d → run (decl d) (leave_decl d) ≡ some epilog
unfolding run step in_decl
decl-done opening v = quoting-done version
decl-done (equals i) v = quoting-done i
decl-done (quoting i) v = quoting-done i
decl-done (point single) v = item-done version
decl-done (point double) v = item-done version
decl-done (digit single) v = item-done version
decl-done (digit double) v = item-done version
decl-done (letters q cs) v = letters-done q cs v
decl-done (choice single) v = item-done standalone
decl-done (choice double) v = item-done standalone
decl-done (chosen single) v = item-done standalone
decl-done (chosen double) v = item-done standalone
decl-done (valued i) v = item-done i
decl-done (between i) v = between_done i

goal-done : (g : Goal) → run (reached g) (leave_goal g) ≡ some epilog
goal-done to_marked = marked-done
goal-done (to_section n ns) = section-done b0 n ns
goal-done (to_equals i) = decl-done (equals i) tt
goal-done (to_point q) = decl-done (point q) tt
goal-done (to_chosen q) = decl-done (chosen q) tt

pub literal-done : (c : ℕ) (cs : List ℕ) (g : Goal) → run (literal c cs g) (c ∷ (cs ++ leave_goal g)) ≡ some epilog
unfolding run step
literal-done c [] g = rw (eq-eqb c c refl) (goal-done g)
literal-done c (d ∷ cs) g = rw (eq-eqb c c refl) (literal-done d cs g)
