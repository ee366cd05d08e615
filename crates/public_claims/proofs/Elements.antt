-- Reading an element adds records that show the public machine's node for it. Assumes nothing.
use Prim.Native.Nat.{ℕ, ◌+◌, ◌≤◌, min}
use mathlib.Core.Path.{◌≡◌, refl, sym, ap, ap₂, ◌∙◌, subst}
use mathlib.Core.List.{List, [], ◌∷◌, ◌++◌, map, append-nil}
use mathlib.Core.Bool.{Bool, true, false}
use mathlib.Core.Option.{Option}
use native.Mathlib.Omega.{arith}
use borrow.Author.Tests.{ne_eqb, le-leb, lt-leb, leb-true, leb-false}
use lib.Dec.{leb}
use lib.ListN.{length}
use Rattle.read_report.specs.of_names.Keys.{key_of}
use Rattle.read_report.specs.of_table.Event.{Attribute}
use Rattle.list_text.specs.of_tree_report.Report.{Text, Counts, Duration}
use Rattle.list_text.specs.of_tree_report.Fields.{kind_of, time}
use Rattle.read_report.specs.of_read_element.Outcome.{Place, Rooms}
use Rattle.read_report.specs.of_read_keys.declared.Role.{Role}
use Rattle.read_report.specs.of_read_keys.declared.Role.TheVariants as role
use Rattle.read_report.specs.of_read_keys.Roles.{report_keys, report_role, suite_keys, suite_role, case_keys, case_role, property_keys, property_role, status_keys, status_role, role_of}
use Rattle.read_report.proofs.of_read_keys.RoleLaws.{Each, role-each, count_keys}
use Rattle.read_report.specs.of_tree_put.Put.{blank}
use Rattle.read_report.specs.of_read_element.Attributes.{Given, Grown, numbered, read_attributes, read_element, complete}
use Rattle.public_claims.specs.Agree.{blanked}
use Rattle.public_claims.specs.inside.PublicMachine.{Said, unsaid, field_of, say, said, Node, report_node, suite_node, case_node, main_node, run_node}
use Rattle.public_claims.specs.inside.PublicMachine.{Sort, a_report, a_suite, a_case_of, a_main, a_run, unlisted, sort_of, or_empty, nodes_of, nodes_for}
use Rattle.public_claims.proofs.Holding.{Holds, accept, bind, needing}
use Rattle.public_claims.proofs.Codes.{Code, code_of, blank-same}
use Rattle.public_claims.proofs.View.{look_as, looks, sort-main, sort-run}
use Rattle.public_claims.proofs.Said.{Effect, effect, Base, base-effect, Wide, below-nine as low, Shows, Solid}
use Rattle.public_claims.proofs.Steps.{report-step, suite-step, case_step, run_step}

-- ---- every role of an element
two : 2 ≤ 2
two = omega arith

-- the bit of a suite's host isn't the flaky bit
host-apart : 9 ≡ min 10 31 → ⊥
host-apart e = omega arith

module _ (kind : ℕ) where
  counts-wide : Each (Wide kind) count_keys
  counts-wide = (omega arith, (omega arith, (omega arith, (omega arith, ((omega arith, omega arith), tt)))))

  property-wide : (c : ℕ) → Wide kind (property_role c)
  unfolding property_role
  property-wide c = role-each (Wide kind) property_keys role.Ignored c ((two, low 0 (omega arith)), ((omega arith, low 1 (omega arith)), tt)) tt

  status-wide : (b : Bool) (c : ℕ) → Wide kind (status_role b c)
  unfolding status_role
  status-wide true c = role-each (Wide kind) (status_keys true) role.Ignored c ((two, low 0 (omega arith)), (tt, (tt, ((omega arith, low 5 (omega arith)), tt)))) tt
  status-wide false c = role-each (Wide kind) (status_keys false) role.Ignored c ((two, low 0 (omega arith)), (tt, (tt, ((omega arith, low 5 (omega arith)), tt)))) tt

report-wide : (c : ℕ) → Wide 1 (report_role c)
unfolding report_role
report-wide c = role-each (Wide 1) report_keys role.Ignored c ((two, low 0 (omega arith)), (tt, (tt, (tt, counts-wide 1)))) tt

suite-wide : (c : ℕ) → Wide 2 (suite_role c)
unfolding suite_role
suite-wide c =
    role-each (Wide 2) suite_keys role.Extra c
    ((two, low 0 (omega arith)), (tt, (tt, (omega arith, (omega arith, (omega arith, (omega arith, ((omega arith, omega arith), ((omega arith, host-apart), tt))))))))) two

case-wide : (c : ℕ) → Wide 3 (case_role c)
unfolding case_role
case-wide c = role-each (Wide 3) case_keys role.Extra c ((two, low 0 (omega arith)), (tt, (tt, ((omega arith, low 5 (omega arith)), ((omega arith, omega arith), tt))))) (omega arith)

-- ---- an element's attributes
abbrev Stepping : ℕ → Sort → Type 0
Stepping kind σ = (c : ℕ) → Code c → (v : List ℕ) (g h : Given) (s : Said) → length g.main ≡ 32 → Effect kind (role_of kind c) v g h →
    Shows σ g.texts g.main s → Shows σ h.texts h.main (say (field_of c) v s)

-- the node for what is said
shown : (σ : Sort) (kind : ℕ) (t r : List ℕ) (s : Said) → kind_of r ≡ kind → Shows σ t r s → (u : List ℕ) → look_as σ (t ++ u) r ≡ nodes_of σ kind s
unfolding Shows
shown a_report kind t r s k h u = ap₂ (λ (x : Option Text) (y : Counts). report_node x y ∷ []) (h.0 u) h.1
shown a_suite kind t r s k h u = ap₂ (λ (x : Text) (y : Counts). suite_node x y ∷ []) (h.0 u) h.1
shown a_case_of kind t r s k h u =
    ap₂ (λ (x : Text) (y : Option Text). case_node x y (time r) ∷ []) (h.0 u) (h.1 u) ∙ ap (λ (x : Option Duration). case_node (or_empty s.name) s.classname x ∷ []) h.2
shown a_main kind t r s k h u = ap (λ (x : ℕ). main_node x ∷ []) k
shown a_run kind t r s k h u = ap₂ (λ (x : ℕ) (y : Option Duration). run_node x y ∷ []) k h
shown unlisted kind t r s k h u = refl

-- what reading an element leaves: its record and its extras behind the others, more texts, and what these show
pub record Grew (kind : ℕ) (xs : List Attribute) (records : List (List ℕ)) (texts : List ℕ) (g : Grown) : Type 0 where
  pub main : List ℕ
  pub extras : List (List ℕ)
  pub stands : g.records ≡ records ++ (main ∷ extras)
  pub kindly : kind_of main ≡ kind
  pub solid : Solid (main ∷ extras)
  pub added : List ℕ
  pub grown : g.texts ≡ texts ++ added
  pub shows : (u : List ℕ) → looks (g.texts ++ u) (main ∷ extras) ≡ nodes_for kind (map blanked xs)

module _ (rooms : Rooms) (kind : ℕ) (σ : Sort) (wide : (c : ℕ) → Wide kind (role_of kind c)) (stepping : Stepping kind σ) where
  attributes-sim : (p : Place) (used : ℕ) (t : List ℕ) (before : List (List ℕ)) (j : ℕ) (xs : List Attribute) (g : Given) (s : Said) → Base kind t g → Shows σ g.texts g.main s →
      Holds (λ h. Base kind t h × Shows σ h.texts h.main (said (map blanked xs) s)) (read_attributes rooms p used kind before j xs g)
  unfolding read_attributes said
  attributes-sim p used t before j [] g s b m = accept (b, m)
  attributes-sim p used t before j (x ∷ xs) g s b m =
      bind (needing _ _ _ (needing _ _ _ (effect rooms (numbered p j) used kind (key_of x.key) (role_of kind (key_of x.key)) x g)))
      λ h e.
      subst (λ (z : Said). Holds (λ h. Base kind t h × Shows σ h.texts h.main (said (map blanked xs) z)) (read_attributes rooms p used kind (before ++ (x.key ∷ [])) (j + 1) xs h))
      (sym (blank-same (key_of x.key) (code_of (key_of x.key)) x.value s))
      (attributes-sim p used t (before ++ (x.key ∷ [])) (j + 1) xs h (say (field_of (key_of x.key)) x.value s)
      (base-effect x.value h b (role_of kind (key_of x.key)) (wide (key_of x.key)) e)
      (stepping (key_of x.key) (code_of (key_of x.key)) x.value g h s b.long e m))

  complete-same : (p : Place) (g : Given) → Holds (λ h. h ≡ g) (complete p kind g)
  unfolding complete
  complete-same p g = needing _ _ _ (needing _ _ _ (accept refl))

  element-sim : sort_of kind ≡ σ → ((t : List ℕ) → Shows σ t (blank kind) unsaid) → (p : Place) (j : ℕ) (xs : List Attribute) (records : List (List ℕ)) (texts : List ℕ) →
      Holds (Grew kind xs records texts) (read_element rooms p kind j xs records texts)
  unfolding read_element
  element-sim q z p j xs records texts =
      bind
      (needing _ _ _
      (attributes-sim p (length records) texts [] j xs (record { main = blank kind; extras = []; texts = texts }) unsaid
      (record { added = []; grown = sym (append-nil texts); long = refl; kindly = refl; plain = refl; hidden = (λ t. refl, tt) }) (z texts)))
      λ g m. bind (complete-same p g)
      λ h e. accept
      (record {
        main = h.main;
        extras = h.extras;
        stands = refl;
        kindly = ap (λ (g : Given). kind_of g.main) e ∙ m.0.kindly;
        solid = subst (λ (g : Given). Solid (g.main ∷ g.extras)) (sym e) ((subst (λ (n : ℕ). 1 ≤ n) (sym m.0.long) (omega arith), m.0.plain), m.0.hidden.1);
        added = m.0.added;
        grown = ap (λ (g : Given). g.texts) e ∙ m.0.grown;
        shows = λ u.
            ap (λ (g : Given). looks (g.texts ++ u) (g.main ∷ g.extras)) e
            ∙ ap₂ (λ (x y : List Node). x ++ y)
            (ap (λ (k : ℕ). look_as (sort_of k) (g.texts ++ u) g.main) m.0.kindly ∙ ap (λ (τ : Sort). look_as τ (g.texts ++ u) g.main) q
            ∙ shown σ kind g.texts g.main (said (map blanked xs) unsaid) m.0.kindly m.1 u ∙ ap (λ (τ : Sort). nodes_of τ kind (said (map blanked xs) unsaid)) (sym q))
            (m.0.hidden.0 (g.texts ++ u))
            ∙ append-nil (nodes_for kind (map blanked xs));
      })

-- ---- each kind of element
abbrev pub Adds : Rooms → ℕ → Type 0
Adds rooms kind = (p : Place) (j : ℕ) (xs : List Attribute) (records : List (List ℕ)) (texts : List ℕ) → Holds (Grew kind xs records texts) (read_element rooms p kind j xs records texts)

blank-report : (t : List ℕ) → Shows a_report t (blank 1) unsaid
unfolding Shows
blank-report t = (λ u. refl, refl)

blank-suite : (t : List ℕ) → Shows a_suite t (blank 2) unsaid
unfolding Shows
blank-suite t = (λ u. refl, refl)

blank-case : (t : List ℕ) → Shows a_case_of t (blank 3) unsaid
unfolding Shows
blank-case t = (λ u. refl, λ u. refl, refl)

blank-run : (k : ℕ) (t : List ℕ) → Shows a_run t (blank k) unsaid
unfolding Shows
blank-run k t = refl

shows-main : (t r : List ℕ) (s : Said) → Shows a_main t r s
unfolding Shows
shows-main t r s = tt

shows-hidden : (t r : List ℕ) (s : Said) → Shows unlisted t r s
unfolding Shows
shows-hidden t r s = tt

module _ (rooms : Rooms) where
  pub report-adds : Adds rooms 1
  unfolding role_of sort_of
  report-adds = element-sim rooms 1 a_report report-wide (report-step 1) refl blank-report

  pub suite-adds : Adds rooms 2
  unfolding role_of sort_of
  suite-adds = element-sim rooms 2 a_suite suite-wide (suite-step 2) refl blank-suite

  pub case-adds : Adds rooms 3
  unfolding role_of sort_of
  case-adds = element-sim rooms 3 a_case_of case-wide (case_step 3) refl blank-case

  pub suite-property_adds : Adds rooms 4
  unfolding role_of sort_of
  suite-property_adds = element-sim rooms 4 unlisted (property-wide 4) (λ c k v g h s l e m. shows-hidden h.texts h.main (say (field_of c) v s)) refl (λ t. shows-hidden t (blank 4) unsaid)

  pub case-property_adds : Adds rooms 5
  unfolding role_of sort_of
  case-property_adds = element-sim rooms 5 unlisted (property-wide 5) (λ c k v g h s l e m. shows-hidden h.texts h.main (say (field_of c) v s)) refl (λ t. shows-hidden t (blank 5) unsaid)

role-status : (k c : ℕ) → 6 ≤ k → role_of k c ≡ status_role (leb 9 k) c
unfolding role_of
role-status k c h = rw (ne_eqb k 1 (λ e. omega arith), ne_eqb k 2 (λ e. omega arith), ne_eqb k 3 (λ e. omega arith), lt-leb k 5 (omega arith))

role-run : (k c : ℕ) → 9 ≤ k → role_of k c ≡ status_role true c
role-run k c h = role-status k c (omega arith) ∙ ap (λ (b : Bool). status_role b c) (le-leb 9 k h)

pub status-adds : (rooms : Rooms) (k : ℕ) → 6 ≤ k → k ≤ 12 → Adds rooms k
status-adds rooms k a b = go (leb k 8) refl
  where
    wide : (c : ℕ) → Wide k (role_of k c)
    wide c = subst (Wide k) (sym (role-status k c a)) (status-wide k (leb 9 k) c)

    go : (x : Bool) → leb k 8 ≡ x → Adds rooms k
    go true e = element-sim rooms k a_main wide (λ c d v g h s l z m. shows-main h.texts h.main (say (field_of c) v s)) (sort-main k a (leb-true k 8 e)) (λ t. shows-main t (blank k) unsaid)
    go false e =
        let n : 9 ≤ k = leb-false k 8 e in
        element-sim rooms k a_run wide (λ c d v g h s l z m. run_step k c d v g h s l (subst (λ (ρ : Role). Effect k ρ v g h) (role-run k c n) z) m) (sort-run k n b) (blank-run k)
