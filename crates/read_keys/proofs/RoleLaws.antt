-- What holds of every role of an element, and the roles of private keys. Assumes nothing.
use Prim.Native.Nat.{ℕ, ◌≤◌}
use mathlib.Core.Bool.{Bool, true, false, cond, ◌&&◌, false≢true}
use mathlib.Core.List.{List, [], ◌∷◌}
use mathlib.Core.Path.{◌≡◌, refl, sym, ap, ◌∙◌}
use native.Mathlib.Omega.{arith}
use borrow.Author.Tests.{ne_eqb, eqb-true, eqb-false, leb-true, leb-false}
use lib.Dec.{eqb, leb}
use lib.ListN.{drop}
use Rattle.schema.specs.of_names.Keys as key
use Rattle.schema.specs.of_tree_record.Words as word
use Rattle.schema.specs.of_tree_record.Bits as bit
use Rattle.read_keys.specs.Roles.{role_in, report_keys, report_role, suite_keys, suite_role, case_keys, case_role, property_keys, property_role, status_keys, status_role, role_of}
use Rattle.read_keys.specs.declared.Role.{Role}
use Rattle.read_keys.specs.declared.Role.TheVariants.{Text, Timestamp, Time, Extra, Ignored}

-- P of each role of a list
abbrev pub Each : (Role → Type 0) → List (ℕ × Role) → Type 0
Each P [] = Unit {0}
Each P (x ∷ xs) = P x.1 × Each P xs

-- what holds of each role of a list, and of the other role, holds of every key's role
pub role-each : (P : Role → Type 0) (xs : List (ℕ × Role)) (other : Role) (k : ℕ) → Each P xs → P other → P (role_in xs other k)
unfolding role_in
role-each P [] other k e o = o
role-each P (x ∷ xs) other k e o = go (eqb k x.0) (role-each P xs other k e.1 o)
  where
    go : (t : Bool) → P (role_in xs other k) → P (cond t x.1 (role_in xs other k))
    go true r = e.0
    go false r = r

-- the counts of a report, and of a suite
abbrev pub count_keys : List (ℕ × Role)
count_keys = drop 4 report_keys

-- a status element's keys, whether it is a run or not
pub status-keys : (run : Bool)
    → status_keys run ≡ (key.message, Text word.message bit.message) ∷ (key.timestamp, Timestamp run) ∷ (key.time, Time run) ∷ (key.type, Text word.type bit.type) ∷ []
status-keys true = refl
status-keys false = refl

-- the public keys (rule L1) have the codes 1 to 11
abbrev pub is_public : ℕ → Bool
is_public k = leb 1 k && leb k 11

-- the private ones among an element's keys
abbrev private_of : List (ℕ × Role) → List (ℕ × Role)
private_of [] = []
private_of (x ∷ xs) = cond (is_public x.0) (private_of xs) (x ∷ private_of xs)

module _ (k : ℕ) (p : is_public k ≡ false) where
  -- a private key is looked up among the private ones
  private_in : (xs : List (ℕ × Role)) (other : Role) → role_in xs other k ≡ role_in (private_of xs) other k
  unfolding role_in
  private_in [] other = refl
  private_in (x ∷ xs) other = go (is_public x.0) refl (private_in xs other)
    where
      go : (t : Bool) → is_public x.0 ≡ t → role_in xs other k ≡ role_in (private_of xs) other k
          → cond (eqb k x.0) x.1 (role_in xs other k) ≡ role_in (cond t (private_of xs) (x ∷ private_of xs)) other k
      go true q i = rw (ne_eqb k x.0 (λ e. false≢true (sym p ∙ ap is_public e ∙ q))) i
      go false q i = ap (cond (eqb k x.0) x.1) i

  pub private-report : report_role k ≡ Ignored
  unfolding report_role role_in
  private-report = private_in report_keys Ignored

  private-suite : suite_role k ≡ role_in (private_of suite_keys) Extra k
  unfolding suite_role
  private-suite = private_in suite_keys Extra

  pub private-case : case_role k ≡ Extra
  unfolding case_role role_in
  private-case = private_in case_keys Extra

  private-property : property_role k ≡ role_in (private_of property_keys) Ignored k
  unfolding property_role
  private-property = private_in property_keys Ignored

  private-status : (run : Bool) → status_role run k ≡ role_in (private_of (status_keys false)) Ignored k
  unfolding status_role
  private-status true = private_in (status_keys true) Ignored
  private-status false = private_in (status_keys false) Ignored

-- where the value under a private key goes: a status element's message or type, a property's value, a suite's host, an extra, nowhere
pub data Private (kind : ℕ) : Role → Type 0 where
  message : 6 ≤ kind → Private kind (Text 2 0)
  type : 6 ≤ kind → Private kind (Text 18 5)
  value : 4 ≤ kind → kind ≤ 5 → Private kind (Text 4 1)
  host : kind ≡ 2 → Private kind (Text 28 10)
  extra : 2 ≤ kind → kind ≤ 3 → Private kind Extra
  ignored : Private kind Ignored

pub private_role : (kind k : ℕ) → 1 ≤ kind → is_public k ≡ false → Private kind (role_of kind k)
unfolding role_of
private_role kind k h p = go (eqb kind 1) (eqb kind 2) (eqb kind 3) (leb kind 5) refl refl refl refl
  where
    go : (a b c d : Bool) → eqb kind 1 ≡ a → eqb kind 2 ≡ b → eqb kind 3 ≡ c → leb kind 5 ≡ d
        → Private kind (cond a (report_role k) (cond b (suite_role k) (cond c (case_role k) (cond d (property_role k) (status_role (leb 9 kind) k)))))
    go true b c d ea eb ec ed = rw (private-report k p) ignored
    go false true c d ea eb ec ed =
        let z : kind ≡ 2 = eqb-true kind 2 eb in
        rw (private-suite k p) (role-each (Private kind) (private_of suite_keys) Extra k (host z, tt) (extra (omega arith) (omega arith)))
    go false false true d ea eb ec ed = let z : kind ≡ 3 = eqb-true kind 3 ec in rw (private-case k p) (extra (omega arith) (omega arith))
    go false false false true ea eb ec ed =
        let least : 4 ≤ kind = omega (arith, eqb-false kind 1 ea, eqb-false kind 2 eb, eqb-false kind 3 ec) in
        rw (private-property k p) (role-each (Private kind) (private_of property_keys) Ignored k (value least (leb-true kind 5 ed), tt) ignored)
    go false false false false ea eb ec ed =
        let least : 6 ≤ kind = leb-false kind 5 ed in
        rw (private-status k p (leb 9 kind)) (role-each (Private kind) (private_of (status_keys false)) Ignored k (message least, (type least, tt)) ignored)
