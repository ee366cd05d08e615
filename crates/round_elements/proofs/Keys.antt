-- Keys that are still to come: none was read before, and no two are the same. Assumes nothing.
use Prim.Native.Nat.{ℕ}
use mathlib.Core.Bool.{Bool, true, false, not, ◌&&◌, ◌||◌, false≢true}
use mathlib.Core.List.{List, [], ◌∷◌, ◌++◌}
use mathlib.Core.Path.{◌≡◌, refl, sym, ap, ◌∙◌}
use borrow.Author.Tests.{not-true}
use lib.Dec.{eqb}
use Rattle.read_machine.specs.of_names.Names.{same_bytes}
use Rattle.read_machine.proofs.of_names.NameLaws.{same_refl, same_true}
use Rattle.read_machine.specs.of_reference.Reference.{refs_ok, decoded}
use Rattle.write_report.specs.of_tree_report.Encode.{every}
use Rattle.write_report.proofs.of_tree_report.EncodeLists.{both, and_left, and_right, Each, done, more}
use Rattle.read_machine.specs.of_read_element.Attributes.{among}
use Rattle.round_elements.specs.Plain.{is_in, distinct, holds, good_keys}

-- ---- tests that fail
pub or_left : (a b : Bool) → (a || b) ≡ false → a ≡ false
or_left true b e = absurd (false≢true (sym e))
or_left false b e = refl

pub or_right : (a b : Bool) → (a || b) ≡ false → b ≡ false
or_right true b e = absurd (false≢true (sym e))
or_right false b e = e

pub neither : (a b : Bool) → a ≡ false → b ≡ false → (a || b) ≡ false
neither a b p q = ap (λ (t : Bool). t || b) p ∙ q

same-sym : (a b : List ℕ) → same_bytes a b ≡ false → same_bytes b a ≡ false
same-sym a b e = go (same_bytes b a) refl
  where
    go : (t : Bool) → same_bytes b a ≡ t → same_bytes b a ≡ false
    go true q = absurd (false≢true (sym e ∙ ap (same_bytes a) (same_true b a q) ∙ same_refl a))
    go false q = q

-- ---- keys to come
pub data Fresh (before : List (List ℕ)) : List (List ℕ) → Type 0 where
  nothing : Fresh before []
  key : {k : List ℕ} {ks : List (List ℕ)} → among k before ≡ false → is_in k ks ≡ false → Fresh before ks → Fresh before (k ∷ ks)

not-among : (k u : List ℕ) (before : List (List ℕ)) → among u before ≡ false → same_bytes k u ≡ false → among u (before ++ (k ∷ [])) ≡ false
not-among k u [] e n = neither (same_bytes k u) false n refl
not-among k u (b ∷ before) e n =
    neither (same_bytes b u) (among u (before ++ (k ∷ []))) (or_left (same_bytes b u) (among u before) e)
    (not-among k u before (or_right (same_bytes b u) (among u before) e) n)

later : {before ks : List (List ℕ)} (k : List ℕ) → is_in k ks ≡ false → Fresh before ks → Fresh (before ++ (k ∷ [])) ks
later k d nothing = nothing
later {before} k d (key {k = u} {ks = us} n e f) =
    key (not-among k u before n (same-sym u k (or_left (same_bytes u k) (is_in k us) d))) e (later k (or_right (same_bytes u k) (is_in k us) d) f)

module _ {before ks : List (List ℕ)} {k : List ℕ} where
  pub fresh-new : Fresh before (k ∷ ks) → among k before ≡ false
  fresh-new (key n d f) = n

  -- the key doesn't come
  pub fresh-skip : Fresh before (k ∷ ks) → Fresh before ks
  fresh-skip (key n d f) = f

  -- the key has come
  pub fresh-next : Fresh before (k ∷ ks) → Fresh (before ++ (k ∷ [])) ks
  fresh-next (key n d f) = later k d f

pub fresh_start : (ks : List (List ℕ)) → distinct ks ≡ true → Fresh [] ks
fresh_start [] e = nothing
fresh_start (k ∷ ks) e =
    key refl (not-true (is_in k ks) (and_left (not (is_in k ks)) (distinct ks) e)) (fresh_start ks (and_right (not (is_in k ks)) (distinct ks) e))

-- ---- an element's own keys, and those of its extras
pub record GoodKey (own : List (List ℕ)) (k : List ℕ) : Type 0 where
  pub plain : holds 0x26 k ≡ false
  pub other : is_in k own ≡ false

in-append : (k : List ℕ) (a b : List (List ℕ)) → is_in k a ≡ false → is_in k b ≡ false → is_in k (a ++ b) ≡ false
in-append k [] b e f = f
in-append k (u ∷ a) b e f = neither (same_bytes u k) (is_in k (a ++ b)) (or_left (same_bytes u k) (is_in k a) e) (in-append k a b (or_right (same_bytes u k) (is_in k a) e) f)

apart : (o : List ℕ) (own : List (List ℕ)) {ks : List (List ℕ)} → Each (λ k. is_in k (o ∷ own) ≡ false) ks → is_in o ks ≡ false
apart o own done = refl
apart o own (more {x = k} {xs = ks} h hs) = neither (same_bytes k o) (is_in o ks) (same-sym o k (or_left (same_bytes o k) (is_in k own) h)) (apart o own hs)

without : (o : List ℕ) (own : List (List ℕ)) {ks : List (List ℕ)} → Each (λ k. is_in k (o ∷ own) ≡ false) ks → Each (λ k. is_in k own ≡ false) ks
without o own done = done
without o own (more {x = k} h hs) = more (or_right (same_bytes o k) (is_in k own) h) (without o own hs)

distinct_append : (own : List (List ℕ)) {ks : List (List ℕ)} → distinct own ≡ true → distinct ks ≡ true → Each (λ k. is_in k own ≡ false) ks → distinct (own ++ ks) ≡ true
distinct_append [] e f h = f
distinct_append (o ∷ own) {ks} e f h =
    both (ap not (in-append o own ks (not-true (is_in o own) (and_left (not (is_in o own)) (distinct own) e)) (apart o own h)))
    (distinct_append own (and_right (not (is_in o own)) (distinct own) e) f (without o own h))

module _ (own ks : List (List ℕ)) where
  good-keys : every (λ (k : List ℕ). not (holds 0x26 k) && not (is_in k own)) ks ≡ true → Each (GoodKey own) ks
  good-keys e = go ks e
    where
      go : (ks : List (List ℕ)) → every (λ (k : List ℕ). not (holds 0x26 k) && not (is_in k own)) ks ≡ true → Each (GoodKey own) ks
      go [] e = done
      go (k ∷ ks) e =
          let a : Bool = not (holds 0x26 k) && not (is_in k own) in
          let b : Bool = every (λ (k : List ℕ). not (holds 0x26 k) && not (is_in k own)) ks in
          let h : (not (holds 0x26 k) && not (is_in k own)) ≡ true = and_left a b e in
          more (record {
            plain = not-true (holds 0x26 k) (and_left (not (holds 0x26 k)) (not (is_in k own)) h);
            other = not-true (is_in k own) (and_right (not (holds 0x26 k)) (not (is_in k own)) h);
          }) (go ks (and_right a b e))

  abbrev others : Bool
  others = every (λ (k : List ℕ). not (holds 0x26 k) && not (is_in k own)) ks

  pub keys-good : good_keys own ks ≡ true → Each (GoodKey own) ks
  keys-good e = good-keys (and_right (distinct ks) others e)

  pub keys-distinct : good_keys own ks ≡ true → distinct ks ≡ true
  keys-distinct e = and_left (distinct ks) others e

  pub keys-fresh : distinct own ≡ true → good_keys own ks ≡ true → Fresh [] (own ++ ks)
  keys-fresh d e = fresh_start (own ++ ks) (distinct_append own d (keys-distinct e) (go (keys-good e)))
    where
      go : {ks : List (List ℕ)} → Each (GoodKey own) ks → Each (λ k. is_in k own ≡ false) ks
      go done = done
      go (more h hs) = more h.other (go hs)

-- ---- a key without & stands for itself
pub no-refs : (s : List ℕ) → holds 0x26 s ≡ false → refs_ok s 0 ≡ true
no-refs [] e = refl
no-refs (b ∷ s) e = rw (or_left (eqb b 0x26) (holds 0x26 s) e) (no-refs s (or_right (eqb b 0x26) (holds 0x26 s) e))

pub plain-decoded : (s : List ℕ) → holds 0x26 s ≡ false → decoded s 0 ≡ s
plain-decoded [] e = refl
plain-decoded (b ∷ s) e = rw (or_left (eqb b 0x26) (holds 0x26 s) e) (ap (λ (l : List ℕ). b ∷ l) (plain-decoded s (or_right (eqb b 0x26) (holds 0x26 s) e)))
