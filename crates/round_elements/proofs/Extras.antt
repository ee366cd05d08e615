-- The extras of an element are read back, each into a record of its own. Assumes nothing.
use Prim.Native.Nat.{ℕ, suc}
use mathlib.Core.Bool.{true, false}
use mathlib.Core.List.{List, [], ◌∷◌, ◌++◌, map, append-nil, append_assoc, map-append}
use mathlib.Core.Option.{some}
use mathlib.Core.Path.{◌≡◌, refl, sym, ap, subst, ◌∙◌}
use native.Mathlib.Omega.{arith}
use borrow.Author.Tests.{le-leb}
use lib.Dec.{leb}
use lib.ListN.{length}
use Rattle.read_machine.specs.of_area.Answer.{gives, refuses}
use Rattle.read_machine.specs.of_refusal.Refusal.{accepted}
use Rattle.read_machine.specs.of_refusal.declared.Cause.TheVariants as cause
use Rattle.read_machine.specs.of_names.Names.{same_bytes}
use Rattle.read_machine.specs.of_names.Keys.{key_of}
use Rattle.read_machine.specs.of_utf8.Utf8.{utf8}
use Rattle.read_machine.specs.of_reference.Reference.{refs_ok}
use Rattle.read_machine.specs.of_text_filter.Filter.{filtered, unfiltered}
use Rattle.write_back.specs.of_text.Value.{value_text, checked_of}
use Rattle.read_machine.proofs.of_text_filter.Filtering.{filtered-same}
use Rattle.write_back.proofs.of_text.Putting.{both_yes}
use Rattle.write_report.specs.of_tree_report.Report.{Pair}
use Rattle.write_report.specs.of_tree_report.Fields.{text_at}
use Rattle.write_report.specs.of_tree_report.inside.Cells.{valued, written, fits_cell}
use Rattle.write_report.proofs.of_tree_report.EncodeLists.{and_left, and_right, Each, more}
use Rattle.read_machine.specs.of_tree_put.Put.{blank, put_text}
use Rattle.read_machine.specs.of_read_keys.declared.Role.TheVariants as role
use Rattle.read_machine.specs.of_read_keys.Roles.{role_of}
use Rattle.read_machine.specs.of_read_element.Outcome.{◌>>=◌, Place, there, need, unlimited, fits}
use Rattle.read_machine.specs.of_read_element.Attributes.{Given, place_of, extra_kind, new_extra, read_extra, by_role, among}
use Rattle.write_back.proofs.Escaped.{value-escaped, checked-escaped}
use Rattle.write_back.specs.of_write_escape.Escape.{escaped}
use Rattle.write_report.specs.Written.{attribute, extra_attribute}
use Rattle.round_elements.specs.Plain.{keys_of, holds, is_in}
use Rattle.round_elements.specs.inside.Opened.{PairShown, PairsShown, none as no_pairs, more as one_pair}
use Rattle.round_elements.proofs.Keys.{or_left, or_right, Fresh, fresh-new, fresh-next, GoodKey, no-refs, plain-decoded}
use Rattle.round_elements.proofs.Reading.{Reads, read-end, read-role}
use Rattle.round_elements.proofs.Rows.{words, blank_row, with_first_of, put_first, put-value}
use Rattle.round_elements.proofs.Places.{stands-new, stands-more, pairs-later}
use Rattle.round_elements.proofs.Shown.{pair_filled, pair-shown}

-- ---- one extra
-- an extra's record, and its texts behind the others
abbrev with_extra : ℕ → Pair → Given → Given
with_extra κ p g = record {
  main = g.main;
  extras = g.extras ++ (words (pair_filled (extra_kind κ) (length g.texts) (length (g.texts ++ p.key)) p) ∷ []);
  texts = (g.texts ++ p.key) ++ p.value;
}

extra-words : (κ x y : ℕ) (p : Pair) → put_text 4 1 y (length p.value) (put_text 2 0 x (length p.key) (blank κ)) ≡ words (pair_filled κ x y p)
extra-words κ x y p =
    ap (put_text 4 1 y (length p.value)) (put_first (blank_row κ) x (length p.key)) ∙ put-value (with_first_of (valued x (length p.key)) (blank_row κ)) y (length p.value)

module _ (used κ : ℕ) (g : Given) (q : Place) where
  new-extra : (p : Pair) → new_extra unlimited q used κ p.key p.value g ≡ accepted (with_extra κ p g)
  unfolding new_extra need fits
  new-extra p =
      ap (λ (r : List ℕ). accepted (record { main = g.main; extras = g.extras ++ (r ∷ []); texts = (g.texts ++ p.key) ++ p.value }))
      (extra-words (extra_kind κ) (length g.texts) (length (g.texts ++ p.key)) p)

  extra-given : (key value : List ℕ) (p : Pair) → checked_of key ≡ gives tt → checked_of value ≡ gives tt → value_text key ≡ p.key → value_text value ≡ p.value
      → leb (length g.extras) (place_of g.texts p.key g.extras) ≡ true → read_extra unlimited q used κ (attribute key value) g ≡ accepted (with_extra κ p g)
  unfolding read_extra there ◌>>=◌
  extra-given key value p a b c d e = rw (a, b, c, d, e) (new-extra p)

  role-extra : (c : ℕ) (p : Pair) → holds 0x26 p.key ≡ false → fits_cell (written p.key) ≡ true
      → fits_cell (written p.value) ≡ true → place_of g.texts p.key g.extras ≡ length g.extras
      → by_role unlimited q used κ c role.Extra (extra_attribute p) g ≡ accepted (with_extra κ p g)
  unfolding by_role
  role-extra c p h f v e =
      let k : List ℕ = p.key in
      let w : List ℕ = p.value in
      let uk = and_left (utf8 k) (unfiltered k) f in
      let uw = and_left (utf8 w) (unfiltered w) v in
      extra-given k (escaped w) p
      (sym (both_yes (utf8 k) (refs_ok k 0) (gives tt) (refuses cause.BadReference) (refuses cause.NotUtf8) uk (no-refs k h)))
      (checked-escaped w uw)
      (ap filtered (plain-decoded k h) ∙ filtered-same k (and_right (utf8 k) (unfiltered k) f))
      (value-escaped w (and_right (utf8 w) (unfiltered w) v))
      (le-leb (length g.extras) (place_of g.texts k g.extras) (omega arith))

-- ---- all
place_end : {κ : ℕ} {texts : List ℕ} {rs : List (List ℕ)} {ps : List Pair} (k : List ℕ) → PairsShown κ texts rs ps → among k (keys_of ps) ≡ false → place_of texts k rs ≡ length rs
place_end k no_pairs e = refl
place_end {texts = texts} k (one_pair {r = r} {p = p} {ps = ps} h hs) e =
    let a : text_at texts r 2 ≡ p.key = ap (λ (t : List ℕ). text_at t r 2) (sym (append-nil texts)) ∙ ap (λ (x : Pair). x.key) (h.pair []) in
    rw (a, or_left (same_bytes p.key k) (among k (keys_of ps)) e) (ap suc (place_end k hs (or_right (same_bytes p.key k) (among k (keys_of ps)) e)))

pairs-on : {κ : ℕ} {texts r : List ℕ} {rs : List (List ℕ)} {p : Pair} {ps : List Pair} → PairsShown κ texts rs ps → PairShown κ texts r p → PairsShown κ texts (rs ++ (r ∷ [])) (ps ++ (p ∷ []))
pairs-on no_pairs q = one_pair q no_pairs
pairs-on (one_pair h hs) q = one_pair h (pairs-on hs q)

pub record ExtrasRead (p : Place) (used κ : ℕ) (g : Given) (before ps : List Pair) : Type 0 where
  pub rows : List (List ℕ)
  pub texts : List ℕ
  pub added : List ℕ
  pub grown : texts ≡ g.texts ++ added
  pub reads : Reads p used κ (keys_of ps) (map extra_attribute ps) g (accepted (record { main = g.main; extras = rows; texts = texts }))
  pub shown : PairsShown (extra_kind κ) texts rows (before ++ ps)

-- key and value are UTF-8 without filtered characters
pub record GoodPair (p : Pair) : Type 0 where
  pub key : fits_cell (written p.key) ≡ true
  pub value : fits_cell (written p.value) ≡ true

module _ {p : Place} {used κ : ℕ} {own : List (List ℕ)} (extra : (k : List ℕ) → is_in k own ≡ false → role_of κ (key_of k) ≡ role.Extra) where
  pub extras-read : (g : Given) (before ps : List Pair) → PairsShown (extra_kind κ) g.texts g.extras before → Each (GoodKey own) (keys_of ps) → Each GoodPair ps
      → Fresh (keys_of before) (keys_of ps) → ExtrasRead p used κ g before ps
  extras-read g before [] s k f n = record {
    rows = g.extras;
    texts = g.texts;
    added = [];
    grown = sym (append-nil g.texts);
    reads = read-end;
    shown = subst (PairsShown (extra_kind κ) g.texts g.extras) (sym (append-nil before)) s;
  }
  extras-read g before (x ∷ ps) s (more k ks) (more f fs) n =
      let h : Given = with_extra κ x g in
      let t : List ℕ = g.texts in
      let keyed : List ℕ = t ++ x.key in
      let old : PairsShown (extra_kind κ) (keyed ++ x.value) g.extras before = pairs-later keyed x.value (pairs-later t x.key s) in
      let new : PairShown (extra_kind κ) (keyed ++ x.value) (words (pair_filled (extra_kind κ) (length t) (length keyed) x)) x =
      pair-shown (extra_kind κ) (length t) (length keyed) x (stands-more keyed x.value (length t) (some x.key) (stands-new t (some x.key))) (stands-new keyed (some x.value)) in
      let fresh : Fresh (keys_of (before ++ (x ∷ []))) (keys_of ps) =
      subst (λ (l : List (List ℕ)). Fresh l (keys_of ps)) (sym (map-append (λ (y : Pair). y.key) before (x ∷ []))) (fresh-next n) in
      let rest : ExtrasRead p used κ h (before ++ (x ∷ [])) ps = extras-read h (before ++ (x ∷ [])) ps (pairs-on old new) ks fs fresh in
      record {
        rows = rest.rows;
        texts = rest.texts;
        added = x.key ++ (x.value ++ rest.added);
        grown = rest.grown ∙ append_assoc keyed x.value rest.added ∙ append_assoc t x.key (x.value ++ rest.added);
        reads =
            read-role x.key (escaped x.value) (extra x.key k.other) (λ q c. role-extra used κ g q c x k.plain f.key f.value (place_end x.key s (fresh-new n))) rest.reads;
        shown = subst (PairsShown (extra_kind κ) rest.texts rest.rows) (append_assoc before (x ∷ []) ps) rest.shown;
      }
