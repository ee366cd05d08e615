-- A timestamp from its parts. Assumes nothing.
use Prim.Native.Nat.{ℕ, ◌+◌, ◌≤◌, ◌<◌}
use mathlib.Core.Path.{◌≡◌, refl, sym, ap, ◌∙◌}
use mathlib.Core.Bool.{Bool, true, false, cond, ◌||◌}
use mathlib.Core.List.{List}
use native.Mathlib.Omega.{arith}
use borrow.Author.Tests.{lt-leb, le-leb, eqb-true}
use lib.ListN.{length, get_or, drop, length-drop}
use lib.Seq.{drop-drop}
use Rattle.clock.specs.of_fixed.Fields.{all}
use Rattle.clock.proofs.of_fixed.Tests.{fails}
use Rattle.timestamp.specs.Timestamp.{year_of, month_of, day_of, date_tests, hour_of, minute_of, second_of, clock_tests, has_point, places, fraction_tests}
use Rattle.timestamp.specs.Timestamp.{nanos_of, fraction_width, is_utc, offset_tests, offset_of, tail, zone, timestamp_tests, is_timestamp}
use Rattle.clock.specs.inside.Leaves.{clock_of}
use Rattle.timestamp.specs.inside.Leaves.{date_of, fraction_of, zone_of, form_of}
use Rattle.std.specs.Prelude.{Some, None}
use Rattle.timestamp.proofs.Fractions.{places-run, point-run}

-- what an answer by a test tells of the test
some-told : {A : Type 0} (b : Bool) (x r : A) → Some r ≡ cond b (Some x) None → (b ≡ true) × (r ≡ x)
some-told true x r e = (refl, cc)
some-told false x r e = let k : ◌≡◌ {A = ℕ} 0 1 = cc in absurd (omega arith)

none-told : {A : Type 0} (b : Bool) (x : A) → None ≡ cond b (Some x) None → b ≡ false
none-told true x e = let k : ◌≡◌ {A = ℕ} 0 1 = cc in absurd (omega arith)
none-told false x e = refl

module _ (s : List ℕ) where
  date-none : None ≡ date_of s → all (date_tests s) ≡ false
  unfolding date_of
  date-none e = none-told (all (date_tests s)) (year_of s, month_of s, day_of s) e

  date-some : (d : ℕ × ℕ × ℕ) → Some d ≡ date_of s → (all (date_tests s) ≡ true) × (d ≡ (year_of s, month_of s, day_of s))
  unfolding date_of
  date-some d e = some-told (all (date_tests s)) (year_of s, month_of s, day_of s) d e

  clock-none : None ≡ clock_of s → all (clock_tests s) ≡ false
  unfolding clock_of
  clock-none e = none-told (all (clock_tests s)) (hour_of s, minute_of s, second_of s) e

  clock-some : (c : ℕ × ℕ × ℕ) → Some c ≡ clock_of s → (all (clock_tests s) ≡ true) × (c ≡ (hour_of s, minute_of s, second_of s))
  unfolding clock_of
  clock-some c e = some-told (all (clock_tests s)) (hour_of s, minute_of s, second_of s) c e

  fraction-not : None ≡ fraction_of s → all (fraction_tests s) ≡ false
  unfolding fraction_of
  fraction-not e = none-told (all (fraction_tests s)) (nanos_of s, fraction_width s) e

  fraction-some : (f : ℕ × ℕ) → Some f ≡ fraction_of s → (all (fraction_tests s) ≡ true) × (f ≡ (nanos_of s, fraction_width s))
  unfolding fraction_of
  fraction-some f e = some-told (all (fraction_tests s)) (nanos_of s, fraction_width s) f e

  zone-none : None ≡ zone_of s → (is_utc s || all (offset_tests s)) ≡ false
  unfolding zone_of
  zone-none e = none-told (is_utc s || all (offset_tests s)) (offset_of s) e

  zone-some : (o : ℕ) → Some o ≡ zone_of s → ((is_utc s || all (offset_tests s)) ≡ true) × (o ≡ offset_of s)
  unfolding zone_of
  zone-some o e = some-told (is_utc s || all (offset_tests s)) (offset_of s) o e

  pub width-most : fraction_width s ≤ length s
  width-most = go (has_point s) refl
    where
      go : (b : Bool) → has_point s ≡ b → cond b (places s + 1) 0 ≤ length s
      go true h = let p = eqb-true (get_or s 0 0) 0x2E h in omega (arith, places-run s p, point-run s p)
      go false h = omega arith

module _ (s : List ℕ) where
  wrong : (k : ℕ) → get_or (timestamp_tests s) k true ≡ false → None ≡ form_of s
  unfolding form_of is_timestamp
  wrong k h = rw (fails (timestamp_tests s) k h)

  pub form-short : length s < 20 → None ≡ form_of s
  form-short h = wrong 0 (lt-leb 20 (length s) h)

  pub form-date : None ≡ date_of s → None ≡ form_of s
  form-date e = wrong 1 (date-none s e)

  pub form-clock : None ≡ clock_of s → None ≡ form_of s
  form-clock e = wrong 2 (clock-none s e)

  pub form-fraction : None ≡ fraction_of (tail s) → None ≡ form_of s
  form-fraction e = wrong 3 (fraction-not (tail s) e)

  module _ (n w : ℕ) (ew : Some (n, w) ≡ fraction_of (tail s)) where
    width_is : w ≡ fraction_width (tail s)
    width_is = ap (λ (x : ℕ × ℕ). x.1) (fraction-some (tail s) (n, w) ew).1

    -- the offset begins within the text
    pub form-width : 20 ≤ length s → 19 + w ≤ length s
    form-width h = omega (arith, width_is, width-most (tail s), length-drop 19 s)

    zone-is : drop (19 + w) s ≡ zone s
    zone-is = sym (drop-drop w 19 s) ∙ ap (λ (k : ℕ). drop k (tail s)) width_is

    pub form-zone : None ≡ zone_of (drop (19 + w) s) → None ≡ form_of s
    form-zone e = wrong 4 (zone-none (zone s) (e ∙ ap zone_of zone-is))

    pub form-right : (y m d h i x o : ℕ) → 20 ≤ length s → Some (y, m, d) ≡ date_of s → Some (h, i, x) ≡ clock_of s → Some o ≡ zone_of (drop (19 + w) s)
        → Some (record { year = y; month = m; day = d; hour = h; minute = i; second = x; nanos = n; offset = o }) ≡ form_of s
    unfolding form_of is_timestamp
    form-right y m d h i x o l ed ec ez =
        let pd = date-some s (y, m, d) ed in
        let pc = clock-some s (h, i, x) ec in
        let pf = fraction-some (tail s) (n, w) ew in
        let pz = zone-some (zone s) o (ez ∙ ap zone_of zone-is) in
        let ey : y ≡ year_of s = ap (λ (t : ℕ × ℕ × ℕ). t.0) pd.1 in
        let em : m ≡ month_of s = ap (λ (t : ℕ × ℕ × ℕ). t.1) pd.1 in
        let e3 : d ≡ day_of s = ap (λ (t : ℕ × ℕ × ℕ). t.2) pd.1 in
        let eh : h ≡ hour_of s = ap (λ (t : ℕ × ℕ × ℕ). t.0) pc.1 in
        let ei : i ≡ minute_of s = ap (λ (t : ℕ × ℕ × ℕ). t.1) pc.1 in
        let ex : x ≡ second_of s = ap (λ (t : ℕ × ℕ × ℕ). t.2) pc.1 in
        let en : n ≡ nanos_of (tail s) = ap (λ (t : ℕ × ℕ). t.0) pf.1 in
        rw (ey, em, e3, eh, ei, ex, en, pz.1, le-leb 20 (length s) l, pd.0, pc.0, pf.0, pz.0)
