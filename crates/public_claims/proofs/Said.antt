-- An element's record shows what the public machine has read from its attributes. Assumes nothing.
use Prim.Native.Nat.{ℕ, zero, suc, ◌+◌, ◌/◌, ◌%◌, min, ◌≤◌, ◌<◌}
use mathlib.Core.Path.{◌≡◌, refl, sym, ap, ap₂, ◌∙◌, subst}
use mathlib.Core.List.{List, [], ◌∷◌, ◌++◌, append_assoc, append-nil}
use mathlib.Core.Bool.{Bool, true, false}
use mathlib.Core.Option.{Option}
use mathlib.Core.Logic.{◌⊎◌, inl, inr}
use native.Mathlib.Omega.{arith}
use lib.Dec.{leb}
use lib.ListN.{length, get_or}
use Rattle.read_report.specs.of_utf8.Utf8.{utf8}
use Rattle.read_report.specs.of_integer.Integer.{is_integer}
use Rattle.read_report.specs.of_time.Time.{seconds_of, nanos_of, is_time}
use Rattle.read_report.specs.of_text.Value.{value_text}
use Rattle.read_report.specs.of_uuids.declared.Words.{Words}
use Rattle.read_report.specs.of_timestamp.declared.Moment.{Moment}
use Rattle.read_report.specs.of_table.Event.{Attribute}
use Rattle.list_text.specs.of_tree_report.Report.{Text}
use Rattle.read_report.specs.of_tree_record.Bits as bit
use Rattle.list_text.specs.of_tree_report.Fields.{kind_of, has_bit, text_at, first, second, time, counts}
use Rattle.read_report.specs.of_read_element.Outcome.{Place, Rooms}
use Rattle.read_report.specs.of_read_keys.declared.Role.{Role}
use Rattle.read_report.specs.of_read_keys.declared.Role.TheVariants as role
use Rattle.read_report.specs.of_tree_record.Record.{marked}
use Rattle.read_report.specs.of_tree_put.Put.{put_text, put_count_of, put_uuid, put_moment, put_time, put_pair, blank}
use Rattle.read_report.specs.of_read_element.Attributes.{Given, keep, by_role, read_text, read_extra, old_extra, new_extra, changed, extra_kind, place_of}
use Rattle.public_claims.specs.inside.PublicMachine.{Said, integer_value, Node, Sort, a_report, a_suite, a_case_of, a_main, a_run, unlisted, or_empty}
use Rattle.public_claims.proofs.Holding.{Holds, accept, bind, needing, choosing, anything, answered}
use Rattle.read_report.proofs.Words.{Keeps, keeps-all, keeps_then, marked-keeps, pair_keeps, text-keeps, words-keep}
use Rattle.public_claims.proofs.View.{look_as, look, looks, look-outputs, looks_append, looks-changed, keeps-text, keeps-first, keeps-second, keeps-time, keeps-counts, sort-dead}
use Rattle.read_report.specs.of_refusal.declared.Cause.TheVariants as cause

-- ---- what an attribute does to what is given
abbrev pub Added : Given → Given → Type 0
Added g h = (v : List ℕ) × (h.texts ≡ g.texts ++ v)

-- a record has words, and no flaky bit: reading never sets it
abbrev pub Firm : List ℕ → Type 0
Firm r = (1 ≤ length r) × (has_bit bit.flaky r ≡ false)

abbrev pub Solid : List (List ℕ) → Type 0
Solid [] = Unit {0}
Solid (r ∷ rs) = Firm r × Solid rs

pub keeps_firm : {k lo hi : ℕ} {r s : List ℕ} → Keeps k lo hi r s → (9 ≡ k → ⊥) → Firm r → Firm s
keeps_firm c n h = (subst (λ (x : ℕ). 1 ≤ x) (sym c.long) h.0, c.bits 9 n ∙ h.1)

pub solid_append : (rs ss : List (List ℕ)) → Solid rs → Solid ss → Solid (rs ++ ss)
solid_append [] ss h j = j
solid_append (r ∷ rs) ss h j = (h.0, solid_append rs ss h.1 j)

pub solid-changed : (i : ℕ) (f : List ℕ → List ℕ) (rs : List (List ℕ)) → ((r : List ℕ) → Firm r → Firm (f r)) → Solid rs → Solid (changed i f rs)
solid-changed i f [] e h = tt
solid-changed zero f (r ∷ rs) e h = (e r h.0, h.1)
solid-changed (suc i) f (r ∷ rs) e h = (h.0, solid-changed i f rs e h.1)

-- records that show nothing
abbrev pub Hidden : List (List ℕ) → Type 0
Hidden rs = ((t : List ℕ) → looks t rs ≡ []) × Solid rs

unfoldable pub Effect : ℕ → Role → List ℕ → Given → Given → Type 0
Effect kind (role.Text o k) v g h =
    (h.main ≡ put_text o k (length g.texts) (length (value_text v)) g.main) × (h.texts ≡ g.texts ++ value_text v) × (h.extras ≡ g.extras)
Effect kind (role.Count o) v g h = (h.main ≡ put_count_of o (integer_value v) g.main) × (h.texts ≡ g.texts ++ []) × (h.extras ≡ g.extras)
Effect kind (role.Number o k) v g h = (h.main ≡ marked k (put_count_of o (integer_value v) g.main)) × (h.texts ≡ g.texts ++ []) × (h.extras ≡ g.extras)
Effect kind role.Uuid v g h = ((w : Words) × (h.main ≡ put_uuid w g.main)) × (h.texts ≡ g.texts ++ []) × (h.extras ≡ g.extras)
Effect kind (role.Timestamp kept) v g h =
    ((m : Moment) × (h.main ≡ keep kept (put_moment m g.main) g.main)) × (h.texts ≡ g.texts ++ []) × (h.extras ≡ g.extras)
Effect kind (role.Time kept) v g h =
    (h.main ≡ keep kept (put_time (seconds_of v, nanos_of v) g.main) g.main) × (h.texts ≡ g.texts ++ []) × (h.extras ≡ g.extras)
Effect kind role.Extra v g h = (h.main ≡ g.main) × Added g h × (2 ≤ kind → Hidden g.extras → Hidden h.extras)
Effect kind role.Ignored v g h = (h.main ≡ g.main) × (h.texts ≡ g.texts ++ []) × (h.extras ≡ g.extras)

hidden-kind : (r : List ℕ) → 13 ≤ kind_of r → (t : List ℕ) → look t r ≡ []
hidden-kind r h t = ap (λ (σ : Sort). look_as σ t r) (sort-dead (kind_of r) h)

-- an extra that replaces a value stays hidden
changed-hidden : (i a b : ℕ) (rs : List (List ℕ)) → Hidden rs → Hidden (changed i (put_pair 4 a b) rs)
changed-hidden i a b rs h = (
  (λ t.
      looks-changed t i (put_pair 4 a b) rs
      (look-outputs (pair_keeps 1 4 a b (get_or rs i []) (omega arith)) t (omega arith) (omega arith) (λ e. omega arith) (λ e. omega arith) (λ e. omega arith) (λ e. omega arith))
      ∙ h.0 t),
  solid-changed i (put_pair 4 a b) rs (λ r h. keeps_firm (pair_keeps 1 4 a b r (omega arith)) (λ e. omega arith) h) h.1,
)

more-hidden : (rs : List (List ℕ)) (r : List ℕ) → (13 ≤ kind_of r) × Firm r → Hidden rs → Hidden (rs ++ (r ∷ []))
more-hidden rs r k h = (
  (λ t. looks_append t rs (r ∷ []) ∙ ap₂ (λ (x y : List Node). x ++ (y ++ [])) (h.0 t) (hidden-kind r k.0 t)),
  solid_append rs (r ∷ []) h.1 (k.1, tt),
)

extra-kind : (kind a b c d : ℕ) → 2 ≤ kind →
    let r : List ℕ = put_text 4 1 a b (put_text 2 0 c d (blank (extra_kind kind))) in (13 ≤ kind_of r) × Firm r
extra-kind kind a b c d w =
    let inner : List ℕ = put_text 2 0 c d (blank (extra_kind kind)) in
    let outer : Keeps 1 4 6 inner (put_text 4 1 a b inner) = text-keeps 1 4 a b inner (omega arith) in
    let first : Keeps 0 2 4 (blank (extra_kind kind)) inner = text-keeps 0 2 c d (blank (extra_kind kind)) (omega arith) in (
      subst (λ (k : ℕ). 13 ≤ k) (sym (outer.kind ∙ first.kind)) (omega arith),
      keeps_firm outer (λ e. omega arith) (keeps_firm first (λ e. omega arith) (omega arith, refl)),
    )

module _ (rooms : Rooms) (p : Place) (used kind : ℕ) where
  text-effect : (q : Place) (o k : ℕ) (v : List ℕ) (g : Given) → Holds (Effect kind (role.Text o k) v g) (read_text rooms q o k v g)
  unfolding read_text Effect
  text-effect q o k v g = bind (anything _) λ _ _. needing _ _ _ (accept (refl, refl, refl))

  old_effect : (v : List ℕ) (i : ℕ) (w : List ℕ) (g : Given) → Holds (Effect kind role.Extra w g) (old_extra rooms p v i g)
  unfolding old_extra Effect
  old_effect v i w g = needing _ _ _ (accept (refl, (v, refl), λ n h. changed-hidden i (length g.texts) (length v) g.extras h))

  new-effect : (k v w : List ℕ) (g : Given) → Holds (Effect kind role.Extra w g) (new_extra rooms p used kind k v g)
  unfolding new_extra Effect
  new-effect k v w g =
      needing _ _ _
      (needing _ _ _
      (needing _ _ _
      (accept (
        refl,
        (k ++ v, append_assoc g.texts k v),
        λ n h. more-hidden g.extras (put_text 4 1 (length (g.texts ++ k)) (length v) (put_text 2 0 (length g.texts) (length k) (blank (extra_kind kind))))
            (extra-kind kind (length (g.texts ++ k)) (length v) (length g.texts) (length k) n) h,
      ))))

  extra-effect : (x : Attribute) (g : Given) → Holds (Effect kind role.Extra x.value g) (read_extra rooms p used kind x g)
  unfolding read_extra
  extra-effect x g =
      bind (anything _) λ _ _.
      bind (anything _) λ _ _.
      (let i = place_of g.texts (value_text x.key) g.extras in
      choosing (leb (length g.extras) i) (new-effect (value_text x.key) (value_text x.value) x.value g) (old_effect (value_text x.value) i x.value g))

  pub effect : (key : ℕ) (ρ : Role) (x : Attribute) (g : Given) → Holds (Effect kind ρ x.value g) (by_role rooms p used kind key ρ x g)
  unfolding by_role Effect
  effect key (role.Text o k) x g = text-effect _ o k x.value g
  effect key (role.Count o) x g =
      bind (answered _ (utf8 x.value) (is_integer x.value) (integer_value x.value) cause.BadInteger cause.NotUtf8)
      λ n e. accept (ap (λ (n : ℕ). put_count_of o n g.main) e, sym (append-nil g.texts), refl)
  effect key (role.Number o k) x g =
      bind (answered _ (utf8 x.value) (is_integer x.value) (integer_value x.value) cause.BadInteger cause.NotUtf8)
      λ n e. accept (ap (λ (n : ℕ). marked k (put_count_of o n g.main)) e, sym (append-nil g.texts), refl)
  effect key role.Uuid x g = bind (anything _) λ w _. accept ((w, refl), sym (append-nil g.texts), refl)
  effect key (role.Timestamp kept) x g = bind (anything _) λ m _. accept ((m, refl), sym (append-nil g.texts), refl)
  effect key (role.Time kept) x g =
      bind (answered _ (utf8 x.value) (is_time x.value) (seconds_of x.value, nanos_of x.value) cause.BadTime cause.NotUtf8)
      λ t e. accept (ap (λ (t : ℕ × ℕ). keep kept (put_time t g.main) g.main) e, sym (append-nil g.texts), refl)
  effect key role.Extra x g = extra-effect x g
  effect key role.Ignored x g = accept (refl, sym (append-nil g.texts), refl)

-- ---- the record's kind and length, the texts and the extras
pub record Base (kind : ℕ) (t : List ℕ) (g : Given) : Type 0 where
  pub added : List ℕ
  pub grown : g.texts ≡ t ++ added
  pub long : length g.main ≡ 32
  pub kindly : kind_of g.main ≡ kind
  pub plain : has_bit bit.flaky g.main ≡ false
  pub hidden : Hidden g.extras

-- extras are read by suite and case only
abbrev pub Wide : ℕ → Role → Type 0
Wide kind (role.Text o k) = (2 ≤ o) × (9 ≡ min k 31 → ⊥)
Wide kind (role.Count o) = 2 ≤ o
Wide kind (role.Number o k) = (2 ≤ o) × (k < 9)
Wide kind role.Uuid = Unit {0}
Wide kind (role.Timestamp b) = Unit {0}
Wide kind (role.Time b) = Unit {0}
Wide kind role.Extra = 2 ≤ kind
Wide kind role.Ignored = Unit {0}

pub uuid-keeps : (w : Words) (r : List ℕ) → Keeps 1 4 8 r (put_uuid w r)
uuid-keeps w r = keeps_then (words-keep 1 4 8 4 (w.a ∷ w.b ∷ w.c ∷ w.d ∷ []) r (omega arith) (omega arith) (omega arith)) (marked-keeps 1 4 8 _)

pub moment-keeps : (m : Moment) (r : List ℕ) → Keeps 3 8 16 r (put_moment m r)
moment-keeps m r =
    keeps_then (words-keep 3 8 16 8 (m.year ∷ m.month ∷ m.day ∷ m.hour ∷ m.minute ∷ m.second ∷ m.nanos ∷ m.offset ∷ []) r (omega arith) (omega arith) (omega arith))
    (marked-keeps 3 8 16 _)

kept-moment : (b : Bool) (m : Moment) (r : List ℕ) → Keeps 3 8 16 r (keep b (put_moment m r) r)
kept-moment true m r = moment-keeps m r
kept-moment false m r = keeps-all 3 8 16 r

kept-time : (b : Bool) (d : ℕ × ℕ) (r : List ℕ) → Keeps 4 16 18 r (keep b (put_time d r) r)
kept-time true d r = text-keeps 4 16 d.0 d.1 r (omega arith)
kept-time false d r = keeps-all 4 16 18 r

number-keeps : (k o n : ℕ) (r : List ℕ) → 2 ≤ o → Keeps (min k 31) o (o + 2) r (marked k (put_count_of o n r))
number-keeps k o n r h = text-keeps k o (n % 4294967296) (n / 4294967296) r h

pub below-nine : (k : ℕ) → k < 9 → 9 ≡ min k 31 → ⊥
below-nine k h e = omega arith

module _ {kind : ℕ} {t : List ℕ} {g : Given} (v : List ℕ) (h : Given) (b : Base kind t g) where
  grown-base : {k lo hi : ℕ} {r : List ℕ} → Keeps k lo hi g.main r → (9 ≡ k → ⊥) → h.main ≡ r → (u : List ℕ) → h.texts ≡ g.texts ++ u → Hidden h.extras → Base kind t h
  grown-base c n e u f d =
      record {
        added = b.added ++ u;
        grown = f ∙ ap (◌++ u) b.grown ∙ append_assoc t b.added u;
        long = ap length e ∙ c.long ∙ b.long;
        kindly = ap kind_of e ∙ c.kind ∙ b.kindly;
        plain = ap (has_bit bit.flaky) e ∙ c.bits 9 n ∙ b.plain;
        hidden = d;
      }

  same-hidden : h.extras ≡ g.extras → Hidden h.extras
  same-hidden e = subst Hidden (sym e) b.hidden

  pub base-effect : (ρ : Role) → Wide kind ρ → Effect kind ρ v g h → Base kind t h
  unfolding Effect
  base-effect (role.Text o k) w e = grown-base (text-keeps k o _ _ g.main w.0) w.1 e.0 (value_text v) e.1 (same-hidden e.2)
  base-effect (role.Count o) w e = grown-base (pair_keeps 1 o _ _ g.main w) (λ z. omega arith) e.0 [] e.1 (same-hidden e.2)
  base-effect (role.Number o k) w e = grown-base (number-keeps k o _ g.main w.0) (below-nine k w.1) e.0 [] e.1 (same-hidden e.2)
  base-effect role.Uuid w e = grown-base (uuid-keeps e.0.0 g.main) (λ z. omega arith) e.0.1 [] e.1 (same-hidden e.2)
  base-effect (role.Timestamp x) w e = grown-base (kept-moment x e.0.0 g.main) (λ z. omega arith) e.0.1 [] e.1 (same-hidden e.2)
  base-effect (role.Time x) w e = grown-base (kept-time x _ g.main) (λ z. omega arith) e.0 [] e.1 (same-hidden e.2)
  base-effect role.Extra w e = grown-base (keeps-all 1 2 2 g.main) (λ z. omega arith) e.0 e.1.0 e.1.1 (e.2 w b.hidden)
  base-effect role.Ignored w e = grown-base (keeps-all 1 2 2 g.main) (λ z. omega arith) e.0 [] e.1 (same-hidden e.2)

-- ---- what the record shows
unfoldable pub Shows : Sort → List ℕ → List ℕ → Said → Type 0
Shows a_report t r s = ((u : List ℕ) → first (t ++ u) r ≡ s.name) × (counts r ≡ s.counts)
Shows a_suite t r s = ((u : List ℕ) → text_at (t ++ u) r 2 ≡ or_empty s.name) × (counts r ≡ s.counts)
Shows a_case_of t r s =
    ((u : List ℕ) → text_at (t ++ u) r 2 ≡ or_empty s.name) × ((u : List ℕ) → second (t ++ u) r ≡ s.classname) × (time r ≡ s.time)
Shows a_main t r s = Unit {0}
Shows a_run t r s = time r ≡ s.time
Shows unlisted t r s = Unit {0}

pub become : (σ : Sort) {t t' r r' : List ℕ} (s : Said) → t' ≡ t → r' ≡ r → Shows σ t r s → Shows σ t' r' s
become σ {t} {t'} {r} {r'} s e f h = subst (λ (x : List ℕ). Shows σ x r' s) (sym e) (subst (λ (x : List ℕ). Shows σ t x s) (sym f) h)

-- fields that stay, with more texts behind
module _ {k lo hi : ℕ} {r r' : List ℕ} (c : Keeps k lo hi r r') (t v : List ℕ) where
  pub stay-first : {n : Option Text} → (0 ≡ k → ⊥) → (3 < lo) ⊎ (hi ≤ 2) → ((u : List ℕ) → first (t ++ u) r ≡ n) → (u : List ℕ) → first ((t ++ v) ++ u) r' ≡ n
  stay-first a b h u = keeps-first c ((t ++ v) ++ u) a b ∙ ap (λ (x : List ℕ). first x r) (append_assoc t v u) ∙ h (v ++ u)

  pub stay-text : {n : Text} → (3 < lo) ⊎ (hi ≤ 2) → ((u : List ℕ) → text_at (t ++ u) r 2 ≡ n) → (u : List ℕ) → text_at ((t ++ v) ++ u) r' 2 ≡ n
  stay-text b h u = keeps-text c ((t ++ v) ++ u) 2 (omega arith) b ∙ ap (λ (x : List ℕ). text_at x r 2) (append_assoc t v u) ∙ h (v ++ u)

  pub stay-second : {n : Option Text} → (5 ≡ k → ⊥) → (19 < lo) ⊎ (hi ≤ 18) → ((u : List ℕ) → second (t ++ u) r ≡ n) → (u : List ℕ) → second ((t ++ v) ++ u) r' ≡ n
  stay-second a b h u = keeps-second c ((t ++ v) ++ u) a b ∙ ap (λ (x : List ℕ). second x r) (append_assoc t v u) ∙ h (v ++ u)

  -- words 4 to 17 of a report or suite
  pub quiet-report : (s : Said) → 4 ≤ lo → hi ≤ 18 → (0 ≡ k → ⊥) → (8 ≡ k → ⊥) → Shows a_report t r s → Shows a_report (t ++ v) r' s
  unfolding Shows
  quiet-report s a b n₀ n₈ h = (stay-first n₀ (inl (omega arith)) h.0, keeps-counts c n₈ (inr b) ∙ h.1)

  pub quiet-suite : (s : Said) → 4 ≤ lo → hi ≤ 18 → (8 ≡ k → ⊥) → Shows a_suite t r s → Shows a_suite (t ++ v) r' s
  unfolding Shows
  quiet-suite s a b n₈ h = (stay-text (inl (omega arith)) h.0, keeps-counts c n₈ (inr b) ∙ h.1)

  -- words 4 to 15 or from 20 on of a case
  pub quiet-case : (s : Said) → 4 ≤ lo → (19 < lo) ⊎ (hi ≤ 16) → (4 ≡ k → ⊥) → (5 ≡ k → ⊥) → Shows a_case_of t r s → Shows a_case_of (t ++ v) r' s
  unfolding Shows
  quiet-case s a (inl b) n₄ n₅ h = (stay-text (inl (omega arith)) h.0, stay-second n₅ (inl b) h.1, keeps-time c n₄ (inl (omega arith)) ∙ h.2)
  quiet-case s a (inr b) n₄ n₅ h = (stay-text (inl (omega arith)) h.0, stay-second n₅ (inr (omega arith)) h.1, keeps-time c n₄ (inr b) ∙ h.2)

  pub quiet-run : (s : Said) → (17 < lo) ⊎ (hi ≤ 16) → (4 ≡ k → ⊥) → Shows a_run t r s → Shows a_run (t ++ v) r' s
  unfolding Shows
  quiet-run s a n₄ h = keeps-time c n₄ a ∙ h
