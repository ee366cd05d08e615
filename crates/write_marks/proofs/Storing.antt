-- An entry put behind the others. Assumes nothing.
use Prim.Native.Nat.{ℕ, ◌+◌, ◌-◌, ◌*◌, ◌≤◌, ◌<◌}
use mathlib.Core.Path.{◌≡◌, refl, sym, ap, ◌∙◌}
use mathlib.Core.List.{List, [], ◌∷◌, ◌++◌}
use mathlib.Core.Bool.{Bool, true, false, cond, ◌&&◌, and-eq-true_iff}
use native.Mathlib.Omega.{arith}
use borrow.Author.Tests.{leb-true, leb-false, ltb-true, le-leb, lt-leb}
use lib.Dec.{leb, ltb}
use lib.ListN.{length, length-append}
use Rattle.std.specs.Prelude.{Option, Some, None}
use Rattle.write_codes.specs.of_area.Answer.{gives, refuses}
use Rattle.write_bytes.specs.of_list_text.inside.Behind.{Filled, filled, behind, Puts}
use Rattle.write_bytes.proofs.of_list_text.Putting.{more}
use Rattle.write_form.specs.of_write_table.Laid.{entry, pair, entry_words, pair_words, place}
use Rattle.write_form.specs.of_write_table.inside.Putting.{Held, none, some, over, table_room, byte_room, entry_limits, pair_limits, with_entry, with_pair, put, Areas, held, Wrote}
use Rattle.write_form.proofs.of_write_table.Writing.{wrote_one}
use Rattle.write_codes.specs.of_refusal.declared.Cause.TheVariants as cause

-- ---- what a text that was put says of the area
module _ (k : ℕ) (out f : List ℕ) where
  answered : {t : Filled} → Puts (filled (Some k) out) f t → t ≡ (cond (leb (length f) (length out - k)) (gives (k + length f)) (refuses cause.OutputFull), over out k f)
  unfolding behind
  answered p = p.same

  pub put-says : {e : ℕ} {out' : List ℕ} → Puts (filled (Some k) out) f (filled (Some e) out') → (leb (length f) (length out - k) ≡ true) × (e ≡ k + length f) × (out' ≡ over out k f)
  put-says {e} {out'} p = go (leb (length f) (length out - k)) refl (ap (λ (x : Filled). x.0) (answered p)) (ap (λ (x : Filled). x.1) (answered p))
    where
      go : (b : Bool) → leb (length f) (length out - k) ≡ b → gives e ≡ cond b (gives (k + length f)) (refuses cause.OutputFull)
          → out' ≡ over out k f → (leb (length f) (length out - k) ≡ true) × (e ≡ k + length f) × (out' ≡ over out k f)
      go true u q o = (u, (cc), o)
      go false u q o = let z : ◌≡◌ {A = ℕ} 0 1 = cc in absurd (omega arith)

  pub full-says : {out' : List ℕ} → Puts (filled (Some k) out) f (filled None out') → leb (length f) (length out - k) ≡ false
  full-says {out'} p = go (leb (length f) (length out - k)) refl (ap (λ (x : Filled). x.0) (answered p))
    where
      go : (b : Bool) → leb (length f) (length out - k) ≡ b → refuses cause.OutputFull ≡ cond b (gives (k + length f)) (refuses cause.OutputFull) → leb (length f) (length out - k) ≡ false
      go true u q = let z : ◌≡◌ {A = ℕ} 0 1 = cc in absurd (omega arith)
      go false u q = u

-- nothing is put where something didn't fit before
pub never-put : (out f : List ℕ) {out' : List ℕ} (n : ℕ) → Puts (filled None out) f (filled (Some n) out') → ⊥
unfolding behind
never-put out f n p = let q = ap (λ (x : Filled). x.0) p.same in let z : ◌≡◌ {A = ℕ} 0 1 = cc in omega arith

-- ---- the limits
pub entry-limits : (e b a n : ℕ) → entry_limits e b a n ≡ true → (e < 65536) × (b ≤ 16777216) × (a + n ≤ 65536)
entry-limits e b a n t =
    let p = (and-eq-true_iff (ltb e 65536) (leb b 16777216 && leb (a + n) 65536)).0 t in
    let q = (and-eq-true_iff (leb b 16777216) (leb (a + n) 65536)).0 p.1 in
    (ltb-true e 65536 p.0, leb-true b 16777216 q.0, leb-true (a + n) 65536 q.1)

pub pair-limits : (a b : ℕ) → pair_limits a b ≡ true → (a < 65536) × (b ≤ 16777216)
pair-limits a b t =
    let p = (and-eq-true_iff (ltb a 65536) (leb b 16777216)).0 t in
    (ltb-true a 65536 p.0, leb-true b 16777216 p.1)

-- ---- one item
cond-all : {A : Type 0} (x y : A) (a b c : Bool) → a ≡ true → b ≡ true → c ≡ true → cond (a && (b && c)) x y ≡ x
cond-all x y a b c p q r = rw (p, q, r) refl

cond-first : {A : Type 0} (x y : A) (a b : Bool) → a ≡ false → cond (a && b) x y ≡ y
cond-first x y a b p = rw p refl

cond-second : {A : Type 0} (x y : A) (a b c : Bool) → b ≡ false → cond (a && (b && c)) x y ≡ y
cond-second x y true b c p = rw p refl
cond-second x y false b c p = refl

cond-third : {A : Type 0} (x y : A) (a b c : Bool) → c ≡ false → cond (a && (b && c)) x y ≡ y
cond-third x y true true c p = rw p refl
cond-third x y true false c p = refl
cond-third x y false b c p = refl

-- the areas of a table
abbrev areas : ℕ → Option ℕ → ℕ → ℕ → List ℕ → List ℕ → List ℕ → Areas
areas lv m e a ev at by = record { mark = m; form = 0; level = lv; events = e; attributes = a; event_area = ev; attribute_area = at; byte_area = by }

module _ (lv : ℕ) (m to : Option ℕ) (from e a kind n : ℕ) (ev at by by' s : List ℕ) (p : m ≡ Some from) (w : Puts (filled m by) s (filled to by')) where
  abbrev h : Held
  h = record { events = e; attributes = a; bytes = from; event_area = ev; attribute_area = at; byte_area = by }

  begun : (t : Areas) → held t ≡ put h (entry kind s n) → Wrote (areas lv m e a ev at by) (entry kind s n ∷ []) t
  begun t q = wrote_one (areas lv m e a ev at by) t (entry kind s n) (rw p refl) q

  was : Puts (filled (Some from) by) s (filled to by')
  was = rw p at w

  unfoldable limits : Bool
  limits = entry_limits e (from + length s) a n

  -- its bytes didn't fit
  pub no_bytes : (t : Areas) → to ≡ None → t.mark ≡ None → Wrote (areas lv m e a ev at by) (entry kind s n ∷ []) t
  unfolding put limits
  no_bytes t q f = begun t (rw f (sym (cond-third (some (with_entry h kind s n)) none limits (table_room e ev) (byte_room from (length s) by) (full-says from by s (rw q at was)))))

  module _ (end : ℕ) (q : to ≡ Some end) where
    says : (leb (length s) (length by - from) ≡ true) × (end ≡ from + length s) × (by' ≡ over by from s)
    says = put-says from by s (rw q at was)

    -- it isn't within the limits
    pub no-limits : (t : Areas) → entry_limits e end a n ≡ false → t.mark ≡ None → Wrote (areas lv m e a ev at by) (entry kind s n ∷ []) t
    unfolding put limits
    no-limits t l f =
        begun t (rw f (sym (cond-first (some (with_entry h kind s n)) none limits (table_room e ev && byte_room from (length s) by) (ap (λ (x : ℕ). entry_limits e x a n) (sym says.1) ∙ l))))

    abbrev words : List ℕ
    words = kind ∷ place (end - from) from ∷ (end - from) ∷ place n a ∷ n ∷ []

    same-words : words ≡ entry_words a from kind s n
    same-words =
        let z = says.1 in
        let d : end - from ≡ length s = omega arith in
        rw d refl

    -- the words as the code makes them: numbers that are no words would be 0
    pub entry-words : (d start len first count : ℕ) → entry_limits e end a n ≡ true → d ≡ end - from → (from ≤ 4294967295 → start ≡ place d from)
        → (d ≤ 4294967295 → len ≡ d) → (a ≤ 4294967295 → first ≡ place n a) → (n ≤ 4294967295 → count ≡ n) → kind ∷ start ∷ len ∷ first ∷ count ∷ [] ≡ words
    entry-words d start len first count l u x y z c =
        let i = entry-limits e end a n l in
        let j = says.1 in
        let b = i.1 in
        let g = i.2 in
        rw (x (omega arith), y (omega arith), z (omega arith), c (omega arith), u) refl

    -- its words didn't fit
    pub no-entry : (t : Areas) (ev' : List ℕ) → Puts (filled (Some (e * 5)) ev) words (filled None ev') → t.mark ≡ None → Wrote (areas lv m e a ev at by) (entry kind s n ∷ []) t
    unfolding put limits
    no-entry t ev' v f = begun t (rw f (sym (cond-second (some (with_entry h kind s n)) none limits (table_room e ev) (byte_room from (length s) by) (full-says (e * 5) ev words v))))

    pub entry-stored : (ev' : List ℕ) (u : ℕ) → entry_limits e end a n ≡ true → Puts (filled (Some (e * 5)) ev) words (filled (Some u) ev')
        → Wrote (areas lv m e a ev at by) (entry kind s n ∷ []) (areas lv (Some end) (e + 1) a ev' at by')
    unfolding put limits
    entry-stored ev' u l v =
        let k = put-says (e * 5) ev words v in
        let o : ev' ≡ over ev (e * 5) (entry_words a from kind s n) = (k.2 ∙ ap (over ev (e * 5)) same-words) in
        let y = says.1 in
        let z = says.2 in
        let f : put h (entry kind s n) ≡ some (with_entry h kind s n) =
        cond-all (some (with_entry h kind s n)) none limits (table_room e ev) (byte_room from (length s) by) (ap (λ (x : ℕ). entry_limits e x a n) (sym says.1) ∙ l) k.0 says.0 in
        begun (areas lv (Some end) (e + 1) a ev' at by') (rw (y, z, o) (sym f))

-- ---- the limits, as they are tested
leb-back : (a n r : ℕ) → n ≤ r → leb a (r - n) ≡ leb (a + n) r
leb-back a n r h = go (leb a (r - n)) refl
  where
    go : (t : Bool) → leb a (r - n) ≡ t → t ≡ leb (a + n) r
    go true e = let l = leb-true a (r - n) e in sym (le-leb (a + n) r (omega arith))
    go false e = let l = leb-false a (r - n) e in sym (lt-leb (a + n) r (omega arith))

pub limits-within : (e b a n : ℕ) → n ≤ 65536 → (ltb e 65536 && (leb b 16777216 && leb a (65536 - n))) ≡ entry_limits e b a n
limits-within e b a n h = rw (leb-back a n 65536 h) refl

pub limits-over : (e b a n : ℕ) → 65536 < n → false ≡ entry_limits e b a n
limits-over e b a n h = rw (lt-leb (a + n) 65536 (omega arith)) (go (ltb e 65536) (leb b 16777216))
  where
    go : (x y : Bool) → false ≡ (x && (y && false))
    go true true = refl
    go true false = refl
    go false y = refl

-- ---- an attribute: its key was put up to mid, its value from there on
module _ (lv : ℕ) (m mid to : Option ℕ) (from e a : ℕ) (ev at by by' by'' key value : List ℕ) (p : m ≡ Some from)
    (w : Puts (filled m by) key (filled mid by')) (v : Puts (filled mid by') value (filled to by'')) where
  abbrev h₂ : Held
  h₂ = record { events = e; attributes = a; bytes = from; event_area = ev; attribute_area = at; byte_area = by }

  begun₂ : (t : Areas) → held t ≡ put h₂ (pair key value) → Wrote (areas lv m e a ev at by) (pair key value ∷ []) t
  begun₂ t q = wrote_one (areas lv m e a ev at by) t (pair key value) (rw p refl) q

  unfoldable limits₂ : Bool
  limits₂ = pair_limits a (from + length (key ++ value))

  -- key and value together
  both : Puts (filled (Some from) by) (key ++ value) (filled to by'')
  both = rw p at (more w v)

  -- they didn't fit
  pub no-pair : (t : Areas) → to ≡ None → t.mark ≡ None → Wrote (areas lv m e a ev at by) (pair key value ∷ []) t
  unfolding put limits₂
  no-pair t q f =
      begun₂ t (rw f (sym (cond-third (some (with_pair h₂ key value)) none limits₂ (table_room a at) (byte_room from (length (key ++ value)) by) (full-says from by (key ++ value) (rw q at both)))))

  pub no_key : (t : Areas) → mid ≡ None → t.mark ≡ None → Wrote (areas lv m e a ev at by) (pair key value ∷ []) t
  no_key t q f = go to refl
    where
      go : (x : Option ℕ) → to ≡ x → Wrote (areas lv m e a ev at by) (pair key value ∷ []) t
      go (Some n) r = absurd (never-put by' value n (rw (q, r) at v))
      go None r = no-pair t r f

  module _ (half end : ℕ) (r : mid ≡ Some half) (q : to ≡ Some end) where
    says₁ : (leb (length key) (length by - from) ≡ true) × (half ≡ from + length key) × (by' ≡ over by from key)
    says₁ = put-says from by key (rw (p, r) at w)

    says₂ : (leb (length (key ++ value)) (length by - from) ≡ true) × (end ≡ from + length (key ++ value)) × (by'' ≡ over by from (key ++ value))
    says₂ = put-says from by (key ++ value) (rw q at both)

    pub no-pair-limits : (t : Areas) → pair_limits a end ≡ false → t.mark ≡ None → Wrote (areas lv m e a ev at by) (pair key value ∷ []) t
    unfolding put limits₂
    no-pair-limits t l f = begun₂ t
        (rw f (sym (cond-first (some (with_pair h₂ key value)) none limits₂ (table_room a at && byte_room from (length (key ++ value)) by) (ap (λ (x : ℕ). pair_limits a x) (sym says₂.1) ∙ l))))

    abbrev words₂ : List ℕ
    words₂ = 0 ∷ place (half - from) from ∷ (half - from) ∷ place (end - half) half ∷ (end - half) ∷ []

    same-words₂ : words₂ ≡ pair_words from key value
    same-words₂ =
        let y = says₁.1 in
        let z = says₂.1 in
        let d : half - from ≡ length key = omega arith in
        let g : end - half ≡ length value = omega (arith, length-append key value) in
        rw (d, g, y) refl

    pub pair-words : (d d' start len start' len' : ℕ) → pair_limits a end ≡ true → d ≡ half - from → d' ≡ end - half → (from ≤ 4294967295 → start ≡ place d from)
        → (d ≤ 4294967295 → len ≡ d) → (half ≤ 4294967295 → start' ≡ place d' half) → (d' ≤ 4294967295 → len' ≡ d') → 0 ∷ start ∷ len ∷ start' ∷ len' ∷ [] ≡ words₂
    pair-words d d' start len start' len' l u u' x y x' y' =
        let i = pair-limits a end l in
        let j = says₁.1 in
        let k = says₂.1 in
        let b = i.1 in
        let g = length-append key value in
        rw (x (omega arith), y (omega arith), x' (omega arith), y' (omega arith), u, u') refl

    pub no-pair-words : (t : Areas) (at' : List ℕ) → Puts (filled (Some (a * 5)) at) words₂ (filled None at') → t.mark ≡ None → Wrote (areas lv m e a ev at by) (pair key value ∷ []) t
    unfolding put limits₂
    no-pair-words t at' x f =
        begun₂ t (rw f (sym (cond-second (some (with_pair h₂ key value)) none limits₂ (table_room a at) (byte_room from (length (key ++ value)) by) (full-says (a * 5) at words₂ x))))

    pub pair-stored : (at' : List ℕ) (u : ℕ) → pair_limits a end ≡ true → Puts (filled (Some (a * 5)) at) words₂ (filled (Some u) at')
        → Wrote (areas lv m e a ev at by) (pair key value ∷ []) (areas lv (Some end) e (a + 1) ev at' by'')
    unfolding put limits₂
    pair-stored at' u l x =
        let k = put-says (a * 5) at words₂ x in
        let o : at' ≡ over at (a * 5) (pair_words from key value) = (k.2 ∙ ap (over at (a * 5)) same-words₂) in
        let y = says₂.1 in
        let z = says₂.2 in
        let f : put h₂ (pair key value) ≡ some (with_pair h₂ key value) =
        cond-all (some (with_pair h₂ key value)) none limits₂ (table_room a at) (byte_room from (length (key ++ value)) by) (ap (λ (n : ℕ). pair_limits a n) (sym says₂.1) ∙ l) k.0 says₂.0 in
        begun₂ (areas lv (Some end) e (a + 1) ev at' by'') (rw (y, z, o) (sym f))
