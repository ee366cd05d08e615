-- A new extra's record, key and value put, against the definition. Assumes nothing.
use Prim.Native.Nat.{ℕ, ◌+◌, ◌-◌, ◌*◌, ◌≤◌, ◌<◌}
use mathlib.Core.Path.{◌≡◌, refl, sym, ap, ◌∙◌}
use mathlib.Core.Bool.{true}
use mathlib.Core.List.{List, [], ◌∷◌, ◌++◌, append_assoc, append-nil}
use native.Mathlib.Omega.{arith}
use borrow.Author.Tests.{le-leb, lt-leb}
use lib.ListN.{length, get_or, set, take, drop, length-append, length-replicate, replicate-append-replicate, length-set, take-append-drop}
use lib.Seq.{take_at, drop_at, set-append_left, length-take-le}
use lib.ListN.{length-drop}
use borrow.Rule.Slice.PartMut.{put_mid}
use Rattle.read_element.specs.of_area.Answer.{gives, refuses}
use Rattle.read_element.specs.of_area.Area.{zeros, placing, laid}
use Rattle.read_element.proofs.of_area.Laying.{length-laid}
use Rattle.read_element.proofs.of_area.Parts.{rest_part, rest_back}
use Rattle.read_element.specs.of_tree_record.Record.{marked}
use Rattle.read_element.specs.of_tree_put.Put.{blank, put_pair, put_text}
use Rattle.read_element.proofs.of_tree_put.Puts.{pair-length, pair-first, pair-second, pair-other, text-length}
use Rattle.read_element.proofs.of_tree_record.Marks.{marked-front, marked-behind, marked_other}
use Rattle.read_element.specs.Outcome.{Place, Rooms, fits}
use Rattle.read_element.specs.Attributes.{Given, extra_kind, new_extra}
use Rattle.read_element.specs.of_utf8.Characters.{joined}
use Rattle.read_element.specs.inside.Held.{moved, Keyed, extra_words, Held, Roomy, Meets}
use Rattle.read_element.specs.inside.Refines.{went}
use Rattle.read_extra_record.proofs.Storing.{end-put, end-full, text-size, Local, pair-local, keyed-more}
use Rattle.read_extra_record.proofs.Extras.{meets-need, meets-refused, behind-main, text-grown, text-room, text-none}
use Rattle.read_element.specs.of_refusal.declared.Cause.TheVariants as cause
use Rattle.read_element.specs.of_refusal.declared.Cause.{Cause}

-- setting a presence bit touches the first record alone
pub marked-local : (k : ℕ) → Local (marked k)
marked-local k r t e =
    sym (take-append-drop 32 (marked k (r ++ t)))
    ∙ ap (λ (x : List ℕ). x ++ drop 32 (marked k (r ++ t))) (marked-front k (r ++ t) 32 (omega arith) ∙ ap (marked k) (take_at r t 32 e))
    ∙ ap (λ (x : List ℕ). marked k r ++ x) (marked-behind k (r ++ t) 32 (omega arith) ∙ drop_at r t 32 e)

-- putting a text's place touches the first record alone
pub text-local : (o k s n : ℕ) → o + 1 < 32 → Local (put_text o k s n)
text-local o k s n h r t e = ap (marked k) (pair-local o s n h r t e) ∙ marked-local k (put_pair o s n r) t (pair-length o s n r ∙ e)

pub words-local : (kind s n s' n' : ℕ) → Local (extra_words kind s n s' n')
words-local kind s n s' n' r t e =
    let a : length (set r 0 kind) ≡ 32 = length-set r 0 kind ∙ e in
    ap (λ (x : List ℕ). put_text 4 1 s' n' (put_text 2 0 s n x)) (set-append_left r t 0 kind (omega arith))
    ∙ ap (put_text 4 1 s' n') (text-local 2 0 s n (omega arith) (set r 0 kind) t a)
    ∙ text-local 4 1 s' n' (omega arith) (put_text 2 0 s n (set r 0 kind)) t (text-length 2 0 s n (set r 0 kind) ∙ a)

-- an extra's record
abbrev made : ℕ → ℕ → ℕ → ℕ → ℕ → List ℕ
made kind s n s' n' = put_text 4 1 s' n' (put_text 2 0 s n (blank kind))

module _ (kind s n s' n' : ℕ) where
  made-length : length (made kind s n s' n') ≡ 32
  made-length = text-length 4 1 s' n' (put_text 2 0 s n (blank kind)) ∙ text-length 2 0 s n (blank kind)

  made-start : get_or (made kind s n s' n') 2 0 ≡ s
  made-start =
      marked_other 1 (put_pair 4 s' n' (put_text 2 0 s n (blank kind))) 2 (omega arith)
      ∙ pair-other 4 s' n' (put_text 2 0 s n (blank kind)) 2 (omega arith) (omega arith)
      ∙ marked_other 0 (put_pair 2 s n (blank kind)) 2 (omega arith)
      ∙ pair-first 2 s n (blank kind) (omega arith)

  made-size : get_or (made kind s n s' n') 3 0 ≡ n
  made-size =
      marked_other 1 (put_pair 4 s' n' (put_text 2 0 s n (blank kind))) 3 (omega arith)
      ∙ pair-other 4 s' n' (put_text 2 0 s n (blank kind)) 3 (omega arith) (omega arith)
      ∙ marked_other 0 (put_pair 2 s n (blank kind)) 3 (omega arith)
      ∙ pair-second 2 s n (blank kind) (omega arith)

  -- made of words that are zero
  made_of : (room : ℕ) → 32 ≤ room → extra_words kind s n s' n' (zeros room) ≡ made kind s n s' n' ++ zeros (room - 32)
  made_of room h =
      let e : room ≡ 32 + (room - 32) = omega arith in
      ap (λ (k : ℕ). extra_words kind s n s' n' (zeros k)) e
      ∙ ap (extra_words kind s n s' n') (sym (replicate-append-replicate {A = ℕ} 32 (room - 32) 0))
      ∙ words-local kind s n s' n' (zeros 32) (zeros (room - 32)) (length-replicate {A = ℕ} 32 0)

pub extras-length : (n : ℕ) (rs : List (List ℕ)) → Keyed n rs → length (joined rs) ≡ length rs * 32
extras-length n [] k = refl
extras-length n (r ∷ rs) k = length-append r (joined rs) ∙ (let i = extras-length n rs k.1.1 in let a = k.0 in omega arith)

joined_snoc : (rs : List (List ℕ)) (r : List ℕ) → joined (rs ++ (r ∷ [])) ≡ joined rs ++ r
joined_snoc [] r = append-nil r
joined_snoc (x ∷ rs) r = ap (λ (l : List ℕ). x ++ l) (joined_snoc rs r) ∙ sym (append_assoc x (joined rs) r)

keyed-snoc : (n : ℕ) (rs : List (List ℕ)) (r : List ℕ) → Keyed n rs → length r ≡ 32 → get_or r 2 0 + get_or r 3 0 ≤ n → Keyed n (rs ++ (r ∷ []))
keyed-snoc n [] r k a b = (a, (b, tt))
keyed-snoc n (x ∷ rs) r k a b = (k.0, (k.1.0, keyed-snoc n rs r k.1.1 a b))

module _ {own text : List ℕ} {extras fill : ℕ} {g : Given} (hd : Held own text extras fill g) where
  -- the element's words: its record, its extras' records, and the room behind them
  pub own-size : length own ≡ 32 + (extras * 32 + hd.room)
  own-size =
      ap length hd.records ∙ length-append g.main (joined g.extras ++ zeros hd.room)
      ∙ (let a = length-append (joined g.extras) (zeros hd.room) in
      let b = extras-length (length g.texts) g.extras hd.keyed in
      let c = length-replicate {A = ℕ} hd.room 0 in
      let d = hd.main-words in
      let e = hd.count in omega arith)

  -- the words with a new extra
  own_new : {ys : List ℕ} (kind s n s' n' : ℕ) → 32 ≤ hd.room → ys ≡ extra_words kind s n s' n' (take (length own - (extras * 32 + 32)) (drop (extras * 32 + 32) own))
      → put_mid (extras * 32 + 32) (length own - (extras * 32 + 32)) own ys ≡ g.main ++ (joined (g.extras ++ (made kind s n s' n' ∷ [])) ++ zeros (hd.room - 32))
  own_new {ys} kind s n s' n' h o =
      let z : List ℕ = joined g.extras ++ zeros hd.room in
      let l : length (joined g.extras) ≡ extras * 32 = extras-length (length g.texts) g.extras hd.keyed ∙ ap (λ (k : ℕ). k * 32) (sym hd.count) in
      rest_back own (extras * 32 + 32) ys
      ∙ ap (λ (x : List ℕ). take (extras * 32 + 32) own ++ x) (o ∙ ap (extra_words kind s n s' n') (rest_part own (extras * 32 + 32)))
      ∙ behind-main (extra_words kind s n s' n') own g.main z (extras * 32) hd.records hd.main-words
      ∙ ap (λ (x : List ℕ). g.main ++ (x ++ extra_words kind s n s' n' (drop (extras * 32) z))) (take_at (joined g.extras) (zeros hd.room) (extras * 32) l)
      ∙ ap (λ (x : List ℕ). g.main ++ (joined g.extras ++ extra_words kind s n s' n' x)) (drop_at (joined g.extras) (zeros hd.room) (extras * 32) l)
      ∙ ap (λ (x : List ℕ). g.main ++ (joined g.extras ++ x)) (made_of kind s n s' n' hd.room h)
      ∙ ap (λ (x : List ℕ). g.main ++ x) (sym (append_assoc (joined g.extras) (made kind s n s' n') (zeros (hd.room - 32))))
      ∙ ap (λ (x : List ℕ). g.main ++ (x ++ zeros (hd.room - 32))) (sym (joined_snoc g.extras (made kind s n s' n')))

-- an area after a text was laid in it
pub laid-size : (text v : List ℕ) (fill : ℕ) {text' : List ℕ} → fill ≤ length text → text' ≡ take fill text ++ laid (drop fill text) v → length text' ≡ length text
laid-size text v fill h e =
    ap length e ∙ length-append (take fill text) (laid (drop fill text) v)
    ∙ (let a = length-take-le fill text h in let b = length-laid (drop fill text) v in let c = length-drop fill text in omega arith)

same-words : (x : List ℕ) {k s n s' n' k₁ s₁ n₁ s₂ n₂ : ℕ} → k ≡ k₁ → s ≡ s₁ → n ≡ n₁ → s' ≡ s₂ → n' ≡ n₂ → extra_words k s n s' n' x ≡ extra_words k₁ s₁ n₁ s₂ n₂ x
same-words x {k} {s} {n} {s'} {n'} {k₁} {s₁} {n₁} {s₂} {n₂} a b c d e =
    ap (λ (z : ℕ). extra_words z s n s' n' x) a ∙ ap (λ (z : ℕ). extra_words k₁ z n s' n' x) b ∙ ap (λ (z : ℕ). extra_words k₁ s₁ z s' n' x) c
    ∙ ap (λ (z : ℕ). extra_words k₁ s₁ n₁ z n' x) d ∙ ap (λ (z : ℕ). extra_words k₁ s₁ n₁ s₂ z x) e

module _ {own text : List ℕ} {extras fill : ℕ} {g : Given} (hd : Held own text extras fill g) {rooms : Rooms}
    {used : ℕ} (ro : Roomy rooms used (length own) (length text)) (p : Place) (kind : ℕ) (key value : List ℕ) where
  asked : used + 1 + length g.extras + 1 ≡ used + (extras + 2)
  asked = let c = hd.count in omega arith

  pub new-spent : {own' text' : List ℕ} → length own < extras * 32 + 32 + 32 → Meets p own' text' (new_extra rooms p used kind key value g) (refuses cause.RecordsSpent)
  unfolding new_extra
  new-spent h = meets-refused cause.RecordsSpent _ (ap (fits rooms.records) asked ∙ ro.for-records (extras + 2) ∙ lt-leb ((extras + 2) * 32) (length own) (omega arith))

  module _ (r : extras * 32 + 32 + 32 ≤ length own) where
    spare : fits rooms.records (used + 1 + length g.extras + 1) ≡ true
    spare = ap (fits rooms.records) asked ∙ ro.for-records (extras + 2) ∙ le-leb ((extras + 2) * 32) (length own) (omega arith)

    pub key-full : {own' text' : List ℕ} {why : Cause} → refuses why ≡ moved fill (placing cause.TextFull (length text - fill) key)
        → Meets p own' text' (new_extra rooms p used kind key value g) (refuses why)
    unfolding new_extra
    key-full e =
        let f = end-full fill (length text - fill) key e in
        rw f.0 (meets-need cause.RecordsSpent _ spare (meets-refused cause.TextFull _ (text-none hd ro key f.1)))

    module _ {middle : ℕ} {text₁ : List ℕ} (e : gives middle ≡ moved fill (placing cause.TextFull (length text - fill) key)) (t : text₁ ≡ take fill text ++ laid (drop fill text) key) where
      long : length key ≤ length text - fill
      long = (end-put fill (length text - fill) key e).0

      halfway : middle ≡ fill + length key
      halfway = (end-put fill (length text - fill) key e).1

      held₁ : Held own text₁ extras middle (record { main = g.main; extras = g.extras; texts = g.texts ++ key })
      held₁ =
          let s = length-append g.texts key in
          record {
            room = hd.room;
            left = hd.left - length key;
            records = hd.records;
            main-words = hd.main-words;
            keyed = keyed-more (length g.texts) (length (g.texts ++ key)) g.extras (omega arith) hd.keyed;
            count = hd.count;
            stored = text-grown hd key text₁ long t;
            filled = let q = halfway in let f = hd.filled in omega arith;
          }

      size₁ : length text₁ ≡ length text
      size₁ =
          let a = text-size text g.texts hd.left hd.stored in
          laid-size text key fill (let f = hd.filled in omega arith) t

      roomy₁ : Roomy rooms used (length own) (length text₁)
      roomy₁ = rw size₁ ro

      pub value-full : {own' text' : List ℕ} {why : Cause} → refuses why ≡ moved middle (placing cause.TextFull (length text₁ - middle) value)
          → Meets p own' text' (new_extra rooms p used kind key value g) (refuses why)
      unfolding new_extra
      value-full q =
          let f = end-full middle (length text₁ - middle) value q in
          rw f.0 (meets-need cause.RecordsSpent _ spare (meets-need cause.TextFull _ (text-room hd ro key long) (meets-refused cause.TextFull _ (text-none held₁ roomy₁ value f.1))))

      module _ {end : ℕ} {text₂ ys : List ℕ} (e' : gives end ≡ moved middle (placing cause.TextFull (length text₁ - middle) value)) (t' : text₂ ≡ take middle text₁ ++ laid (drop middle text₁) value)
          (o : ys ≡ extra_words (kind + 11) fill (middle - fill) middle (end - middle) (take (length own - (extras * 32 + 32)) (drop (extras * 32 + 32) own))) where
        long' : length value ≤ length text₁ - middle
        long' = (end-put middle (length text₁ - middle) value e').0

        ended : end ≡ middle + length value
        ended = (end-put middle (length text₁ - middle) value e').1

        own-now : put_mid (extras * 32 + 32) (length own - (extras * 32 + 32)) own ys
            ≡ g.main ++ (joined (g.extras ++ (made (extra_kind kind) (length g.texts) (length key) (length (g.texts ++ key)) (length value) ∷ [])) ++ zeros (hd.room - 32))
        own-now =
            let a = length-append g.texts key in
            let b = hd.filled in
            let h = halfway in
            let q = ended in
            let z = own-size hd in
            own_new hd (extra_kind kind) (length g.texts) (length key) (length (g.texts ++ key)) (length value) (omega arith)
            (o ∙ same-words (take (length own - (extras * 32 + 32)) (drop (extras * 32 + 32) own)) (omega arith) b (omega arith) (omega arith) (omega arith))

        pub new-put : Meets p (put_mid (extras * 32 + 32) (length own - (extras * 32 + 32)) own ys) text₂ (new_extra rooms p used kind key value g) (gives (extras + 1, end))
        unfolding new_extra
        new-put =
            let n : ℕ = length ((g.texts ++ key) ++ value) in
            let a = length-append g.texts key in
            let b = length-append (g.texts ++ key) value in
            let x = made-start (extra_kind kind) (length g.texts) (length key) (length (g.texts ++ key)) (length value) in
            let y = made-size (extra_kind kind) (length g.texts) (length key) (length (g.texts ++ key)) (length value) in
            let c = length-append g.extras (made (extra_kind kind) (length g.texts) (length key) (length (g.texts ++ key)) (length value) ∷ []) in
            meets-need cause.RecordsSpent _ spare (meets-need cause.TextFull _ (text-room hd ro key long) (meets-need cause.TextFull _ (text-room held₁ roomy₁ value long') (went record {
              room = hd.room - 32;
              left = held₁.left - length value;
              records = own-now;
              main-words = hd.main-words;
              keyed = keyed-snoc n g.extras (made (extra_kind kind) (length g.texts) (length key) (length (g.texts ++ key)) (length value))
                  (keyed-more (length g.texts) n g.extras (omega arith) hd.keyed)
                  (made-length (extra_kind kind) (length g.texts) (length key) (length (g.texts ++ key)) (length value)) (omega arith);
              count = let k = hd.count in omega arith;
              stored = text-grown held₁ value text₂ long' t';
              filled = let q = ended in let f = held₁.filled in omega arith;
            })))
