-- An extra's value or record put, against the definition. Assumes nothing.
use Prim.Native.Nat.{ℕ, ◌+◌, ◌-◌, ◌*◌, ◌≤◌, ◌<◌}
use mathlib.Core.Path.{◌≡◌, sym, ap, ◌∙◌}
use mathlib.Core.Bool.{Bool, true, false}
use mathlib.Core.List.{List, ◌++◌, append_assoc}
use native.Mathlib.Omega.{arith}
use borrow.Author.Tests.{le-leb, lt-leb}
use lib.ListN.{length, take, drop, length-append}
use lib.Seq.{take_at, drop_at, drop-drop, take-add}
use borrow.Rule.Slice.PartMut.{put_mid}
use Rattle.read_element.specs.of_area.Answer.{Answer, gives, refuses}
use Rattle.read_element.specs.of_area.Area.{zeros, placing, laid}
use Rattle.read_element.proofs.of_area.Parts.{rest_part, rest_back}
use Rattle.read_element.specs.of_refusal.Refusal.{Outcome}
use Rattle.read_element.specs.of_tree_put.Put.{put_pair}
use Rattle.read_element.proofs.of_tree_put.Puts.{pair-length, pair-other}
use Rattle.read_element.specs.Outcome.{Place, Rooms, need, fits}
use Rattle.read_element.specs.Attributes.{Given, changed, old_extra}
use Rattle.read_element.specs.of_utf8.Characters.{joined}
use Rattle.read_element.specs.inside.Held.{moved, Held, Roomy, Meets}
use Rattle.read_element.specs.inside.Refines.{went, stopped}
use Rattle.read_extra_record.proofs.Storing.{end-put, end-full, text-size, text-behind, extras-changed, pair-local, changed-keyed, changed-length, keyed-more}
use Rattle.read_element.specs.of_refusal.declared.Cause.TheVariants as cause
use Rattle.read_element.specs.of_refusal.declared.Cause.{Cause}

module _ {p : Place} {own text : List ℕ} {b : Bool} (n : Cause) (m : Outcome Given) where
  -- the code's test held: what meets the outcome behind the demand meets the whole
  pub meets-need : {a : Answer (ℕ × ℕ)} → b ≡ true → Meets p own text m a → Meets p own text (need b p n m) a
  unfolding need
  meets-need e x = rw e x

  -- the code's test failed: its refusal is the definition's
  pub meets-refused : b ≡ false → Meets p own text (need b p n m) (refuses n)
  unfolding need
  meets-refused e = rw e stopped

-- the words behind the element's record
pub behind-main : (f : List ℕ → List ℕ) (own main z : List ℕ) (m : ℕ) → own ≡ main ++ z → length main ≡ 32 → take (m + 32) own ++ f (drop (m + 32) own) ≡ main ++ (take m z ++ f (drop m z))
behind-main f own main z m e h =
    let s : m + 32 ≡ 32 + m = omega arith in
    ap (λ (k : ℕ). take k own ++ f (drop k own)) s
    ∙ ap (λ (x : List ℕ). take (32 + m) x ++ f (drop (32 + m) x)) e
    ∙ ap (λ (x : List ℕ). x ++ f (drop (32 + m) (main ++ z))) (take-add 32 m (main ++ z))
    ∙ ap (λ (x : List ℕ). (take 32 (main ++ z) ++ take m (drop 32 (main ++ z))) ++ f x) (sym (drop-drop m 32 (main ++ z)))
    ∙ ap (λ (x : List ℕ). (x ++ take m (drop 32 (main ++ z))) ++ f (drop m (drop 32 (main ++ z)))) (take_at main z 32 h)
    ∙ ap (λ (x : List ℕ). (main ++ take m x) ++ f (drop m x)) (drop_at main z 32 h)
    ∙ append_assoc main (take m z) (f (drop m z))

-- texts that a text was put behind
module _ {own text : List ℕ} {extras fill : ℕ} {g : Given} (hd : Held own text extras fill g) where
  pub text-left : length text - fill ≡ hd.left
  text-left = let s = text-size text g.texts hd.left hd.stored in let f = hd.filled in omega arith

  -- a text put behind those that the area holds: the definition's texts with it at the end, and zeros
  pub text-grown : (v text' : List ℕ) → length v ≤ length text - fill → text' ≡ take fill text ++ laid (drop fill text) v → text' ≡ (g.texts ++ v) ++ zeros (hd.left - length v)
  text-grown v text' h e =
      e ∙ ap (λ (n : ℕ). take n text ++ laid (drop n text) v) hd.filled
      ∙ text-behind text g.texts hd.left hd.stored v (let l = text-left in omega arith)

  module _ {rooms : Rooms} {used : ℕ} (ro : Roomy rooms used (length own) (length text)) (v : List ℕ) where
    -- a text that fits the area fits the definition's rooms
    pub text-room : length v ≤ length text - fill → fits rooms.text (length g.texts + length v) ≡ true
    text-room h =
        let s = text-size text g.texts hd.left hd.stored in
        let f = hd.filled in
        ro.for-text (length g.texts + length v) ∙ le-leb (length g.texts + length v) (length text) (omega arith)

    -- a text that doesn't fit the area doesn't fit the definition's rooms
    pub text-none : length text - fill < length v → fits rooms.text (length g.texts + length v) ≡ false
    text-none h =
        let f = hd.filled in
        ro.for-text (length g.texts + length v) ∙ lt-leb (length g.texts + length v) (length text) (omega arith)

    module _ (p : Place) (i : ℕ) where
      pub old-full : {own' text' : List ℕ} {why : Cause} → refuses why ≡ moved fill (placing cause.TextFull (length text - fill) v) → Meets p own' text' (old_extra rooms p v i g) (refuses why)
      unfolding old_extra
      old-full e = let f = end-full fill (length text - fill) v e in rw f.0 (meets-refused cause.TextFull _ (text-none f.1))

      module _ {end : ℕ} {ys text' : List ℕ} (lt : i < extras) (e : gives end ≡ moved fill (placing cause.TextFull (length text - fill) v)) (t : text' ≡ take fill text ++ laid (drop fill text) v)
          (o : ys ≡ put_pair 4 fill (end - fill) (take (length own - (i * 32 + 32)) (drop (i * 32 + 32) own))) where
        long : length v ≤ length text - fill
        long = (end-put fill (length text - fill) v e).0

        ended : end ≡ fill + length v
        ended = (end-put fill (length text - fill) v e).1

        own-now : put_mid (i * 32 + 32) (length own - (i * 32 + 32)) own ys ≡ g.main ++ (joined (changed i (put_pair 4 (length g.texts) (length v)) g.extras) ++ zeros hd.room)
        own-now =
            let n : end - fill ≡ length v = (let q = ended in omega arith) in
            let c = hd.count in
            rest_back own (i * 32 + 32) ys
            ∙ ap (λ (x : List ℕ). take (i * 32 + 32) own ++ x) (o ∙ ap (put_pair 4 fill (end - fill)) (rest_part own (i * 32 + 32)))
            ∙ ap (λ (k : ℕ). take (i * 32 + 32) own ++ put_pair 4 fill k (drop (i * 32 + 32) own)) n
            ∙ ap (λ (k : ℕ). take (i * 32 + 32) own ++ put_pair 4 k (length v) (drop (i * 32 + 32) own)) hd.filled
            ∙ behind-main (put_pair 4 (length g.texts) (length v)) own g.main (joined g.extras ++ zeros hd.room) (i * 32) hd.records hd.main-words
            ∙ ap (λ (x : List ℕ). g.main ++ x) (extras-changed (put_pair 4 (length g.texts) (length v))
            (pair-local 4 (length g.texts) (length v) (omega arith)) (length g.texts) g.extras i (zeros hd.room) hd.keyed (omega arith))

        pub old-put : Meets p (put_mid (i * 32 + 32) (length own - (i * 32 + 32)) own ys) text' (old_extra rooms p v i g) (gives (extras, end))
        unfolding old_extra
        old-put =
            let a = length g.texts in
            let s = length-append g.texts v in
            meets-need cause.TextFull _ (text-room long) (went record {
              room = hd.room;
              left = hd.left - length v;
              records = own-now;
              main-words = hd.main-words;
              keyed = changed-keyed (put_pair 4 a (length v)) (pair-length 4 a (length v))
                  (λ r. pair-other 4 a (length v) r 2 (omega arith) (omega arith)) (λ r. pair-other 4 a (length v) r 3 (omega arith) (omega arith))
                  (length (g.texts ++ v)) g.extras i (keyed-more a (length (g.texts ++ v)) g.extras (omega arith) hd.keyed);
              count = hd.count ∙ sym (changed-length (put_pair 4 a (length v)) g.extras i);
              stored = text-grown v text' long t;
              filled = let q = ended in let f = hd.filled in omega arith;
            })
