-- Records marked dead one by one, as the code does it. Assumes nothing.
use Prim.Native.Nat.{ℕ, suc, ◌+◌, ◌-◌, ◌*◌, ◌≤◌, ◌<◌}
use mathlib.Core.Path.{◌≡◌, refl, sym, ap, ◌∙◌}
use mathlib.Core.Bool.{Bool, cond}
use mathlib.Core.List.{List, ◌++◌}
use native.Mathlib.Omega.{arith}
use lib.ListN.{length, get_or, take, drop, length-append, length-drop, set}
use lib.Seq.{length-take-le}
use borrow.Rule.Slice.PartMut.{put_mid}
use Rattle.read_content.proofs.of_area.Parts.{rest_part, rest_back}
use Rattle.read_content.specs.Content.{killed}
use Rattle.read_content.specs.inside.Holds.{in_record, kill_words}
use Rattle.read_content.specs.declared.List.{List as CodedList}
use Rattle.read_content.proofs.Records.{killed-size, killed-dead}
use borrow.Author.Tests.{lt-ltb}

-- ---- one record
pub kill_put : (r : List ℕ) {kind : ℕ} {r' : List ℕ} → kind ≡ get_or r 0 0 → kind < 16 → r' ≡ set r 0 (kind + 16) → r' ≡ killed r
kill_put r {kind} {r'} e h o =
    let l : get_or r 0 0 < 16 = omega arith in
    o ∙ ap (λ (k : ℕ). set r 0 (k + 16)) e ∙ sym (ap (λ (b : Bool). cond b (set r 0 (get_or r 0 0 + 16)) r) (lt-ltb (get_or r 0 0) 16 l))

pub kill_not : (r : List ℕ) {kind : ℕ} → kind ≡ get_or r 0 0 → 16 ≤ kind → r ≡ killed r
kill_not r e h = sym (killed-dead r (omega arith))

-- ---- the loop
-- the records from number `first` to before number i are dead, those to before number `end` are to come
pub record Killing (words₀ words : List ℕ) (first end i : ℕ) : Type 0 where
  pub low : first ≤ i
  pub high : i ≤ end
  pub size : length words ≡ length words₀
  pub rest : kill_words (end - first) first words₀ ≡ kill_words (end - i) i words

pub killing_start : (words : List ℕ) (first end : ℕ) → first ≤ end → Killing words words first end first
killing_start words first end h = record { low = omega arith; high = h; size = refl; rest = refl }

in_size : (i : ℕ) (words : List ℕ) → i * 32 ≤ length words → length (in_record i killed words) ≡ length words
in_size i words h =
    let a = length-append (take (i * 32) words) (killed (drop (i * 32) words)) in
    let b = length-take-le (i * 32) words h in
    let c = killed-size (drop (i * 32) words) in
    let d = length-drop (i * 32) words in
    omega arith

pub killing_more : {words₀ words : List ℕ} {first end i : ℕ} {ys : List ℕ} → Killing words₀ words first end i → i < end → end * 32 ≤ length words₀
    → ys ≡ killed (take (length words - i * 32) (drop (i * 32) words)) → Killing words₀ (put_mid (i * 32) (length words - i * 32) words ys) first end (i + 1)
unfolding kill_words
killing_more {words₀} {words} {first} {end} {i} {ys} k h l e =
    let s = k.size in
    let a = k.low in
    let w : put_mid (i * 32) (length words - i * 32) words ys ≡ in_record i killed words =
    rest_back words (i * 32) ys ∙ ap (λ (x : List ℕ). take (i * 32) words ++ x) (e ∙ ap killed (rest_part words (i * 32))) in
    let z : end - i ≡ suc (end - (i + 1)) = omega arith in
    record {
      low = omega arith;
      high = omega arith;
      size = ap length w ∙ in_size i words (omega arith) ∙ s;
      rest = k.rest ∙ ap (λ (n : ℕ). kill_words n i words) z ∙ ap (kill_words (end - (i + 1)) (i + 1)) (sym w);
    }

pub killing_done : {words₀ words : List ℕ} {first end i : ℕ} → Killing words₀ words first end i → end ≤ i → words ≡ kill_words (end - first) first words₀
unfolding kill_words
killing_done {words₀} {words} {first} {end} {i} k h =
    let z : end - i ≡ 0 = omega arith in
    sym (k.rest ∙ ap (λ (n : ℕ). kill_words n i words) z)

-- the records of a list, as the code takes them
module _ {old list : CodedList} (e : old ≡ list) where
  pub old_end : {n : ℕ} → (list.first + list.count) * 32 ≤ n → (old.first + old.count) * 32 ≤ n
  old_end h = rw e h

  pub old_kill : (words : List ℕ) {words' : List ℕ} → words' ≡ kill_words (old.first + old.count - old.first) old.first words → words' ≡ kill_words list.count list.first words
  old_kill words {words'} h =
      let z : list.first + list.count - list.first ≡ list.count = omega arith in
      h ∙ ap (λ (l : CodedList). kill_words (l.first + l.count - l.first) l.first words) e ∙ ap (λ (n : ℕ). kill_words n list.first words) z
