-- An element read behind the records, against the definition. Assumes nothing.
use Rattle.std.specs.Prelude.{Result, Ok, Err}
use Prim.Native.Nat.{ℕ, zero, suc, ◌+◌, ◌-◌, ◌*◌, ◌/◌, ◌≤◌, ◌<◌}
use mathlib.Core.Path.{◌≡◌, refl, sym, ap, subst, ◌∙◌}
use mathlib.Core.Bool.{Bool, true, false}
use mathlib.Core.Option.{some}
use mathlib.Core.List.{List, [], ◌∷◌, ◌++◌, append_assoc}
use native.Mathlib.Omega.{arith}
use lib.Dec.{leb}
use lib.ListN.{length, get_or, take, drop, length-append, length-drop}
use borrow.Author.Tests.{le-leb, lt-leb, leb-true, leb-false}
use borrow.Rule.Slice.PartMut.{put_mid}
use Rattle.read_lists.specs.of_area.Area.{zeros}
use Rattle.read_lists.proofs.of_area.Parts.{rest_part, rest_back}
use Rattle.read_lists.specs.of_utf8.Characters.{joined}
use Rattle.read_lists.specs.of_refusal.Refusal.{nowhere, Outcome, accepted}
use Rattle.read_lists.specs.of_table.Event.{Attribute}
use Rattle.read_lists.proofs.of_tree_report.EncodeLists.{Each, done, more}
use Rattle.read_lists.specs.of_read_element.Outcome.{◌>>=◌, Place, Rooms, fits}
use Rattle.read_lists.specs.of_read_element.Attributes.{Given, Grown, read_element}
use Rattle.read_lists.specs.of_read_element.inside.Held.{Keyed, Held, Roomy}
use Rattle.read_lists.specs.of_read_attributes.inside.Elements.{Free, Becomes, grew}
use Rattle.read_lists.specs.of_read_attributes.declared.Grown.{Grown as CodedGrown}
use Rattle.read_lists.specs.of_read_content.of_read_fault.declared.Fault.{Fault}
use Rattle.read_lists.proofs.of_read_element.TreeOutcome as outcome
use Rattle.read_lists.proofs.of_read_element.TreeRoles.{suite-wide, case-wide}
use Rattle.read_lists.proofs.of_read_element.TreeElement.{Few, no-extras, extras-of}
use Rattle.read_lists.specs.of_read_content.Content.{Content, grown, adding}
use Rattle.read_lists.specs.of_read_element.inside.Refines.{went, stopped}
use Rattle.read_lists.specs.of_read_content.inside.Holds.{Performed, kind_in, Holds, Sized, Comes, Added, added_in, added_to}
use Rattle.read_lists.specs.of_read_content.declared.Content.{Content as CodedContent}
use Rattle.read_lists.proofs.of_read_content.Records.{joined-append, joined-size, whole_append, keyed-whole, kind-front, kind-behind}
use Rattle.read_lists.proofs.of_read_content.Listing.{added-dead}
use Rattle.read_lists.proofs.of_read_content.Areas.{fits-words, own-front, text-front}
use Rattle.read_opening.proofs.ElementKinds.{NewKinds, element-kinds}

-- ---- rooms
leb-less : (a b n : ℕ) → a ≤ n → leb (a + b) n ≡ leb b (n - a)
leb-less a b n h = go (leb b (n - a)) refl
  where
    go : (t : Bool) → leb b (n - a) ≡ t → leb (a + b) n ≡ t
    go true q = let x = leb-true b (n - a) q in le-leb (a + b) n (omega arith)
    go false q = let x = leb-false b (n - a) q in lt-leb (a + b) n (omega arith)

-- of the part behind the records
pub roomy-rest : {rooms : Rooms} {words text scratch : ℕ} (used : ℕ) → used * 32 ≤ words → Sized rooms words text scratch → Roomy rooms used (words - used * 32) text
roomy-rest {words = words} used h sz = record {
  for-records = λ n.
      let e : (used + n) * 32 ≡ used * 32 + n * 32 = omega arith in
      sz.for-records (used + n) ∙ ap (λ (k : ℕ). leb k words) e ∙ leb-less (used * 32) (n * 32) words h;
  for-text = sz.for-text;
}

-- there are such rooms
abbrev pub rooms_for : ℕ → ℕ → ℕ → Rooms
rooms_for words text scratch = record { records = some (words / 32); text = some text; scratch = some scratch }

leb-div : (n words : ℕ) → leb n (words / 32) ≡ leb (n * 32) words
leb-div n words = go (leb n (words / 32)) refl
  where
    go : (t : Bool) → leb n (words / 32) ≡ t → t ≡ leb (n * 32) words
    go true q = let x = leb-true n (words / 32) q in sym (le-leb (n * 32) words (omega arith))
    go false q = let x = leb-false n (words / 32) q in sym (lt-leb (n * 32) words (omega arith))

pub sized_for : (words text scratch : ℕ) → Sized (rooms_for words text scratch) words text scratch
unfolding fits
sized_for words text scratch = record { for-records = λ n. leb-div n words; for-text = λ n. refl; for-scratch = λ n. refl }

abbrev pub somewhere : Place
somewhere = record { path = []; event = 0; attribute = nowhere }

-- ---- what an element takes
extras-size : (n : ℕ) (rs : List (List ℕ)) → Keyed n rs → length (joined rs) ≡ length rs * 32
extras-size n rs k = joined-size rs (keyed-whole n rs k)

own-size : {own text : List ℕ} {extras fill : ℕ} {g : Given} → Held own text extras fill g → (extras + 1) * 32 ≤ length own
own-size {own} {g = g} h =
    let a = ap length h.records ∙ length-append g.main (joined g.extras ++ zeros h.room) in
    let b = length-append (joined g.extras) (zeros h.room) in
    let d = extras-size (length g.texts) g.extras h.keyed in
    let e = h.main-words in
    let f = h.count in
    omega arith

pub becomes-fits : {p : Place} {before : List (List ℕ)} {own text attributes source : List ℕ} {o : Outcome Grown} {e : CodedGrown}
    → Becomes p before own text attributes source o (Ok e) → e.records * 32 ≤ length own
becomes-fits {e = e} (went (grew h q f)) = let a = own-size h in omega arith

-- ---- the kinds
each_at : {κ : ℕ} {rs : List (List ℕ)} → Each (λ r. get_or r 0 0 ≡ κ) rs → (i : ℕ) → i < length rs → kind_in rs i ≡ κ
each_at done i h = absurd (omega arith)
each_at (more x xs) zero h = x
each_at (more x xs) (suc i) h = each_at xs i (omega arith)

few-length : {κ : ℕ} {rs : List (List ℕ)} → Few κ rs → 4 ≤ κ → length rs ≡ 0
few-length no-extras h = refl
few-length (extras-of suite-wide) h = absurd (omega arith)
few-length (extras-of case-wide) h = absurd (omega arith)

module _ {kind : ℕ} (c : CodedContent) (s : Content) (e : CodedGrown) {g : Grown} (k : NewKinds kind s.records g) where
  count : length g.records ≡ length s.records + suc (length k.extras)
  count = ap length k.whole ∙ length-append s.records (k.main ∷ k.extras)

  pub new-added : Added kind c s (added_in e c) (grown s g)
  new-added = record {
    suite-list = refl;
    case-list = refl;
    gathered = refl;
    before = λ i h. ap (λ (rs : List (List ℕ)). kind_in rs i) k.whole ∙ kind-front s.records (k.main ∷ k.extras) i h;
    main =
        let z : length s.records ≡ length s.records + 0 = omega arith in
        ap (λ (rs : List (List ℕ)). kind_in rs (length s.records)) k.whole
        ∙ ap (kind_in (s.records ++ (k.main ∷ k.extras))) z
        ∙ kind-behind s.records (k.main ∷ k.extras) 0
        ∙ k.main-kind;
    extras = λ i h l.
        let n = count in
        let z : i ≡ length s.records + suc (i - (length s.records + 1)) = omega arith in
        ap (λ (rs : List (List ℕ)). kind_in rs i) k.whole
        ∙ ap (kind_in (s.records ++ (k.main ∷ k.extras))) z
        ∙ kind-behind s.records (k.main ∷ k.extras) (suc (i - (length s.records + 1)))
        ∙ each_at k.each (i - (length s.records + 1)) (omega arith);
    more = let n = count in omega arith;
    alone = λ h. let n = count in let f = few-length k.few h in omega arith;
  }

-- ---- the areas
module _ {words text scratch attributes source : List ℕ} {c : CodedContent} {s : Content} (hd : Holds words text scratch attributes source c s) where
  grown-holds : {own text' : List ℕ} {extras : ℕ} {e : CodedGrown} {g : Given} → Held own text' extras e.fill g → e.records ≡ extras + 1 → Free attributes source e.free.first e.free.end
      → {kind : ℕ} → NewKinds kind s.records (record { records = s.records ++ (g.main ∷ g.extras); texts = g.texts })
      → Holds (put_mid (c.used * 32) (length words - c.used * 32) words own) text' scratch attributes source
      (added_in e c) (grown s (record { records = s.records ++ (g.main ∷ g.extras); texts = g.texts }))
  grown-holds {own} {text'} {extras} {e} {g} h q f k = record {
    room = h.room;
    left = h.left;
    records =
        rest_back words (c.used * 32) own
        ∙ ap (λ (x : List ℕ). x ++ own) (own-front hd)
        ∙ ap (λ (x : List ℕ). joined s.records ++ x) (h.records ∙ sym (append_assoc g.main (joined g.extras) (zeros h.room)))
        ∙ sym (append_assoc (joined s.records) (joined (g.main ∷ g.extras)) (zeros h.room))
        ∙ ap (λ (x : List ℕ). x ++ zeros h.room) (sym (joined-append s.records (g.main ∷ g.extras)));
    whole = whole_append s.records (g.main ∷ g.extras) hd.whole (h.main-words, keyed-whole (length g.texts) g.extras h.keyed);
    used = let a = hd.used in let b = h.count in let d = length-append s.records (g.main ∷ g.extras) in omega arith;
    stored = h.stored;
    fill = h.filled;
    within = hd.within;
    begins = hd.begins;
    described = hd.described;
    behind = hd.behind;
    description = hd.description;
    gathered = hd.gathered;
    free = f;
    report = let a = hd.report in omega arith;
    dead = added-dead (new-added c s e k) (let a = hd.report in let b = hd.used in omega arith) hd.dead;
  }

  module _ (p : Place) (kind : ℕ) where
    comes : {own text' : List ℕ} {o : Outcome Grown} {el : Result CodedGrown Fault} → Becomes p s.records own text' attributes source o el → outcome.Holds (NewKinds kind s.records) o
        → Comes (Added kind c s) p (put_mid (c.used * 32) (length words - c.used * 32) words own) text' scratch attributes source (o >>= λ g. accepted (grown s g)) (added_to el c)
    unfolding ◌>>=◌
    comes (went (grew {e = e} h q f)) (outcome.accept k) = went (grown-holds h q f k, new-added c s e k)
    comes stopped outcome.refuse = stopped

    pub element-comes : (rooms : Rooms) {own text' : List ℕ} {el : Result CodedGrown Fault} (j : ℕ) (xs : List Attribute) → 1 ≤ kind → kind ≤ 12
        → Becomes p s.records own text' attributes source (read_element rooms p kind j xs s.records (take c.fill text)) el → {r : Performed} → r ≡ added_to el c
        → Comes (Added kind c s) p (put_mid (c.used * 32) (length words - c.used * 32) words own) text' scratch attributes source (adding rooms p kind j xs s) r
    unfolding adding
    element-comes rooms {own} {text'} {el} j xs l h b {r} q =
        rw q
        (subst (λ (t : List ℕ). Comes (Added kind c s) p (put_mid (c.used * 32) (length words - c.used * 32) words own) text'
        scratch attributes source (read_element rooms p kind j xs s.records t >>= λ g. accepted (grown s g)) (added_to el c))
        (text-front hd)
        (comes b (element-kinds rooms kind p j xs s.records (take c.fill text) l h)))

  -- what reading an element needs, and what it leaves room for
  pub roomy-own : {rooms : Rooms} → Sized rooms (length words) (length text) (length scratch)
      → Roomy rooms (length s.records) (length (take (length words - c.used * 32) (drop (c.used * 32) words))) (length text)
  roomy-own {rooms} sz =
      let n : length (take (length words - c.used * 32) (drop (c.used * 32) words)) ≡ length words - c.used * 32 = ap length (rest_part words (c.used * 32)) ∙ length-drop (c.used * 32) words in
      let r = roomy-rest c.used (fits-words hd) sz in
      subst (λ (k : ℕ). Roomy rooms k (length (take (length words - c.used * 32) (drop (c.used * 32) words))) (length text)) hd.used
      (subst (λ (k : ℕ). Roomy rooms c.used k (length text)) (sym n) r)

  pub grown-fits : {own text' : List ℕ} {el : Result CodedGrown Fault} {e : CodedGrown} (kind j : ℕ) (xs : List Attribute)
      → ((rooms : Rooms) (p : Place) (before : List (List ℕ)) → p.attribute ≡ nowhere
      → Roomy rooms (length before) (length (take (length words - c.used * 32) (drop (c.used * 32) words))) (length text)
      → Becomes p before own text' attributes source (read_element rooms p kind j xs before (take c.fill text)) el)
      → el ≡ Ok e → e.records * 32 ≤ length own
  grown-fits {own} {text'} {el} {e} kind j xs f q =
      let b = f (rooms_for (length words) (length text) (length scratch)) somewhere s.records refl (roomy-own (sized_for (length words) (length text) (length scratch))) in
      becomes-fits (rw q at b)
