-- A skip goes over the events one by one. Assumes nothing.
use Prim.Native.Nat.{ℕ, zero, suc, ◌+◌, ◌-◌, ◌≤◌, ◌<◌}
use mathlib.Core.Path.{◌≡◌, refl, sym, ap, ◌∙◌}
use mathlib.Core.List.{List, [], ◌∷◌}
use mathlib.Core.Bool.{Bool, true, false, cond, ◌&&◌}
use native.Mathlib.Numerals.{add-one}
use native.Mathlib.Omega.{arith}
use borrow.Author.Tests.{leb-true, leb-false, eqb-true, eqb-false, ne_eqb, lt-ltb}
use lib.Dec.{leb, eqb, ltb}
use lib.ListN.{length}
use Rattle.names.specs.Names.{same_bytes}
use Rattle.table.specs.Table.{word, count_of}
use Rattle.table.specs.Event.{Attribute, Event, Tag, Start, Empty, End, Piece, Text, CData, Ref, Other, Indent, Eof, Fault, kind_at, bytes_at, attributes_from, event_of, resolve_from}
use Rattle.table.proofs.Resolving.{event-of-kind, resolve-end, resolve-next}
use Rattle.table_events.specs.Skip.{Skip, next, broken_at, up_from, skip_of, depth_after}
use Rattle.table_events.proofs.Numbered.{kind-within, kind-is, bytes-in}
use Rattle.names.specs.of_refusal.declared.Cause.TheVariants as cause

-- ---- one event
end-breaks : (name : List ℕ) (depth i : ℕ) → skip_of name depth i [] ≡ broken_at cause.EofInSkip i
unfolding skip_of
end-breaks name depth i = refl

depth_low : (k : ℕ) (own : Bool) (depth : ℕ) → depth_after k own depth ≤ depth + 1
depth_low k own depth = go (own && eqb k 0) ((own && eqb k 2) && ltb 0 depth)
  where
    go : (t u : Bool) → cond t (depth + 1) (cond u (depth - 1) depth) ≤ depth + 1
    go true u = omega arith
    go false true = omega arith
    go false false = omega arith

module _ (name : List ℕ) (depth i : ℕ) (es : List Event) (bytes : List ℕ) (first : ℕ) (xs : List Attribute) where
  abbrev over : ℕ → Skip
  over k = skip_of name depth i (event_of k bytes first xs ∷ es)

  eof-breaks : over 7 ≡ broken_at cause.EofInSkip i
  unfolding skip_of event_of
  eof-breaks = refl

  fault-breaks : over 8 ≡ broken_at cause.XmlFault i
  unfolding skip_of event_of
  fault-breaks = refl

  start-turns : over 0 ≡ skip_of name (depth_after 0 (same_bytes bytes name) depth) (i + 1) es
  unfolding skip_of event_of
  start-turns = go (same_bytes bytes name)
    where
      go : (t : Bool) → skip_of name (cond t (suc depth) depth) (i + 1) es ≡ skip_of name (depth_after 0 t depth) (i + 1) es
      go true = ap (λ (d : ℕ). skip_of name d (i + 1) es) (sym (add-one depth))
      go false = refl

  end-ends : same_bytes bytes name ≡ true → depth ≡ 0 → over 2 ≡ next (i + 1)
  unfolding skip_of event_of
  end-ends e z =
      ap (λ (t : Bool). cond t (up_from depth (next (i + 1)) λ d. skip_of name d (i + 1) es) (skip_of name depth (i + 1) es)) e
      ∙ ap (λ (d : ℕ). up_from d (next (i + 1)) λ d. skip_of name d (i + 1) es) z

  end-turns : ((same_bytes bytes name && true) && eqb depth 0) ≡ false → over 2 ≡ skip_of name (depth_after 2 (same_bytes bytes name) depth) (i + 1) es
  unfolding skip_of event_of
  end-turns h = go (same_bytes bytes name) depth h
    where
      go : (t : Bool) (d : ℕ) → ((t && true) && eqb d 0) ≡ false
          → cond t (up_from d (next (i + 1)) λ d. skip_of name d (i + 1) es) (skip_of name d (i + 1) es) ≡ skip_of name (depth_after 2 t d) (i + 1) es
      go true zero q = let z : ◌≡◌ {A = ℕ} 0 1 = cc in absurd (omega arith)
      go true (suc d) q =
          let z : d ≡ suc d - 1 = omega arith in
          ap (λ (n : ℕ). skip_of name n (i + 1) es) z ∙ sym (ap (λ (t : Bool). skip_of name (cond t (suc d - 1) (suc d)) (i + 1) es) (lt-ltb 0 (suc d) (omega arith)))
      go false d q = refl

  other-turns : (k : ℕ) → (k ≡ 0 → ⊥) → (k ≡ 2 → ⊥) → (k ≡ 7 → ⊥) → (k ≡ 8 → ⊥) → over k ≡ skip_of name depth (i + 1) es
  unfolding skip_of event_of
  other-turns k a b c d = rw (ne_eqb k 0 a, ne_eqb k 2 b, ne_eqb k 7 c, ne_eqb k 8 d) (go (eqb k 1) (eqb k 3) (eqb k 4) (eqb k 5) (eqb k 6))
    where
      go : (t u v w x : Bool) →
          skip_of name depth i
          (cond t (Tag Empty bytes first xs) (cond u (Piece Text bytes) (cond v (Piece CData bytes) (cond w (Piece Ref bytes) (cond x (Piece Other bytes) (Piece Indent (10 ∷ [])))))) ∷ es)
          ≡ skip_of name depth (i + 1) es
      go true u v w x = refl
      go false true v w x = refl
      go false false true w x = refl
      go false false false true x = refl
      go false false false false true = refl
      go false false false false false = refl

  -- where neither test holds the depth stays
  same-depth : (k : ℕ) (own : Bool) → (k ≡ 0 → ⊥) → (k ≡ 2 → ⊥) → depth_after k own depth ≡ depth
  same-depth k own a b = rw (ne_eqb k 0 a, ne_eqb k 2 b) (go own)
    where
      go : (t : Bool) → cond (t && false) (depth + 1) (cond ((t && false) && ltb 0 depth) (depth - 1) depth) ≡ depth
      go true = refl
      go false = refl

  pub event-turns : (k : ℕ) → (k ≡ 7 → ⊥) → (k ≡ 8 → ⊥) → ((same_bytes bytes name && eqb k 2) && eqb depth 0) ≡ false → over k ≡ skip_of name (depth_after k (same_bytes bytes name) depth) (i + 1) es
  event-turns k a b h = go (eqb k 0) refl (eqb k 2) refl
    where
      go : (t : Bool) → eqb k 0 ≡ t → (u : Bool) → eqb k 2 ≡ u → over k ≡ skip_of name (depth_after k (same_bytes bytes name) depth) (i + 1) es
      go true p u q = let z = eqb-true k 0 p in rw z start-turns
      go false p true q =
          let z = eqb-true k 2 q in
          rw z (end-turns (sym (ap (λ (t : Bool). (same_bytes bytes name && t) && eqb depth 0) q) ∙ h))
      go false p false q =
          let y = eqb-false k 0 p in
          let z = eqb-false k 2 q in
          other-turns k y z a b ∙ sym (ap (λ (d : ℕ). skip_of name d (i + 1) es) (same-depth k (same_bytes bytes name) y z))

  pub event-ends : (k : ℕ) → ((same_bytes bytes name && eqb k 2) && eqb depth 0) ≡ true → over k ≡ next (i + 1)
  event-ends k h = go (same_bytes bytes name) refl (eqb k 2) refl (eqb depth 0) refl h
    where
      go : (t : Bool) → same_bytes bytes name ≡ t → (u : Bool) → eqb k 2 ≡ u → (v : Bool) → eqb depth 0 ≡ v → ((t && u) && v) ≡ true → over k ≡ next (i + 1)
      go true p true q true r e = let z = eqb-true k 2 q in rw z (end-ends p (eqb-true depth 0 r))
      go true p true q false r e = let z : ◌≡◌ {A = ℕ} 0 1 = cc in absurd (omega arith)
      go true p false q v r e = let z : ◌≡◌ {A = ℕ} 0 1 = cc in absurd (omega arith)
      go false p u q v r e = let z : ◌≡◌ {A = ℕ} 0 1 = cc in absurd (omega arith)

-- ---- all events
-- what lies behind a skip is behind its first event, and a refusal names one of its events or the end of them
abbrev pub Far : ℕ → ℕ → Skip → Type 0
Far i end (next j) = (i < j) × (j ≤ end)
Far i end (broken_at why j) = (i ≤ j) × (j ≤ end)

farther : (i n : ℕ) (s : Skip) → Far (i + 1) (i + 1 + n) s → Far i (i + suc n) s
farther i n (next j) f = (let l = f.0 in omega arith, let h = f.1 in omega arith)
farther i n (broken_at why j) f = (let l = f.0 in omega arith, let h = f.1 in omega arith)

-- a skip goes on by at least one event, and not over the end
pub skip-far : (name : List ℕ) (depth i : ℕ) (es : List Event) → Far i (i + length es) (skip_of name depth i es)
unfolding skip_of
skip-far name depth i [] = (omega arith, omega arith)
skip-far name depth i (Tag Start tag j xs ∷ es) =
    farther i (length es) (skip_of name (cond (same_bytes tag name) (suc depth) depth) (i + 1) es) (skip-far name (cond (same_bytes tag name) (suc depth) depth) (i + 1) es)
skip-far name depth i (Tag Empty tag j xs ∷ es) = farther i (length es) (skip_of name depth (i + 1) es) (skip-far name depth (i + 1) es)
skip-far name depth i (Tag End tag j xs ∷ es) = go (same_bytes tag name) depth (λ d. farther i (length es) (skip_of name d (i + 1) es) (skip-far name d (i + 1) es))
  where
    go : (t : Bool) (d : ℕ) → ((d : ℕ) → Far i (i + suc (length es)) (skip_of name d (i + 1) es))
        → Far i (i + suc (length es)) (cond t (up_from d (next (i + 1)) λ d. skip_of name d (i + 1) es) (skip_of name d (i + 1) es))
    go true zero f = (omega arith, omega arith)
    go true (suc d) f = f d
    go false d f = f d
skip-far name depth i (Piece k bytes ∷ es) = farther i (length es) (skip_of name depth (i + 1) es) (skip-far name depth (i + 1) es)
skip-far name depth i (Eof ∷ es) = (omega arith, omega arith)
skip-far name depth i (Fault ∷ es) = (omega arith, omega arith)

-- ---- the events of a table
-- event i is the next, at that depth; `start` began the skip
pub record Skipping (events source : List ℕ) (start : ℕ) (name : List ℕ) (depth i : ℕ) : Type 0 where
  pub high : i ≤ count_of events
  pub deep : depth ≤ i
  pub same : (attributes : List ℕ) →
      skip_of (bytes_at events source start) 0 (start + 1) (resolve_from events attributes source (count_of events - (start + 1)) (start + 1))
      ≡ skip_of name depth i (resolve_from events attributes source (count_of events - i) i)

pub skipping-start : (events source : List ℕ) (start : ℕ) (name : List ℕ) → start < count_of events
    → name ≡ cond (leb (count_of events) start) [] (bytes_at events source start) → Skipping events source start name 0 (start + 1)
skipping-start events source start name h e = record {
  high = omega arith;
  deep = omega arith;
  same = λ attributes. ap (λ (s : List ℕ). skip_of s 0 (start + 1) (resolve_from events attributes source (count_of events - (start + 1)) (start + 1))) (sym (bytes-in events source start h name e));
}

-- behind the last event
pub skipping-done : {events source : List ℕ} {start : ℕ} {name : List ℕ} {depth i : ℕ} → Skipping events source start name depth i → count_of events ≤ i → (attributes : List ℕ) →
    broken_at cause.EofInSkip (count_of events)
    ≡ skip_of (bytes_at events source start) 0 (start + 1) (resolve_from events attributes source (count_of events - (start + 1)) (start + 1))
skipping-done {events = events} {source = source} {name = name} {depth = depth} {i = i} s h attributes =
    let z : i ≡ count_of events = (let y = s.high in omega arith) in
    sym (s.same attributes ∙ ap (skip_of name depth i) (resolve-end events attributes source (count_of events) i h) ∙ end-breaks name depth i ∙ ap (broken_at cause.EofInSkip) z)

module _ {events source : List ℕ} {start : ℕ} {name : List ℕ} {depth i : ℕ} (s : Skipping events source start name depth i) (k : ℕ) (e : k ≡ cond (leb (count_of events) i) 7 (kind_at events i)) where
  abbrev whole : List ℕ → Skip
  whole attributes = skip_of (bytes_at events source start) 0 (start + 1) (resolve_from events attributes source (count_of events - (start + 1)) (start + 1))

  abbrev rest : List ℕ → List Event
  rest attributes = resolve_from events attributes source (count_of events - (i + 1)) (i + 1)

  -- event i by its kind
  turn : (attributes : List ℕ) → i < count_of events → kind_at events i ≡ k →
      whole attributes ≡ skip_of name depth i (event_of k (bytes_at events source i) (word events i 3) (attributes_from attributes source (word events i 4) (word events i 3)) ∷ rest attributes)
  turn attributes h q =
      s.same attributes ∙ ap (skip_of name depth i) (resolve-next events attributes source (count_of events) i h)
      ∙ ap (λ (x : Event). skip_of name depth i (x ∷ rest attributes)) (event-of-kind events attributes source i k q)

  pub skipping-eof : k ≡ 7 → (attributes : List ℕ) → broken_at cause.EofInSkip i ≡ whole attributes
  skipping-eof z attributes = sym (go (leb (count_of events) i) refl e)
    where
      go : (t : Bool) → leb (count_of events) i ≡ t → k ≡ cond t 7 (kind_at events i) → whole attributes ≡ broken_at cause.EofInSkip i
      go true p q = s.same attributes ∙ ap (skip_of name depth i) (resolve-end events attributes source (count_of events) i (leb-true (count_of events) i p)) ∙ end-breaks name depth i
      go false p q = turn attributes (leb-false (count_of events) i p) (sym q)
          ∙ rw z (eof-breaks name depth i (rest attributes) (bytes_at events source i) (word events i 3) (attributes_from attributes source (word events i 4) (word events i 3)))

  module _ (h : k ≡ 7 → ⊥) where
    skipping-in : i < count_of events
    skipping-in = kind-within events i k e h

    here : (attributes : List ℕ) →
        whole attributes ≡ skip_of name depth i (event_of k (bytes_at events source i) (word events i 3) (attributes_from attributes source (word events i 4) (word events i 3)) ∷ rest attributes)
    here attributes = turn attributes skipping-in (kind-is events i k e h)

    pub skipping-fault : k ≡ 8 → (attributes : List ℕ) → broken_at cause.XmlFault i ≡ whole attributes
    skipping-fault z attributes =
        sym (here attributes ∙ rw z (fault-breaks name depth i (rest attributes) (bytes_at events source i) (word events i 3) (attributes_from attributes source (word events i 4) (word events i 3))))

    -- the bytes that the event has, and whether they are the name's
    module _ (bytes : List ℕ) (b : bytes ≡ cond (leb (count_of events) i) [] (bytes_at events source i)) (own : Bool) (o : own ≡ same_bytes bytes name) where
      is-own : own ≡ same_bytes (bytes_at events source i) name
      is-own = o ∙ ap (λ (s : List ℕ). same_bytes s name) (bytes-in events source i skipping-in bytes b)

      pub skipping-ends : ((own && eqb k 2) && eqb depth 0) ≡ true → (attributes : List ℕ) → next (i + 1) ≡ whole attributes
      skipping-ends q attributes =
          sym (here attributes ∙ event-ends name depth i (rest attributes) (bytes_at events source i) (word events i 3)
          (attributes_from attributes source (word events i 4) (word events i 3)) k (sym (ap (λ (t : Bool). (t && eqb k 2) && eqb depth 0) is-own) ∙ q))

      pub skipping-more : (k ≡ 8 → ⊥) → ((own && eqb k 2) && eqb depth 0) ≡ false → (deeper : ℕ) → deeper ≡ depth_after k own depth → Skipping events source start name deeper (i + 1)
      skipping-more h' q deeper d =
          record {
            high = let z = skipping-in in omega arith;
            deep = let l = depth_low k own depth in let m = s.deep in omega arith;
            same = λ attributes.
                here attributes
                ∙ event-turns name depth i (rest attributes) (bytes_at events source i) (word events i 3)
                (attributes_from attributes source (word events i 4) (word events i 3)) k h h' (sym (ap (λ (t : Bool). (t && eqb k 2) && eqb depth 0) is-own) ∙ q)
                ∙ ap (λ (t : Bool). skip_of name (depth_after k t depth) (i + 1) (rest attributes)) (sym is-own)
                ∙ ap (λ (n : ℕ). skip_of name n (i + 1) (rest attributes)) (sym d);
          }
