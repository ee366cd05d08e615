-- Each listed case has the status that the rule gives for its own status elements. Assumes nothing.
use Prim.Native.Nat.{ℕ, ◌≤◌}
use mathlib.Core.Path.{◌≡◌, refl, sym, ap, ap₂, ◌∙◌, subst}
use mathlib.Core.List.{List, [], ◌∷◌, ◌++◌, map, append_assoc, append-nil}
use mathlib.Core.Bool.{Bool, true, false, cond, ◌&&◌, ◌||◌, or-true, or-false}
use mathlib.Core.Option.{Option, some}
use borrow.Author.Tests.{leb-true, leb-false}
use lib.Dec.{leb}
use Rattle.read_report.specs.of_names.Tags.{tag_of}
use Rattle.read_report.specs.of_refusal.Refusal.{accepted}
use Rattle.read_report.specs.of_table.Event.{Attribute, TagKind, Start, Empty, End, PieceKind, Event, Tag, Piece, Eof, Fault}
use Rattle.list_text.specs.of_tree_report.Report.{Text, Duration}
use Rattle.read_report.specs.of_tree_status.declared.Tally.{Tally}
use Rattle.read_report.specs.of_tree_status.Status.{no_status, tallied, ruled}
use Rattle.read_report.specs.of_read_element.Outcome.{Place, Rooms}
use Rattle.read_report.specs.of_read_state.Control.{Level, top, suite, case, status, Mode, at, gathering, listing, skipping, finished, Control}
use Rattle.read_report.specs.of_read_state.Control.{Act, pass, open_report, open_suite, open_case, open_status, close_suite, close_case, close_status}
use Rattle.read_report.specs.of_read_state.Control.{open_text, close_text, open_list, read_property, stop, missing, broken, is_status, turn}
use Rattle.read_report.specs.of_read_rules.Rules.{plan_at, plan_eof, plan_fault}
use Rattle.read_report.specs.of_read_place.Marks.{Marks}
use Rattle.read_report.specs.of_read_content.Content.{Content, perform}
use Rattle.read_report.specs.of_read_machine.Machine.{Machine, act, step, run, begin}
use Rattle.list_text.specs.Listing.{PublicCase}
use Rattle.public_claims.specs.Agree.{blanked, public, PublicEvent, PublicTag, PublicEof, PublicFault}
use Rattle.public_claims.specs.inside.PublicMachine.{Node, case_node, Said, said, unsaid, Sort, a_suite, a_case_of, sort_of, or_empty, nodes_of, nodes_for}
use Rattle.public_claims.specs.inside.PublicMachine.{public_act, PublicState, acting, ending, public_step, public_run, nodes_read, public_report, case_from}
use Rattle.public_claims.specs.OwnStatus.{Spot, at_report, in_suite, in_case, in_status, over, is_status_name, move, own_at, leaves, own_from}
use Rattle.public_claims.specs.OwnStatus.{begins_report, cases_from, own_statuses, rule, verdict_of, cases_listed, Ruled, no-case, one-case}
use Rattle.public_claims.proofs.Holding.{Holds, accept, refusing, held, bind, weaken, testing, anything}
use Rattle.public_claims.proofs.View.{sort-main, sort-run}
use Rattle.public_claims.proofs.Acts.{impossible}
use Rattle.public_claims.proofs.Rules.{Codes, no_code, main_code, run-code, codes-append, tally_from, tally-append, case-told}
use Rattle.public_claims.proofs.Walks.{spot_at, spot_of, Zone, outer, suited, cased, zone_at, zone, mode_after, turn-mode, begins, new_case, owned, Zoned, Goes, plan-means}
use Rattle.public_claims.proofs.CaseNodes.{listed_in, Reported, Suited, suited-reported, suited-more, suited-suite, listed-suite, listed-case}

ruled-append : {cs : List PublicCase} {kss : List (List ℕ)} (c : PublicCase) (ks : List ℕ) → Ruled cs kss → rule ks ≡ some (verdict_of c) → Ruled (cs ++ (c ∷ [])) (kss ++ (ks ∷ []))
ruled-append c ks no-case e = one-case e no-case
ruled-append c ks (one-case f h) e = one-case f (ruled-append c ks h e)

-- ---- what is kept between two events; `rest` are the own status elements still to come in an open case
record Inside (tally : Tally) (ns : List Node) (found : List (List ℕ)) (rest : List ℕ) : Type 0 where
  before : List Node
  name : Text
  classname : Option Text
  time : Option Duration
  stats : List Node
  codes : List ℕ
  earlier : List (List ℕ)
  nodes : ns ≡ before ++ (case_node name classname time ∷ stats)
  suiting : Suited before
  coded : Codes stats codes
  tallying : tally ≡ tally_from no_status codes
  ruling : Ruled (listed_in before) earlier
  finds : found ≡ earlier ++ ((codes ++ rest) ∷ [])

abbrev Kept : Zone → Bool → Tally → List Node → List (List ℕ) → List ℕ → Type 0
Kept outer seen tally ns found rest = Ruled (listed_in ns) found × (seen ≡ true → Reported ns)
Kept suited seen tally ns found rest = Ruled (listed_in ns) found × Suited ns
Kept cased seen tally ns found rest = Inside tally ns found rest

more-found : (z : Zone) (seen : Bool) (tally : Tally) (ns : List Node) (found : List (List ℕ)) (rest : List ℕ) → Kept z seen tally ns found rest → Kept z seen tally ns (found ++ []) rest
more-found z seen tally ns found rest h = subst (λ (f : List (List ℕ)). Kept z seen tally ns f rest) (sym (append-nil found)) h

-- the action's own condition: the status rule at a case's End
abbrev Ruling : Act → Tally → Type 0
Ruling close_case t = ruled t ≡ true
Ruling (pass n) t = Unit {0}
Ruling (open_report e) t = Unit {0}
Ruling (open_suite e) t = Unit {0}
Ruling (open_case e) t = Unit {0}
Ruling (open_status k e) t = Unit {0}
Ruling close_suite t = Unit {0}
Ruling close_status t = Unit {0}
Ruling (open_text l o) t = Unit {0}
Ruling (close_text l o) t = Unit {0}
Ruling (open_list l e) t = Unit {0}
Ruling (read_property l e name) t = Unit {0}
Ruling stop t = Unit {0}
Ruling missing t = Unit {0}
Ruling (broken n) t = Unit {0}

-- ---- the nodes of each action
suite-node : (xs : List Attribute) → nodes_for 2 xs ≡ nodes_of a_suite 2 (said xs unsaid)
unfolding sort_of
suite-node xs = refl

case-node : (xs : List Attribute) → nodes_for 3 xs ≡ nodes_of a_case_of 3 (said xs unsaid)
unfolding sort_of
case-node xs = refl

report-kept : (seen : Bool) (tally : Tally) (xs : List Attribute) (rest : List ℕ) → Kept outer seen tally (nodes_for 1 xs) [] rest
unfolding sort_of
report-kept seen tally xs rest = (no-case, λ _. tt)

status-code : (k : ℕ) (xs : List Attribute) → is_status k ≡ true → Codes (nodes_for k xs) (k ∷ [])
status-code k xs e = go₁ (leb 6 k) refl (leb k 12) refl e
  where
    go₂ : 6 ≤ k → k ≤ 12 → (b : Bool) → leb k 8 ≡ b → Codes (nodes_for k xs) (k ∷ [])
    go₂ a c true f = subst (λ (σ : Sort). Codes (nodes_of σ k (said xs unsaid)) (k ∷ [])) (sym (sort-main k a (leb-true k 8 f))) (main_code k a (leb-true k 8 f) no_code)
    go₂ a c false f = subst (λ (σ : Sort). Codes (nodes_of σ k (said xs unsaid)) (k ∷ [])) (sym (sort-run k (leb-false k 8 f) c)) (run-code k (said xs unsaid).time (leb-false k 8 f) c no_code)

    go₁ : (x : Bool) → leb 6 k ≡ x → (y : Bool) → leb k 12 ≡ y → (x && y) ≡ true → Codes (nodes_for k xs) (k ∷ [])
    go₁ true p true q e = go₂ (leb-true 6 k p) (leb-true k 12 q) (leb k 8) refl
    go₁ true p false q e = impossible e
    go₁ false p y q e = impossible e

-- behind a case's End nothing is its own
left-own : (es : List PublicEvent) → own_from in_suite es ≡ []
unfolding own_from
left-own [] = refl
left-own (PublicTag k name xs ∷ es) = refl
left-own (PublicEof ∷ es) = refl
left-own (PublicFault ∷ es) = refl

more-status : (k : ℕ) (xs : List Attribute) (tally : Tally) (ns : List Node) (found : List (List ℕ)) (rest : List ℕ) → is_status k ≡ true → Inside tally ns found (k ∷ rest) →
    Inside (tallied tally k) (ns ++ nodes_for k xs) (found ++ []) rest
more-status k xs tally ns found rest e i =
    record {
      before = i.before;
      name = i.name;
      classname = i.classname;
      time = i.time;
      stats = i.stats ++ nodes_for k xs;
      codes = i.codes ++ (k ∷ []);
      earlier = i.earlier;
      nodes = ap (◌++ nodes_for k xs) i.nodes ∙ append_assoc i.before (case_node i.name i.classname i.time ∷ i.stats) (nodes_for k xs);
      suiting = i.suiting;
      coded = codes-append i.coded (status-code k xs e);
      tallying = ap (λ (t : Tally). tallied t k) i.tallying ∙ sym (tally-append no_status i.codes k);
      ruling = i.ruling;
      finds = append-nil found ∙ i.finds ∙ ap (λ (l : List ℕ). i.earlier ++ (l ∷ [])) (sym (append_assoc i.codes (k ∷ []) rest));
    }

closed-case : (tally : Tally) (ns : List Node) (found : List (List ℕ)) (rest : List ℕ) (seen : Bool) → rest ≡ [] → ruled tally ≡ true → Inside tally ns found rest →
    Ruled (listed_in ns) (found ++ []) × Suited ns
closed-case tally ns found rest seen z e i =
    let told : rule i.codes ≡ some (verdict_of (case_from i.name i.classname i.time i.stats)) =
    case-told i.name i.classname i.time i.coded (ap ruled (sym i.tallying) ∙ e) in
    let f : (found ++ []) ≡ i.earlier ++ (i.codes ∷ []) =
    append-nil found ∙ i.finds ∙ ap (λ (l : List ℕ). i.earlier ++ ((i.codes ++ l) ∷ [])) z ∙ ap (λ (l : List ℕ). i.earlier ++ (l ∷ [])) (append-nil i.codes) in
    let l : listed_in ns ≡ listed_in i.before ++ (case_from i.name i.classname i.time i.stats ∷ []) =
    ap listed_in i.nodes ∙ listed-case i.name i.classname i.time i.coded i.before i.suiting in (
      subst (λ (x : List PublicCase). Ruled x (found ++ [])) (sym l) (subst (λ (x : List (List ℕ)). Ruled (listed_in i.before ++ (case_from i.name i.classname i.time i.stats ∷ [])) x)
          (sym f) (ruled-append (case_from i.name i.classname i.time i.stats) i.codes i.ruling told)),
      subst Suited (sym i.nodes) (suited-more i.before (case_node i.name i.classname i.time ∷ i.stats) i.suiting),
    )

opened-suite : (xs : List Attribute) (ns : List Node) (found : List (List ℕ)) → Ruled (listed_in ns) found
    → Reported ns → Ruled (listed_in (ns ++ nodes_for 2 xs)) (found ++ []) × Suited (ns ++ nodes_for 2 xs)
unfolding sort_of
opened-suite xs ns found h r = (
  subst (λ (x : List PublicCase). Ruled x (found ++ [])) (sym (listed-suite ns _ _)) (subst (λ (x : List (List ℕ)). Ruled (listed_in ns) x) (sym (append-nil found)) h),
  suited-suite ns _ _ r,
)

no-rule : ruled no_status ≡ true
unfolding ruled
no-rule = refl

opened-empty : (xs : List Attribute) (ns : List Node) (found : List (List ℕ)) → Ruled (listed_in ns) found → Suited ns →
    Ruled (listed_in (ns ++ nodes_for 3 xs)) (found ++ ([] ∷ [])) × Suited (ns ++ nodes_for 3 xs)
unfolding sort_of
opened-empty xs ns found h r =
    let s : Said = said xs unsaid in
    let n : Text = or_empty s.name in (
      subst (λ (x : List PublicCase). Ruled x (found ++ ([] ∷ []))) (sym (listed-case n s.classname s.time no_code ns r))
          (ruled-append (case_from n s.classname s.time []) [] h (case-told n s.classname s.time no_code no-rule)),
      suited-more ns _ r,
    )

opened-case : (xs : List Attribute) (ns : List Node) (found : List (List ℕ)) (rest : List ℕ)
    → Ruled (listed_in ns) found → Suited ns → Inside no_status (ns ++ nodes_for 3 xs) (found ++ (rest ∷ [])) rest
unfolding sort_of
opened-case xs ns found rest h r =
    record {
      before = ns;
      name = _;
      classname = _;
      time = _;
      stats = [];
      codes = [];
      earlier = found;
      nodes = refl;
      suiting = r;
      coded = no_code;
      tallying = refl;
      ruling = h;
      finds = refl;
    }

-- ---- each action
in-zone : {z y : Zone} (seen : Bool) (tally : Tally) (ns : List Node) (found : List (List ℕ)) (rest : List ℕ) → z ≡ y → Kept z seen tally ns found rest → Kept y seen tally ns found rest
in-zone seen tally ns found rest e h = subst (λ (z : Zone). Kept z seen tally ns found rest) e h

step_kept : (a : Act) (xs : List Attribute) (k : Control) (ns : List Node) (found : List (List ℕ)) (es : List PublicEvent) → Zoned k.mode k.seen a → Goes a → Ruling a k.tally →
    Kept (zone k.mode) k.seen k.tally ns found (owned a ++ own_from (spot_of (mode_after a k.mode)) es) →
    Kept (zone (turn a k).mode) (turn a k).seen (turn a k).tally (public_act a xs ns) (cond (begins a) [] (found ++ new_case a es)) (own_from (spot_of (mode_after a k.mode)) es)
unfolding turn public_act
step_kept (pass n) xs k ns found es z g r h =
    more-found (zone n) k.seen k.tally ns found (own_from (spot_of n) es) (in-zone k.seen k.tally ns found (own_from (spot_of n) es) (sym z) h)
step_kept (open_report e) xs k ns found es z g r h = report-kept true no_status xs (own_from at_report es)
step_kept (open_suite true) xs k ns found es z g r h =
    let i = in-zone k.seen k.tally ns found (own_from at_report es) z.0 h in
    let j = opened-suite xs ns found i.0 (i.1 z.1) in
    (j.0, λ _. suited-reported (ns ++ nodes_for 2 xs) j.1)
step_kept (open_suite false) xs k ns found es z g r h =
    let i = in-zone k.seen k.tally ns found (own_from in_suite es) z.0 h in
    opened-suite xs ns found i.0 (i.1 z.1)
step_kept (open_case true) xs k ns found es z g r h =
    let i = in-zone k.seen k.tally ns found (own_from in_suite es) z h in
    opened-empty xs ns found i.0 i.1
step_kept (open_case false) xs k ns found es z g r h =
    let i = in-zone k.seen k.tally ns found (own_from in_case es) z h in
    opened-case xs ns found (own_from in_case es) i.0 i.1
step_kept (open_status n true) xs k ns found es z g r h =
    more-status n xs k.tally ns found (own_from in_case es) z.1 (in-zone k.seen k.tally ns found (n ∷ own_from in_case es) z.0 h)
step_kept (open_status n false) xs k ns found es z g r h =
    more-status n xs k.tally ns found (own_from in_status es) z.1 (in-zone k.seen k.tally ns found (n ∷ own_from in_status es) z.0 h)
step_kept close_suite xs k ns found es z g r h =
    let i = in-zone k.seen k.tally ns found (own_from at_report es) z h in
    more-found outer k.seen no_status ns found (own_from at_report es) (i.0, λ _. suited-reported ns i.1)
step_kept close_case xs k ns found es z g r h =
    closed-case k.tally ns found (own_from in_suite es) k.seen (left-own es) r (in-zone k.seen k.tally ns found (own_from in_suite es) z h)
step_kept close_status xs k ns found es z g r h =
    more-found cased k.seen k.tally ns found (own_from in_case es) (in-zone k.seen k.tally ns found (own_from in_case es) z h)
step_kept (open_text l o) xs k ns found es z g r h =
    let s : Spot = spot_of (gathering l o) in
    more-found (zone_at l) k.seen k.tally ns found (own_from s es) (in-zone k.seen k.tally ns found (own_from s es) (sym z) h)
step_kept (close_text l o) xs k ns found es z g r h =
    more-found (zone_at l) k.seen k.tally ns found (own_from (spot_at l) es) (in-zone k.seen k.tally ns found (own_from (spot_at l) es) (sym z) h)
step_kept (open_list l true) xs k ns found es z g r h =
    more-found (zone_at l) k.seen k.tally ns found (own_from (spot_at l) es) (in-zone k.seen k.tally ns found (own_from (spot_at l) es) (sym z) h)
step_kept (open_list l false) xs k ns found es z g r h =
    let s : Spot = spot_of (listing l) in
    more-found (zone_at l) k.seen k.tally ns found (own_from s es) (in-zone k.seen k.tally ns found (own_from s es) (sym z) h)
step_kept (read_property l true name) xs k ns found es z g r h = more-found (zone k.mode) k.seen k.tally ns found (own_from (spot_of k.mode) es) h
step_kept (read_property l false name) xs k ns found es z g r h =
    let s : Spot = spot_of (skipping (listing l) name 0) in
    more-found (zone_at l) k.seen k.tally ns found (own_from s es) (in-zone k.seen k.tally ns found (own_from s es) (sym z) h)
step_kept stop xs k ns found es z g r h =
    more-found outer k.seen k.tally ns found (own_from over es) (in-zone k.seen k.tally ns found (own_from over es) z h)
step_kept missing xs k ns found es z g r h = absurd g
step_kept (broken n) xs k ns found es z g r h = absurd g

turn-seen : (a : Act) (c : Control) → (turn a c).seen ≡ (c.seen || begins a)
unfolding turn
turn-seen (open_report e) c = sym (or-true c.seen)
turn-seen (pass n) c = sym (or-false c.seen)
turn-seen (open_suite e) c = sym (or-false c.seen)
turn-seen (open_case e) c = sym (or-false c.seen)
turn-seen (open_status k e) c = sym (or-false c.seen)
turn-seen close_suite c = sym (or-false c.seen)
turn-seen close_case c = sym (or-false c.seen)
turn-seen close_status c = sym (or-false c.seen)
turn-seen (open_text l o) c = sym (or-false c.seen)
turn-seen (close_text l o) c = sym (or-false c.seen)
turn-seen (open_list l e) c = sym (or-false c.seen)
turn-seen (read_property l true name) c = sym (or-false c.seen)
turn-seen (read_property l false name) c = sym (or-false c.seen)
turn-seen stop c = sym (or-false c.seen)
turn-seen missing c = sym (or-false c.seen)
turn-seen (broken n) c = sym (or-false c.seen)

-- ---- the own status elements, one event on
abbrev is_cased : Zone → Bool
is_cased outer = false
is_cased suited = false
is_cased cased = true

joins : (b : Bool) (k : ℕ) (rest : List ℕ) → cond b (k ∷ rest) rest ≡ cond b (k ∷ []) [] ++ rest
joins true k rest = refl
joins false k rest = refl

cased-level : (l : Level) → zone_at l ≡ cased → leaves (spot_at l) ≡ false
cased-level top z = impossible (ap is_cased z)
cased-level suite z = impossible (ap is_cased z)
cased-level case z = refl
cased-level status z = refl

cased-mode : (m : Mode) → zone m ≡ cased → leaves (spot_of m) ≡ false
cased-mode (at l) z = cased-level l z
cased-mode (gathering l o) z = cased-level l z
cased-mode (listing l) z = cased-level l z
cased-mode (skipping m name depth) z = cased-mode m z
cased-mode finished z = impossible (ap is_cased z)

own-step : (seen : Bool) (m : Mode) (k : TagKind) (name : List ℕ) (xs : List Attribute) (es : List PublicEvent) → zone m ≡ cased →
    own_from (spot_of m) (PublicTag k name xs ∷ es) ≡ cond (own_at (spot_of m) k name) (tag_of name ∷ []) [] ++ own_from (move seen (spot_of m) k name) es
unfolding own_from move
own-step seen (at top) k name xs es z = impossible (ap is_cased z)
own-step seen (at suite) k name xs es z = impossible (ap is_cased z)
own-step seen (at case) Start name xs es z = joins (is_status_name name) (tag_of name) (own_from (move seen in_case Start name) es)
own-step seen (at case) Empty name xs es z = joins (is_status_name name) (tag_of name) (own_from in_case es)
own-step seen (at case) End name xs es z = refl
own-step seen (at status) Start name xs es z = refl
own-step seen (at status) Empty name xs es z = refl
own-step seen (at status) End name xs es z = refl
own-step seen (gathering l o) Start name xs es z = rw (cased-level l z)
own-step seen (gathering l o) Empty name xs es z = rw (cased-level l z)
own-step seen (gathering l o) End name xs es z = rw (cased-level l z)
own-step seen (listing l) Start name xs es z = rw (cased-level l z)
own-step seen (listing l) Empty name xs es z = rw (cased-level l z)
own-step seen (listing l) End name xs es z = rw (cased-level l z)
own-step seen (skipping m skipped depth) Start name xs es z = rw (cased-mode m z)
own-step seen (skipping m skipped depth) Empty name xs es z = rw (cased-mode m z)
own-step seen (skipping m skipped depth) End name xs es z = rw (cased-mode m z)
own-step seen finished k name xs es z = impossible (ap is_cased z)

kept-rest : (z : Zone) (seen : Bool) (tally : Tally) (ns : List Node) (found : List (List ℕ)) (r s : List ℕ) → (z ≡ cased → r ≡ s) → Kept z seen tally ns found r → Kept z seen tally ns found s
kept-rest outer seen tally ns found r s e h = h
kept-rest suited seen tally ns found r s e h = h
kept-rest cased seen tally ns found r s e h = subst (Inside tally ns found) (e refl) h

-- ---- what is kept behind one tag
abbrev KeptOf : Control → List Node → List (List ℕ) → List PublicEvent → Type 0
KeptOf c ns found es = Kept (zone c.mode) c.seen c.tally ns found (own_from (spot_of c.mode) es)

tag-kept : (c : Control) (ns : List Node) (found : List (List ℕ)) (k : TagKind) (name : List ℕ) (xs : List Attribute) (es : List PublicEvent) →
    let a : Act = plan_at c.mode c.seen k name in Goes a → Ruling a c.tally → KeptOf c ns found (PublicTag k name xs ∷ es) →
    KeptOf (turn a c) (public_act a xs ns) (cond (begins a) [] (found ++ new_case a es)) es
tag-kept c ns found k name xs es g r h =
    let a : Act = plan_at c.mode c.seen k name in
    let m = plan-means c.seen c.mode k name g in
    let e : (zone c.mode ≡ cased → own_from (spot_of c.mode) (PublicTag k name xs ∷ es) ≡ owned a ++ own_from (spot_of (mode_after a c.mode)) es) =
    λ z. own-step c.seen c.mode k name xs es z ∙ ap₂ (λ (o : List ℕ) (s : Spot). o ++ own_from s es) (sym m.own) (sym m.moved) in
    let j = step_kept a xs c ns found es m.zoned g r (kept-rest (zone c.mode) c.seen c.tally ns found _ _ e h) in
    subst (λ (n : Mode). Kept (zone (turn a c).mode) (turn a c).seen (turn a c).tally (public_act a xs ns) (cond (begins a) [] (found ++ new_case a es)) (own_from (spot_of n) es))
    (sym (turn-mode a c)) j

-- and what the walk has found there
tag-found : (c : Control) (found : List (List ℕ)) (k : TagKind) (name : List ℕ) (xs : List Attribute) (es : List PublicEvent) →
    let a : Act = plan_at c.mode c.seen k name in Goes a →
    cases_from (turn a c).seen (spot_of (turn a c).mode) (cond (begins a) [] (found ++ new_case a es)) es ≡ cases_from c.seen (spot_of c.mode) found (PublicTag k name xs ∷ es)
unfolding cases_from
tag-found c found k name xs es g =
    let a : Act = plan_at c.mode c.seen k name in
    let m = plan-means c.seen c.mode k name g in
    ap₂ (λ (b : Bool) (s : Spot). cases_from b s (cond (begins a) [] (found ++ new_case a es)) es)
    (turn-seen a c ∙ ap (λ (b : Bool). c.seen || b) m.begun) (ap spot_of (turn-mode a c) ∙ m.moved)
    ∙ ap₂ (λ (b : Bool) (f : List (List ℕ)). cases_from (c.seen || begins_report (spot_of c.mode) k name) (move c.seen (spot_of c.mode) k name) (cond b [] (found ++ f)) es)
    m.begun (m.found es)

-- ---- Eof and Fault
-- nothing comes behind the end
finished-nodes : (es : List PublicEvent) (p : PublicState) → p.control.mode ≡ finished → (public_run es p).nodes ≡ p.nodes
unfolding public_run public_step ending acting plan_at plan_eof plan_fault public_act turn
finished-nodes [] p e = rw e
finished-nodes (PublicTag k name xs ∷ es) p e = finished-nodes es (public_step (PublicTag k name xs) p) (rw e) ∙ rw e
finished-nodes (PublicEof ∷ es) p e = finished-nodes es (public_step PublicEof p) (rw e) ∙ rw e
finished-nodes (PublicFault ∷ es) p e = finished-nodes es (public_step PublicFault p) (rw e) ∙ rw e

-- an action that ends reading: nothing is read any more
record Last (m : Mode) (a : Act) : Type 0 where
  outside : zone m ≡ outer
  same : (ns : List Node) → public_act a [] ns ≡ ns
  ends : (c : Control) → (turn a c).mode ≡ finished

last-stop : (m : Mode) → zone m ≡ outer → Last m stop
unfolding public_act turn
last-stop m z = record { outside = z; same = λ ns. refl; ends = λ c. refl }

last-pass : Last finished (pass finished)
unfolding public_act turn
last-pass = record { outside = refl; same = λ ns. refl; ends = λ c. refl }

eof-last : (m : Mode) (seen closed : Bool) → Goes (plan_eof m seen closed) → Last m (plan_eof m seen closed)
unfolding plan_eof
eof-last (at top) true true g = last-stop (at top) refl
eof-last (at top) true false g = absurd g
eof-last (at top) false closed g = absurd g
eof-last (at suite) seen closed g = absurd g
eof-last (at case) seen closed g = absurd g
eof-last (at status) seen closed g = absurd g
eof-last (gathering l o) seen closed g = absurd g
eof-last (listing l) seen closed g = absurd g
eof-last (skipping m skipped depth) seen closed g = absurd g
eof-last finished seen closed g = last-pass

fault-last : (m : Mode) → Goes (plan_fault m) → Last m (plan_fault m)
unfolding plan_fault
fault-last (at l) g = absurd g
fault-last (gathering l o) g = absurd g
fault-last (listing l) g = absurd g
fault-last (skipping m skipped depth) g = absurd g
fault-last finished g = last-pass

-- ---- the reader's run
module _ (rooms : Rooms) where
  perform-passes : (p : Place) (a : Act) (j : ℕ) (xs : List Attribute) (k : Control) (m : Marks) (c : Content) → Holds (λ _. Goes a × Ruling a k.tally) (perform rooms p a j xs k m c)
  unfolding perform
  perform-passes p (pass n) j xs k m c = weaken (anything _) λ _ _. (tt, tt)
  perform-passes p (open_report e) j xs k m c = weaken (anything _) λ _ _. (tt, tt)
  perform-passes p (open_suite e) j xs k m c = weaken (anything _) λ _ _. (tt, tt)
  perform-passes p (open_case e) j xs k m c = weaken (anything _) λ _ _. (tt, tt)
  perform-passes p (open_status n e) j xs k m c = weaken (anything _) λ _ _. (tt, tt)
  perform-passes p close_suite j xs k m c = weaken (anything _) λ _ _. (tt, tt)
  perform-passes p close_case j xs k m c = testing (ruled k.tally) _ _ λ e. accept (tt, e)
  perform-passes p close_status j xs k m c = weaken (anything _) λ _ _. (tt, tt)
  perform-passes p (open_text l o) j xs k m c = weaken (anything _) λ _ _. (tt, tt)
  perform-passes p (close_text l o) j xs k m c = weaken (anything _) λ _ _. (tt, tt)
  perform-passes p (open_list l e) j xs k m c = weaken (anything _) λ _ _. (tt, tt)
  perform-passes p (read_property l e name) j xs k m c = weaken (anything _) λ _ _. (tt, tt)
  perform-passes p stop j xs k m c = weaken (anything _) λ _ _. (tt, tt)
  perform-passes p missing j xs k m c = refusing
  perform-passes p (broken n) j xs k m c = refusing

  record Passed (a : Act) (c : Control) (t : Machine) : Type 0 where
    goes : Goes a
    ruling : Ruling a c.tally
    same : t.control ≡ turn a c

  act-passes : (a : Act) (j : ℕ) (xs : List Attribute) (s : Machine) → Holds (Passed a s.control) (act rooms a j xs s)
  unfolding act
  act-passes a j xs s = bind (perform-passes _ a j xs s.control s.marks s.content) λ c g. accept (record { goes = g.0; ruling = g.1; same = refl })

  piece-passes : (k : PieceKind) (b : List ℕ) (s : Machine) → Holds (λ (t : Machine). t.control ≡ s.control) (step rooms (Piece k b) s)
  unfolding step
  piece-passes k b s = bind (anything _) λ c _. accept refl

  abbrev Told : Control → List Node → List (List ℕ) → List PublicEvent → Type 0
  Told c ns found es = Ruled (listed_in (public_run es (record { control = c; nodes = ns })).nodes) (cases_from c.seen (spot_of c.mode) found es)

  outside-ruled : (z : Zone) (seen : Bool) (tally : Tally) (ns : List Node) (found : List (List ℕ)) (rest : List ℕ) → z ≡ outer → Kept z seen tally ns found rest → Ruled (listed_in ns) found
  outside-ruled z seen tally ns found rest e h = (in-zone seen tally ns found rest e h).0

  last-told : (a : Act) (c : Control) (ns : List Node) (found : List (List ℕ)) (es : List PublicEvent) (rest : List ℕ) → Last c.mode a → Kept (zone c.mode) c.seen c.tally ns found rest →
      Ruled (listed_in (public_run es (acting a [] (record { control = c; nodes = ns }))).nodes) found
  unfolding acting
  last-told a c ns found es rest l h =
      subst (λ (x : List Node). Ruled (listed_in x) found) (sym (finished-nodes es (record { control = turn a c; nodes = public_act a [] ns }) (l.ends c) ∙ l.same ns))
      (outside-ruled (zone c.mode) c.seen c.tally ns found rest l.outside h)

  own-run : (es : List Event) (s : Machine) (ns : List Node) (found : List (List ℕ)) → KeptOf s.control ns found (public es) → Holds (λ _. Told s.control ns found (public es)) (run rooms es s)
  unfolding run step public_run public_step ending cases_from acting
  own-run [] s ns found h =
      weaken (act-passes (plan_eof s.control.mode s.control.seen s.control.closed) 0 [] s)
      λ t g.
      let l = eof-last s.control.mode s.control.seen s.control.closed g.goes in
      subst (λ (x : List Node). Ruled (listed_in x) found) (sym (l.same ns)) (outside-ruled (zone s.control.mode) s.control.seen s.control.tally ns found _ l.outside h)
  own-run (Tag k name j xs ∷ es) s ns found h =
      let a : Act = plan_at s.control.mode s.control.seen k name in
      let ms : List Node = public_act a (map blanked xs) ns in
      let next : List (List ℕ) = cond (begins a) [] (found ++ new_case a (public es)) in
      bind (act-passes a j xs s)
      λ t g.
      weaken
      (subst (λ (c : Control). KeptOf c ms next (public es) → Holds (λ _. Told c ms next (public es)) (run rooms es t)) g.same (own-run es t ms next)
      (tag-kept s.control ns found k name (map blanked xs) (public es) g.goes g.ruling h))
      λ u r. subst (λ (x : List (List ℕ)). Ruled (listed_in (public_run (public es) (record { control = turn a s.control; nodes = ms })).nodes) x)
      (tag-found s.control found k name (map blanked xs) (public es) g.goes) r
  own-run (Piece k b ∷ es) s ns found h =
      bind (piece-passes k b s)
      λ t g. subst (λ (c : Control). KeptOf c ns found (public es) → Holds (λ _. Told c ns found (public es)) (run rooms es t)) g (own-run es t ns found) h
  own-run (Eof ∷ es) s ns found h =
      bind (act-passes (plan_eof s.control.mode s.control.seen s.control.closed) 0 [] s)
      λ t g. weaken (anything (run rooms es t))
      λ _ _. last-told _ s.control ns found (public es) _ (eof-last s.control.mode s.control.seen s.control.closed g.goes) h
  own-run (Fault ∷ es) s ns found h =
      bind (act-passes (plan_fault s.control.mode) 0 [] s)
      λ t g. weaken (anything (run rooms es t)) λ _ _. last-told _ s.control ns found (public es) _ (fault-last s.control.mode g.goes) h

-- case by case, the rule gives for the own status elements what the public machine's report lists
pub cases-ruled : (rooms : Rooms) (es : List Event) (s : Machine) → run rooms es begin ≡ accepted s → Ruled (cases_listed (public_report (public es))) (own_statuses (public es))
unfolding public_report nodes_read own_statuses
cases-ruled rooms es s e = held (rw e at (own-run rooms es begin [] [] (no-case, impossible)))
