-- Demand 3, whole: what is claimed of the public listing. The claims are types; proofs/Demand3.antt has a proof of each. Definitions only.
--
-- Whoever wants to be sure of what is claimed reads these definitions, each beside the rules (docs/RULES.md) that it states:
--   table_of, resolve (crate table: Table, Event)               refusal 11; a table's events with their bytes and attributes
--   deserialize, deserialize_in (crate read_report: Deserialize) the report that the rules of reading give for events, with no areas; and in areas
--   answer_to (crate read_report: Answer)                        what reading a table answers
--   render (crate list_text: Listing)                           the text of a report's listing
--   refused_text (PublicListing)                                 what stands for any refusal where a listing is printed
--   public, TablesAgree (Agree)                                 the public part of a table; when two tables agree
--   own_statuses, rule, Ruled (OwnStatus)                        each case's own status elements in a table, the status rule, and both side by side
--
-- The listing is that of reading and listing in one call, `listed_to`. That the calls answer and list this, whatever the areas held before, is what
-- OnValues claims.
use Rattle.std.specs.Prelude.{ℕ, ◌<◌, ◌≡◌, List, Bool, true, false, cond, ◌⊎◌, ◌↔◌, leb, length}
use Rattle.read_report.specs.of_refusal.Refusal.{Refused, Outcome, accepted, refused, late}
use Rattle.read_report.specs.of_refusal.declared.Cause.TheVariants.{RecordsSpent, TextFull, ScratchFull, OutputFull}
use Rattle.list_text.specs.of_tree_report.Report.{Report}
use Rattle.read_report.specs.Deserialize.{deserialize}
use Rattle.read_report.specs.Answer.{Table, Areas, events_of, checked, answer_to}
use Rattle.list_text.specs.Listing.{PublicCase, public_part, render}
use Rattle.public_claims.specs.Agree.{public, TablesAgree}
use Rattle.public_claims.specs.OwnStatus.{own_statuses, cases_of_all, Ruled}
use Rattle.public_claims.specs.PublicListing.{refused_text, is_accepted}

-- ---- what the claims speak of
-- reading accepts
abbrev pub is_read : Table → Areas → Bool
is_read t a = is_accepted (answer_to t a)

-- a text in an output area of n bytes; 16, which names no place, if that is too short (rule L11)
abbrev pub placed_in : ℕ → List ℕ → Outcome (List ℕ)
placed_in n f = cond (leb (length f) n) (accepted f) (refused (late OutputFull))

-- listing behind reading, whose refusal is passed on whole
abbrev pub listed_in : ℕ → Outcome Report → Outcome (List ℕ)
listed_in n (accepted r) = placed_in n (render r)
listed_in n (refused why) = refused why

-- reading and listing in one call: the bytes of the listing, or the refusal (rule L13)
abbrev pub listed_to : Table → Areas → Outcome (List ℕ)
listed_to t a = listed_in a.output (answer_to t a)

-- what is printed of it (rule L3)
abbrev pub printed : Outcome (List ℕ) → List ℕ
printed (accepted f) = f
printed (refused why) = refused_text

abbrev pub listing : Table → Areas → List ℕ
listing t a = printed (listed_to t a)

-- a text that is printed where it fits
abbrev pub fitted : ℕ → List ℕ → List ℕ
fitted n f = printed (placed_in n f)

-- rule L2
abbrev pub Agreeing : Table → Table → Type 0
Agreeing t u = TablesAgree t.events t.attributes t.source u.events u.attributes u.source

-- the report that the rules of reading give, whatever the areas
abbrev pub IsReport : Table → Report → Type 0
IsReport t r = deserialize (events_of t) ≡ accepted r

-- all cases of a report, as they are listed and in that order
abbrev pub cases_of : Report → List PublicCase
cases_of r = cases_of_all (public_part r).suites

-- the output area is too short for the report's listing
abbrev pub TooShort : Table → Areas → Type 0
TooShort t a = (r : Report) × IsReport t r × (a.output < length (render r))

-- why reading refuses with r: 11, which comes first (rule T6)
abbrev pub RefusesTable : Table → Refused → Type 0
RefusesTable t r = checked t ≡ refused r

-- the rules of reading refuse the table's events, whatever the areas
abbrev pub RefusesEvents : Table → Refused → Type 0
RefusesEvents t r = deserialize (events_of t) ≡ refused r

-- room is short: 12, 13, 14
abbrev pub LacksRoom : Refused → Type 0
LacksRoom r = (r.cause ≡ RecordsSpent) ⊎ ((r.cause ≡ TextFull) ⊎ (r.cause ≡ ScratchFull))

-- an accepted table's report, and what is listed
pub record Listed (t : Table) (a : Areas) : Type 0 where
  pub report : Report
  pub read : IsReport t report
  pub shown : listing t a ≡ fitted a.output (render report)
  -- case by case: the status, run kind and number of runs that the rule gives for the case's own status elements in the table
  pub ruled : Ruled (cases_of report) (own_statuses (public (events_of t)))

-- ---- the claims
pub record Demand3 : Type 0 where
  -- B (rule L4). Tables that agree, both accepted or both refused by reading, have the same public listing; so with areas of equal lengths, and also where
  -- only the output areas are equally long.
  pub same_listing : (t u : Table) (a b : Areas) → Agreeing t u → is_read t a ≡ is_read u b → a.output ≡ b.output → listing t a ≡ listing u b
  -- C (rule L5). The listing of an accepted table holds exactly the cases of its report, in their order, each with what the status rule gives for it.
  -- D. That report is the one that the rules of reading give for the table.
  pub listed : (t : Table) (a : Areas) → is_read t a ≡ true → Listed t a
  -- D. The answer is `(refused)` exactly where reading refuses or the output area is too short.
  pub refused_exactly : (t : Table) (a : Areas) → (listing t a ≡ refused_text) ↔ ((is_read t a ≡ false) ⊎ TooShort t a)
  -- D. Reading refuses exactly if 11 does, or the rules of reading do, or room is short.
  pub read_refuses : (t : Table) (a : Areas) →
      (is_read t a ≡ false) ↔ ((r : Refused) × (RefusesTable t r ⊎ (RefusesEvents t r ⊎ ((answer_to t a ≡ refused r) × LacksRoom r))))
  -- D. What it answers then is that refusal.
  pub refuses_alike : (t : Table) (a : Areas) (r : Refused) → answer_to t a ≡ refused r → RefusesTable t r ⊎ (RefusesEvents t r ⊎ LacksRoom r)
