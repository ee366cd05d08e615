-- What the public listing of a document comes to, by what tokenizing, reading and listing refuse. Assumes nothing.
use Prim.Native.Nat.{ℕ}
use mathlib.Core.Path.{◌≡◌, refl, sym, ap, ◌∙◌}
use mathlib.Core.List.{List}
use mathlib.Core.Bool.{true}
use mathlib.Core.Logic.{◌⊎◌, inl, inr}
use native.Mathlib.Omega.{arith}
use borrow.Author.Tests.{ne_eqb}
use Rattle.explain_text.specs.of_refusal.Refusal.{number, OfRules, Refused, accepted, refused}
use Rattle.explain_text.specs.of_refusal.declared.Cause.TheVariants as cause
use Rattle.explain_text.specs.of_table.Event.{resolve}
use Rattle.explain_text.specs.of_table.Table.{checked_answer}
use Rattle.explain_text.specs.of_table.Table as table
use Rattle.xml_listing.proofs.of_read_element.Rooms.{IsShort}
use Rattle.xml_listing.specs.of_read_machine.Reading.{deserialize}
use Rattle.xml_listing.proofs.of_read_machine.RoomsReading.{reading-refuses}
use Rattle.xml_listing.specs.of_public_claims.PublicListing.{refused_text}
use Rattle.xml_listing.specs.of_read_report.Answer.{Table, Areas}
use Rattle.xml_tokens.specs.of_xml_machine.Tokens as token
use Rattle.xml_listing.specs.XmlListing.{listing_by, xml_listing}
use Rattle.xml_tokens.proofs.Tables.{table-good}
use Rattle.call_claims.specs.Demand1.{read_numbers, document_numbers, token_numbers, is_one_of, Placed, OfEither, Ends, AtByte, Tokenizes, tabled, stops, answer_to, once_to, listing}
use Rattle.call_claims.specs.Demand1.{Document, tokens_of, table_of, lent_of, document_listing, DocumentZero}
use Rattle.call_claims.proofs.TokenCall.{tokenize-ends}
use Rattle.call_claims.proofs.ReadCall.{not_table, read-placed}
use Rattle.call_claims.proofs.LateCalls.{ends}
use Rattle.call_claims.proofs.ListCalls.{once-given, once-left}

-- ---- tokenizing
stops-leaving : {Given : ℕ → ℕ → Type 0} {Left More : Type 0} {o : token.Answer} → Tokenizes Given Left o → ((n q : ℕ) → o ≡ token.refused n q → Left → More) → Tokenizes Given More o
stops-leaving tabled f = tabled
stops-leaving (stops {n = n} {byte = q} g l) f = stops g (f n q refl l)

module _ (d : Document) (a : Areas) where
  abbrev text_by : token.Answer → List ℕ
  text_by o = listing_by o (tokens_of d).events (tokens_of d).attributes d.source (lent_of a)

  no-tokens : (n q : ℕ) → (tokens_of d).answer ≡ token.refused n q → document_listing d a ≡ refused_text
  unfolding xml_listing
  no-tokens n q e = ap text_by e

  pub document-ends : DocumentZero d a × Tokenizes (AtByte token_numbers) (document_listing d a ≡ refused_text) (tokens_of d).answer
  document-ends = (
    record { events = refl; attributes = refl; words = refl; text = refl; scratch = refl },
    stops-leaving (tokenize-ends d.source d.events d.attributes) λ n q e z. no-tokens n q e,
  )

  -- ---- reading and listing its table
  module _ (n k : ℕ) (e : (tokens_of d).answer ≡ token.done-with n k) where
    abbrev t : Table
    t = table_of d n k

    listed-so : document_listing d a ≡ listing t a
    unfolding xml_listing
    listed-so = ap text_by e

    -- 11 doesn't come
    table-passes : (why : Refused) → table.table_of t.events t.attributes t.source ≡ refused why → ⊥
    table-passes why q =
        let p : accepted tt ≡ refused why = sym (ap checked_answer (table-good d.source d.events d.attributes n k e)) ∙ q in
        let z : ◌≡◌ {A = ℕ} 0 1 = cc in
        absurd (omega arith)

    not-eleven : (why : Refused) → answer_to t a ≡ refused why → number why.cause ≡ 11 → ⊥
    not-eleven why q h = go (reading-refuses t.events t.attributes t.source a.words a.text a.scratch why q)
      where
        go : ((table.table_of t.events t.attributes t.source ≡ refused why) × (why.cause ≡ cause.BadTable))
            ⊎ (IsShort why.cause ⊎ ((deserialize (resolve t.events t.attributes t.source) ≡ refused why) × OfRules (number why.cause))) → ⊥
        go (inl x) = table-passes why x.0
        go (inr (inl x)) = not_table why.cause (inl x) h
        go (inr (inr x)) = not_table why.cause (inr x.1) h

    of-document : (m : ℕ) → (m ≡ 11 → ⊥) → is_one_of m read_numbers ≡ true → is_one_of m document_numbers ≡ true
    of-document m h q = rw (ne_eqb m 11 h) at q

    document-placed : (why : Refused) → answer_to t a ≡ refused why → Placed document_numbers why
    document-placed why q =
        let p = read-placed t a why q in
        record { known = of-document (number why.cause) (not-eleven why q) p.known; short = p.short; of_table = p.of_table }

    pub table-ends : Ends (OfEither document_numbers) (document_listing d a ≡ refused_text) (once_to t a).outcome
    table-ends = ends (once_to t a).outcome (once-given t a document-placed) λ why q. listed-so ∙ (once-left t a why q).printed
