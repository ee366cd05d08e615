-- Tokenizing: what is claimed of the tokenizer. The claims are types; proofs/Tokenizing.antt has a proof of each. Definitions only.
--
-- Whoever wants to be sure of what is claimed reads these definitions, each beside the rule of docs/RULES.md (N1 to N10) or the production
-- of XML 1.0 that it states:
--   any_char, name_start, name_char, is_space (crate xml_chars: Chars)      classes of characters
--   utf8 (crate xml_chars: Bytes), encode (crate utf8: Characters)      the bytes of characters
--   Document (crate xml_grammar: Grammar)                               the productions
--   document_of, table_events (crate xml_grammar: Events)                 the events of a derivation, resolved
--   WellFormed, FirstBad, Doctype (crate xml_grammar: Documents)        bytes that are a document, the first bad byte, `<!DOCTYPE`
--   check_of, resolve (crate table: Table, Event)                        refusal 11 of a table; a table's events with bytes and attributes
--   event_words, attribute_words (crate xml_places: Places)               the words of a derivation's table, with the place of each byte run
--   Result, room_of, tokens (crate xml_machine: Tokens)                  what the call answers and leaves in its areas: the promise of the call
--   due_in_of (crate xml_tokens: Due), due, open_run (Tokens), step (Machine)  the records that are due in some bytes
--   Begun (crate xml_places: Begun)                                     records that begin with those that are due
-- `due_in_of` stands in refusal 16 alone, for sources that aren't documents. Which records come due there the grammar says, by `begins`; believed
-- of `due_in_of` is only at which byte each of them does (rule N9).
--
-- `tokens` takes the lengths of both areas and not what these held before: no claim depends on old contents.
use Rattle.std.specs.Prelude.{ℕ, ◌+◌, ◌-◌, ◌*◌, ◌≤◌, ◌<◌, ◌≡◌, List, ◌++◌, ◌⊎◌, ◌↔◌, length, take, drop, replicate, Ok}
use Rattle.xml_finish.specs.of_refusal.Refusal.{nowhere}
use Rattle.xml_finish.specs.of_area.Limits.{most_bytes}
use Rattle.xml_finish.specs.of_table.Event.{resolve}
use Rattle.xml_finish.specs.of_table.Table.{check_of}
use Rattle.xml_sound.specs.of_xml_grammar.Grammar.{Miscs}
use Rattle.xml_sound.specs.of_xml_grammar.Documents.{WellFormed, events_of, FirstBad, Doctype}
use Rattle.xml_finish.specs.of_xml_machine.Tokens.{Answer, done-with, refused, room_of, tokens}
use Rattle.xml_places.specs.of_xml_tokens.Due.{due_in_of, events_due, attributes_due, attributes_in}
use Rattle.xml_places.specs.Places.{events_placed, attributes_placed, event_words, attribute_words}
use Rattle.xml_places.specs.Begun.{Begun}
use Rattle.xml_claims.specs.MiscStar.{MiscStar}

-- ---- what the claims speak of
-- the answer for a source, and areas of so many words for events and attributes
abbrev pub answer_to : List ℕ → ℕ → ℕ → Answer
answer_to s e a = (tokens s e a).answer

-- the words of the n events and m attributes that an accepted document has
abbrev pub event_table : List ℕ → ℕ → ℕ → ℕ → List ℕ
event_table s e a n = take (n * 5) (tokens s e a).events

abbrev pub attribute_table : List ℕ → ℕ → ℕ → ℕ → List ℕ
attribute_table s e a m = take (m * 5) (tokens s e a).attributes

-- `<!DOCTYPE` stands nowhere where markup may begin
abbrev pub NoDoctype : List ℕ → Type 0
NoDoctype s = (k : ℕ) → ¬ Doctype s k

-- how many events and attributes are due: all of a document; of another source those due before the byte of 18, or of 19
pub data AreDue (s : List ℕ) : ℕ → ℕ → Type 0 where
  in-document : (w : WellFormed s) → AreDue s (length (events_of w)) (attributes_in (events_of w))
  before-bad : {q : ℕ} → FirstBad s q → NoDoctype s → AreDue s (length (events_due (due_in_of (take q s)))) (length (attributes_due (due_in_of (take q s))))
  before-doctype : {q : ℕ} → Doctype s q → AreDue s (length (events_due (due_in_of (take q s)))) (length (attributes_due (due_in_of (take q s))))

-- a record that is due no longer fits (rule N9), in areas of so many words
abbrev pub Overflows : List ℕ → ℕ → ℕ → Type 0
Overflows s e a = (n : ℕ) × (m : ℕ) × AreDue s n m × ((room_of e < n) ⊎ (room_of a < m))

abbrev pub Fits : List ℕ → ℕ → ℕ → Type 0
Fits s e a = (n : ℕ) × (m : ℕ) × AreDue s n m × (n ≤ room_of e) × (m ≤ room_of a)

-- a document, the numbers of its events and of their attributes
abbrev pub Documented : List ℕ → ℕ → ℕ → Type 0
Documented s n m = (w : WellFormed s) × (n ≡ length (events_of w)) × (m ≡ attributes_in (events_of w))

-- ---- the claims
pub record Tokenizing : Type 0 where
  -- A. Accepted are exactly the well-formed documents, if they are within the limit and their records fit.
  pub accepts : (s : List ℕ) (e a n m : ℕ) → (answer_to s e a ≡ done-with n m) ↔ ((length s ≤ most_bytes) × Fits s e a × Documented s n m)
  -- A. The table of an accepted document resolves to the events of its derivation, whichever is taken.
  pub resolves : (s : List ℕ) (e a n m : ℕ) → answer_to s e a ≡ done-with n m → (w : WellFormed s) → resolve (event_table s e a n) (attribute_table s e a m) s ≡ events_of w
  -- A. Its words are those of the derivation: kinds, places and lengths, first attributes and their numbers; marks, keys and values (rules N3, N4).
  pub placed : (s : List ℕ) (e a n m : ℕ) → answer_to s e a ≡ done-with n m → (w : WellFormed s) → (event_table s e a n ≡ event_words w) × (attribute_table s e a m ≡ attribute_words w)
  -- A. It passes refusal 11.
  pub passes : (s : List ℕ) (e a n m : ℕ) → answer_to s e a ≡ done-with n m → check_of (event_table s e a n) (attribute_table s e a m) s ≡ Ok tt
  -- A. Behind it both areas are zero.
  pub zero_events : (s : List ℕ) (e a n m : ℕ) → answer_to s e a ≡ done-with n m → (n * 5 ≤ e) × (drop (n * 5) (tokens s e a).events ≡ replicate (e - n * 5) 0)
  pub zero_attributes : (s : List ℕ) (e a n m : ℕ) → answer_to s e a ≡ done-with n m → (m * 5 ≤ a) × (drop (m * 5) (tokens s e a).attributes ≡ replicate (a - m * 5) 0)
  -- B. A refusal leaves zeros, and is one of four.
  pub cleared : (s : List ℕ) (e a k q : ℕ) → answer_to s e a ≡ refused k q → ((tokens s e a).events ≡ replicate e 0) × ((tokens s e a).attributes ≡ replicate a 0)
  pub numbers : (s : List ℕ) (e a k q : ℕ) → answer_to s e a ≡ refused k q → (k ≡ 11) ⊎ ((k ≡ 16) ⊎ ((k ≡ 18) ⊎ (k ≡ 19)))
  -- B. 11 comes exactly for a source over the limit, before all else (rule N8); its byte is 4294967295 (rule N10).
  pub eleven : (s : List ℕ) (e a q : ℕ) → (answer_to s e a ≡ refused 11 q) ↔ ((most_bytes < length s) × (q ≡ nowhere))
  -- B. 16 comes exactly where a record that is due before the byte of 18 or 19, or in a document at all, no longer fits (rule N9).
  pub sixteen : (s : List ℕ) (e a q : ℕ) → (answer_to s e a ≡ refused 16 q) ↔ ((length s ≤ most_bytes) × Overflows s e a × (q ≡ nowhere))
  -- B. What is due in some bytes, be they those before the byte of 18 or 19, begins the records of every document that begins with these bytes;
  -- but for a run of text that is broken off, which is the beginning of a Text there.
  pub begins : (p t : List ℕ) (w : WellFormed (p ++ t)) → Begun (due_in_of p) (events_placed w) (attributes_placed w)
  -- B. So where 16 comes before the byte of 18 or 19, no document that begins with the bytes before it fits either.
  pub fewest : (p t : List ℕ) (w : WellFormed (p ++ t)) → (length (events_due (due_in_of p)) ≤ length (events_of w)) × (length (attributes_due (due_in_of p)) ≤ attributes_in (events_of w))
  -- B. 18 comes exactly with the first byte that no document of any length has behind the bytes before it, or with the length where only
  -- more is missing (rule N6).
  pub eighteen : (s : List ℕ) (e a q : ℕ) → (answer_to s e a ≡ refused 18 q) ↔ ((length s ≤ most_bytes) × Fits s e a × FirstBad s q × NoDoctype s)
  -- B. 19 comes exactly where `<!DOCTYPE` stands where markup may begin, with the byte of its `<` (rule N7).
  pub nineteen : (s : List ℕ) (e a q : ℕ) → (answer_to s e a ≡ refused 19 q) ↔ ((length s ≤ most_bytes) × Fits s e a × Doctype s q)
  -- B. Between 18 and 19 the earlier byte decides: that of `<!DOCTYPE`, always by two (rule N7).
  pub earlier : (s : List ℕ) (k q : ℕ) → Doctype s k → FirstBad s q → q ≡ k + 2
  -- C. Each source is a document, or has a bad byte, or a `<!DOCTYPE`, and what is due of it is one pair of numbers.
  pub are_due : (s : List ℕ) → (n : ℕ) × (m : ℕ) × AreDue s n m
  pub due_once : (s : List ℕ) (n m i j : ℕ) → AreDue s n m → AreDue s i j → (n ≡ i) × (m ≡ j)
  -- C. Misc* as the grammar has it, with each run of white space in one piece, derives what XML's Misc* does.
  pub miscs : (s : List ℕ) → MiscStar s ↔ Miscs s
