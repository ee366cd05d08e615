-- What tokenizing refuses: its number, its byte, its areas. Assumes nothing.
use Prim.Native.Nat.{ℕ}
use mathlib.Core.Path.{◌≡◌, refl, sym, subst}
use mathlib.Core.List.{List}
use mathlib.Core.Bool.{true}
use mathlib.Core.Logic.{◌⊎◌, inl, inr}
use native.Mathlib.Omega.{arith}
use Rattle.explain_text.specs.of_refusal.Refusal.{nowhere}
use Rattle.xml_tokens.specs.of_xml_machine.Runs.{Verdict, accepted, bad, doctype, verdict}
use Rattle.xml_tokens.specs.of_xml_machine.Tokens.{Kept, refuse, Result, resulting, tokens}
use Rattle.xml_tokens.proofs.Rooms.{ended, kept_of}
use Rattle.xml_tokens.proofs.Answers.{Answered, over, short, told, answered}
use Rattle.call_claims.specs.Demand1.{token_numbers, is_one_of, AtByte, Tokenizes, tabled, stops, TokensZero}

abbrev Ending : ℕ → ℕ → Result → Type 0
Ending e a r = Tokenizes (AtByte token_numbers) (TokensZero e a r) r.answer

module _ (e a : ℕ) where
  -- 11 and 16, or a byte
  refused-ends : (n byte : ℕ) → is_one_of n token_numbers ≡ true → ((n ≡ 11) ⊎ (n ≡ 16) → byte ≡ nowhere) → Ending e a (resulting (refuse n byte) e a)
  unfolding resulting
  refused-ends n byte h k = stops (record { known = h; byteless = k }) (record { events = refl; attributes = refl })

  neither : {A : Type 0} (n : ℕ) → (n ≡ 18) ⊎ (n ≡ 19) → (n ≡ 11) ⊎ (n ≡ 16) → A
  neither n (inl h) (inl k) = absurd (omega arith)
  neither n (inl h) (inr k) = absurd (omega arith)
  neither n (inr h) (inl k) = absurd (omega arith)
  neither n (inr h) (inr k) = absurd (omega arith)

  told-ends : (v : Verdict) (k : Kept) → Ending e a (resulting (ended v k) e a)
  unfolding resulting
  told-ends accepted k = tabled
  told-ends (bad q) k = refused-ends 18 q refl (neither 18 (inl refl))
  told-ends (doctype q) k = refused-ends 19 q refl (neither 19 (inr refl))

pub tokenize-ends : (source : List ℕ) (events attributes : ℕ) → Ending events attributes (tokens source events attributes)
tokenize-ends s e a = by (answered s e a)
  where
    from : {r : Result} → tokens s e a ≡ r → Ending e a r → Ending e a (tokens s e a)
    from t h = subst (Ending e a) (sym t) h

    by : Answered s e a → Ending e a (tokens s e a)
    by (over l t) = from t (refused-ends e a 11 nowhere refl (λ _. refl))
    by (short l x t) = from t (refused-ends e a 16 nowhere refl (λ _. refl))
    by (told l x t) = from t (told-ends e a (verdict s) (kept_of s))
