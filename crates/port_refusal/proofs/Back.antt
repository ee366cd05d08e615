-- Causes by their codes, and what comes of a refusal that is handed out and back: the refusal. Assumes nothing.
use Prim.Native.Nat.{ℕ, zero, suc, ◌-◌, ◌<◌, ◌≤◌, min}
use mathlib.Core.Path.{◌≡◌, refl, sym, ap, ◌∙◌}
use mathlib.Core.List.{List, [], ◌∷◌, ◌++◌}
use native.Mathlib.Omega.{arith}
use lib.ListN.{length, get_or, replicate, length-append, length-replicate, get_or-eq_default}
use Rattle.refusal.specs.declared.Cause.{Cause}
use Rattle.refusal.specs.declared.Cause.TheVariants.{XmlFault, EofInSkip, NotUtf8, BadInteger, BadTimestamp, BadTime, BadUuid, MissingAttribute, MissingReport, EofInElement, StatusRule}
use Rattle.refusal.specs.declared.Cause.TheVariants.{UnknownEntity, FaultyAttribute, RepeatedKey, BadReference, BadTable, RecordsSpent}
use Rattle.refusal.specs.declared.Cause.TheVariants.{TextFull, ScratchFull, NotLayout, OutputFull, CountLimit, TooManyCases, NoSuchReport}
use Rattle.refusal.specs.declared.Cause.TheVariants.{TooManyReports, TimeLimit}
use Rattle.refusal.specs.declared.PathElement.{PathElement}
use Rattle.refusal.specs.Refusal.{filler, Refused, path_from, refusal_from}
use Rattle.port_refusal.specs.Port.{code, path_words, refused_port}
use Rattle.port_refusal.specs.Back.{causes, cause_at, path_elements, plain_refusal}

default : {A : Type 0} (l : List A) (n : ℕ) (a b : A) → n < length l → get_or l n a ≡ get_or l n b
default [] n a b h = absurd (omega (arith, h))
default (x ∷ l) zero a b h = refl
default (x ∷ l) (suc n) a b h = default l n a b (omega (arith, h))

pub cause-here : (n : ℕ) → n < 27 → get_or causes n XmlFault ≡ cause_at n
cause-here n h = default causes n XmlFault BadTable h

pub no-cause : (n : ℕ) → 27 ≤ n → BadTable ≡ cause_at n
no-cause n h = sym (get_or-eq_default causes BadTable h)

cause-back : (c : Cause) → cause_at (code c) ≡ c
cause-back XmlFault = refl
cause-back EofInSkip = refl
cause-back NotUtf8 = refl
cause-back BadInteger = refl
cause-back BadTimestamp = refl
cause-back BadTime = refl
cause-back BadUuid = refl
cause-back MissingAttribute = refl
cause-back MissingReport = refl
cause-back EofInElement = refl
cause-back StatusRule = refl
cause-back UnknownEntity = refl
cause-back FaultyAttribute = refl
cause-back RepeatedKey = refl
cause-back BadReference = refl
cause-back BadTable = refl
cause-back RecordsSpent = refl
cause-back TextFull = refl
cause-back ScratchFull = refl
cause-back NotLayout = refl
cause-back OutputFull = refl
cause-back CountLimit = refl
cause-back TooManyCases = refl
cause-back NoSuchReport = refl
cause-back TooManyReports = refl
cause-back TimeLimit = refl

elements-back : (es : List PathElement) → length es ≡ 6 → path_elements (path_words es) ≡ es
elements-back (a ∷ b ∷ c ∷ d ∷ e ∷ f ∷ []) h = refl
elements-back (a ∷ b ∷ c ∷ d ∷ e ∷ f ∷ g ∷ es) h = absurd (omega (arith, h))
elements-back (a ∷ b ∷ c ∷ d ∷ e ∷ []) h = absurd (omega (arith, h))
elements-back (a ∷ b ∷ c ∷ d ∷ []) h = absurd (omega (arith, h))
elements-back (a ∷ b ∷ c ∷ []) h = absurd (omega (arith, h))
elements-back (a ∷ b ∷ []) h = absurd (omega (arith, h))
elements-back (a ∷ []) h = absurd (omega (arith, h))
elements-back [] h = absurd (omega (arith, h))

-- a path of at most six elements has six with its fillers
six : (es : List PathElement) → length es ≤ 6 → length (es ++ replicate (6 - length es) filler) ≡ 6
six es h = let n = length-append es (replicate (6 - length es) filler) in let k = length-replicate (6 - length es) filler in omega (arith, h, n, k)

pub refusal-back : (q : Refused) → length q.path ≤ 6 → plain_refusal (refused_port (refusal_from q)) ≡ refusal_from q
refusal-back q h =
    let p = path_from q.path in
    let n : min (min (length q.path) 6) 6 ≡ length q.path = omega (arith, h) in
    ap (λ (c : Cause). record { cause = c; path = record { elements = path_elements (path_words p.elements); len = min (min (length q.path) 6) 6 }; event = q.event; attribute = q.attribute })
    (cause-back q.cause)
    ∙ ap (λ (es : List PathElement). record { cause = q.cause; path = record { elements = es; len = min (min (length q.path) 6) 6 }; event = q.event; attribute = q.attribute })
    (elements-back p.elements (six q.path h))
    ∙ ap (λ (k : ℕ). record { cause = q.cause; path = record { elements = p.elements; len = k }; event = q.event; attribute = q.attribute }) n
