-- A worked run, by computation, and logs that no run can leave.
use Rattle.machine_model.proofs.Words.{◌≡◌, ℕ, zero, suc, ◌<◌, ◌∙◌, true, ap, sym, arith, refl, None, Some, List, [], ◌∷◌, slice_get, EINVAL, Reply, Refused}
use Rattle.machine_model.proofs.Words.{Request, Munmap, Slots, IsNew, Event, Call, Go, Outcome, Stepped, Idle, Answered, World, Made, new_world, Run}
use Rattle.vm_base.specs.declared.log.Entry.TheVariants.{Answer}
use Rattle.machine_model.specs.Brackets.{IsBracketed, calls_of}
use Rattle.machine_model.proofs.Bracketed.{bracketed}

-- ---- a run of one core: munmap of no bytes is refused

abbrev made : Made
made = record { cores = 1; frames = 1; calls = 2; file = λ n. None }

abbrev slots : Slots
slots = record { info = λ p. None; owner = λ p. None; edge = λ p. true }

abbrev empty : Request
empty = Munmap 65536 0

abbrev events : List Event
events = Call 0 empty ∷ Go 0 ∷ Go 0 ∷ Go 0 ∷ []

abbrev outcomes : List Outcome
outcomes = Stepped ∷ Stepped ∷ Answered (Refused EINVAL) ∷ Idle ∷ []

-- a step, and then the others
then : {P Q : World → Type 0} (m : World) → P m → Q m → (x : World) × P x × Q x
then m s r = (m, s, r)

ran : (w : World) × Run (new_world made slots) events outcomes w × (w.calls.log ≡ Answer 2 1 0 (Refused EINVAL) ∷ [])
ran = (_, then _ (refl, refl) (then _ (refl, refl) (then _ (refl, refl) (then _ (refl, refl) refl))), refl)

new : IsNew slots
new = record { unmapped = λ p. refl; free = λ p. refl }

has_brackets : IsBracketed events outcomes ran.0.calls.requests ran.0.calls.log
has_brackets = bracketed made slots events outcomes ran.0 (omega arith) new ran.1

began : calls_of events outcomes ≡ record { core = 0; request = empty; step = 1 } ∷ []
began = refl

-- ---- what the brackets rule out

-- a log that repeats a call
repeated : (es : List Event) (os : List Outcome) (w : World) (reply : Reply) → w.calls.log ≡ Answer 2 1 0 reply ∷ Answer 3 1 0 reply ∷ []
    → ¬ IsBracketed es os w.calls.requests w.calls.log
repeated es os w reply e b = let same : 0 ≡ 1 = b.once 0 1 2 3 1 0 0 reply reply (ap (λ l. slice_get l 0) e) (ap (λ l. slice_get l 1) e) in
    absurd (omega (arith, same))

-- a log in which a reply stands after the third event, which hands it out
late : (w : World) (reply : Reply) → w.calls.log ≡ Answer 4 1 0 reply ∷ [] → ¬ IsBracketed (Call 0 empty ∷ Go 0 ∷ Go 0 ∷ [])
    (Stepped ∷ Stepped ∷ Answered reply ∷ []) w.calls.requests w.calls.log
late w reply e b =
    let said = b.answered 2 0 (Go 0) reply refl refl refl in
    go said.2.0 said.2.1 said.0 (sym (ap (λ l. slice_get l said.2.0) e) ∙ said.2.2) said.2.3
  where
    go : (place step call : ℕ) → slice_get (Answer 4 1 0 reply ∷ []) place ≡ Some (Answer step call 0 reply) → step < 3 → ⊥
    go zero step call a lt = let same : 4 ≡ step = cc in omega (arith, same, lt)
    go (suc place) step call a lt = absurd cc
