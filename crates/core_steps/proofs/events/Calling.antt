-- A call that begins
use Rattle.machine_model.proofs.Words.{◌≡◌, ℕ, suc, ◌+◌, ◌<◌, Bool, true, false, not, List, [], ◌∷◌, ◌++◌, length, refl, arith, slice_set, Request, Slots}
use Rattle.machine_model.proofs.Words.{Counts, Entry, World, Hardware, Begins, after_call}
use Rattle.machine_model.specs.declared.event.Outcome.TheVariants.{Stepped}
use Rattle.machine_model.specs.declared.phase.Phase.{Phase}
use Rattle.machine_model.specs.declared.phase.Phase.TheVariants.{Free}
use Rattle.std.proofs.Common.{nat_lt}
use Rattle.frames.specs.Files.{FileParts}
use Rattle.frames.specs.Parts.{FrameParts}
use Rattle.core_steps.specs.AtOnce.{with_call}
use Rattle.core_steps.specs.State.{phase_at, number_at, world_with}
use Rattle.core_steps.proofs.engine.Lists.{number_set}
use Rattle.core_steps.proofs.rows.Rows.{if_true}

-- the state of an engine whose calls have these parts
abbrev listed : Slots → Hardware → FrameParts → Counts → List FileParts → List Phase → List ℕ → List Request → List Entry → ℕ → ℕ → World
listed slots hardware frames counts files phases numbers requests log limit events =
    world_with slots hardware frames counts files (length phases) limit
    (record { phase = phase_at phases; number = number_at numbers; requests = requests; log = log; events = events })

-- the request is kept, and the core's call has its number
pub numbered : (slots : Slots) (hardware : Hardware) (frames : FrameParts) (counts : Counts) (files : List FileParts) (phases : List Phase)
    (numbers : List ℕ) (requests more : List Request)
    (log now : List Entry) (limit events c i n : ℕ) (request : Request) → c < length numbers → i ≡ c
    → more ≡ requests ++ request ∷ [] → now ≡ log → n ≡ length requests + 1
    → listed slots hardware frames counts files phases (slice_set numbers i n) more now limit events
    ≡ with_call c request (listed slots hardware frames counts files phases numbers requests log limit events)
numbered slots hardware frames counts files phases numbers requests more log now limit events c i n request h same e k m =
    let number : n ≡ suc (length requests) = omega (arith, m) in
    rw (same, e, k, number, number_set numbers c (suc (length requests)) h) refl

pub begun : (w v : World) (c : ℕ) (request : Request) (phase : Phase) → phase ≡ Free → false ≡ not (nat_lt (length w.calls.requests) w.made.calls)
    → v ≡ after_call c request w → Begins w c request phase Stepped v
begun w v c request phase e h s = rw e (if_true (nat_lt (length w.calls.requests) w.made.calls) _ _ (turn _ h) (refl, s))
  where
    turn : (b : Bool) → false ≡ not b → b ≡ true
    turn true h = refl
    turn false h = h
