-- What the log of a legal state has
use Rattle.machine_model.proofs.Words.{◌≡◌, ℕ, zero, suc, Bool, true, List, [], ◌∷◌, refl, subst, ap, ∥∥₁_elim, props, is_some, Request, Reply, Entry, Detach}
use Rattle.machine_model.proofs.Words.{Plain, nth, EntryLeads, Replays, World}
use Rattle.std.specs.Prelude.{Option, None, Some, slice_get}
use Rattle.vm_base.specs.declared.log.Entry.TheVariants.{Answer}
use Rattle.machine_model.specs.Brackets.{IsAnswer}
use Rattle.core_steps.specs.Machine.{IsLegal}

-- whether an answer at this place has its request
abbrev asked_at : List Request → Option Entry → Bool
asked_at requests None = true
asked_at requests (Some (Answer step call core reply)) = is_some (nth requests call)
asked_at requests (Some (Detach step call page)) = true

one_asked : (requests : List Request) (t u : Plain) (e : Entry) → EntryLeads requests t e u → asked_at requests (Some e) ≡ true
one_asked requests t u (Answer step call core reply) h = ap is_some h.1
one_asked requests t u (Detach step call page) h = refl

all_asked : (requests : List Request) (t u : Plain) (log : List Entry) (n : ℕ) → Replays requests t log u → asked_at requests (slice_get log n) ≡ true
all_asked requests t u [] n h = refl
all_asked requests t u (e ∷ es) zero h = one_asked requests t h.0 e h.1
all_asked requests t u (e ∷ es) (suc n) h = all_asked requests h.0 u es n h.2

pub answers_asked : (w : World) → IsLegal w → (place step call core : ℕ) (reply : Reply) → IsAnswer w.calls.log place step call core reply
    → is_some (nth w.calls.requests call) ≡ true
answers_asked w legal place step call core reply at =
    ∥∥₁_elim legal.sound (hlevel props) (λ s.
    subst (λ (o : Option Entry). asked_at w.calls.requests o ≡ true) at (all_asked w.calls.requests _ s.0 w.calls.log place s.1.log))
