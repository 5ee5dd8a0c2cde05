-- The replies in the log of a machine: a call adds its own, and none while it waits.
use Rattle.machine_model.proofs.Words.{◌≡◌, ℕ, zero, suc, ◌==◌, Bool, true, false, List, [], ◌∷◌, ◌++◌, Option, None, Some, refl, sym, ap, subst, ◌∙◌}
use Rattle.machine_model.proofs.Words.{append-nil, Reply, Request, Plain, eq_true, eq_false, put_same, Entry, Detach, detach_entry, World}
use Rattle.machine_model.proofs.Words.{with_event, Step, StepsTo}
use Rattle.machine_model.specs.declared.event.Event.TheVariants.{Go}
use Rattle.machine_model.specs.declared.event.Outcome.TheVariants.{Stepped}
use Rattle.vm_base.specs.declared.log.Entry.TheVariants.{Answer}
use Rattle.machine_model.proofs.Effects.{Closed, Asked, Told, status, keeps, tells, detaches, opens, closes, effect_of}
use Rattle.machine_model.proofs.Shapes.{Comes, stopped, acts, comes}
use Rattle.machine_model.specs.Sound.{IsReached}
use Rattle.machine_model.proofs.SoundKept.{reached_fine, reached_step}
use Rattle.machine_model.specs.Alone.{IsCopied, IsNoted, IsWaiting}
use Rattle.machine_model.proofs.Telling.{for_change, for_copy, waits_at}
use Rattle.trace.specs.PlainText.{replies_in}

-- ---- entries

replies_more : (a b : List Entry) → replies_in (a ++ b) ≡ replies_in a ++ replies_in b
replies_more [] b = refl
replies_more (Answer step call core reply ∷ a) b = ap (λ rs. reply ∷ rs) (replies_more a b)
replies_more (Detach step call page ∷ a) b = replies_more a b

-- a copy has no reply
detach_replies : (log : List Entry) (step call page : ℕ) → replies_in (log ++ Detach step call page ∷ []) ≡ replies_in log
detach_replies log step call page = replies_more log (Detach step call page ∷ []) ∙ append-nil (replies_in log)

copied_replies : (first : List Entry) (copy : Option ℕ) (call : ℕ) (log : List Entry) → IsCopied first copy call log → replies_in log ≡ replies_in first
copied_replies first None call log k = ap replies_in k
copied_replies first (Some page) call log k = ap replies_in k.1 ∙ detach_replies first k.0 call page

-- a call that was answered has added its reply
pub noted_replies : (first : List Entry) (copy : Option ℕ) (call core : ℕ) (reply : Reply) (log : List Entry) → IsNoted first copy call core reply log
    → replies_in log ≡ replies_in first ++ reply ∷ []
noted_replies first copy call core reply log k =
    ap replies_in k.2.1 ∙ replies_more k.0 (Answer k.2.0 call core reply ∷ [])
    ∙ ap (λ rs. rs ++ reply ∷ []) (copied_replies first copy call k.0 k.1)

-- ---- calls without a reply

-- while no core's call has its reply in the log, the replies there are these
abbrev pub IsUntold : List Reply → World → Type 0
IsUntold replies w = ((d : ℕ) (reply : Reply) → status (w.calls.phase d) ≡ Told reply → ⊥) → replies_in w.calls.log ≡ replies

step_untold : (replies : List Reply) (w v : World) (core : ℕ) → IsReached w → Step w (Go core) Stepped v → IsUntold replies w → IsUntold replies v
step_untold replies w v core r s before none = go (comes w (Go core) Stepped v s)
  where
    go : Comes w (Go core) Stepped v → replies_in v.calls.log ≡ replies
    go (stopped n i h) = subst (IsUntold replies) (sym h) before none
    go (acts n shape) = elim (effect_of (with_event w) (Go core) Stepped v (reached_fine w r).order shape) [
      | keeps _ same log sts ↦ ap replies_in log ∙ before (λ d reply e. none d reply (sts d ∙ e))
      | tells c reply _ same asked log sts ↦ absurd (none c reply (sts c ∙ put_same (λ d. status (w.calls.phase d)) c (Told reply)))
      | detaches c page request _ same asked number store log sts ↦
          ap replies_in log ∙ replies_more w.calls.log (detach_entry (with_event w) c page ∷ []) ∙ append-nil (replies_in w.calls.log)
          ∙ before (λ d reply e. none d reply (sts d ∙ e))
      | opens c request e _ _ _ ↦ absurd cc
      | closes c reply _ e _ _ ↦ absurd cc
    ]

pub untold_along : (replies : List Reply) (core n : ℕ) (w v : World) → IsReached w → IsUntold replies w → StepsTo w core n v
    → IsReached v × IsUntold replies v
untold_along replies core zero w v r k s = (subst IsReached (sym s) r, subst (IsUntold replies) (sym s) k)
untold_along replies core (suc n) w v r k s =
    let z = untold_along replies core n w s.0 r k s.1 in
    (reached_step s.0 v (Go core) Stepped z.0 s.2, step_untold replies s.0 v core z.0 s.2 z.1)

-- where the only call waits, none has its reply
pub waiting_untold : (x : World) (t : Plain) (core : ℕ) (request : Request) → IsWaiting x t core request → (d : ℕ) (reply : Reply)
    → status (x.calls.phase d) ≡ Told reply → ⊥
waiting_untold x t core request k d reply e = go (d == core) refl
  where
    go : (b : Bool) → (d == core) ≡ b → ⊥
    go true i =
        let own : status (x.calls.phase core) ≡ Told reply = subst (λ c. status (x.calls.phase c) ≡ Told reply) (eq_true d core i) e in
        elim (waits_at (x.calls.phase core) k.range k.at_wait) [
          | for_change goal change is _ ↦ let asked : status (x.calls.phase core) ≡ Asked = ap status is in cc (own, asked)
          | for_copy touch frame is _ ↦ let asked : status (x.calls.phase core) ≡ Asked = ap status is in cc (own, asked)
        ]
    go false i = let closed : status (x.calls.phase d) ≡ Closed = ap status (k.others d (eq_false d core i)) in cc (e, closed)
