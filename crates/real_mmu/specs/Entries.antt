-- Where the machine makes entries of its log
use Rattle.std.specs.Prelude.{◌≡◌, ℕ, ◌⊎◌, Bool, true, false, Some}
use Rattle.machine_model.specs.declared.event.Event.{Event}
use Rattle.machine_model.specs.declared.event.Event.TheVariants.{GiveUp}
use Rattle.machine_model.specs.declared.event.Outcome.{Outcome}
use Rattle.machine_model.specs.declared.phase.Phase.{Phase}
use Rattle.machine_model.specs.declared.phase.Phase.TheVariants.{Acks, Check, CopyAcks, Decide, Fill, Find, Settle, Try, Want}
use Rattle.machine_model.specs.Events.{core_of}
use Rattle.machine_model.specs.Step.{Step}
use Rattle.machine_model.specs.World.{World}

-- a call's step from this phase may make an entry
abbrev pub may_enter : Phase → Bool
may_enter (Check request) = true
may_enter (Find place target) = true
may_enter (Decide change) = true
may_enter (Acks goal change) = true
may_enter (Try touch) = true
may_enter (Settle touch) = true
may_enter (Want touch old) = true
may_enter (Fill touch own) = true
may_enter (CopyAcks touch frame) = true
may_enter phase = false

-- the event gives a core's call up, or is one of a core whose call is in such a phase
pub record IsEntering (w : World) (event : Event) : Type 0 where
  pub core : ℕ
  pub is_of : core_of event ≡ Some core
  pub due : (event ≡ GiveUp core) ⊎ (may_enter (w.calls.phase core) ≡ true)

-- every other step leaves the log as it is
abbrev pub AllEntriesAreMadeThere : Type 0
AllEntriesAreMadeThere = (w v : World) (event : Event) (outcome : Outcome) → Step w event outcome v
    → (v.calls.log ≡ w.calls.log) ⊎ IsEntering w event
