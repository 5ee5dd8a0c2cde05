-- Neighbouring slots that get another owner
use Rattle.std.specs.Prelude.{◌≡◌, ℕ, zero, suc, ◌+◌, ◌*◌, List}
use Rattle.radix_node.specs.declared.node.Slot.{Slot}
use Rattle.radix_node.specs.declared.node.Slot.TheVariants.{Own}
use Rattle.radix_node.specs.declared.own_run.Handover.{Handover}
use Rattle.radix_node.specs.declared.state.SlotState.{SlotState}
use Rattle.radix_node.specs.State.{State, state_of}
use Rattle.radix_node.specs.Run.{Run, cell_at, with_run, in_state}

-- the state is one of those that get another owner, and has it now
pub record OwnerChanges (s t : State) (owners : Handover) : Type 0 where
  pub owner : s.owner ≡ owners.from
  pub now : t ≡ record { info = s.info; owner = owners.to }

-- the slot is no child, and has another owner now
pub record HandsOver {A : Type 0} (s t : Slot A) (owners : Handover) : Type 0 where
  pub old : SlotState
  pub new : SlotState
  pub is_old : s ≡ Own old
  pub is_new : t ≡ Own new
  pub change : OwnerChanges (state_of old) (state_of new) owners

-- a slot of so many pages begins at the page, and has another owner now
pub record GetsOwner (rs ts : List Run) (page width : ℕ) (owners : Handover) : Type 0 where
  pub begins : (cell_at rs page).offset ≡ 0
  pub wide : (cell_at rs page).width ≡ width
  pub new : State
  pub change : OwnerChanges (cell_at rs page).state new owners
  pub set : ts ≡ with_run (in_state new) rs page

-- so have n slots of so many pages, one after another from the page on
abbrev pub GetOwner : List Run → List Run → ℕ → ℕ → Handover → ℕ → Type 0
GetOwner rs ts page width owners zero = ts ≡ rs
GetOwner rs ts page width owners (suc n) =
    (ms : List Run) × GetOwner rs ms page width owners n × GetsOwner ms ts (page + n * width) width owners
