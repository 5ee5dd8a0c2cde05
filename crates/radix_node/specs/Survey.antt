-- What the slots of a range of a node have together
use Rattle.std.specs.Prelude.{◌≡◌, ◌==◌, Bool, if◌then◌else◌, None, List}
use Rattle.vm_base.specs.Cores.{members}
use Rattle.vm_base.specs.Info.{info_from, is_recorded}
use Rattle.slot_lock.specs.declared.survey.Survey.{Survey}
use Rattle.slot_lock.specs.Slots.{Slots}
use Rattle.slot_lock.specs.Surveys.{is_framed, is_gap, is_shared}
use Rattle.radix_node.specs.State.{State}
use Rattle.radix_node.specs.Run.{Run, cell_at}

-- what the slots say of each page, as those of a slot map
abbrev pub slots_in : List Run → Slots
slots_in rs = record {
  info = λ p. info_from (cell_at rs p).state.info (cell_at rs p).offset;
  owner = λ p. (cell_at rs p).state.owner;
  edge = λ p. (cell_at rs p).offset == 0;
}

-- what pages of one slot have, which nobody holds and which begins at the first of them, or doesn't
pub record IsSlotSurvey (s : State) (begins : Bool) (found : Survey) : Type 0 where
  pub free : s.owner ≡ None
  pub slots : found.slots ≡ (if begins then 1 else 0)
  pub cores : members found.cores ≡ is_recorded s.info
  pub gap : found.gap ≡ is_gap s.info
  pub framed : found.framed ≡ is_framed s.info
  pub shared : found.shared ≡ is_shared s.info
