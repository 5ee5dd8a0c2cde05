use Rattle.std.proofs.Common.{refl}
use Rattle.trace_io.proofs.IoLemmas.{keeps_same}
use Rattle.live_script.specs.Texts.{unrun, unwritten}
use Rattle.live_script.specs.declared.fault.ScriptFault.TheVariants as Run
use Rattle.live_script.proofs.HistoryLemmas.{calls_are, history_given, sums_are}
use Rattle.live_script.proofs.history_texts.write_run.Goals as goal

pub returns-in_default-clause-ends : goal.returns-in_default-clause-ends
returns-in_default-clause-ends g c = unrun Run.NoMemory c.requires refl (keeps_same _)

pub returns-in_default-clone-clause-ends : goal.returns-in_default-clone-clause-ends
returns-in_default-clone-clause-ends g c = unrun Run.NoMemory c.requires refl (keeps_same _)

pub returns-in-Err-clause-ends : goal.returns-in-Err-clause-ends
returns-in-Err-clause-ends g c = unrun c.in-Err.fault c.in-Err.ensures.fault c.fault_of_run.ensures (keeps_same _)

pub returns-in_default-notes-clause-ends : goal.returns-in_default-notes-clause-ends
returns-in_default-notes-clause-ends g c = unrun Run.NoMemory c.requires refl (keeps_same _)

pub returns-in_default-history_of-clause-ends : goal.returns-in_default-history_of-clause-ends
returns-in_default-history_of-clause-ends g c = unrun Run.NoMemory c.requires refl (keeps_same _)

pub returns-in-Ok-write_history-clause-ends : goal.returns-in-Ok-write_history-clause-ends
returns-in-Ok-write_history-clause-ends g c = (
  _,
  history_given _ c.in-Ok-run.ran.live c.in-Ok-run.ran.seats _ _ _ _ c.in-Ok-run.ensures.ran c.in-Ok-notes.ensures.rising c.in-Ok-notes.ensures.are
      (calls_are _ _ _ _ _ c.as_slice.ensures.value c.in-Ok-notes.ensures.are c.in-Ok-history_of.ensures c.as_slice-3.ensures.value)
      c.declaration.ensures (sums_are _ _ _ _ c.as_slice-2.ensures.value c.in-Ok-notes.ensures.are c.sums_of-sums.ensures),
  c.in-Ok-write_history.ensures.wrote.ok,
)

pub returns-clause-ends : goal.returns-clause-ends
returns-clause-ends g c =
    unwritten refl _ _
    (history_given _ c.in-Ok-run.ran.live c.in-Ok-run.ran.seats _ _ _ _ c.in-Ok-run.ensures.ran c.in-Ok-notes.ensures.rising c.in-Ok-notes.ensures.are
    (calls_are _ _ _ _ _ c.as_slice.ensures.value c.in-Ok-notes.ensures.are c.in-Ok-history_of.ensures c.as_slice-3.ensures.value)
    c.declaration.ensures (sums_are _ _ _ _ c.as_slice-2.ensures.value c.in-Ok-notes.ensures.are c.sums_of-sums.ensures))
    c.in-Err-write_history.ensures.wrote.front
