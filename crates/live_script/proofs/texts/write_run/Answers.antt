use Rattle.std.proofs.Common.{refl, subst, sym, ◌∙◌}
use Rattle.seats.specs.Gathered.{AreWhole}
use Rattle.seats.specs.Packing.{ListView}
use Rattle.trace_io.proofs.IoLemmas.{keeps_same}
use Rattle.live_script.specs.Texts.{unrun}
use Rattle.live_script.specs.declared.fault.ScriptFault.TheVariants as Run
use Rattle.live_script.proofs.TextLemmas.{lent_notes, lent_sums, lent_typed, notes_unwritten, notes_written}
use Rattle.live_script.proofs.texts.write_run.Goals as goal

pub returns-in_default-clause-ends : goal.returns-in_default-clause-ends
returns-in_default-clause-ends g c = unrun Run.NoMemory c.requires refl (keeps_same _)

pub returns-in_default-clone-clause-ends : goal.returns-in_default-clone-clause-ends
returns-in_default-clone-clause-ends g c = unrun Run.NoMemory c.requires refl (keeps_same _)

pub returns-in-Err-clause-ends : goal.returns-in-Err-clause-ends
returns-in-Err-clause-ends g c = unrun c.in-Err.fault c.in-Err.ensures.fault c.fault_of_run.ensures (keeps_same _)

pub returns-in_default-into_notes-clause-ends : goal.returns-in_default-into_notes-clause-ends
returns-in_default-into_notes-clause-ends g c = unrun Run.NoMemory c.requires refl (keeps_same _)

pub returns-in_default-lend-clause-ends : goal.returns-in_default-lend-clause-ends
returns-in_default-lend-clause-ends g c = unrun Run.NoMemory c.requires refl (keeps_same _)

pub returns-in-Ok-write_notes-clause-ends : goal.returns-in-Ok-write_notes-clause-ends
returns-in-Ok-write_notes-clause-ends g c =
    notes_written _ c.in-Ok-run.ran.live c.in-Ok-run.ran.seats _ _ _ _ c.in-Ok-run.ensures.ran
    (lent_notes (λ (l : ListView). l.notes) _ _ _ _ _ c.as_slice-3.ensures.value c.in-Ok-lend.ensures.are c.as_slice.ensures.value
    c.in-Ok-into_notes.ensures.are) (lent_typed _ _ c.as_slice-3.ensures.value c.in-Ok-lend.ensures.typed)
    (subst AreWhole c.in-Ok-into_notes.ensures.are c.in-Ok-into_notes.ensures.whole)
    (lent_sums _ _ _ (c.as_slice-2.ensures.value ∙ sym c.as_slice-3.ensures.value) c.sums_of-sums.ensures) c.in-Ok-write_notes.ensures.ends

pub returns-clause-ends : goal.returns-clause-ends
returns-clause-ends g c =
    notes_unwritten _ c.in-Ok-run.ran.live c.in-Ok-run.ran.seats _ _ _ _ c.in-Ok-run.ensures.ran
    (lent_notes (λ (l : ListView). l.notes) _ _ _ _ _ c.as_slice-3.ensures.value c.in-Ok-lend.ensures.are c.as_slice.ensures.value
    c.in-Ok-into_notes.ensures.are) (lent_typed _ _ c.as_slice-3.ensures.value c.in-Ok-lend.ensures.typed)
    (subst AreWhole c.in-Ok-into_notes.ensures.are c.in-Ok-into_notes.ensures.whole)
    (lent_sums _ _ _ (c.as_slice-2.ensures.value ∙ sym c.as_slice-3.ensures.value) c.sums_of-sums.ensures)
    c.in-Err-write_notes.fault c.in-Err-write_notes.ensures.ends
