-- What an event does to tables
use Rattle.std.specs.Prelude.{ℕ, List, [], Option, None, cond, nat_lt, slice_index_or}
use Rattle.vm_base.specs.Functions.{has, over, put}
use Rattle.slot_lock.specs.Plan.{range_of}
use Rattle.mmu.specs.declared.entry.Translation.{Translation}
use Rattle.state_seen.specs.declared.list.OfPage.{OfPage}
use Rattle.state_seen.specs.Lists.{at_page}
use Rattle.mmu.specs.declared.message.Message.{Message}
use Rattle.mmu.specs.declared.message.Took.{Took}
use Rattle.mmu.specs.declared.message.Took.TheVariants as took
use Rattle.mmu.specs.Messages.{asked}
use Rattle.machine_model.specs.declared.event.Event.{Event}
use Rattle.machine_model.specs.declared.event.Event.TheVariants as By
use Rattle.machine_model.specs.declared.event.Outcome.{Outcome}
use Rattle.machine_model.specs.declared.event.Outcome.TheVariants.{Stepped}
use Rattle.machine_model.specs.declared.phase.Phase.{Phase}
use Rattle.machine_model.specs.declared.phase.Phase.TheVariants as At
use Rattle.machine_model.specs.Holding.{page_of_touch}
use Rattle.machine_model.specs.World.{World}
use Rattle.state_seen.specs.declared.edit.TableStep.{TableStep}
use Rattle.state_seen.specs.declared.edit.TableStep.TheVariants.{Nothing, Clear, Take, Install}

-- by the next step of core c's call, which stands so: its tables lose the pages that other cores are
-- told of, or get an entry
abbrev pub edit_at : ℕ → Phase → TableStep
edit_at c (At.Post change shoot) = Clear c (range_of change)
edit_at c (At.CopyPost touch frame) = Clear c (page_of_touch touch)
edit_at c (At.Install touch) = Install c touch.page
edit_at c _ = Nothing

-- a core that isn't there does nothing
abbrev pub if_edits : World → ℕ → TableStep → TableStep
if_edits w c edit = cond (nat_lt c w.made.cores) edit Nothing

abbrev pub edit_of : World → Event → TableStep
edit_of w (By.Go c) = if_edits w c (edit_at c (w.calls.phase c))
edit_of w (By.Frame c f) = if_edits w c (edit_at c (w.calls.phase c))
edit_of w (By.Take c) = if_edits w c (Take c)
edit_of w _ = Nothing

-- ---- what it does, where the inboxes were these, and an entry that is installed is this one

abbrev pub taken_from : Took → (ℕ → Option Translation) → ℕ → Option Translation
taken_from (took.Clear range) t = over t (has range) None
taken_from (took.Invalidate range) t = t
taken_from took.Idle t = t

abbrev pub edited : TableStep → (ℕ → List Message) → (ℕ → ℕ → Option Translation) → (ℕ → ℕ → Option Translation)
    → ℕ → ℕ → Option Translation
edited Nothing inbox new t = t
edited (Clear c range) inbox new t = put t c (over (t c) (has range) None)
edited (Take c) inbox new t = put t c (taken_from (asked (inbox c)) (t c))
edited (Install c page) inbox new t = put t c (put (t c) page (new c page))

-- only a plain step does something
abbrev pub after_edit : Outcome → TableStep → (ℕ → List Message) → (ℕ → ℕ → Option Translation)
    → (ℕ → ℕ → Option Translation) → ℕ → ℕ → Option Translation
after_edit Stepped edit inbox new t = edited edit inbox new t
after_edit _ edit inbox new t = t

-- ---- tables as lists of their entries

-- the entry that a core's tables have of a page; those of a core that isn't there have none
abbrev pub table_at : List (List (OfPage Translation)) → ℕ → ℕ → Option Translation
table_at tables c = at_page (slice_index_or tables c [])
