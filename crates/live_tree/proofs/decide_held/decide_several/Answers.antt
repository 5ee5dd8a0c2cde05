use Rattle.std.proofs.Common.{sym, subst}
use Rattle.slot_lock.specs.declared.plan.Change.{Change}
use Rattle.slot_lock.specs.Plan.{range_of}
use Rattle.frames.specs.Files.{files_of}
use Rattle.vm_calls.specs.declared.decision.Decision.TheVariants.{Act}
use Rattle.vm_calls.specs.Decisions.{DecidesChange}
use Rattle.live_tree.specs.Shown.{shown}
use Rattle.live_tree.specs.Deciding.{Loses}
use Rattle.live_tree.proofs.Decided.{clear_lost, put_lost}
use Rattle.live_tree.proofs.decide_held.decide_several.Goals as goal

pub returns-in_ok-losses-in-Put : goal.returns-in_ok-losses-in-Put
returns-in_ok-losses-in-Put g c =
    let files = files_of c.args.objects.now in
    let slots = shown c.args.held.now.slots in
    let lost = c.in_ok-losses-in-Put.losses in
    subst (λ (change : Change). DecidesChange files slots change (Act (range_of change) lost.cores) × Loses slots change lost.frames.items)
    (sym c.in-Put.is) (put_lost files slots c.in-Put.range c.in-Put.meta lost.cores lost.frames.items c.in_ok-losses-in-Put.ensures)

pub returns-in_ok-losses-in-Clear : goal.returns-in_ok-losses-in-Clear
returns-in_ok-losses-in-Clear g c =
    let files = files_of c.args.objects.now in
    let slots = shown c.args.held.now.slots in
    let lost = c.in_ok-losses-in-Clear.losses in
    subst (λ (change : Change). DecidesChange files slots change (Act (range_of change) lost.cores) × Loses slots change lost.frames.items)
    (sym c.in-Clear.is) (clear_lost files slots c.in-Clear.range lost.cores lost.frames.items c.in_ok-losses-in-Clear.ensures)
