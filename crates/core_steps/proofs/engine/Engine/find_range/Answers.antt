use Rattle.std.proofs.Common.{◌+◌, ◌*◌, ◌≤◌, ap, arith}
use Rattle.vm_base.specs.declared.page.PageRange.{PageRange}
use Rattle.slot_lock.proofs.Changes.{sound_pages}
use Rattle.slot_lock.proofs.Surveys.{survey_few}
use Rattle.core_steps.proofs.at_once.ChangeAtOnce.{alone_by}
use Rattle.core_steps.proofs.at_once.RangeAtOnce.{free_range}
use Rattle.core_steps.proofs.engine.Engine.find_range.Goals as goal

pub survey-requires : goal.survey-requires
survey-requires g c = rw c.range-range.ensures (sound_pages c.args.change c.requires.at.goal.plan)

pub overflow_add-found : goal.overflow_add-found
overflow_add-found g c =
    let few = survey_few _ c.range-range.result.first c.range-range.result.end _ (c.in_ok-found.ensures {u = tt}).survey in
    let end = ap (λ (r : PageRange). r.end) c.range-range.ensures in
    let high = (sound_pages c.args.change c.requires.at.goal.plan).high in
    omega (arith, few, end, high)

pub returns : goal.returns
returns g c =
    let few : 2 * c.in_ok-found.found.slots + 3 ≤ c.args.most = omega (arith, c.if-most-found.false) in
    record {
      few = few;
      free = free_range c.args.most c.requires.at c.range-range.ensures c.if-cursor-range.false (c.in_ok-found.ensures {u = tt})
          (alone_by c.args.core c.in_ok-found.found.cores c.without.result c.without.ensures (c.is_empty.ensures.0 c.if-not-is_empty.false))
          c.requires.room few;
    }
