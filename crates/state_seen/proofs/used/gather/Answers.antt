use Rattle.std.proofs.Common.{ap, arith, ◌∙◌}
use Rattle.vm_base.specs.Functions.{put}
use Rattle.core_steps.specs.Machine.{state}
use Rattle.state_seen.specs.Lists.{at_page}
use Rattle.state_seen.specs.Used.{used_in}
use Rattle.state_seen.proofs.Walking.{gathered_all, gathered_more, gathered_none}
use Rattle.state_seen.proofs.used.gather.Goals as goal

pub pages-init : goal.pages-init
pages-init g c = record {
  low = omega arith;
  gathered = gathered_none c.args.range (used_in (state c.args.machine.now)) (at_page c.args.list.now);
}

pub pages-preserved : goal.pages-preserved
pages-preserved g c =
    let low = c.pages.invariant.low in
    let above = c.next_of-page.ensures.above in
    record {
      low = omega (arith, low, above);
      gathered = gathered_more c.args.range (used_in (state c.args.machine.now)) (at_page c.args.list.now) (at_page c.pages.list)
          (at_page c.set.new.self) c.pages.page c.next_of-page.result low c.pages-test.true above c.requires c.next_of-page.ensures.between
          c.pages.invariant.gathered
          (λ q. c.set.ensures c.if-not-set.false q ∙ ap (λ v. put (at_page c.pages.list) c.pages.page v q) c.used_at.ensures);
    }

pub returns : goal.returns
returns g c = λ e. gathered_all c.args.range (used_in (state c.args.machine.now)) (at_page c.args.list.now) (at_page c.pages.list)
    c.pages.page c.pages-test.false c.pages.invariant.gathered
