-- first_mapped
use Rattle.slot_lock.proofs.MapWalks.{below_first, none_to_limit}
use Rattle.litmus_merges.proofs.Mapped.{below_next, first_is}
use Rattle.litmus_merges.proofs.mappings.first_mapped.Goals as goal

pub pages-init : goal.pages-init
pages-init g c = below_first _ c.args.from

pub returns-in-Some-clause-some : goal.returns-in-Some-clause-some
returns-in-Some-clause-some g c = first_is _ c.args.from c.pages.page c.in-Some.meta c.pages.invariant c.pages-test.true c.in-Some.ensures

pub pages-preserved : goal.pages-preserved
pages-preserved g c = below_next c.args.objects.now c.args.steps.now c.args.from c.pages.page c.run_end-page.result c.in_default.ensures
    c.run_end-page.ensures.run c.run_end-page.ensures.further c.pages.invariant

pub returns-clause-none : goal.returns-clause-none
returns-clause-none g c = none_to_limit _ c.args.from c.pages.page c.pages.invariant c.pages-test.false
