use Rattle.std.proofs.Common.{arith, false, refl, true, ◌≡◌}
use Rattle.vm_base.specs.Apply.{is_read_only}
use Rattle.litmus_merges.specs.Steps.{map_of}
use Rattle.litmus_merges.proofs.Pages.{no_page, none_yet, one_page}
use Rattle.litmus_merges.proofs.AlikePages.{none_read_only_run}
use Rattle.litmus_merges.proofs.protecting.has_read_only.Goals as goal

pub pages-init : goal.pages-init
pages-init g c =
    let t = map_of c.args.objects.now c.args.steps.now in
    record { low = omega arith; none = none_yet (is_read_only t.file) t.entry c.args.range }

pub pages-preserved : goal.pages-preserved
pages-preserved g c =
    let i = c.pages.invariant in
    let low = i.low in
    let further = c.run_end-page.ensures.further in
    record {
      low = omega (arith, low, further);
      none = none_read_only_run c.args.objects.now c.args.steps.now c.args.range c.pages.page c.run_end-page.result i.none c.if-is_read_only.ensures
          c.run_end-page.ensures.run;
    }

pub returns-then-is_read_only : goal.returns-then-is_read_only
returns-then-is_read_only g c =
    let t = map_of c.args.objects.now c.args.steps.now in
    let low = c.pages.invariant.low in (
      (λ h. one_page (is_read_only t.file) t.entry c.args.range c.pages.page low c.pages-test.true c.if-is_read_only.ensures),
      (λ h. refl),
    )

pub returns : goal.returns
returns g c =
    let t = map_of c.args.objects.now c.args.steps.now in
    let end = c.pages-test.false in (
      (λ h. let wrong : false ≡ true = h in absurd cc),
      (λ h. absurd (no_page (is_read_only t.file) t.entry c.args.range c.pages.page (omega (arith, end)) c.pages.invariant.none h)),
    )
