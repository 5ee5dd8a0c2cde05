-- line_end
use Rattle.std.proofs.Common.{◌∙◌, Some, ap, arith, sym}
use Rattle.litmus_merges.proofs.Mapped.{ends_at_limit, low_page, run_first, run_next}
use Rattle.litmus_merges.proofs.mappings.line_end.Goals as goal

pub pages-init : goal.pages-init
pages-init g c = run_first c.args.objects.now c.args.steps.now c.args.first c.run_end-end.result c.args.meta c.requires.mapped
    c.run_end-end.ensures.run c.run_end-end.ensures.further c.run_end-end.ensures.within

pub advanced-requires : goal.advanced-requires
advanced-requires g c =
    let page = low_page c.args.objects.now c.args.steps.now c.args.first c.args.meta c.requires.sound c.requires.mapped in
    let high = c.pages.invariant.high in
    omega (arith, page, high)

pub pages-preserved : goal.pages-preserved
pages-preserved g c = run_next c.args.objects.now c.args.steps.now c.args.first c.pages.end c.run_end-end-in-pages.result c.args.meta
    (sym c.meta_of-next.ensures ∙ (c.is_mapped_to.ensures.0 c.if-not-is_mapped_to.false ∙ ap Some c.advanced.ensures))
    c.run_end-end-in-pages.ensures.run c.run_end-end-in-pages.ensures.further c.run_end-end-in-pages.ensures.within c.pages.invariant

pub returns-clause-ends : goal.returns-clause-ends
returns-clause-ends g c = ends_at_limit c.args.objects.now c.args.steps.now c.pages.end _ c.requires.sound c.pages-test.false
