use Rattle.std.proofs.Common.{◌∙◌, IfSome, List, Option, ap, refl, slice_get, subst, sym}
use Rattle.trace_io.specs.Lines.{lines_of}
use Rattle.orders.specs.declared.history.Timed.{Timed}
use Rattle.orders_text.specs.declared.clock.PendingCall.{PendingCall}
use Rattle.cores.specs.declared.finding.Core.{Core}
use Rattle.overlapping.specs.Waiting.{NoneWaits}
use Rattle.loosely.specs.Kernel.{IsCoreByKernel}
use Rattle.loosely.proofs.KernelLemmas.{none_told}
use Rattle.loosely.proofs.kernel.rule_without.Goals as goal

pub returns-in_ok-explanation-in-Some-2 : goal.returns-in_ok-explanation-in-Some-2
returns-in_ok-explanation-in-Some-2 g c = λ moving.
    none_told c.args.any_place moving (lines_of c.args.text.now) c.args.history.now c.in-Some-2.core _ c.as_slice-3.result.now c.as_slice-lines.result.now
    c.args.place c.in-Some.line c.in-Some-call_at.timed refl c.if-core-timed.false c.in_ok-explanation-in-Some-2.ensures
    c.as_slice-lines.ensures.value c.as_slice-3.ensures.value
    (subst (λ (ws : List (Option PendingCall)). NoneWaits ws) c.as_slice-2.ensures.value (c.none_waits.ensures c.if-not-none_waits.false))
    (subst (λ (o : Option (Core g.row.A.Denot)). IfSome o (IsCoreByKernel c.args.any_place c.as_slice-3.result.now)) c.in-Some-2.is
    c.in_ok-core_without_late.ensures)
    (sym c.line_at.ensures ∙ c.in-Some.is)
    (ap (λ (cs : List Timed). slice_get cs c.args.place) (c.as_slice-3.ensures.value ∙ sym c.as_slice.ensures.value)
    ∙ (sym c.call_at.ensures ∙ c.in-Some-call_at.is))
