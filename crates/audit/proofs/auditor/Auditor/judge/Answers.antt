use Rattle.std.proofs.Common.{Ok, sym}
use Rattle.audit.specs.Keeping.{plain_kept}
use Rattle.audit.proofs.Changed.{has_modes}
use Rattle.audit.proofs.Concluded.{checked_kept, if_ok_map, on_err_map, refused_judged}
use Rattle.audit.proofs.auditor.Auditor.judge.Goals as goal

pub returns-in-Err-clause-judged : goal.returns-in-Err-clause-judged
returns-in-Err-clause-judged g c =
    let s = g.M.SlotRead.slots c.args.self.now.map in
    let o = c.args.self.now.objects in
    let f = c.args.self.now.frames in
    refused_judged c.args.self.now.any_place s o f c.args.core c.args.request c.args.reply c.in-Err.due c.compared.result
    (sym c.in-Err.ensures.value) (c.in-Err.ensures.plain (plain_kept s o f) (has_modes s o f)) c.compared.ensures

pub returns-in-Ok-clause-judged : goal.returns-in-Ok-clause-judged
returns-in-Ok-clause-judged g c =
    let s = g.M.SlotRead.slots c.args.self.now.map in
    let o = c.args.self.now.objects in
    let f = c.args.self.now.frames in
    if_ok_map c.judge_plan.result _ _ c.judge_plan.ensures.judged
    (λ verdict j. j c.args.core c.args.request c.index-index.ensures.in_range
    (checked_kept s o f c.args.core c.args.request (Ok c.in-Ok.plan) (sym c.in-Ok.ensures.value)))

pub returns-in-Ok-clause-legal : goal.returns-in-Ok-clause-legal
returns-in-Ok-clause-legal g c =
    let s = g.M.SlotRead.slots c.args.self.now.map in
    let o = c.args.self.now.objects in
    let f = c.args.self.now.frames in
    on_err_map c.judge_plan.result _ _ c.judge_plan.ensures.legal
    (λ gives. gives c.args.core c.args.request c.index-index.ensures.in_range
    (checked_kept s o f c.args.core c.args.request (Ok c.in-Ok.plan) (sym c.in-Ok.ensures.value)))
