use Rattle.std.proofs.Common.{◌≡◌, true, false, refl, sym, ap}
use Rattle.slot_lock.specs.Plan.{range_of}
use Rattle.frames.specs.Files.{cached_in}
use Rattle.audit.proofs.Concluded.{act_illegal, act_legal, refuse_judged}
use Rattle.audit.proofs.Kept.{kept_none}
use Rattle.audit.proofs.judging.judge_alone.Goals as goal

pub returns-in-Err-clause-judged : goal.returns-in-Err-clause-judged
returns-in-Err-clause-judged g c =
    refuse_judged (g.M.SlotRead.slots c.args.map.now) c.args.objects.now c.args.frames.now c.args.change c.args.reply c.in-Err.errno
    c.compared.result (c.in-Err.ensures.refused (g.M.SlotRead.slots c.args.map.now) (sym c.requires.page.info)) c.compared.ensures

pub returns-then-not-is_same-clause-judged : goal.returns-then-not-is_same-clause-judged
returns-then-not-is_same-clause-judged g c =
    act_illegal (g.M.SlotRead.slots c.args.map.now) c.args.objects.now c.args.frames.now c.args.change c.args.reply c.change_reply-due.result
    (range_of c.args.change) _ (c.in_default.ensures.made (g.M.SlotRead.slots c.args.map.now) (sym c.requires.page.info)) refl
    c.change_reply-due.ensures (λ e. let wrong : false ≡ true = (c.if-not-is_same.ensures {u = tt}).1 e in absurd cc)

pub change_alone-requires-clause-kept : goal.change_alone-requires-clause-kept
change_alone-requires-clause-kept g c =
    kept_none (g.M.SlotRead.slots c.args.map.now) (cached_in c.args.objects.now) c.args.frames.now c.requires.kept

pub returns-clause-judged : goal.returns-clause-judged
returns-clause-judged g c =
    act_legal (g.M.SlotRead.slots c.args.map.now) (g.M.SlotRead.slots c.change_alone.new.map) c.args.objects.now c.args.frames.now
    c.change_alone.new.frames c.args.change c.args.reply c.change_reply-due.result (range_of c.args.change) _
    (c.in_default.ensures.made (g.M.SlotRead.slots c.args.map.now) (sym c.requires.page.info)) refl
    c.change_reply-due.ensures ((c.if-not-is_same.ensures {u = tt}).0 refl) (ap (λ x. x.info) c.change_alone.ensures.slots)
    c.change_alone.ensures.bytes

pub returns-clause-kept : goal.returns-clause-kept
returns-clause-kept g c = c.change_alone.ensures.kept (cached_in c.args.objects.now) c.requires.kept
