use Rattle.std.proofs.Common.{◌≡◌, true, false, refl}
use Rattle.slot_lock.specs.declared.plan.Goal.TheVariants as To
use Rattle.frames.specs.Files.{cached_in}
use Rattle.vm_calls.proofs.Readable.{readable}
use Rattle.slot_lock.proofs.Facts.{on_err}
use Rattle.audit.proofs.Concluded.{act_given, act_illegal, act_legal, refuse_judged}
use Rattle.audit.proofs.Kept.{kept_none}
use Rattle.audit.proofs.judging.judge_change.Goals as goal

pub decide-requires-clause-readable : goal.decide-requires-clause-readable
decide-requires-clause-readable g c =
    readable _ _ (To.Change c.args.change) (g.met.M.SlotMap.is_slot_map c.args.map.now) (g.met.M.SlotMap.reads_all c.args.map.now)
    (record { plan = c.requires.sound; target = tt })

pub make_change-requires-clause-kept : goal.make_change-requires-clause-kept
make_change-requires-clause-kept g c =
    kept_none (g.M.SlotRead.slots c.args.map.now) (cached_in c.args.objects.now) c.args.frames.now c.requires.kept

pub returns-in_err-make_change-in-Act-clause-kept : goal.returns-in_err-make_change-in-Act-clause-kept
returns-in_err-make_change-in-Act-clause-kept g c = c.make_change.ensures.kept (cached_in c.args.objects.now) c.requires.kept

pub returns-in_ok-make_change-in-Act-clause-kept : goal.returns-in_ok-make_change-in-Act-clause-kept
returns-in_ok-make_change-in-Act-clause-kept g c = c.make_change.ensures.kept (cached_in c.args.objects.now) c.requires.kept

pub returns-in-Refuse-clause-judged : goal.returns-in-Refuse-clause-judged
returns-in-Refuse-clause-judged g c =
    refuse_judged (g.M.SlotRead.slots c.args.map.now) c.args.objects.now c.args.frames.now c.args.change c.args.reply c.in-Refuse.errno
    c.compared.result c.in-Refuse.ensures.decision c.compared.ensures

pub returns-then-not-is_same-clause-judged : goal.returns-then-not-is_same-clause-judged
returns-then-not-is_same-clause-judged g c =
    act_illegal (g.M.SlotRead.slots c.args.map.now) c.args.objects.now c.args.frames.now c.args.change c.args.reply c.change_reply-due.result _ _
    c.in-Act.ensures.decision c.in-Act.ensures.sound.1 c.change_reply-due.ensures
    (λ e. let wrong : false ≡ true = (c.if-not-is_same.ensures {u = tt}).1 e in absurd cc)

pub returns-in_ok-make_change-in-Act-clause-judged : goal.returns-in_ok-make_change-in-Act-clause-judged
returns-in_ok-make_change-in-Act-clause-judged g c =
    act_legal (g.M.SlotRead.slots c.args.map.now) (g.M.SlotRead.slots c.make_change.new.map) c.args.objects.now c.args.frames.now
    c.make_change.new.frames c.args.change c.args.reply c.change_reply-due.result _ _ c.in-Act.ensures.decision c.in-Act.ensures.sound.1
    c.change_reply-due.ensures ((c.if-not-is_same.ensures {u = tt}).0 refl) c.in_ok-make_change-in-Act.ensures.ok c.make_change.ensures.bytes

pub returns-in_err-make_change-in-Act-clause-legal : goal.returns-in_err-make_change-in-Act-clause-legal
returns-in_err-make_change-in-Act-clause-legal g c = on_err _
    (act_given (g.M.SlotRead.slots c.args.map.now) c.args.objects.now c.args.frames.now c.args.change c.args.reply c.change_reply-due.result _ _
    c.in-Act.ensures.decision c.in-Act.ensures.sound.1 c.change_reply-due.ensures ((c.if-not-is_same.ensures {u = tt}).0 refl))
