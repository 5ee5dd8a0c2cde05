use Rattle.std.proofs.Common.{Some, ap, sym, ◌∙◌}
use Rattle.core_steps.specs.Machine.{state}
use Rattle.trace.specs.EventRuns.{Asks}
use Rattle.trace.specs.Gives.{Gives}
use Rattle.trace.specs.Seen.{Sees}
use Rattle.trace.proofs.EventLines.{line_gives}
use Rattle.trace.proofs.event_lines.watch_line.Goals as goal
use Rattle.trace.proofs.event_lines.watch_line.Goals.{in-Act, in-Fold, in-Finish, in-Now}

pub returns-in-Ok-clause-ok : goal.returns-in-Ok-clause-ok
returns-in-Ok-clause-ok g c = elim c.match-line-2.branch [
  | in-Act w ↦ rw (w.machine-is, w.text-is)
      (line_gives _ _ w.tell_act-done.result _ (λ l. Gives g.M.SlotMap.can_fold g.M.SlotMap.folds (state c.args.machine.now) l _ _)
      (c.in-Some.is ∙ ap Some w.in-Act.is) (sym w.done-is ∙ c.in-Ok.is) w.tell_act-done.ensures.ok)
  | in-Fold w ↦ rw (w.machine-is, w.text-is)
      (line_gives _ _ w.tell_fold-done.result _ (λ l. Gives g.M.SlotMap.can_fold g.M.SlotMap.folds (state c.args.machine.now) l _ _)
      (c.in-Some.is ∙ ap Some w.in-Fold.is) (sym w.done-is ∙ c.in-Ok.is) w.tell_fold-done.ensures.ok)
  | in-Finish w ↦ rw (w.machine-is, w.text-is)
      (line_gives _ _ w.tell_finish-done.result _ (λ l. Gives g.M.SlotMap.can_fold g.M.SlotMap.folds (state c.args.machine.now) l _ _)
      (c.in-Some.is ∙ ap Some w.in-Finish.is) (sym w.done-is ∙ c.in-Ok.is) w.tell_finish-done.ensures.ok)
  | in-Now w ↦ rw (w.machine-is, w.text-is)
      (line_gives _ _ w.tell_call-done.result _ (λ l. Gives g.M.SlotMap.can_fold g.M.SlotMap.folds (state c.args.machine.now) l _ _)
      (c.in-Some.is ∙ ap Some w.in-Now.is) (sym w.done-is ∙ c.in-Ok.is) w.tell_call-done.ensures.ok)
]

pub returns-in-Ok-clause-seen : goal.returns-in-Ok-clause-seen
returns-in-Ok-clause-seen g c = elim c.match-line-2.branch [
  | in-Act w ↦ rw (w.machine-is, w.watch-is, w.text-is)
      (line_gives _ _ w.tell_act-done.result _ (λ l. Sees g.X.Watch.after c.args.watch.now (state c.args.machine.now) (Asks l) _ _ _)
      (c.in-Some.is ∙ ap Some w.in-Act.is) (sym w.done-is ∙ c.in-Ok.is) w.tell_act-done.ensures.seen)
  | in-Fold w ↦ rw (w.machine-is, w.watch-is, w.text-is)
      (line_gives _ _ w.tell_fold-done.result _ (λ l. Sees g.X.Watch.after c.args.watch.now (state c.args.machine.now) (Asks l) _ _ _)
      (c.in-Some.is ∙ ap Some w.in-Fold.is) (sym w.done-is ∙ c.in-Ok.is) w.tell_fold-done.ensures.seen)
  | in-Finish w ↦ rw (w.machine-is, w.watch-is, w.text-is)
      (line_gives _ _ w.tell_finish-done.result _ (λ l. Sees g.X.Watch.after c.args.watch.now (state c.args.machine.now) (Asks l) _ _ _)
      (c.in-Some.is ∙ ap Some w.in-Finish.is) (sym w.done-is ∙ c.in-Ok.is) w.tell_finish-done.ensures.seen)
  | in-Now w ↦ rw (w.machine-is, w.watch-is, w.text-is)
      (line_gives _ _ w.tell_call-done.result _ (λ l. Sees g.X.Watch.after c.args.watch.now (state c.args.machine.now) (Asks l) _ _ _)
      (c.in-Some.is ∙ ap Some w.in-Now.is) (sym w.done-is ∙ c.in-Ok.is) w.tell_call-done.ensures.seen)
]
