use Rattle.std.proofs.Common.{IsSome, subst, sym}
use Rattle.command_line.proofs.DoneLemmas.{first_is_0, order_saved, status_of_end}
use Rattle.command_line.proofs.command.perform_over.Goals as goal

pub returns : goal.returns
returns g c = record {
  status = c.act-ended.result.status;
  parts = c.as_slice-2.result.now;
  does = c.act-ended.ensures.does;
  order = λ e. order_saved _ _ _ c.as_slice.result.now c.requires.order
      (c.save_order-status.ensures.saved (first_is_0 _ _ _ c.save_traces.ensures.status e));
  found = rw c.as_slice-2.ensures.value c.act-ended.ensures.parts;
  saved = λ e. rw (sym c.requires.folder) (c.save_traces.ensures.saved e);
  status_is = status_of_end _ _ _ _ _ _ _ _ _ (λ s. subst (λ o. IsSome o) c.requires.order s)
      (λ s. subst (λ o. IsSome o) c.requires.folder s) c.status_seen-status.ensures.seen c.save_order-status.ensures.status c.save_traces.ensures.status;
}
