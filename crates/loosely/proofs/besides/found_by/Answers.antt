use Rattle.std.proofs.Common.{◌∙◌, ap, Ok}
use Rattle.loosely.proofs.BesidesLemmas.{kernel_found, moving_found}
use Rattle.loosely.proofs.besides.found_by.Goals as goal

pub returns-then-stays : goal.returns-then-stays
returns-then-stays g c =
    kernel_found _ c.args.history.now c.in_ok-tried.tried.replies.items _ _ _ c.as_slice-files.ensures.value c.as_slice-calls.ensures.value c.in_ok-tried.ensures
    (c.is_order.ensures (c.in_ok-stays.was ∙ ap Ok c.if-stays.true))

pub returns-then-moves_between : goal.returns-then-moves_between
returns-then-moves_between g c =
    moving_found _ c.args.history.now c.in_ok-tried.tried.replies.items _ _ _ c.as_slice-files.ensures.value c.as_slice-calls.ensures.value c.in_ok-tried.ensures
    (c.is_order-2.ensures (c.in_ok-moves_between.was ∙ ap Ok c.if-moves_between.true))
