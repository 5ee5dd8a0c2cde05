use Rattle.std.proofs.Common.{◌∙◌, inl, inr, refl, ap, Some}
use Rattle.command_line.proofs.DoneLemmas.{done_wider, lost_by, of_some}
use Rattle.command_line.proofs.command.perform.Goals as goal

pub returns-in-Ok-None : goal.returns-in-Ok-None
returns-in-Ok-None g c = record { does = c.perform_named.ensures.does }

pub returns-in-Ok-Some : goal.returns-in-Ok-Some
returns-in-Ok-Some g c = record {
  does =
      let one = of_some _ _ _ c.in-Ok-Some.field-0-is c.in-Ok-Some.ensures.ok in
      done_wider _ (λ coming is. inr (_, one, is ∙ ap Some c.as_slice.ensures.value)) c.perform_listed.ensures.does;
}

pub returns-in-Err : goal.returns-in-Err
returns-in-Err g c = record { does = inr ((refl, refl), lost_by c.in-Err.ensures.err) }
