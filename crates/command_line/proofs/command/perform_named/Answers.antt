use Rattle.std.proofs.Common.{inl, inr, refl}
use Rattle.command_line.proofs.DoneLemmas.{done_wider}
use Rattle.command_line.proofs.command.perform_named.Goals as goal

pub returns-in-Ok : goal.returns-in-Ok
returns-in-Ok g c = record {
  does = done_wider _ (λ coming is. inl (c.in-Ok.input, c.in-Ok.ensures.ok, is)) c.perform_listed.ensures.does;
}

pub returns-in-Err : goal.returns-in-Err
returns-in-Err g c = record { does = inr ((refl, refl), inl (c.refuse_file.ensures, inl c.in-Err.ensures.err)) }
