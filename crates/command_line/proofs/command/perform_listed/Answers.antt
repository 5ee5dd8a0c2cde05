use Rattle.std.proofs.Common.{inl, inr, refl}
use Rattle.command_line.proofs.DoneLemmas.{listed_wider, lists_of}
use Rattle.command_line.proofs.command.perform_listed.Goals as goal

pub returns-in-Ok : goal.returns-in-Ok
returns-in-Ok g c = record {
  does = inl (listed_wider (λ coming is. lists_of _ _ _ _ coming _ (λ e. refl) c.in-Ok.ensures.ok is) c.perform_on.ensures.does);
}

pub returns-in-Err : goal.returns-in-Err
returns-in-Err g c = record { does = inr (c.refuse_file.ensures, (refl, refl), c.in-Err.ensures.err) }
