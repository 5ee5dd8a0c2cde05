use Rattle.machine_model.proofs.Setups.{fits_usual}
use Rattle.core_steps.proofs.machine.Machine.new.Goals as goal

pub new_within-requires-clause-fits : goal.new_within-requires-clause-fits
new_within-requires-clause-fits g c = fits_usual g.L.Ledger.keeps
