use Rattle.std.proofs.Common.{ap, refl}
use Rattle.state_seen.specs.Lists.{at_page}
use Rattle.mmu.proofs.Empty.{get_or-replicate_default}
use Rattle.machine_model.specs.declared.phase.Phase.TheVariants.{Free}
use Rattle.state_seen.proofs.mirror.Mirror.new.Goals as goal

pub returns : goal.returns
returns g c = record {
  whole = refl;
  holds = c.in_ok-cores.ensures.empty;
  tables = c.in_ok-tables.ensures.empty;
  pages = λ p. ap (λ l. at_page l p) c.new.ensures;
  phases = λ k. get_or-replicate_default 64 Free k;
  epoch = refl;
  full = refl;
}
