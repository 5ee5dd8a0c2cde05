use Rattle.std.proofs.Common.{rules}
use Rattle.machine_model.specs.declared.setup.CallLimit.TheVariants.{Usual}
use Rattle.machine_model.proofs.Setups.{few_cores_within}
use Rattle.live_space.proofs.Own.{fresh_own}
use Rattle.live_space.proofs.making.make.Goals as goal

pub new_cores-requires : goal.new_cores-requires
new_cores-requires g c = few_cores_within Usual c.args.setup c.requires

pub new-requires : goal.new-requires
new-requires g c = few_cores_within Usual c.args.setup c.requires

pub returns-clause-made : goal.returns-clause-made
returns-clause-made g c = record {
  sound = c.requires;
  cores = c.in_ok-states.ensures;
  frames = c.in_ok-cells.ensures;
  file = c.in_ok-opened.ensures.files;
  share = search rules;
  seats = c.in_ok-seating.ensures.fresh;
  all = c.in_ok-seating.ensures.all;
}

pub returns-clause-own : goal.returns-clause-own
returns-clause-own g c = fresh_own _ _ _ c.in_ok-states.ensures c.in_ok-seating.ensures.fresh
