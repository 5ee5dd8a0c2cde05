use Rattle.std.proofs.Common.{rules, subst}
use Rattle.litmus_merges.specs.Steps.{AreSound}
use Rattle.litmus_merges.proofs.Maps.{steps_same}
use Rattle.litmus_merges.proofs.Putting.{after_some, sound_some}
use Rattle.litmus_merges.proofs.normal.steps_after.Goals as goal

pub put_in-requires : goal.put_in-requires
put_in-requires g c = record {
  sound = subst AreSound {x = c.args.steps.now} {y = c.extend_from_slice.new.self.items} (search rules) c.requires.sound;
  sound_step = sound_some c.args.step c.in-Some.step c.in-Some.is c.requires.sound_step;
}

pub returns-in_default-clause-map : goal.returns-in_default-clause-map
returns-in_default-clause-map g c = steps_same c.args.steps.now c.extend_from_slice.new.self.items c.args.step c.in_default.is (search rules)

pub returns-in_default-clause-sound : goal.returns-in_default-clause-sound
returns-in_default-clause-sound g c = subst AreSound {x = c.args.steps.now} {y = c.extend_from_slice.new.self.items} (search rules) c.requires.sound

pub returns-clause-map : goal.returns-clause-map
returns-clause-map g c = after_some c.args.steps.now c.extend_from_slice.new.self.items c.put_in.new.steps.items c.args.step c.in-Some.step c.in-Some.is
    (search rules) c.in_ok-put_in.ensures.map
