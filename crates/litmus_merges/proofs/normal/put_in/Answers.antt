use Rattle.std.proofs.Common.{rules, subst, sym}
use Rattle.litmus_merges.specs.Passing.{PassFrom}
use Rattle.litmus_merges.proofs.Putting.{put_after, sound_put}
use Rattle.litmus_merges.proofs.normal.put_in.Goals as goal

pub returns-clause-map : goal.returns-clause-map
returns-clause-map g c = put_after c.args.steps.now.items c.drop_covered.new.steps.items c.insert.new.self.items c.place_of-place.result c.args.step
    c.drop_covered.ensures.alike (search rules)
    (subst (λ xs. PassFrom xs c.place_of-place.result c.args.step) c.as_slice-listed.ensures.value c.place_of-place.ensures.pass) (search rules)

pub returns-clause-sound : goal.returns-clause-sound
returns-clause-sound g c = sound_put c.drop_covered.new.steps.items c.insert.new.self.items c.place_of-place.result c.args.step
    c.drop_covered.ensures.sound c.requires.sound_step (search rules)
