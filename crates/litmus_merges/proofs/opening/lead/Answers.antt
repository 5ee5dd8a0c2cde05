use Rattle.litmus_merges.proofs.Maps.{lead_more, sound_more}
use Rattle.litmus_merges.proofs.opening.lead.Goals as goal

pub returns-clause-turns : goal.returns-clause-turns
returns-clause-turns g c = lead_more c.args.objects.now c.as_slice.result.now c.args.opening.now.items c.push.new.self.items c.args.core c.args.request
    c.turn_of-turn.result.reply c.turn_of-turn.result.step c.in-Some.step c.as_slice.ensures.value c.in-Some.is c.in_ok-push.ensures.items
    c.turn_of-turn.ensures.turns

pub returns-clause-sound : goal.returns-clause-sound
returns-clause-sound g c = sound_more c.args.opening.now.items c.push.new.self.items c.turn_of-turn.result.step c.in-Some.step c.in-Some.is
    c.in_ok-push.ensures.items c.requires.sound c.turn_of-turn.ensures.sound
