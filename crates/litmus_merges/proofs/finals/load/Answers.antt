use Rattle.litmus_merges.specs.Steps.{map_of}
use Rattle.litmus_merges.proofs.Shown.{load_is, load_told}
use Rattle.litmus_merges.proofs.finals.load.Goals as goal

pub returns : goal.returns
returns g c = load_is (map_of c.args.objects.now c.args.steps.now) _ 0 c.args.addr c.turn_of-turn.result.reply c.in-Some.reply c.turn_of-turn.ensures.turns
    c.in-Some.is

pub unreachable-unreachable : goal.unreachable-unreachable
unreachable-unreachable g c = load_told (map_of c.args.objects.now c.args.steps.now) _ 0 c.args.addr c.turn_of-turn.result.reply c.turn_of-turn.ensures.turns
    c.in-None.is
