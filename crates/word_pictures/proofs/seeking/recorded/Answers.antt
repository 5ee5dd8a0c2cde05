use Rattle.std.proofs.Common.{rules}
use Rattle.word_pictures.proofs.SayingLemmas.{was_shown}
use Rattle.word_pictures.specs.Stepping.{is_whole}
use Rattle.word_pictures.proofs.seeking.recorded.Goals as goal

pub returns-clause-ok : goal.returns-clause-ok
returns-clause-ok c =
    let whole : is_whole c.in-Ok-record.recorder = search rules in
    was_shown c.args.trace.now c.in-Ok.recorder c.in-Ok-record.recorder c.in-Ok.ensures c.in-Ok-record.ensures.ends whole
