use Rattle.std.proofs.lemmas.Result.{IfErr-weaker, IfOk-weaker}
use Rattle.certifier.proofs.following.follow.Goals as goal

pub returns-clause-ok : goal.returns-clause-ok
returns-clause-ok g c = IfOk-weaker c.follow_notes.result _ _
    (λ done h. h c.args.setup (record { sound = c.requires.sound; slots = _; new = c.requires.new; is = c.in-Ok-new.ensures.opening }))
    c.follow_notes.ensures.ok

pub returns-clause-err : goal.returns-clause-err
returns-clause-err g c = IfErr-weaker c.follow_notes.result _ _
    (λ fault h. h c.args.setup (record { sound = c.requires.sound; slots = _; new = c.requires.new; is = c.in-Ok-new.ensures.opening }))
    c.follow_notes.ensures.err
