use Rattle.std.proofs.Common.{refl}
use Rattle.coded.proofs.Openings.{opens_as, refuses_as}
use Rattle.coded.proofs.opening.open.Goals as goal

pub returns-in-Ok-new_within-clause-ok : goal.returns-in-Ok-new_within-clause-ok
returns-in-Ok-new_within-clause-ok g c =
    opens_as c.args.setup.now c.args.files.now c.args.bytes.now
    (record { cores = c.args.setup.now.cores; frames = c.args.setup.now.frames; files = c.in_ok-given.given; calls = c.args.setup.now.calls })
    c.limit_of-limit.result _ _ (record { cores = refl; frames = refl; calls = refl; are = c.in_ok-given.ensures.ok }) c.in-Ok-new_within.ensures.sound
    c.in-Ok.ensures.new c.in-Ok-new_within.ensures.opening

pub returns-in-Err-clause-err : goal.returns-in-Err-clause-err
returns-in-Err-clause-err g c =
    refuses_as c.args.setup.now c.args.files.now c.args.bytes.now
    (record { cores = c.args.setup.now.cores; frames = c.args.setup.now.frames; files = c.in_ok-given.given; calls = c.args.setup.now.calls })
    c.limit_of-limit.result c.in-Err.fault (record { cores = refl; frames = refl; calls = refl; are = c.in_ok-given.ensures.ok }) c.limit_of-limit.ensures
    c.in-Err.ensures.first
