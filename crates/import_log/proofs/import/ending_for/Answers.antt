use Rattle.std.proofs.Common.{length, ap, ◌∙◌}
use Rattle.import_lines.specs.Torn.{is_torn}
use Rattle.import_log.specs.Imported.{asked_any, ending_by, is_known_start, is_unfollowed, refusal_by, stray_of}
use Rattle.import_log.specs.Processes.{is_there}
use Rattle.import_steps.specs.Taking.{so_far}
use Rattle.import_log.proofs.EachLemmas.{ending_known}
use Rattle.import_log.proofs.import.ending_for.Goals as goal

pub returns : goal.returns
returns c =
    let all = c.args.lines.now in
    let start = so_far c.args.start.now in
    let taken = c.args.imported.now in
    let known = is_known_start (length start.steps) taken.counts.begins in
    let choice = c.args.choice in
    let refusal = refusal_by (is_torn all (length all)) c.args.unclear (is_unfollowed all c.args.made.now) choice.from_empty
    (stray_of all c.args.made.now c.args.process c.args.processes.now) known in
    c.ending_by.ensures
    ∙ ap (λ r. ending_by r c.is_there.result c.asked_any.result c.len-steps.result) (c.refusal_for-refusal.ensures
    ∙ ap (λ s. refusal_by (is_torn all (length all)) c.args.unclear (is_unfollowed all c.args.made.now) choice.from_empty s known) c.in_ok-stray.ensures)
    ∙ ap (λ b. ending_by refusal b c.asked_any.result c.len-steps.result) c.is_there.ensures
    ∙ ap (λ b. ending_by refusal (is_there choice.thread all) b c.len-steps.result) c.asked_any.ensures
    ∙ ap (λ n. ending_by refusal (is_there choice.thread all) (asked_any c.args.processes.now) n) c.len-steps.ensures
    ∙ ending_known c.args.unclear start choice all c.args.made.now c.args.processes.now c.args.process (so_far taken.taken, taken.counts)
    c.requires.made c.requires.processes c.requires.process c.requires.taken
