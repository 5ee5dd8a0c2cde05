use Rattle.std.proofs.Common.{length, refl, ap, ◌∙◌}
use Rattle.import_log.specs.Processes.{processes}
use Rattle.import_log.proofs.EachLemmas.{process_known, programs_known}
use Rattle.import_log.proofs.import.import_lines.Goals as goal

pub returns-clause-process : goal.returns-clause-process
returns-clause-process g c =
    process_known c.args.choice c.args.lines.now _ c.as_slice-2.result.now _ c.in_ok-made.ensures
    (c.as_slice-2.ensures.value ∙ c.in_ok-processes.ensures) c.chosen-process.ensures

pub returns-clause-value : goal.returns-clause-value
returns-clause-value g c = c.in_ok-imported.ensures.value

pub returns-clause-ending : goal.returns-clause-ending
returns-clause-ending g c = c.in_ok-imported.ensures.ending

pub returns-clause-processes : goal.returns-clause-processes
returns-clause-processes g c =
    let all = c.args.lines.now in
    c.in_ok-processes.ensures ∙ ap (λ m. processes all m (length all)) c.in_ok-made.ensures

pub returns-clause-programs : goal.returns-clause-programs
returns-clause-programs g c =
    let all = c.args.lines.now in
    programs_known c.args.choice.joined all (length all) _ c.as_slice.result.now _ refl
    c.in_ok-made.ensures (c.as_slice.ensures.value ∙ c.in_ok-processes.ensures) c.in_ok-programs.ensures

pub returns-clause-unread : goal.returns-clause-unread
returns-clause-unread g c = c.in-Ok.ensures

pub returns-clause-total : goal.returns-clause-total
returns-clause-total g c = c.in_ok-imported.ensures.total

pub returns-clause-few : goal.returns-clause-few
returns-clause-few g c = c.in_ok-imported.ensures.few
