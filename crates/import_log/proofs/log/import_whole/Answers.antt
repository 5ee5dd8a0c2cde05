use Rattle.std.proofs.Common.{length, take, sym, ap, ◌∙◌}
use Rattle.trace_io.specs.Lines.{lines_of}
use Rattle.import_log.specs.Imported.{chosen_all, ending_all, import_all, processes_all, speeches_of, unread_shown}
use Rattle.import_lines.specs.LogLines.{first_unread}
use Rattle.import_log.specs.Owned.{is_unclear, owned}
use Rattle.import_log.specs.Programs.{programs_all}
use Rattle.import_steps.specs.Taking.{so_far}
use Rattle.import_lines.proofs.LineLemmas.{map_long}
use Rattle.import_lines.proofs.UnreadLemmas.{spoken_long, unread_kept}
use Rattle.import_log.proofs.log.import_whole.Goals as goal

pub returns-clause-told : goal.returns-clause-told
returns-clause-told g c = λ input h.
    let is = c.in_ok-imported.ensures in
    let start = so_far c.args.start.now in
    let choice = c.args.choice in
    let report = c.in_ok-imported.imported.1 in
    let said = c.in_ok-owned.ensures.lines ∙ ap owned h.said in
    let unclear = c.in_ok-owned.ensures.unclear ∙ ap is_unclear h.said in
    let ending = is.ending ∙ ap (ending_all c.in_ok-owned.owned.unclear start choice) said
    ∙ ap (λ u. ending_all u start choice (speeches_of input)) unclear in
    record {
      value = is.value ∙ ap (import_all start choice) said;
      ending = ending;
      processes = is.processes ∙ ap (processes_all choice.joined) said;
      programs = is.programs ∙ ap (programs_all choice.joined) said;
      process = is.process ∙ ap (chosen_all choice) said;
      unread =
          is.unread ∙ ap (unread_shown report.ending) (c.as_slice.ensures.value ∙ unread_kept (lines_of input) _ _ _ _ h)
          ∙ ap (λ e. unread_shown e (take 80 (first_unread (lines_of input)))) ending;
      total = is.total ∙ ap length said ∙ sym (map_long _ _) ∙ spoken_long (lines_of input);
    }
