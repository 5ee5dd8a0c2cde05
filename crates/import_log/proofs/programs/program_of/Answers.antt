use Rattle.std.proofs.Common.{length, sym, ◌∙◌}
use Rattle.import_log.proofs.EachLemmas.{last_low}
use Rattle.import_log.proofs.programs.program_of.Goals as goal

pub shown_at-requires : goal.shown_at-requires
shown_at-requires c =
    last_low (c.args.lines.now) c.args.owned.now (length c.args.lines.now) c.args.number c.in-Some.place.now
    (sym (c.requires c.args.number) ∙ sym c.in-Some.ensures.value)
