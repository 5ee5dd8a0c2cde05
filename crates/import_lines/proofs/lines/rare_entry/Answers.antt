use Rattle.std.proofs.Common.{sym, subst}
use Rattle.import_lines.specs.Lines.{AreKept, kept_of}
use Rattle.import_lines.proofs.LineLemmas.{others_stay}
use Rattle.import_lines.proofs.lines.rare_entry.Goals as goal

pub returns-clause-others : goal.returns-clause-others
returns-clause-others c =
    λ said entries order h.
    subst (λ r. AreKept said r entries order) (sym c.in_ok-push.ensures.ok) (others_stay said c.args.rares.now (kept_of c.args.line) entries order h)
