use Rattle.std.proofs.Common.{◌∙◌, sym}
use Rattle.trace.proofs.EventLines.{opened}
use Rattle.trace.proofs.Opening.{none_long}
use Rattle.trace.proofs.replayer.made.Goals as goal

pub setup_as_asked-requires : goal.setup_as_asked-requires
setup_as_asked-requires g c = none_long c.args.limit c.in-Some.declaration (sym c.fault_within.ensures ∙ c.in_default-fault_within.is)

pub returns-in-Ok-new_within-clause-ok : goal.returns-in-Ok-new_within-clause-ok
returns-in-Ok-new_within-clause-ok g c =
    opened c.args.limit _ c.in-Some.declaration _ _ _ c.in-Some.is (sym c.fault_within.ensures ∙ c.in_default-fault_within.is) c.in-Ok-new.ensures.new
    c.in-Ok-new.ensures.edges c.in-Ok-setup_as_asked.ensures.made
    c.in-Ok-new_within.ensures.opening
