use Rattle.std.proofs.Common.{◌++◌, ap, subst}
use Rattle.std.specs.Io.KnownBytes.{Appends}
use Rattle.trace_io.proofs.IoLemmas.{written_then}
use Rattle.trace.proofs.echo.write_entry.Goals as goal

pub returns : goal.returns
returns g c =
    let w = c.write_all.ensures in
    written_then _ _ _ _ _ _ _ _ _ _
    (subst (Appends _ _) (ap (λ t. t ++ c.args.whose.now) c.unended.ensures) c.in_default.ensures.ok) c.in_default.ensures.kept
    (record { ok = w.ok; kept = w.kept; front = w.front; err = w.err })
