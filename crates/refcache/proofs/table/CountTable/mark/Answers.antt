use Rattle.std.proofs.Common.{◌≡◌, length, sym, subst}
use Rattle.refcache.specs.Steps.{Flushes, IsClear}
use Rattle.refcache.specs.Parts.{Parts, counts_of}
use Rattle.refcache.proofs.PartsOf.{whole_marked}
use Rattle.refcache.proofs.table.CountTable.mark.Goals as goal

pub returns-clause-flushes : goal.returns-clause-flushes
returns-clause-flushes g c =
    let p : Parts = record { objects = c.self.inside.objects.items; cores = c.self.inside.cores.items; epochs = c.self.inside.epochs } in
    let marks = subst (λ (v : Parts). v.epochs.cores ≡ length v.cores) (sym c.self.view_is) c.requires.marks in
    let clear = subst (λ (v : Parts). IsClear (counts_of v) c.args.core) (sym c.self.view_is) c.requires.clear in
    subst (λ (v : Parts). Flushes (counts_of v) c.args.core c.mark.result (counts_of (record p { epochs = c.mark.new.self }))) c.self.view_is
    (whole_marked p c.args.core c.mark.result c.mark.new.self marks clear c.mark.ensures.marks)
