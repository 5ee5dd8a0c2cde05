use Rattle.std.proofs.Common.{◌≡◌, ◌<◌, length, sym, ap, ◌∙◌, subst}
use Rattle.std.proofs.lemmas.List.{get_or_default}
use Rattle.std.proofs.lemmas.Int.{to_z-of_z}
use mir.Syntax.{w64}
use Rattle.refcache.specs.Counts.{evicted}
use Rattle.refcache.specs.Places.{entries}
use Rattle.refcache.specs.Steps.{IsInTheWay}
use Rattle.refcache.specs.Parts.{Parts, counts_of}
use Rattle.refcache.proofs.PartsOf.{way_cleared}
use Rattle.refcache.proofs.table.CountTable.make_room.Goals as goal

pub returns-in-Some-clause-free : goal.returns-in-Some-clause-free
returns-in-Some-clause-free g c =
    let p : Parts = record { objects = c.self.inside.objects.items; cores = c.self.inside.cores.items; epochs = c.self.inside.epochs } in
    let seen : p ≡ c.args.self.now = c.self.view_is in
    let at : c.args.core < length p.cores = subst (λ v. c.args.core < length v.cores) (sym seen) c.requires.core in
    let core = c.index.ensures ∙ get_or_default p.cores c.args.core _ _ at in
    let way0 = subst (λ b. IsInTheWay (entries c.index.result.now.places) c.args.object b c.in-Some.other)
    (to_z-of_z w64 c.args.by c.ranges.by) c.in-Some.ensures.some in
    let way = subst (λ k. IsInTheWay (entries k.places) c.args.object c.args.by c.in-Some.other) core way0 in
    let counts = c.evict.ensures.counts ∙ ap (λ v. evicted c.args.core c.in-Some.other (counts_of v)) (sym seen) in
    way_cleared p c.args.core c.args.object c.args.by c.in-Some.other c.evict.new.self way counts
