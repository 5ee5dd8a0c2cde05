use Rattle.std.proofs.Common.{◌≡◌, ◌<◌, length, sym, ap, ◌∙◌, subst, None}
use Rattle.std.proofs.lemmas.List.{get_or_default}
use Rattle.vm_base.specs.Functions.{put}
use Rattle.refcache.specs.Counts.{evicted}
use Rattle.refcache.specs.Places.{entries}
use Rattle.refcache.specs.Parts.{Parts, counts_of, core_at, object_at}
use Rattle.refcache.specs.Pieces.{EvictsInto}
use Rattle.refcache.proofs.PartsOf.{whole_evicted}
use Rattle.refcache.proofs.table.CountTable.evict.Goals as goal

pub returns-clause-counts : goal.returns-clause-counts
returns-clause-counts g c =
    let p : Parts = record { objects = c.self.inside.objects.items; cores = c.self.inside.cores.items; epochs = c.self.inside.epochs } in
    let seen : p ≡ c.args.self.now = c.self.view_is in
    let at : c.args.core < length p.cores = subst (λ v. c.args.core < length v.cores) (sym seen) c.requires.core in
    let object : c.args.object < length p.objects = subst (λ v. c.args.object < length v.objects) (sym seen) c.requires.object in
    let core : c.index_mut-part.result.now ≡ core_at p.cores c.args.core = c.index_mut-part.ensures.value ∙ get_or_default p.cores c.args.core _ _ at in
    let count : c.index_mut.result.now ≡ object_at p.objects c.args.object = c.index_mut.ensures.value ∙ get_or_default p.objects c.args.object _ _ object in
    let places = subst (λ k. entries c.evict.new.self.places ≡ put (entries k.places) c.args.object None) core c.evict.ensures.entries in
    let at_epoch = subst (λ e. EvictsInto c.index_mut-part.result.now c.index_mut.result.now c.args.object e c.evict.new.count
    c.evict.new.self.queue) c.number-epoch.ensures c.evict.ensures.count in
    let into0 = subst (λ k. EvictsInto k c.index_mut.result.now c.args.object p.epochs.number c.evict.new.count c.evict.new.self.queue) core at_epoch in
    let into = subst (λ y. EvictsInto (core_at p.cores c.args.core) y c.args.object p.epochs.number c.evict.new.count c.evict.new.self.queue) count into0 in
    whole_evicted p c.args.core c.args.object c.evict.new.self c.evict.new.count at object places into
    ∙ ap (λ v. evicted c.args.core c.args.object (counts_of v)) seen
