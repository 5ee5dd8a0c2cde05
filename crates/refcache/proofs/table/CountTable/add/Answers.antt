use Rattle.std.proofs.Common.{◌≡◌, ◌<◌, length, sym, ap, ◌∙◌, subst, Some, pos, ◌+ℤ◌, unwrap_or}
use Rattle.std.proofs.lemmas.List.{get_or_default}
use Rattle.std.proofs.lemmas.Int.{to_z-of_z}
use mir.Syntax.{w64}
use Rattle.vm_base.specs.Functions.{put}
use Rattle.refcache.specs.Counts.{added}
use Rattle.refcache.specs.Places.{entries}
use Rattle.refcache.specs.Parts.{Parts, counts_of, core_at}
use Rattle.refcache.proofs.PartsOf.{whole_added}
use Rattle.refcache.proofs.table.CountTable.add.Goals as goal

pub returns-clause-counts : goal.returns-clause-counts
returns-clause-counts g c =
    let p : Parts = record { objects = c.self.inside.objects.items; cores = c.self.inside.cores.items; epochs = c.self.inside.epochs } in
    let seen : p ≡ c.args.self.now = c.self.view_is in
    let at : c.args.core < length p.cores = subst (λ v. c.args.core < length v.cores) (sym seen) c.requires.core in
    let core : c.index_mut.result.now ≡ core_at p.cores c.args.core = c.index_mut.ensures.value ∙ get_or_default p.cores c.args.core _ _ at in
    let entries0 = subst (λ b. entries c.add.new.self.places ≡ put (entries c.index_mut.result.now.places) c.args.object
    (Some (unwrap_or (entries c.index_mut.result.now.places c.args.object) (pos 0) +ℤ b)))
    (to_z-of_z w64 c.args.by c.ranges.by) c.add.ensures.entries in
    let places = subst (λ k. entries c.add.new.self.places ≡ put (entries k.places) c.args.object
    (Some (unwrap_or (entries k.places c.args.object) (pos 0) +ℤ c.args.by))) core entries0 in
    let queue = c.add.ensures.queue ∙ ap (λ k. k.queue) core in
    whole_added p c.args.core c.args.object c.args.by c.add.new.self at places queue ∙ ap (λ v. added c.args.core c.args.object c.args.by (counts_of v)) seen
