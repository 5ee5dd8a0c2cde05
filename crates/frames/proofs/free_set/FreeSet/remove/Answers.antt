use Rattle.std.proofs.Common.{◌≡◌, ◌-◌, true, false, length, rules, ap, sym, ◌∙◌, subst}
use Rattle.vm_base.specs.Functions.{put}
use Rattle.frames.specs.Bits.{bit_in}
use Rattle.frames.specs.Parts.{IsCounted}
use Rattle.frames.proofs.PageLists.{whole-vec}
use Rattle.frames.proofs.Counted.{removed, counted-some}
use Rattle.frames.proofs.free_set.FreeSet.remove.Goals as goal

pub overflow_sub-self : goal.overflow_sub-self
overflow_sub-self g c =
    let had : bit_in c.self.inside.words.items c.args.k ≡ true = ap (λ v. bit_in v.words c.args.k) c.self.view_is ∙ c.requires in
    counted-some c.self.inside.words.items c.self.inside.summary c.self.inside.limit c.self.inside.size c.args.k c.self.invariant had

pub invariant_of-self : goal.invariant_of-self
invariant_of-self g c =
    let kept : length c.remove.new.words ≡ c.self.inside.words.len = search rules in
    let same : length c.remove.new.words ≡ length c.self.inside.words.items = search rules in
    let had : bit_in c.self.inside.words.items c.args.k ≡ true = ap (λ v. bit_in v.words c.args.k) c.self.view_is ∙ c.requires in
    let change : bit_in c.remove.new.words ≡ put (bit_in c.self.inside.words.items) c.args.k false = c.remove.ensures.members
    ∙ ap (λ s. put (bit_in s) c.args.k false) c.deref_mut.ensures.value in
    subst (λ ws. IsCounted ws c.remove.new.summary c.self.inside.limit (c.self.inside.size - 1))
    (sym (whole-vec c.remove.new.words c.self.inside.words.items c.self.inside.words.len kept))
    (removed c.self.inside.words.items c.remove.new.words c.self.inside.summary c.remove.new.summary c.self.inside.limit c.self.inside.size
    c.args.k c.self.invariant had same change c.remove.ensures.summed)
