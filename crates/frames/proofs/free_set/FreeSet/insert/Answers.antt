use Rattle.std.proofs.Common.{◌≡◌, ◌≤◌, ◌+◌, true, false, length, arith, rules, ap, sym, ◌∙◌, subst}
use Rattle.vm_base.specs.Functions.{put}
use Rattle.frames.specs.Bits.{bit_in, count_below}
use Rattle.frames.specs.Parts.{IsCounted}
use Rattle.frames.proofs.Counting.{count-le}
use Rattle.frames.proofs.PageLists.{whole-vec}
use Rattle.frames.proofs.Counted.{inserted}
use Rattle.frames.proofs.free_set.FreeSet.insert.Goals as goal

pub overflow_add-self : goal.overflow_add-self
overflow_add-self g c =
    let counted : c.self.inside.size ≡ count_below (bit_in c.self.inside.words.items) c.self.inside.limit = c.self.invariant.counted in
    let most : count_below (bit_in c.self.inside.words.items) c.self.inside.limit ≤ c.self.inside.limit = count-le _ c.self.inside.limit in
    let few : c.self.inside.limit ≤ 65536 = c.self.invariant.few in
    omega (arith, counted, most, few)

pub invariant_of-self : goal.invariant_of-self
invariant_of-self g c =
    let kept : length c.insert.new.words ≡ c.self.inside.words.len = search rules in
    let same : length c.insert.new.words ≡ length c.self.inside.words.items = search rules in
    let new : bit_in c.self.inside.words.items c.args.k ≡ false = ap (λ v. bit_in v.words c.args.k) c.self.view_is ∙ c.requires.new in
    let limit : c.self.inside.limit ≡ c.args.self.now.limit = ap (λ v. v.limit) c.self.view_is in
    let change : bit_in c.insert.new.words ≡ put (bit_in c.self.inside.words.items) c.args.k true = c.insert.ensures.members
    ∙ ap (λ s. put (bit_in s) c.args.k true) c.deref_mut.ensures.value in
    subst (λ ws. IsCounted ws c.insert.new.summary c.self.inside.limit (c.self.inside.size + 1))
    (sym (whole-vec c.insert.new.words c.self.inside.words.items c.self.inside.words.len kept))
    (inserted c.self.inside.words.items c.insert.new.words c.self.inside.summary c.insert.new.summary c.self.inside.limit
    c.self.inside.size c.args.k c.self.invariant new (omega (arith, limit, c.requires.in_range)) same change c.insert.ensures.summed)
