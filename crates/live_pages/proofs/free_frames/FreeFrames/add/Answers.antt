use Rattle.std.proofs.Common.{◌≡◌, ◌≤◌, ◌+◌, true, false, length, arith, rules, ap, sym, ◌∙◌, subst}
use Rattle.vm_base.specs.Functions.{put}
use Rattle.frames.specs.Bits.{bit_in, count_below}
use Rattle.frames.proofs.Counting.{count-le}
use Rattle.frames.proofs.PageLists.{whole-vec}
use Rattle.live_pages.specs.Free.{IsCounted}
use Rattle.live_pages.proofs.FreeFrames.{one_more_free}
use Rattle.live_pages.proofs.free_frames.FreeFrames.add.Goals as goal

pub overflow_add-self : goal.overflow_add-self
overflow_add-self g c =
    let most : count_below (bit_in c.self.inside.words.items) c.self.inside.frames ≤ c.self.inside.frames = count-le _ c.self.inside.frames in
    let counted = c.self.invariant.counted in
    let few = c.self.invariant.few in
    omega (arith, counted, most, few)

pub invariant_of-self : goal.invariant_of-self
invariant_of-self g c =
    let kept : length c.insert.new.words ≡ c.self.inside.words.len = search rules in
    let same : length c.insert.new.words ≡ length c.self.inside.words.items = search rules in
    let new : bit_in c.self.inside.words.items c.args.frame ≡ false = ap (λ v. bit_in v.words c.args.frame) c.self.view_is ∙ c.requires.taken in
    let there : c.self.inside.frames ≡ c.args.self.now.frames = ap (λ v. v.frames) c.self.view_is in
    let change : bit_in c.insert.new.words ≡ put (bit_in c.self.inside.words.items) c.args.frame true = c.insert.ensures
    ∙ ap (λ s. put (bit_in s) c.args.frame true) c.deref_mut.ensures.value in
    subst (λ ws. IsCounted ws c.self.inside.frames (c.self.inside.count + 1))
    (sym (whole-vec c.insert.new.words c.self.inside.words.items c.self.inside.words.len kept))
    (one_more_free c.self.inside.words.items c.insert.new.words c.self.inside.frames c.self.inside.count c.args.frame c.self.invariant new
    (omega (arith, there, c.requires.there)) same change)
