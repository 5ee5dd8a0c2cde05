use Rattle.std.proofs.Common.{◌≡◌, ◌-◌, ◌≤◌, true, false, length, arith, rules, ap, sym, ◌∙◌, subst}
use Rattle.vm_base.specs.Functions.{put}
use Rattle.frames.specs.Bits.{bit_in}
use Rattle.frames.proofs.PageLists.{whole-vec}
use Rattle.live_pages.specs.Free.{IsCounted}
use Rattle.live_pages.proofs.FreeFrames.{one_fewer_free, some_free}
use Rattle.live_pages.proofs.free_frames.FreeFrames.take.Goals as goal

pub overflow_sub-self : goal.overflow_sub-self
overflow_sub-self g c =
    let had : bit_in c.self.inside.words.items c.args.frame ≡ true = ap (λ v. bit_in v.words c.args.frame) c.self.view_is ∙ c.requires in
    some_free c.self.inside.words.items c.self.inside.frames c.self.inside.count c.args.frame c.self.invariant had

pub invariant_of-self : goal.invariant_of-self
invariant_of-self g c =
    let kept : length c.remove.new.words ≡ c.self.inside.words.len = search rules in
    let same : length c.remove.new.words ≡ length c.self.inside.words.items = search rules in
    let had : bit_in c.self.inside.words.items c.args.frame ≡ true = ap (λ v. bit_in v.words c.args.frame) c.self.view_is ∙ c.requires in
    let change : bit_in c.remove.new.words ≡ put (bit_in c.self.inside.words.items) c.args.frame false = c.remove.ensures
    ∙ ap (λ s. put (bit_in s) c.args.frame false) c.deref_mut.ensures.value in
    subst (λ ws. IsCounted ws c.self.inside.frames (c.self.inside.count - 1))
    (sym (whole-vec c.remove.new.words c.self.inside.words.items c.self.inside.words.len kept))
    (one_fewer_free c.self.inside.words.items c.remove.new.words c.self.inside.frames c.self.inside.count c.args.frame c.self.invariant had same
    change)

pub returns : goal.returns
returns g c =
    let kept : length c.remove.new.words ≡ c.self.inside.words.len = search rules in
    let whole = whole-vec c.remove.new.words c.self.inside.words.items c.self.inside.words.len kept in
    let had : bit_in c.self.inside.words.items c.args.frame ≡ true = ap (λ v. bit_in v.words c.args.frame) c.self.view_is ∙ c.requires in
    let some : 1 ≤ c.self.inside.count = some_free c.self.inside.words.items c.self.inside.frames c.self.inside.count c.args.frame c.self.invariant had in
    let was = ap (λ v. v.count) c.self.view_is in
    let frames = ap (λ v. v.frames) c.self.view_is in
    record {
      taken = ap bit_in whole ∙ (c.remove.ensures ∙ (ap (λ s. put (bit_in s) c.args.frame false) c.deref_mut.ensures.value
          ∙ ap (λ v. put (bit_in v.words) c.args.frame false) c.self.view_is));
      fewer = omega (arith, some, was);
      frames = frames;
    }
