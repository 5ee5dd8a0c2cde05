use Rattle.std.proofs.Common.{◌≡◌, ◌∙◌, arith, false, get_or, refl, sym, true}
use Rattle.litmus_merges.proofs.Ended.{has_none, more_none, none_has}
use Rattle.litmus_merges.proofs.Lists.{get_read}
use Rattle.litmus_merges.proofs.Numbered.{its_number}
use Rattle.litmus_merges.proofs.ending.has_end.Goals as goal

pub ends-init : goal.ends-init
ends-init g c = none_has c.args.ends.now c.args.replies.now c.args.finals.now c.args.maps.now

pub is_end-requires-clause-its : goal.is_end-requires-clause-its
is_end-requires-clause-its g c =
    let is = get_read c.args.ends.now c.ends.k c.index-ends-k.result c.ends-test.true c.index-ends-k.is in
    its_number c.args.ends.now c.args.numbers.now c.ends.k _ c.index-ends-k.result c.requires.numbered is

pub ends-preserved : goal.ends-preserved
ends-preserved g c = more_none c.args.ends.now c.ends.k _ c.args.replies.now c.args.finals.now c.args.maps.now
    (get_read c.args.ends.now c.ends.k c.index-ends-k.result c.ends-test.true c.index-ends-k.is)
    (λ e. let wrong : false ≡ true = sym c.if-is_end.false ∙ c.is_end.ensures.1 e in absurd cc)
    c.ends.invariant

pub returns-then-is_end : goal.returns-then-is_end
returns-then-is_end g c =
    let same = c.is_end.ensures.0 c.if-is_end.true in (
      (λ h. (
        c.ends.k,
        c.index-ends-k.result,
        get_read c.args.ends.now c.ends.k c.index-ends-k.result c.ends-test.true c.index-ends-k.is,
        same.0,
        same.1,
        same.2,
      )),
      (λ h. refl),
    )

pub returns : goal.returns
returns g c =
    let end = c.ends-test.false in (
      (λ h. let wrong : false ≡ true = h in absurd cc),
      (λ h. absurd (has_none c.args.ends.now c.ends.k c.args.replies.now c.args.finals.now c.args.maps.now (omega (arith, end)) c.ends.invariant h)),
    )
