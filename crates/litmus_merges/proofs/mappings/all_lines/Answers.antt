-- all_lines
use Rattle.std.proofs.Common.{arith, rules}
use Rattle.slot_lock.proofs.MapLists.{lists_all, to_more}
use Rattle.litmus_merges.proofs.Mapped.{to_first}
use Rattle.litmus_merges.proofs.mappings.all_lines.Goals as goal

pub lines-init : goal.lines-init
lines-init g c = to_first c.args.objects.now c.args.steps.now c.new-lines.result.items c.requires (search rules)

pub next_line-requires-clause-from : goal.next_line-requires-clause-from
next_line-requires-clause-from g c = c.lines.invariant.low

pub next_line-requires-clause-begins : goal.next_line-requires-clause-begins
next_line-requires-clause-begins g c = c.lines.invariant.begins

pub lines-smaller : goal.lines-smaller
lines-smaller g c =
    let next = c.in-Some.ensures.some in
    let some = next.is.pages.some in
    let high = next.is.pages.high in
    omega (arith, next.low)

pub lines-preserved : goal.lines-preserved
lines-preserved g c =
    to_more _ c.lines.lines.items c.push.new.self.items c.lines.from c.in-Some.line (search rules) c.lines.invariant c.in-Some.ensures.some

pub returns : goal.returns
returns g c = lists_all _ c.lines.lines.items c.lines.from c.lines.invariant c.in_default.ensures.none
