use Rattle.std.proofs.Common.{sym, subst, arith}
use Rattle.slot_lock.proofs.MapLists.{ListsTo, lists_all, to_first, to_more}
use Rattle.slot_lock.specs.MapWalks.{slot_metas}
use Rattle.slot_lock.proofs.map_list.all_lines.Goals as goal

pub lines-init : goal.lines-init
lines-init g c = subst (λ xs. ListsTo (slot_metas (g.M.SlotRead.slots c.args.map.now)) xs 1) (sym c.new-lines.ensures.items)
    (to_first _ c.requires.laws)

pub next_line-requires-clause-from : goal.next_line-requires-clause-from
next_line-requires-clause-from g c = c.lines.invariant.low

pub next_line-requires-clause-begins : goal.next_line-requires-clause-begins
next_line-requires-clause-begins g c = c.lines.invariant.begins

pub lines-smaller : goal.lines-smaller
lines-smaller g c =
    let next = c.in-Some.ensures.some in
    let some = next.is.pages.some in
    let high = next.is.pages.high in
    omega (arith, next.low)

pub lines-preserved : goal.lines-preserved
lines-preserved g c =
    to_more _ c.lines.lines.items c.push.new.self.items c.lines.from c.in-Some.line (c.in_ok-push.ensures {u = tt}).items c.lines.invariant
    c.in-Some.ensures.some

pub returns-clause-lines : goal.returns-clause-lines
returns-clause-lines g c = lists_all _ c.lines.lines.items c.lines.from c.lines.invariant c.in_default.ensures.none
