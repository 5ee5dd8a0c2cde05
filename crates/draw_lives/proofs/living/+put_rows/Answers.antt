use Rattle.std.proofs.Common.{arith, ◌≡◌, ◌⊎◌, ◌≤◌, ◌<◌, ◌+◌, ◌/◌, length, subst, sym}
use Rattle.std.proofs.lemmas.Grind.{common_steps}
use Rattle.std.specs.List.{filter}
use Rattle.std.specs.List.Sorted.{IsStrictlyIncreasing}
use Rattle.draw_steps.specs.Rows.{rows_of}
use Rattle.draw_lives.specs.Living.{AreAdded, meets, span_of}
use Rattle.draw_lives.proofs.Lived.{few_added, full_added, halves_added, lower_falls, lower_has, rising_drop, rising_take, unless_full, upper_falls, upper_has}
use Rattle.draw_lives.proofs.living.+put_rows.Goals as goal

pub returns-then-len-gt2000 : goal.returns-then-len-gt2000
returns-then-len-gt2000 t c =
    let (below, room, rising) = c.requires in
    let full : 2001 ≤ length c.args.lives.now.items = grind (arith, common_steps, c.len.ensures, c.if-len-gt2000.true) in
    full_added c.args.moments.now c.args.row (rows_of c.args.moments.now c.args.edges.now) c.args.lives.now.items below room full

pub returns-then-edges-lt2 : goal.returns-then-edges-lt2
returns-then-edges-lt2 t c =
    let (below, room, rising) = c.requires in
    few_added c.args.moments.now c.args.row c.args.edges.now c.args.lives.now.items c.if-edges-lt2.true below room

pub looked_at-requires : goal.looked_at-requires
looked_at-requires t c =
    lower_has c.args.edges.now c.lower_edges-below.result.now c.lower_edges-below.ensures (omega (arith, c.if-edges-lt2.false, c.if-edges-eq2.false))

pub put_rows-requires : goal.put_rows-requires
put_rows-requires t c =
    let (below, room, rising) = c.requires in
    let es = c.args.edges.now in
    let is = c.lower_edges-below.ensures in
    let falls = lower_falls es c.lower_edges-below.result.now is (omega (arith, c.if-edges-lt2.false, c.if-edges-eq2.false)) in
    (omega (arith, falls, c.decreases), (below, room, subst IsStrictlyIncreasing (sym is) (rising_take (length es / 2 + 1) es rising)))

pub looked_at-requires-2 : goal.looked_at-requires-2
looked_at-requires-2 t c =
    upper_has c.args.edges.now c.upper_edges-above.result.now c.upper_edges-above.ensures (omega (arith, c.if-edges-lt2.false, c.if-edges-eq2.false))

pub put_rows-requires-2 : goal.put_rows-requires-2
put_rows-requires-2 t c =
    let (below, room, rising) = c.requires in
    let es = c.args.edges.now in
    let is = c.upper_edges-above.ensures in
    let falls = upper_falls es c.upper_edges-above.result.now is (omega (arith, c.if-edges-lt2.false, c.if-edges-eq2.false)) in
    let a : AreAdded c.as_slice.result.now c.args.row (rows_of c.as_slice.result.now c.lower_edges-below.result.now) c.args.lives.now.items
    c.in_ok-next-2.next c.put_rows.new.lives.items = c.in_ok-next-2.ensures in
    (omega (arith, falls, c.decreases), (a.below, a.room, subst IsStrictlyIncreasing (sym is) (rising_drop (length es / 2) es rising)))

pub returns : goal.returns
returns t c =
    let (below, room, rising) = c.requires in
    let all = c.args.moments.now in
    let es = c.args.edges.now in
    let m = length es / 2 in
    let old = c.args.lives.now.items in
    let mid = c.put_rows.new.lives.items in
    let new = c.put_rows-2.new.lives.items in
    let next = c.in_ok-next-2.next in
    let last = c.in_ok-last.last in
    let low = c.lower_edges-below.result.now in
    let high = c.upper_edges-above.result.now in
    let inside : m < length es = omega (arith, c.if-edges-lt2.false) in
    let before : c.len-2.result ≡ length old = grind (arith, common_steps, c.len-2.ensures) in
    let behind : c.len-3.result ≡ length mid = grind (arith, common_steps, c.len-3.ensures) in
    let a : AreAdded c.as_slice.result.now c.args.row (rows_of c.as_slice.result.now low) old next mid = c.in_ok-next-2.ensures in
    let b : AreAdded c.as_slice-2.result.now next (rows_of c.as_slice-2.result.now high) mid last new = c.in_ok-last.ensures in
    halves_added all c.in_ok-lower.lower.items c.in_ok-upper.upper.items c.args.row es m old mid new next last rising inside room
    (subst (λ e. (c.in_ok-lower.lower.items ≡ filter (meets (span_of e)) all) ⊎ (2001 ≤ length old)) c.lower_edges-below.ensures
    (unless_full c.len-2.result (length old) before c.in_ok-lower.ensures))
    (subst (λ e. AreAdded c.in_ok-lower.lower.items c.args.row (rows_of c.in_ok-lower.lower.items e) old next mid) c.lower_edges-below.ensures
    (subst (λ s. AreAdded s c.args.row (rows_of s low) old next mid) c.as_slice.ensures.value a))
    (subst (λ e. (c.in_ok-upper.upper.items ≡ filter (meets (span_of e)) all) ⊎ (2001 ≤ length mid)) c.upper_edges-above.ensures
    (unless_full c.len-3.result (length mid) behind c.in_ok-upper.ensures))
    (subst (λ e. AreAdded c.in_ok-upper.upper.items next (rows_of c.in_ok-upper.upper.items e) mid last new) c.upper_edges-above.ensures
    (subst (λ s. AreAdded s next (rows_of s high) mid last new) c.as_slice-2.ensures.value b))
