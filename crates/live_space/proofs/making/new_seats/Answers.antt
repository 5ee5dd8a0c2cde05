use Rattle.std.proofs.Common.{rules, arith, ◌≡◌, ◌+◌, ◌-◌, subst}
use Rattle.std.specs.Prelude.{sum_by}
use Rattle.std.specs.Arc.{arc_value}
use Rattle.std.proofs.lemmas.List.Sums.{sum_by_push}
use Rattle.seats.specs.Notes.{SeatView}
use Rattle.live_space.specs.Space.{AreFresh, IsFresh}
use Rattle.live_space.proofs.Fresh.{all_push, fresh_push}
use Rattle.live_space.proofs.making.new_seats.Goals as goal

pub seats-preserved : goal.seats-preserved
seats-preserved g c =
    let held = c.seats.invariant in
    let new : IsFresh (arc_value c.args.tickets.now) c.seats.core c.new-in-seats.result = record {
      word = search rules;
      core = search rules;
      notes = c.new-in-seats.ensures.nothing.0;
      begun = search rules;
      plain = search rules;
    } in
    let spare : c.new-in-seats.result.spare ≡ 0 = search rules in
    record {
      first = search (rules, arith);
      fresh = rw c.push_reserved.ensures.items (fresh_push _ _ _ _ held.fresh new);
      spare = rw c.push_reserved.ensures.items
          (let sum = sum_by_push (λ (s : SeatView). s.spare + 1) c.seats.seats.items c.new-in-seats.result in omega (arith, held.spare, spare, sum));
      room = search rules;
    }

pub returns-clause-fresh : goal.returns-clause-fresh
returns-clause-fresh g c =
    let held = c.seats.invariant in
    let n : c.seats.core ≡ c.args.count - 1 = search rules in
    let new : IsFresh (arc_value c.args.tickets.now) c.seats.core c.new-3.result = record {
      word = search rules;
      core = search rules;
      notes = c.new-3.ensures.nothing.0;
      begun = search rules;
      plain = search rules;
    } in
    let all : AreFresh (arc_value c.args.tickets.now) (c.seats.core + 1) c.push_reserved-2.new.self.items =
    rw c.push_reserved-2.ensures.items (fresh_push _ _ _ _ held.fresh new) in
    let count : c.seats.core + 1 ≡ c.args.count = omega (arith, n, c.requires.count) in
    subst (λ m. AreFresh (arc_value c.args.tickets.now) m c.push_reserved-2.new.self.items) count all

pub returns-clause-all : goal.returns-clause-all
returns-clause-all g c =
    let held = c.seats.invariant in
    let n : c.seats.core ≡ c.args.count - 1 = search rules in
    let spare : c.new-3.result.spare ≡ 63 - c.seats.core = search rules in
    rw c.push_reserved-2.ensures.items (all_push _ _ _ _ held.fresh (search rules)
    (omega (arith, n, spare, held.spare, c.requires.count, sum_by_push (λ (s : SeatView). s.spare + 1) c.seats.seats.items c.new-3.result)))
