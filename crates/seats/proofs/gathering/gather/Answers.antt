use Rattle.std.proofs.Common.{◌≡◌, ◌∙◌, [], ◌∷◌, ◌++◌, length, map, append-nil, arith, ap, refl, sym, subst, rules}
use Rattle.std.specs.Prelude.{All, vec_capacity}
use Rattle.std.proofs.lemmas.List.{length_push}
use Rattle.seats.specs.Gathered.{AreWhole}
use Rattle.seats.specs.Notes.{SeatView, ticket_of}
use Rattle.seats.specs.Tickets.{JoinedView, Rises, TicketerView}
use Rattle.seats.specs.declared.noted.Noted.{Noted}
use Rattle.seats.proofs.AllSeats.{IsGathered, all_left, gathered_all, gathered_first, gathered_pushed, gathered_notes, gathered_whole, left_next}
use Rattle.seats.proofs.AllSeats.{lists_more, none_there, own_front, own_next}
use Rattle.seats.proofs.gathering.gather.Goals as goal

pub seats-init : goal.seats-init
seats-init g c =
    let split = c.in-Some.ensures.items in
    let own = own_front _ _ _ _ split c.requires.own in
    let front = c.into_iter-seat-iterator.ensures.into_iter_gives.0 in
    let empty = c.in-Ok.ensures.items in
    record {
      left = refl;
      own = subst (λ ss. All (λ (s : SeatView). s.word ≡ c.args.word.now) ss) (sym front) own.0;
      room =
          (let a = ap length split ∙ length_push c.pop.new.self.items c.in-Some.last in
          let b = ap length front in
          let e = ap length empty in
          let n = c.in-Ok.ensures.capacity in
          let m = c.len.ensures in
          omega (arith, a, b, e, n, m));
      gathered = subst (λ ls. IsGathered c.args.word.now c.into_parts-ticketer.result.notes.notes c.into_joined-joined.result.spare c.into_joined-joined.result [] (map (λ list. list.notes) ls))
          (sym empty) (gathered_first _ c.in-Some.last _ _ _ own.1 c.into_parts-ticketer.ensures.ticketer c.into_parts-ticketer.ensures.notes c.into_joined-joined.ensures);
    }

pub join-requires-clause-here : goal.join-requires-clause-here
join-requires-clause-here g c = c.seats.invariant.gathered.here

pub join-requires-clause-own : goal.join-requires-clause-own
join-requires-clause-own g c = ap (λ (t : TicketerView). t.word) c.into_parts-ticketer-in-seats.ensures.ticketer
    ∙ (own_next _ _ _ _ c.in-Some-seat.ensures.steps.0 c.seats.invariant.own).0

pub push_reserved-requires : goal.push_reserved-requires
push_reserved-requires g c =
    let room = c.seats.invariant.room in
    let more = ap length c.in-Some-seat.ensures.steps.0 in
    omega (arith, room, more)

pub seats-preserved : goal.seats-preserved
seats-preserved g c =
    let split = c.in-Some-seat.ensures.steps.0 in
    record {
      left = left_next _ _ _ _ _ split c.seats.invariant.left;
      own = (own_next _ _ _ _ split c.seats.invariant.own).1;
      room =
          (let room = c.seats.invariant.room in
          let more = ap length split in
          let pushed = ap length c.push_reserved.ensures.items ∙ length_push c.seats.all.items c.into_parts-ticketer-in-seats.result.notes in
          let capacity = c.push_reserved.ensures.capacity in
          omega (arith, room, more, pushed, capacity));
      gathered = gathered_pushed (λ list. list.notes) c.push_reserved.new.self.items c.seats.all.items c.into_parts-ticketer-in-seats.result.notes
          c.args.word.now c.into_parts-ticketer.result.notes.notes c.into_joined-joined.result.spare c.seats.joined c.join.new.joined c.seats.yielded
          c.in-Some-seat.seat c.into_parts-ticketer-in-seats.result.ticketer c.seats.invariant.gathered c.into_parts-ticketer-in-seats.ensures.ticketer
          c.into_parts-ticketer-in-seats.ensures.notes c.into_parts-ticketer-in-seats.ensures.rising c.join.ensures c.push_reserved.ensures.items;
    }

pub push_reserved-requires-2 : goal.push_reserved-requires-2
push_reserved-requires-2 g c =
    let room = c.seats.invariant.room in
    omega (arith, room)

pub count-count-requires-clause-here : goal.count-count-requires-clause-here
count-count-requires-clause-here g c = c.seats.invariant.gathered.here

pub count-count-requires-clause-all : goal.count-count-requires-clause-all
count-count-requires-clause-all g c =
    let nothing = none_there c.seats.seat-iterator.rest.items c.seats.seat-iterator.rest.len (sym c.seats.seat-iterator.rest.ok.0) c.in-None.ensures.steps.0 in
    let front = c.into_iter-seat-iterator.ensures.into_iter_gives.0 in
    gathered_all _ c.in-Some.last _ c.into_joined-joined.result.spare _ _ _ _ _ c.seats.invariant.gathered (ap (λ (j : JoinedView). j.spare) c.into_joined-joined.ensures ∙ ap (λ (t : TicketerView). t.spare) c.into_parts-ticketer.ensures.ticketer)
    (all_left _ _ _ nothing c.seats.invariant.left ∙ front) c.in-Some.ensures.items c.requires.all

pub returns-clause-notes : goal.returns-clause-notes
returns-clause-notes g c =
    let nothing = none_there c.seats.seat-iterator.rest.items c.seats.seat-iterator.rest.len (sym c.seats.seat-iterator.rest.ok.0) c.in-None.ensures.steps.0 in
    let front = c.into_iter-seat-iterator.ensures.into_iter_gives.0 in
    lists_more _ _ _ _ c.push_reserved-2.ensures.items
    ∙ gathered_notes _ c.in-Some.last _ _ _ _ _ _ _ c.seats.invariant.gathered c.into_parts-ticketer.ensures.notes
    (all_left _ _ _ nothing c.seats.invariant.left ∙ front) c.in-Some.ensures.items

pub returns-clause-whole : goal.returns-clause-whole
returns-clause-whole g c = subst (λ ls. AreWhole ls) (sym (lists_more _ _ _ _ c.push_reserved-2.ensures.items))
    (gathered_whole _ _ _ _ _ _ _ c.seats.invariant.gathered
    (subst (λ l. Rises (map ticket_of l)) (sym c.into_parts-ticketer.ensures.notes) c.into_parts-ticketer.ensures.rising) c.count-count.ensures.dealt)
