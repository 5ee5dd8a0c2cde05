use Rattle.std.proofs.Common.{rules, ◌≡◌, arith}
use Rattle.live_levels.proofs.Joints.{fits_with_next}
use Rattle.live_levels.proofs.fold.join_next.Goals as goal

pub invariant_of-result : goal.invariant_of-result
invariant_of-result g c =
    let j = c.args.joint in
    let n = c.in_ok-next.next in
    let at : n.first ≡ j.end = search rules in
    record {
      ordered = omega (arith, at, j.ordered, n.ordered);
      place = n.place;
      no_leaf = j.no_leaf;
      fits = fits_with_next j.content n.content j.first n.first n.end (search rules) n.fits (omega (arith, at, j.ordered)) n.ordered n.place;
    }
