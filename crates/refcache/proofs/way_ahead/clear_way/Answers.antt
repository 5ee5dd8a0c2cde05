use Rattle.std.proofs.Common.{subst}
use Rattle.std.proofs.lemmas.Int.{to_z-of_z}
use mir.Syntax.{w64}
use Rattle.refcache.specs.Places.{entries}
use Rattle.refcache.specs.Steps.{IsInTheWay}
use Rattle.refcache.proofs.Way.{way_without}
use Rattle.refcache.proofs.way_ahead.clear_way.Goals as goal

pub returns-clause-free : goal.returns-clause-free
returns-clause-free c =
    let places = c.args.places.now in
    let way = subst (λ b. IsInTheWay (entries places) c.args.object b c.in_ok-other.other) (to_z-of_z w64 c.args.by c.ranges.by) c.in_ok-other.ensures.some in
    way_without places c.args.object c.args.by c.in_ok-other.other (entries c.drop_entry.new.places) way c.drop_entry.ensures.entries
