use Rattle.std.proofs.Common.{refl}
use Rattle.live_pages.proofs.telling.lock_target.Goals as goal

pub returns : goal.returns
returns g c = λ t. record {
  place = record { number = c.args.number; state = c.in-Some.state };
  is = refl;
  ready = rw c.deref.ensures at (c.can_be_told.ensures c.if-not-can_be_told.false);
  now = c.push.ensures t;
}
