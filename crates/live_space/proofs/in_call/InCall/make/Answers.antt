use Rattle.std.proofs.Common.{rules, arith}
use Rattle.slot_lock.specs.Plan.{range_of}
use Rattle.live_space.proofs.Lost.{loses_alike, none_of, others_of}
use Rattle.live_space.proofs.in_call.InCall.make.Goals as goal

pub returns-then-is_empty-clause-made : goal.returns-then-is_empty-clause-made
returns-then-is_empty-clause-made g c = λ t. record {
  ready = c.is_ready.new.held;
  first = c.is_ready.ensures.place.0;
  end = c.is_ready.ensures.place.1;
  alike = c.is_ready.ensures.same;
  made = c.make_alone.ensures.made t;
}

pub returns-else-is_empty-clause-made : goal.returns-else-is_empty-clause-made
returns-else-is_empty-clause-made g c = λ t. record {
  ready = c.is_ready.new.held;
  first = c.is_ready.ensures.place.0;
  end = c.is_ready.ensures.place.1;
  alike = c.is_ready.ensures.same;
  made = c.make_told.ensures.made t;
}

pub make_alone-requires : goal.make_alone-requires
make_alone-requires g c = (
  omega arith,
  (
    omega arith,
    (
      search rules,
      (
        none_of c.args.self.now.held c.is_ready.new.held (range_of c.args.change) c.args.self.now.seat.now.core c.args.losses.cores
            c.without-targets.result c.is_ready.ensures.same c.requires.users (search rules) (search rules),
        loses_alike _ _ c.args.change c.args.losses.frames.items c.is_ready.ensures.same c.requires.lost,
      ),
    ),
  ),
)

pub make_told-requires : goal.make_told-requires
make_told-requires g c = (
  omega arith,
  (
    omega arith,
    (
      search rules,
      (
        others_of c.args.self.now.held c.is_ready.new.held (range_of c.args.change) c.args.self.now.seat.now.core c.args.losses.cores
            c.without-targets.result c.is_ready.ensures.same c.requires.users (search rules),
        loses_alike _ _ c.args.change c.args.losses.frames.items c.is_ready.ensures.same c.requires.lost,
      ),
    ),
  ),
)
