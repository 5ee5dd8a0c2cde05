use Rattle.std.proofs.Common.{rules, inr, subst, arith}
use Rattle.live_tree.proofs.Decided.{decided_users}
use Rattle.frames.specs.Files.{files_of}
use Rattle.slot_lock.specs.Plan.{range_of}
use Rattle.vm_calls.specs.declared.decision.Decision.TheVariants as DecisionOf
use Rattle.vm_calls.specs.Decisions.{DecidesChange}
use Rattle.live_tree.specs.Held.{HeldView}
use Rattle.live_tree.specs.Shown.{shown}
use Rattle.live_tree.specs.declared.decide_held.Decided.TheVariants.{Act}
use Rattle.live_space.specs.Changing.{MadeIn}
use Rattle.live_tree.specs.Deciding.{DecidesHeld}
use Rattle.live_space.proofs.in_call.InCall.decide_and_change.Goals as goal

pub returns-then-make-clause-made : goal.returns-then-make-clause-made
returns-then-make-clause-made g c =
    let same = c.has_room.ensures.held in
    let files = files_of c.args.self.now.space.now.files in
    let decides : DecidesHeld (files_of c.args.self.now.space.now.files) (shown c.has_room.new.self.held.slots) c.args.change (Act c.in-Act.losses)
    = search rules in
    inr (
      c.in-Act.losses.cores,
      subst (λ (h : HeldView). DecidesChange files (shown h.slots) c.args.change (DecisionOf.Act (range_of c.args.change) c.in-Act.losses.cores)) same decides.0,
      c.reply_to.ensures,
      subst (λ (h : HeldView). MadeIn c.args.change h c.make.new.self.seat.now c.make.new.self.held) same (c.if-make.ensures.made (search rules)),
    )

pub make-requires : goal.make-requires
make-requires g c =
    let decides : DecidesHeld (files_of c.args.self.now.space.now.files) (shown c.has_room.new.self.held.slots) c.args.change (Act c.in-Act.losses)
    = search rules in (
      omega arith,
      (
        c.requires.sound,
        (
          decides.1,
          (decided_users (files_of c.args.self.now.space.now.files) (shown c.has_room.new.self.held.slots) c.args.change c.in-Act.losses.cores decides.0, search rules),
        ),
      ),
    )
