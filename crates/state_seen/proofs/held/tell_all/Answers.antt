use Rattle.std.proofs.Common.{◌≡◌, ap, ◌∙◌, true, false}
use Rattle.vm_base.specs.Cores.{members}
use Rattle.state_seen.specs.Held.{held, told_one}
use Rattle.state_seen.proofs.Told.{told_all, told_next, told_none}
use Rattle.state_seen.proofs.held.tell_all.Goals as goal
use Rattle.state_seen.proofs.held.tell_all.Goals.{then-not-tell_if, else-not-tell_if}

pub cores-init : goal.cores-init
cores-init g c = record {
  cores = c.requires;
  held = λ e. told_none c.args.from (members c.args.to) c.args.range (held c.args.all.now.items);
}

pub cores-preserved : goal.cores-preserved
cores-preserved g c =
    let long = c.tell_if.ensures.cores ∙ c.cores.invariant.cores in
    elim c.if-not-tell_if.branch [
      | then-not-tell_if w ↦ record { cores = long; held = λ e. absurd cc }
      | else-not-tell_if w ↦ record {
        cores = long;
        held = λ e.
            let before = c.cores.invariant.held (cc) in
            c.tell_if.ensures.held (cc)
            ∙ ap (λ n. told_one c.args.from (members c.args.to n) c.args.range (held c.cores.all.items) n) c.new-core.ensures
            ∙ ap (λ h. told_one c.args.from (members c.args.to c.cores.index) c.args.range h c.cores.index) before
            ∙ told_next c.args.from (members c.args.to) c.args.range (held c.args.all.now.items) c.cores.index;
      }
    ]

pub returns-clause-held : goal.returns-clause-held
returns-clause-held g c = λ e d lt.
    ap (λ h. h d) (c.cores.invariant.held e)
    ∙ told_all c.args.from (members c.args.to) c.args.range (held c.args.all.now.items) c.cores.index d c.cores-test.false lt
