use Rattle.std.proofs.Common.{◌≡◌, ℕ, sym, true, false, ap, ◌∙◌}
use Rattle.vm_base.specs.Cores.{with_member}
use Rattle.draw_lines.specs.Cores.{acts}
use Rattle.draw_lines.proofs.Counting.{acting_at, acting_none}
use Rattle.draw_lines.proofs.cores.acting.Goals as goal
use Rattle.draw_lines.proofs.cores.acting.Goals.{then-acts, else-acts}

pub cores-init : goal.cores-init
cores-init c = record { cores = c.empty-cores.ensures ∙ sym (acting_none (acts c.args.moments.now)) }

pub cores-preserved : goal.cores-preserved
cores-preserved c = elim c.if-acts.branch [
  | then-acts w ↦
      let e : acts c.args.moments.now c.cores.index ≡ true =
      ap (acts c.args.moments.now) (sym c.new-core.ensures) ∙ (sym c.acts.ensures ∙ w.if-acts.true) in
      record {
        cores = w.cores-is ∙ (w.with-cores.ensures.value ∙ (ap (λ n. with_member c.cores.cores n) c.new-core.ensures
            ∙ (ap (λ x. with_member x c.cores.index) c.cores.invariant.cores ∙ sym (acting_at (acts c.args.moments.now) c.cores.index true e))));
      }
  | else-acts w ↦
      let e : acts c.args.moments.now c.cores.index ≡ false =
      ap (acts c.args.moments.now) (sym c.new-core.ensures) ∙ (sym c.acts.ensures ∙ w.if-acts.false) in
      record { cores = w.cores-is ∙ (c.cores.invariant.cores ∙ sym (acting_at (acts c.args.moments.now) c.cores.index false e)) }
]
