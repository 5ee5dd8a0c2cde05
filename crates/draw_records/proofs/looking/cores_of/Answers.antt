use Rattle.std.proofs.Common.{◌≡◌, sym, true, false, ap, ◌∙◌}
use Rattle.vm_base.specs.Cores.{members, with_member}
use Rattle.draw_records.proofs.CoresBelow.{cores_at, cores_none}
use Rattle.draw_records.proofs.looking.cores_of.Goals as goal
use Rattle.draw_records.proofs.looking.cores_of.Goals.{then-contains, else-contains}

pub cores-init : goal.cores-init
cores-init c = record { cores = c.empty-cores.ensures ∙ sym (cores_none (members c.args.set)) }

pub cores-preserved : goal.cores-preserved
cores-preserved c = elim c.if-contains.branch [
  | then-contains w ↦
      let e : members c.args.set c.cores.index ≡ true = cc (w.if-contains.true) in
      record {
        cores = w.cores-is ∙ (w.with-cores.ensures.value ∙ (ap (λ n. with_member c.cores.cores n) c.new-core.ensures
            ∙ (ap (λ x. with_member x c.cores.index) c.cores.invariant.cores ∙ sym (cores_at (members c.args.set) c.cores.index true e))));
      }
  | else-contains w ↦
      let e : members c.args.set c.cores.index ≡ false = cc (w.if-contains.false) in
      record { cores = w.cores-is ∙ (c.cores.invariant.cores ∙ sym (cores_at (members c.args.set) c.cores.index false e)) }
]
