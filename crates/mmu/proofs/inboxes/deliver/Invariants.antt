use Rattle.std.proofs.Common.{◌≡◌, ◌<◌, ℕ, true, false}
use Rattle.vm_base.specs.Cores.{members}
use Rattle.mmu.specs.Inboxes.{inbox, owner}
use Rattle.mmu.proofs.Targets.{sent_to, done}
use Rattle.mmu.proofs.inboxes.deliver.Given as goal

abbrev pub invariant-targets : goal.invariant-targets
invariant-targets l = record {
  left : (k : ℕ) → members l.rest k ≡ true → members l.fn.to k ≡ true;
  passed : (k : ℕ) → k < l._turn → members l.rest k ≡ false;
  owners : owner l.inboxes ≡ owner l.fn.inboxes;
  messages : inbox l.inboxes ≡ sent_to l.fn.from l.fn.range (done (members l.fn.to) (members l.rest)) (inbox l.fn.inboxes);
}
