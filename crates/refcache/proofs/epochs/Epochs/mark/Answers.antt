use Rattle.std.proofs.Common.{◌≡◌, ◌∙◌, sym, subst, refl, ap, arith, false, ◌+◌, inr}
use Rattle.vm_base.specs.Cores.{members}
use Rattle.refcache.specs.declared.reports.Flush.TheVariants as flush
use Rattle.refcache.specs.Epochs.{Epoch, Marks, AllMarked}
use Rattle.refcache.proofs.Way.{no_members}
use Rattle.refcache.proofs.epochs.Epochs.mark.Goals as goal

pub returns-then-not-has_all-clause-marks : goal.returns-then-not-has_all-clause-marks
returns-then-not-has_all-clause-marks c =
    let p : Epoch = record { cores = c.self.inside.cores; number = c.self.inside.number; flushed = c.self.inside.flushed } in
    let unmarked : members p.flushed c.args.core ≡ false = sym c.contains.ensures ∙ c.if-contains.false in
    subst (λ v. Marks v.cores v.number (members v.flushed) c.args.core flush.Flushed c.self.inside.number (members c.with-flushed.result)) c.self.view_is
    (unmarked, λ all. c.if-not-has_all.ensures (subst (AllMarked p.cores) (sym c.with-flushed.ensures.members) all), refl, c.with-flushed.ensures.members)

pub returns-then-self-clause-marks : goal.returns-then-self-clause-marks
returns-then-self-clause-marks c =
    let p : Epoch = record { cores = c.self.inside.cores; number = c.self.inside.number; flushed = c.self.inside.flushed } in
    let last = c.if-self.true in
    subst (λ v. Marks v.cores v.number (members v.flushed) c.args.core flush.Idle v.number (members v.flushed)) c.self.view_is
    (inr (subst (AllMarked p.cores) c.with-flushed.ensures.members c.if-not-has_all.ensures, omega (arith, last)), refl, refl)

pub returns-clause-marks : goal.returns-clause-marks
returns-clause-marks c =
    let p : Epoch = record { cores = c.self.inside.cores; number = c.self.inside.number; flushed = c.self.inside.flushed } in
    let unmarked : members p.flushed c.args.core ≡ false = sym c.contains.ensures ∙ c.if-contains.false in
    let fits = c.self.ranges in
    subst (λ v. Marks v.cores v.number (members v.flushed) c.args.core flush.EpochEnded (p.number + 1) (members c.empty-self-inside.result)) c.self.view_is (
      unmarked,
      subst (AllMarked p.cores) c.with-flushed.ensures.members c.if-not-has_all.ensures,
      λ h.
          c.if-self.false (omega arith),
      refl,
      ap members c.empty-self-inside.ensures ∙ no_members,
    )
