use Rattle.std.proofs.Common.{◌≡◌, ℕ, true, false, arith, ap, sym, subst, ◌∙◌, None, slice_index_or}
use Rattle.vm_base.specs.Cores.{members}
use Rattle.vm_base.specs.Functions.{put}
use Rattle.refcache.specs.Pieces.{lesser_object}
use Rattle.refcache.proofs.Least.{IsLeastBeside, least_first, least_more, looked_past}
use Rattle.refcache.proofs.core_counts.least.Goals as goal

pub all-init : goal.all-init
all-init c = record {
  passed = λ k h. absurd (omega arith);
  least = least_first c.args.places.now (members c.args.used) c.requires.used;
}

pub all-preserved : goal.all-preserved
all-preserved c =
    let rest = members c.all.rest in
    let i = c.in-Some.place in
    let less : members c.without-rest.result ≡ put rest i false = c.without-rest.ensures in
    let more = least_more c.args.places.now rest i c.all.least c.in-Some.ensures.inside c.all.invariant.least in
    record {
      passed = λ k h. ap (λ f. f k) less ∙ looked_past rest c.all._turn i c.all.invariant.passed c.in-Some.ensures.member c.in-Some.ensures.least k h;
      least = subst (λ l. IsLeastBeside c.args.places.now (members c.without-rest.result) l) (sym c.lesser-least.ensures)
          (subst (λ f. IsLeastBeside c.args.places.now f (lesser_object c.all.least (slice_index_or c.args.places.now i None))) (sym less) more);
    }
