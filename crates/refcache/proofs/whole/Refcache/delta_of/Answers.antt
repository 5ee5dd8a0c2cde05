use Rattle.std.proofs.Common.{◌≡◌, ◌∙◌, ap, arith, pos, unwrap_or}
use Rattle.std.proofs.lemmas.Int.{ints}
use Rattle.refcache.specs.Counts.{delta_of}
use Rattle.refcache.specs.Parts.{counts_of}
use Rattle.refcache.proofs.Read.{little}
use Rattle.refcache.proofs.whole.Refcache.delta_of.Goals as goal

pub returns-clause-little : goal.returns-clause-little
returns-clause-little g c =
    let e : c.delta_or_0.result ≡ delta_of (counts_of c.args.self.now) c.args.core c.args.object =
    c.delta_or_0.ensures ∙ ap (λ d. unwrap_or d (pos 0)) c.delta-delta.ensures in
    let l = little c.self.inside.table c.args.self.now c.args.core c.args.object c.delta_or_0.result c.self.invariant c.self.view_is e in
    let a = l.0 in
    let b = l.1 in
    (omega (arith, ints, a, b), omega (arith, ints, a, b))
