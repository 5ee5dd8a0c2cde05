use Rattle.std.proofs.Common.{◌≡◌, ◌++◌, arith, ap, ◌∙◌}
use Rattle.draw_lines.specs.Dangers.{dangers_below}
use Rattle.draw_lines.proofs.Below.{dangers_begun, dangers_grown}
use Rattle.draw_lines.proofs.dangers.put_dangers.Goals as goal

pub cores-init : goal.cores-init
cores-init c = record {
  within = omega arith;
  written = dangers_begun c.args.dangers.now.items c.args.moments.now c.args.sender c.args.cores c.args.column;
}

pub cores-preserved : goal.cores-preserved
cores-preserved c =
    let there = c.cores-test.true in
    record {
      within = omega (arith, there);
      written = dangers_grown c.args.dangers.now.items c.cores.dangers.items c.put_danger.new.dangers.items c.args.moments.now c.args.sender c.args.cores
          c.args.column c.cores.index c.new-core.result c.new-core.ensures c.cores.invariant.written c.in_ok-put_danger.ensures;
    }

pub returns : goal.returns
returns c =
    let past = c.cores-test.false in
    let all : c.cores.index ≡ 64 = omega (arith, past, c.cores.invariant.within) in
    c.cores.invariant.written
    ∙ ap (λ n. c.args.dangers.now.items ++ dangers_below c.args.moments.now c.args.sender c.args.cores c.args.column n) all
