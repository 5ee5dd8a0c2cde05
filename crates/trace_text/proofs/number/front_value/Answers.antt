use Rattle.std.proofs.Common.{◌<◌, ◌+◌, ◌*◌, ◌^◌, arith}
use Rattle.std.proofs.lemmas.Bool.Decides.{nat_tests}
use Rattle.trace_text.proofs.NumberLemmas.{room, digit_fits}
use Rattle.trace_text.proofs.FrontLemmas.{value_next, value_grown}
use Rattle.trace_text.proofs.number.front_value.Goals as goal

pub overflow_mul-number : goal.overflow_mul-number
overflow_mul-number c =
    let few : c.loop-count.count < 16 = grind (arith, nat_tests, c.min-most.ensures, c.loop-count-test.true) in
    let low : c.in-Some.d < c.args.base = grind (arith, nat_tests, c.if-d-base.true) in
    let fits : c.loop-count.number * c.args.base + c.in-Some.d < 2 ^ 64 =
    digit_fits c.loop-count.number c.args.base c.in-Some.d (room c.loop-count.number c.loop-count.count c.loop-count.invariant.fits few) c.requires low in
    omega arith

pub overflow_add-number : goal.overflow_add-number
overflow_add-number c =
    let few : c.loop-count.count < 16 = grind (arith, nat_tests, c.min-most.ensures, c.loop-count-test.true) in
    let low : c.in-Some.d < c.args.base = grind (arith, nat_tests, c.if-d-base.true) in
    let fits : c.loop-count.number * c.args.base + c.in-Some.d < 2 ^ 64 =
    digit_fits c.loop-count.number c.args.base c.in-Some.d (room c.loop-count.number c.loop-count.count c.loop-count.invariant.fits few) c.requires low in
    omega arith

pub loop-count-preserved : goal.loop-count-preserved
loop-count-preserved c =
    let low : c.in-Some.d < c.args.base = grind (arith, nat_tests, c.if-d-base.true) in
    record {
      within = omega (arith, c.loop-count-test.true);
      fits = value_grown c.loop-count.number c.args.base c.in-Some.d c.loop-count.count c.loop-count.invariant.fits c.requires low;
      same =
          value_next c.args.base c.args.bytes.now c.loop-count.count c.loop-count.number c.in-Some.d
          (omega (arith, c.min-most.ensures, c.loop-count-test.true)) c.loop-count.invariant.same c.in-Some.ensures low;
    }
