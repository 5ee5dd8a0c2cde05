use Rattle.std.proofs.Common.{rules, subst, sym}
use Rattle.std.specs.Prelude.{IfSome}
use Rattle.std.specs.List.{remove}
use Rattle.litmus_merges.specs.Passing.{AreAlikeBefore, IsCovered}
use Rattle.litmus_merges.specs.Steps.{AreSound}
use Rattle.litmus_merges.proofs.Putting.{alike_more, alike_refl, sound_without, taken_out}
use Rattle.litmus_merges.proofs.normal.drop_covered.Goals as goal

pub covered-init : goal.covered-init
covered-init g c = record { alike = alike_refl c.args.step c.args.steps.now.items; sound = c.requires.sound }

pub covered-preserved : goal.covered-preserved
covered-preserved g c =
    let i = c.covered.invariant in
    let there = subst (λ x. IfSome x (IsCovered c.as_slice.result.now c.args.step)) c.in-Some.is c.covered-found.ensures in
    let here = subst (λ xs. IsCovered xs c.args.step c.in-Some.at) c.as_slice.ensures.value there in
    record {
      alike = subst (λ xs. AreAlikeBefore c.args.step c.args.steps.now.items xs) (sym c.remove-gone.ensures.items)
          (alike_more c.args.step c.args.steps.now.items c.covered.steps.items (remove c.covered.steps.items c.in-Some.at) i.alike
          (taken_out c.covered.steps.items c.in-Some.at c.args.step here));
      sound = subst AreSound (sym c.remove-gone.ensures.items) (sound_without c.covered.steps.items c.in-Some.at i.sound);
    }
