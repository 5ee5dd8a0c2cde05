use Rattle.std.proofs.Common.{inl}
use Rattle.trace_io.specs.Lines.{lines_of}
use Rattle.litmus.proofs.ShownLemmas.{fails_so}
use Rattle.litmus.proofs.telling.tell_litmus.Goals as goal

pub returns-in-Err-outcomes_of-clause-err : goal.returns-in-Err-outcomes_of-clause-err
returns-in-Err-outcomes_of-clause-err g c = inl (inl c.in-Err-outcomes_of.ensures.err)

pub returns-in-Err-show_test-clause-err : goal.returns-in-Err-show_test-clause-err
returns-in-Err-show_test-clause-err g c = fails_so c.args.view (lines_of c.args.text.now) _ _ _ c.in-Ok.ensures.ok c.in-Ok-outcomes_of.ensures.ok c.in-Err-show_test.ensures.err
