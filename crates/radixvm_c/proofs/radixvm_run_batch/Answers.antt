use Rattle.radixvm_c.proofs.radixvm_run_batch.Goals as goal

pub returns : goal.returns
returns c = (c.run_batch.result, c.done_of.ensures, c.run_batch.ensures)
