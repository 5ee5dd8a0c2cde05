use Rattle.std.proofs.Common.{sym}
use Rattle.litmus.proofs.telling.show_test.Goals as goal

pub report_text-requires : goal.report_text-requires
report_text-requires g c = record {
  order = rw c.as_slice-in-Report.ensures.value
      (rw (sym c.as_slice.ensures.value) (rw (sym c.as_slice-2.ensures.value) (rw (sym c.as_slice-outcomes.ensures.value) c.in-Ok.ensures)));
}

pub returns-in-Ok-list_text-clause-ok : goal.returns-in-Ok-list_text-clause-ok
returns-in-Ok-list_text-clause-ok g c = rw c.in-List.is (record {
  rows = c.as_slice-in-List.result.now;
  order = rw c.as_slice-in-List.ensures.value
      (rw (sym c.as_slice.ensures.value) (rw (sym c.as_slice-2.ensures.value) (rw (sym c.as_slice-outcomes.ensures.value) c.in-Ok.ensures)));
  is = rw (sym c.as_slice-outcomes.ensures.value) c.in-Ok-list_text.ensures;
})

pub witness_text-requires : goal.witness_text-requires
witness_text-requires g c = record {
  order = rw c.as_slice-in-Witness.ensures.value
      (rw (sym c.as_slice.ensures.value) (rw (sym c.as_slice-2.ensures.value) (rw (sym c.as_slice-outcomes.ensures.value) c.in-Ok.ensures)));
}

pub returns-clause-ok : goal.returns-clause-ok
returns-clause-ok g c = rw c.in-Witness.is c.witness_text.ensures.ok
