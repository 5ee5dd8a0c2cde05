use Rattle.std.proofs.Common.{ap, rules, sym, ◌∙◌}
use Rattle.std.specs.List.{flat_map}
use Rattle.litmus.specs.Opening.{calls_of}
use Rattle.litmus.proofs.telling.program_text.Goals as goal

pub returns-in-Ok-program_of-clause-ok : goal.returns-in-Ok-program_of-clause-ok
returns-in-Ok-program_of-clause-ok g c = record {
  asked = c.in-Some.declaration;
  is = c.in-Some.is;
  unmapped = search rules;
  called = rw (sym c.as_slice.ensures.value) (sym c.are_called.ensures ∙ c.if-not-are_called.false);
  text_is = rw (sym (c.as_slice-3.ensures.value ∙ c.in-Ok-calls_of.ensures ∙ ap (flat_map calls_of) c.as_slice-2.ensures.value))
      (rw (sym c.files.ensures) (rw (sym c.as_slice-4.ensures.value) (rw (sym c.as_slice-5.ensures.value) c.in-Ok-program_of.ensures)));
}
