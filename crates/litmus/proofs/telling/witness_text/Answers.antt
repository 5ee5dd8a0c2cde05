use Rattle.std.proofs.Common.{◌-◌, ◌<◌, ◌≤◌, Some, ap, sym, ◌∙◌, arith, inl, inr, length, refl, rules}
use Rattle.litmus_merges.proofs.Lists.{get_here}
use Rattle.litmus_text.specs.Scripts.{read_of}
use Rattle.litmus.proofs.ShownLemmas.{few_rows, gone_past, no_gap}
use Rattle.litmus.proofs.telling.witness_text.Goals as goal

pub returns-in-Ok-clause-ok : goal.returns-in-Ok-clause-ok
returns-in-Ok-clause-ok g c = record {
  row = c.in-Some.row.now;
  outcome = c.in-Some-get.outcome.now;
  is_numbered = record {
    rows = c.args.rows.now;
    order = c.requires.order;
    place = c.args.number - 1;
    numbered = omega (arith, c.if-number-eq0.false, c.ranges.number.fits);
    is_row = get_here c.args.rows.now (c.args.number - 1) c.in-Some.row.now c.in-Some.ensures.lookup.3.0 ∙ ap Some (sym c.in-Some.ensures.lookup.1);
    is_outcome = rw (sym c.as_slice.ensures.value) (get_here c.as_slice.result.now c.in-Some.row.now.1 c.in-Some-get.outcome.now c.in-Some-get.ensures.lookup.3.0
        ∙ ap Some (sym c.in-Some-get.ensures.lookup.1));
  };
  events = c.in-Some-witness.events;
  witness = search rules;
  is = search rules;
}

pub returns-in_default-clause-err : goal.returns-in_default-clause-err
returns-in_default-clause-err g c =
    let some : 0 < c.args.number = omega (arith, c.if-number-eq0.false) in
    inr (
      c.args.number,
      refl,
      inl (
        refl,
        inr (few_rows (read_of c.args.script.now) c.args.found.now c.args.rows.now c.args.number c.requires.order
            c.in_default.ensures.lookup.3 some),
      ),
    )

pub returns-in_default-get-clause-err : goal.returns-in_default-get-clause-err
returns-in_default-get-clause-err g c =
    let past : length c.args.found.now.list.items ≤ c.in-Some.row.now.1 =
    omega (arith, ap length c.as_slice.ensures.value, c.in_default-get.ensures.lookup.3) in
    let at = get_here c.args.rows.now (c.args.number - 1) c.in-Some.row.now c.in-Some.ensures.lookup.3.0 ∙ ap Some (sym c.in-Some.ensures.lookup.1) in
    absurd (no_gap (read_of c.args.script.now) c.args.found.now c.args.rows.now (c.args.number - 1) c.in-Some.row.now c.requires.order at
    (gone_past c.args.found.now.list.items c.in-Some.row.now.1 past))

pub returns-in_default-witness-clause-err : goal.returns-in_default-witness-clause-err
returns-in_default-witness-clause-err g c = inr (
  c.args.number,
  refl,
  inr (
    refl,
    (
      c.in-Some.row.now,
      c.in-Some-get.outcome.now,
      record {
        rows = c.args.rows.now;
        order = c.requires.order;
        place = c.args.number - 1;
        numbered = omega (arith, c.if-number-eq0.false, c.ranges.number.fits);
        is_row = get_here c.args.rows.now (c.args.number - 1) c.in-Some.row.now c.in-Some.ensures.lookup.3.0 ∙ ap Some (sym c.in-Some.ensures.lookup.1);
        is_outcome = rw (sym c.as_slice.ensures.value) (get_here c.as_slice.result.now c.in-Some.row.now.1 c.in-Some-get.outcome.now c.in-Some-get.ensures.lookup.3.0
            ∙ ap Some (sym c.in-Some-get.ensures.lookup.1));
      },
      search rules,
    ),
  ),
)
