use Rattle.machine_model.proofs.Words.{refl, subst, ◌∙◌, Appends}
use Rattle.trace_io.specs.Sink.{AppendsFront}
use Rattle.trace.proofs.MapsLemmas.{listed_none, listed_more, listed_front, listed_all}
use Rattle.trace.proofs.shown.write_maps.Goals as goal

pub lines-init : goal.lines-init
lines-init g c = record { has = listed_none _ _; kept = refl }

pub returns-in-Err-clause-front : goal.returns-in-Err-clause-front
returns-in-Err-clause-front g c =
    let text = c.as_bytes.ensures.value ∙ c.as_str.ensures.value ∙ c.write_map_line.ensures in
    let wrote = subst (AppendsFront _ _) text c.in-Err.ensures.front in
    listed_front _ _ _ _ _ _ c.lines.invariant.has c.in-Some.ensures.some wrote

pub lines-preserved : goal.lines-preserved
lines-preserved g c =
    let text = c.as_bytes.ensures.value ∙ c.as_str.ensures.value ∙ c.write_map_line.ensures in
    let wrote = subst (Appends _ _) text c.in_default-write_all.ensures.ok in
    record {
      has = listed_more _ _ _ _ _ _ c.lines.invariant.has c.in-Some.ensures.some wrote;
      kept = c.in_default-write_all.ensures.kept ∙ c.lines.invariant.kept;
    }

pub returns-clause-ok : goal.returns-clause-ok
returns-clause-ok g c = listed_all _ _ _ _ c.lines.invariant.has c.in_default.ensures.none
