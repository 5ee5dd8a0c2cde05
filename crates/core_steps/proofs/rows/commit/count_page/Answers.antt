use Rattle.machine_model.proofs.Words.{None, Some, refl, sym, ◌∙◌, frame_lost}
use Rattle.core_steps.proofs.rows.Lost.{lost_counted, lost_page}
use Rattle.core_steps.proofs.rows.commit.count_page.Goals as goal

pub dec-requires : goal.dec-requires
dec-requires g c =
    let known = lost_counted c.args.change c.args.info _ c.in-Some.frame c.requires.counted
    (sym (c.frame_lost.ensures (λ p. c.args.info) 0 refl) ∙ c.in-Some.is) in
    record { core = c.requires.here; object = known.object; used = known.used }

pub returns-in-Some : goal.returns-in-Some
returns-in-Some g c = λ infos p e.
    lost_page c.args.core (frame_lost c.args.change infos) p (Some c.in-Some.frame) _ _ (sym (c.frame_lost.ensures infos p e) ∙ c.in-Some.is) c.dec.ensures.step

pub returns-in_default : goal.returns-in_default
returns-in_default g c = λ infos p e.
    lost_page c.args.core (frame_lost c.args.change infos) p None _ _ (sym (c.frame_lost.ensures infos p e) ∙ c.in_default.is) refl
