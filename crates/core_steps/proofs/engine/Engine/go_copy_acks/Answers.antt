use Rattle.machine_model.proofs.Words.{inl, refl, sym, ap, ◌∙◌, frame_of}
use Rattle.core_steps.proofs.engine.Engine.go_copy_acks.Goals as goal

pub returns : goal.returns
returns g c =
    let made = c.in_ok-make_copy.ensures.ok in
    let had = ap frame_of (sym c.page.ensures ∙ c.in-Some-page.is) ∙ c.in-Some-frame.is in
    inl (c.in_default.ensures.none, (c.in-Some-frame.shown, made.0, had, made.1, (refl, made.2)))
