use Rattle.std.proofs.Common.{List, ℕ, Some, Vec, ap, ◌∙◌, inl, sym}
use Rattle.std.specs.declared.alloc.Global.{Global}
use Rattle.std.proofs.KnownBytes.{Keeps-refl}
use Rattle.word_pictures.specs.Stepping.{page_written}
use Rattle.word_pictures.proofs.PageLemmas.{page_drawn}
use Rattle.word_pictures.proofs.stepping.draw_page.Goals as goal

pub returns-in-Ok-record_shown-clause-ends : goal.returns-in-Ok-record_shown-clause-ends
returns-in-Ok-record_shown-clause-ends g c =
    let none = ap (λ (v : Vec ℕ Global). Some v.items) c.new-held.ensures.bytes ∙ ap Some c.new-bytes.ensures.items in
    page_drawn page_written c.args.trace.now c.as_slice.result.now _ _ _ _ c.in-Ok.recorder c.in-Ok-record_shown.recorder c.write_page.result
    c.in-Ok.ensures none (ap Some (sym c.as_slice.ensures.value)) c.in-Ok-record_shown.ensures.ends c.write_page.ensures.ok c.write_page.ensures.err

pub returns-clause-ends : goal.returns-clause-ends
returns-clause-ends g c = inl (c.in-Err.ensures.ends, Keeps-refl _)
