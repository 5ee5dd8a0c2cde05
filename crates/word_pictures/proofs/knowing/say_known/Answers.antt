use Rattle.std.proofs.Common.{◌∙◌, List, ap, subst, ℕ, Vec}
use Rattle.std.specs.declared.alloc.Global.{Global}
use Rattle.state_changes.specs.Behind.{SaysChanges}
use Rattle.state_changes.specs.Knowing.{known_text}
use Rattle.trace.specs.Numbered.{texts_of}
use Rattle.word_pictures.proofs.StateLemmas.{front_lines}
use Rattle.word_pictures.proofs.knowing.say_known.Goals as goal

pub returns-in-Ok-known_of-clause-ok : goal.returns-in-Ok-known_of-clause-ok
returns-in-Ok-known_of-clause-ok c =
    let changes = c.in-Ok-changes_in.changes.items in
    record {
      state = c.in-Ok.state.items;
      is_state = c.in-Ok.ensures.ok;
      changes = texts_of changes;
      says_changes = subst (λ ls. SaysChanges ls (texts_of changes)) (front_lines c.args.page.at c.args.trace.now c.front_of-front.result.now c.front_of-front.ensures)
          c.in-Ok-changes_in.ensures.ok;
      is = c.in-Ok-known_of.ensures
          ∙ ap (λ (cs : List (Vec ℕ Global)). known_text c.args.page.addr (texts_of cs) c.as_slice-2.result.now) c.as_slice.ensures.value
          ∙ ap (known_text c.args.page.addr (texts_of changes)) c.as_slice-2.ensures.value;
      lacking = c.lacking_line-lacking.ensures;
    }
