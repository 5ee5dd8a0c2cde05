use Rattle.seats.specs.declared.noted.Noted.{Noted}
use Rattle.trace_text.specs.Words.{words_of}
use Rattle.notes_text.specs.Grammar.{NamesNote}
use Rattle.trace_text.proofs.HalvesLemmas.{if_none}
use Rattle.notes_text.proofs.NoteLemmas.{note_found, names_some, names_none}
use Rattle.notes_text.proofs.note_line.read_note.Goals as goal

pub returns-in_err-front-clause-none : goal.returns-in_err-front-clause-none
returns-in_err-front-clause-none c =
    let none : (note : Noted) → NamesNote note (words_of c.args.line.now) → ⊥ = (λ note names.
    let f = note_found _ note names in c.in_err-front.ensures.none f.front f.behind f.halves) in
    if_none _ _ none

pub returns-clause-some : goal.returns-clause-some
returns-clause-some c = names_some _ _ _ _ c.in_ok-front.ensures.some c.read_halves.ensures

pub returns-clause-none : goal.returns-clause-none
returns-clause-none c = names_none _ _ _ _ c.in_ok-front.ensures.some c.read_halves.ensures
