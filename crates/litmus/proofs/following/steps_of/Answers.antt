use Rattle.std.proofs.Common.{rules}
use Rattle.certifier.proofs.Notes.{only, place_there}
use Rattle.certifier.specs.Following.{event_of, outcome_of}
use Rattle.litmus.proofs.StepLemmas.{read_more}
use Rattle.litmus.proofs.following.steps_of.Goals as goal

pub note_of-note-requires : goal.note_of-note-requires
note_of-note-requires c =
    place_there _ c.args.standings.now c.tickets.at _ c.in-Once.place c.requires c.tickets-test.true c.in-Once.is

pub tickets-preserved : goal.tickets-preserved
tickets-preserved c =
    let is = only _ c.args.standings.now c.tickets.at _ c.in-Once.place c.note_of-note.result c.requires c.tickets-test.true c.in-Once.is
    c.note_of-note.ensures in record {
      events = read_more event_of _ c.tickets.at c.note_of-note.result _ _ is c.tickets.invariant.events (search rules);
      outcomes = read_more outcome_of _ c.tickets.at c.note_of-note.result _ _ is c.tickets.invariant.outcomes (search rules);
    }
