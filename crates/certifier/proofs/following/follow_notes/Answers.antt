use Rattle.std.proofs.Common.{length, arith}
use Rattle.certifier.proofs.Followed.{astray, certified, followed_first, followed_looked, followed_next, refused}
use Rattle.certifier.proofs.Notes.{numbered, only, place_there}
use Rattle.certifier.proofs.following.follow_notes.Goals as goal

pub note_of-note-requires : goal.note_of-note-requires
note_of-note-requires g c =
    place_there _ c.args.standings.now c.tickets.at _ c.in-Once.place c.requires.standings c.tickets-test.true
    c.in-Once.is

pub tickets-init : goal.tickets-init
tickets-init g c = followed_first _ _ _ _ _ (length c.args.standings.now) c.args.histories.now c.args.looks.now.items c.requires.looks

pub tickets-preserved : goal.tickets-preserved
tickets-preserved g c =
    let lt = c.tickets-test.true in
    let is = only _ c.args.standings.now c.tickets.at _ c.in-Once.place c.note_of-note.result c.requires.standings c.tickets-test.true c.in-Once.is
    c.note_of-note.ensures in
    let told = c.in-Ok.ensures.ok in
    followed_next _ _ _ _ _ (length c.args.standings.now) c.args.histories.now c.tickets.at _ _ c.look_before.new.looks.items c.tickets.calls
    c.in-Ok.few c.note_of-note.result is told.1 told.0 c.look_before.ensures.caught
    (followed_looked _ _ _ _ _ (length c.args.standings.now) c.args.histories.now c.tickets.at _ c.tickets.looks.items c.look_before.new.looks.items
    c.tickets.calls (λ maps. c.look_before.ensures.looked (length c.args.standings.now) maps (omega (arith, lt))) c.tickets.invariant)

pub returns-in-Some-clause-err : goal.returns-in-Some-clause-err
returns-in-Some-clause-err g c setup o =
    let end = c.tickets-test.false in
    let at_end = c.tickets.auto.at-end in
    astray _ _ _ setup _ _ c.args.histories.now (length c.args.standings.now) c.tickets.at _ c.tickets.looks.items c.tickets.calls c.in-Some.page o
    (numbered _ c.args.standings.now c.requires.standings c.requires.once) c.requires.standings.count (omega (arith, end, at_end)) c.tickets.invariant
    c.in-Some.ensures.some

pub returns-in-None-clause-ok : goal.returns-in-None-clause-ok
returns-in-None-clause-ok g c setup o =
    let end = c.tickets-test.false in
    let at_end = c.tickets.auto.at-end in
    certified _ _ _ setup _ _ c.args.histories.now (length c.args.standings.now) c.tickets.at _ c.tickets.looks.items c.tickets.calls o
    (numbered _ c.args.standings.now c.requires.standings c.requires.once) c.requires.standings.count (omega (arith, end, at_end)) c.tickets.invariant
    c.in-None.ensures.none

pub returns-in-Err-clause-err : goal.returns-in-Err-clause-err
returns-in-Err-clause-err g c setup o =
    let is = only _ c.args.standings.now c.tickets.at _ c.in-Once.place c.note_of-note.result c.requires.standings c.tickets-test.true c.in-Once.is
    c.note_of-note.ensures in
    refused _ _ _ setup _ _ c.args.histories.now (length c.args.standings.now) c.tickets.at _ c.tickets.looks.items c.tickets.calls
    c.note_of-note.result c.in-Err.fault o (numbered _ c.args.standings.now c.requires.standings c.requires.once) is
    c.tickets.invariant c.in-Err.ensures.err
