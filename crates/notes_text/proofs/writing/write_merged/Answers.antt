use Rattle.std.proofs.Common.{[], ◌∷◌, ◌++◌, ◌+◌, ◌∙◌, refl}
use Rattle.seats.specs.Packing.{shown}
use Rattle.notes_text.proofs.MergeLemmas.{first_of, found_some, merged_first, merged_last, none_found, step_merged, step_shorter, step_whole}
use Rattle.notes_text.proofs.MergeLemmas.{wrote_front_of, wrote_next}
use Rattle.trace_words.proofs.FilePieces.{nothing_yet}
use Rattle.notes_text.proofs.writing.write_merged.Goals as goal

pub get-note-requires : goal.get-note-requires
get-note-requires g c = found_some shown c.notes.lists c.in-Some.head c.in-Some.ensures c.index-lists-head.result c.index-lists-head.is

pub rest-rest-requires : goal.rest-rest-requires
rest-rest-requires g c = found_some shown c.notes.lists c.in-Some.head c.in-Some.ensures c.index-lists-head.result c.index-lists-head.is

pub notes-init : goal.notes-init
notes-init g c = record { done = []; merged = merged_first _ c.requires; written = nothing_yet _; kept = refl }

pub notes-preserved : goal.notes-preserved
notes-preserved g c =
    let held = c.notes.invariant in
    let list = c.index-lists-head.result in
    record {
      done = held.done ++ c.get-note.result ∷ [];
      merged = step_merged shown c.notes.lists c.in-Some.head c.in-Some.ensures list c.index-lists-head.is c.rest-rest.result c.get-note.result
          (first_of _ _ c.get-note.ensures) c.rest-rest.ensures _ held.done held.merged;
      written = wrote_next _ _ _ held.done c.get-note.result held.written c.in_default-write_note.ensures.ok;
      kept = c.in_default-write_note.ensures.kept ∙ held.kept;
    }

pub notes-smaller : goal.notes-smaller
notes-smaller g c =
    let list = c.index-lists-head.result in
    step_shorter shown c.notes.lists c.in-Some.head c.in-Some.ensures list c.index-lists-head.is c.rest-rest.result c.get-note.result
    (first_of _ _ c.get-note.ensures) c.rest-rest.ensures

pub returns-in-Err : goal.returns-in-Err
returns-in-Err g c =
    let held = c.notes.invariant in
    let list = c.index-lists-head.result in
    let (more, order) = step_whole shown c.notes.lists c.in-Some.head c.in-Some.ensures list c.index-lists-head.is c.rest-rest.result
    c.get-note.result (first_of _ _ c.get-note.ensures) c.rest-rest.ensures _ held.done held.merged in (
      (held.done ++ c.get-note.result ∷ []) ++ more,
      order,
      record {
        ok = tt;
        kept = tt;
        front = wrote_front_of _ _ _ held.done more c.get-note.result held.written c.in-Err.ensures.front;
        err = c.in-Err.ensures.err;
      },
    )

pub returns : goal.returns
returns g c =
    let held = c.notes.invariant in (
      held.done,
      merged_last _ _ held.done (none_found shown c.notes.lists c.in_default.ensures) held.merged,
      record { ok = held.written; kept = held.kept; front = tt; err = tt },
    )
