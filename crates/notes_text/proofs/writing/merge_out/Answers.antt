use Rattle.machine_model.proofs.Words.{◌∙◌, flat_map, Appends-trans}
use Rattle.trace_io.proofs.IoLemmas.{front_longer, written_flushed, written_then}
use Rattle.notes_text.specs.NotesWritten.{note_text}
use Rattle.notes_text.proofs.MergeLemmas.{order_of}
use Rattle.notes_text.proofs.writing.merge_out.Goals as goal

pub returns-in-Err-clause-wrote : goal.returns-in-Err-clause-wrote
returns-in-Err-clause-wrote g c =
    let (order, is) = order_of _ c.requires in
    (order, is, record { ok = tt; kept = tt; front = front_longer _ _ _ (flat_map note_text order) c.in-Err.ensures.front; err = c.in-Err.ensures.err })

pub returns-in-Err-write_merged-clause-wrote : goal.returns-in-Err-write_merged-clause-wrote
returns-in-Err-write_merged-clause-wrote g c =
    let (order, is, wrote) = c.in-Err-write_merged.ensures in
    (order, is, written_then _ _ _ _ _ _ _ _ _ _ c.in_default.ensures.ok c.in_default.ensures.kept wrote)

pub returns-clause-wrote : goal.returns-clause-wrote
returns-clause-wrote g c =
    let (order, is, wrote) = c.in_default-write_merged.ensures in (
      order,
      is,
      written_flushed _ _ _ _ _ _ _ _ _ (Appends-trans _ _ _ _ _ c.in_default.ensures.ok wrote.ok) (wrote.kept ∙ c.in_default.ensures.kept) c.flush.ensures.bytes
          c.flush.ensures.ok c.flush.ensures.err,
    )
