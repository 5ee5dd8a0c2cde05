-- The text of a state: lines of words, or a JSON object a line (RFC 8259) that shows the same
use Rattle.std.specs.Prelude.{ℕ, Bool, true, false, List, [], ◌∷◌, ◌++◌, Option, None, Some, cond, codes, decimal, slice_index_or}
use Rattle.std.specs.List.{concat, flat_map}
use Rattle.vm_base.specs.declared.rights.Prot.{Prot}
use Rattle.vm_base.specs.Functions.{has}
use Rattle.mmu.specs.declared.entry.Translation.{Translation}
use Rattle.mmu.specs.declared.tlb.TlbEntry.{TlbEntry}
use Rattle.mmu.specs.declared.message.Message.{Message}
use Rattle.trace_text.specs.Lists.{start_of}
use Rattle.trace_text.specs.Spelling.{rights_text}
use Rattle.machine_model.specs.Holding.{taken_in}
use Rattle.machine_model.specs.World.{World}
use Rattle.state_seen.specs.declared.list.OfPage.{OfPage}
use Rattle.state_seen.specs.Lists.{at_page}
use Rattle.state_seen.specs.PageTexts.{pages_text, texts_below}
use Rattle.machine_model.specs.declared.phase.Phase.{Phase}
use Rattle.machine_model.specs.declared.phase.Phase.TheVariants.{Free}
use Rattle.state_text.specs.declared.form.Form.{Form}
use Rattle.state_text.specs.declared.form.Form.TheVariants.{Json, Text}
use Rattle.state_text.specs.declared.words.WorkPages.{WorkPages}
use Rattle.state_text.specs.declared.words.WorkPages.TheVariants.{Nowhere, Page, Pages}
use Rattle.state_seen.specs.Edits.{table_at}
use Rattle.state_seen.specs.Held.{Holds, held}
use Rattle.state_seen.specs.Shown.{Seen, holds_of, phase_in}
use Rattle.state_text.specs.Words.{call_word, doing_word, held_spot, spot_of}
use Rattle.state_text.specs.Forms.{end_word}
use Rattle.state_text.specs.PageTexts.{mappings_text, used_line}
use Rattle.state_seen.specs.Used.{used_in}

-- ---- a call

-- where it is, and the end of its line
unfoldable pub spot_text : Form → WorkPages → List ℕ
spot_text form Nowhere = end_word form
spot_text Text (Page page) = concat (codes " " ∷ start_of page ∷ codes "\n" ∷ [])
spot_text Json (Page page) = concat (codes ",\"page\":\"" ∷ start_of page ∷ codes "\"}\n" ∷ [])
spot_text Text (Pages range) =
    concat (codes " " ∷ start_of range.first ∷ codes "-" ∷ start_of range.end ∷ codes "\n" ∷ [])
spot_text Json (Pages range) =
    concat (codes ",\"first\":\"" ∷ start_of range.first ∷ codes "\",\"end\":\"" ∷ start_of range.end ∷ codes "\"}\n" ∷ [])

-- what it is, and what it does next
unfoldable pub call_front : Form → ℕ → Phase → List ℕ
call_front Text c phase = concat (codes "core " ∷ decimal c ∷ codes " " ∷ call_word phase ∷ doing_word phase ∷ [])
call_front Json c phase =
    concat (codes "{\"core\":" ∷ decimal c ∷ codes ",\"call\":\"" ∷ call_word phase ∷ doing_word phase ∷ codes "\"" ∷ [])

unfoldable pub call_line : Form → ℕ → Phase → List ℕ
call_line form c phase = call_front form c phase ++ spot_text form (spot_of phase)

-- a core without a call has no line
abbrev pub call_text : Form → ℕ → Phase → List ℕ
call_text form c Free = []
call_text form c phase = call_line form c phase

-- the pages that it holds
unfoldable pub holds_front : Form → ℕ → List ℕ
holds_front Text c = concat (codes "core " ∷ decimal c ∷ codes " holds" ∷ [])
holds_front Json c = concat (codes "{\"core\":" ∷ decimal c ∷ codes ",\"holds\":true" ∷ [])

unfoldable pub holds_line : Form → ℕ → WorkPages → List ℕ
holds_line form c spot = holds_front form c ++ spot_text form spot

abbrev pub holds_text : Form → ℕ → WorkPages → List ℕ
holds_text form c Nowhere = []
holds_text form c spot = holds_line form c spot

-- the frame that it has taken, and that no page has yet
unfoldable pub took_line : Form → ℕ → ℕ → List ℕ
took_line Text c f = concat (codes "core " ∷ decimal c ∷ codes " took frame " ∷ decimal f ∷ codes "\n" ∷ [])
took_line Json c f = concat (codes "{\"core\":" ∷ decimal c ∷ codes ",\"took\":" ∷ decimal f ∷ codes "}\n" ∷ [])

abbrev pub took_text : Form → ℕ → Option ℕ → List ℕ
took_text form c None = []
took_text form c (Some f) = took_line form c f

abbrev pub work_text : Form → ℕ → Phase → List ℕ
work_text form c phase = call_text form c phase ++ holds_text form c (held_spot phase) ++ took_text form c (taken_in phase)

-- ---- a TLB

-- each translation permits loads
abbrev pub rights_of : Translation → Prot
rights_of t = record { read = true; write = t.write; exec = t.exec }

-- How far a message has come that takes a page away: it was posted, or the tables were cleared and
-- the TLB still has the page. And the end of the line.
abbrev pub gone_word : Form → Bool → List ℕ
gone_word Text true = codes " stale: cleared\n"
gone_word Text false = codes " stale: posted\n"
gone_word Json true = codes ",\"stale\":\"cleared\"}\n"
gone_word Json false = codes ",\"stale\":\"posted\"}\n"

-- the oldest message that has the page says so
abbrev pub going_word : Form → List Message → ℕ → List ℕ
going_word form [] page = end_word form
going_word form (m ∷ ms) page = cond (has m.range page) (gone_word form m.is_cleared) (going_word form ms page)

-- a translation of a core whose inbox is this, in its TLB or in its tables, as the word says
unfoldable pub entry_line : Form → List ℕ → ℕ → List Message → TlbEntry → List ℕ
entry_line Text where_it_is c inbox e = concat (codes "core " ∷ decimal c ∷ codes " " ∷ where_it_is ∷ codes " " ∷ start_of e.page
    ∷ codes " frame " ∷ decimal e.translation.frame ∷ codes " " ∷ rights_text (rights_of e.translation)
    ∷ going_word Text inbox e.page ∷ [])
entry_line Json where_it_is c inbox e = concat (codes "{\"core\":" ∷ decimal c ∷ codes ",\"" ∷ where_it_is ∷ codes "\":\"" ∷ start_of e.page
    ∷ codes "\",\"frame\":" ∷ decimal e.translation.frame ∷ codes ",\"rights\":\"" ∷ rights_text (rights_of e.translation)
    ∷ codes "\"" ∷ going_word Json inbox e.page ∷ [])

abbrev pub tlb_line : Form → ℕ → List Message → TlbEntry → List ℕ
tlb_line form c inbox e = entry_line form (codes "tlb") c inbox e

-- ---- tables

-- what the tables have of a page
abbrev pub table_line : Form → ℕ → List Message → ℕ → Translation → List ℕ
table_line form c inbox page t = entry_line form (codes "table") c inbox (record { page = page; translation = t })

abbrev pub table_entry : Form → ℕ → List Message → OfPage Translation → List ℕ
table_entry form c inbox e = table_line form c inbox e.page e.value

-- ---- an inbox

-- which take is due
abbrev pub due_word : Bool → List ℕ
due_word true = codes "second take due"
due_word false = codes "first take due"

unfoldable pub message_line : Form → ℕ → Message → List ℕ
message_line Text c m = concat (codes "core " ∷ decimal c ∷ codes " inbox from " ∷ decimal m.from
    ∷ codes " " ∷ start_of m.range.first ∷ codes "-" ∷ start_of m.range.end ∷ codes " " ∷ due_word m.is_cleared ∷ codes "\n" ∷ [])
message_line Json c m = concat (codes "{\"core\":" ∷ decimal c ∷ codes ",\"inbox\":\"" ∷ due_word m.is_cleared ∷ codes "\",\"from\":" ∷ decimal m.from
    ∷ codes ",\"first\":\"" ∷ start_of m.range.first ∷ codes "\",\"end\":\"" ∷ start_of m.range.end ∷ codes "\"}\n" ∷ [])

-- ---- a core, and all

-- its call, and what that holds; its TLB in order of filling, its tables, the lowest page first, and its inbox, the oldest message
-- first
abbrev pub core_text : Form → ℕ → Phase → Holds → (ℕ → Option Translation) → List ℕ
core_text form c phase h table = work_text form c phase ++ flat_map (tlb_line form c h.inbox) h.tlb
    ++ pages_text (table_line form c h.inbox) table ++ flat_map (message_line form c) h.inbox

unfoldable pub epoch_line : Form → ℕ → List ℕ
epoch_line Text epoch = concat (codes "epoch " ∷ decimal epoch ∷ codes "\n" ∷ [])
epoch_line Json epoch = concat (codes "{\"epoch\":" ∷ decimal epoch ∷ codes "}\n" ∷ [])

-- the text of a state, where these are the lines of its mappings
abbrev pub state_text : Form → List ℕ → World → List ℕ
state_text form maps w = epoch_line form w.memory.counts.epoch
    ++ texts_below (λ c. core_text form c (phase_in w c) (holds_of w c) (w.hardware.table c)) 64
    ++ mappings_text form maps ++ pages_text (used_line form) (used_in w)

-- ---- the same of what was seen of it

abbrev pub seen_core : Form → List Phase → List Holds → List (List (OfPage Translation)) → ℕ → List ℕ
seen_core form phases cores tables c =
    core_text form c (slice_index_or phases c Free) (held cores c) (table_at tables c)

abbrev pub seen_text : Form → List ℕ → Seen → List ℕ
seen_text form maps r = epoch_line form r.epoch ++ texts_below (seen_core form r.phases r.cores r.tables) 64
    ++ mappings_text form maps ++ pages_text (used_line form) (at_page r.pages)
