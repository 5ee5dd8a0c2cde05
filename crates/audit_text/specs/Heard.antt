-- What the lines of a text say, one after another.
use Rattle.std.specs.Prelude.{◌≡◌, ℕ, suc, ◌+◌, ◌-◌, ◌≤◌, ◌==◌, ◌&&◌, nat_le, nat_lt, not, Bool, true, false, List, [], ◌∷◌, ◌++◌, length, get_or, set}
use Rattle.std.specs.Prelude.{replicate, Option, None, Some, is_some, option_map, if◌then◌else◌}
use Rattle.vm_base.specs.declared.requests.Request.{Request}
use Rattle.vm_base.specs.declared.replies.Reply.{Reply}
use Rattle.vm_base.specs.Plain.{File as PlainFile, file_with}
use Rattle.trace_text.specs.Line.{seeded}
use Rattle.audit.specs.declared.auditor.Call.{Call}
use Rattle.audit_text.specs.declared.item.AuditItem.{AuditItem}
use Rattle.audit_text.specs.declared.item.AuditItem.TheVariants.{Answer, Copy}
use Rattle.audit_text.specs.Allowed.{is_given_up, is_lacking, is_store, is_unplaced}
use Rattle.audit_text.specs.declared.allowing.Terms.{Terms}
use Rattle.audit_text.specs.Grammar.{Tells}
use Rattle.audit_text.specs.declared.reading.Said.{Said}
use Rattle.audit_text.specs.declared.reading.Said.TheVariants.{Blank, Space, File, Answered, Waits, Ends, StillWaits, Copies, Passes}

-- ---- the lines in front

-- whether a space is declared, and its files by their numbers
pub record Declared : Type 0 where
  pub has_space : Bool
  pub files : List PlainFile

abbrev pub undeclared : Declared
undeclared = record { has_space = false; files = [] }

-- a space of 1 to 64 cores, once
abbrev pub with_space : Declared → ℕ → Option Declared
with_space d cores = if not d.has_space && nat_le 1 cores && nat_le cores 64 then Some (record d { has_space = true }) else None

-- the next file: at most 16, of at most 1,048,576 bytes each
abbrev pub with_file : Declared → ℕ → PlainFile → ℕ → Option Declared
with_file d number file len = if d.has_space && (number == length d.files) && nat_lt number 16 && nat_le len 1048576
    then Some (record d { files = d.files ++ file ∷ [] }) else None

-- what this line says may stand only behind that of a space
abbrev pub needs_space : Said → Bool
needs_space Blank = false
needs_space (Space cores frames calls) = false
needs_space said = true

-- ---- the calls

-- What the call of each core asks for that waits, and how many wait; the calls that were answered, in order of their replies,
-- and the copies between them; how many calls these are, how many of them found no frame or no memory, and how many were mappings without
-- MAP_FIXED that were refused for want of memory; how many lines were passed over; and whether so far no other order of the calls, and no
-- other map, can be behind these replies.
pub record Heard : Type 0 where
  pub waiting : List (Option Request)
  pub pending : ℕ
  pub items : List AuditItem
  pub calls : ℕ
  pub lacking : ℕ
  pub unplaced : ℕ
  pub passed : ℕ
  pub is_sure : Bool

abbrev pub nothing : Heard
nothing = record { waiting = replicate 64 None; pending = 0; items = []; calls = 0; lacking = 0; unplaced = 0; passed = 0; is_sure = true }

abbrev pub waits : Heard → ℕ → Option Request
waits h core = get_or h.waiting core None

abbrev pub call_to : ℕ → Reply → Request → Call
call_to core reply request = record { core = core; request = request; reply = reply }

-- what a line tells that is judged: a call that is in the line, unless a call of its core waits, or the one that waits; or a copy
abbrev pub item_told : Heard → Said → Option AuditItem
item_told h (Answered call) = if is_some (waits h call.core) then None else Some (Answer call)
item_told h (Ends core reply) = option_map (λ r. Answer (call_to core reply r)) (waits h core)
item_told h (Copies page) = Some (Copy page)
item_told h _ = None

-- The order of the lines is the only one in which calls and copies may have taken effect: no reply or copy so far, this line's too,
-- came while another call waited. And the map is known: no store so far may have left a copy behind.
abbrev pub is_alone : Heard → Said → Bool
is_alone h (Answered call) = nat_le h.pending 0
is_alone h (Ends core reply) = nat_le h.pending 1
is_alone h (Copies page) = nat_le h.pending 0
is_alone h _ = true

abbrev pub is_certain : Heard → Said → Bool
is_certain h said = h.is_sure && is_alone h said

-- with one more call, at whose line this is certain
abbrev pub with_answer : Heard → Bool → Call → Heard
with_answer h certain call = record h {
  items = h.items ++ Answer call ∷ [];
  calls = suc h.calls;
  lacking = if is_lacking call.reply then suc h.lacking else h.lacking;
  unplaced = if is_unplaced call.request call.reply then suc h.unplaced else h.unplaced;
  is_sure = certain && not (is_store call.request && is_given_up call.reply);
}

-- how many calls found no frame or no memory by these terms: where any place will do, the refused mappings are among them
abbrev pub lacking_by : Terms → Heard → ℕ
lacking_by terms h = if terms.any_place && not terms.is_strict then h.lacking + h.unplaced else h.lacking

-- with a copy
abbrev pub with_copy : Heard → Bool → ℕ → Heard
with_copy h certain page = record h { items = h.items ++ Copy page ∷ []; is_sure = certain }

abbrev pub with_item : Heard → Bool → AuditItem → Heard
with_item h certain (Answer call) = with_answer h certain call
with_item h certain (Copy page) = with_copy h certain page

-- with what this line tells, whose call doesn't wait any more
abbrev pub without : Heard → ℕ → Heard
without h core = record h { waiting = set h.waiting core None; pending = h.pending - 1 }

abbrev pub with_told : Heard → Said → AuditItem → Heard
with_told h (Ends core reply) item = with_item (without h core) (is_certain h (Ends core reply)) item
with_told h said item = with_item h (is_certain h said) item

-- a call that begins to wait
abbrev pub with_waiting : Heard → ℕ → Request → Heard
with_waiting h core request = record h { waiting = set h.waiting core (Some request); pending = suc h.pending }

abbrev pub one_passed : Heard → Heard
one_passed h = record h { passed = suc h.passed }

-- after a line of this; none, where it may not stand here
abbrev pub heard_after : Heard → Said → Option Heard
heard_after h Blank = Some h
heard_after h (Answered call) = option_map (with_told h (Answered call)) (item_told h (Answered call))
heard_after h (Ends core reply) = option_map (with_told h (Ends core reply)) (item_told h (Ends core reply))
heard_after h (Copies page) = option_map (with_told h (Copies page)) (item_told h (Copies page))
heard_after h (Waits core request) = if is_some (waits h core) then None else Some (with_waiting h core request)
heard_after h (StillWaits core) = if is_some (waits h core) then Some (one_passed h) else None
heard_after h Passes = Some (one_passed h)
heard_after h _ = None

-- ---- both

-- the declaration goes on, or it has ended and the calls go on
pub data Stage : Type 0 where
  Front : Declared → Stage
  Behind : Declared → Heard → Stage

abbrev pub behind : Declared → Option Heard → Option Stage
behind d h = option_map (Behind d) h

abbrev pub stage_after : Stage → Said → Option Stage
stage_after (Front d) Blank = Some (Front d)
stage_after (Front d) (Space cores frames calls) = option_map Front (with_space d cores)
stage_after (Front d) (File number mode len seed) = option_map Front (with_file d number (file_with mode (seeded len seed)) len)
stage_after (Front d) said = if d.has_space then behind d (heard_after nothing said) else None
stage_after (Behind d h) said = behind d (heard_after h said)

-- the lines, none longer than 512 bytes, lead from one stage to the other
abbrev pub Leads : Stage → List (List ℕ) → Stage → Type 0
Leads a [] b = b ≡ a
Leads a (l ∷ ls) b =
    (said : Said) × (m : Stage) × (length l ≤ 512) × Tells said l × (stage_after a said ≡ Some m) × Leads m ls b
