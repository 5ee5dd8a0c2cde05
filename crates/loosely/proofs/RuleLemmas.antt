-- What is told of a history, and replies of calls that wait at its end
use Rattle.std.proofs.Common.{◌≡◌, ◌∙◌, ℕ, ◌+◌, Bool, List, [], ◌∷◌, ◌++◌, append-nil, append_assoc, ap, map}
use Rattle.std.proofs.Common.{Option, Some, refl, slice_get, sym}
use Rattle.vm_base.specs.declared.replies.Reply.{Reply}
use Rattle.vm_base.specs.Plain.{nothing_mapped}
use Rattle.frames.specs.declared.file_spec.FileSpec.{FileSpec}
use Rattle.frames.specs.Given.{given_files}
use Rattle.audit_text.specs.Legal.{first_map}
use Rattle.audit_text.proofs.FileLemmas.{same_files}
use Rattle.orders.specs.declared.history.Timed.{Timed}
use Rattle.orders_text.specs.History.{IsHistory, Read, completed}
use Rattle.orders_text.specs.Steps.{read_of}
use Rattle.orders_text.specs.declared.clock.PendingCall.{PendingCall}
use Rattle.orders_text.specs.declared.reading.History.{History}
use Rattle.overlapping.specs.Waiting.{NoneWaits}
use Rattle.overlapping.proofs.RuleLemmas.{none_open}
use Rattle.loosely.specs.Effects.{waiting_reply}
use Rattle.loosely.specs.Rulings.{HasNone, IsUnordered, OrderRule}

-- where none waits, the calls that have a reply are all
pub all_answered : {A : Type 0} (history : History A) (replies : ℕ → Reply) → NoneWaits history.waiting.items
    → completed replies (read_of history) ≡ history.calls.items
all_answered history replies none =
    ap (λ (cs : List Timed). history.calls.items ++ cs) (none_open replies 0 history.waiting.items none) ∙ append-nil history.calls.items

-- the first map of a history
pub first_of : {A : Type 0} (history : History A) (files : List (FileSpec A)) → files ≡ history.declaration.files.items
    → nothing_mapped (given_files files) ≡ first_map (read_of history).declared
first_of {A} history files e =
    ap (λ (fs : List (FileSpec A)). nothing_mapped (given_files fs)) e ∙ ap nothing_mapped (same_files history.declaration.files.items)

pub unordered_there : (has : OrderRule) (lines : List (List ℕ)) (r : Read) (number line : ℕ) (c : Timed) → HasNone has r
    → slice_get r.lines number ≡ Some line → slice_get r.calls number ≡ Some c → IsHistory lines r
    → IsUnordered has lines line c.call.reply
unordered_there has lines r number line c none at is h =
    record { read = r; history = h; none = none; number = number; call = c; is_call = is; is_line = at; replied = refl }

-- ---- replies of calls that wait

pub pushed_effects : (a b c : List Reply) (take_effect : Bool) (waiting rest : List (Option PendingCall)) (w : Option PendingCall) → waiting ≡ w ∷ rest
    → b ≡ a ++ waiting_reply take_effect w ∷ [] → c ≡ b ++ map (waiting_reply take_effect) rest → c ≡ a ++ map (waiting_reply take_effect) waiting
pushed_effects a b c take_effect waiting rest w e f g =
    g ∙ (ap (λ (x : List Reply). x ++ map (waiting_reply take_effect) rest) f
    ∙ (append_assoc a (waiting_reply take_effect w ∷ []) (map (waiting_reply take_effect) rest)
    ∙ ap (λ (xs : List (Option PendingCall)). a ++ map (waiting_reply take_effect) xs) (sym e)))

pub pushed_none : (a : List Reply) (take_effect : Bool) (waiting : List (Option PendingCall)) → waiting ≡ []
    → a ≡ a ++ map (waiting_reply take_effect) waiting
pushed_none a take_effect waiting e =
    sym (ap (λ (xs : List (Option PendingCall)). a ++ map (waiting_reply take_effect) xs) e ∙ append-nil a)
