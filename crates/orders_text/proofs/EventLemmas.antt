-- What the line of an event leaves.
use Rattle.std.proofs.Common.{◌≡◌, ℕ, Bool, true, false, cond, List, Option, None, Some, Result, Ok, Err, IfErr, OnOk, is_some}
use Rattle.std.proofs.Common.{ap, refl, sym, ◌∙◌, subst}
use Rattle.std.specs.Prelude.{◌&&◌, option_map}
use Rattle.vm_base.specs.declared.replies.Reply.{Reply}
use Rattle.vm_base.specs.declared.requests.Request.{Request}
use Rattle.trace_io.specs.declared.fault.IoFault.TheVariants.{NoMemory}
use Rattle.audit.specs.declared.auditor.Call.{Call}
use Rattle.audit_text.specs.declared.reading.Said.{Said}
use Rattle.audit_text.specs.declared.reading.Said.TheVariants as Says
use Rattle.orders.specs.declared.history.Timed.{Timed}
use Rattle.orders_text.specs.History.{Read, begun, between, by_lines, ended, event_after, may_event, read_after, with_call, with_waiting}
use Rattle.orders_text.specs.Lines.{call_to}
use Rattle.orders_text.specs.Steps.{Refuses, Unfit}
use Rattle.orders_text.specs.declared.clock.PendingCall.{PendingCall}
use Rattle.orders_text.specs.declared.clock.Clock.TheVariants.{Lines}
use Rattle.orders_text.specs.declared.faults.HistoryFault.{HistoryFault}
use Rattle.orders_text.specs.declared.faults.HistoryFault.TheVariants.{BadLine, TooLong, NoVmLine, Backwards, Overlap, Io}
use Rattle.orders_text.specs.declared.lines.HistoryLine.TheVariants.{Event}

-- ---- a call in one line

pub answered_ok : (n : ℕ) (r q : Read) (call : Call) (t : Timed) → is_some (begun r call.core) ≡ false → t ≡ between n n call
    → q ≡ with_call Lines n r t → event_after n r (Says.Answered call) ≡ Some q
answered_ok n r q call t idle is e =
    ap (λ b. cond b None (Some (with_call Lines n r (between n n call)))) idle ∙ ap Some (sym (e ∙ ap (with_call Lines n r) is))

pub answered_bad : (n : ℕ) (r : Read) (call : Call) → is_some (begun r call.core) ≡ true → Unfit n r (Says.Answered call) (BadLine n)
answered_bad n r call busy = (refl, ap (λ b. cond b None (Some (with_call Lines n r (between n n call)))) busy)

-- ---- a call begins to wait

pub waits_ok : (n : ℕ) (r q : Read) (core : ℕ) (request : Request) → is_some (begun r core) ≡ false
    → q ≡ with_waiting r core (Some (record { line = n; request = request })) → event_after n r (Says.Waits core request) ≡ Some q
waits_ok n r q core request idle e =
    ap (λ b. cond b None (Some (with_waiting r core (Some (record { line = n; request = request }))))) idle ∙ ap Some (sym e)

pub waits_bad : (n : ℕ) (r : Read) (core : ℕ) (request : Request) → is_some (begun r core) ≡ true
    → Unfit n r (Says.Waits core request) (BadLine n)
waits_bad n r core request busy =
    (refl, ap (λ b. cond b None (Some (with_waiting r core (Some (record { line = n; request = request }))))) busy)

-- ---- its reply

pub ends_ok : (n : ℕ) (r m q : Read) (core : ℕ) (reply : Reply) (b : PendingCall) (t : Timed) → begun r core ≡ Some b
    → t ≡ between b.line n (call_to core b.request reply) → m ≡ with_waiting r core None → q ≡ with_call Lines n m t
    → event_after n r (Says.Ends core reply) ≡ Some q
ends_ok n r m q core reply b t is when there e =
    ap (option_map (ended n r core reply)) is
    ∙ ap Some (sym (e ∙ ap (λ x. with_call Lines n x t) there ∙ ap (with_call Lines n (with_waiting r core None)) when))

pub ends_bad : (n : ℕ) (r : Read) (core : ℕ) (reply : Reply) → begun r core ≡ None → Unfit n r (Says.Ends core reply) (BadLine n)
ends_bad n r core reply idle = (refl, ap (option_map (ended n r core reply)) idle)

-- ---- lines that say nothing of calls

pub still_ok : (res : Result Unit HistoryFault) (may : Bool) (n : ℕ) (r q : Read) (core : ℕ) → may ≡ is_some (begun r core)
    → OnOk res ((may ≡ true) × (q ≡ by_lines r)) → OnOk res (event_after n r (Says.StillWaits core) ≡ Some q)
still_ok (Ok u) may n r q core e (yes_it, is) =
    ap (λ b. cond b (Some (by_lines r)) None) (sym e ∙ yes_it) ∙ ap Some (sym is)
still_ok (Err f) may n r q core e h = tt

none_fit : (n : ℕ) (r : Read) (said : Said) (f : HistoryFault) → f ≡ BadLine n → event_after n r said ≡ None → Unfit n r said f
none_fit n r said f e h = subst (λ x. Unfit n r said x) (sym e) (refl, h)

pub still_bad : (res : Result Unit HistoryFault) (may : Bool) (n : ℕ) (r : Read) (core : ℕ) → may ≡ is_some (begun r core)
    → IfErr res (λ f. (may ≡ false) × (f ≡ BadLine n)) → IfErr res (λ f. Unfit n r (Says.StillWaits core) f)
still_bad (Ok u) may n r core e h = tt
still_bad (Err f) may n r core e (no_it, is) =
    none_fit n r (Says.StillWaits core) f is (ap (λ b. cond b (Some (by_lines r)) None) (sym e ∙ no_it))

pub passes_ok : (res : Result Unit HistoryFault) (n : ℕ) (r q : Read) → OnOk res ((true ≡ true) × (q ≡ by_lines r))
    → OnOk res (event_after n r Says.Passes ≡ Some q)
passes_ok (Ok u) n r q h = ap Some (sym h.1)
passes_ok (Err f) n r q h = tt

pub passes_bad : (res : Result Unit HistoryFault) (n : ℕ) (r : Read) → IfErr res (λ f. (true ≡ false) × (f ≡ BadLine n))
    → IfErr res (λ f. Unfit n r Says.Passes f)
passes_bad (Ok u) n r h = tt
passes_bad (Err f) n r h = let wrong : true ≡ false = h.0 in absurd cc

-- ---- any event

pub event_ok : (res : Result Unit HistoryFault) (n : ℕ) (r q : Read) (said : Said) → r.declared.has_space ≡ true → may_event r.clock ≡ true
    → OnOk res (event_after n r said ≡ Some q) → OnOk res (read_after n r (Event said) ≡ Some q)
event_ok (Ok u) n r q said space may h =
    ap (λ b. cond (b && may_event r.clock) (event_after n r said) None) space ∙ ap (λ b. cond b (event_after n r said) None) may ∙ h
event_ok (Err f) n r q said space may h = tt

none_left : (a b : Bool) (o : Option Read) → o ≡ None → cond (a && b) o None ≡ None
none_left true true o e = e
none_left true false o e = refl
none_left false b o e = refl

refused : (n : ℕ) (r : Read) (said : Said) (f : HistoryFault) → r.declared.has_space ≡ true → Unfit n r said f → Refuses n r (Event said) f
refused n r said (BadLine k) space (is, none) = (
  is,
  record {
    refused = none_left r.declared.has_space (may_event r.clock) (event_after n r said) none;
    space = λ needs. space;
    forward = λ h. h;
  },
)
refused n r said (Io NoMemory) space h = tt
refused n r said f space h = absurd h

pub event_err : (res : Result Unit HistoryFault) (n : ℕ) (r : Read) (said : Said) → r.declared.has_space ≡ true
    → IfErr res (λ f. Unfit n r said f) → IfErr res (λ f. Refuses n r (Event said) f)
event_err (Ok u) n r said space h = tt
event_err (Err f) n r said space h = refused n r said f space h

-- a text with stamps has none
pub event_late : (n : ℕ) (r : Read) (said : Said) → r.declared.has_space ≡ true → may_event r.clock ≡ false
    → Refuses n r (Event said) (BadLine n)
event_late n r said space late = (
  refl,
  record {
    refused = go r.declared.has_space (may_event r.clock) late;
    space = λ needs. space;
    forward = λ h. h;
  },
)
  where
    go : (s b : Bool) → b ≡ false → cond (s && b) (event_after n r said) None ≡ None
    go true b e = ap (λ x. cond x (event_after n r said) None) e
    go false b e = refl
