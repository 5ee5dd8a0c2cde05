-- A line tells one call with its times.
use Rattle.std.proofs.Common.{◌≡◌, ℕ, Bool, true, false, List, Option, None, Some, IfNone, IfSome, ap, sym, ◌∙◌}
use Rattle.trace_text.specs.Halves.{AreHalves}
use Rattle.trace_text.specs.Line.{are_printable}
use Rattle.trace_text.specs.Words.{words_of}
use Rattle.trace_text.proofs.HalvesLemmas.{halves_one}
use Rattle.audit_text.specs.Grammar.{Tells as AuditTells}
use Rattle.audit_text.specs.Reading.{declaration_of}
use Rattle.audit_text.proofs.OneReading.{lines_say_one}
use Rattle.audit_text.specs.declared.reading.Said.{Said}
use Rattle.orders.specs.declared.history.Timed.{Timed}
use Rattle.orders_text.specs.Lines.{Means, Tells, TellsTimed, is_event, timed_of}
use Rattle.orders_text.specs.declared.lines.HistoryLine.{HistoryLine}
use Rattle.orders_text.specs.declared.lines.HistoryLine.TheVariants.{Part, Timed as TimedCall, Event}

pub timed_some : (r : Option Timed) (bytes front text : List ℕ) → AreHalves bytes front text → r ≡ timed_of (words_of front) text
    → IfSome r (λ c. TellsTimed c bytes)
timed_some None bytes front text h e = tt
timed_some (Some c) bytes front text h e = record { front = front; text = text; halves = h; is = sym e }

pub timed_none : (r : Option Timed) (bytes front text : List ℕ) → AreHalves bytes front text → r ≡ timed_of (words_of front) text
    → IfNone r ((c : Timed) → TellsTimed c bytes → ⊥)
timed_none None bytes front text h e = λ c t.
    let (f, b) = halves_one bytes front text t.front t.text h t.halves in
    let same : timed_of (words_of front) text ≡ timed_of (words_of t.front) t.text =
    ap (λ l. timed_of (words_of l) text) f ∙ ap (λ l. timed_of (words_of t.front) l) b in
    let wrong : None ≡ Some c = e ∙ same ∙ t.is in absurd cc
timed_none (Some c) bytes front text h e = tt

-- no call, and what the line says else
pub part_some : (o : Option Said) (said : Said) (bytes : List ℕ) → are_printable bytes ≡ true → o ≡ declaration_of bytes → o ≡ Some said
    → Tells (Part said) bytes
part_some o said bytes p e is = (p, sym e ∙ is)

pub told_none : (o : Option Said) (bytes : List ℕ) → ((c : Timed) → TellsTimed c bytes → ⊥) → o ≡ declaration_of bytes → o ≡ None
    → ((said : Said) → Tells (Event said) bytes → ⊥) → (told : HistoryLine) → Tells told bytes → ⊥
told_none o bytes n e is none (TimedCall c) t = n c t.1
told_none o bytes n e is none (Part said) t = let wrong : None ≡ Some said = sym is ∙ (e ∙ t.1) in absurd cc
told_none o bytes n e is none (Event said) t = none said t

-- an event that the line says
pub one_event : (bytes : List ℕ) (said : Said) → AuditTells said bytes → is_event said ≡ true → Tells (Event said) bytes
one_event bytes said a is = (a.0, (a.1, is))

-- no event, where the line says nothing, or something else
pub no_event : (bytes : List ℕ) → ((said : Said) → AuditTells said bytes → ⊥) → (said : Said) → Tells (Event said) bytes → ⊥
no_event bytes none said t = none said (t.0, t.1.0)

pub other_event : (bytes : List ℕ) (said : Said) → AuditTells said bytes → is_event said ≡ false → (other : Said) → Tells (Event other) bytes → ⊥
other_event bytes said a not_one other t =
    let same : other ≡ said = lines_say_one bytes other said (t.0, t.1.0) a in
    let wrong : true ≡ false = sym t.1.1 ∙ (ap is_event same ∙ not_one) in absurd cc

pub dark_none : (bytes : List ℕ) → are_printable bytes ≡ false → (told : HistoryLine) → Tells told bytes → ⊥
dark_none bytes dark told t = let wrong : false ≡ true = sym dark ∙ t.0 in absurd cc
