-- What is made of what a call says.
use Rattle.std.proofs.Common.{◌≡◌, ℕ, ◌+◌, Bool, true, false, List, Option, None, Some, refl, sym, ap, ◌∙◌, suc, arith}
use Rattle.std.specs.Prelude.{if◌then◌else◌, option_map}
use Rattle.import_forms.specs.Said.{file_named, said_of}
use Rattle.import_forms.specs.Speech.{Spoken}
use Rattle.import_forms.specs.declared.said.Said.{Said}
use Rattle.import_forms.specs.declared.said.Said.TheVariants as Says
use Rattle.vm_base.specs.declared.rights.Prot.{Prot}
use Rattle.vm_base.specs.declared.requests.Flags.{Flags}
use Rattle.vm_base.specs.declared.requests.Request.{Request}
use Rattle.vm_base.specs.declared.requests.Request.TheVariants as Asks
use Rattle.import_log.specs.Imported.{call_taken, imported, counted_with, line_taken}
use Rattle.import_lines.specs.Lines.{name_in, told_by, told_of}
use Rattle.import_log.specs.Programs.{begins, program_in}
use Rattle.import_lines.specs.Quotes.{quoted}
use Rattle.import_steps.specs.Taking.{SoFar, after_said}
use Rattle.import_steps.specs.declared.taking.Fate.TheVariants.{Left}
use Rattle.import_steps.specs.declared.taking.Reason.{Reason}
use Rattle.import_steps.specs.Counts.{counted}
use Rattle.import_steps.specs.declared.counts.LineCounts.{LineCounts}
use Rattle.import_lines.specs.declared.made.Making.{Making}
use Rattle.import_steps.specs.declared.taking.Fate.{Fate}

begun_named : (said : Said) (text : List ℕ) → (if begins said then Some (quoted text) else None) ≡ (if begins said then Some (name_in said text) else None)
begun_named (Says.Asks request) text = refl
begun_named (Says.Breaks to) text = refl
begun_named (Says.Moves from old to new stays) text = refl
begun_named (Says.Makes thread shares joins) text = refl
begun_named Says.Begins text = refl
begun_named (Says.Keyed request) text = refl
begun_named (Says.Sizes number len) text = refl
begun_named (Says.Attaches number addr prot) text = refl
begun_named (Says.Detaches addr) text = refl
begun_named (Says.Clears addr len) text = refl
begun_named (Says.Loses lost) text = refl
begun_named Says.Ends text = refl
begun_named Says.Fails text = refl
begun_named Says.Unread text = refl
begun_named Says.Other text = refl

-- the program that begins
pub program_told : (call : Option (List ℕ)) (said : Said) (name : List ℕ) → told_by (Some said) name ≡ option_map told_of call
    → program_in call ≡ (if begins said then Some name else None)
program_told None said name h = absurd cc
program_told (Some text) said name h =
    let e : (said, name) ≡ told_of text = cc in
    begun_named (said_of text) text ∙ ap (λ (p : Said × List ℕ). if begins p.0 then Some p.1 else None) (sym e)

pub program_none : (call : Option (List ℕ)) (name : List ℕ) → told_by None name ≡ option_map told_of call → program_in call ≡ None
program_none None name h = refl
program_none (Some text) name h = absurd cc

mapped_same : (start s : SoFar) (thread : ℕ) (text : List ℕ) (addr len : ℕ) (prot : Prot) (private shared fixed anon : Bool) (file off : ℕ)
    → let flags : Flags = record { private = private; shared = shared; fixed = fixed; anon = anon } in
    let said = Says.Asks (Asks.Mmap addr len prot flags file off) in
    after_said start s thread (file_named text) said ≡ after_said start s thread (name_in said text) said
mapped_same start s thread text addr len prot private shared fixed true file off = refl
mapped_same start s thread text addr len prot private shared fixed false file off = refl

asked_same : (start s : SoFar) (thread : ℕ) (text : List ℕ) (request : Request)
    → after_said start s thread (file_named text) (Says.Asks request) ≡ after_said start s thread (name_in (Says.Asks request) text) (Says.Asks request)
asked_same start s thread text (Asks.Mmap addr len prot flags file off) =
    mapped_same start s thread text addr len prot flags.private flags.shared flags.fixed flags.anon file off
asked_same start s thread text (Asks.Munmap addr len) = refl
asked_same start s thread text (Asks.Mprotect addr len prot) = refl
asked_same start s thread text (Asks.Load addr) = refl
asked_same start s thread text (Asks.Store addr value) = refl
asked_same start s thread text (Asks.Fetch addr) = refl

taken_same : (start s : SoFar) (thread : ℕ) (text : List ℕ) (said : Said)
    → after_said start s thread (file_named text) said ≡ after_said start s thread (name_in said text) said
taken_same start s thread text (Says.Asks request) = asked_same start s thread text request
taken_same start s thread text (Says.Breaks to) = refl
taken_same start s thread text (Says.Moves from old to new stays) = refl
taken_same start s thread text (Says.Makes child shares joins) = refl
taken_same start s thread text Says.Begins = refl
taken_same start s thread text (Says.Keyed request) = refl
taken_same start s thread text (Says.Sizes number len) = refl
taken_same start s thread text (Says.Attaches number addr prot) = refl
taken_same start s thread text (Says.Detaches addr) = refl
taken_same start s thread text (Says.Clears addr len) = refl
taken_same start s thread text (Says.Loses lost) = refl
taken_same start s thread text Says.Ends = refl
taken_same start s thread text Says.Fails = refl
taken_same start s thread text Says.Unread = refl
taken_same start s thread text Says.Other = refl

-- what is taken of a call
pub taken_told : (start s : SoFar) (thread : ℕ) (why : Reason) (call : Option (List ℕ)) (said : Said) (name : List ℕ)
    → told_by (Some said) name ≡ option_map told_of call → after_said start s thread name said ≡ call_taken start s thread why call
taken_told start s thread why None said name h = absurd cc
taken_told start s thread why (Some text) said name h =
    let e : (said, name) ≡ told_of text = cc in
    ap (λ (p : Said × List ℕ). after_said start s thread p.1 p.0) e ∙ sym (taken_same start s thread text (said_of text))

pub taken_none : (start s : SoFar) (thread : ℕ) (why : Reason) (call : Option (List ℕ)) (name : List ℕ)
    → told_by None name ≡ option_map told_of call → (s, Left why) ≡ call_taken start s thread why call
taken_none start s thread why None name h = refl
taken_none start s thread why (Some text) name h = absurd cc

-- one more line was taken
pub taken_more : (start : SoFar) (all : List Spoken) (made : List Making) (chosen n : ℕ) (s t : SoFar) (c d : LineCounts) (fate : Fate)
    → (s, c) ≡ imported start all made chosen n → (t, fate) ≡ line_taken start s all made chosen n → d ≡ counted c fate
    → (t, d) ≡ imported start all made chosen (n + 1)
taken_more start all made chosen n s t c d fate e h w =
    let one : n + 1 ≡ suc n = omega arith in
    rw one (ap (λ x. (t, x)) w ∙ ap (λ (a : SoFar × Fate). (a.0, counted c a.1)) h
    ∙ ap (λ (b : SoFar × LineCounts). counted_with b.1 (line_taken start b.0 all made chosen n)) e)
