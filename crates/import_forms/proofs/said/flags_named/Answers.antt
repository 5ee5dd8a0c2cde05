use Rattle.std.proofs.Common.{◌≡◌, ℕ, Bool, true, List, None, sym, ap, ◌∙◌}
use Rattle.std.specs.Prelude.{codes}
use Rattle.trace_text.specs.Number.{number_of}
use Rattle.vm_base.specs.declared.requests.Flags.{Flags}
use Rattle.import_forms.specs.Said.{flags_in}
use Rattle.import_forms.specs.Tokens.{occurs}
use Rattle.import_forms.proofs.said.flags_named.Goals as goal

abbrev flags : Bool → Bool → Bool → Flags
flags private shared anon = record { private = private; shared = shared; fixed = true; anon = anon }

pub returns-in-None : goal.returns-in-None
returns-in-None c =
    let token = c.args.token.now in
    let none : number_of token ≡ None = sym c.read_number.ensures ∙ c.in-None.is in
    let private = c.has.ensures ∙ ap (λ l. occurs l token) c.as_slice.ensures in
    let shared = c.has-in-None.ensures ∙ ap (λ l. occurs l token) c.as_slice-in-None.ensures in
    let anon = c.has-in-None-2.ensures ∙ ap (λ l. occurs l token) c.as_slice-in-None-2.ensures in
    let named = λ (n : List ℕ). occurs n token in
    ap (λ p. flags p c.has-in-None.result c.has-in-None-2.result) private
    ∙ ap (λ s. flags (named (codes "MAP_PRIVATE")) s c.has-in-None-2.result) shared
    ∙ ap (flags (named (codes "MAP_PRIVATE")) (named (codes "MAP_SHARED"))) anon
    ∙ ap (flags_in token) (sym none)
