use Rattle.std.proofs.Common.{◌≡◌, ◌==◌, ◌∙◌, sym, Some, false}
use Rattle.std.specs.List.{position}
use Rattle.std.proofs.lemmas.List.Quantifiers.{position-Some}
use Rattle.mmu.specs.declared.tlb.TlbEntry.{TlbEntry}
use Rattle.state_seen.proofs.Cached.{found, not_found}
use Rattle.state_seen.proofs.tlb_lists.find.Goals as goal

pub bounds-tlb-place : goal.bounds-tlb-place
bounds-tlb-place c =
    let at : position (λ (e : TlbEntry). e.page == c.args.page) c.args.tlb.now ≡ Some c.in-Some.place = sym c.place_of.ensures ∙ c.in-Some.is in
    (position-Some (λ (e : TlbEntry). e.page == c.args.page) c.args.tlb.now c.in-Some.place
    (record { page = 0; translation = record { frame = 0; write = false; exec = false } }) at).0

pub returns-in-None : goal.returns-in-None
returns-in-None c = sym (not_found c.args.tlb.now c.args.page (sym c.place_of.ensures ∙ c.in-None.is))

pub returns-in-Some : goal.returns-in-Some
returns-in-Some c = sym (found c.args.tlb.now c.args.page c.in-Some.place
    (record { page = 0; translation = record { frame = 0; write = false; exec = false } }) (sym c.place_of.ensures ∙ c.in-Some.is))
