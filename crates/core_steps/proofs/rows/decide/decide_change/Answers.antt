use Rattle.machine_model.proofs.Words.{◌≡◌, ℕ, true, false, Option, None, Some, refl, sym, subst, File, PageRange, Slots, no_page, no_write}
use Rattle.vm_base.specs.declared.info.Back.{Back}
use Rattle.vm_base.specs.declared.info.Back.TheVariants.{Anon, Private, Shared}
use Rattle.vm_base.specs.declared.rights.Prot.{Prot}
use Rattle.vm_base.specs.Apply.{forbids_write, is_read_only, is_read_only_back}
use Rattle.vm_base.specs.Plain.{PageEntry}
use Rattle.frames.specs.Files.{files_of}
use Rattle.vm_calls.specs.declared.decision.Decision.{Decision}
use Rattle.vm_calls.specs.Decisions.{DecidesChange, DecidesProtect}
use Rattle.vm_calls.specs.Decisions.DecidesProtect.{acts}
use Rattle.core_steps.proofs.rows.decide.decide_change.Goals as goal

-- where no file forbids writing, no page is read-only
open_back : (files : ℕ → Option File) (back : Back) → ((n : ℕ) → forbids_write (files n) ≡ false) → is_read_only_back files back ≡ true → ⊥
open_back files Anon free is = absurd cc
open_back files (Shared n k) free is = let no = free n in absurd cc
open_back files (Private n k) free is = absurd cc

open_page : (files : ℕ → Option File) (entry : Option PageEntry) → ((n : ℕ) → forbids_write (files n) ≡ false) → is_read_only files entry ≡ true → ⊥
open_page files None free is = absurd cc
open_page files (Some entry) free is = open_back files entry.back free is

-- so it decides nothing whether writing is asked for
unasked : (files : ℕ → Option File) (s : Slots) (range : PageRange) (less prot : Prot) (d : Decision) → less.write ≡ false
    → ((n : ℕ) → forbids_write (files n) ≡ false) → DecidesProtect files s range less d → DecidesProtect files s range prot d
unasked files s range less prot d none free (no_page absent e) = no_page absent e
unasked files s range less prot d none free (no_write some write found e) = absurd cc
unasked files s range less prot d none free (acts some may act) = acts some (λ _ found. open_page files _ free found.2) act

pub returns : goal.returns
returns g c =
    let files = files_of c.args.objects.now in
    let s = g.M.SlotRead.slots c.args.map.now in
    subst (λ change. DecidesChange files s change c.decide.result) (sym c.in-Protect.is)
    (unasked files s c.in-Protect.range _ c.in-Protect.prot c.decide.result refl (c.are_writable.ensures c.if-are_writable.true) c.decide.ensures.decision)
