-- How an audit begins.
use Rattle.std.proofs.Common.{◌≡◌, ℕ, true, cond, List, Some, None, refl, sym, ap, ◌∙◌, subst}
use Rattle.trace_io.specs.declared.fault.IoFault.{IoFault}
use Rattle.trace_io.specs.declared.fault.IoFault.TheVariants.{NoMemory}
use Rattle.vm_base.specs.Plain.{Plain}
use Rattle.audit_text.specs.Heard.{Declared, Front, Heard, behind, item_told, heard_after, nothing}
use Rattle.audit_text.specs.Legal.{first_map}
use Rattle.audit_text.specs.Steps.{EndsFront, IsCall}
use Rattle.audit_text.specs.declared.allowing.Terms.{Terms}
use Rattle.audit_text.specs.declared.input.AuditFault.{AuditFault}
use Rattle.audit_text.specs.declared.input.AuditFault.TheVariants.{Io}
use Rattle.audit_text.specs.declared.reading.Said.{Said}

-- ---- the first call

pub call_begins : (terms : Terms) (lines more : List (List ℕ)) (d : Declared) (h : Heard) (t : Plain) (said : Said) (n : ℕ)
    → EndsFront lines d (Some said) n more → d.has_space ≡ true → h ≡ nothing → t ≡ first_map d → IsCall terms lines d h t said n more
call_begins terms lines more d h t said n ends space new first =
    subst (λ (x : Heard). IsCall terms lines d x t said n more) (sym new)
    (subst (λ (x : Plain). IsCall terms lines d nothing x said n more) (sym first) (record {
      stage = Front d;
      at = ends.0;
      space = space;
      after = ends.1 ∙ ap (λ b. cond b (behind d (heard_after nothing said)) None) space;
      told = ap (λ b. cond b (item_told nothing said) None) space;
      declared = refl;
      heard = refl;
      follows = refl;
    }))

-- ---- what is told of reads and writes

-- which one it is of those that reading and writing have in common
pub io_of : AuditFault → IoFault
io_of (Io f) = f
io_of f = NoMemory

pub io_back : (f : IoFault) → io_of (Io f) ≡ f
unfolding io_of
io_back f = refl
