-- `into_loose` takes the handle apart. Assumes `Logic`.
use Rattle.machine_model.proofs.Words.{◌≡◌, List, [], ◌∷◌, ◌++◌, refl, sym, ap, ◌∙◌, subst, IsSome, proved_at, leaves, ghosts}
use Rattle.std.specs.Prelude.{Some}
use mir.Syntax.{Fn}
use mir.Val.{Val, vptr}
use base.Logic.{SProp, ent, emp, id⊢}
use prog.Wp.{WpFn}
use types.Kit.{‵, raw, ◌⊛◌, ◌$◌, ◌∵◌, !, qed, by, move, keep, split, fsplit, fjoin, suffices, use0}
use types.Run.{stop, fld, of_opd, no_more, and_then, returns, enter}
use types.ByLocal.{alloc_all, pass_all, free_all, look_at, get, get_in, sets}
use types.Part.{agg, sub, whole}
use contract.Monad.{fact, fact_i}
use contract.Running.{tables}
use denote.Exit.{yes}
use denote.RattleType.{RattleType, owns}
use denote.RawPtr.{block_ptr, ptr_val}
use denote.Signature.{types_at, plain}
use denote.Steps.{nothing, heard}
use denote.Triple.Entry.{alive}
use denote.Triple.Walked.{Stays, stay_dropped, walk_of}
use Rattle.core.proofs.alloc.Calls.{Goes-blank}
use Rattle.std.specs.contracts.alloc.Global as heap
use Rattle.std.proofs.alloc.Global.TheLaws as heap_laws
use Rattle.radixvm_c.proofs.Values.{both, loose_good, loose_in}
use Rattle.radixvm_c.proofs.ChairValues.{Handled, R, handle_out, held_out}
use Rattle.radixvm_c.specs.contracts.chair_handle.ChairHandle.into_loose.{ended, clauses}
use Rattle.radixvm_c.specs.contracts.chair_handle.ChairHandle.into_loose.Key.{name as #self}
use Rattle.radixvm_c.proofs.chair_handle.ChairHandle.into_loose.Statement.{statement}
use Rattle.radixvm_c.proofs.chair_handle.ChairHandle.into_loose.Code as code

pub into_loose_spec : {M : Type 1} → statement M
into_loose_spec 𝓤 𝓛 𝓜 𝓡 wired =
    let H = 𝓛.H in let 𝓣 = tables 𝓤 H 𝓜 𝓡 𝓡.env in let Z : RattleType = heap.the_row in let LZ = heap_laws.the_row_laws in let En = ended in
    let c = clauses 𝓛 𝓜.mem 𝓡.returns in
    let fn : Fn = code.function in let hs : Stays En.signature.params En.kept = (stay_dropped (plain (λ _. Handled)) yes, tt) in
    proved_at 𝓛 En hs c 𝓜 𝓡 (Goes-blank 𝓛 0 (plain (λ _. Handled)) yes (λ κs x f. tt), tt) #self fn (code.unfolded 𝓤 H 𝓜 𝓡 wired) (λ z are.
    let v = z.0.3.0 in let Post : Val → SProp 𝓤 = (walk_of 𝓛 En hs c).post z in let Run : List Val → SProp 𝓤 = λ ws. WpFn 𝓤 H 𝓣.C 𝓣.Λ fn ws Post in
    qed 𝓛 ((raw (alive 𝓛 En.signature z.0.0 z.0.1) ⊛ ‵ (owns (types_at En.signature.params z.0.0) z.0.3 z.0.4)) ∷ raw (fact 𝓤 (IsSome v.value)) ∷ []) ∵
    move ! (1 ∷ []) $ heard ! (IsSome v.value) (λ is. split ! $ move ! (1 ∷ []) $ fsplit ! $
    handle_out ! v z.0.4.0 (λ h ws fits. held_out ! v.alloc v.at v.value is (λ b o x e ev.
    let w : Val = both (vptr b o) h in let typed = loose_good R Z LZ ghosts b o h fits in
    let word : z.0.4.0 ≡ w ∷ [] = ws ∙ ap (λ p. both (ptr_val p) h ∷ []) e in
    suffices ! (Run (w ∷ [])) (subst (λ (us : List Val). ent 𝓤 (Run (w ∷ [])) (Run us)) (sym (λ i. word i ++ [])) (id⊢ 𝓤 (Run (w ∷ [])))) $
    enter ! 𝓣.C 𝓣.Λ fn (w ∷ []) Post $ alloc_all ! (λ l. pass_all ! refl (typed, tt) $
    sets ! (of_opd ! (get_in ! (fld ! refl (stop !)) (sub ! 0 refl (whole !)))) refl (tt, tt) $
    sets ! (of_opd ! (get_in ! (fld ! refl (stop !)) (sub ! 1 refl (whole !)))) refl fits $
    sets ! (of_opd ! (get ! refl)) refl (tt, tt) $ sets ! (agg ! (and_then ! (get ! refl) (and_then ! (get ! refl) (no_more !)))) refl typed $
    loose_in R Z LZ ghosts ! b o h v.alloc x $
    use0 𝓛 (raw (fact 𝓤 (v.value ≡ Some x))) (fact_i 𝓤 (v.value ≡ Some x) (emp 𝓤) ev) $ nothing ! $ nothing ! $ fjoin ! $
    returns ! (look_at ! 0 refl) $ free_all ! refl $ keep ! (4 ∷ 0 ∷ 2 ∷ 1 ∷ []) $
    by ! (leaves 𝓛 En hs c z w (record { at = block_ptr b o; alloc = v.alloc; value = x }) (tt, tt) (tt, tt)))))))
