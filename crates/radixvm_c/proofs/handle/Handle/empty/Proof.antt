-- `empty` makes a handle without a machine. Assumes `Logic`.
use Rattle.machine_model.proofs.Words.{◌≡◌, List, [], ◌∷◌, ◌++◌, refl, sym, subst, proved_at, leaves}
use Rattle.std.specs.Prelude.{Option, None}
use mir.Syntax.{Fn}
use mir.Val.{Val}
use base.Logic.{SProp, ent, emp, id⊢}
use prog.Wp.{WpFn}
use types.Kit.{‵, raw, ◌⊛◌, ◌$◌, ◌∵◌, !, qed, by, move, keep, drop, split, fsplit, fjoin, feq_i, suffices, use0}
use types.Run.{lit, no_more, and_then, returns, enter}
use types.ByLocal.{alloc_all, pass_all, free_all, look_at, get, sets}
use types.Part.{agg}
use contract.Monad.{fact, fact_i}
use contract.Running.{tables}
use denote.Exit.{yes}
use denote.RattleType.{RattleType, owns}
use denote.RawPtr.{Ptr, null_ptr, ptr_val}
use denote.Signature.{types_at, plain}
use denote.Steps.{nothing}
use denote.Triple.Entry.{alive}
use denote.Triple.Walked.{Stays, stay_dropped, walk_of, Goes-dropped}
use Rattle.core.proofs.alloc.Calls.{handle_tells}
use Rattle.std.specs.contracts.alloc.Global as heap
use Rattle.radixvm_c.proofs.Values.{both, R, handled_al, handled_good, handle_in}
use Rattle.radixvm_c.specs.contracts.handle.Handle.empty.{ended, clauses}
use Rattle.radixvm_c.specs.contracts.handle.Handle.empty.Key.{name as #self}
use Rattle.radixvm_c.proofs.handle.Handle.empty.Statement.{statement}
use Rattle.radixvm_c.proofs.handle.Handle.empty.Code as code

abbrev nothing_held : Option R.Denot
nothing_held = None

pub empty_spec : {M : Type 1} → statement M
empty_spec 𝓤 𝓛 𝓜 𝓡 wired =
    let H = 𝓛.H in let 𝓣 = tables 𝓤 H 𝓜 𝓡 𝓡.env in let Z : RattleType = heap.the_row in let En = ended in let c = clauses 𝓛 𝓜.mem 𝓡.returns in
    let fn : Fn = code.function in let hs : Stays En.signature.params En.kept = (stay_dropped (plain (λ _. Z)) yes, tt) in
    proved_at 𝓛 En hs c 𝓜 𝓡 (Goes-dropped 𝓛 0 (plain (λ _. Z)) yes (λ κs x f. refl), tt) #self fn (code.unfolded 𝓤 H 𝓜 𝓡 wired) (λ z are.
    let a = z.0.3.0 in let Post : Val → SProp 𝓤 = (walk_of 𝓛 En hs c).post z in let Run : List Val → SProp 𝓤 = λ ws. WpFn 𝓤 H 𝓣.C 𝓣.Λ fn ws Post in
    qed 𝓛 ((raw (alive 𝓛 En.signature z.0.0 z.0.1) ⊛ ‵ (owns (types_at En.signature.params z.0.0) z.0.3 z.0.4)) ∷ raw ((c z.0.0 z.0.3).requires z.1) ∷ []) ∵
    move ! (1 ∷ []) $ drop ! $ split ! $ move ! (1 ∷ []) $ fsplit ! $ handle_tells handled_al ! a z.0.4.0 (λ h ws fits.
    let w : Val = both (ptr_val null_ptr) h in
    suffices ! (Run (h ∷ [])) (subst (λ (us : List Val). ent 𝓤 (Run (h ∷ [])) (Run us)) (sym (λ i. ws i ++ [])) (id⊢ 𝓤 (Run (h ∷ [])))) $
    enter ! 𝓣.C 𝓣.Λ fn (h ∷ []) Post $ alloc_all ! (λ l. pass_all ! refl (fits, tt) $
    sets ! (agg ! (and_then ! (lit ! tt) (and_then ! (get ! refl) (no_more !)))) refl (handled_good null_ptr h fits) $
    feq_i ! Ptr null_ptr null_ptr refl $ handle_in ! (record { at = null_ptr; alloc = a; value = None }) h $
    use0 𝓛 (raw (fact 𝓤 (nothing_held ≡ None))) (fact_i 𝓤 (nothing_held ≡ None) (emp 𝓤) refl) $ nothing ! $ nothing ! $ fjoin ! $
    returns ! (look_at ! 0 refl) $ free_all ! refl $ keep ! (4 ∷ 0 ∷ 2 ∷ 1 ∷ []) $
    by ! (leaves 𝓛 En hs c z w (record { at = null_ptr; alloc = a; value = None }) (tt, tt) (tt, tt)))))
