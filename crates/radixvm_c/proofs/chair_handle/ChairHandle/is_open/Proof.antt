-- `is_open` compares the pointer with null. Assumes `Logic`.
use Rattle.std.proofs.Common.{[], ◌∷◌, refl}
use mathlib.Core.Bool.{Bool, not}
use Rattle.std.proofs.raw_atomic.Walks.{proved}
use base.Logic.{SProp}
use base.Fml.{ftrue, flft}
use mir.Syntax.{Fn, named}
use mir.Val.{Val, vbool}
use types.Kit.{‵, ◌⊛◌, ◌$◌, ◌∵◌, !, qed, done, move, keep, split, join, fsplit3, feq_i, suffices, frame, group}
use types.Part.{whole, sub, look_in}
use types.Run.{stop, fld, load, of_opd, bin, un, lit, returns, enter}
use types.ByLocal.{is}
use types.ByLocal.{alloc_all, pass_all, free_all, look_at, get, through, sets}
use contract.Running.{tables}
use denote.Ref.{MutRef, mut_vals, mut_Tells}
use denote.Signature.{plain}
use denote.Steps.{nothing}
use denote.Triple.Walked.{Stays, stay_ref, walk_of, ends_at, Goes-ref}
use Rattle.core.proofs.mem.Facts.{says_two}
use Rattle.radixvm_c.proofs.ChairValues.{Handled, ptr_good, handle_opens, handle_closes, held_tells}
use Rattle.radixvm_c.specs.contracts.chair_handle.ChairHandle.is_open as f
use Rattle.radixvm_c.proofs.chair_handle.ChairHandle.is_open.Statement.{statement}
use Rattle.radixvm_c.proofs.chair_handle.ChairHandle.is_open.Code as code

abbrev stayed : Stays f.ended.signature.params f.ended.kept
stayed = (stay_ref (0 ∷ []) tt (plain (λ _. Handled)), tt)

pub is_open_spec : {M : Type 1} → statement M
is_open_spec 𝓤 𝓛 𝓜 𝓡 wired =
    let c = f.clauses 𝓛 𝓜.mem 𝓡.returns in let W = walk_of 𝓛 f.ended stayed c in let 𝓣 = tables 𝓤 𝓛.H 𝓜 𝓡 𝓡.env in let fn : Fn = code.function in
    proved 𝓛 f.ended stayed c 𝓜 𝓡 (Goes-ref 𝓛 1 0 tt (plain (λ _. Handled)), tt)
    f.Key.name code.function (code.unfolded 𝓤 𝓛.H 𝓜 𝓡 wired)
    (λ κs. (mut_vals, tt)) (λ κs. (mut_Tells (named 0) κs.0 Handled, tt)) (λ κs qs bounds a _ are.
    let κ = κs.0 in let q = qs.0 in let rb = a.0.ref_ptr.0 in let ro = a.0.ref_ptr.1 in let h = a.0.now in let vs = mut_vals a.0 in
    let y : W.Ghost = ((κs, qs, bounds, a, (vs, tt)), tt) in let Post : Val → SProp 𝓤 = W.post y in
    qed 𝓛 (((‵ (flft κ q) ⊛ ‵ ftrue) ⊛ ‵ ((MutRef (named 0) κ Handled).own_val a.0 vs) ⊛ ‵ ftrue) ∷ ‵ ftrue ∷ []) ∵
    split ! $ split ! $ move ! (2 ∷ []) $ split ! $ keep ! (0 ∷ 2 ∷ []) $
    enter ! 𝓣.C 𝓣.Λ fn vs Post $ alloc_all ! (λ l. pass_all ! refl ((tt, tt), tt) $
    fsplit3 ! $ move ! (1 ∷ 2 ∷ 3 ∷ []) $ handle_opens ! tt h rb ro (λ hv fits. held_tells ! h.alloc h.at h.value (λ told.
    let there : Bool = not told.0 in
    -- [what the handle owns; its allocator; its cell; the open borrow, in three entries]
    sets ! (of_opd ! (load ! (through ! refl (fld ! refl (stop !))) (look_in ! 2 (sub ! 0 refl (whole !))))) refl (ptr_good h.at) $
    sets ! (is ! (bin ! (get ! refl) (lit ! tt) told.3) told.1) refl (tt, tt) $
    sets ! (un ! (get ! refl) tt) refl (tt, tt) $
    handle_closes ! tt h hv rb ro $
    -- [two parts of self; the token; self's first part]
    returns ! (look_at ! 0 refl) $ free_all ! refl $ move ! (3 ∷ []) $
    suffices ! _ (ends_at 𝓛 f.ended stayed c y (vbool there) there (h, tt) (tt, tt)) $ says_two ! (told.2, refl) $
    group ! 3 $ nothing ! $ move ! (1 ∷ 0 ∷ []) $ join ! $ nothing ! $ move ! (2 ∷ 0 ∷ []) $ join ! $ frame ! $ frame ! $
    feq_i ! _ (vbool there ∷ []) _ refl $ done !))))
