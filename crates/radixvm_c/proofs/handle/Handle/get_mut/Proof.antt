-- `get_mut` lends the machine behind the pointer, and the handle follows it. Assumes `Logic`.
use Rattle.machine_model.proofs.Words.{◌≡◌, ℕ, List, [], ◌∷◌, refl, sym, IsSome, ghosts}
use Rattle.std.proofs.raw_atomic.Walks.{proved}
use base.Fraction.{full_share}
use base.Logic.{SProp, ent, sep, id⊢}
use base.Fml.{GName, Fml, ftrue, flft, fsep}
use mir.Syntax.{Fn, named}
use mir.Raw.{raw as bare}
use mir.Val.{Val, vptr}
use seplogic.Ra.Ura.{Ura}
use prog.Wp.{Env}
use types.Logic.{Logic, sem}
use types.Kit.{‵, raw, ◌⊛◌, some, later, at_ret, ◌$◌, ◌∵◌, !, qed, done, move, keep, use1, split, split3, join, fsplit, fsplit3, fjoin, fpack, pick, await}
use types.Kit.{rewrite, suffices, frame, group}
use types.Part.{whole, sub, look_in}
use types.Run.{stop, fld, load, of_opd, first, blocks, exec, returns, enter, addr}
use types.ByLocal.{alloc_all, pass_all, free_all, look_at, get, through, sets, sets_last, env}
use contract.Monad.{fact}
use contract.Running.{tables}
use denote.Exit.{no}
use denote.Memory.{part_at, mem, cell_at, part_of, lone}
use denote.RawPtr.{Ptr, block_ptr, ptr_val}
use denote.Ref.{MutRef, mut_vals, mut_Tells}
use denote.Signature.{plain, mut_ref_to}
use denote.Steps.{nothing, heard}
use denote.Follow.{follows, Part, lends_Part}
use denote.Triple.Walked.{says, Stays, stay_dropped, walk_of, ends_at, Goes-spent_ref}
use Rattle.std.proofs.VecSteps.Shapes.{after}
use Rattle.std.specs.contracts.alloc.Global as heap
use Rattle.radixvm_c.specs.Handles.{with_value}
use Rattle.radixvm_c.proofs.Values.{both, owned, Handled, R, handle_opens, handle_in, held_out}
use Rattle.radixvm_c.specs.contracts.handle.Handle.get_mut as f
use Rattle.radixvm_c.proofs.handle.Handle.get_mut.Statement.{statement}
use Rattle.radixvm_c.proofs.handle.Handle.get_mut.Code as code

abbrev stayed : Stays f.ended.signature.params f.ended.kept
stayed = (stay_dropped (mut_ref_to (0 ∷ []) tt (plain (λ _. Handled))) no, tt)

-- all of the handle but its machine
abbrev Rest : Handled.Denot → ℕ → ℕ → Val → ℕ → ℕ → Fml
Rest h b o hv rb ro = fsep (ghosts.dealloc_token h.alloc (bare (lone R.mir)) (block_ptr b o))
    (fsep (heap.the_row.own_val h.alloc (hv ∷ [])) (cell_at full_share Handled.mir (both (ptr_val h.at) hv ∷ []) rb ro))

module _ {M : Type 1} {𝓤 : Ura M} (𝓛 : Logic 𝓤) where
  back : (h : Handled.Denot) (b o : ℕ) (hv : Val) (rb ro : ℕ) → h.at ≡ block_ptr b o → (w : R.Denot)
      → ent 𝓤 (sep 𝓤 (sem 𝓛 ((mem R).own_at w b o)) (sem 𝓛 (Rest h b o hv rb ro))) (sem 𝓛 ((mem Handled).own_at (with_value h w) rb ro))
  unfolding part_of
  back h b o hv rb ro at_b w =
      qed 𝓛 (‵ (part_at R full_share w b o) ∷ ‵ (Rest h b o hv rb ro) ∷ []) ∵ move ! (1 ∷ []) $ fsplit ! $ move ! (1 ∷ []) $ fsplit ! $
      -- [the allocator; the handle's cell; the token; the machine]
      move ! (3 ∷ 2 ∷ []) $ fjoin ! $ rewrite ! 0 (λ (p : Ptr). ‵ (owned h.alloc p w)) (sym at_b) refl $ move ! (0 ∷ 1 ∷ []) $
      handle_in ! (with_value h w) hv $ move ! (1 ∷ 0 ∷ []) $ fjoin ! $
      fpack ! (List Val) (λ us. fsep (cell_at full_share Handled.mir us rb ro) (Handled.own_val (with_value h w) us)) (both (ptr_val h.at) hv ∷ []) $ done !

pub get_mut_spec : {M : Type 1} → statement M
get_mut_spec 𝓤 𝓛 𝓜 𝓡 wired =
    let c = f.clauses 𝓛 𝓜.mem 𝓡.returns in let W = walk_of 𝓛 f.ended stayed c in let 𝓣 = tables 𝓤 𝓛.H 𝓜 𝓡 𝓡.env in let fn : Fn = code.function in
    proved 𝓛 f.ended stayed c 𝓜 𝓡 (Goes-spent_ref 𝓛 1 (0 ∷ []) tt (plain (λ _. Handled)), tt)
    f.Key.name code.function (code.unfolded 𝓤 𝓛.H 𝓜 𝓡 wired)
    (λ κs. (mut_vals, tt)) (λ κs. (mut_Tells (named 0) κs.0 Handled, tt)) (λ κs qs bounds a _ are.
    let κ = κs.0 in let q = qs.0 in let rb = a.0.ref_ptr.0 in let ro = a.0.ref_ptr.1 in let γ = a.0.ghost_name in let h = a.0.now in let vs = mut_vals a.0 in
    let y : W.Ghost = ((κs, qs, bounds, a, (vs, tt)), tt) in let Post : Val → SProp 𝓤 = W.post y in
    qed 𝓛 (((‵ (flft κ q) ⊛ ‵ ftrue) ⊛ ‵ ((MutRef (named 0) κ Handled).own_val a.0 vs) ⊛ ‵ ftrue) ∷ raw (fact 𝓤 (IsSome h.value)) ∷ []) ∵
    move ! (1 ∷ []) $ heard ! (IsSome h.value) (λ some_held.
    split ! $ split ! $ move ! (2 ∷ []) $ split ! $ keep ! (0 ∷ 2 ∷ []) $
    enter ! 𝓣.C 𝓣.Λ fn vs Post $ alloc_all ! (λ l. pass_all ! refl ((tt, tt), tt) $
    let Ev : Env 𝓤 𝓛.H = env fn.locals l in
    fsplit3 ! $ move ! (1 ∷ 2 ∷ 3 ∷ []) $ handle_opens ! tt h rb ro (λ hv fits. held_out ! h.alloc h.at h.value some_held (λ b o x e ev.
    -- [the machine with its token; the allocator; the handle's cell; the open borrow, in three entries]
    rewrite ! 2 (λ (p : Ptr). ‵ (cell_at full_share Handled.mir (both (ptr_val p) hv ∷ []) rb ro)) e refl $
    first ! $ blocks ! $
    sets ! (of_opd ! (load ! (through ! refl (fld ! refl (stop !))) (look_in ! 2 (sub ! 0 refl (whole !))))) refl (tt, tt) $
    sets ! (of_opd ! (get ! refl)) refl (tt, tt) $
    sets_last ! (addr ! (through ! refl (stop !))) refl (tt, tt) $
    exec ! 𝓣.C 𝓣.Λ Ev (after 1 fn.body) (at_ret Ev Post) $
    sets ! (of_opd ! (get ! refl)) refl (tt, tt) $
    rewrite ! 2 (λ (p : Ptr). ‵ (cell_at full_share Handled.mir (both (ptr_val p) hv ∷ []) rb ro)) (sym e) refl $
    fsplit ! $ move ! (2 ∷ 3 ∷ []) $ fjoin ! $ move ! (2 ∷ 0 ∷ []) $ fjoin ! $ move ! (2 ∷ 3 ∷ 4 ∷ 1 ∷ 0 ∷ []) $ group ! 5 $
    let rest : SProp 𝓤 = sem 𝓛 (Rest h b o hv rb ro) in let again = back 𝓛 h b o hv rb ro e in
    use1 𝓛 (later (some (λ (γ' : GName). raw (Part 𝓛 Handled R (with_value h) (named 0) κ q rb ro b o γ rest again x γ'))))
    (lends_Part 𝓛 Handled R (with_value h) (named 0) κ q rb ro b o γ rest again (Handled.coded.code h) (Handled.coded.code h) x) $ await ! tt $ pick ! (λ γ'.
    returns ! (look_at ! 0 refl) $ free_all ! refl $ keep ! (0 ∷ []) $
    use1 𝓛 (‵ ((MutRef (named 0) κ R).own_val (record { ref_ptr = (b, o); ghost_name = γ'; now = x })
    (vptr b o ∷ [])) ⊛ ‵ (flft κ q) ⊛ ‵ (follows Handled R γ γ' (with_value h))) (id⊢ 𝓤 _) $ split3 ! $
    suffices ! _ (ends_at 𝓛 f.ended stayed c y (vptr b o) (record { ref_ptr = (b, o); ghost_name = γ'; now = x }) (tt, tt) (tt, tt)) $
    nothing ! $ nothing ! $ fjoin ! $ join ! $ nothing ! $ move ! (2 ∷ 0 ∷ []) $ join ! $ join ! $ frame ! $ says ! ev $ done !))))))
