-- The machine values of a `Loose` and of a `Handle`. Assumes `Logic`.
use Rattle.machine_model.proofs.Words.{◌≡◌, ℕ, List, [], ◌∷◌, ◌++◌, refl, sym, subst, is_some, IsSome, ghosts}
use Rattle.std.proofs.Common.{lit<}
use Rattle.std.specs.Prelude.{Option, None, Some}
use mathlib.Core.Bool.{Bool, true, false, ◌&&◌, not}
use lib.Dec.{T}
use seplogic.Ra.Ura.{Ura}
use base.Fraction.{full_share}
use base.Stored.{Gv}
use base.Fml.{Lft, GName, Share, Fml, feq, fobs, fauth, fbor, fobor, flft}
use mir.Syntax.{impl, tnil, dnil, ty_ptr, ptr_eq}
use mir.Raw.{raw as bare}
use mir.Val.{Val, vptr, vstruct, vcons, vnil, vbool, vnull, of_list, has_ty, WT, op2_val, ptr_eq_ok}
use base.Logic.{ent, emp, via, never, fst∗, snd∗, guard_i}
use types.Logic.{Logic, sem}
use types.SemTy.{Body as Borrowed}
use types.Kit.{Item, Goal, Seq, Step, Soaks, step, ‵, raw, given, ◌$◌, ◌∵◌, !, qed, done, move, drop, fsplit, fjoin, fpick, fpack, feq_i, feq_l, use0, use1}
use types.Kit.{learn, rewrite}
use contract.Monad.{fact, fact_i, fact_use, fact_mono}
use denote.RattleType.{RattleType, Valss}
use denote.Builtin.{RawPtr}
use denote.Memory.{lone, mem, cell_at}
use denote.RawPtr.{Ptr, block_ptr, null_ptr, ptr_val, in_a_block, Testable, tests_null}
use denote.Steps.{nothing, opens, closes}
use denote.Param.{layout}
use denote.Param.Laws.{Laws}
use denote.Struct.Struct.{within}
use denote.Struct.Owning.{shape, fields, to}
use Rattle.core.specs.Ptr.{points_to}
use Rattle.core.specs.declared.alloc.Allocator.{Ghosts}
use Rattle.core.proofs.alloc.Calls.{Al, handle_tells}
use Rattle.core.proofs.cell.Inside.{Good}
use Rattle.std_alloc.specs.Box.Ownership.{box_owns}
use Rattle.std_alloc.proofs.ResultValues.{and_tt}
use Rattle.std.specs.declared.alloc.Global.{Global}
use Rattle.std.specs.contracts.alloc.Global as heap
use Rattle.std.proofs.alloc.Global.TheLaws as heap_laws
use Rattle.std.proofs.GlobalToken.{dealloc_token-Testable}
use Rattle.radixvm_c.specs.Behind.{held_at}
use Rattle.coded.specs.contracts.held.AnyMachine as vm
use Rattle.radixvm_c.specs.contracts.loose.Loose as loose
use Rattle.radixvm_c.specs.contracts.handle.Handle as handle

abbrev pub both : Val → Val → Val
both v w = vstruct (vcons v (vcons w vnil))

module _ (R Z : RattleType) (L : Laws Z) (g : Ghosts Z.Denot) where
  abbrev pub Loose : RattleType
  Loose = loose.the_row R Z g

  abbrev al : Al
  al = record { row = Z; laws = L; g = g; d = impl [] tnil dnil; drops = impl [] tnil dnil }

  pub loose_good : (b o : ℕ) (h : Val) → Good (layout Z) h → T (has_ty (layout Z) h && true) × WT (both (vptr b o) h)
  loose_good b o h fits = (and_tt (has_ty (layout Z) h) fits.0, (tt, (fits.1, tt)))

  module _ {M : Type 1} {𝓤 : Ura M} {𝓛 : Logic 𝓤} {K : Type 0} {Γ : List (Item 𝓤)} {G : Goal 𝓤 𝓛.H} where
    pub loose_out : K → (d : Loose.Denot) (vs : List Val)
        → ((b o : ℕ) (h : Val) → d.at ≡ block_ptr b o → vs ≡ both (vptr b o) h ∷ [] → Good (layout Z) h
        → Seq K 𝓛 (‵ (box_owns (g.dealloc_token d.alloc) R (block_ptr b o) d.value) ∷ ‵ (Z.own_val d.alloc (h ∷ [])) ∷ Γ) G)
        → Seq K 𝓛 (‵ (Loose.own_val d vs) ∷ Γ) G
    loose_out t d vs k =
        fsplit t $ fpick t (λ vss. fsplit t $ feq_l t (λ ev. fsplit t $ feq_l t (λ ep. fsplit t $
        handle_tells al t d.alloc vss.1.0 (λ h ea fits. move t (1 ∷ []) $ drop t $ move t (1 ∷ []) $
        in_a_block t d.at (λ p. box_owns (g.dealloc_token d.alloc) R p d.value) (fst∗ 𝓤 (never 𝓤)
        (sem 𝓛 (g.dealloc_token d.alloc (bare (lone R.mir)) null_ptr))) (λ b o e. k b o h e
        (subst (λ (p : Ptr). vs ≡ vstruct (of_list (ptr_val p ∷ h ∷ [])) ∷ []) e
        (subst (λ (ws : List Val). vs ≡ vstruct (of_list (ptr_val d.at ∷ (ws ++ []))) ∷ []) ea (subst (λ (ps : List Val). vs ≡ vstruct (of_list (ps ++
        (vss.1.0 ++ []))) ∷ []) ep ev))) fits)))))

    pub loose_in : K → (b o : ℕ) (h : Val) (a : Z.Denot) (x : R.Denot)
        → Step K 𝓛 (‵ (Loose.own_val (record { at = block_ptr b o; alloc = a; value = x }) (both (vptr b o) h ∷ []))
        ∷ Γ) G (‵ (box_owns (g.dealloc_token a) R (block_ptr b o) x) ∷ ‵ (Z.own_val a (h ∷ [])) ∷ Γ) G
    loose_in t b o h a x = step (λ s. let v : Val = both (vptr b o) h in
        nothing t $ move t (2 ∷ 0 ∷ []) $ fjoin t $ feq_i t (List Val) (vptr b o ∷ []) (vptr b o ∷ []) refl $ fjoin t $
        feq_i t (List Val) (v ∷ []) (v ∷ []) refl $ fjoin t $
        fpack t (Valss (RawPtr ∷ Z ∷ [])) (within (shape (loose.the_type R Z g)) (block_ptr b o, (a, tt)) (v ∷ [])) (vptr b o ∷ [], (h ∷ [], tt)) $ fjoin t $ s)

-- ---- a handle

abbrev pub Handled : RattleType
Handled = handle.the_row

abbrev pub R : RattleType
R = vm.the_row

abbrev pub handled_al : Al
handled_al = record { row = heap.the_row; laws = heap_laws.the_row_laws; g = ghosts; d = impl [] tnil dnil; drops = impl [] tnil dnil }

abbrev pub owned : Global → Ptr → R.Denot → Fml
owned a p x = box_owns (ghosts.dealloc_token a) R p x

pub ptr_good : (p : Ptr) → T (has_ty ty_ptr (ptr_val p)) × WT (ptr_val p)
ptr_good (block_ptr b o) = (tt, tt)
ptr_good null_ptr = (tt, record { fits = lit< tt })

pub handled_good : (p : Ptr) (h : Val) → Good (layout heap.the_row) h → Good (layout Handled) (both (ptr_val p) h)
handled_good (block_ptr b o) h fits = loose_good R heap.the_row heap_laws.the_row_laws ghosts b o h fits
handled_good null_ptr h fits = (and_tt (has_ty (layout heap.the_row) h) fits.0, (record { fits = lit< tt }, (fits.1, tt)))

-- what a comparison of the pointer with null says
abbrev pub Told : Ptr → Option R.Denot → Type 0
Told p v = (y : Bool) × (op2_val ptr_eq (ptr_val p) vnull ≡ vbool y) × (not y ≡ is_some v) × T (ptr_eq_ok (ptr_val p) vnull)

module _ {M : Type 1} {𝓤 : Ura M} (𝓛 : Logic 𝓤) where
  never_null : (a : Global) (x : R.Denot) → ent 𝓤 (sem 𝓛 (owned a null_ptr x)) (never 𝓤)
  never_null a x = fst∗ 𝓤 (never 𝓤) (sem 𝓛 (ghosts.dealloc_token a (bare (lone R.mir)) null_ptr))

  told : (a : Global) (p : Ptr) (v : Option R.Denot) → ent 𝓤 (sem 𝓛 (held_at a p v)) (fact 𝓤 (Told p v))
  told a p None = qed 𝓛 (‵ (feq Ptr p null_ptr) ∷ []) ∵ feq_l ! (λ e.
      use0 𝓛 (raw (fact 𝓤 (Told p None))) (fact_i 𝓤 (Told p None) (emp 𝓤) (subst (λ q. Told q None) (sym e) (true, refl, refl, tt))) $ done !)
  told a p (Some x) = qed 𝓛 (‵ (owned a p x) ∷ []) ∵ in_a_block ! p (λ q. owned a q x) (never_null a x) (λ b o e.
      use1 𝓛 (raw (fact 𝓤 (Told p (Some x)))) (via 𝓤 (sem 𝓛 (ghosts.dealloc_token a (bare (lone R.mir)) (block_ptr b o)))
      (snd∗ 𝓤 (sem 𝓛 (points_to R (block_ptr b o) x)) (sem 𝓛 (ghosts.dealloc_token a (bare (lone R.mir)) (block_ptr b o))))
      (via 𝓤 (fact 𝓤 (Testable (block_ptr b o))) (dealloc_token-Testable 𝓛 a (bare (lone R.mir)) (block_ptr b o))
      (fact_mono 𝓤 (Testable (block_ptr b o)) (Told p (Some x)) (λ t. subst (λ q. Told q (Some x)) (sym e)
      (false, refl, refl, tests_null (block_ptr b o) t))))) $ done !)

module _ {M : Type 1} {𝓤 : Ura M} {𝓛 : Logic 𝓤} {K : Type 0} {Γ : List (Item 𝓤)} {G : Goal 𝓤 𝓛.H} where
  pub handle_out : K → (d : Handled.Denot) (vs : List Val)
      → ((h : Val) → vs ≡ both (ptr_val d.at) h ∷ [] → Good (layout heap.the_row) h → Seq K 𝓛 (‵ (held_at d.alloc d.at d.value)
      ∷ ‵ (heap.the_row.own_val d.alloc (h ∷ [])) ∷ Γ) G)
      → Seq K 𝓛 (‵ (Handled.own_val d vs) ∷ Γ) G
  handle_out t d vs k =
      fsplit t $ fpick t (λ vss. fsplit t $ feq_l t (λ ev. fsplit t $ feq_l t (λ ep. fsplit t $
      handle_tells handled_al t d.alloc vss.1.0 (λ h ea fits. move t (1 ∷ []) $ drop t $ move t (1 ∷ []) $ k h
      (subst (λ (ws : List Val). vs ≡ vstruct (of_list (ptr_val d.at ∷ (ws ++ []))) ∷ []) ea (subst (λ (ps : List Val). vs ≡ vstruct (of_list (ps ++
      (vss.1.0 ++ []))) ∷ []) ep ev)) fits))))

  pub handle_in : K → (d : Handled.Denot) (h : Val)
      → Step K 𝓛 (‵ (Handled.own_val d (both (ptr_val d.at) h ∷ [])) ∷ Γ) G (‵ (held_at d.alloc d.at d.value) ∷ ‵ (heap.the_row.own_val d.alloc (h ∷ [])) ∷ Γ) G
  handle_in t d h = step (λ s. let v : Val = both (ptr_val d.at) h in
      nothing t $ move t (2 ∷ 0 ∷ []) $ fjoin t $ feq_i t (List Val) (ptr_val d.at ∷ []) (ptr_val d.at ∷ []) refl $ fjoin t $
      feq_i t (List Val) (v ∷ []) (v ∷ []) refl $ fjoin t $
      fpack t (Valss (fields handle.the_type)) (within (shape handle.the_type) (to handle.the_type d) (v ∷ [])) (ptr_val d.at ∷ [], (h ∷ [], tt)) $ fjoin t $ s)

  -- a handle that has a machine
  pub held_out : K → (a : Global) (p : Ptr) (v : Option R.Denot) → IsSome v
      → ((b o : ℕ) (x : R.Denot) → p ≡ block_ptr b o → v ≡ Some x → Seq K 𝓛 (‵ (owned a (block_ptr b o) x) ∷ Γ) G) → Seq K 𝓛 (‵ (held_at a p v) ∷ Γ) G
  held_out t a p None is k = absurd cc
  held_out t a p (Some x) is k = in_a_block t p (λ q. owned a q x) (never_null 𝓛 a x) (λ b o e. k b o x e refl)

  pub held_tells : K → (a : Global) (p : Ptr) (v : Option R.Denot) → (Told p v → Seq K 𝓛 (‵ (held_at a p v) ∷ Γ) G) → Seq K 𝓛 (‵ (held_at a p v) ∷ Γ) G
  held_tells t a p v k =
      use1 𝓛 (given (Told p v) (‵ (held_at a p v)))
      (fact_use 𝓤 (Told p v) (told 𝓛 a p v) (λ y. guard_i 𝓤 (Told p v) (sem 𝓛 (held_at a p v)) y)) $ learn t k

-- the same behind a `&mut`, and back
module _ {M : Type 1} {𝓤 : Ura M} {𝓛 : Logic 𝓤} {K : Type 0} {Γ : List (Item 𝓤)} {G : Goal 𝓤 𝓛.H} where
  pub handle_opens : K → Soaks G → {κ : Lft} {q : Share} {γ : GName} (d : Handled.Denot) (rb ro : ℕ)
      → ((h : Val) → Good (layout heap.the_row) h → Seq K 𝓛 (‵ (held_at d.alloc d.at d.value) ∷ ‵ (heap.the_row.own_val d.alloc (h ∷ []))
      ∷ ‵ (cell_at full_share Handled.mir (both (ptr_val d.at) h ∷ []) rb ro)
      ∷ ‵ (fobor κ q (Borrowed (mem Handled) rb ro γ)) ∷ ‵ (fobs γ (Handled.coded.code d)) ∷ ‵ (fauth γ (Handled.coded.code d)) ∷ Γ) G)
      → Seq K 𝓛 (‵ (fobs γ (Handled.coded.code d)) ∷ ‵ (fbor κ (Borrowed (mem Handled) rb ro γ)) ∷ ‵ (flft κ q) ∷ Γ) G
  handle_opens t z d rb ro k =
      opens t z Handled {h = d} rb ro (λ us. move t (1 ∷ []) $
      handle_out t d us (λ h ws fits. rewrite t 2 (λ (vs : List Val). ‵ (cell_at full_share Handled.mir vs rb ro)) ws refl $ k h fits))

  pub handle_closes : K → Soaks G → {κ : Lft} {q : Share} {u v : Gv} {γ : GName} (d : Handled.Denot) (h : Val) (rb ro : ℕ)
      → Step K 𝓛 (‵ (fobs γ (Handled.coded.code d)) ∷ ‵ (fbor κ (Borrowed (mem Handled) rb ro γ)) ∷ ‵ (flft κ q) ∷ Γ) G
      (‵ (held_at d.alloc d.at d.value) ∷ ‵ (heap.the_row.own_val d.alloc (h ∷ [])) ∷ ‵ (cell_at full_share Handled.mir (both (ptr_val d.at) h ∷ []) rb ro)
      ∷ ‵ (fobor κ q (Borrowed (mem Handled) rb ro γ)) ∷ ‵ (fobs γ u) ∷ ‵ (fauth γ v) ∷ Γ) G
  handle_closes t z d h rb ro = step (λ s. handle_in t d h $ move t (1 ∷ 0 ∷ []) $ closes t z Handled d (both (ptr_val d.at) h ∷ []) rb ro $ s)
