-- Moves, and what is kept behind them
use Rattle.slot_lock.proofs.Words.{◌≡◌, ◌+◌, ◌*◌, ◌<◌, ◌≤◌, ℕ, suc, Bool, true, false, List, [], ◌∷◌, ◌++◌, Option, None, Some, IfSome, ap, length}
use Rattle.slot_lock.proofs.Words.{refl, subst, sym, take, take_all, take_more, put, put_other, get_or, arith}
use Rattle.std.proofs.Common.{◌⊎◌, inl, inr, slice_get}
use Rattle.slot_lock.proofs.Words.{PageEntry, Plain, Prot, Request, Reply, Done, Refused}
use Rattle.std.proofs.lemmas.List.{length-take-le}
use Rattle.std.proofs.lemmas.List.Elements.{All-nil}
use Rattle.vm_base.specs.declared.replies.Errno.{Errno}
use Rattle.vm_base.specs.Apply.{AppliesAfter, Protects}
use Rattle.vm_base.specs.Functions.{has}
use Rattle.vm_base.specs.Pages.{are_pages, pages_of}
use Rattle.vm_base.specs.Places.{PlaceRule}
use Rattle.vm_base.specs.Plain.{mode_of}
use Rattle.vm_base.specs.Refusals.{refusal}
use Rattle.vm_base.specs.declared.requests.Request.TheVariants.{Mprotect, Munmap}
use Rattle.vm_base.specs.Log.{RepliesBy}
use Rattle.audit.specs.Placing.{rule_of}
use Rattle.audit.specs.declared.auditor.Call.{Call}
use Rattle.orders.specs.declared.history.Timed.{Timed}
use Rattle.orders.specs.Orders.{CopiesFor}
use Rattle.loose_orders.specs.declared.keeping.Kept.{Kept}
use Rattle.loose_orders.specs.declared.moves.Move.{Move}
use Rattle.loose_orders.specs.declared.moves.Move.TheVariants as MoveOf
use Rattle.loose_orders.specs.Kept.{AllKept, IsKept, IsWas, Olds}
use Rattle.loose_orders.specs.Kernel.{ByOldRights, FindsGone, GoesOn, HasRights, IsLateTo, IsReady, IsUnseen, LeadAll, Leads, MayLag, call_of}
use Rattle.loose_orders.specs.Kernel.{changed, gone, protected}
use Rattle.loose_orders.specs.Loose.{Loose, begun, page_accessed, replaced}
use Rattle.loose_orders.proofs.StepLemmas.{Forgets}
use Rattle.loose_orders.specs.Moved.{ChangesFront, CopiesOld, GoesBehind, GoesByRights, HadRights, Lags, MovesOn}

-- ---- by old rights

abbrev pub Protected : Bool → Plain → ℕ → ℕ → Prot → Plain → Type 0
Protected any t core page prot u = RepliesBy (rule_of any) t core (Mprotect (page * 4096) 4096 prot) Done u

by_old : (any : Bool) (s : Loose) (of page core : ℕ) (old new : Prot) (t m n u : Plain) → s.plain ≡ t → HasRights (t.entry page) new
    → HadRights s.old of page old → Protected any t core page old m → Protected any n core page new u
    → ByOldRights (rule_of any) s of page core new m n (record { plain = u; old = s.old })
by_old any s of page core old new t m n u at now (None, is, has) there back = absurd has
by_old any s of page core old new t m n u at now (Some e, is, has) there back = record {
  entry = e;
  is_old = is;
  has_new = subst (λ (p : Plain). HasRights (p.entry page) new) (sym at) now;
  to_old = subst (λ (p : Plain). Protected any p core page e.prot m) (sym at) (subst (λ (q : Prot). Protected any t core page q m) (sym has) there);
  to_new = back;
  old = refl;
}

pub lags_by : (any two three : Bool) (of page : ℕ) (unseen : Bool) (t m again n u : Plain) (kept : List Kept) (old new : Prot) (c : Call) → two ≡ any
    → three ≡ any
    → again ≡ m → HasRights (t.entry page) new → ((o : Olds) → AllKept o kept → HadRights o of page old) → Protected any t c.core page old m
    → (unseen ≡ false → IsReady m c.request) → RepliesBy (rule_of two) again c.core c.request c.reply n → Protected three n c.core page new u
    → Lags (rule_of any) of page unseen t kept u new c
lags_by any two three of page unseen t m again n u kept old new c e f same now had there ready goes back s at all = (
  m,
  n,
  by_old any s of page c.core old new t m n u at now (had s.old all) there (subst (λ (b : Bool). Protected b n c.core page new u) f back),
  subst (λ (b : Bool). RepliesBy (rule_of b) m c.core c.request c.reply n) e
      (subst (λ (p : Plain). RepliesBy (rule_of two) p c.core c.request c.reply n) same goes),
  ready,
)

pub copies_by : (any three : Bool) (of page : ℕ) (t m n u : Plain) (kept : List Kept) (old new : Prot) (c : Call) → three ≡ any
    → HasRights (t.entry page) new → ((o : Olds) → AllKept o kept → HadRights o of page old) → Protected any t c.core page old m
    → CopiesFor m c.request n → Protected three n c.core page new u
    → CopiesOld (rule_of any) of page t kept u new c
copies_by any three of page t m n u kept old new c f now had there goes back s at all =
    (m, n, by_old any s of page c.core old new t m n u at now (had s.old all) there (subst (λ (b : Bool). Protected b n c.core page new u) f back), goes)

pub had_rights : (old : Olds) (of page : ℕ) (k : Kept) (o : Option Prot) → IsKept old k → k.call ≡ of → k.page ≡ page
    → ((entry : Option PageEntry) (i : ℕ) → IsWas entry i k.was → IfSome o (HasRights entry)) → IfSome o (HadRights old of page)
had_rights old of page k None kk c p f = tt
had_rights old of page k (Some prot) kk c p f = (
  kk.entry,
  subst (λ (x : ℕ). old of x ≡ Some kk.entry) p (subst (λ (x : ℕ). old x k.page ≡ Some kk.entry) c kk.is_old),
  f kk.entry k.offset kk.was,
)

-- ---- late moves

abbrev late_to : (h : List Timed) (moves : List Move) (a k of page : ℕ) (c change : Timed) (one : Move) → slice_get moves a ≡ Some one → of ≡ call_of one
    → slice_get h of ≡ Some change → has (changed change.call.request change.call.reply) page ≡ true → page_accessed c.call.request ≡ Some page
    → GoesOn h moves a k change → IsLateTo h moves a k page change c
late_to h moves a k of page c change one at e is within accesses on = record {
  at = record { move = one; at = at; call = subst (λ (x : ℕ). slice_get h x ≡ Some change) e is };
  goes_on = on;
  within = within;
  accesses = accesses;
}

pub gone_on : (any moving : Bool) (h : List Timed) (moves : List Move) (k i a of page addr len : ℕ) (c change : Timed) (one : Move) (t u : Plain)
    (kept new : List Kept) → slice_get h i ≡ Some c → slice_get moves a ≡ Some one → of ≡ call_of one → slice_get h of ≡ Some change
    → has (changed change.call.request change.call.reply) page ≡ true → page_accessed c.call.request ≡ Some page → GoesOn h moves a k change
    → change.call.request ≡ Munmap addr len
    → ((r : Request) → MayLag moving h moves a k page r c.call) → GoesBehind of page t kept u new c.call
    → MovesOn (rule_of any) moving h moves k t kept (MoveOf.Late i a) u new
gone_on any moving h moves k i a of page addr len c change one t u kept new is at e has_it within accesses on unmaps lag goes s same all =
    let g = goes any s same all in (
      g.0,
      (
        c,
        is,
        gone page addr len change (late_to h moves a k of page c change one at e has_it within accesses on) unmaps (lag change.call.request)
            (subst (λ (x : ℕ). FindsGone (rule_of any) s x page c.call g.0) e g.1),
      ),
      g.2,
      g.3,
    )

pub rights_on : (any moving : Bool) (h : List Timed) (moves : List Move) (k i a of page addr len : ℕ) (prot : Prot) (c change : Timed) (one : Move)
    (t u : Plain)
    (kept : List Kept) → slice_get h i ≡ Some c → slice_get moves a ≡ Some one → of ≡ call_of one → slice_get h of ≡ Some change
    → has (changed change.call.request change.call.reply) page ≡ true → page_accessed c.call.request ≡ Some page → GoesOn h moves a k change
    → change.call.request ≡ Mprotect addr len prot
    → GoesByRights (rule_of any) moving h moves a k of page t kept u prot c.call
    → MovesOn (rule_of any) moving h moves k t kept (MoveOf.Late i a) u kept
rights_on any moving h moves k i a of page addr len prot c change one t u kept is at e has_it within accesses on protects g s same all =
    let l = g.3 s same all in (
      record { plain = u; old = s.old },
      (
        c,
        is,
        protected page addr len prot change l.0 l.1 (late_to h moves a k of page c change one at e has_it within accesses on) protects
            (which g.0 g.1 (g.2 change.call.request) l.4)
            (subst (λ (x : ℕ). ByOldRights (rule_of any) s x page c.call.core prot l.0 l.1 (record { plain = u; old = s.old })) e l.2) l.3,
      ),
      refl,
      all,
    )
  where
    which : {A B C : Type 0} (b : Bool) → (b ≡ true → A) → (b ≡ false → B) → (b ≡ false → C) → A ⊎ (B × C)
    which true x y z = inl (x refl)
    which false x y z = inr (y refl, z refl)

pub copy_on : (any moving : Bool) (h : List Timed) (moves : List Move) (k i a of page addr len : ℕ) (prot : Prot) (c change : Timed) (one : Move) (t u : Plain)
    (kept : List Kept) → slice_get h i ≡ Some c → slice_get moves a ≡ Some one → of ≡ call_of one → slice_get h of ≡ Some change
    → has (changed change.call.request change.call.reply) page ≡ true → page_accessed c.call.request ≡ Some page → GoesOn h moves a k change
    → IsUnseen h moves a k page → change.call.request ≡ Mprotect addr len prot
    → CopiesOld (rule_of any) of page t kept u prot c.call → MovesOn (rule_of any) moving h moves k t kept (MoveOf.LateCopy i a) u kept
copy_on any moving h moves k i a of page addr len prot c change one t u kept is at e has_it within accesses on unseen protects g s same all =
    let l = g s same all in (
      record { plain = u; old = s.old },
      (
        c,
        is,
        record {
          page = page;
          addr = addr;
          len = len;
          prot = prot;
          change = change;
          before = l.0;
          after = l.1;
          late = late_to h moves a k of page c change one at e has_it within accesses on;
          protects = protects;
          unseen = unseen;
          rights = subst (λ (x : ℕ). ByOldRights (rule_of any) s x page c.call.core prot l.0 l.1 (record { plain = u; old = s.old })) e l.2;
          copies = l.3;
        },
      ),
      refl,
      all,
    )

-- ---- a refused mprotect

refused_by : (rule : PlaceRule) (o : Option Reply) (t : Plain) (core addr len : ℕ) (prot : Prot) (e : Errno) (u : Plain)
    → AppliesAfter rule o t core (Mprotect addr len prot) (Refused e) u → u ≡ t
refused_by rule None t core addr len prot e u (Protects.no_page absent y same) = same
refused_by rule None t core addr len prot e u (Protects.no_write mapped write only y same) = same
refused_by rule None t core addr len prot e u (Protects.done mapped may y same) = let amiss : Refused e ≡ Done = y in absurd cc
refused_by rule (Some r) t core addr len prot e u a = a.1

-- it leaves all as it was
pub refused_same : (rule : PlaceRule) (t : Plain) (core addr len : ℕ) (prot : Prot) (e : Errno) (u : Plain)
    → RepliesBy rule t core (Mprotect addr len prot) (Refused e) u → u ≡ t
refused_same rule t core addr len prot e u r = refused_by rule (refusal (λ k. mode_of (t.file k)) (Mprotect addr len prot)) t core addr len prot e u r

pub front_by : (any two : Bool) (t m u : Plain) (core addr len : ℕ) (prot : Prot) (e : Errno) (count page : ℕ) → two ≡ any
    → are_pages (pages_of addr len) ≡ true → has (pages_of addr len) page ≡ true
    → RepliesBy (rule_of any) t core (Mprotect (page * 4096) 4096 prot) (Refused e) m
    → RepliesBy (rule_of two) m core (Mprotect addr (count * 4096) prot) Done u
    → ChangesFront (rule_of any) t core addr len prot e count page u
front_by any two t m u core addr len prot e count page f valid within refused goes =
    let same : m ≡ t = refused_same (rule_of any) t core (page * 4096) 4096 prot e m refused in (
      valid,
      within,
      subst (λ (p : Plain). RepliesBy (rule_of any) t core (Mprotect (page * 4096) 4096 prot) (Refused e) p) same refused,
      subst (λ (p : Plain). RepliesBy (rule_of any) p core (Mprotect addr (count * 4096) prot) Done u) same
          (subst (λ (b : Bool). RepliesBy (rule_of b) m core (Mprotect addr (count * 4096) prot) Done u) f goes),
    )

pub part_on : (any moving : Bool) (h : List Timed) (moves : List Move) (k i count page : ℕ) (c : Timed) (addr len : ℕ) (prot : Prot) (e : Errno) (t u : Plain)
    (kept left : List Kept) → slice_get h i ≡ Some c → c.call.request ≡ Mprotect addr len prot → c.call.reply ≡ Refused e → Forgets i kept left
    → ChangesFront (rule_of any) t c.call.core addr len prot e count page u → MovesOn (rule_of any) moving h moves k t kept (MoveOf.Part i count page) u left
part_on any moving h moves k i count page c addr len prot e t u kept left is asks says forgets f s same all =
    let done : Call = record { core = c.call.core; request = Mprotect addr (count * 4096) prot; reply = Done } in
    let new : Olds = put s.old i (replaced s.plain done) in (
      record { plain = u; old = new },
      (
        c,
        is,
        record {
          addr = addr;
          len = len;
          prot = prot;
          error = e;
          request = asks;
          reply = says;
          valid = f.0;
          within = f.1;
          refused = subst (λ (p : Plain). RepliesBy (rule_of any) p c.call.core (Mprotect (page * 4096) 4096 prot) (Refused e) p) (sym same) f.2;
          done = subst (λ (p : Plain). RepliesBy (rule_of any) p c.call.core (Mprotect addr (count * 4096) prot) Done u) (sym same) f.3;
          old = refl;
        },
      ),
      refl,
      forgets s.old new (λ other p ne. ap (λ (g : ℕ → Option (Option PageEntry)). g p) (put_other s.old i (replaced s.plain done) other ne)) all,
    )

-- ---- all moves

-- the moves lead to a state with this plain map, of which this is kept
pub record IsMoved (rule : PlaceRule) (moving : Bool) (h : List Timed) (all : List Move) (first : Plain) (moves : List Move) (t : Plain) (kept : List Kept)
    : Type 0 where
  pub state : Loose
  pub plain : state.plain ≡ t
  pub all_kept : AllKept state.old kept
  pub lead : LeadAll rule moving h all 0 (begun first) moves state

pub none_moved : (rule : PlaceRule) (moving : Bool) (h : List Timed) (all : List Move) (t : Plain) (moves : List Move) (kept : List Kept) → moves ≡ []
    → kept ≡ []
    → IsMoved rule moving h all t moves t kept
none_moved rule moving h all t moves kept e f = record {
  state = begun t;
  plain = refl;
  all_kept = subst (AllKept (begun t).old) (sym f) (All-nil (IsKept (begun t).old));
  lead = subst (λ (xs : List Move). LeadAll rule moving h all 0 (begun t) xs (begun t)) (sym e) refl;
}

moves_push : (rule : PlaceRule) (moving : Bool) (h : List Timed) (all : List Move) (k : ℕ) (s m u : Loose) (moves : List Move) (one : Move)
    → LeadAll rule moving h all k s moves m → Leads rule moving h all (k + length moves) m one u → LeadAll rule moving h all k s (moves ++ one ∷ []) u
moves_push rule moving h all k s m u [] one a b =
    let here : k + 0 ≡ k = omega arith in
    (u, subst (λ (j : ℕ). Leads rule moving h all j s one u) here (subst (λ (x : Loose). Leads rule moving h all (k + 0) x one u) a b), refl)
moves_push rule moving h all k s m u (d ∷ ds) one a b =
    let next : k + suc (length ds) ≡ k + 1 + length ds = omega arith in
    (a.0, a.1, moves_push rule moving h all (k + 1) a.0 m u ds one a.2 (subst (λ (j : ℕ). Leads rule moving h all j m one u) next b))

pub moved_on : (any now moving : Bool) (h : List Timed) (all : List Move) (first t u : Plain) (kept new : List Kept) (at : ℕ) (d : Move) → now ≡ any
    → at < length all → IsMoved (rule_of any) moving h all first (take at all) t kept → MovesOn (rule_of now) moving h all at t kept (get_or all at d) u new
    → IsMoved (rule_of any) moving h all first (take (at + 1) all) u new
moved_on any now moving h all first t u kept new at d same less led on =
    let r = subst (λ (x : Bool). MovesOn (rule_of x) moving h all at t kept (get_or all at d) u new) same on led.state led.plain led.all_kept in
    let within : at ≤ length all = omega (arith, less) in
    let place : at ≡ 0 + length (take at all) = let l = length-take-le at all within in omega (arith, l) in
    record {
      state = r.0;
      plain = r.2;
      all_kept = r.3;
      lead = subst (λ xs. LeadAll (rule_of any) moving h all 0 (begun first) xs r.0) (sym (take_more all at d less))
          (moves_push (rule_of any) moving h all 0 (begun first) led.state r.0 (take at all) (get_or all at d) led.lead
          (subst (λ (j : ℕ). Leads (rule_of any) moving h all j led.state (get_or all at d) r.0) place r.1));
    }

pub all_moved : (rule : PlaceRule) (moving : Bool) (h : List Timed) (all : List Move) (first t : Plain) (kept : List Kept) (at : ℕ) → length all ≤ at
    → IsMoved rule moving h all first (take at all) t kept → (last : Loose) × LeadAll rule moving h all 0 (begun first) all last
all_moved rule moving h all first t kept at end led =
    (led.state, subst (λ xs. LeadAll rule moving h all 0 (begun first) xs led.state) (take_all at all end) led.lead)
