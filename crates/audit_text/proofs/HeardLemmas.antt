-- What hearing a line comes to.
use Rattle.std.proofs.Common.{◌≡◌, ℕ, zero, suc, ◌+◌, arith, Bool, true, false, not, cond, ◌⊎◌, inl, inr, List, [], ◌∷◌, ◌++◌, Option, Some, None, is_some}
use Rattle.std.proofs.Common.{refl, sym, ap, ◌∙◌, subst, Result, Ok, Err, OnErr}
use Rattle.std.specs.Prelude.{◌&&◌, option_map, replicate, set}
use Rattle.vm_base.specs.Plain.{Plain}
use Rattle.vm_base.specs.declared.replies.Reply.{Reply}
use Rattle.vm_base.specs.declared.requests.Request.{Request}
use Rattle.audit.proofs.Judged.{one_first, placed_due, swap_named}
use Rattle.audit.specs.Judging.{IsGiven, Judges}
use Rattle.audit.specs.Placing.{rule_of}
use Rattle.audit.specs.declared.auditor.Call.{Call}
use Rattle.audit.specs.declared.judging.ReplyVerdict.{ReplyVerdict}
use Rattle.audit.specs.declared.judging.ReplyVerdict.TheVariants.{Legal as Right, Illegal as Wrong}
use Rattle.audit_text.specs.Allowed.{Allows, AreAllowed, Lacks, MayBe, is_lack, is_lacking, is_unplaced, places, serves}
use Rattle.audit_text.specs.Heard.{Heard, call_to, item_told, heard_after, is_certain, nothing, one_passed, waits, with_answer, with_copy, with_item, with_told}
use Rattle.audit_text.specs.Heard.{with_waiting, without}
use Rattle.audit_text.specs.Steps.{Hears, JudgesCall, MayWant, Moves, Passes}
use Rattle.audit_text.specs.declared.allowing.Terms.{Terms}
use Rattle.audit_text.specs.declared.item.AuditItem.{AuditItem}
use Rattle.audit_text.specs.declared.item.AuditItem.TheVariants.{Answer, Copy}
use Rattle.audit.specs.Copying.{Copies}
use Rattle.audit_text.specs.declared.hearing.Turn.{Turn}
use Rattle.audit_text.specs.declared.hearing.Turn.TheVariants.{Legal, Bad, Illegal}
use Rattle.audit_text.specs.declared.reading.Said.{Said}
use Rattle.audit_text.specs.declared.reading.Said.TheVariants as Of
use Rattle.vm_base.specs.Answers.{Answers}
use Rattle.vm_base.specs.Places.{IsFirstPlace}
use Rattle.vm_base.specs.declared.replies.Reply.TheVariants.{Mapped, NoFrame, NoMemory, Refused}
use Rattle.vm_base.specs.declared.replies.Errno.{Errno}
use Rattle.vm_base.specs.declared.replies.Errno.TheVariants.{ENOMEM}
use Rattle.vm_base.specs.declared.requests.Request.TheVariants.{Fetch, Load, Mmap, Mprotect, Munmap, Store}
use Rattle.vm_base.specs.Copies.{page_copied, with_copy as map_copied}
use Rattle.vm_base.specs.Requests.{is_placed}

none_more : {X : Type 0} (x : X) (n : ℕ) → replicate n x ++ x ∷ [] ≡ replicate (n + 1) x
none_more x zero = refl
none_more x (suc n) = let sum : suc n + 1 ≡ suc (n + 1) = omega arith in ap (λ l. x ∷ l) (none_more x n) ∙ ap (λ m. replicate m x) (sym sum)

-- one more place
pub one_waiting : {X : Type 0} (n next : ℕ) (old new : List (Option X)) → next ≡ n + 1 → new ≡ old ++ None ∷ [] → old ≡ replicate n None
    → new ≡ replicate next None
one_waiting n next old new up is was = is ∙ ap (λ l. l ++ None ∷ []) was ∙ none_more None n ∙ ap (λ m. replicate m None) (sym up)

-- nothing is heard at first
pub nothing_heard : (ws : List (Option Request)) (items : List AuditItem) → ws ≡ replicate 64 None → items ≡ []
    → record { waiting = ws; pending = 0; items = items; calls = 0; lacking = 0; unplaced = 0; passed = 0; is_sure = true } ≡ nothing
nothing_heard ws items e f =
    ap (λ (x : List (Option Request)). record { waiting = x; pending = 0; items = items; calls = 0; lacking = 0; unplaced = 0; passed = 0; is_sure = true }) e
    ∙ ap (λ (x : List AuditItem).
    record { waiting = replicate 64 None; pending = 0; items = x; calls = 0; lacking = 0; unplaced = 0; passed = 0; is_sure = true }) f

pub same_terms : (terms : Terms) (any_place : Bool) → any_place ≡ terms.any_place → record terms { any_place = any_place } ≡ terms
same_terms terms any_place e = ap (λ b. record terms { any_place = b }) e

-- ---- want of a frame or of memory

-- what is served is an access, whose answers no rule of places concerns
served_named : (request : Request) (due : Reply) → serves request due ≡ true → is_placed request ≡ false
served_named (Load addr) due e = refl
served_named (Store addr byte) due e = refl
served_named (Fetch addr) due e = refl
served_named (Mmap addr len prot flags file off) due e = absurd (cc)
served_named (Munmap addr len) due e = absurd (cc)
served_named (Mprotect addr len prot) due e = absurd (cc)

by_first : (any : Bool) (t : Plain) (core : ℕ) (request : Request) (due : Reply) (v : Plain) → is_placed request ≡ false
    → Answers (rule_of any) t core request due v → Answers IsFirstPlace t core request due v
by_first any t core request due v named a =
    swap_named (rule_of any) IsFirstPlace (map_copied t (page_copied t request due)) core request due v named a

both_parts : (a b c : Bool) → (a && b && c) ≡ true → (a ≡ true) × (b ≡ true) × (c ≡ true)
both_parts true true true e = (refl, refl, refl)
both_parts true true false e = absurd (cc)
both_parts true false c e = absurd (cc)
both_parts false b c e = absurd (cc)

placed_at : (due : Reply) → places due ≡ true → (addr : ℕ) × (due ≡ Mapped addr)
placed_at (Mapped addr) e = (addr, refl)
placed_at due e = absurd (cc)

placed_lack : (any : Bool) (t : Plain) (core : ℕ) (request : Request) (due : Reply) (v u : Plain) → Answers (rule_of any) t core request due v
    → (any && is_placed request && places due) ≡ true → u ≡ t → Lacks any t core request (Refused ENOMEM) u
placed_lack any t core request due v u a e same =
    let parts = both_parts any (is_placed request) (places due) e in
    let at = placed_at due parts.2 in
    let there = subst (λ (y : Reply). Answers (rule_of any) t core request y v) at.1 a in
    (parts.0, refl, (parts.1, (at.0, v, subst (λ (b : Bool). Answers (rule_of b) t core request (Mapped at.0) v) parts.0 there)), same)

is_lack_served : (any : Bool) (t : Plain) (core : ℕ) (request : Request) (due : Reply) (v u : Plain) (reply : Reply)
    → Answers (rule_of any) t core request due v → is_lack any request due reply ≡ true → u ≡ t → Lacks any t core request reply u
is_lack_served any t core request due v u NoFrame a e same =
    ((due, v, e, by_first any t core request due v (served_named request due e) a), same)
is_lack_served any t core request due v u NoMemory a e same = same
is_lack_served any t core request due v u (Refused ENOMEM) a e same = placed_lack any t core request due v u a e same
is_lack_served any t core request due v u reply a e same = absurd (cc)

-- where the plain map doesn't have that reply
served_is_lack : (any : Bool) (t : Plain) (core : ℕ) (request : Request) (due : Reply) (v u : Plain) (reply : Reply)
    → ((m : Plain) → ¬ Answers (rule_of any) t core request reply m) → Answers (rule_of any) t core request due v
    → Lacks any t core request reply u → is_lack any request due reply ≡ true
served_is_lack any t core request due v u NoFrame none a ((other, w, serves_other, b), same) =
    let first = by_first any t core request due v (served_named request other serves_other) a in
    let one : other ≡ due = one_first t core request other due w v b first in
    subst (λ y. serves request y ≡ true) one serves_other
served_is_lack any t core request due v u NoMemory none a same = refl
served_is_lack any t core request due v u (Refused e) none a (is_any, is_enomem, (placed, (addr, w, b)), same) =
    subst (λ (x : Errno). is_lack any request due (Refused x) ≡ true) (sym is_enomem)
    (subst (λ (x : Bool). (x && is_placed request && places due) ≡ true) (sym is_any)
    (subst (λ (x : Bool). (true && x && places due) ≡ true) (sym placed) (by
    (placed_due any t core request addr due w v placed (subst (λ (x : Bool). Answers (rule_of x) t core request (Mapped addr) w) (sym is_any) b) a))))
  where
    by : ((at : ℕ) × (due ≡ Mapped at)) ⊎ (due ≡ Refused ENOMEM) → places due ≡ true
    by (inl (at, is)) = ap places is
    by (inr is) = absurd (none v (subst (λ (y : Reply). Answers (rule_of any) t core request y v) (is ∙ ap Refused (sym is_enomem)) a))
served_is_lack any t core request due v u reply none a lacks = absurd lacks

not_let : (strict lack : Bool) → (not strict && lack) ≡ false → strict ≡ false → lack ≡ true → ⊥
not_let strict lack e s l = let lacks_not : lack ≡ false = ap (λ b. not b && lack) (sym s) ∙ e in absurd (cc)

not_parts : (strict lack : Bool) → (not strict && lack) ≡ true → (strict ≡ false) × (lack ≡ true)
not_parts false lack e = (refl, e)
not_parts true lack e = absurd (cc)

-- ---- the auditor's verdict on a call

pub judged_legal : (terms : Terms) (h k : Heard) (t u : Plain) (certain : Bool) (call : Call) (v : ReplyVerdict)
    → Judges (rule_of terms.any_place) t call.core call.request call.reply v u → v ≡ Right → k ≡ with_answer h certain call
    → JudgesCall terms h t certain call Legal k u
judged_legal terms h k t u certain call v j is e =
    (e, inl (subst (λ (x : ReplyVerdict). Judges (rule_of terms.any_place) t call.core call.request call.reply x u) is j))

pub judged_let : (terms : Terms) (h k : Heard) (t u : Plain) (certain : Bool) (call : Call) (v : ReplyVerdict) (due : Reply)
    → Judges (rule_of terms.any_place) t call.core call.request call.reply v u → v ≡ Wrong due
    → (not terms.is_strict && is_lack terms.any_place call.request due call.reply) ≡ true → k ≡ with_answer h certain call
    → JudgesCall terms h t certain call Legal k u
judged_let terms h k t u certain call v due j is lets e =
    let w = subst (λ (x : ReplyVerdict). Judges (rule_of terms.any_place) t call.core call.request call.reply x u) is j in
    let both = not_parts terms.is_strict (is_lack terms.any_place call.request due call.reply) lets in
    (e, inr (both.0, is_lack_served terms.any_place t call.core call.request due w.1.0 u call.reply w.1.1 both.1 w.2))

pub judged_illegal : (terms : Terms) (h k : Heard) (t u : Plain) (certain : Bool) (call : Call) (v : ReplyVerdict) (due : Reply)
    → Judges (rule_of terms.any_place) t call.core call.request call.reply v u → v ≡ Wrong due
    → (not terms.is_strict && is_lack terms.any_place call.request due call.reply) ≡ false → k ≡ h
    → JudgesCall terms h t certain call (Illegal (Answer call) (Some due) certain) k u
judged_illegal terms h k t u certain call v due j is lets e =
    let w = subst (λ (x : ReplyVerdict). Judges (rule_of terms.any_place) t call.core call.request call.reply x u) is j in
    (refl, w.2, refl, (none w, w.1), e)
  where
    none : Judges (rule_of terms.any_place) t call.core call.request call.reply (Wrong due) u
        → (m : Plain) → ¬ Allows terms t call.core call.request call.reply m
    none w m (inl a) = w.0 m a
    none w m (inr (s, lacks)) =
        not_let terms.is_strict (is_lack terms.any_place call.request due call.reply) lets s
        (served_is_lack terms.any_place t call.core call.request due w.1.0 m call.reply w.0 w.1.1 lacks)

-- ---- a call that is answered at once

-- the line tells this call
told_now : (h : Heard) (call : Call) → is_some (waits h call.core) ≡ false → item_told h (Of.Answered call) ≡ Some (Answer call)
told_now h call idle = ap (λ b. cond b None (Some (Answer call))) idle

after_now : (h k : Heard) (certain : Bool) (call : Call) → is_some (waits h call.core) ≡ false → certain ≡ is_certain h (Of.Answered call)
    → k ≡ with_answer h certain call → heard_after h (Of.Answered call) ≡ Some k
after_now h k certain call idle sure is = ap (option_map (with_told h (Of.Answered call))) (told_now h call idle)
    ∙ ap (λ c. Some (with_answer h c call)) (sym sure) ∙ ap Some (sym is)

pub answered_hears : (terms : Terms) (h k : Heard) (t u : Plain) (certain : Bool) (call : Call) (turn : Turn) → is_some (waits h call.core) ≡ false
    → certain ≡ is_certain h (Of.Answered call) → JudgesCall terms h t certain call turn k u → Hears terms h t (Of.Answered call) turn k u
answered_hears terms h k t u certain call Legal idle sure (is, allows) =
    (after_now h k certain call idle sure is, subst (λ o. Moves terms t o u) (sym (told_now h call idle)) allows)
answered_hears terms h k t u certain call Bad idle sure j = absurd j
answered_hears terms h k t u certain call (Illegal i due b) idle sure (is, same, told, refused, kept) = (
  told_now h call idle ∙ ap Some (sym is),
  same,
  told ∙ sure,
  refused,
  after_now h (with_answer h certain call) certain call idle sure refl ∙ ap (λ (e : Heard). Some (with_answer e certain call)) (sym kept)
      ∙ ap (λ x. Some (with_answer k x call)) (sym told) ∙ ap (λ (x : AuditItem). Some (with_item k b x)) (sym is),
)

-- one that isn't, since another of its core waits
pub answered_bad : (terms : Terms) (h k : Heard) (t u : Plain) (call : Call) → is_some (waits h call.core) ≡ true
    → Hears terms h t (Of.Answered call) Bad k u
answered_bad terms h k t u call busy = ap (λ b. option_map (with_told h (Of.Answered call)) (cond b None (Some (Answer call)))) busy

-- memory is wanted for it
pub answered_wants : {T E : Type 0} (r : Result T E) (terms : Terms) (h : Heard) (t : Plain) (call : Call) → is_some (waits h call.core) ≡ false
    → OnErr r (IsGiven (rule_of terms.any_place) t call.core call.request call.reply) → OnErr r (MayWant terms h t (Of.Answered call))
answered_wants (Ok x) terms h t call idle given = tt
answered_wants (Err e) terms h t call idle given = (Answer call, told_now h call idle, (given.0, inl given.1))

-- ---- one that waited

told_end : (h : Heard) (core : ℕ) (reply : Reply) (request : Request) → waits h core ≡ Some request
    → item_told h (Of.Ends core reply) ≡ Some (Answer (call_to core reply request))
told_end h core reply request waited = ap (option_map (λ r. Answer (call_to core reply r))) waited

after_end : (h g k : Heard) (certain : Bool) (core : ℕ) (reply : Reply) (request : Request) → waits h core ≡ Some request → g ≡ without h core
    → certain ≡ is_certain h (Of.Ends core reply) → k ≡ with_answer g certain (call_to core reply request)
    → heard_after h (Of.Ends core reply) ≡ Some k
after_end h g k certain core reply request waited after sure is =
    let call = call_to core reply request in
    ap (option_map (with_told h (Of.Ends core reply))) (told_end h core reply request waited)
    ∙ ap (λ c. Some (with_answer (without h core) c call)) (sym sure)
    ∙ ap (λ (e : Heard). Some (with_answer e certain call)) (sym after) ∙ ap Some (sym is)

pub ended_hears : (terms : Terms) (h g k : Heard) (t u : Plain) (certain : Bool) (core : ℕ) (reply : Reply) (request : Request) (turn : Turn)
    → waits h core ≡ Some request → g ≡ without h core → certain ≡ is_certain h (Of.Ends core reply)
    → JudgesCall terms g t certain (call_to core reply request) turn k u → Hears terms h t (Of.Ends core reply) turn k u
ended_hears terms h g k t u certain core reply request Legal waited after sure (is, allows) = (
  after_end h g k certain core reply request waited after sure is,
  subst (λ o. Moves terms t o u) (sym (told_end h core reply request waited)) allows,
)
ended_hears terms h g k t u certain core reply request Bad waited after sure j = absurd j
ended_hears terms h g k t u certain core reply request (Illegal i due b) waited after sure (is, same, told, refused, kept) =
    let call = call_to core reply request in (
      told_end h core reply request waited ∙ ap Some (sym is),
      same,
      told ∙ sure,
      refused,
      after_end h g (with_answer g certain call) certain core reply request waited after sure refl
          ∙ ap (λ (e : Heard). Some (with_answer e certain call)) (sym kept)
          ∙ ap (λ x. Some (with_answer k x call)) (sym told) ∙ ap (λ (x : AuditItem). Some (with_item k b x)) (sym is),
    )

pub ended_wants : {T E : Type 0} (r : Result T E) (terms : Terms) (h : Heard) (t : Plain) (core : ℕ) (reply : Reply) (request : Request)
    → waits h core ≡ Some request → OnErr r (IsGiven (rule_of terms.any_place) t core request reply)
    → OnErr r (MayWant terms h t (Of.Ends core reply))
ended_wants (Ok x) terms h t core reply request waited given = tt
ended_wants (Err e) terms h t core reply request waited given =
    (Answer (call_to core reply request), told_end h core reply request waited, (given.0, inl given.1))

pub ended_bad : (terms : Terms) (h k : Heard) (t u : Plain) (core : ℕ) (reply : Reply) → waits h core ≡ None
    → Hears terms h t (Of.Ends core reply) Bad k u
ended_bad terms h k t u core reply idle =
    ap (λ o. option_map (with_told h (Of.Ends core reply)) (option_map (λ r. Answer (call_to core reply r)) o)) idle

-- ---- a call begins to wait

pub waits_hears : (terms : Terms) (h k : Heard) (t : Plain) (core : ℕ) (request : Request) → is_some (waits h core) ≡ false
    → k ≡ with_waiting h core request → Hears terms h t (Of.Waits core request) Legal k t
waits_hears terms h k t core request idle is = (ap (λ b. cond b None (Some (with_waiting h core request))) idle ∙ ap Some (sym is), refl)

pub waits_bad : (terms : Terms) (h k : Heard) (t u : Plain) (core : ℕ) (request : Request) → is_some (waits h core) ≡ true
    → Hears terms h t (Of.Waits core request) Bad k u
waits_bad terms h k t u core request busy = ap (λ b. cond b None (Some (with_waiting h core request))) busy

-- ---- a page is copied

pub copied_hears : (terms : Terms) (h k : Heard) (t u : Plain) (certain : Bool) (page : ℕ) → certain ≡ is_certain h (Of.Copies page)
    → k ≡ with_copy h certain page → Copies t page u → Hears terms h t (Of.Copies page) Legal k u
copied_hears terms h k t u certain page sure is copies =
    (ap (λ b. Some (with_copy h b page)) (sym sure) ∙ ap Some (sym is), copies)

pub uncopied_hears : (terms : Terms) (h k : Heard) (t u : Plain) (certain : Bool) (page : ℕ) → certain ≡ is_certain h (Of.Copies page) → k ≡ h
    → u ≡ t → ((v : Plain) → ¬ Copies t page v) → Hears terms h t (Of.Copies page) (Illegal (Copy page) None certain) k u
uncopied_hears terms h k t u certain page sure is same none = (
  refl,
  same,
  sure,
  (none, tt),
  ap (λ b. Some (with_copy h b page)) (sym sure) ∙ ap (λ (e : Heard). Some (with_copy e certain page)) (sym is),
)

pub copy_wants : {T E : Type 0} (r : Result T E) (terms : Terms) (h : Heard) (t : Plain) (page : ℕ) → OnErr r ((u : Plain) × Copies t page u)
    → OnErr r (MayWant terms h t (Of.Copies page))
copy_wants (Ok x) terms h t page copies = tt
copy_wants (Err e) terms h t page copies = (Copy page, refl, copies)

-- ---- a line is passed over

pub still_hears : (terms : Terms) (h k : Heard) (t u : Plain) (core : ℕ) (turn : Turn) → u ≡ t → Passes (is_some (waits h core)) h turn k
    → Hears terms h t (Of.StillWaits core) turn k u
still_hears terms h k t u core Legal same (may, is) = (ap (λ b. cond b (Some (one_passed h)) None) may ∙ ap Some (sym is), same)
still_hears terms h k t u core Bad same (may, is) = ap (λ b. cond b (Some (one_passed h)) None) may
still_hears terms h k t u core (Illegal i due b) same p = absurd p

pub passes_hears : (terms : Terms) (h k : Heard) (t u : Plain) (turn : Turn) → u ≡ t → Passes true h turn k → Hears terms h t Of.Passes turn k u
passes_hears terms h k t u Legal same (may, is) = (ap Some (sym is), same)
passes_hears terms h k t u Bad same (may, is) = absurd (cc)
passes_hears terms h k t u (Illegal i due b) same p = absurd p

-- ---- the items so far, with the one that a line tells

-- one more that may be
allowed_push : (terms : Terms) (t m u : Plain) (cs : List AuditItem) (c : AuditItem) → AreAllowed terms t cs m
    → MayBe terms m c u → AreAllowed terms t (cs ++ c ∷ []) u
allowed_push terms t m u [] c h a = (u, subst (λ x. MayBe terms x c u) h a, refl)
allowed_push terms t m u (d ∷ cs) c h a = (h.0, h.1, allowed_push terms h.0 m u cs c h.2 a)

with_items : (h : Heard) (certain : Bool) (item : AuditItem) → (with_item h certain item).items ≡ h.items ++ item ∷ []
with_items h certain (Answer call) = refl
with_items h certain (Copy page) = refl

same_items : (terms : Terms) (first t u : Plain) (cs ds : List AuditItem) → ds ≡ cs → u ≡ t → AreAllowed terms first cs t → AreAllowed terms first ds u
same_items terms first t u cs ds is same r =
    subst (AreAllowed terms first ds) (sym same) (subst (λ l. AreAllowed terms first l t) (sym is) r)

-- where the line tells one, or may not stand here
told_moves : (terms : Terms) (first t u : Plain) (h k : Heard) (o : Option AuditItem) (f : AuditItem → Heard) → ((c : AuditItem) → (f c).items ≡ h.items ++ c ∷ [])
    → option_map f o ≡ Some k → Moves terms t o u → AreAllowed terms first h.items t → AreAllowed terms first k.items u
told_moves terms first t u h k None f adds e m r = absurd (cc)
told_moves terms first t u h k (Some c) f adds e m r =
    let same : f c ≡ k = cc in
    subst (λ l. AreAllowed terms first l u) (sym (adds c) ∙ ap (λ (x : Heard). x.items) same) (allowed_push terms first t u h.items c r m)

-- where it tells none
quiet_moves : (terms : Terms) (first t u : Plain) (h k : Heard) (b : Bool) (o p : Option Heard) → cond b o p ≡ Some k
    → (o ≡ Some k → k.items ≡ h.items) → (p ≡ Some k → k.items ≡ h.items) → u ≡ t → AreAllowed terms first h.items t
    → AreAllowed terms first k.items u
quiet_moves terms first t u h k true o p e f g same r = same_items terms first t u h.items k.items (f e) same r
quiet_moves terms first t u h k false o p e f g same r = same_items terms first t u h.items k.items (g e) same r

never : (k : Heard) (T : Type 0) → None ≡ Some k → T
never k T e = absurd (cc)

kept : (h x k : Heard) → x.items ≡ h.items → Some x ≡ Some k → k.items ≡ h.items
kept h x k is e = let same : x ≡ k = cc in ap (λ (y : Heard). y.items) (sym same) ∙ is

pub moves_on : (terms : Terms) (first t u : Plain) (h k : Heard) (said : Said) → heard_after h said ≡ Some k → Moves terms t (item_told h said) u
    → AreAllowed terms first h.items t → AreAllowed terms first k.items u
moves_on terms first t u h k Of.Blank e m r = same_items terms first t u h.items k.items (kept h h k refl e) m r
moves_on terms first t u h k (Of.Space cores frames calls) e m r = absurd (cc)
moves_on terms first t u h k (Of.File number mode len seed) e m r = absurd (cc)
moves_on terms first t u h k (Of.Answered call) e m r =
    told_moves terms first t u h k (item_told h (Of.Answered call)) (with_told h (Of.Answered call))
    (λ c. with_items h (is_certain h (Of.Answered call)) c) e m r
moves_on terms first t u h k (Of.Ends core reply) e m r =
    told_moves terms first t u h k (item_told h (Of.Ends core reply)) (with_told h (Of.Ends core reply))
    (λ c. with_items (without h core) (is_certain h (Of.Ends core reply)) c) e m r
moves_on terms first t u h k (Of.Copies page) e m r =
    told_moves terms first t u h k (item_told h (Of.Copies page)) (with_told h (Of.Copies page))
    (λ c. with_items h (is_certain h (Of.Copies page)) c) e m r
moves_on terms first t u h k (Of.Waits core request) e m r =
    quiet_moves terms first t u h k (is_some (waits h core)) None (Some (with_waiting h core request)) e (never k (k.items ≡ h.items))
    (kept h (with_waiting h core request) k refl) m r
moves_on terms first t u h k (Of.StillWaits core) e m r =
    quiet_moves terms first t u h k (is_some (waits h core)) (Some (one_passed h)) None e (kept h (one_passed h) k refl)
    (never k (k.items ≡ h.items)) m r
moves_on terms first t u h k Of.Passes e m r = same_items terms first t u h.items k.items (kept h (one_passed h) k refl e) m r
