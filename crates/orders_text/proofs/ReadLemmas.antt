-- What one line leaves.
use Rattle.std.proofs.Common.{◌≡◌, ◌≢◌, ℕ, suc, ◌<◌, ◌≤◌, Bool, true, false, cond, List, [], ◌∷◌, ◌++◌, Option, None, Some, Result, Ok, Err, IfErr, OnOk}
use Rattle.std.proofs.Common.{ap, arith, nat_lt, refl, subst, sym, ◌∙◌}
use Rattle.std.specs.Prelude.{◌&&◌, option_map, replicate}
use Rattle.std.proofs.lemmas.Bool.Decides.{nat_tests}
use Rattle.audit_text.specs.Heard.{Declared, undeclared, with_file, with_space}
use Rattle.audit_text.specs.declared.declaring.Declares.{Declares}
use Rattle.audit_text.specs.declared.declaring.Declares.TheVariants as Is
use Rattle.audit_text.specs.declared.reading.Said.{Said}
use Rattle.audit_text.specs.declared.reading.Said.TheVariants as Says
use Rattle.orders.specs.declared.history.Timed.{Timed}
use Rattle.orders_text.specs.History.{Read, declared_after, may_stamp, part_after, read_after, unread, with_call, with_declared}
use Rattle.orders_text.specs.declared.clock.PendingCall.{PendingCall}
use Rattle.orders_text.specs.declared.clock.Clock.{Clock}
use Rattle.orders_text.specs.declared.clock.Clock.TheVariants.{Unset, Stamps, Lines}
use Rattle.orders_text.specs.Faults.{IsOutOfPlace}
use Rattle.orders_text.specs.Lines.{needs_space}
use Rattle.orders_text.specs.Steps.{ComesTo, Refuses}
use Rattle.orders_text.specs.declared.faults.HistoryFault.{HistoryFault}
use Rattle.orders_text.specs.declared.faults.HistoryFault.TheVariants.{BadLine, TooLong, NoVmLine, Backwards, Overlap, Io}
use Rattle.orders_text.specs.declared.lines.HistoryLine.{HistoryLine}
use Rattle.orders_text.specs.declared.lines.HistoryLine.TheVariants.{Part, Timed as TimedCall}

-- nothing is read at first
pub none_read : (d : Declared) (k : Clock) (ws : List (Option PendingCall)) (cs : List Timed) (ls : List ℕ) → d ≡ undeclared → k ≡ Unset
    → ws ≡ replicate 64 None → cs ≡ [] → ls ≡ [] → record { declared = d; clock = k; waiting = ws; calls = cs; lines = ls } ≡ unread
none_read d k ws cs ls e f g h i =
    ap (λ (x : Declared). record { declared = x; clock = k; waiting = ws; calls = cs; lines = ls }) e
    ∙ ap (λ (x : Clock). record { declared = undeclared; clock = x; waiting = ws; calls = cs; lines = ls }) f
    ∙ ap (λ (x : List (Option PendingCall)). record { declared = undeclared; clock = Unset; waiting = x; calls = cs; lines = ls }) g
    ∙ ap (λ (x : List Timed). record { declared = undeclared; clock = Unset; waiting = replicate 64 None; calls = x; lines = ls }) h
    ∙ ap (λ (x : List ℕ). record { declared = undeclared; clock = Unset; waiting = replicate 64 None; calls = []; lines = x }) i

-- ---- declarations

-- a said that isn't blank, in front of all calls
declares_so : (n : ℕ) (r : Read) (said : Said) → said ≢ Says.Blank → r.clock ≡ Unset
    → read_after n r (Part said) ≡ option_map (with_declared r) (part_after r.declared said)
declares_so n r said b e = go said b (ap (λ k. declared_after r k said) e)
  where
    go : (s : Said) → s ≢ Says.Blank → declared_after r r.clock s ≡ declared_after r Unset s
        → read_after n r (Part s) ≡ option_map (with_declared r) (part_after r.declared s)
    go Says.Blank b h = absurd (b refl)
    go s b h = h

-- after a line of a declaration came to this
pub declared_ok : (n : ℕ) (r : Read) (e : Declared) (said : Said) (res : Result Unit HistoryFault) (d : Declares) → said ≢ Says.Blank → r.clock ≡ Unset
    → (d ≡ Is.Part → part_after r.declared said ≡ Some e) → ComesTo d n res → OnOk res (read_after n r (Part said) ≡ Some (with_declared r e))
declared_ok n r e said (Ok u) Is.Part b calls part comes = declares_so n r said b calls ∙ ap (option_map (with_declared r)) (part refl)
declared_ok n r e said (Ok u) Is.Bad b calls part comes = absurd comes
declared_ok n r e said (Ok u) Is.Ended b calls part comes = absurd comes
declared_ok n r e said (Err f) d b calls part comes = tt

bad_line : (n : ℕ) (r : Read) (told : HistoryLine) (f : HistoryFault) → f ≡ BadLine n → IsOutOfPlace n r told → Refuses n r told f
bad_line n r told f e h = subst (λ x. Refuses n r told x) (sym e) (refl, h)

pub declared_err : (n : ℕ) (r : Read) (said : Said) (res : Result Unit HistoryFault) (d : Declares) → said ≢ Says.Blank → r.clock ≡ Unset
    → (needs_space (Part said) ≡ true → r.declared.has_space ≡ true) → (d ≡ Is.Bad → part_after r.declared said ≡ None)
    → (d ≡ Is.Ended → (r.declared.has_space ≡ false) × (needs_space (Part said) ≡ true)) → ComesTo d n res
    → IfErr res (λ f. Refuses n r (Part said) f)
declared_err n r said (Ok u) d b calls space bad ended comes = tt
declared_err n r said (Err f) Is.Part b calls space bad ended comes = absurd comes
declared_err n r said (Err f) Is.Bad b calls space bad ended comes = bad_line n r (Part said) f comes (record {
  refused = declares_so n r said b calls ∙ ap (option_map (with_declared r)) (bad refl);
  space = space;
  forward = λ h. h;
})
declared_err n r said (Err f) Is.Ended b calls space bad ended comes = subst (λ x. Refuses n r (Part said) x) (sym comes) (ended refl)

-- one that is no declaration's
pub other_refused : (n : ℕ) (r : Read) (said : Said) → said ≢ Says.Blank → r.clock ≡ Unset
    → (needs_space (Part said) ≡ true → r.declared.has_space ≡ true) → part_after r.declared said ≡ None
    → Refuses n r (Part said) (BadLine n)
other_refused n r said b calls space none = bad_line n r (Part said) (BadLine n) refl (record {
  refused = declares_so n r said b calls ∙ ap (option_map (with_declared r)) none;
  space = space;
  forward = λ h. h;
})

-- behind calls or events
pub late_refused : (n : ℕ) (r : Read) (said : Said) → said ≢ Says.Blank → r.clock ≢ Unset
    → (needs_space (Part said) ≡ true → r.declared.has_space ≡ true) → Refuses n r (Part said) (BadLine n)
late_refused n r said b some space =
    bad_line n r (Part said) (BadLine n) refl (record { refused = go said b; space = space; forward = λ h. h })
  where
    late : (s : Said) (k : Clock) → k ≡ r.clock → declared_after r k s ≡ None
    late s Unset e = absurd (some (sym e))
    late s k e = refl

    go : (s : Said) → s ≢ Says.Blank → read_after n r (Part s) ≡ None
    go Says.Blank b = absurd (b refl)
    go s b = late s r.clock refl

-- ---- calls with stamps

pub call_read : (n : ℕ) (r q : Read) (c : Timed) → r.declared.has_space ≡ true → may_stamp r.clock ≡ true → c.begin < c.end
    → q ≡ with_call Stamps n r c → read_after n r (TimedCall c) ≡ Some q
call_read n r q c space may forward e =
    let less : nat_lt c.begin c.end ≡ true = grind (arith, nat_tests, forward) in
    ap (λ b. cond (b && may_stamp r.clock && nat_lt c.begin c.end) (Some (with_call Stamps n r c)) None) space
    ∙ ap (λ b. cond (b && nat_lt c.begin c.end) (Some (with_call Stamps n r c)) None) may
    ∙ ap (λ b. cond b (Some (with_call Stamps n r c)) None) less ∙ sym (ap Some e)

-- a text of events has none
pub call_late : (n : ℕ) (r : Read) (c : Timed) → r.declared.has_space ≡ true → c.begin < c.end → may_stamp r.clock ≡ false
    → Refuses n r (TimedCall c) (BadLine n)
call_late n r c space less late = bad_line n r (TimedCall c) (BadLine n) refl (record {
  refused = go r.declared.has_space late;
  space = λ needs. space;
  forward = λ h. omega (arith, h, less);
})
  where
    go : (s : Bool) → may_stamp r.clock ≡ false
        → cond (s && may_stamp r.clock && nat_lt c.begin c.end) (Some (with_call Stamps n r c)) None ≡ None
    go true e = ap (λ b. cond (b && nat_lt c.begin c.end) (Some (with_call Stamps n r c)) None) e
    go false e = refl
