-- Seats that are of a space
use Rattle.std.proofs.Common.{◌≡◌, ℕ, ◌+◌, ◌<◌, List, [], ◌∷◌, ◌++◌, true, get_or, refl, sym, ap, subst, ◌∙◌, arith}
use Rattle.std.specs.Prelude.{All}
use Rattle.machine_model.specs.declared.event.Event.TheVariants.{Go}
use Rattle.machine_model.specs.declared.event.Event.{Event}
use Rattle.machine_model.specs.declared.event.Event.TheVariants.{Call}
use Rattle.machine_model.specs.declared.event.Outcome.TheVariants.{Stepped}
use Rattle.seats.specs.Growing.{IsSame, OneCall, is_step}
use Rattle.seats.specs.Notes.{SeatView, noted, with_note}
use Rattle.seats.proofs.Growing.{own_after, own_core}
use Rattle.vm_base.specs.declared.replies.Reply.{Reply}
use Rattle.vm_base.specs.declared.requests.Request.{Request}
use Rattle.live_pages.specs.Ending.{Ends}
use Rattle.live_pages.proofs.Ending.{one_call}
use Rattle.live_space.specs.Space.{AreFresh, IsOf, LiveView}

-- fresh seats of the space's word, one for each of its cores, are the space's
pub fresh_own : (l : LiveView) (n : ℕ) (ss : List SeatView) → l.cores ≡ n → AreFresh l.word n ss → All (IsOf l) ss
fresh_own l n ss e h k d lt =
    let few : k < n = omega (arith, lt, h.count) in
    let f = h.each k d few in record {
      word = f.word;
      core = omega (arith, e, f.core, few);
      plain = f.plain ∙ ap Go (sym f.core);
    }

-- ---- a call of one of them

pub still_own : (l : LiveView) (s t : SeatView) → IsOf l s → IsSame s t → IsOf l t
still_own l s t h same = record {
  word = same.word ∙ h.word;
  core = subst (λ n. n < l.cores) (sym same.core) h.core;
  plain = same.plain ∙ (h.plain ∙ ap Go (sym same.core));
}

-- room was made
pub kept_own : (l : LiveView) (s t : SeatView) → IsOf l s → t ≡ record s { room = t.room } → IsOf l t
kept_own l s t h made =
    let core : t.core ≡ s.core = ap (λ (v : SeatView). v.core) made in
    record {
      word = ap (λ (v : SeatView). v.word) made ∙ h.word;
      core = subst (λ n. n < l.cores) (sym core) h.core;
      plain = ap (λ (v : SeatView). v.plain) made ∙ (h.plain ∙ ap Go (sym core));
    }

-- its plain steps are its core's
own_steps : (l : LiveView) (s : SeatView) → IsOf l s → is_step s.core s.plain Stepped ≡ true
own_steps l s h = subst (λ (e : Event). is_step s.core e Stepped ≡ true) (sym h.plain) (own_core s.core s.core refl)

-- room was made, the call began, and the rest of it was noted
pub call_noted : (l : LiveView) (s r b t : SeatView) (request : Request) (reply : Reply) (first : ℕ) → IsOf l s → r ≡ record s { room = r.room }
    → b ≡ record (with_note r (noted first (Call r.core request) Stepped)) { begun = r.begun + 1 } → Ends b reply t → OneCall s request reply t
call_noted l s r b t request reply first own made began e =
    one_call s b t request reply first same begins (own_after s b same (own_steps l s own)) e
  where
    same : IsSame s b
    same = record {
      word = ap (λ (v : SeatView). v.word) began ∙ ap (λ (v : SeatView). v.word) made;
      spare = ap (λ (v : SeatView). v.spare) began ∙ ap (λ (v : SeatView). v.spare) made;
      core = ap (λ (v : SeatView). v.core) began ∙ ap (λ (v : SeatView). v.core) made;
      plain = ap (λ (v : SeatView). v.plain) began ∙ ap (λ (v : SeatView). v.plain) made;
    }

    begins : b.notes ≡ s.notes ++ noted first (Call s.core request) Stepped ∷ []
    begins = ap (λ (v : SeatView). v.notes) began
        ∙ ap (λ (v : SeatView). v.notes ++ noted first (Call v.core request) Stepped ∷ []) made
