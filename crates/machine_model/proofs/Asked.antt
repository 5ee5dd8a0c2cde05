-- What a call serves, where requests come
use Rattle.machine_model.proofs.Words.{ℕ, Some, None, Option, List, [], ◌∷◌, ◌++◌, Request, Plan, Phase, Check, Lock, Guess, Find, Cut, Decide, Post}
use Rattle.machine_model.proofs.Words.{Acks, Try, Settle, Want, Fill, CopyPost, CopyAcks, Install, Release, Made}
use Rattle.machine_model.specs.declared.phase.Phase.TheVariants.{Back}
use Rattle.machine_model.specs.Holding.{plan_in}
use Rattle.machine_model.specs.Orderly.{IsAsked, ServesSome}
use Rattle.machine_model.proofs.Numbered.{at_old}

serves_more : (made : Made) (rs : List Request) (r : Request) (c n : ℕ) (plan : Option Plan) → ServesSome made rs c n plan
    → ServesSome made (rs ++ r ∷ []) c n plan
serves_more made rs r c n None h = h
serves_more made rs r c n (Some plan) h = record { request = h.request; number = at_old rs r n h.request h.number; passed = h.passed }

-- one request more changes nothing for the calls begun before
pub asked_more : (made : Made) (rs : List Request) (r : Request) (c n : ℕ) (phase : Phase) → IsAsked made rs c n phase → IsAsked made (rs ++ r ∷ []) c n phase
asked_more made rs r c n (Check request) h = at_old rs r n request h
asked_more made rs r c n (Lock goal cursor) h = serves_more made rs r c n (plan_in (Lock goal cursor)) h
asked_more made rs r c n (Guess place) h = serves_more made rs r c n (plan_in (Guess place)) h
asked_more made rs r c n (Find place target) h = serves_more made rs r c n (plan_in (Find place target)) h
asked_more made rs r c n (Back place target held) h = serves_more made rs r c n (plan_in (Back place target held)) h
asked_more made rs r c n (Cut place target range) h = serves_more made rs r c n (plan_in (Cut place target range)) h
asked_more made rs r c n (Decide change) h = serves_more made rs r c n (plan_in (Decide change)) h
asked_more made rs r c n (Post change shoot) h = serves_more made rs r c n (plan_in (Post change shoot)) h
asked_more made rs r c n (Acks goal change) h = serves_more made rs r c n (plan_in (Acks goal change)) h
asked_more made rs r c n (Try touch) h = serves_more made rs r c n (plan_in (Try touch)) h
asked_more made rs r c n (Settle touch) h = serves_more made rs r c n (plan_in (Settle touch)) h
asked_more made rs r c n (Want touch old) h = serves_more made rs r c n (plan_in (Want touch old)) h
asked_more made rs r c n (CopyPost touch f) h = serves_more made rs r c n (plan_in (CopyPost touch f)) h
asked_more made rs r c n (CopyAcks touch f) h = serves_more made rs r c n (plan_in (CopyAcks touch f)) h
asked_more made rs r c n (Fill touch frame) h = serves_more made rs r c n (plan_in (Fill touch frame)) h
asked_more made rs r c n (Install touch) h = serves_more made rs r c n (plan_in (Install touch)) h
asked_more made rs r c n (Release touch) h = serves_more made rs r c n (plan_in (Release touch)) h
asked_more made rs r c n _ h = h
