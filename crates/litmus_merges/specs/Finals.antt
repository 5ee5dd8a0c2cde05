-- What loads show at the end
use Rattle.std.specs.Prelude.{◌≡◌, ℕ, List, Option, Some, map}
use Rattle.vm_base.specs.declared.rights.Access.TheVariants.{Load}
use Rattle.vm_base.specs.declared.replies.Reply.{Reply}
use Rattle.vm_base.specs.declared.requests.Request.TheVariants.{Load as LoadOf}
use Rattle.vm_base.specs.Apply.{access_reply}
use Rattle.vm_base.specs.Plain.{Plain}
use Rattle.litmus_merges.specs.declared.asked.Asked.{Asked}
use Rattle.litmus_merges.specs.Merging.{IsCombination}

-- what loads of these addresses are answered on a map
abbrev pub loaded : Plain → List ℕ → List (Option Reply)
loaded u addrs = map (λ addr. access_reply u addr Load) addrs

-- loads of these addresses show this
abbrev pub AreShown : Plain → List ℕ → List Reply → Type 0
AreShown u addrs replies = loaded u addrs ≡ map Some replies

-- loads of these addresses by a core, one after another
abbrev pub loads_by : ℕ → List ℕ → List Asked
loads_by core addrs = map (λ addr. record { core = core; request = LoadOf addr }) addrs

-- a combination that these loads can have is what they show
abbrev pub LoadsShow : Type 0
LoadsShow = (u : Plain) (core : ℕ) (addrs : List ℕ) (replies : List Reply)
    → IsCombination (loads_by core addrs) u replies → AreShown u addrs replies
