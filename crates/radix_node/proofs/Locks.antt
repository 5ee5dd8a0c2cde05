-- A slot that a core tries to lock
use Rattle.std.proofs.Common.{ℕ, Option, Some}
use Rattle.radix_node.specs.declared.lock.Lock.{Lock}
use Rattle.radix_node.specs.declared.lock.Lock.TheVariants.{Locked}
use Rattle.radix_node.specs.State.{State}
use Rattle.radix_node.specs.Run.{FitsWidth}
use Rattle.radix_node.specs.Lock.{after_lock}

pub owner_sound : (w : ℕ) (s : State) (owner : Option ℕ) → FitsWidth w s
    → FitsWidth w (record { info = s.info; owner = owner })
owner_sound w s owner h = record { fits = h.fits; alone = h.alone }

pub lock_sound : (w core : ℕ) (l : Lock) (s : State) → FitsWidth w s → FitsWidth w (after_lock l core s)
lock_sound w core (Locked width) s h = owner_sound w s (Some core) h
lock_sound w core l s h = h
