-- What is seen of a map at the end
use Rattle.std.specs.Prelude.{◌≡◌, ℕ, Bool, true, false, List, []}
use Rattle.vm_base.specs.declared.replies.Reply.{Reply}
use Rattle.vm_base.specs.Plain.{Plain}
use Rattle.slot_lock.specs.declared.map_list.MapLine.{MapLine}
use Rattle.slot_lock.specs.MapList.{IsMapList, plain_metas}
use Rattle.litmus_merges.specs.Finals.{AreShown}

-- these are all mappings of the map, in order, where they are asked for; and else none
abbrev pub AreMaps : Bool → Plain → List MapLine → Type 0
AreMaps true u lines = IsMapList (plain_metas u) lines
AreMaps false u lines = lines ≡ []

-- loads of these addresses show this, and these are the mappings, where they are asked for
abbrev pub IsSight : Plain → List ℕ → Bool → List Reply → List MapLine → Type 0
IsSight u addrs maps finals lines = AreShown u addrs finals × AreMaps maps u lines
