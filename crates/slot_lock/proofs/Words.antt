-- The words that the proofs of this crate, and of those above it, have in common
pub use Rattle.std.proofs.Common.{Bool, Box, Err, List, None, Ok, Option, Result, Some, [], ap, arith, cond, drop, false, get_or, inl, inr, is_some, length}
pub use Rattle.std.proofs.Common.{map, max, min, nat_lt, not, refl, rules, set, subst, suc, sym, take, true, zero, ℕ, ⊎_elim, ◌%◌, ◌*◌, ◌++◌, ◌+◌, ◌-◌, ◌/◌}
pub use Rattle.std.proofs.Common.{◌<◌, ◌==◌, ◌^◌, ◌||◌, ◌↔◌, ◌∙◌, ◌∷◌, ◌≡◌, ◌≢◌, ◌≤◌, ◌⊎◌}
pub use Rattle.std.proofs.Math.Nat.{mul-le-mul_right}
pub use Rattle.std.proofs.Math.Path.{fun_ext}
pub use Rattle.std.proofs.lemmas.Bool.{cases_eq, cases_lt}
pub use Rattle.std.proofs.lemmas.Bool.Decides.{nat_tests}
pub use Rattle.std.proofs.lemmas.List.{get_or-map, get_or-set_same, get_or_default, length-append, length-map, length-set, map-append, map-set, set-get_or}
pub use Rattle.std.proofs.lemmas.List.{take_all, take_more}
pub use Rattle.std.proofs.lemmas.List.Elements.{All-append, All-get_or, All-set}
pub use Rattle.std.specs.List.{remove}
pub use Rattle.std.specs.Prelude.{All, IfSome, IsSome, IsTrue, OnOk, if◌then◌else◌}
pub use Rattle.std.specs.Sync.Mutex.{mutex_guard_value}
pub use Rattle.std.specs.declared.sync.MutexGuard.{MutexGuard}
pub use Rattle.vm_base.proofs.Functions.{by_test, eq_false, eq_true, has_in, in_has, put_other, put_same}
pub use Rattle.vm_base.specs.Answers.{Answers}
pub use Rattle.vm_base.specs.Apply.{Applies, AppliesAfter, HasPage, entry_reply, is_absent, is_read_only, meta_of}
pub use Rattle.vm_base.specs.Cores.{members}
pub use Rattle.vm_base.specs.Functions.{has, put}
pub use Rattle.vm_base.specs.Info.{advance, advance_back, file_page, frame_of, info_file_page, info_from, info_with_prot, is_leaf, is_recorded, unused}
pub use Rattle.vm_base.specs.Pages.{IsPage, IsPageRange, are_pages, is_page, page_count, page_of, pages_from, pages_of, window_of}
pub use Rattle.vm_base.specs.Places.{IsFree, IsLeastRoom, IsRoom}
pub use Rattle.vm_base.specs.Plain.{Bytes, PageEntry, File, Plain, bytes_of, is_mapped, mode_of}
pub use Rattle.vm_base.specs.Refusals.{refusal}
pub use Rattle.vm_base.specs.Runs.{NoneIn}
pub use Rattle.vm_base.specs.declared.info.Back.{Back}
pub use Rattle.vm_base.specs.declared.info.Back.TheVariants.{Anon, Private, Shared}
pub use Rattle.vm_base.specs.declared.info.Meta.{Meta}
pub use Rattle.vm_base.specs.declared.info.PageInfo.{PageInfo}
pub use Rattle.vm_base.specs.declared.page.PageRange.{PageRange}
pub use Rattle.vm_base.specs.declared.replies.Errno.TheVariants.{EACCES, ENOMEM}
pub use Rattle.vm_base.specs.declared.replies.Reply.{Reply}
pub use Rattle.vm_base.specs.declared.replies.Reply.TheVariants.{Bus, Byte, Done, Mapped, NoFrame, NoMemory, Refused, Segv}
pub use Rattle.vm_base.specs.declared.replies.SegvCode.TheVariants.{MapErr}
pub use Rattle.vm_base.specs.declared.requests.Flags.{Flags}
pub use Rattle.vm_base.specs.declared.requests.Request.{Request}
pub use Rattle.vm_base.specs.declared.requests.Request.TheVariants.{Mmap, Mprotect, Munmap}
pub use Rattle.vm_base.specs.declared.rights.Access.{Access}
pub use Rattle.vm_base.specs.declared.rights.Access.TheVariants.{Fetch, Load, Store}
pub use Rattle.vm_base.specs.declared.rights.Mode.{Mode}
pub use Rattle.vm_base.specs.declared.rights.Prot.{Prot}
