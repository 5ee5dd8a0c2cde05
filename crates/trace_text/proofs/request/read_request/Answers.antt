use Rattle.std.proofs.Common.{rules}
use Rattle.trace_text.proofs.FrontLemmas.{load_named, store_named, fetch_named, mmap_named, munmap_named, mprotect_named}
use Rattle.trace_text.proofs.request.read_request.Goals as goal

pub returns-in-Some : goal.returns-in-Some
returns-in-Some c =
    let named = load_named c.args.words.now c.trimmed-bytes.result.now c.in-Some.args.now c.trimmed-bytes.ensures c.in-Some.ensures in
    search (rules, named)

pub returns-in-Some-behind_store : goal.returns-in-Some-behind_store
returns-in-Some-behind_store c =
    let named = store_named c.args.words.now c.trimmed-bytes.result.now c.in-Some-behind_store.args.now c.trimmed-bytes.ensures
    c.in-Some-behind_store.ensures in
    search (rules, named)

pub returns-in-Some-behind_fetch : goal.returns-in-Some-behind_fetch
returns-in-Some-behind_fetch c =
    let named = fetch_named c.args.words.now c.trimmed-bytes.result.now c.in-Some-behind_fetch.args.now c.trimmed-bytes.ensures
    c.in-Some-behind_fetch.ensures in
    search (rules, named)

pub returns-in-Some-behind_mmap : goal.returns-in-Some-behind_mmap
returns-in-Some-behind_mmap c =
    let named = mmap_named c.args.words.now c.trimmed-bytes.result.now c.in-Some-behind_mmap.args.now c.trimmed-bytes.ensures c.in-Some-behind_mmap.ensures in
    search (rules, named)

pub returns-in-Some-behind_munmap : goal.returns-in-Some-behind_munmap
returns-in-Some-behind_munmap c =
    let named = munmap_named c.args.words.now c.trimmed-bytes.result.now c.in-Some-behind_munmap.args.now c.trimmed-bytes.ensures
    c.in-Some-behind_munmap.ensures in
    search (rules, named)

pub returns-in-Some-behind_mprotect : goal.returns-in-Some-behind_mprotect
returns-in-Some-behind_mprotect c =
    let named = mprotect_named c.args.words.now c.trimmed-bytes.result.now c.in-Some-behind_mprotect.args.now c.trimmed-bytes.ensures
    c.in-Some-behind_mprotect.ensures in
    search (rules, named)
