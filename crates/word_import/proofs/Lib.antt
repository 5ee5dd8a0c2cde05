mod JoinedLemmas
mod RepliedLemmas
mod TimeLemmas
