pub mod EndLemmas
pub mod RuleLemmas
pub mod ReplyLemmas
pub mod AuditLemmas
pub mod StoryLemmas
