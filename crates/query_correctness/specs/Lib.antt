pub mod Within
pub mod BookAnswers
pub mod Reply
pub mod ReplyLaws
pub mod TrailQuery
pub mod BindingReply
pub mod BindingReplyLaws
pub mod OneReply
