-- What other crates cite of `table`: the laws of flags, counts and gathered lists, of the order of lists, of runs, repairs, locks
-- and the answer, of tasks, of repair numbers, and of what is given into lent room. And the worked examples, for a reader.
pub mod FlagLaws
pub mod RefusalLaws
pub mod WhyLaws
pub mod AcceptedLaws
pub mod ReplyLaws
pub mod SettingLaws
pub mod OutcomeLaws
pub mod CountingLaws
pub mod GatherLaws
pub mod OrderLaws
pub mod RunLaws
pub mod RepairLaws
pub mod AnswerLaws
pub mod LockLaws
pub mod PublishedLaws
pub mod JoinLaws
pub mod Formation
mod PassLaws
pub mod RepairNumbers
pub mod Strides
pub mod ContractLaws
pub mod Called
pub mod DecidingLaws
pub mod Worked
