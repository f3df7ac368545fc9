-- The proofs of what specs/ states.

-- a made pool; a sound record stays sound, and the arrays keep their lengths
pub mod Fresh
pub mod ListChecked
pub mod Outcomes
pub mod EachLine
pub mod Kept
pub mod BeginsKept
pub mod StepsKept
pub mod CallsKept
pub mod Shaped
-- what a call leaves as it was
pub mod StepsFrame
pub mod Refused
-- the first broken rule, what a check passes, and what a call asks besides soundness
pub mod Broken
pub mod Passed
pub mod Rests
-- runs, and the starred cases
pub mod Computing
pub mod SoundRuns
pub mod Cases
-- the sentences of the paper
pub mod BeginSentences
pub mod AdvanceSentences
pub mod QuestionSentences
pub mod Sentences
pub mod Unsound
-- a worker's registers advanced alone
pub mod Lent
