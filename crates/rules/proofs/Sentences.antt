-- The sentences of the paper hold. Assumes nothing.
use Rattle.rules.specs.Sentences.{Sentences}
use Rattle.rules.proofs.BeginSentences.{begin_sentences}
use Rattle.rules.proofs.AdvanceSentences.{advance_sentences}
use Rattle.rules.proofs.QuestionSentences.{question_sentences}

pub sentences : Sentences
sentences = record { begins = begin_sentences; advances = advance_sentences; questions = question_sentences }
