-- What is answered of a call on a record that is lent.
use Rattle.std.specs.Prelude.{Result, Ok, Err}
use Rattle.pool.specs.declared.Answer.{Answer}
use Rattle.pool.specs.declared.Refused.{Refused}
use Rattle.pool.specs.Answers.{Said, said, refused, number_of}

abbrev pub answered : Result Answer Refused → Said
answered (Ok a) = said a
answered (Err r) = refused (number_of r.refusal) r.place
