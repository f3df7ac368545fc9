-- `numbers_in` meets its contract: there are as many numbers, whether every word is one or not.
use Rattle.grammar.proofs.Said.{numbers_ok, numbers_err, numbers_listed}
use Rattle.grammar.proofs.numbers_in.Goals as goal

pub returns-in-Ok : goal.returns-in-Ok
returns-in-Ok c = (numbers_ok _ _ _ c.stop.ensures.value _ c.in-Ok.ensures.value, numbers_listed _ _ _ c.stop.ensures.value _ _ c.put_numbers.ensures.list_after)

pub returns-in-Err : goal.returns-in-Err
returns-in-Err c = (numbers_err _ _ _ c.stop.ensures.value _ c.in-Err.ensures.value, numbers_listed _ _ _ c.stop.ensures.value _ _ c.put_numbers.ensures.list_after)
