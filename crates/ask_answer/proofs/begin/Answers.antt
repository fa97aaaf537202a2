-- What is said of the numbers, and the rows that the header asks for.
use Rattle.ask_answer.proofs.Handed.{begins, ends_there}
use Rattle.ask_answer.proofs.begin.Goals as goal

pub returns-in-Some : goal.returns-in-Some
returns-in-Some c = begins c.open-opening.ensures c.in-Some.is c.word_at-from.ensures c.word_at-most.ensures c.with_numbers.ensures

pub returns-in-None : goal.returns-in-None
returns-in-None c = ends_there c.open-opening.ensures c.in-None.is
