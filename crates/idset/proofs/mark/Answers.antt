-- As `with` and `has`, on words that are lent: that they are words is what `MarksAlone` gives.
use Rattle.idset.specs.Members.{set_in}
use Rattle.idset.proofs.Members.{formed_by}
use Rattle.idset.proofs.Words.{with_at, with_nowhere, has_at, has_nowhere}
use Rattle.idset.proofs.mark.Goals as goal

pub returns-in_default-clause-marked : goal.returns-in_default-clause-marked
returns-in_default-clause-marked c = λ e. search (with_nowhere, formed_by)

pub returns-in_default-clause-met : goal.returns-in_default-clause-met
returns-in_default-clause-met c = search has_nowhere

pub returns-clause-marked : goal.returns-clause-marked
returns-clause-marked c = λ e. with_at (set_in c.args.words.now) c.args.id c.place_of.ensures.place (formed_by _ e) c.in-Some.is

pub returns-clause-met : goal.returns-clause-met
returns-clause-met c = has_at (set_in c.args.words.now) c.args.id c.place_of.ensures.place c.in-Some.is
