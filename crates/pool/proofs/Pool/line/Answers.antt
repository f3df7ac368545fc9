-- `pool::Pool::line` meets its contract: each arm by the line of its label. Assumes nothing.
use Rattle.std.proofs.Common.{length, refl, ◌∙◌, ne_eqb, arith}
use Rattle.basics.specs.Pick.{when}
use Rattle.pool.specs.Answers.{after_check}
use Rattle.pool.specs.Steps.{line_of, line_check}
use Rattle.pool.proofs.Dispatch.{list_unwritten, own_rest}
use Rattle.pool.proofs.Standing.{ready, none_before}
use Rattle.pool.proofs.Pool.line.Goals as goal

pub line2-requires : goal.line2-requires
line2-requires c = ready c.args.self.now c.args.k.at 2 c.requires c.in-2.is refl

pub returns-in-2-clause-outcome : goal.returns-in-2-clause-outcome
unfolding line_of line_check when after_check
returns-in-2-clause-outcome c = rw c.in-2.is c.line2.ensures

pub returns-in-2-clause-list : goal.returns-in-2-clause-list
returns-in-2-clause-list c = list_unwritten c.args.k.at c.args.self.now c.args.out.now (rw c.in-2.is refl)

pub returns-in-5-clause-outcome : goal.returns-in-5-clause-outcome
unfolding line_of line_check when after_check
returns-in-5-clause-outcome c = rw c.in-5.is c.line5.ensures

pub returns-in-5-clause-list : goal.returns-in-5-clause-list
returns-in-5-clause-list c = list_unwritten c.args.k.at c.args.self.now c.args.out.now (rw c.in-5.is refl)

pub line6-requires : goal.line6-requires
line6-requires c = ready c.args.self.now c.args.k.at 6 c.requires c.in-6.is refl

pub returns-in-6-clause-outcome : goal.returns-in-6-clause-outcome
unfolding line_of line_check when after_check
returns-in-6-clause-outcome c = rw c.in-6.is c.line6.ensures

pub returns-in-6-clause-list : goal.returns-in-6-clause-list
returns-in-6-clause-list c = list_unwritten c.args.k.at c.args.self.now c.args.out.now (rw c.in-6.is refl)

pub line7-requires : goal.line7-requires
line7-requires c = ready c.args.self.now c.args.k.at 7 c.requires c.in-7.is refl

pub returns-in-7-clause-outcome : goal.returns-in-7-clause-outcome
unfolding line_of line_check when after_check
returns-in-7-clause-outcome c = rw c.in-7.is c.line7.ensures

pub returns-in-7-clause-list : goal.returns-in-7-clause-list
returns-in-7-clause-list c = list_unwritten c.args.k.at c.args.self.now c.args.out.now (rw c.in-7.is refl)

pub returns-in-8-clause-outcome : goal.returns-in-8-clause-outcome
unfolding line_of line_check when after_check
returns-in-8-clause-outcome c = rw c.in-8.is c.ends.ensures

pub returns-in-8-clause-list : goal.returns-in-8-clause-list
returns-in-8-clause-list c = list_unwritten c.args.k.at c.args.self.now c.args.out.now (rw c.in-8.is refl)

pub line9-requires : goal.line9-requires
line9-requires c = ready c.args.self.now c.args.k.at 9 c.requires c.in-9.is refl

pub returns-in-9-clause-outcome : goal.returns-in-9-clause-outcome
unfolding line_of line_check when after_check
returns-in-9-clause-outcome c = rw c.in-9.is c.line9.ensures

pub returns-in-9-clause-list : goal.returns-in-9-clause-list
returns-in-9-clause-list c = list_unwritten c.args.k.at c.args.self.now c.args.out.now (rw c.in-9.is refl)

pub returns-in-10-clause-outcome : goal.returns-in-10-clause-outcome
unfolding line_of line_check when after_check
returns-in-10-clause-outcome c = rw c.in-10.is c.ends-in-10.ensures

pub returns-in-10-clause-list : goal.returns-in-10-clause-list
returns-in-10-clause-list c = list_unwritten c.args.k.at c.args.self.now c.args.out.now (rw c.in-10.is refl)

pub line18-requires : goal.line18-requires
line18-requires c = ready c.args.self.now c.args.k.at 18 c.requires c.in-18.is refl

pub returns-in-18-clause-outcome : goal.returns-in-18-clause-outcome
unfolding line_of line_check when after_check
returns-in-18-clause-outcome c = rw c.in-18.is c.line18.ensures

pub returns-in-18-clause-list : goal.returns-in-18-clause-list
returns-in-18-clause-list c = list_unwritten c.args.k.at c.args.self.now c.args.out.now (rw c.in-18.is refl)

pub line28-requires : goal.line28-requires
line28-requires c = ready c.args.self.now c.args.k.at 28 c.requires c.in-28.is refl

pub returns-in-28-clause-outcome : goal.returns-in-28-clause-outcome
unfolding line_of line_check when after_check
returns-in-28-clause-outcome c = rw c.in-28.is c.line28.ensures

pub returns-in-28-clause-list : goal.returns-in-28-clause-list
returns-in-28-clause-list c = list_unwritten c.args.k.at c.args.self.now c.args.out.now (rw c.in-28.is refl)

pub returns-in-32-clause-outcome : goal.returns-in-32-clause-outcome
unfolding line_of line_check when
returns-in-32-clause-outcome c = rw c.in-32.is c.line32.ensures.outcome

pub returns-in-32-clause-list : goal.returns-in-32-clause-list
unfolding line_check when
returns-in-32-clause-list c = rw c.in-32.is c.line32.ensures.list

pub returns-in_default-clause-outcome : goal.returns-in_default-clause-outcome
returns-in_default-clause-outcome c =
    c.own_line.ensures
    ∙ own_rest c.args.k.at c.args.self.now c.requires (length c.args.out.now) (λ e. omega arith) (λ n4 n12 n13 n15 n22 n25 n31.
    none_before _ (λ e. omega arith) n4 (λ e. omega arith) (λ e. omega arith) (λ e. omega arith) (λ e. omega arith) (λ e. omega arith) (λ e. omega arith)
    n12 n13 n15 (λ e. omega arith) n22 n25 (λ e. omega arith) n31)

pub returns-in_default-clause-list : goal.returns-in_default-clause-list
returns-in_default-clause-list c = list_unwritten c.args.k.at c.args.self.now c.args.out.now (ne_eqb _ 32 (λ e. omega arith))
