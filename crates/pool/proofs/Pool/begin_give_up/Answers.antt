-- `pool::Pool::begin_give_up` meets its contract: the begin's check, then the list's. Assumes nothing.
use Rattle.std.proofs.Common.{◌≡◌, ◌-◌, length, ap, ◌∙◌, rules}
use Rattle.pool.specs.Answers.{verdict}
use Rattle.pool.specs.Checks.{give_up_check}
use Rattle.pool.specs.Begins.{give_up_of}
use Rattle.pool.proofs.Told.{after_on, after_fine, first_fine, first_refuse, fine_by}
use Rattle.pool.proofs.Checked.{few_to_name}
use Rattle.pool.proofs.GiveUps.{given_up}
use Rattle.pool.proofs.Pool.begin_give_up.Goals as goal

pub returns-in_err-k : goal.returns-in_err-k
unfolding give_up_of give_up_check
returns-in_err-k c =
    after_on _ c.in_err-k.was c.from_residual.ensures.1
    (ap verdict c.in_err-k.was ∙ first_refuse c.begin_check.result _ _ c.begin_check.ensures.check c.in_err-k.was) c.args.self.now _

pub list_check-requires : goal.list_check-requires
list_check-requires c = few_to_name c.args.self.now c.args.w (fine_by c.begin_check.result c.begin_check.ensures.check c.in_ok-k.was)

pub returns-in_err-set : goal.returns-in_err-set
unfolding give_up_of give_up_check
returns-in_err-set c =
    after_on _ c.in_err-set.was c.from_residual-in_err-set.ensures.1
    (first_fine c.begin_check.result _ _ _ c.begin_check.ensures.check c.in_ok-k.was c.list_check.ensures.check) c.args.self.now _

pub returns : goal.returns
unfolding give_up_of give_up_check
returns c =
    let p = c.args.self.now in
    let ids = c.args.ids.now in
    let long : length p.states ≡ 256 = search rules in
    after_fine c.list_check.result _ _ p _
    (first_fine c.begin_check.result _ _ _ c.begin_check.ensures.check c.in_ok-k.was c.list_check.ensures.check) c.in_ok-set.was
    (rw c.in_ok-k.ensures.entry (given_up p (c.args.w.0 - 1) ids _ _ long c.leaving.ensures c.in_ok-set.ensures.met))
