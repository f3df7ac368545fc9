-- `unroll` meets its contract: the calls of a text that is played are written.
use Rattle.std.proofs.Common.{arith}
use Rattle.schedule.proofs.Whole.{start_in, write_ready, written}
use Rattle.schedule.proofs.unroll.Goals as goal

pub put_block-p-requires : goal.put_block-p-requires
put_block-p-requires c = (start_in _ c.args.t.now _ c.in_ok-second.ensures, write_ready _ c.args.t.now _ c.in_ok-second.ensures 99999 (omega arith) (omega arith))

pub returns : goal.returns
returns c = written _ c.args.t.now _ c.in_ok-second.ensures 99999 (omega arith) c.put_block-p.result _ (omega arith) c.put_block-p.ensures.0 c.put_block-p.ensures.1
