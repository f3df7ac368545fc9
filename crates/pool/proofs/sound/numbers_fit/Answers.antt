-- `pool::sound::numbers_fit` meets its contract: two scans. Assumes nothing.
use Rattle.std.proofs.Common.{◌≡◌, ◌&&◌, eqb, leb, length, ap₂, rules}
use Rattle.pool.specs.ForProofs.Scans.{most}
use Rattle.pool.proofs.Scans.{scanned_all, scanned_from}
use Rattle.pool.proofs.sound.numbers_fit.Goals as goal

pub returns : goal.returns
returns c =
    let long : length c.args.numbers.now ≡ 32 = search rules in
    ap₂ ◌&&◌
    (scanned_all c.args.numbers.now (most c.args.numbers.now c.args.limit) long (c.every.ensures (λ n. leb n c.args.limit) 0 (λ x b post. search rules)))
    (scanned_from c.args.numbers.now (λ n. eqb n 0) 0 long c.requires (c.every-2.ensures (λ n. eqb n 0) 0 (λ x b post. search rules)))
