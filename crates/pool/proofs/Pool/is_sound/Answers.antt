-- `pool::Pool::is_sound` meets its contract: each scan as its closure says. Assumes nothing.
use Rattle.std.proofs.Common.{◌≡◌, true, false, not, eqb, leb, length, [], sym, ◌∙◌, rules}
use Rattle.idset.specs.Members.{within_of}
use Rattle.worker.specs.Registers.{no_worker}
use Rattle.pool.specs.Sound.{counts_sound, zero_worker}
use Rattle.pool.specs.ForProofs.Scans.{worker_fits, most}
use Rattle.pool.proofs.Parts.{sizes_in, unsound_counts}
use Rattle.pool.proofs.Scans.{scanned_by, scanned_all, scanned_from, fit}
use Rattle.pool.proofs.Pool.is_sound.Goals as goal

pub returns-then-not-counts_sound : goal.returns-then-not-counts_sound
returns-then-not-counts_sound c = unsound_counts c.args.self.now (sym c.counts_sound.ensures ∙ c.if-not-counts_sound.true)

pub returns : goal.returns
returns c =
    let p = c.args.self.now in
    let guards : length p.taken ≡ 32 = search rules in
    let versions : length p.slot_version ≡ 32 = search rules in
    let states : length p.states ≡ 256 = search rules in
    let workers : length p.workers ≡ 8 = search rules in
    let sets : length p.sets ≡ 8 = search rules in
    let counts : counts_sound p ≡ true = sym c.counts_sound.ensures ∙ c.if-not-counts_sound.false in
    let sizes = sizes_in p counts in
    scanned_by p counts
    (scanned_from p.taken (λ t. not t) false guards sizes.g_most (c.every-taken.ensures (λ t. not t) false (λ x b post. search rules)))
    c.numbers_fit-employers.ensures c.numbers_fit-posts.ensures c.numbers_fit-ids.ensures
    (scanned_from p.slot_version (λ n. eqb n 0) 0 versions sizes.g_most (c.every-versions.ensures (λ n. eqb n 0) 0 (λ x b post. search rules)))
    (scanned_all p.states (most p.states 2) states (c.every-known.ensures (λ n. leb n 2) 0 (λ x b post. search rules)))
    (scanned_from p.states (λ n. eqb n 0) 0 states sizes.b_most (c.every-free.ensures (λ n. eqb n 0) 0 (λ x b post. search rules)))
    (scanned_all p.workers (fit p) workers (c.every-registers.ensures (worker_fits p.g p.b) no_worker (λ x b post. search rules)))
    (scanned_from p.workers zero_worker no_worker workers sizes.w_most (c.every-idle.ensures zero_worker no_worker (λ x b post. search rules)))
    c.sets_within-members.ensures
    (scanned_from p.sets (λ s. within_of s 0) (record { words = [] }) sets sizes.w_most (c.every-empty.ensures (λ s. within_of s 0) (record { words = [] }) (λ x b post. search rules)))
