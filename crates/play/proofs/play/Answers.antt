-- `play` is safe and ends: the calls that there are have places, and what is printed else is within a line.
use Rattle.std.proofs.Common.{ℕ, sym, ◌∙◌}
use Rattle.std.proofs.Math.ListN.{length-replicate}
use Rattle.std.proofs.Math.Seq.{length-take-le}
use Rattle.schedule.proofs.Called.{few_calls}
use Rattle.player.proofs.Judged.{judgement_within}
use Rattle.play.proofs.play.Goals as goal

pub slice_bounds-places-end : goal.slice_bounds-places-end
slice_bounds-places-end g c =
    let u = c.unroll in
    few_calls _ _ _ _ (sym c.in-Ok.is ∙ u.ensures.0) u.ensures.1 (length-replicate {A = ℕ} 100000 0)

pub slice_bounds-play_calls-end : goal.slice_bounds-play_calls-end
slice_bounds-play_calls-end g c =
    let u = c.unroll in
    sym (length-take-le _ _ (few_calls _ _ _ _ (sym c.in-Ok.is ∙ u.ensures.0) u.ensures.1 (length-replicate {A = ℕ} 100000 0)))

pub slice_bounds-line-end : goal.slice_bounds-line-end
slice_bounds-line-end g c = judgement_within _ _ _ c.put_read-written.ensures.value c.put_read-written.array_long

pub slice_bounds-write_all-end : goal.slice_bounds-write_all-end
slice_bounds-write_all-end g c =
    sym (length-take-le _ _ (judgement_within _ _ _ c.put_read-written.ensures.value c.put_read-written.array_long))
