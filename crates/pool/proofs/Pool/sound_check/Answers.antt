-- `pool::Pool::sound_check` meets its contract. Assumes nothing.
use Rattle.std.proofs.Common.{sym, ◌∙◌}
use Rattle.pool.proofs.Checked.{sound_passes}
use Rattle.pool.proofs.Pool.sound_check.Goals as goal

pub returns-then-is_sound : goal.returns-then-is_sound
returns-then-is_sound c = sym (sound_passes _ (sym c.is_sound.ensures ∙ c.if-is_sound.true))
