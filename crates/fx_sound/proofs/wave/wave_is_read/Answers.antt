use Rattle.fx_sound.proofs.ChunksFound as found
use Rattle.fx_sound.proofs.wave.wave_is_read.Goals as goal

pub returns : goal.returns
returns c = found.wave_is_read
