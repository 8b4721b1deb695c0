use Rattle.tz_text_laws.proofs.Soundness.{read_is_sound}
use Rattle.tz_text_laws.proofs.read_databases_are_sound.Goals as goal

pub returns : goal.returns
returns c = read_is_sound
