use Rattle.wesl_link_sound.proofs.Sound.{sound_had}
use Rattle.wesl_link_sound.proofs.laws.law_of_sound_links.Goals as goal

pub returns : goal.returns
returns c = sound_had
