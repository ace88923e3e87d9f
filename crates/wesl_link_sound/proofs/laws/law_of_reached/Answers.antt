use Rattle.wesl_link_sound.proofs.Paths.{same_path, same_text}
use Rattle.wesl_link_sound.proofs.Reaching.{reached_decided}
use Rattle.wesl_link_sound.proofs.laws.law_of_reached.Goals as goal

pub returns : goal.returns
returns c = λ w task s. reached_decided w task same_path same_text s
