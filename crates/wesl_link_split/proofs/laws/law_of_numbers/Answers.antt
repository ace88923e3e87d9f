use Rattle.wesl_link_split.proofs.Agreed.{ask_alike, differ_alike}
use Rattle.wesl_link_split.proofs.laws.law_of_numbers.Goals as goal

pub returns : goal.returns
returns c = record { names = ask_alike; targets = differ_alike }
