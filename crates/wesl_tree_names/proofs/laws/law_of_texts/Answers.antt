use Rattle.wesl_tree_names.proofs.ReadBack.{round_trip_holds}
use Rattle.wesl_tree_names.proofs.Written.{written_holds}
use Rattle.wesl_tree_names.proofs.laws.law_of_texts.Goals as goal

pub returns-clause-round_trip : goal.returns-clause-round_trip
returns-clause-round_trip c = round_trip_holds

pub returns-clause-written : goal.returns-clause-written
returns-clause-written c = written_holds
