use Rattle.wesl_cond_features.proofs.Listed.{text_added}
use Rattle.wesl_cond_features.proofs.features.add_answer.Goals as goal

pub returns-in-Ok : goal.returns-in-Ok
returns-in-Ok c = record { added = text_added c.args.flags.now c.insert.new.self c.in-Ok.name c.args.name.now c.args.answer c.insert.result c.is_ok.result c.is_ok.ensures.value c.insert.ensures.updates c.in-Ok.ensures.ok }
