use Rattle.wesl_tree_names.specs.declared.errors.Error as error
use Rattle.wesl_cond_faults.proofs.Telling.{adds_one}
use Rattle.wesl_cond_faults.proofs.told.Told.tell.Goals as goal

pub returns : goal.returns
returns c = λ names f h. adds_one names (error.CondComp c.args.fault) c.args.span f c.at-told.result c.args.self.now c.push.new.self c.push.ensures.kept c.push.ensures.pushed c.at-told.ensures h
