use Rattle.wesl_visit_rewrite.proofs.Words.{import_went}
use Rattle.wesl_visit_rewrite.proofs.replace.declaration.in_import.Goals as goal

pub returns : goal.returns
returns g c =
    import_went c.law_of_words.ensures.attributes c.law_of_words.ensures.imports _ _ _ c.args.import.now c.finish_attributes.new.node c.finish_attributes.ensures
