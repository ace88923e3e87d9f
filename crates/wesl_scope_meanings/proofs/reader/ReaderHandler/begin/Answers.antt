use Rattle.std.proofs.Common.{◌∙◌, refl}
use Rattle.wesl_scope_open.proofs.Tables.{pushed}
use Rattle.wesl_scope_meanings.proofs.Reading.{reads_beginning}
use Rattle.wesl_scope_meanings.proofs.reader.ReaderHandler.begin.Goals as goal

pub returns : goal.returns
returns c =
    reads_beginning c.args.self.now _ c.len.result c.is_err.result (c.len.ensures ∙ c.args.self.now.senses.ok.0) refl refl refl refl refl refl
    (λ k. pushed c.push.result c.args.self.now.is_refused c.is_err.result _ _ _ c.is_err.ensures.value c.push.ensures.items k)
