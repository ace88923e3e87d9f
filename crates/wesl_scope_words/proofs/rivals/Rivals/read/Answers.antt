use Rattle.std.proofs.Common.{◌∙◌, arith, ap, sym}
use Rattle.std.specs.Option.{is_some}
use Rattle.wesl_scope_words.specs.Finding.{look}
use Rattle.wesl_scope_words.proofs.Reading.{at_module, first_none, first_some, outwards}
use Rattle.wesl_scope_words.proofs.rivals.Rivals.read.Goals as goal

pub returns-then-is_some : goal.returns-then-is_some
returns-then-is_some c =
    let here = c.loop-here.here in
    let out = outwards (look c.args.self.now) c.args.word.now c.args.place c.args.outer.now here c.requires.nested (omega (arith, c.loop-here-test.true)) c.loop-here.invariant.0 in
    sym (c.loop-here.invariant.1 ∙ (out ∙ (first_some _ _ (ap is_some (sym c.first-found.ensures) ∙ (sym c.is_some.ensures ∙ c.if-is_some.true)) ∙ sym c.first-found.ensures)))

pub loop-here-preserved : goal.loop-here-preserved
loop-here-preserved c =
    let outer = c.args.outer.now in
    let here = c.loop-here.here in
    let less = c.requires.nested here (omega (arith, c.loop-here-test.true)) c.loop-here.invariant.0 in
    let out = outwards (look c.args.self.now) c.args.word.now c.args.place outer here c.requires.nested (omega (arith, c.loop-here-test.true)) c.loop-here.invariant.0 in
    (omega (arith, less, c.loop-here.invariant.0), c.loop-here.invariant.1 ∙ (out ∙ first_none _ _ (ap is_some (sym c.first-found.ensures) ∙ (sym c.is_some.ensures ∙ c.if-is_some.false))))

pub returns : goal.returns
returns c =
    c.first.ensures ∙ sym (c.loop-here.invariant.1 ∙ at_module (look c.args.self.now) c.args.word.now c.args.place c.args.outer.now c.loop-here.here c.loop-here-test.false c.loop-here.invariant.0)
