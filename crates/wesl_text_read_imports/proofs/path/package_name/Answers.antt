use Rattle.std.proofs.Common.{◌≡◌, Some, None, rules}
use Rattle.wesl_text_read.specs.First.{word_first}
use Rattle.wesl_text_read.specs.Leads.{ahead}
use Rattle.wesl_text_read_imports.specs.Slashes.{slash_first}
use Rattle.wesl_text_read_imports.proofs.Slashes.{name_begins, name_ends, name_more}
use Rattle.wesl_text_read_imports.proofs.path.package_name.Goals as goal

pub parts-init : goal.parts-init
parts-init c =
    let first : word_first (ahead c.args.reader.now) ≡ Some c.in-Some.word.now = search rules in
    name_begins c.in-Some.word.now _ first c.step.ensures.skips c.own-name.ensures

pub parts-preserved : goal.parts-preserved
parts-preserved c =
    let first : slash_first (ahead c.parts.reader) ≡ Some c.in-Some-part_first.part.now = search rules in
    name_more _ c.in-Some-part_first.part.now _ first c.parts.invariant c.add_part.ensures.added c.add_part.ensures.keeps c.step-in-Some-part_first.ensures.skips c.step-in-Some-part_first-2.ensures.skips

pub returns : goal.returns
returns c =
    let first : slash_first (ahead c.parts.reader) ≡ None = search rules in
    name_ends _ first c.parts.invariant
