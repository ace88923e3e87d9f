use Rattle.std.proofs.Common.{◌∙◌, ap, sym}
use Rattle.wesl_link_split.specs.SightView.{sight_view}
use Rattle.wesl_link_split.specs.declared.binders.Facts.{Facts}
use Rattle.wesl_link_split.proofs.Unsplit.{start_one, start_none}
use Rattle.wesl_link_split.proofs.sight.Sight.start.Goals as goal

pub lead-requires : goal.lead-requires
lead-requires c = sym (ap (λ (f : Facts). f.is_split) c.facts-facts.ensures) ∙ c.if-facts.true

pub returns-in-Some : goal.returns-in-Some
returns-in-Some c =
    let one = sym (ap (λ (f : Facts). f.is_split) c.facts-facts.ensures) ∙ c.if-facts.false in
    start_one (sight_view c.args.self.now) c.args.name one c.args.here c.in-Some.import (sym c.in-Some.is ∙ ap (λ (f : Facts). f.import) c.facts-facts.ensures)

pub returns-in-None : goal.returns-in-None
returns-in-None c =
    let one = sym (ap (λ (f : Facts). f.is_split) c.facts-facts.ensures) ∙ c.if-facts.false in
    start_none (sight_view c.args.self.now) c.args.name one c.args.here (sym c.in-None.is ∙ ap (λ (f : Facts). f.import) c.facts-facts.ensures)
