use Rattle.std.proofs.Common.{◌≡◌, ◌∙◌, true, sym}
use Rattle.wesl_link_split.specs.Grouped.{ids}
use Rattle.wesl_link_split.specs.SightView.{sight_view}
use Rattle.wesl_link_split.specs.Split as split
use Rattle.wesl_link_split.proofs.Noting.{aims_more}
use Rattle.wesl_link_split.proofs.sight.Sight.add_aim.Goals as goal

pub returns-in_ok-put-clause-aims : goal.returns-in_ok-put-clause-aims
returns-in_ok-put-clause-aims c bs noted has held =
    let s = sight_view c.args.self.now in
    let b = c.args.binder.now in
    let leads : split.leads_on ids s b ≡ true = sym c.leads_on.ensures ∙ c.if-leads_on.true in
    aims_more s c.args.aims.now.entries c.put.new.map.entries b c.in_ok-aim.aim c.in_ok-put.ensures.puts (c.in_ok-aim.ensures.aim bs noted (has leads)) held
