use Rattle.std.proofs.Common.{◌≡◌, ◌∙◌, ◌++◌, ◌∷◌, [], ap, rules}
use Rattle.std.specs.Prelude.{if◌then◌else◌}
use Rattle.std.specs.List.{list_any}
use Rattle.wesl_validate_faults.specs.Gathered.{findings_view}
use Rattle.wesl_validate_faults.proofs.Collecting.{seen_with}
use Rattle.wesl_validate_faults.proofs.Equality.{finding_eq}
use Rattle.wesl_validate_faults.proofs.once.add_once.Goals as goal

pub returns : goal.returns
returns c =
    let seen = c.args.once.now.keys in
    let key = c.args.finding.now in
    let keys : c.insert.new.self.keys ≡ (if list_any (finding_eq key) seen then seen else seen ++ key ∷ []) = search rules in
    ap findings_view keys ∙ seen_with seen key
