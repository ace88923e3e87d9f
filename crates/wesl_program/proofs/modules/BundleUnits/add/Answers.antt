use Rattle.wesl_program.proofs.Units.{Holds-added}
use Rattle.wesl_program.proofs.modules.BundleUnits.add.Goals as goal

pub returns : goal.returns
returns c = record { added = λ ms holds. Holds-added ms c.args.self.now (record { units = c.insert.new.self }) c.args.path c.args.unit c.in_ok-insert.ensures.entries holds }
