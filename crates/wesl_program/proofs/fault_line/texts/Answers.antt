use Rattle.std.proofs.Common.{◌<◌, List, [], ℕ, Bor, length, get_or, rules}
use Rattle.wesl_program.proofs.Texts.{texts-turn}
use Rattle.wesl_program.proofs.fault_line.texts.Goals as goal

pub loop-argument-preserved : goal.loop-argument-preserved
loop-argument-preserved c =
    let i = c.loop-argument.argument-index in
    let argument : Bor (List ℕ) = get_or c.args.arguments.now i (record { ref_ptr = (0, 0); now = [] }) in
    let within : i < length c.args.arguments.now = search rules in
    texts-turn c.loop-argument.texts.items c.push.new.self.items c.args.arguments.now i c.in_ok-try_from_str.field-0 argument within (search rules) (search rules) c.loop-argument.invariant c.in_ok-try_from_str.ensures
