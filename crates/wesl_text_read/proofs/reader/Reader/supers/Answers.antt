use Rattle.std.proofs.Common.{◌≡◌, ◌+◌, ◌≤◌, length, true, false, rules, arith}
use Rattle.wesl_text_read.specs.First.{begins_super}
use Rattle.wesl_text_read.specs.Leads.{ahead}
use Rattle.wesl_text_read.proofs.Paths.{super-long, super_ends, super_step, two_behind}
use Rattle.wesl_text_read.proofs.reader.Reader.supers.Goals as goal

pub supers-preserved : goal.supers-preserved
supers-preserved c =
    let is : begins_super (ahead c.supers.self) ≡ true = search rules in
    let few : length (ahead c.step-in-supers.new.self) + 2 ≤ length (ahead c.supers.self) = two_behind c.supers.self c.step.new.self c.step-in-supers.new.self (super-long (ahead c.supers.self) is) c.step.ensures.ahead c.step-in-supers.ensures.ahead in
    record { leads = super_step c.supers.up is c.supers.invariant.leads c.step.ensures.skips c.step-in-supers.ensures.skips; few = omega arith }

pub supers-smaller : goal.supers-smaller
supers-smaller c =
    let is : begins_super (ahead c.supers.self) ≡ true = search rules in
    let few : length (ahead c.step-in-supers.new.self) + 2 ≤ length (ahead c.supers.self) = two_behind c.supers.self c.step.new.self c.step-in-supers.new.self (super-long (ahead c.supers.self) is) c.step.ensures.ahead c.step-in-supers.ensures.ahead in
    omega arith

pub returns : goal.returns
returns c =
    let is : begins_super (ahead c.supers.self) ≡ false = search rules in
    super_ends c.supers.up is c.supers.invariant.leads
