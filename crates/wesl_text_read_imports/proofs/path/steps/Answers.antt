use Rattle.std.proofs.Common.{◌≡◌, ◌<◌, ◌≤◌, ◌-◌, length, map, string_bytes, true, false, sym, subst, rules, arith}
use Rattle.wesl_text_reading.specs.FirstTokens.{begins_path}
use Rattle.wesl_text_read.specs.Leads.{ahead}
use Rattle.wesl_text_read.proofs.Leading.{kept_fewer}
use Rattle.wesl_text_read.proofs.Paths.{Steps, behind-fewer, path-long, steps_begin, steps_end, steps_more}
use Rattle.wesl_text_read_imports.proofs.path.steps.Goals as goal

pub steps-init : goal.steps-init
steps-init c = subst (λ z. Steps (map string_bytes z) c.args.reader.now c.args.reader.now) (sym c.new-names.ensures.items) steps_begin

pub steps-preserved : goal.steps-preserved
steps-preserved c =
    let is : begins_path false (ahead c.steps.reader) ≡ true = search rules in
    steps_more _ _ _ is c.steps.invariant c.name-name.ensures c.step.ensures.skips c.put.ensures.put c.put.ensures.keeps

pub steps-smaller : goal.steps-smaller
steps-smaller c =
    let is : begins_path false (ahead c.steps.reader) ≡ true = search rules in
    let long : 1 < length (ahead c.steps.reader) = path-long (ahead c.steps.reader) is in
    let fewer : length (ahead c.name-name.new.self) ≤ length (ahead c.steps.reader) = c.name-name.ensures.fewer in
    let behind : length (ahead c.step.new.self) ≤ length (ahead c.name-name.new.self) - 1 = subst (λ z. length z ≤ length (ahead c.name-name.new.self) - 1) (sym c.step.ensures.ahead) (behind-fewer (ahead c.name-name.new.self)) in
    let kept : length (ahead c.put.new.self) ≤ length (ahead c.step.new.self) = kept_fewer c.put.ensures.keeps in
    omega arith

pub returns : goal.returns
returns c =
    let is : begins_path false (ahead c.steps.reader) ≡ false = search rules in
    steps_end _ is c.steps.invariant
