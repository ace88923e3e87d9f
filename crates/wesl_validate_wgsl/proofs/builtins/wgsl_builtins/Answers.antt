use Rattle.std.proofs.Common.{◌++◌, ◌∙◌, ap, map, string_bytes}
use Rattle.wesl_validate_wgsl.specs.Names.{said}
use Rattle.wesl_validate_wgsl.specs.declared.names.TheConstants.{FUNCTIONS, CONSTRUCTORS, OTHERS}
use Rattle.wesl_validate_wgsl.proofs.builtins.wgsl_builtins.Goals as goal

pub returns-clause-names : goal.returns-clause-names
returns-clause-names c =
    let functions = c.in_ok-add_copies-3.ensures ∙ ap (λ items. map string_bytes items ++ said FUNCTIONS) c.new-names.ensures.items in
    let callable = c.in_ok-add_copies-4.ensures ∙ ap (λ names. names ++ said CONSTRUCTORS) functions in
    c.new.ensures.names ∙ (c.in_ok-add_copies-5.ensures ∙ ap (λ names. names ++ said OTHERS) callable)
