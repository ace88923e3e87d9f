use Rattle.std.proofs.Common.{rules}
use Rattle.wesl_json_print.proofs.Directives.{diagnostic_directive, enable_directive, requires_directive}
use Rattle.wesl_json_print.proofs.directive.print_directive.Goals as goal

pub returns-in-Diagnostic : goal.returns-in-Diagnostic
returns-in-Diagnostic g c =
    diagnostic_directive c.args.spans c.args.names.now c.args.span c.args.directive.now c.in-Diagnostic.attributes c.in-Diagnostic.severity c.in-Diagnostic.rule _ _ (search rules) c.as_str.ensures.value c.as_str-in-Diagnostic.ensures.value c.print_diagnostic.ensures

pub returns-in-Enable : goal.returns-in-Enable
returns-in-Enable g c = enable_directive c.args.spans c.args.names.now c.args.span c.args.directive.now c.in-Enable.attributes c.in-Enable.enabled (search rules) c.print_extensions.ensures

pub returns-in-Requires : goal.returns-in-Requires
returns-in-Requires g c = requires_directive c.args.spans c.args.names.now c.args.span c.args.directive.now c.in-Requires.attributes c.in-Requires.needed (search rules) c.print_extensions-in-Requires.ensures
