use Rattle.std.proofs.Common.{◌∙◌, ap, map, option_copied, option_map, refl, string_bytes}
use Rattle.wesl_tree_base.specs.Borrowed.{texts}
use Rattle.wesl_program_bundle.specs.Views as bundle
use Rattle.wesl_validate_builtins.specs.Builtins.{builtins_view}
use Rattle.wesl_text_program.proofs.Bundles.{memory-refused}
use Rattle.wesl_text_program.proofs.Requests.{AsksFor, answered-parts, asked-same, refused-parts}
use Rattle.wesl_text_program.proofs.linking.text_of_sources.Goals as goal

pub returns-in_default-clause-refused : goal.returns-in_default-clause-refused
returns-in_default-clause-refused c = λ b parts. memory-refused b (option_copied c.args.sources.features) parts.answers c.memory_wanted.result c.memory_wanted.ensures

asks : (c : goal.After-drop-keep) → AsksFor c.request_of-request.result (record { naming = c.args.options.mangler }) c.args.root.now (map string_bytes c.args.keep.now) c.args.options c.args.builtins
asks c =
    let r = c.request_of-request.ensures in
    let asked = c.validation_of-validation.result in
    record {
      root_is = r.root;
      kept = ap texts (r.kept ∙ c.deref.ensures.value) ∙ c.in-Ok.ensures;
      naming = refl;
      mangled = r.mangled;
      eager = r.eager;
      limit = r.limit;
      listed = asked-same (option_map bundle.builtins_view c.args.builtins) c.request_of-request.result.validation asked.0 (builtins_view c.request_of-request.result.builtins.now) (builtins_view asked.1) r.validated (ap builtins_view r.builtins) c.validation_of-validation.ensures;
    }

pub returns-clause-linked : goal.returns-clause-linked
returns-clause-linked c =
    let e = c.text_of_request.ensures in
    answered-parts c.args.sources c.request_of-request.result (record { naming = c.args.options.mangler }) c.text_of_request.result e.linked e.valid e.clash e.said c.args.root.now (map string_bytes c.args.keep.now) c.args.options c.args.builtins (asks c)

pub returns-clause-refused : goal.returns-clause-refused
returns-clause-refused c =
    refused-parts c.args.sources c.request_of-request.result (record { naming = c.args.options.mangler }) c.text_of_request.result c.text_of_request.ensures.refused c.args.root.now (map string_bytes c.args.keep.now) c.args.options c.args.builtins (asks c)
