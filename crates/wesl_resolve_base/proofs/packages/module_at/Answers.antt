use Rattle.std.proofs.Common.{◌∙◌, ap, sym, List, map, String, string_bytes, Result}
use Rattle.std.specs.declared.alloc.Global.{Global}
use Rattle.wesl_tree_names.specs.Path.{Text, path_view}
use Rattle.wesl_resolve_base.specs.Packages.{module_below, IsMissingIn}
use Rattle.wesl_resolve_base.specs.declared.packages.CodegenModule.{CodegenModule}
use Rattle.wesl_resolve_base.specs.declared.packages.CodegenPkg.{out-CodegenPkg}
use Rattle.wesl_resolve_base.proofs.ResultLemmas.{OrMemory-to}
use Rattle.wesl_resolve_base.proofs.PackagesLemmas.{said, found-as, missing-as, module_at-in, module_at-unnamed, IsMissingIn-of}
use Rattle.wesl_resolve_base.proofs.packages.module_at.Goals as goal

pub returns-in_default : goal.returns-in_default
returns-in_default c =
    let path = c.args.path.now in
    record { found = tt; missing = said (path_view path) _ _ c.not_found.result (module_at-unnamed c.args.packages.now path.origin (map string_bytes path.components.items) c.in_default.not-Package) c.not_found.ensures }

pub returns-in-Err-clause-missing : goal.returns-in-Err-clause-missing
returns-in-Err-clause-missing c =
    let path = c.args.path.now in
    OrMemory-to _ (IsMissingIn c.args.packages.now (path_view path)) (IsMissingIn-of c.args.packages.now path c.in-Package.name c.as_str.result.now c.in-Package.is c.as_str.ensures.value) c.in-Err.refusal c.in-Err.ensures.missing

pub returns-in-Ok-clause-found : goal.returns-in-Ok-clause-found
returns-in-Ok-clause-found c =
    let path = c.args.path.now in
    let below : List (String Global) → Result CodegenModule Text = λ names. module_below (out-CodegenPkg c.in-Ok.«package».now).root (map string_bytes names) in
    let same = module_at-in c.args.packages.now path c.in-Package.name c.as_str.result.now _ c.in-Package.is c.as_str.ensures.value c.in-Ok.ensures.found in
    found-as _ _ _ (same ∙ ap below (sym c.deref.ensures.value)) c.module_below.result c.module_below.ensures.found

pub returns-in-Ok-clause-missing : goal.returns-in-Ok-clause-missing
returns-in-Ok-clause-missing c =
    let path = c.args.path.now in
    let below : List (String Global) → Result CodegenModule Text = λ names. module_below (out-CodegenPkg c.in-Ok.«package».now).root (map string_bytes names) in
    let same = module_at-in c.args.packages.now path c.in-Package.name c.as_str.result.now _ c.in-Package.is c.as_str.ensures.value c.in-Ok.ensures.found in
    missing-as (path_view path) _ _ (same ∙ ap below (sym c.deref.ensures.value)) c.module_below.result c.module_below.ensures.missing
