-- The bundle that is kept, beside the value that it was read from.
use Rattle.std.specs.Prelude.{List, map, option_map, String, string_bytes}
use Rattle.std.specs.declared.alloc.Global.{Global}
use Rattle.std.specs.BTreeMap.{BTreeMap}
use Rattle.wesl_json_form.specs.View.{borrowed_view}
use Rattle.wesl_cond_features.specs.declared.features.Feature.{Feature}
use Rattle.wesl_cond_features.specs.declared.features.Features.{Features}
use Rattle.wesl_tree_names.specs.Path.{path_view}
use Rattle.wesl_program_bundle.specs.Bundle as spec
use Rattle.wesl_program_bundle.specs.Features as said
use Rattle.wesl_program_bundle.specs.Builtins as built_in
use Rattle.wesl_program_bundle.specs.PackageViews.{packages_view}
use Rattle.wesl_program_bundle.specs.declared.builtins.BuiltinNames.{BuiltinNames}
use Rattle.wesl_program_bundle.specs.declared.bundle.Bundle.{Bundle}
use Rattle.wesl_program_bundle.specs.declared.bundle.BundleModule.{BundleModule}
use Rattle.wesl_program_bundle.specs.declared.options.Options.{Options}

-- what a module in the code says: its path, and the value that its unit is read from
abbrev pub module_view : BundleModule → spec.Module
module_view m = record { path = path_view m.path; unit = borrowed_view m.unit }

-- what a flag in the code says: its name, and its answer
abbrev pub flag_view : String Global × Feature → said.Flag
flag_view f = record { named = string_bytes f.0; answer = f.1 }

-- the flags in the order of their names
abbrev pub flags_view : BTreeMap (String Global) Feature → List said.Flag
flags_view flags = map flag_view flags.entries

-- what the answers for flags in the code say
abbrev pub features_view : Features → said.Features
features_view f = record { default = f.default; flags = flags_view f.flags }

-- what the options in the code say
abbrev pub options_view : Options → spec.Options
options_view o = record { mangler = o.mangler; mangle_root = o.mangle_root; eager = o.eager; max_modules = o.max_modules; spans = o.spans }

-- what the built-in names in the code say, each of the three lists in its order
abbrev pub builtins_view : BuiltinNames → built_in.Builtins
builtins_view b = record { names = map string_bytes b.names.items; functions = map string_bytes b.functions.items; constructors = map string_bytes b.constructors.items }

-- what a bundle in the code says
abbrev pub bundle_view : Bundle → spec.Bundle
bundle_view b = record {
  root = path_view b.root;
  keep = map string_bytes b.keep.items;
  modules = map module_view b.modules.items;
  packages = packages_view b.packages.items;
  features = option_map features_view b.features;
  options = options_view b.options;
  builtins = option_map builtins_view b.builtins;
}
