-- The names of packages and of sets, the words of answers, and which module is the root.
use Rattle.std.specs.Prelude.{◌||◌, if◌then◌else◌, List, [], Option, Some, None, find, string_bytes, bytes_eq, codes, option_map, option_and_then, unwrap_or}
use Rattle.std.specs.Path.{path_file_stem}
use Rattle.wesl_cond_features.specs.declared.features.Feature.{Feature}
use Rattle.wesl_cond_features.specs.declared.features.Feature.TheVariants as feature
use Rattle.wesl_tree_names.specs.Path.{Text, Path, root_path, push, is_relative}
use Rattle.wesl_tree_names.specs.PathText.{parse}
use Rattle.wesl_text_project.specs.declared.layout.PackageFolder.{PackageFolder}
use Rattle.wesl_text_project.specs.declared.description.FeatureSet.{FeatureSet}

-- the folder of the first package of a name
abbrev pub folder_of : Text → List PackageFolder → Option Text
folder_of name ps = option_map (λ p. string_bytes p.folder) (find (λ p. bytes_eq (string_bytes p.name) name) ps)

-- the first set of a name
abbrev pub set_of : Text → List FeatureSet → Option FeatureSet
set_of name sets = find (λ s. bytes_eq (string_bytes s.name) name) sets

-- the answer that a word says
abbrev pub feature_of : Text → Option Feature
feature_of w =
    if bytes_eq w (codes "enable") then Some feature.Enable else (if bytes_eq w (codes "disable") then Some feature.Disable
    else (if bytes_eq w (codes "keep") then Some feature.Keep else (if bytes_eq w (codes "error") then Some feature.Error else None)))

-- the path that a text says, where it does not begin at its reader
abbrev pub said_root : Text → Option Path
said_root text = option_and_then (λ p. if is_relative p then None else Some p) (parse text)

-- the path of the module of a name, directly in the project: of `lib` and of `package` it is the root module
abbrev pub module_named : Text → Path
module_named name = if bytes_eq name (codes "lib") || bytes_eq name (codes "package") then root_path else push root_path name

-- the path of the module that a file stands for
abbrev pub module_of_file : Text → Path
module_of_file file = module_named (unwrap_or (path_file_stem file) [])
