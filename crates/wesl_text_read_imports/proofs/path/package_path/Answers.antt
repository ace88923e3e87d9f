use Rattle.std.proofs.Common.{◌≡◌, map, not, string_bytes, sym, subst, rules}
use Rattle.wesl_tree_base.specs.Pieces.{cut, slash}
use Rattle.wesl_tree_names.specs.Path.{path_view}
use Rattle.wesl_tree_names.specs.declared.path.ModulePath.{ModulePath}
use Rattle.wesl_tree_syntax.specs.Tree.{path}
use Rattle.wesl_text_reading.specs.Leaves.{are_free}
use Rattle.wesl_text_read.specs.Leads.{ReadsLabel}
use Rattle.wesl_text_read_imports.specs.Slashes.{read_package}
use Rattle.wesl_text_read_imports.proofs.Slashes.{package_read}
use Rattle.wesl_text_read_imports.proofs.path.package_path.Goals as goal

pub returns : goal.returns
returns c =
    let t = string_bytes c.package_name-package.result in
    let told : not c.are_free-is_wrong.result ≡ not (are_free (cut slash t)) = search rules in
    subst (λ (z : ModulePath). ReadsLabel read_package (path (path_view z)) c.args.reader.now c.steps-components.new.reader) (sym c.new.ensures)
    (package_read t (map string_bytes c.steps-components.result.items) (not c.are_free-is_wrong.result) c.package_name-package.ensures told c.wrong_if.ensures.refuses c.wrong_if.ensures.same c.skip_sign.ensures c.steps-components.ensures)
