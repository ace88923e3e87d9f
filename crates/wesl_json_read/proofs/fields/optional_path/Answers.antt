use Rattle.std.proofs.Common.{Bool, List, ap, codes, option_map, refl, sym, ℕ}
use Rattle.std.proofs.lemmas.Result.{IfOk-weaker}
use Rattle.wesl_json_form.specs.View.{borrowed_view}
use Rattle.wesl_json_form.specs.Reading.{path_in}
use Rattle.wesl_json_form.specs.Schema.{a_path, leaf}
use Rattle.wesl_tree_names.specs.Path.{path_view}
use Rattle.wesl_json_read.proofs.Within.{leaf-fault, may-each}
use Rattle.wesl_json_read.proofs.Rows.{plain-path}
use Rattle.wesl_json_read.proofs.Steps.{leaf-reads}
use Rattle.wesl_json_read.specs.Numbers.{Reads}
use Rattle.wesl_tree_syntax.specs.Tree.{path}
use Rattle.wesl_tree_syntax.specs.View.{path_tree}
use Rattle.wesl_json_read.proofs.fields.optional_path.Goals as goal

pub returns-clause-ok : goal.returns-clause-ok
returns-clause-ok c =
    let read = IfOk-weaker c.path_of.result _ (λ x. (spans : Bool) (names : List (List ℕ)) → Reads spans (leaf a_path) (borrowed_view c.in-Some.member.now) (path_tree x) names names) (λ x is spans names. leaf-reads path_in a_path path (borrowed_view c.in-Some.member.now) (path_view x) (path (path_view x)) names (λ v. refl) (plain-path (path_view x)) is) c.path_of.ensures.ok in
    may-each (codes "path") (borrowed_view c.args.value.now) (borrowed_view c.in-Some.member.now) (sym c.in-Some.ensures) c.path_of.result (leaf a_path) path_tree read c.inside_option.result c.inside_option.ensures.ok

pub returns-clause-place : goal.returns-clause-place
returns-clause-place c =
    leaf-fault (codes "path") (borrowed_view c.args.value.now) (borrowed_view c.in-Some.member.now) (sym c.in-Some.ensures) c.path_of.result path_in a_path (λ spans v h. ap (option_map path) h) c.inside_option.result c.path_of.ensures.place c.inside_option.ensures.place
