use Rattle.std.proofs.Common.{◌≡◌, ◌<◌, ◌∙◌, ℕ, List, [], map, ap, sym, refl, length, subst}
use Rattle.std.specs.List.{All}
use Rattle.wesl_tree.specs.Translation.{unit_view}
use Rattle.wesl_link_assembly.specs.Denotations.{free_name, printed_as}
use Rattle.wesl_link_assembly.specs.Linked.{nodes_of}
use Rattle.wesl_link_assembly.specs.Pathless.{without_paths}
use Rattle.wesl_link_assembly.specs.Views.{Meaning, denotation_view}
use Rattle.wesl_tree_copies.specs.Renumbered.{renumbered}
use Rattle.wesl_tree_syntax.specs.Unit.{forest_of_unit}
use Rattle.wesl_tree_names.specs.Path.{Text}
use Rattle.wesl_link_assembly.proofs.Renumbered.{nodes_leafy}
use Rattle.wesl_link_assembly.proofs.Whole.{linked_as}
use Rattle.wesl_link_assembly.proofs.unit.linked_unit.Goals as goal
use Rattle.wesl_scope_numbers.proofs.Canonical.{mapped_length}

pub returns-clause-linked : goal.returns-clause-linked
returns-clause-linked g c =
    let print : Meaning → Text = printed_as (g.P.Printing.printed c.args.printing.now) in
    let ds = c.args.denotations.now in
    let nodes = nodes_of c.args.directives c.args.declarations in
    linked_as print (free_name []) refl nodes (map denotation_view c.in_ok-given.different.keys) (map denotation_view ds) c.in_ok-given.given.items (unit_view c.drop_paths.new.unit) (nodes_leafy c.args.directives c.args.declarations)
    c.in_ok-given.ensures.numbers c.in_ok-given.ensures.leads c.in_ok-given.ensures.used (mapped_length denotation_view ds ∙ c.requires.one_each)
    (c.in_ok-drop_paths.ensures.names ∙ (c.renumbered-unit.ensures.names ∙ (c.in_ok-names.ensures.names ∙ ap (λ ks. map print (map denotation_view ks)) c.as_slice.ensures.keys)))
    (c.in_ok-drop_paths.ensures.pathless ∙ (ap without_paths c.renumbered-unit.ensures.trees ∙ ap (λ ns. without_paths (renumbered (forest_of_unit nodes) ns)) c.deref.ensures.value))

pub renumbered-unit-requires-clause-one_each : goal.renumbered-unit-requires-clause-one_each
renumbered-unit-requires-clause-one_each g c = ap length c.deref.ensures.value ∙ (c.in_ok-given.ensures.numbers.one_each ∙ (mapped_length denotation_view c.args.denotations.now ∙ c.requires.one_each))

pub renumbered-unit-requires-clause-below : goal.renumbered-unit-requires-clause-below
renumbered-unit-requires-clause-below g c =
    let print : Meaning → Text = printed_as (g.P.Printing.printed c.args.printing.now) in
    let long : length c.in_ok-names.names ≡ length (map denotation_view c.in_ok-given.different.keys) =
    ap length (c.in_ok-names.ensures.names ∙ ap (λ ks. map print (map denotation_view ks)) c.as_slice.ensures.keys) ∙ mapped_length print (map denotation_view c.in_ok-given.different.keys) in
    subst (λ (ns : List ℕ). All (λ n. n < length c.in_ok-names.names) ns) (sym c.deref.ensures.value) (subst (λ (k : ℕ). All (λ n. n < k) c.in_ok-given.given.items) (sym long) c.in_ok-given.ensures.below)
