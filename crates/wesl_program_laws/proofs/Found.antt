-- The modules of a link whose units are what features leave of those that are handed out.
use Rattle.std.proofs.Common.{◌≡◌, ◌⊎◌, inl, inr, Option, refl, sym, subst}
use Rattle.wesl_tree_names.specs.Path.{Text, Path}
use Rattle.wesl_tree_names.specs.declared.errors.ResolveError.{ResolveError}
use Rattle.wesl_tree_syntax.specs.Unit.{UnitOf}
use Rattle.wesl_cond_features.specs.declared.features.Features.{Features}
use Rattle.wesl_link_reach.specs.World.{Entered}
use Rattle.wesl_link_engine.specs.Worlds.{Module, tables}
use Rattle.wesl_link.specs.Linking.{kept_names, hands_left}
use Rattle.wesl_link_laws.specs.Linked.{IsUnitOfCode}
use Rattle.wesl_program.specs.Linking.{handed, refused}
use Rattle.wesl_program_laws.specs.Laws.{LinksAreFound, BundlesAreFound}

module _ (hands : Path → UnitOf Text → Type 0) (refuses : Path → ResolveError → Type 0) (features : Option Features) where
  left_of_code : (p : Path) (u : UnitOf Text) → hands_left hands refuses features p u → IsUnitOfCode u
  left_of_code p u (given, made, handed, answered, e) = (made, e)

  module_of_code : (root m : Module) → hands_left hands refuses features root.path root.unit → (m ≡ root) ⊎ hands_left hands refuses features m.path m.unit → IsUnitOfCode m.unit
  module_of_code root m handed (inl e) = subst (λ (n : Module). IsUnitOfCode n.unit) (sym e) (left_of_code root.path root.unit handed)
  module_of_code root m handed (inr h) = left_of_code m.path m.unit h

pub links_found : (hands : Path → UnitOf Text → Type 0) (refuses : Path → ResolveError → Type 0) → LinksAreFound hands refuses
links_found hands refuses features p keep is_eager limit turns w (root, is_root, linked, order) = record {
  units = λ m c. module_of_code hands refuses features root m (subst (λ q. hands_left hands refuses features q root.unit) (sym is_root.0) is_root.1) (linked.world.handed m c);
  once = linked.once;
  entered = λ m c. subst (λ q. Entered (tables w) (record { root = q; kept = kept_names is_eager keep; is_eager = is_eager }) m.path) is_root.0 ((linked.paths m.path).0 (m, c, refl));
}

pub bundles_found : BundlesAreFound
bundles_found b w u (features, turns, names, are, links, agree, assembled) = links_found (handed b) (refused b) features b.root b.keep b.options.eager b.options.max_modules turns w links
