-- What resolvers mean, and that a call leaves it as it was.
use Rattle.std.specs.Prelude.{Option, ◌↔◌}
use Rattle.wesl_tree_names.specs.Path.{Text, Path}
use Rattle.wesl_tree_names.specs.declared.errors.ResolveError.{ResolveError}
use Rattle.wesl_tree_syntax.specs.Unit.{UnitOf}

-- both give the same answers to the same questions: the units that they hand out, their refusals, the sources, what
-- they say where there is none, and the names that they show
pub record MeansTheSame {S : Type 0} (hands : S → Path → UnitOf Text → Type 0) (refuses : S → Path → ResolveError → Type 0)
    (source : S → Path → Text → Type 0) (lacks : S → Path → ResolveError → Type 0) (shown : S → Path → Option Text → Type 0)
    (old new : S) : Type 0 where
  pub units : (p : Path) (u : UnitOf Text) → hands new p u ↔ hands old p u
  pub faults : (p : Path) (e : ResolveError) → refuses new p e ↔ refuses old p e
  pub sources : (p : Path) (text : Text) → source new p text ↔ source old p text
  pub missing : (p : Path) (e : ResolveError) → lacks new p e ↔ lacks old p e
  pub names : (p : Path) (name : Option Text) → shown new p name ↔ shown old p name
