-- What is recorded of a source, told by what the resolver meant before it was asked.
use Rattle.std.proofs.Common.{◌↔◌, Option, inl, inr}
use Rattle.wesl_tree_names.specs.Path.{Text, Path}
use Rattle.wesl_tree_names.specs.declared.errors.ResolveError.{ResolveError}
use Rattle.wesl_tree_syntax.specs.Unit.{UnitOf}
use Rattle.wesl_resolve_base.specs.Resolver.{MeansTheSame}
use Rattle.wesl_source_map_entries.specs.Records.{Sources}
use Rattle.wesl_source_map.specs.Recording.{Records, RecordsIfGiven}

then : {A B C : Type 0} → C ↔ B → B ↔ A → C ↔ A
then g f = ((λ x. f.0 (g.0 x)), (λ x. g.1 (f.1 x)))

module _ {S : Type 0} (hands : S → Path → UnitOf Text → Type 0) (refuses : S → Path → ResolveError → Type 0) (source : S → Path → Text → Type 0)
    (lacks : S → Path → ResolveError → Type 0) (shown : S → Path → Option Text → Type 0) (before after : S) (same : MeansTheSame hands refuses source lacks shown before after) where
  -- two questions after one another leave what it means
  pub means-after : (last : S) → MeansTheSame hands refuses source lacks shown after last → MeansTheSame hands refuses source lacks shown before last
  means-after last next = record {
    units = λ p u. then (next.units p u) (same.units p u);
    faults = λ p e. then (next.faults p e) (same.faults p e);
    sources = λ p text. then (next.sources p text) (same.sources p text);
    missing = λ p e. then (next.missing p e) (same.missing p e);
    names = λ p name. then (next.names p name) (same.names p name);
  }

  -- the name by which the module is shown is one of before
  recorded-before : (p : Path) (text : Text) (old new : Sources) → Records (shown after p) p text old new → Records (shown before p) p text old new
  recorded-before p text old new h = (h.0, (same.names p h.0).0 h.1, h.2)

  -- so is the source, and what is said where there is none
  pub given-before : (p : Path) (old new : Sources) → RecordsIfGiven (source after p) (lacks after p) (shown after p) p old new → RecordsIfGiven (source before p) (lacks before p) (shown before p) p old new
  given-before p old new (inl h) = inl (h.0, (same.sources p h.0).0 h.1, recorded-before p h.0 old new h.2)
  given-before p old new (inr h) = inr (h.0, (same.missing p h.0).0 h.1, h.2, h.3)
