-- Links whose symbols print under escape names (WESL, "NameMangling").
use Rattle.std.specs.Prelude.{◌≡◌, ◌≢◌, ℕ, true, Some, List, [], ◌∷◌}
use Rattle.wesl_tree_names.specs.Path.{Text, Path}
use Rattle.wesl_tree_syntax.specs.Unit.{UnitView, trees_of}
use Rattle.wesl_scope_occurrences.specs.Occurrences.{Occurrence, occurrences}
use Rattle.wesl_scope_numbers.specs.Faithful.{name_of}
use Rattle.wesl_link_symbols.specs.declared.symbols.Symbol.{Symbol}
use Rattle.wesl_link_reach.specs.World.{Task, Reached}
use Rattle.wesl_mangle_forms.specs.Escape.{escape, unescape, is_reversible}
use Rattle.wesl_link_engine.specs.Worlds.{Module, tables, task_of}
use Rattle.wesl_link_engine.specs.Resolved.{Resolved}
use Rattle.wesl_link_laws.specs.Apart.{OfLocalsAndFree}

-- the link reaches the symbol, and so its unit holds what declares it
abbrev pub Holds : List Module → Task Path Text → Symbol Path Text → Type 0
Holds w task s = Reached (tables w) task s

-- the same of the modules of a `Resolutions`, the root first; without modules no symbol is reached
abbrev pub Reaches : Resolved → List Module → Symbol Path Text → Type 0
Reaches r [] s = ⊥
Reaches r (root ∷ others) s = Holds (root ∷ others) (task_of root r.kept r.is_eager) s

-- the link of a `Resolutions` reaches the symbol
abbrev pub HoldsSymbol : Resolved → Symbol Path Text → Type 0
HoldsSymbol r s = Reaches r r.modules s

-- of the symbols that a link holds
module _ (held : Symbol Path Text → Type 0) where
  -- each is read back from its escape name
  abbrev pub AreReadBack : Type 0
  AreReadBack = (s : Symbol Path Text) → held s → unescape (escape s.path s.name) ≡ Some (s.path, s.name)

  -- each is reversible, and so read back where its names are those of code
  abbrev pub AreReversible : Type 0
  AreReversible = (s : Symbol Path Text) → held s → is_reversible s.path s.name ≡ true

  -- the identifier is spelled as the escape name of none
  abbrev pub SpellsNoEscape : List Text → List (Occurrence ℕ) → Occurrence ℕ → Type 0
  SpellsNoEscape names all o = (s : Symbol Path Text) → held s → name_of names all o ≢ escape s.path s.name

  -- no parameter, no local declaration and no free reference of the unit is spelled so
  abbrev pub LeavesEscapes : UnitView → Type 0
  LeavesEscapes u = let all = occurrences (trees_of u) in OfLocalsAndFree u.names all (SpellsNoEscape u.names all)
