-- What a loader answers.
use Rattle.std.specs.Prelude.{Contains}
use Rattle.wesl_link_reach.specs.declared.loader.LoadError.{LoadError}
use Rattle.wesl_link_reach.specs.declared.loader.LoadError.TheVariants.{Refused, Memory}
use Rattle.wesl_link_symbols.specs.declared.symbols.Import.{Import}
use Rattle.wesl_link_symbols.specs.declared.symbols.Reference.{Reference}
use Rattle.wesl_link_symbols.specs.Tables.{Declaration, Table}

-- the error is one that the path may be refused with, or want of memory
abbrev pub Explains : {E : Type 0} → (E → Type 0) → LoadError E → Type 0
Explains refuses (Refused e) = refuses e
Explains refuses Memory = Unit {0}

-- the loader may be asked for each path that the module imports from or refers to
pub record IsReady {P N : Type 0} (ready : P → Type 0) (t : Table P N) : Type 0 where
  pub imports : (i : Import P N) → Contains t.imports i → ready i.path
  pub references : (d : Declaration P N) (r : Reference P N) → Contains t.declarations d → Contains d.references r → ready r.path

-- what was handed out, refused and ready still is
pub record OnlyAdds {P N E : Type 0} (old_hands : P → Table P N → Type 0) (old_refuses : P → E → Type 0) (old_ready : P → Type 0)
    (new_hands : P → Table P N → Type 0) (new_refuses : P → E → Type 0) (new_ready : P → Type 0) : Type 0 where
  pub hands : (p : P) (t : Table P N) → old_hands p t → new_hands p t
  pub refuses : (p : P) (e : E) → old_refuses p e → new_refuses p e
  pub ready : (p : P) → old_ready p → new_ready p
