-- What a refused link tells.
use Rattle.std.proofs.Common.{◌≡◌, inl, inr, ℕ, Bool, List, All, Option, Some, None, true, false, refl, sym, subst, ap, ◌∙◌}
use Rattle.std.specs.Prelude.{if◌then◌else◌, option_map, string_bytes}
use Rattle.wesl_tree_names.specs.Path.{Text, Path, path_view, is_relative}
use Rattle.wesl_tree_names.specs.Errors.{resolver_is_memory, error_of_resolve, IsBare}
use Rattle.wesl_tree_names.specs.declared.errors.ResolveError as resolve_error
use Rattle.wesl_tree_names.specs.declared.errors.Error as error
use Rattle.wesl_tree_names.specs.declared.errors.ImportError as import_error
use Rattle.wesl_tree_names.specs.declared.path.ModulePath.{ModulePath}
use Rattle.wesl_tree_names.specs.declared.errors.Diagnostic.{Diagnostic, out-Diagnostic}
use Rattle.wesl_tree_syntax.specs.Unit.{UnitOf}
use Rattle.wesl_link_symbols.specs.declared.ids.PathId.{PathId}
use Rattle.wesl_tree_base.specs.declared.ids.NameId.{NameId}
use Rattle.wesl_link_reach.specs.declared.error.LinkError.{LinkError}
use Rattle.wesl_link_reach.specs.declared.error.LinkError.TheVariants as faults
use Rattle.wesl_link_symbols.specs.Tables.{Table}
use Rattle.wesl_link_reach.specs.Faults.{Fault, duplicate, refused, missing, private, too_many, ambiguous, too_many_flags, Explained}
use Rattle.wesl_link_reach.specs.Linking as linking
use Rattle.wesl_link_reach.specs.Refusal.{IsExplained}
use Rattle.wesl_link_tables.specs.Numbering.{AreRelated, SameTable, Numbering, NameAt, PathAt, AreDifferent}
use Rattle.wesl_link_engine.specs.Handing.{HaveOne, IsHandedTable}
use Rattle.wesl_link_engine.specs.Worlds.{Module, table, task_of, IsRefused}
use Rattle.wesl_link_engine.specs.Refusal.{TellsOfImport, TellsOf, TellsHome, TellsFault, home_of, HasNumbers, TellsLinkError, IsModuleAt, holder_of, IsIn, IsToldBy}
use Rattle.wesl_link_engine.specs.declared.loaded.Held.{Held}
use Rattle.wesl_link_engine.proofs.Carried.{SameFault}
use Rattle.wesl_link_engine.proofs.Built.{modules, unit_world, refused_world, paths_one, names_one}

-- ---- what is told of one kind of fault

-- an error that tells a fault of the one kind tells one of the other
module _ (P Q : Fault Path Text resolve_error.ResolveError → Type 0) (to : (f : Fault Path Text resolve_error.ResolveError) → P f → Q f) where
  tells_import : (e : import_error.ImportError) → TellsOfImport P e → TellsOfImport Q e
  tells_import (import_error.DuplicateSymbol n) (p, h) = (p, to _ h)
  tells_import (import_error.ResolveError e) (unwrapped, h) = (unwrapped, to _ h)
  tells_import (import_error.MissingDecl p n) h = to _ h
  tells_import (import_error.Private n p) h = to _ h
  tells_import (import_error.AmbiguousSymbol n) h = to _ h
  tells_import (import_error.TooManyFlags p) h = to _ h

  pub tells_over : (e : error.Error) → TellsOf P e → TellsOf Q e
  tells_over (error.Import e) h = tells_import e h
  tells_over (error.ModuleLimit k) h = to _ h
  tells_over error.Memory h = tt
  tells_over (error.CondComp e) h = absurd h
  tells_over (error.Resolve e) h = absurd h
  tells_over (error.Validate e) h = absurd h
  tells_over error.NotNormalType h = absurd h
  tells_over error.NotJson h = absurd h
  tells_over (error.BadTree place) h = absurd h
  tells_over (error.BadBundle place) h = absurd h

-- so does a diagnostic
pub fault_over : (P Q : Fault Path Text resolve_error.ResolveError → Type 0) → ((f : Fault Path Text resolve_error.ResolveError) → P f → Q f) → (d : Diagnostic) → TellsFault P d → TellsFault Q d
fault_over P Q to d h = record { fault = tells_over (λ f. P f × TellsHome (home_of f) d) (λ f. Q f × TellsHome (home_of f) d) (λ f k. (to f k.0, k.1)) (out-Diagnostic d).error h.fault; memory = h.memory }

-- its error alone tells one
pub error_told : (P : Fault Path Text resolve_error.ResolveError → Type 0) (d : Diagnostic) → TellsFault P d → TellsOf P (out-Diagnostic d).error
error_told P d h = tells_over (λ f. P f × TellsHome (home_of f) d) P (λ f k. k.0) (out-Diagnostic d).error h.fault

-- ---- diagnostics

-- a diagnostic that tells a module alone tells that of a fault
home_in : (e : error.Error) (m : Option ModulePath) (d : Diagnostic) (home : Option Path) → IsIn e m d → option_map path_view m ≡ home → TellsHome home d
home_in e m d home is same = record {
  home_told = ap (λ r. option_map path_view r.«module») is ∙ same;
  no_declaration = ap (λ r. r.declaration) is;
  no_display = ap (λ r. r.display) is;
  no_span = ap (λ r. r.span) is;
  no_source = ap (λ r. r.source) is;
}

pub memory_told : (P : Fault Path Text resolve_error.ResolveError → Type 0) (d : Diagnostic) → IsBare error.Memory d → TellsFault P d
memory_told P d bare = record {
  fault = subst (λ (x : error.Error). TellsOf (λ f. P f × TellsHome (home_of f) d) x) (sym (ap (λ r. r.error) bare)) tt;
  memory = λ is. home_in error.Memory None d None bare refl;
}

-- the error tells a fault of which P holds, and this is the path of the module that holds the fault
abbrev pub TellsIn : (Fault Path Text resolve_error.ResolveError → Type 0) → Option ModulePath → error.Error → Type 0
TellsIn P m e = TellsOf (λ f. P f × (option_map path_view m ≡ home_of f)) e

-- a diagnostic that says what a fault tells, unless it is want of memory
pub told_by : (P : Fault Path Text resolve_error.ResolveError → Type 0) (nb : Numbering) (f : LinkError resolve_error.ResolveError) (d : Diagnostic) → IsToldBy nb f d
    → ((e : error.Error) (m : Option ModulePath) → TellsLinkError nb f e → IsModuleAt nb (holder_of f) m → TellsIn P m e × (e ≡ error.Memory → m ≡ None)) → TellsFault P d
told_by P nb f d (inl bare) to = memory_told P d bare
told_by P nb f d (inr (e, told, inl bare)) to = memory_told P d bare
told_by P nb f d (inr (e, told, inr (m, at, is))) to =
    let (tells, alone) = to e m told at in
    let error_is : (out-Diagnostic d).error ≡ e = ap (λ r. r.error) is in
    record {
      fault = subst (λ (x : error.Error). TellsOf (λ g. P g × TellsHome (home_of g) d) x) (sym error_is)
          (tells_over (λ g. P g × (option_map path_view m ≡ home_of g)) (λ g. P g × TellsHome (home_of g) d) (λ g k. (k.0, home_in e m d (home_of g) is k.1)) e tells);
      memory = λ short. home_in e m d None is (ap (option_map path_view) (alone (sym error_is ∙ short)));
    }

-- a fault that says the same in texts is of the same kind
module _ (nb : Numbering) where
  abbrev InTexts : Fault PathId NameId resolve_error.ResolveError → Fault Path Text resolve_error.ResolveError → Type 0
  InTexts = SameFault (PathAt nb) (NameAt nb)

  duplicate_so : (p : PathId) (n : NameId) (g : Fault Path Text resolve_error.ResolveError) → InTexts (duplicate p n) g → (q : Path) × (m : Text) × (g ≡ duplicate q m) × PathAt nb p q × NameAt nb n m
  duplicate_so p n (duplicate q m) h = (q, m, refl, h.0, h.1)
  duplicate_so p n (refused f) h = absurd h
  duplicate_so p n (missing q m) h = absurd h
  duplicate_so p n (private m q) h = absurd h
  duplicate_so p n (too_many l) h = absurd h
  duplicate_so p n (ambiguous m) h = absurd h
  duplicate_so p n (too_many_flags q) h = absurd h

  refused_so : (e : resolve_error.ResolveError) (g : Fault Path Text resolve_error.ResolveError) → InTexts (refused e) g → g ≡ refused e
  refused_so e (refused f) h = ap refused (sym h)
  refused_so e (duplicate q m) h = absurd h
  refused_so e (missing q m) h = absurd h
  refused_so e (private m q) h = absurd h
  refused_so e (too_many l) h = absurd h
  refused_so e (ambiguous m) h = absurd h
  refused_so e (too_many_flags q) h = absurd h

  missing_so : (p : PathId) (n : NameId) (g : Fault Path Text resolve_error.ResolveError) → InTexts (missing p n) g → (q : Path) × (m : Text) × (g ≡ missing q m) × PathAt nb p q × NameAt nb n m
  missing_so p n (missing q m) h = (q, m, refl, h.0, h.1)
  missing_so p n (duplicate q m) h = absurd h
  missing_so p n (refused f) h = absurd h
  missing_so p n (private m q) h = absurd h
  missing_so p n (too_many l) h = absurd h
  missing_so p n (ambiguous m) h = absurd h
  missing_so p n (too_many_flags q) h = absurd h

  private_so : (n : NameId) (p : PathId) (g : Fault Path Text resolve_error.ResolveError) → InTexts (private n p) g → (m : Text) × (q : Path) × (g ≡ private m q) × NameAt nb n m × PathAt nb p q
  private_so n p (private m q) h = (m, q, refl, h.0, h.1)
  private_so n p (duplicate q m) h = absurd h
  private_so n p (refused f) h = absurd h
  private_so n p (missing q m) h = absurd h
  private_so n p (too_many l) h = absurd h
  private_so n p (ambiguous m) h = absurd h
  private_so n p (too_many_flags q) h = absurd h

  too_many_so : (k : ℕ) (g : Fault Path Text resolve_error.ResolveError) → InTexts (too_many k) g → g ≡ too_many k
  too_many_so k (too_many l) h = ap too_many (sym h)
  too_many_so k (duplicate q m) h = absurd h
  too_many_so k (refused f) h = absurd h
  too_many_so k (missing q m) h = absurd h
  too_many_so k (private m q) h = absurd h
  too_many_so k (ambiguous m) h = absurd h
  too_many_so k (too_many_flags q) h = absurd h

  ambiguous_so : (n : NameId) (g : Fault Path Text resolve_error.ResolveError) → InTexts (ambiguous n) g → (m : Text) × (g ≡ ambiguous m) × NameAt nb n m
  ambiguous_so n (ambiguous m) h = (m, refl, h)
  ambiguous_so n (duplicate q m) h = absurd h
  ambiguous_so n (refused f) h = absurd h
  ambiguous_so n (missing q m) h = absurd h
  ambiguous_so n (private m q) h = absurd h
  ambiguous_so n (too_many l) h = absurd h
  ambiguous_so n (too_many_flags q) h = absurd h

  too_many_flags_so : (p : PathId) (g : Fault Path Text resolve_error.ResolveError) → InTexts (too_many_flags p) g → (q : Path) × (g ≡ too_many_flags q) × PathAt nb p q
  too_many_flags_so p (too_many_flags q) h = (q, refl, h)
  too_many_flags_so p (duplicate q m) h = absurd h
  too_many_flags_so p (refused f) h = absurd h
  too_many_flags_so p (missing q m) h = absurd h
  too_many_flags_so p (private m q) h = absurd h
  too_many_flags_so p (too_many l) h = absurd h
  too_many_flags_so p (ambiguous m) h = absurd h

module _ (nb : Numbering) (hands : Path → UnitOf Text → Type 0) (units : List (PathId × Held)) (one : HaveOne units) (rt : Table PathId NameId) (rm : Module) (root_same : SameTable (PathAt nb) (NameAt nb) rt (table rm))
    (different_paths : AreDifferent nb.paths) (different_names : AreDifferent nb.names) (asked : All (λ p. is_relative p ≡ false) nb.paths)
    (kept : List NameId) (keep : List Text) (kept_same : AreRelated (NameAt nb) kept keep) (is_eager : Bool) (refuses : Path → resolve_error.ResolveError → Type 0) (refuses_id : PathId → resolve_error.ResolveError → Type 0)
    (to : (p : PathId) (q : Path) (e : resolve_error.ResolveError) → PathAt nb p q → refuses_id p e → refuses q e) (limit : ℕ) where
  -- the fault stands among units too
  stands_there : (f : Fault PathId NameId resolve_error.ResolveError) → Explained (IsHandedTable hands nb units) refuses_id rt (linking.task_of rt kept is_eager) limit f
      → (g : Fault Path Text resolve_error.ResolveError) × SameFault (PathAt nb) (NameAt nb) f g × IsRefused hands refuses rm (task_of rm keep is_eager) limit g
  stands_there f (w, is_world, stands) =
      let (ms, rel) = modules nb hands units one rt rm root_same different_paths different_names asked w is_world in
      let (g, same, there) = refused_world nb hands units one rt rm root_same different_paths different_names asked w is_world ms rel kept keep kept_same is_eager refuses refuses_id to limit f stands in
      (g, same, (ms, unit_world nb hands units one rt rm root_same different_paths different_names asked w is_world ms rel, there))

  pub has_numbers : (f : LinkError resolve_error.ResolveError) → IsExplained (IsHandedTable hands nb units) refuses_id rt (linking.task_of rt kept is_eager) limit f → HasNumbers nb f
  has_numbers (faults.DuplicateSymbol p n) x = let (g, same, there) = stands_there (duplicate p n) x in let (q, m, is, at, named) = duplicate_so nb p n g same in (m, named)
  has_numbers (faults.Refused r) x = tt
  has_numbers (faults.MissingDecl p n) x = let (g, same, there) = stands_there (missing p n) x in let (q, m, is, at, named) = missing_so nb p n g same in ((q, at), (m, named))
  has_numbers (faults.Private n p) x = let (g, same, there) = stands_there (private n p) x in let (m, q, is, named, at) = private_so nb n p g same in ((m, named), (q, at))
  has_numbers (faults.AmbiguousSymbol n) x = let (g, same, there) = stands_there (ambiguous n) x in let (m, is, named) = ambiguous_so nb n g same in (m, named)
  has_numbers (faults.TooManyFlags p) x = let (g, same, there) = stands_there (too_many_flags p) x in let (q, is, at) = too_many_flags_so nb p g same in (q, at)
  has_numbers (faults.ModuleLimit k) x = tt
  has_numbers faults.Memory x = tt

  abbrev Refused : Fault Path Text resolve_error.ResolveError → Type 0
  Refused = IsRefused hands refuses rm (task_of rm keep is_eager) limit

  abbrev Told : Option ModulePath → error.Error → Type 0
  Told m e = TellsIn Refused m e × (e ≡ error.Memory → m ≡ None)

  -- of which module it is told, where it is told of none
  nowhere : (m : Option ModulePath) → m ≡ None → option_map path_view m ≡ None
  nowhere m e = ap (option_map path_view) e

  resolve_told : (m : Option ModulePath) → m ≡ None → (r : resolve_error.ResolveError) → Refused (refused r) → Told m (error_of_resolve r)
  resolve_told m none r h = by (resolver_is_memory r) refl
    where
      by : (b : Bool) → resolver_is_memory r ≡ b → Told m (error_of_resolve r)
      by true e = subst (λ (x : Bool). Told m (if x then error.Memory else error.Import (import_error.ResolveError r))) (sym e) (tt, λ short. none)
      by false e = subst (λ (x : Bool). Told m (if x then error.Memory else error.Import (import_error.ResolveError r))) (sym e) ((e, (h, nowhere m none)), λ short. none)

  name_one : (n : NameId) (x y : Text) → NameAt nb n x → NameAt nb n y → x ≡ y
  name_one = (names_one nb different_names).one

  path_one : (p : PathId) (q r : Path) → PathAt nb p q → PathAt nb p r → q ≡ r
  path_one = (paths_one nb different_paths).one

  -- the module of a number that is a path's is told
  somewhere : (p : PathId) (q : Path) (m : Option ModulePath) → PathAt nb p q → IsModuleAt nb (Some p) m → option_map path_view m ≡ Some q
  somewhere p q None at none = let never : None ≡ Some q = sym none ∙ at in absurd cc
  somewhere p q (Some r) at here = ap Some (path_one p (path_view r) q here at)

  pub refusal_told : (f : LinkError resolve_error.ResolveError) (e : error.Error) (m : Option ModulePath) → IsExplained (IsHandedTable hands nb units) refuses_id rt (linking.task_of rt kept is_eager) limit f
      → TellsLinkError nb f e → IsModuleAt nb (holder_of f) m → Told m e
  refusal_told (faults.DuplicateSymbol p n) e home x (y, is, named) held =
      let (g, same, there) = stands_there (duplicate p n) x in
      let (q, m, kind, at, named2) = duplicate_so nb p n g same in
      let P : error.Error → Type 0 = Told home in
      subst P (sym is) ((q, (subst Refused (kind ∙ ap (duplicate q) (name_one n m (string_bytes y) named2 named)) there, somewhere p q home at held)), λ short. cc)
  refusal_told (faults.Refused r) e home x is held =
      let (g, same, there) = stands_there (refused r) x in
      let P : error.Error → Type 0 = Told home in
      subst P (sym is) (resolve_told home held r (subst Refused (refused_so nb r g same) there))
  refusal_told (faults.MissingDecl p n) e home x (path, y, is, at, named) held =
      let (g, same, there) = stands_there (missing p n) x in
      let (q, m, kind, at2, named2) = missing_so nb p n g same in
      let P : error.Error → Type 0 = Told home in
      subst P (sym is) (
        (
          subst Refused (kind ∙ (ap (λ (z : Path). missing z m) (path_one p q (path_view path) at2 at) ∙ ap (missing (path_view path)) (name_one n m (string_bytes y) named2 named))) there,
          somewhere p (path_view path) home at held,
        ),
        λ short. cc,
      )
  refusal_told (faults.Private n p) e home x (y, path, is, named, at) held =
      let (g, same, there) = stands_there (private n p) x in
      let (m, q, kind, named2, at2) = private_so nb n p g same in
      let P : error.Error → Type 0 = Told home in
      subst P (sym is) (
        (
          subst Refused (kind ∙ (ap (λ (z : Text). private z q) (name_one n m (string_bytes y) named2 named) ∙ ap (private (string_bytes y)) (path_one p q (path_view path) at2 at))) there,
          somewhere p (path_view path) home at held,
        ),
        λ short. cc,
      )
  refusal_told (faults.AmbiguousSymbol n) e home x (y, is, named) held =
      let (g, same, there) = stands_there (ambiguous n) x in
      let (m, kind, named2) = ambiguous_so nb n g same in
      let P : error.Error → Type 0 = Told home in
      subst P (sym is) ((subst Refused (kind ∙ ap ambiguous (name_one n m (string_bytes y) named2 named)) there, nowhere home held), λ short. held)
  refusal_told (faults.TooManyFlags p) e home x (path, is, at) held =
      let (g, same, there) = stands_there (too_many_flags p) x in
      let (q, kind, at2) = too_many_flags_so nb p g same in
      let P : error.Error → Type 0 = Told home in
      subst P (sym is) ((subst Refused (kind ∙ ap too_many_flags (path_one p q (path_view path) at2 at)) there, nowhere home held), λ short. held)
  refusal_told (faults.ModuleLimit k) e home x is held =
      let (g, same, there) = stands_there (too_many k) x in
      let P : error.Error → Type 0 = Told home in
      subst P (sym is) ((subst Refused (too_many_so nb k g same) there, nowhere home held), λ short. held)
  refusal_told faults.Memory e home x is held = let P : error.Error → Type 0 = Told home in subst P (sym is) (tt, λ short. held)
