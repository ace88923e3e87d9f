-- What is told of a result, told of the value that was taken from it.
use Rattle.std.proofs.Common.{◌≡◌, Option, Some, None, IfSome, IfNone, List, ◌++◌, ◌∷◌, [], true, Result, Ok, Err, IfOk, OnOk, sym, subst}
use Rattle.std.specs.Prelude.{is_ok, if◌then◌else◌, slice_get}
use Rattle.std.specs.Result.{result_ok}
use Rattle.wesl_tree_names.specs.Path.{path_view}
use Rattle.wesl_tree_names.specs.declared.path.ModulePath.{ModulePath}
use Rattle.wesl_link_symbols.specs.declared.ids.PathId.{PathId}
use Rattle.wesl_link_tables.specs.Numbering.{Numbering, PathAt}
use Rattle.wesl_link_engine.specs.Refusal.{IsModuleAt}

pub ok_told : {T E : Type 0} (P : T → Type 0) (r : Result T E) (x : T) → Some x ≡ result_ok r → IfOk r P → P x
ok_told P (Ok y) x e h = let same : x ≡ y = cc in subst P (sym same) h
ok_told P (Err z) x e h = cc

-- what was pushed
pub pushed : {T R E : Type 0} (old new : List T) (x : T) (r : Result R E) → is_ok r ≡ true → new ≡ (if is_ok r then old ++ x ∷ [] else old) → new ≡ old ++ x ∷ []
pushed old new x (Ok y) e h = h
pushed old new x (Err z) e h = cc

-- the same of the value that was taken
pub ok_on : {T E P : Type 0} (r : Result T E) (x : T) → Some x ≡ result_ok r → OnOk r P → P
ok_on (Ok y) x e h = h
ok_on (Err z) x e h = cc

-- where there is a value, what follows of it
pub if_ok : {T E : Type 0} {P Q : T → Type 0} (r : Result T E) → ((t : T) → P t → Q t) → IfOk r P → IfOk r Q
if_ok (Ok t) f h = f t h
if_ok (Err e) f h = tt

pub then_on : {T E P Q : Type 0} (r : Result T E) → (P → Q) → OnOk r P → OnOk r Q
then_on (Ok t) f h = f h
then_on (Err e) f h = tt

-- the path of a number, told where it has one
pub module_told : {E : Type 0} (nb : Numbering) (p : PathId) (r : Result (Option ModulePath) E) → IfOk r (λ o. IfSome o (λ m. PathAt nb p (path_view m))) → IfOk r (λ o. IfNone o (slice_get nb.paths p.0 ≡ None)) → IfOk r (IsModuleAt nb (Some p))
module_told nb p (Ok None) h k = k
module_told nb p (Ok (Some m)) h k = h
module_told nb p (Err e) h k = tt
