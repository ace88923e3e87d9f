-- Identifiers without their paths, and where those stand that have one.
use Rattle.std.specs.Prelude.{◌≡◌, ℕ, zero, suc, Some, None, List, [], ◌∷◌, ◌++◌, map}
use Rattle.wesl_tree_names.specs.Path.{Path}
use Rattle.wesl_scope_occurrences.specs.Occurrences.{Standing, reference}
use Rattle.wesl_scope_occurrences.specs.Walk.{Found}
use Rattle.wesl_scope_occurrences.specs.Events.{path_met}

-- how an identifier stands without its path: a reference with a path stands as one that has none
abbrev pub bare_as : Standing → Standing
bare_as (reference (Some path)) = reference None
bare_as r = r

-- an identifier without its path
abbrev pub bare : Found → Found
bare o = record o { role = bare_as o.role }

-- the place, if what stands so has a path
abbrev pub path_place : ℕ → Standing → List ℕ
path_place p (reference (Some path)) = p ∷ []
path_place p _ = []

-- the places of those that have a path, where p identifiers come before
abbrev pub path_places : ℕ → List Found → List ℕ
path_places p [] = []
path_places p (o ∷ os) = path_place p o.role ++ path_places (suc p) os

-- the paths of those that have one
abbrev pub paths_in : List Found → List Path
paths_in [] = []
paths_in (o ∷ os) = path_met o.role ++ paths_in os

-- the identifier at this place is a reference by the path
abbrev pub with_path : ℕ → Path → List Found → List Found
with_path p path [] = []
with_path zero path (o ∷ os) = record o { role = reference (Some path) } ∷ os
with_path (suc p) path (o ∷ os) = o ∷ with_path p path os

-- identifiers that were without their paths have got them back
abbrev pub IsPatched : List Found → List ℕ → List Path → List Found → Type 0
IsPatched old places paths new = (os : List Found) → old ≡ map bare os → places ≡ path_places 0 os → paths ≡ paths_in os → new ≡ os

-- what the first identifier leaves of n that get their paths
abbrev pub fewer : Standing → ℕ → ℕ
fewer (reference (Some path)) zero = zero
fewer (reference (Some path)) (suc n) = n
fewer _ n = n

-- an identifier, if n of those from it on get their paths
abbrev pub first_partly : Standing → ℕ → Found → Found
first_partly (reference (Some path)) zero o = bare o
first_partly _ n o = o

-- the first n of those that have a path with it, and the others without
abbrev pub partly : ℕ → List Found → List Found
partly n [] = []
partly n (o ∷ os) = first_partly o.role n o ∷ partly (fewer o.role n) os

-- one more has its path
abbrev pub IsPatchedAt : ℕ → List Found → List ℕ → List Path → List Found → Type 0
IsPatchedAt n old places paths new = (os : List Found) → old ≡ partly n os → places ≡ path_places 0 os → paths ≡ paths_in os → new ≡ partly (suc n) os
