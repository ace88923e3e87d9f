-- A value where a test holds.
use Rattle.std.proofs.Common.{◌≡◌, Bool, true, false, ◌&&◌, if◌then◌else◌, Option, Some, None, option_map, option_and_then, refl}

abbrev pub guard : {A : Type 0} → Bool → A → Option A
guard b x = if b then Some x else None

pub map_guard : {A B : Type 0} (f : A → B) (b : Bool) (x : A) → option_map f (guard b x) ≡ guard b (f x)
map_guard f true x = refl
map_guard f false x = refl

-- two steps
pub two_guards : {A B C : Type 0} (f : A → B → C) (a b : Bool) (x : A) (y : B) → option_and_then (λ t. option_and_then (λ u. Some (f t u)) (guard b y)) (guard a x) ≡ guard (a && b) (f x y)
two_guards f true true x y = refl
two_guards f true false x y = refl
two_guards f false b x y = refl
