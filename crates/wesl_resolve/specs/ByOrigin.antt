-- Paths into packages, and all others.
use Rattle.wesl_tree_names.specs.Path.{Path, Origin, absolute, relative, from_package}

-- P where the origin is a named package, and Q where it is the own package or relative
abbrev pub AtOrigin : Origin → Type 0 → Type 0 → Type 0
AtOrigin (from_package name) P Q = P
AtOrigin absolute P Q = Q
AtOrigin (relative n) P Q = Q

-- P where the path begins in a named package, and Q elsewhere
abbrev pub ByOrigin : Path → Type 0 → Type 0 → Type 0
ByOrigin p P Q = AtOrigin p.origin P Q

-- P, if the path begins in a named package
abbrev pub IfInPackage : Path → Type 0 → Type 0
IfInPackage p P = ByOrigin p P (Unit {0})
