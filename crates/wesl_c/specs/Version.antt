-- Versions as numbers.
use Rattle.std.specs.Prelude.{ℕ, ◌+◌, ◌*◌}

-- the number of a version of three numbers, such as 0.1.0, of which the last two are below a hundred: a later version has a greater one
abbrev pub version_of : ℕ → ℕ → ℕ → ℕ
version_of major minor patch = major * 10000 + minor * 100 + patch
