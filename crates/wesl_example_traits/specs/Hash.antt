-- Numbers of texts, a byte after the other.
use Rattle.std.specs.Prelude.{ℕ, ◌+◌, ◌*◌, ◌%◌, ◌^◌, List, [], ◌∷◌}
use Rattle.wesl_tree.specs.Path.{Text}

-- what is wrapped to 64 bits
abbrev pub wrapped : ℕ → ℕ
wrapped n = n % 2 ^ 64

-- a number after the bytes of a text
abbrev pub hash_text : ℕ → Text → ℕ
hash_text h [] = h
hash_text h (b ∷ bs) = hash_text (wrapped (wrapped (h * 31) + b)) bs

-- a number after these texts
abbrev pub hash_texts : ℕ → List Text → ℕ
hash_texts h [] = h
hash_texts h (t ∷ ts) = hash_texts (hash_text h t) ts
