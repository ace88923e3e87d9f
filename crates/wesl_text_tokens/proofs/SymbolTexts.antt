-- The symbols and their texts.
use Rattle.std.proofs.Common.{◌≡◌, ℕ, zero, suc, Bool, true, false, ◌||◌, ◌++◌, List, [], ◌∷◌, get_or, Option, Some, None, is_some, not, refl, ap, sym, ◌∙◌}
use Rattle.std.specs.List.{list_all}
use Rattle.std.proofs.lemmas.Bool.{and_parts}
use Rattle.wesl_text_tokens.specs.declared.symbol.Symbol.{Symbol}
use Rattle.wesl_text_tokens.specs.declared.symbol.Symbol.TheVariants as is
use Rattle.std.proofs.lemmas.Slice.Eq.{bytes_eq-Decides}
use Rattle.std.specs.Prelude.{bytes_eq, if◌then◌else◌}
use Rattle.wesl_tree_names.specs.Path.{Text}
use Rattle.wesl_text_tokens.specs.Symbols.{look_up, symbol_of, symbol_text, symbol_words}

pub symbol_of_text : (s : Symbol) → symbol_of (symbol_text s) ≡ Some s
symbol_of_text is.ParenLeft = refl
symbol_of_text is.ParenRight = refl
symbol_of_text is.BracketLeft = refl
symbol_of_text is.BracketRight = refl
symbol_of_text is.BraceLeft = refl
symbol_of_text is.BraceRight = refl
symbol_of_text is.Less = refl
symbol_of_text is.Greater = refl
symbol_of_text is.At = refl
symbol_of_text is.Comma = refl
symbol_of_text is.Period = refl
symbol_of_text is.Semicolon = refl
symbol_of_text is.Colon = refl
symbol_of_text is.Equal = refl
symbol_of_text is.Plus = refl
symbol_of_text is.Minus = refl
symbol_of_text is.Star = refl
symbol_of_text is.Slash = refl
symbol_of_text is.Percent = refl
symbol_of_text is.And = refl
symbol_of_text is.Or = refl
symbol_of_text is.Xor = refl
symbol_of_text is.Bang = refl
symbol_of_text is.Tilde = refl
symbol_of_text is.ColonColon = refl
symbol_of_text is.Arrow = refl
symbol_of_text is.PlusPlus = refl
symbol_of_text is.MinusMinus = refl
symbol_of_text is.AndAnd = refl
symbol_of_text is.OrOr = refl
symbol_of_text is.EqualEqual = refl
symbol_of_text is.NotEqual = refl
symbol_of_text is.LessEqual = refl
symbol_of_text is.GreaterEqual = refl
symbol_of_text is.ShiftLeft = refl
symbol_of_text is.ShiftRight = refl
symbol_of_text is.PlusEqual = refl
symbol_of_text is.MinusEqual = refl
symbol_of_text is.StarEqual = refl
symbol_of_text is.SlashEqual = refl
symbol_of_text is.PercentEqual = refl
symbol_of_text is.AndEqual = refl
symbol_of_text is.OrEqual = refl
symbol_of_text is.XorEqual = refl
symbol_of_text is.ShiftLeftEqual = refl
symbol_of_text is.ShiftRightEqual = refl

-- ---- all symbols

abbrev pub symbols : List Symbol
symbols = is.ParenLeft ∷ is.ParenRight ∷ is.BracketLeft ∷ is.BracketRight ∷ is.BraceLeft ∷ is.BraceRight ∷ is.Less ∷ is.Greater ∷ is.At ∷ is.Comma ∷ is.Period ∷ is.Semicolon ∷ is.Colon ∷ is.Equal ∷ is.Plus ∷ is.Minus ∷ is.Star ∷ is.Slash ∷ is.Percent ∷ is.And ∷ is.Or ∷ is.Xor ∷ is.Bang ∷ is.Tilde ∷ is.ColonColon ∷ is.Arrow ∷ is.PlusPlus ∷ is.MinusMinus ∷ is.AndAnd ∷ is.OrOr ∷ is.EqualEqual ∷ is.NotEqual ∷ is.LessEqual ∷ is.GreaterEqual ∷ is.ShiftLeft ∷ is.ShiftRight ∷ is.PlusEqual ∷ is.MinusEqual ∷ is.StarEqual ∷ is.SlashEqual ∷ is.PercentEqual ∷ is.AndEqual ∷ is.OrEqual ∷ is.XorEqual ∷ is.ShiftLeftEqual ∷ is.ShiftRightEqual ∷ []

all_at : (p : Symbol → Bool) (xs : List Symbol) (i : ℕ) (d : Symbol) → p d ≡ true → list_all p xs ≡ true → p (get_or xs i d) ≡ true
all_at p [] i d e h = e
all_at p (x ∷ xs) zero d e h = (and_parts (p x) (list_all p xs) h).0
all_at p (x ∷ xs) (suc i) d e h = all_at p xs i d e (and_parts (p x) (list_all p xs) h).1

pub each : (p : Symbol → Bool) → list_all p symbols ≡ true → (s : Symbol) → p s ≡ true
each p h is.ParenLeft = (and_parts (p is.ParenLeft) _ h).0
each p h is.ParenRight = all_at p symbols 1 is.ParenLeft (and_parts (p is.ParenLeft) _ h).0 h
each p h is.BracketLeft = all_at p symbols 2 is.ParenLeft (and_parts (p is.ParenLeft) _ h).0 h
each p h is.BracketRight = all_at p symbols 3 is.ParenLeft (and_parts (p is.ParenLeft) _ h).0 h
each p h is.BraceLeft = all_at p symbols 4 is.ParenLeft (and_parts (p is.ParenLeft) _ h).0 h
each p h is.BraceRight = all_at p symbols 5 is.ParenLeft (and_parts (p is.ParenLeft) _ h).0 h
each p h is.Less = all_at p symbols 6 is.ParenLeft (and_parts (p is.ParenLeft) _ h).0 h
each p h is.Greater = all_at p symbols 7 is.ParenLeft (and_parts (p is.ParenLeft) _ h).0 h
each p h is.At = all_at p symbols 8 is.ParenLeft (and_parts (p is.ParenLeft) _ h).0 h
each p h is.Comma = all_at p symbols 9 is.ParenLeft (and_parts (p is.ParenLeft) _ h).0 h
each p h is.Period = all_at p symbols 10 is.ParenLeft (and_parts (p is.ParenLeft) _ h).0 h
each p h is.Semicolon = all_at p symbols 11 is.ParenLeft (and_parts (p is.ParenLeft) _ h).0 h
each p h is.Colon = all_at p symbols 12 is.ParenLeft (and_parts (p is.ParenLeft) _ h).0 h
each p h is.Equal = all_at p symbols 13 is.ParenLeft (and_parts (p is.ParenLeft) _ h).0 h
each p h is.Plus = all_at p symbols 14 is.ParenLeft (and_parts (p is.ParenLeft) _ h).0 h
each p h is.Minus = all_at p symbols 15 is.ParenLeft (and_parts (p is.ParenLeft) _ h).0 h
each p h is.Star = all_at p symbols 16 is.ParenLeft (and_parts (p is.ParenLeft) _ h).0 h
each p h is.Slash = all_at p symbols 17 is.ParenLeft (and_parts (p is.ParenLeft) _ h).0 h
each p h is.Percent = all_at p symbols 18 is.ParenLeft (and_parts (p is.ParenLeft) _ h).0 h
each p h is.And = all_at p symbols 19 is.ParenLeft (and_parts (p is.ParenLeft) _ h).0 h
each p h is.Or = all_at p symbols 20 is.ParenLeft (and_parts (p is.ParenLeft) _ h).0 h
each p h is.Xor = all_at p symbols 21 is.ParenLeft (and_parts (p is.ParenLeft) _ h).0 h
each p h is.Bang = all_at p symbols 22 is.ParenLeft (and_parts (p is.ParenLeft) _ h).0 h
each p h is.Tilde = all_at p symbols 23 is.ParenLeft (and_parts (p is.ParenLeft) _ h).0 h
each p h is.ColonColon = all_at p symbols 24 is.ParenLeft (and_parts (p is.ParenLeft) _ h).0 h
each p h is.Arrow = all_at p symbols 25 is.ParenLeft (and_parts (p is.ParenLeft) _ h).0 h
each p h is.PlusPlus = all_at p symbols 26 is.ParenLeft (and_parts (p is.ParenLeft) _ h).0 h
each p h is.MinusMinus = all_at p symbols 27 is.ParenLeft (and_parts (p is.ParenLeft) _ h).0 h
each p h is.AndAnd = all_at p symbols 28 is.ParenLeft (and_parts (p is.ParenLeft) _ h).0 h
each p h is.OrOr = all_at p symbols 29 is.ParenLeft (and_parts (p is.ParenLeft) _ h).0 h
each p h is.EqualEqual = all_at p symbols 30 is.ParenLeft (and_parts (p is.ParenLeft) _ h).0 h
each p h is.NotEqual = all_at p symbols 31 is.ParenLeft (and_parts (p is.ParenLeft) _ h).0 h
each p h is.LessEqual = all_at p symbols 32 is.ParenLeft (and_parts (p is.ParenLeft) _ h).0 h
each p h is.GreaterEqual = all_at p symbols 33 is.ParenLeft (and_parts (p is.ParenLeft) _ h).0 h
each p h is.ShiftLeft = all_at p symbols 34 is.ParenLeft (and_parts (p is.ParenLeft) _ h).0 h
each p h is.ShiftRight = all_at p symbols 35 is.ParenLeft (and_parts (p is.ParenLeft) _ h).0 h
each p h is.PlusEqual = all_at p symbols 36 is.ParenLeft (and_parts (p is.ParenLeft) _ h).0 h
each p h is.MinusEqual = all_at p symbols 37 is.ParenLeft (and_parts (p is.ParenLeft) _ h).0 h
each p h is.StarEqual = all_at p symbols 38 is.ParenLeft (and_parts (p is.ParenLeft) _ h).0 h
each p h is.SlashEqual = all_at p symbols 39 is.ParenLeft (and_parts (p is.ParenLeft) _ h).0 h
each p h is.PercentEqual = all_at p symbols 40 is.ParenLeft (and_parts (p is.ParenLeft) _ h).0 h
each p h is.AndEqual = all_at p symbols 41 is.ParenLeft (and_parts (p is.ParenLeft) _ h).0 h
each p h is.OrEqual = all_at p symbols 42 is.ParenLeft (and_parts (p is.ParenLeft) _ h).0 h
each p h is.XorEqual = all_at p symbols 43 is.ParenLeft (and_parts (p is.ParenLeft) _ h).0 h
each p h is.ShiftLeftEqual = all_at p symbols 44 is.ParenLeft (and_parts (p is.ParenLeft) _ h).0 h
each p h is.ShiftRightEqual = all_at p symbols 45 is.ParenLeft (and_parts (p is.ParenLeft) _ h).0 h

-- whether a symbol may be the last of a longer one that is joined
abbrev pub is_last : Symbol → Bool
is_last is.ParenLeft = false
is_last is.ParenRight = false
is_last is.BracketLeft = false
is_last is.BracketRight = false
is_last is.BraceLeft = false
is_last is.BraceRight = false
is_last is.Less = true
is_last is.Greater = true
is_last is.At = false
is_last is.Comma = false
is_last is.Period = false
is_last is.Semicolon = false
is_last is.Colon = true
is_last is.Equal = true
is_last is.Plus = true
is_last is.Minus = true
is_last is.Star = false
is_last is.Slash = false
is_last is.Percent = false
is_last is.And = true
is_last is.Or = true
is_last is.Xor = false
is_last is.Bang = false
is_last is.Tilde = false
is_last is.ColonColon = false
is_last is.Arrow = false
is_last is.PlusPlus = false
is_last is.MinusMinus = false
is_last is.AndAnd = false
is_last is.OrOr = false
is_last is.EqualEqual = false
is_last is.NotEqual = false
is_last is.LessEqual = true
is_last is.GreaterEqual = true
is_last is.ShiftLeft = false
is_last is.ShiftRight = false
is_last is.PlusEqual = false
is_last is.MinusEqual = false
is_last is.StarEqual = false
is_last is.SlashEqual = false
is_last is.PercentEqual = false
is_last is.AndEqual = false
is_last is.OrEqual = false
is_last is.XorEqual = false
is_last is.ShiftLeftEqual = false
is_last is.ShiftRightEqual = false

pub no_last : (b : Symbol) → (b ≡ is.Less → ⊥) → (b ≡ is.Greater → ⊥) → (b ≡ is.Colon → ⊥) → (b ≡ is.Equal → ⊥) → (b ≡ is.Plus → ⊥) → (b ≡ is.Minus → ⊥) → (b ≡ is.And → ⊥) → (b ≡ is.Or → ⊥) → (b ≡ is.LessEqual → ⊥) → (b ≡ is.GreaterEqual → ⊥) → is_last b ≡ false
no_last is.ParenLeft n0 n1 n2 n3 n4 n5 n6 n7 n8 n9 = refl
no_last is.ParenRight n0 n1 n2 n3 n4 n5 n6 n7 n8 n9 = refl
no_last is.BracketLeft n0 n1 n2 n3 n4 n5 n6 n7 n8 n9 = refl
no_last is.BracketRight n0 n1 n2 n3 n4 n5 n6 n7 n8 n9 = refl
no_last is.BraceLeft n0 n1 n2 n3 n4 n5 n6 n7 n8 n9 = refl
no_last is.BraceRight n0 n1 n2 n3 n4 n5 n6 n7 n8 n9 = refl
no_last is.Less n0 n1 n2 n3 n4 n5 n6 n7 n8 n9 = absurd (n0 refl)
no_last is.Greater n0 n1 n2 n3 n4 n5 n6 n7 n8 n9 = absurd (n1 refl)
no_last is.At n0 n1 n2 n3 n4 n5 n6 n7 n8 n9 = refl
no_last is.Comma n0 n1 n2 n3 n4 n5 n6 n7 n8 n9 = refl
no_last is.Period n0 n1 n2 n3 n4 n5 n6 n7 n8 n9 = refl
no_last is.Semicolon n0 n1 n2 n3 n4 n5 n6 n7 n8 n9 = refl
no_last is.Colon n0 n1 n2 n3 n4 n5 n6 n7 n8 n9 = absurd (n2 refl)
no_last is.Equal n0 n1 n2 n3 n4 n5 n6 n7 n8 n9 = absurd (n3 refl)
no_last is.Plus n0 n1 n2 n3 n4 n5 n6 n7 n8 n9 = absurd (n4 refl)
no_last is.Minus n0 n1 n2 n3 n4 n5 n6 n7 n8 n9 = absurd (n5 refl)
no_last is.Star n0 n1 n2 n3 n4 n5 n6 n7 n8 n9 = refl
no_last is.Slash n0 n1 n2 n3 n4 n5 n6 n7 n8 n9 = refl
no_last is.Percent n0 n1 n2 n3 n4 n5 n6 n7 n8 n9 = refl
no_last is.And n0 n1 n2 n3 n4 n5 n6 n7 n8 n9 = absurd (n6 refl)
no_last is.Or n0 n1 n2 n3 n4 n5 n6 n7 n8 n9 = absurd (n7 refl)
no_last is.Xor n0 n1 n2 n3 n4 n5 n6 n7 n8 n9 = refl
no_last is.Bang n0 n1 n2 n3 n4 n5 n6 n7 n8 n9 = refl
no_last is.Tilde n0 n1 n2 n3 n4 n5 n6 n7 n8 n9 = refl
no_last is.ColonColon n0 n1 n2 n3 n4 n5 n6 n7 n8 n9 = refl
no_last is.Arrow n0 n1 n2 n3 n4 n5 n6 n7 n8 n9 = refl
no_last is.PlusPlus n0 n1 n2 n3 n4 n5 n6 n7 n8 n9 = refl
no_last is.MinusMinus n0 n1 n2 n3 n4 n5 n6 n7 n8 n9 = refl
no_last is.AndAnd n0 n1 n2 n3 n4 n5 n6 n7 n8 n9 = refl
no_last is.OrOr n0 n1 n2 n3 n4 n5 n6 n7 n8 n9 = refl
no_last is.EqualEqual n0 n1 n2 n3 n4 n5 n6 n7 n8 n9 = refl
no_last is.NotEqual n0 n1 n2 n3 n4 n5 n6 n7 n8 n9 = refl
no_last is.LessEqual n0 n1 n2 n3 n4 n5 n6 n7 n8 n9 = absurd (n8 refl)
no_last is.GreaterEqual n0 n1 n2 n3 n4 n5 n6 n7 n8 n9 = absurd (n9 refl)
no_last is.ShiftLeft n0 n1 n2 n3 n4 n5 n6 n7 n8 n9 = refl
no_last is.ShiftRight n0 n1 n2 n3 n4 n5 n6 n7 n8 n9 = refl
no_last is.PlusEqual n0 n1 n2 n3 n4 n5 n6 n7 n8 n9 = refl
no_last is.MinusEqual n0 n1 n2 n3 n4 n5 n6 n7 n8 n9 = refl
no_last is.StarEqual n0 n1 n2 n3 n4 n5 n6 n7 n8 n9 = refl
no_last is.SlashEqual n0 n1 n2 n3 n4 n5 n6 n7 n8 n9 = refl
no_last is.PercentEqual n0 n1 n2 n3 n4 n5 n6 n7 n8 n9 = refl
no_last is.AndEqual n0 n1 n2 n3 n4 n5 n6 n7 n8 n9 = refl
no_last is.OrEqual n0 n1 n2 n3 n4 n5 n6 n7 n8 n9 = refl
no_last is.XorEqual n0 n1 n2 n3 n4 n5 n6 n7 n8 n9 = refl
no_last is.ShiftLeftEqual n0 n1 n2 n3 n4 n5 n6 n7 n8 n9 = refl
no_last is.ShiftRightEqual n0 n1 n2 n3 n4 n5 n6 n7 n8 n9 = refl

none_there : (o : Option Symbol) → not (is_some o) ≡ true → None ≡ o
none_there None h = refl
none_there (Some s) h = absurd (cc h)

abbrev joins_nothing : Symbol → Symbol → Bool
joins_nothing a b = is_last b || not (is_some (symbol_of (symbol_text a ++ symbol_text b)))

no_joins : (a b : Symbol) → joins_nothing a b ≡ true
no_joins a b = each (λ y. joins_nothing a y) (each (λ x. list_all (λ y. joins_nothing x y) symbols) refl a) b

pub no_join : (a b : Symbol) → is_last b ≡ false → None ≡ symbol_of (symbol_text a ++ symbol_text b)
no_join a b e = none_there (symbol_of (symbol_text a ++ symbol_text b)) (sym (ap (λ (x : Bool). x || not (is_some (symbol_of (symbol_text a ++ symbol_text b)))) e) ∙ no_joins a b)

-- ---- the text of the symbol that a text is

abbrev AreTexts : List (Text × Symbol) → Type 0
AreTexts [] = Unit {0}
AreTexts (p ∷ ps) = (symbol_text p.1 ≡ p.0) × AreTexts ps

found_by : (t u : Text) (y s : Symbol) (rest : Option Symbol) (b : Bool) → bytes_eq t u ≡ b → symbol_text y ≡ u → (rest ≡ Some s → symbol_text s ≡ t) → (if b then Some y else rest) ≡ Some s → symbol_text s ≡ t
found_by t u y s rest true e h f g =
    let same : t ≡ u = (bytes_eq-Decides t u).0 e in
    let one : y ≡ s = cc g in
    ap symbol_text (sym one) ∙ h ∙ sym same
found_by t u y s rest false e h f g = f g

found_text : (t : Text) (ps : List (Text × Symbol)) (s : Symbol) → AreTexts ps → look_up t ps ≡ Some s → symbol_text s ≡ t
found_text t [] s a h = absurd (cc h)
found_text t (p ∷ ps) s a h = found_by t p.0 p.1 s (look_up t ps) (bytes_eq t p.0) refl a.0 (found_text t ps s a.1) h

pub text_of_symbol : (t : Text) (s : Symbol) → symbol_of t ≡ Some s → symbol_text s ≡ t
text_of_symbol t s h = found_text t symbol_words s (refl, (refl, (refl, (refl, (refl, (refl, (refl, (refl, (refl, (refl, (refl, (refl, (refl, (refl, (refl, (refl, (refl, (refl, (refl, (refl, (refl, (refl, (refl, (refl, (refl, (refl, (refl, (refl, (refl, (refl, (refl, (refl, (refl, (refl, (refl, (refl, (refl, (refl, (refl, (refl, (refl, (refl, (refl, (refl, (refl, (refl, tt)))))))))))))))))))))))))))))))))))))))))))))) h
