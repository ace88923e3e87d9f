-- The reading of children without children: names, words, numbers and paths.
use Rattle.std.specs.Prelude.{ℕ, suc, Bool, true, false, not, ◌&&◌, if◌then◌else◌, List, [], ◌∷◌, ◌++◌, length, Option, Some, None, codes, bytes_eq}
use Rattle.wesl_tree_base.specs.Pieces.{slash}
use Rattle.wesl_tree_names.specs.Path.{Text, Path, Origin, absolute, relative, from_package}
use Rattle.wesl_tree_syntax.specs.Tree.{Role, binder, word, ident, text, texts, truth, path}
use Rattle.wesl_text_tokens.specs.declared.symbol.Symbol.TheVariants as is
use Rattle.wesl_text_tokens.specs.Tokens.{Token, name, number, symbol}
use Rattle.wesl_text_form.specs.Slots.{comes_first}
use Rattle.wesl_text_form.specs.Names.{is_among, is_free, known_attributes}
use Rattle.wesl_text_form.specs.Productions.{Leaf, an_ident, an_item, a_name, a_word, a_custom, a_literal, a_rule, some_words, one_or_two, steps, a_path}
use Rattle.wesl_text_form.specs.Spelling.{Label, dot, is_one_or_two, package_words}

-- what was read, and what is left
abbrev pub Read : Type 0 → Type 0
Read A = Option (A × List Token)

-- reading goes on with what was read, and with what is left
abbrev pub after : {A B : Type 0} → Read A → (A → List Token → Read B) → Read B
after None f = None
after (Some x) f = f x.0 x.1

-- what was read, where a test holds
abbrev pub where_so : {A : Type 0} → Bool → A → List Token → Read A
where_so b x ts = if b then Some (x, ts) else None

-- whether all of them may be declared and used as names
abbrev pub are_free : List Text → Bool
are_free [] = true
are_free (t ∷ ts) = is_free t && are_free ts

-- words with commas between, and perhaps one behind; and what is left
abbrev pub words : List Token → List Text × List Token
words (name t ∷ symbol is.Comma ∷ ts) = let x : List Text × List Token = words ts in (t ∷ x.0, x.1)
words (name t ∷ ts) = (t ∷ [], ts)
words ts = ([], ts)

-- words, each with `::` behind it; and what is left
abbrev pub step_words : List Token → List Text × List Token
step_words (name t ∷ symbol is.ColonColon ∷ ts) = let x : List Text × List Token = step_words ts in (t ∷ x.0, x.1)
step_words ts = ([], ts)

-- a word and those behind it, each with `/` before it, as one text; and what is left
abbrev pub slashed_behind : Text → List Token → Text × List Token
slashed_behind t (symbol is.Slash ∷ name u ∷ ts) = let x : Text × List Token = slashed_behind u ts in (t ++ slash ∷ x.0, x.1)
slashed_behind t ts = (t, ts)

-- words with `/` between, as one text; and what is left
abbrev pub slashed : List Token → Text × List Token
slashed (name t ∷ ts) = slashed_behind t ts
slashed ts = ([], ts)

-- the text that a path begins with: where slashes may stand in it, words with `/` between
abbrev pub first_text : Bool → List Token → Text × List Token
first_text true ts = slashed ts
first_text false (name t ∷ ts) = (t, ts)
first_text false ts = ([], ts)

-- a path of words where all may be names
abbrev pub free_path : Origin → List Text → Option Path
free_path o ts = if are_free ts then Some (record { origin = o; components = ts }) else None

-- a path that begins with `super`, so many times and once more for each that comes
abbrev pub super_path : ℕ → List Text → Option Path
super_path n [] = free_path (relative n) []
super_path n (t ∷ ts) = elim (bytes_eq t (codes "super")) as (λ _. Option Path) [ true ↦ super_path (suc n) ts | false ↦ free_path (relative n) (t ∷ ts) ]

-- the path of a first text, in which slashes may stand or not, and the words behind it
abbrev pub path_of : Bool → Text → List Text → Option Path
path_of slashes t ts =
    if bytes_eq t (codes "package") then free_path absolute ts
    else if bytes_eq t (codes "self") then free_path (relative 0) ts
    else if bytes_eq t (codes "super") then super_path 1 ts
    else if are_free (package_words slashes t) then free_path (from_package t) ts
    else None

-- a path and the tokens behind it, where there is one
abbrev pub where_path : Option Path → List Token → Read Label
where_path None ts = None
where_path (Some p) ts = Some (path p, ts)

-- a path of a first text, where `::` comes next
abbrev pub path_behind : Bool → Text → List Token → Read Label
path_behind slashes t (symbol is.ColonColon ∷ ts) = let x : List Text × List Token = step_words ts in where_path (path_of slashes t x.0) x.1
path_behind slashes t ts = None

-- the role of what an import brings in: a word where it gets a new name, which comes next
abbrev pub item_role_by : List Token → Role
item_role_by ts = if comes_first (name (codes "as")) ts then word else binder

-- the label of a leaf
abbrev pub read_leaf : Leaf → List Token → Read Label
read_leaf (an_ident r) (name t ∷ ts) = where_so (is_free t) (ident r t) ts
read_leaf an_item (name t ∷ ts) = where_so (is_free t) (ident (item_role_by ts) t) ts
read_leaf a_name (name t ∷ ts) = where_so (is_free t) (text t) ts
read_leaf a_word (name t ∷ ts) = Some (text t, ts)
read_leaf a_custom (name t ∷ ts) = where_so (not (is_among known_attributes t)) (text t) ts
read_leaf a_literal (number t ∷ ts) = Some (text t, ts)
read_leaf a_literal (name t ∷ ts) =
    if bytes_eq t (codes "true") then Some (truth true, ts)
    else if bytes_eq t (codes "false") then Some (truth false, ts)
    else None
read_leaf a_rule (name t ∷ symbol is.Period ∷ name u ∷ ts) = Some (text (t ++ dot ∷ u), ts)
read_leaf a_rule (name t ∷ ts) = Some (text t, ts)
read_leaf some_words (name t ∷ ts) = let x : List Text × List Token = words (name t ∷ ts) in Some (texts x.0, x.1)
read_leaf one_or_two ts = let x : List Text × List Token = words ts in where_so (is_one_or_two (length x.0)) (texts x.0) x.1
read_leaf steps ts = let x : List Text × List Token = step_words ts in where_so (are_free x.0) (texts x.0) x.1
read_leaf (a_path slashes) ts = let x : Text × List Token = first_text slashes ts in path_behind slashes x.0 x.1
read_leaf _ ts = None
