-- What the functions of the code find, in terms of what is looked up.
use Rattle.std.specs.Prelude.{◌≡◌, ℕ, ◌<◌, Bool, ◌&&◌, ◌==◌, bytes_eq, nat_le, Option, Some, None, List, [], ◌∷◌, ◌++◌, length, map, get_or, Vec, if◌then◌else◌}
use Rattle.std.specs.List.{filter_map, find, flat_map, list_any, zip}
use Rattle.std.specs.Option.{option_map, option_or}
use Rattle.std.specs.declared.alloc.Global.{Global}
use Rattle.wesl_tree_names.specs.Path.{Text}
use Rattle.wesl_tree_syntax.specs.Unit.{name_in}
use Rattle.wesl_scope_occurrences.specs.Occurrences as spec
use Rattle.wesl_scope_occurrences.specs.Occurrences.{Block, is_binder}
use Rattle.wesl_scope_occurrences.specs.Views.{occurrence_view, standing_view}
use Rattle.wesl_scope_occurrences.specs.Ways.{way, told as told_by}
use Rattle.wesl_scope_occurrences.specs.declared.occurrence.Occurrence.{Occurrence}
use Rattle.wesl_scope_open.specs.Scopes.{is_visible}
use Rattle.wesl_scope_words.specs.Said.{Memory, memory_words, every_word}
use Rattle.wesl_scope_words.specs.Captured.{WordClashOf, binder_at, clash_view}
use Rattle.wesl_scope_words.specs.declared.clash.Binder.{Binder}
use Rattle.wesl_scope_words.specs.declared.clash.WordClash.{WordClash}
use Rattle.wesl_scope_words.specs.declared.rivals.Rival.{Rival}
use Rattle.wesl_scope_words.specs.declared.rivals.Rivals.{Rivals}

-- ---- identifiers
-- an identifier of the code, where its block is told by its way
abbrev pub seen : List ℕ → Occurrence → spec.Occurrence ℕ
seen outer o = told_by (way outer) (occurrence_view o)

-- it has a name in the table, and a block
abbrev pub IsKnown : List Text → List ℕ → Occurrence → Type 0
IsKnown names outer o = (o.ident.0 < length names) × (o.block < length outer)

-- whether it declares a name
abbrev pub declares : Occurrence → Bool
declares o = is_binder (standing_view o.standing)

-- whether it declares a name that is spelled as one of all words
abbrev pub is_rival : List Text → Occurrence → Bool
is_rival names o = declares o && list_any (bytes_eq (name_in names o.ident.0)) every_word

-- ---- declared names that are spelled as words
-- whether the word w may be read as it at place p
abbrev pub is_read : Text → ℕ → Rival → Bool
is_read w p r = nat_le r.from p && bytes_eq r.word.now w

-- the first of these
abbrev pub first_of : Text → ℕ → List Rival → Option Binder
first_of w p rs = option_map (λ r. r.binder) (find (is_read w p) rs)

-- two lists have the same first one, whatever is asked
abbrev pub FindAlike : List Rival → List Rival → Type 0
FindAlike rs ss = (w : Text) (p : ℕ) → first_of w p rs ≡ first_of w p ss

-- of the block of a number, what a word is read as at a place
abbrev pub Look : Type 0
Look = ℕ → Text → ℕ → Option Binder

-- such names, by their blocks
abbrev pub groups_view : List (Vec Rival Global) → List (List Rival)
groups_view = map (λ v. v.items)

-- what is found among them, and by the table of the code:
abbrev pub first_in : List (List Rival) → Look
first_in g b w p = first_of w p (get_or g b [])

abbrev pub look : Rivals → Look
look r = first_in (groups_view r.of.items)

-- two looks find the same
abbrev pub FindsAs : Look → Look → Type 0
FindsAs f g = (b : ℕ) (w : Text) (p : ℕ) → f b w p ≡ g b w p

-- the first of these, or else of those
abbrev pub or_else_found : Look → Look → Look
or_else_found f g b w p = option_or (f b w p) (g b w p)

-- one name of block n
abbrev pub of_rival : ℕ → Rival → Look
of_rival n r b w p = if n == b && is_read w p r then Some r.binder else None

-- one identifier, where it is such a name
abbrev pub of_name : List Text → Occurrence → Look
of_name names o b w p =
    if is_rival names o && (o.block == b && (is_visible p (standing_view o.standing) && bytes_eq (name_in names o.ident.0) w)) then Some (binder_at o.ident.0 o.place) else None

-- the first of these identifiers that is
abbrev pub of_names : List Text → List Occurrence → Look
of_names names [] b w p = None
of_names names (o ∷ os) b w p = option_or (of_name names o b w p) (of_names names os b w p)

-- what a word is read as at a place of this block, or else of those round it
abbrev pub read_outwards : Look → Text → ℕ → Block → Option Binder
read_outwards f w p [] = f 0 w p
read_outwards f w p (k ∷ outer) = option_or (f k w p) (read_outwards f w p outer)

-- ---- what is told
module _ (names : List Text) (f : Look) where
  -- where v says w, which is read as b
  abbrev pub told : spec.Occurrence ℕ → Text → Binder → WordClashOf
  told v w b = record { word = w; binder = b; name = name_in names v.name; variable = binder_at v.name v.place }

  -- what is told of one word
  abbrev pub word_told : spec.Occurrence ℕ → Text → Option WordClashOf
  word_told v w = option_map (told v w) (read_outwards f w v.place v.block)

  -- of the words that are said of a name
  abbrev pub words_told : List Text × spec.Occurrence ℕ → List WordClashOf
  words_told s = filter_map (word_told s.1) s.0

  -- and of all
  abbrev pub all_told : List ℕ → List Memory → List Occurrence → List WordClashOf
  all_told outer ms vs = flat_map words_told (zip (map memory_words ms) (map (seen outer) vs))

-- these were told, and more after them
abbrev pub Tells : List WordClash → List WordClashOf → List WordClash → Type 0
Tells old more new = map clash_view new ≡ map clash_view old ++ more
