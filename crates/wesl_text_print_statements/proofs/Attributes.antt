-- The slots of each attribute, in the order in which they are printed.
use Rattle.std.proofs.Common.{◌≡◌, List, [], ◌∷◌, Bool, true, false, ◌&&◌, Option, Some, None, option_map, is_none, is_some, String, Vec, Global, string_bytes, codes, map, true≢false, refl, sym, ap, ◌∙◌}
use Rattle.wesl_tree_names.specs.Path.{Text}
use Rattle.wesl_tree_syntax.specs.Tree.{end, list, text}
use Rattle.wesl_tree_syntax.specs.View.{attribute_view, expression_tree, listed, optional as optional_tree, texts_of}
use Rattle.wesl_tree_syntax.specs.declared.span.Spanned.{Spanned}
use Rattle.wesl_tree_syntax.specs.declared.attribute.Attribute.{Attribute}
use Rattle.wesl_tree_syntax.specs.declared.attribute.Attribute.TheVariants as attr
use Rattle.wesl_tree_syntax.specs.declared.expression.Expression.{Expression}
use Rattle.wesl_text_tokens.specs.declared.symbol.Symbol.TheVariants as is
use Rattle.wesl_text_tokens.specs.Tokens.{symbol}
use Rattle.wesl_text_form.specs.Names.{are_words, is_word}
use Rattle.wesl_text_form.specs.Productions.{a_bare_attribute, a_custom, an_expression, may_sym, nothing, optional, sym as sign}
use Rattle.wesl_text_form.specs.Slots.{Slot, may}
use Rattle.wesl_text_form.specs.Spelling.{Slots, followed, leaf_slots, named, parted, provided, signed, trailing}
use Rattle.wesl_text_print.specs.Printing.{slots_in}
use Rattle.wesl_text_print.proofs.Adding.{followed_twice, nothing_before, nothing_behind, provided_shows, shows}
use Rattle.wesl_text_print.proofs.Lists.{commas_before}
use Rattle.wesl_text_print_statements.specs.Parts.{arguments_row, custom_tree, option_in, plain_slots, row_in, size_row, words_slots}
use Rattle.wesl_text_print_statements.proofs.Rows.{option_then}

-- ---- words with commas between

abbrev pub word_slots : String Global → Slots
word_slots s = provided (is_word (string_bytes s)) (named (string_bytes s) ∷ [])

pub word_shows : (s : String Global) → shows (word_slots s) ≡ true
word_shows s = provided_shows (is_word (string_bytes s)) (named (string_bytes s)) []

one_word : (b : Bool) (ss : List Slot) → provided b ss ≡ provided (b && true) ss
one_word true ss = refl
one_word false ss = refl

word_more : (a b : Bool) (s t : Slot) (ss : List Slot) → followed (provided a (s ∷ [])) (followed (Some (t ∷ [])) (provided b ss)) ≡ provided (a && b) (s ∷ t ∷ ss)
word_more true true s t ss = refl
word_more true false s t ss = refl
word_more false b s t ss = refl

words_apart : (xs : List (String Global)) → commas_before word_slots true xs ≡ provided (are_words (map string_bytes xs)) (parted is.Comma (map string_bytes xs))
words_apart [] = refl
words_apart (x ∷ []) = nothing_before (followed (word_slots x) (Some [])) ∙ nothing_behind (word_slots x) ∙ one_word (is_word (string_bytes x)) (named (string_bytes x) ∷ [])
words_apart (x ∷ y ∷ ys) =
    nothing_before (followed (word_slots x) (commas_before word_slots false (y ∷ ys)))
    ∙ ap (λ r. followed (word_slots x) (followed (Some (signed is.Comma ∷ [])) r)) (sym (nothing_before (followed (word_slots y) (commas_before word_slots false ys))) ∙ words_apart (y ∷ ys))
    ∙ word_more (is_word (string_bytes x)) (are_words (map string_bytes (y ∷ ys))) (named (string_bytes x)) (signed is.Comma) (parted is.Comma (map string_bytes (y ∷ ys)))

trailing_provided : (b : Bool) (ss : List Slot) → option_map trailing (provided b ss) ≡ provided b (trailing ss)
trailing_provided true ss = refl
trailing_provided false ss = refl

pub words_printed : (ws : Vec (String Global) Global) → option_map trailing (commas_before word_slots true ws.items) ≡ words_slots ws
words_printed ws = ap (option_map trailing) (words_apart ws.items) ∙ trailing_provided (are_words (texts_of ws)) (parted is.Comma (texts_of ws))

module _ (names : List Text) where
  abbrev pub bare : Attribute → Slots
  bare a = slots_in names a_bare_attribute (attribute_view a)

  -- ---- attributes of another name

  pub custom_printed : (t : Text) (o : Option (Vec (Spanned Expression) Global))
      → followed (Some (signed is.At ∷ [])) (followed (leaf_slots a_custom (text t) end) (followed (option_in names arguments_row (listed expression_tree list) o) (Some []))) ≡ slots_in names a_bare_attribute (custom_tree t o)
  custom_printed t o = ap (λ r. followed (Some (signed is.At ∷ [])) (followed (leaf_slots a_custom (text t) end) r)) (option_then names (listed expression_tree list) arguments_row nothing o [])

  -- ---- sizes

  abbrev node : Spanned Expression → Slots
  node e = slots_in names an_expression (expression_tree e)

  abbrev sizes_end : Slots
  sizes_end = followed (Some (may (symbol is.Comma) ∷ [])) (followed (Some (signed is.ParenRight ∷ [])) (Some []))

  abbrev pub sizes_slots : Spanned Expression → Option (Spanned Expression) → Option (Spanned Expression) → Slots
  sizes_slots x y z = followed (plain_slots (codes "workgroup_size")) (followed (Some (signed is.ParenLeft ∷ [])) (followed (node x) (followed (option_in names size_row expression_tree y) (followed (option_in names size_row expression_tree z) sizes_end))))

  abbrev sizes_row_slots : Spanned Expression → Option (Spanned Expression) → Option (Spanned Expression) → Slots
  sizes_row_slots x y z = followed (Some (signed is.At ∷ [])) (followed (Some (named (codes "workgroup_size") ∷ [])) (followed (Some (signed is.ParenLeft ∷ [])) (followed (node x) (row_in names (optional size_row (optional size_row (may_sym is.Comma (sign is.ParenRight nothing)))) (optional_tree expression_tree y ∷ optional_tree expression_tree z ∷ [])))))

  sizes_by_row : (x : Spanned Expression) (y z : Option (Spanned Expression)) → sizes_slots x y z ≡ sizes_row_slots x y z
  sizes_by_row x y z =
      ap (λ r. followed (plain_slots (codes "workgroup_size")) (followed (Some (signed is.ParenLeft ∷ [])) (followed (node x) r)))
      (ap (followed (option_in names size_row expression_tree y)) (option_then names expression_tree size_row (may_sym is.Comma (sign is.ParenRight nothing)) z [])
      ∙ option_then names expression_tree size_row (optional size_row (may_sym is.Comma (sign is.ParenRight nothing))) y (optional_tree expression_tree z ∷ []))
      ∙ followed_twice (Some (signed is.At ∷ [])) (Some (named (codes "workgroup_size") ∷ [])) _

  pub sizes_printed : (x : Spanned Expression) (y z : Option (Spanned Expression)) → (is_none y && is_some z) ≡ false → sizes_slots x y z ≡ bare (attr.WorkgroupSize x y z)
  sizes_printed x None None h = sizes_by_row x None None
  sizes_printed x None (Some z) h = absurd (true≢false h)
  sizes_printed x (Some y) z h = sizes_by_row x (Some y) z
