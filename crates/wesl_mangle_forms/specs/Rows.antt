-- Worked examples of the two forms.
use Rattle.std.specs.Prelude.{◌≡◌, true, false, List, [], ◌∷◌, Option, Some, None}
use Prim.Native.String.{String}
use lib.Chars.{codes}
use lib.Utf8.{encodes}
use Rattle.wesl_tree_names.specs.Path.{Text, Origin, absolute, relative, from_package, Path}
use Rattle.wesl_mangle_forms.specs.Escape.{escape, unescape, is_reversible}
use Rattle.wesl_mangle_forms.specs.Unicode.{unicode, from_unicode}
use Rattle.wesl_mangle_forms.specs.TypeText.{unicode_variant}
use Rattle.wesl_tree_syntax.specs.Tree.{Tree, forest_of, leaf, branch, kind, at, ident, text, binary, reference, expression_node, template_argument, type_expression, type_or_identifier, literal, absent, present, list}
use Rattle.wesl_tree_syntax.specs.declared.expression.BinaryOperator.TheVariants.{Addition}

-- what the rows are made of: a path, and the item `item`
abbrev pub path : Origin → List Text → Path
path o ns = record { origin = o; components = ns }

abbrev pub item : Text
item = codes "item"

-- the item is written so, and what is written is read back
abbrev pub WrittenAs : Path → Text → Text → Type 0
WrittenAs p i t = (escape p i ≡ t) × (unescape t ≡ Some (p, i))

-- items written in the escape form and read back, texts that are read alone, and whether names are plain
pub record EscapeRows : Type 0 where
  pub digits_in_name : WrittenAs (path absolute []) (codes "textures_3d") (codes "package__1textures_3d")
  pub outer_underscores : WrittenAs (path absolute (codes "_a_b__c___" ∷ [])) item (codes "package__7_a_b__c____item")
  pub package_with_underscore : WrittenAs (path (from_package (codes "a_b")) (codes "c_d" ∷ codes "e" ∷ [])) item (codes "_1a_b__1c_d_e_item")
  pub root_with_two : WrittenAs (path absolute (codes "bevy_pbr" ∷ codes "lighting" ∷ [])) item (codes "package__1bevy_pbr_lighting_item")
  pub package_with_one : WrittenAs (path (from_package (codes "bevy_pbr")) (codes "lighting" ∷ [])) item (codes "_1bevy_pbr_lighting_item")
  pub own_module : WrittenAs (path (relative 0) (codes "a" ∷ [])) item (codes "self_a_item")
  pub two_up : WrittenAs (path (relative 2) []) item (codes "super_super_item")
  pub dependency : WrittenAs (path (from_package (codes "bevy/pbr")) []) item (codes "import_2_bevy_pbr_item")
  pub dependency_with_one : WrittenAs (path (from_package (codes "bevy/pbr")) (codes "lighting" ∷ [])) item (codes "import_2_bevy_pbr_lighting_item")
  pub dependency_with_underscores : WrittenAs (path (from_package (codes "a_b/c")) []) (codes "x_y") (codes "import_2__1a_b_c__1x_y")
  pub one_piece : unescape (codes "item") ≡ None
  pub no_piece : unescape (codes "") ≡ None
  pub leading_zero : unescape (codes "package__01a_b") ≡ Some (path absolute [], codes "a_b")
  pub count_too_high : unescape (codes "package__3a_b") ≡ None
  pub origin_alone : unescape (codes "package") ≡ None
  pub package_alone : unescape (codes "_1a_b") ≡ None
  pub word_as_item : is_reversible (path absolute []) (codes "import") ≡ false
  -- further cases
  pub no_count : unescape (codes "import_x_a_b") ≡ None
  pub plus_count : unescape (codes "import_+1_a_b") ≡ None
  pub empty_package : unescape (codes "import_0_a") ≡ Some (path (from_package []) [], codes "a")
  pub empty_last : unescape (codes "package_a_") ≡ None
  pub count_past_words : unescape (codes "package__99999999999999999999999999a_b") ≡ None
  pub underscore_first : is_reversible (path absolute []) (codes "_a") ≡ true
  pub digit_first : is_reversible (path absolute []) (codes "3a") ≡ false
  pub slash_in_package : is_reversible (path (from_package (codes "a/b")) []) (codes "x") ≡ true

-- a text as its bytes in UTF-8
abbrev pub utf8 : String → Text
utf8 t = encodes (codes t)

-- types for the rows: an expression as a template argument, the type numbered 0, an array of it with this size, where
-- `array` is the number 1, a literal of this text, a sum, and what `f` with such an array of `f32` is written as
abbrev pub argument : Tree → Tree
argument e = branch template_argument (record { label = at expression_node 0 0; children = forest_of (e ∷ []) } ∷ [])

abbrev pub element : Tree
element = branch type_expression (leaf (kind absent) ∷ leaf (ident reference 0) ∷ leaf (kind absent) ∷ [])

abbrev pub array_of : Tree → Tree
array_of size =
    branch type_expression (leaf (kind absent) ∷ leaf (ident reference 1) ∷ branch present (branch list (argument (branch type_or_identifier (element ∷ [])) ∷ argument size ∷ []) ∷ []) ∷ [])

abbrev pub number : Text → Tree
number t = branch literal (leaf (text t) ∷ [])

abbrev pub sum : Tree → Tree → Tree
sum a b = record {
  label = binary Addition;
  children = forest_of (record { label = at expression_node 0 0; children = forest_of (a ∷ []) } ∷ record { label = at expression_node 0 0; children = forest_of (b ∷ []) } ∷ []);
}

abbrev pub variant : Tree → Option Text
variant size = unicode_variant (codes "f32" ∷ codes "array" ∷ []) (codes "f") (array_of size ∷ [])

-- the same of the Unicode form, and what items with types are written as
pub record UnicodeRows : Type 0 where
  pub two_up : (unicode (path (relative 2) []) item ≡ utf8 "superːːsuperːːitem") × (from_unicode (utf8 "superːːsuperːːitem") ≡ Some (path (relative 2) [], item))
  pub root : (unicode (path absolute []) item ≡ utf8 "packageːːitem") × (from_unicode (utf8 "packageːːitem") ≡ Some (path absolute [], item))
  pub module_item : (unicode (path absolute (codes "util" ∷ [])) (codes "two") ≡ utf8 "packageːːutilːːtwo")
      × (from_unicode (utf8 "packageːːutilːːtwo") ≡ Some (path absolute (codes "util" ∷ []), codes "two"))
  pub dependency : from_unicode (unicode (path (from_package (codes "a/b")) (codes "c" ∷ [])) item) ≡ Some (path (from_package (codes "a/b")) (codes "c" ∷ []), item)
  pub own_module : from_unicode (unicode (path (relative 0) (codes "a" ∷ [])) item) ≡ Some (path (relative 0) (codes "a" ∷ []), item)
  pub no_item : from_unicode (codes "package") ≡ None
  pub empty : from_unicode [] ≡ None
  pub array_of_two : variant (number (codes "2")) ≡ Some (utf8 "fᐸarrayᐸf32ˏ2ᐳᐳ")
  pub array_of_sum : variant (sum (number (codes "1")) (number (codes "1"))) ≡ None
