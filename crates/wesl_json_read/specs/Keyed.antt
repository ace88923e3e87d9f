-- Which keys an object has.
use Rattle.std.specs.Prelude.{◌≡◌, List, Bool, true, codes}
use Rattle.serde_json.specs.Data.{Data}
use Rattle.wesl_tree_names.specs.Path.{Text}
use Rattle.wesl_json_form.specs.Keys.{has_only, keys_beside}

-- the value is an object that has no key but these, and `span` where it takes one
abbrev pub HasKeys : Bool → List Text → Data → Type 0
HasKeys takes_span ks d = has_only (keys_beside takes_span (codes "span") ks) d ≡ true
