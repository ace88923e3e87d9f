-- Members of imports and of directives, as they are written.
use Rattle.std.specs.Prelude.{Bool, List, None, Option, Some, String, Vec, codes}
use Rattle.std.specs.declared.alloc.Global.{Global}
use Rattle.serde_json.specs.Data.{Data, Members, no_members, member, string}
use Rattle.wesl_tree_names.specs.Path.{Text}
use Rattle.wesl_tree_names.specs.declared.names.Ident.{Ident}
use Rattle.wesl_tree_syntax.specs.Unit.{name_in}
use Rattle.wesl_tree_syntax.specs.View.{texts_of}
use Rattle.wesl_tree_syntax.specs.declared.attribute.Attribute.{Attribute}
use Rattle.wesl_tree_syntax.specs.declared.span.Spanned.{Spanned}
use Rattle.wesl_json_form.specs.Writing.{texts_value}
use Rattle.wesl_json_words.specs.Values.{with_attributes, with_list, with_member, worded}

-- the name that an item gets here, where that is another
abbrev pub rename_member : List Text → Option Ident → Members
rename_member names None = no_members
rename_member names (Some r) = member (codes "as") (string (name_in names r.0)) no_members

-- the severity and the rule of a diagnostic
abbrev pub rule_members : Text → Text → Members
rule_members severity rule = with_member (codes "severity") (string severity) (with_member (codes "rule") (string rule) no_members)

-- names, where there are any
abbrev pub names_members : Vec (String Global) Global → Members
names_members ns = with_list (codes "names") (texts_value (texts_of ns)) no_members

-- an object with a word and attributes
abbrev pub attributed : Bool → List Text → Text → Vec (Spanned Attribute) Global → Members → Data
attributed spans names word attributes ms = worded word (with_attributes spans names attributes ms)
