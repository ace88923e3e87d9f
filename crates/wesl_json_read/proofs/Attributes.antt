-- What is read of each attribute.
use Rattle.std.proofs.Common.{◌≡◌, [], ◌∷◌, Bool, Option, Some, None, option_map, option_and_then, codes, sym, ap, ◌∙◌, subst}
use Rattle.serde_json.specs.Data.{Data, Members}
use Rattle.serde_json.specs.Find.{get, as_object, as_str}
use Rattle.wesl_tree_names.specs.declared.errors.Error as error
use Rattle.wesl_tree_syntax.specs.Tree.{at, attribute_node}
use Rattle.wesl_json_form.specs.Schema.{look, labelled, leaf_of, node, an_attribute, Node}
use Rattle.wesl_json_form.specs.Words.{attribute_words}
use Rattle.wesl_json_form.specs.Nodes.{whole_form, nodes_of, shorts_of, all_attribute_words}
use Rattle.wesl_json_form.specs.Place.{IsWrongNode, IsWrongValue}
use Rattle.wesl_json_read.specs.Faults.{IsAtRoot, Locates}
use Rattle.wesl_json_read.proofs.Places.{root-value}

module _ (spans : Bool) where
  -- a word that names no attribute
  pub no-attribute : (d v : Data) → get (codes "k") d ≡ Some v → option_and_then (look (all_attribute_words spans)) (as_str v) ≡ None → nodes_of spans an_attribute d ≡ None
  no-attribute d v found none = ap (λ o. elim o as (λ _. Option Node) [ None ↦ None | Some w ↦ option_and_then (look (all_attribute_words spans)) (as_str w) ]) found ∙ none

  unmarked : (d : Data) → get (codes "k") d ≡ None → nodes_of spans an_attribute d ≡ None
  unmarked d none = ap (λ o. elim o as (λ _. Option Node) [ None ↦ None | Some w ↦ option_and_then (look (all_attribute_words spans)) (as_str w) ]) none

  wrong-case : (d : Data) (o : Option Members) → get (codes "k") d ≡ None → shorts_of an_attribute d ≡ None → IsWrongValue (whole_form spans) an_attribute d o
  wrong-case d None none short = short
  wrong-case d (Some ms) none short = subst (λ n. IsWrongNode (whole_form spans) n d) (sym (unmarked d none)) none

no-short : (d : Data) → as_str d ≡ None → shorts_of an_attribute d ≡ None
no-short d no_text = ap (λ o. option_map (λ l. labelled (at attribute_node 0 0) (leaf_of l ∷ [])) (option_and_then (look attribute_words) o)) no_text

module _ (spans : Bool) where
  -- no text, and no word at `k`
  pub no-word : (d : Data) (e : error.Error) → as_str d ≡ None → get (codes "k") d ≡ None → IsAtRoot e → Locates spans (node an_attribute) d e
  no-word d e no_text none is = root-value spans an_attribute d e (wrong-case spans d (as_object d) none (no-short d no_text)) is
