use Rattle.std.proofs.Common.{◌≡◌, length, true, false, sym, subst, rules, arith}
use Rattle.std.proofs.lemmas.List.{length-map}
use Rattle.wesl_tree_syntax.specs.Tree.{attribute_node, attributes}
use Rattle.wesl_tree_syntax.specs.View.{attribute_view, placed}
use Rattle.wesl_text_tokens.specs.Views.{token_of}
use Rattle.wesl_text_tokens.specs.declared.symbol.Symbol.TheVariants as is
use Rattle.wesl_text_form.specs.Productions.{an_attribute}
use Rattle.wesl_text_reading.specs.FirstTokens.{begins_sign}
use Rattle.wesl_text_read.specs.Leads.{ahead}
use Rattle.wesl_text_read.proofs.Attributes.{Runs, run_begins, run_breaks, run_ends, run_more}
use Rattle.wesl_text_read.proofs.reader.Reader.attributes.Goals as goal

pub attributes-init : goal.attributes-init
attributes-init c =
    subst (λ z. Runs (placed attribute_view attribute_node) an_attribute (begins_sign is.At) (length c.args.self.now.rest.now) z c.args.self.now c.args.self.now) (sym c.new-attributes.ensures.items)
    (run_begins (placed attribute_view attribute_node) an_attribute (begins_sign is.At) _ (sym (length-map c.args.self.now.rest.now (λ p. token_of p.token))))

pub attributes-preserved : goal.attributes-preserved
attributes-preserved c =
    let first : begins_sign is.At (ahead c.attributes.self) ≡ true = search rules in
    run_more (placed attribute_view attribute_node) an_attribute (begins_sign is.At) c.attributes.room _ c.attributes.attributes.items _ c.attribute-attribute.result (omega arith) first c.attributes.invariant c.attribute-attribute.ensures c.put.ensures.put c.put.ensures.keeps

pub returns-then-room-eq0 : goal.returns-then-room-eq0
returns-then-room-eq0 c =
    let first : begins_sign is.At (ahead c.attributes.self) ≡ true = search rules in
    run_breaks (placed attribute_view attribute_node) an_attribute (begins_sign is.At) attributes c.attributes.room c.attributes.attributes.items (omega arith) first c.attributes.invariant c.wrong.ensures

pub returns : goal.returns
returns c =
    let first : begins_sign is.At (ahead c.attributes.self) ≡ false = search rules in
    run_ends (placed attribute_view attribute_node) an_attribute (begins_sign is.At) attributes c.attributes.room c.attributes.attributes.items first c.attributes.invariant
