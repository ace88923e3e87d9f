use Rattle.std.proofs.Common.{◌∙◌, sym, ap, Some, map}
use Rattle.std.specs.Prelude.{string_bytes}
use Rattle.std.proofs.lemmas.Slice.Eq.{bytes_eq-Decides}
use Rattle.wesl_tree_interner.specs.Interned.{with_text}
use Rattle.wesl_tree_interner.proofs.Interning.{position_held, get_map, different_put, texts_known, texts_with}
use Rattle.wesl_tree_interner.proofs.interner.Interner.number.Goals as goal

pub returns-in-Some-clause-held : goal.returns-in-Some-clause-held
returns-in-Some-clause-held c =
    position_held string_bytes _ c.args.name.now (λ k e. sym ((bytes_eq-Decides c.args.name.now (string_bytes k)).0 e)) c.args.self.now.names.keys c.in-Some.index (sym c.in-Some.ensures.index)

pub returns-in-Some-clause-texts : goal.returns-in-Some-clause-texts
returns-in-Some-clause-texts c = texts_known c.args.self.now.names.keys c.args.name.now (sym c.in-Some.ensures.found)

pub invariant_of-self : goal.invariant_of-self
invariant_of-self c = record {
  different = different_put c.args.self.now.names.keys c.put.new.names.keys _ c.args.self.now.different c.put.ensures.puts;
}

pub returns-clause-held : goal.returns-clause-held
returns-clause-held c =
    let (k, at, e) = c.in_ok-put.ensures.stored in
    get_map string_bytes c.put.new.names.keys c.in_ok-put.field-0 k at ∙ ap Some (sym ((bytes_eq-Decides (string_bytes c.in_ok-name.name) (string_bytes k)).0 e) ∙ c.in_ok-name.ensures.ok)

pub returns-clause-texts : goal.returns-clause-texts
returns-clause-texts c =
    ap (map string_bytes) c.in_ok-put.ensures.keys ∙ (texts_with c.args.self.now.names.keys c.in_ok-name.name ∙ ap (with_text (map string_bytes c.args.self.now.names.keys)) c.in_ok-name.ensures.ok)
