use Rattle.std.proofs.Common.{◌≡◌, Bool, List, None, Some, false, map, refl, subst, sym as turned, true}
use Rattle.wesl_tree.specs.Translation.{unit_view}
use Rattle.wesl_tree_syntax.specs.Unit.{spelled}
use Rattle.wesl_text_reading.specs.Reading.{reading_of_unit}
use Rattle.wesl_text_tokens.specs.Tokens.{tokens}
use Rattle.wesl_text_tokens.specs.Views.{token_of}
use Rattle.wesl_text_tokens.specs.declared.token.PlacedToken.{PlacedToken}
use Rattle.wesl_text_read.specs.Leads.{is_memory}
use Rattle.wesl_text.specs.Said.{IsFaultOf, SaysNone}
use Rattle.wesl_text.proofs.Faults.{of_grammar}
use Rattle.wesl_text_sink.proofs.Spelled.{tokens_read}
use Rattle.wesl_text.proofs.reading.read_unit.Goals as goal

pub returns-in-Ok-read_unit-clause-said : goal.returns-in-Ok-read_unit-clause-said
returns-in-Ok-read_unit-clause-said c =
    let read : tokens c.args.text.now ≡ Some (map (λ p. token_of p.token) c.in-Ok.tokens.items) = tokens_read c.args.text.now c.in-Ok.tokens.items c.in-Ok.ensures.tokens in
    c.law_of_soundness.ensures.texts_are_said 127 c.args.text.now (map (λ p. token_of p.token) c.in-Ok.tokens.items) (spelled (unit_view c.in-Ok-read_unit.unit)) c.utf8.text read
    (subst (λ (ts : List PlacedToken). reading_of_unit 127 (map (λ p. token_of p.token) ts) ≡ Some (spelled (unit_view c.in-Ok-read_unit.unit))) c.as_slice.ensures.value c.in-Ok-read_unit.ensures.unit)

pub returns-clause-fault : goal.returns-clause-fault
returns-clause-fault c = by (is_memory c.in-Err-read_unit.fault) refl where
  says_none : is_memory c.in-Err-read_unit.fault ≡ false → SaysNone 127 c.args.text.now
  says_none clear u says =
      let read : tokens c.args.text.now ≡ Some (map (λ p. token_of p.token) c.in-Ok.tokens.items) = tokens_read c.args.text.now c.in-Ok.tokens.items c.in-Ok.ensures.tokens in
      c.law_of_texts.ensures.unread_texts_say_more 127 c.args.text.now (map (λ p. token_of p.token) c.in-Ok.tokens.items) u read
      (subst (λ (ts : List PlacedToken). reading_of_unit 127 (map (λ p. token_of p.token) ts) ≡ None) c.as_slice.ensures.value (c.in-Err-read_unit.ensures.none clear)) says

  by : (b : Bool) → is_memory c.in-Err-read_unit.fault ≡ b → IsFaultOf c.args.text.now c.text_fault.result
  by true e = subst (IsFaultOf c.args.text.now) (turned (c.text_fault.ensures.memory e)) tt
  by false e = of_grammar c.args.text.now c.text_fault.result (c.text_fault.ensures.unexpected e) (says_none e)
