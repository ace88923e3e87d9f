use Rattle.std.proofs.Common.{true≢false, sym, ◌∙◌}
use Rattle.wesl_link_reach.specs.Loading.{world_of}
use Rattle.wesl_link_reach.proofs.Growth.{at_more}
use Rattle.wesl_link_reach.proofs.Growing.{goes_on_cons}
use Rattle.wesl_link_reach.proofs.Following.{world_on, grows_trans}
use Rattle.wesl_link_reach.proofs.Declaring.{place_on}
use Rattle.wesl_link_reach.proofs.run.take_module.Goals as goal

pub returns-then-not-request-clause-done : goal.returns-then-not-request-clause-done
returns-then-not-request-clause-done g c = λ t at. record {
  clear = c.in_ok-answer_asserts.ensures.clear t at;
  asserts = λ l asks. c.in_ok-answer_asserts.ensures.answered t at l asks;
  imports = λ eager. absurd (true≢false (sym eager ∙ c.if-not-request.true));
  declares = λ eager. absurd (true≢false (sym eager ∙ c.if-not-request.true));
}

pub returns-clause-done : goal.returns-clause-done
returns-clause-done g c = λ t at.
    let at2 = place_on (world_of c.args.request.now c.args.loaded.now) (world_of c.args.request.now c.answer_asserts.new.loaded) c.args.place t (goes_on_cons c.args.request.now.root _ _ c.in_ok-answer_asserts.ensures.grows.modules) at in
    let at3 = place_on (world_of c.args.request.now c.answer_asserts.new.loaded) (world_of c.args.request.now c.enter_imports.new.loaded) c.args.place t (goes_on_cons c.args.request.now.root _ _ c.in_ok-enter_imports.ensures.grows.modules) at2 in
    record {
      clear = c.in_ok-answer_asserts.ensures.clear t at;
      asserts = λ l asks. c.in_ok-hold_declared.ensures.grows.answers l (c.in_ok-enter_imports.ensures.grows.answers l (c.in_ok-answer_asserts.ensures.answered t at l asks));
      imports = λ eager i held. (let (u, there) = c.in_ok-enter_imports.ensures.there t at2 i held in (u, at_more (world_on c.args.request.now _ _ c.in_ok-hold_declared.ensures.grows) i.path u there));
      declares = λ eager n d. c.in_ok-hold_declared.ensures.held t at3 n d;
    }

pub returns-clause-grows : goal.returns-clause-grows
returns-clause-grows g c = grows_trans _ _ _ c.in_ok-answer_asserts.ensures.grows (grows_trans _ _ _ c.in_ok-enter_imports.ensures.grows c.in_ok-hold_declared.ensures.grows)
