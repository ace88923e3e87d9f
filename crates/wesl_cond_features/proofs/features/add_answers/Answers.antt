use Rattle.std.proofs.Common.{◌≡◌, map, Some, bytes_eq, cond, ap, ap₂, rules, ◌∙◌}
use Rattle.std.specs.BTreeMap.{get_by_text}
use Rattle.std.specs.Map.{keys_of}
use Rattle.std.specs.Map.Iter.{deref}
use Rattle.std.proofs.lemmas.Map.Iter.{iter_end}
use Rattle.wesl_cond_features.specs.Features.{answer_to, and_then}
use Rattle.wesl_cond_features.proofs.Listed.{names_borrowed, one_more_answer}
use Rattle.wesl_cond_features.proofs.features.add_answers.Goals as goal

pub loop-name-preserved : goal.loop-name-preserved
loop-name-preserved c = λ whole q.
    one_more_answer (λ n. and_then (answer_to c.args.first.now n) (answer_to c.args.next.now n)) q _ _ _ c.loop-name.yielded c.in-Some.name
    (c.add_answer.ensures.added c.if-not-add_answer.false q
    ∙ ap₂ (λ l a. cond (bytes_eq l q) (Some a) (get_by_text c.loop-name.flags q)) c.deref-in-loop-name-2.ensures
    (c.then-answer.ensures ∙ ap₂ and_then (c.answer.ensures ∙ ap (answer_to c.args.first.now) c.deref.ensures) (c.answer-in-loop-name.ensures ∙ ap (answer_to c.args.next.now) c.deref-in-loop-name.ensures)))
    (c.loop-name.invariant whole q)

pub returns : goal.returns
returns c =
    let all : map deref c.loop-name.yielded ≡ keys_of c.args.names.now.entries = search (rules, iter_end) in
    record { added = λ whole q. c.loop-name.invariant whole q ∙ ap (λ b. cond b (Some (and_then (answer_to c.args.first.now q) (answer_to c.args.next.now q))) (get_by_text c.args.flags.now q)) (names_borrowed q c.loop-name.yielded c.args.names.now.entries all) }
