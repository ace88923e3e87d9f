use Rattle.std.proofs.Common.{◌∙◌, ap, sym, ◌++◌, List, map, arith, string_bytes, length-append}
use Rattle.std.proofs.lemmas.List.{append-nil, take_all}
use Rattle.wesl_tree_names.specs.Path.{Text, origin_view, path_view}
use Rattle.wesl_mangle_forms.specs.Unicode.{separator, from_unicode, from_words, origin_words}
use Rattle.wesl_mangle_forms.proofs.Words.{words-more, words-last, some-words, unicode_round_trip}
use Rattle.wesl_mangle_forms.proofs.Writing.{IfOk-to}
use Rattle.wesl_mangle_forms.proofs.Written.{more, saying, worded}
use Rattle.wesl_mangle_forms.proofs.unicode.unicode_form.Goals as goal

pub loop-component-init : goal.loop-component-init
loop-component-init c =
    saying (ap from_words (sym (append-nil (origin_words (origin_view c.args.path.now.origin))))) (more c.new-text.ensures c.push_origin.ensures)

pub loop-component-preserved : goal.loop-component-preserved
loop-component-preserved c =
    let a = c.component-item.result in
    let o = origin_view c.args.path.now.origin in
    saying
    (words-more string_bytes (origin_words o) c.deref-component-items.result.now c.loop-component.component-index a a (some-words o) c.loop-component-test.true c.component-item.is)
    (more c.loop-component.invariant (worded (ap (λ (t : Text). separator ++ t) c.as_str.ensures.value) c.push_word.ensures))

pub returns-clause-named : goal.returns-clause-named
returns-clause-named c =
    let o = origin_view c.args.path.now.origin in
    let item = c.args.item.now in
    let cs : List Text = map string_bytes c.args.path.now.components.items in
    let t = take_all c.loop-component.component-index c.deref-component-items.result.now c.loop-component-test.false in
    let l = length-append (origin_words o) cs in
    c.end.ensures.said _
    (saying
    (ap (λ items. from_words (origin_words o ++ map string_bytes items) ++ (separator ++ item)) (t ∙ c.deref-component-items.ensures.value)
    ∙ words-last (origin_words o ++ cs) item (omega (arith, l, some-words o)))
    (more c.loop-component.invariant c.push_word-2.ensures))

pub returns-clause-read_back : goal.returns-clause-read_back
returns-clause-read_back c =
    IfOk-to _ _ (λ name e h. ap from_unicode e ∙ unicode_round_trip (path_view c.args.path.now) c.args.item.now h) c.end.result (returns-clause-named c)
