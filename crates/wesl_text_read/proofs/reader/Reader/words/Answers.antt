use Rattle.std.proofs.Common.{◌≡◌, ◌≤◌, ◌<◌, ◌-◌, length, map, string_bytes, Some, None, true, false, sym, subst, rules, arith}
use Rattle.wesl_text_reading.specs.FirstTokens.{behind_first}
use Rattle.wesl_text_read.specs.First.{word_first}
use Rattle.wesl_text_read.specs.Leads.{ahead}
use Rattle.wesl_text_read.proofs.Leading.{kept_fewer}
use Rattle.wesl_text_read.proofs.Paths.{behind-fewer}
use Rattle.wesl_text_read.proofs.WordLists.{Words, last_word, word-long, words_begin, words_end, words_more}
use Rattle.wesl_text_read.proofs.reader.Reader.words.Goals as goal

pub words-init : goal.words-init
words-init c = subst (λ z. Words (map string_bytes z) c.args.self.now c.args.self.now) (sym c.new-words.ensures.items) words_begin

pub words-preserved : goal.words-preserved
words-preserved c =
    let first : word_first (ahead c.words.self) ≡ Some c.in-Some.word.now = search rules in
    let comma : c.skip_comma.result ≡ true = search rules in
    words_more c.words.words.items _ c.in-Some.word.now c.own-text.result c.skip_comma.result first c.words.invariant c.own-text.ensures c.put.ensures.put c.put.ensures.keeps c.step.ensures.skips c.skip_comma.ensures comma

pub words-smaller : goal.words-smaller
words-smaller c =
    let first : word_first (ahead c.words.self) ≡ Some c.in-Some.word.now = search rules in
    let long : 0 < length (ahead c.words.self) = word-long c.in-Some.word.now (ahead c.words.self) first in
    let fewer : length (ahead c.own-text.new.self) ≤ length (ahead c.words.self) = c.own-text.ensures.fewer in
    let kept : length (ahead c.put.new.self) ≤ length (ahead c.own-text.new.self) = kept_fewer c.put.ensures.keeps in
    let behind : length (ahead c.step.new.self) ≤ length (ahead c.put.new.self) - 1 = subst (λ z. length z ≤ length (ahead c.put.new.self) - 1) (sym c.step.ensures.ahead) (behind-fewer (ahead c.put.new.self)) in
    let comma : length (ahead c.skip_comma.new.self) ≤ length (ahead c.step.new.self) = c.skip_comma.ensures.fewer in
    omega arith

pub returns-then-not-skip_comma : goal.returns-then-not-skip_comma
returns-then-not-skip_comma c =
    let first : word_first (ahead c.words.self) ≡ Some c.in-Some.word.now = search rules in
    let comma : c.skip_comma.result ≡ false = search rules in
    last_word c.words.words.items _ c.in-Some.word.now c.own-text.result c.skip_comma.result first c.words.invariant c.own-text.ensures c.put.ensures.put c.put.ensures.keeps c.step.ensures.skips c.skip_comma.ensures comma

pub returns : goal.returns
returns c =
    let first : word_first (ahead c.words.self) ≡ None = search rules in
    words_end (map string_bytes c.words.words.items) first c.words.invariant
