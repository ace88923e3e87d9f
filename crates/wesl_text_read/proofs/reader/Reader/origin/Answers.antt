use Rattle.std.proofs.Common.{◌≡◌, true, false, bytes_eq, codes, rules}
use Rattle.wesl_text_form.specs.Names.{is_free}
use Rattle.wesl_text_read.proofs.Paths.{origin_package, origin_super}
use Rattle.wesl_text_read.proofs.reader.Reader.origin.Goals as goal

pub returns-then-eq-3 : goal.returns-then-eq-3
returns-then-eq-3 c =
    let whole : bytes_eq c.args.word.now (codes "package") ≡ false = search rules in
    let here : bytes_eq c.args.word.now (codes "self") ≡ false = search rules in
    let above : bytes_eq c.args.word.now (codes "super") ≡ true = search rules in
    origin_super c.args.word.now c.supers.result whole here above c.supers.ensures

pub returns-then-is_free : goal.returns-then-is_free
returns-then-is_free c =
    let whole : bytes_eq c.args.word.now (codes "package") ≡ false = search rules in
    let here : bytes_eq c.args.word.now (codes "self") ≡ false = search rules in
    let above : bytes_eq c.args.word.now (codes "super") ≡ false = search rules in
    let free : is_free c.args.word.now ≡ true = search rules in
    origin_package c.args.word.now _ whole here above free c.own.ensures
