use Rattle.std.proofs.Common.{◌≡◌, sym, subst, rules}
use Rattle.wesl_tree_syntax.specs.View.{attribute_view}
use Rattle.wesl_text_read.specs.declared.attribute_word.AttributeWord.TheVariants as words
use Rattle.wesl_text_read.specs.AttributeWords.{attribute_text}
use Rattle.wesl_text_read.specs.Attributes.{attribute_at}
use Rattle.wesl_text_read.specs.Leads.{Reads}
use Rattle.wesl_text_read.proofs.Attributes.{plain_read}
use Rattle.wesl_text_read.proofs.Expressions.{viewed}
use Rattle.wesl_text_read.proofs.reader.Reader.known_attribute.Goals as goal

pub returns-in-Plain : goal.returns-in-Plain
returns-in-Plain c =
    let same : c.args.word ≡ words.Plain c.in-Plain.word = search rules in
    subst (λ z. Reads (attribute_at c.args.self.now.levels (attribute_text z)) (attribute_view c.plain_attribute.result) c.args.self.now c.args.self.now) (sym same)
    (viewed _ _ (sym c.plain_attribute.ensures) (plain_read c.args.self.now.levels c.in-Plain.word))

pub returns-in-Operand : goal.returns-in-Operand
returns-in-Operand c =
    let same : c.args.word ≡ words.Operand c.in-Operand.word = search rules in
    subst (λ z. Reads (attribute_at c.args.self.now.levels (attribute_text z)) (attribute_view c.operand_attribute.result) c.args.self.now c.operand_attribute.new.self) (sym same) c.operand_attribute.ensures

pub returns-in-Builtin : goal.returns-in-Builtin
returns-in-Builtin c =
    let same : c.args.word ≡ words.Builtin = search rules in
    subst (λ z. Reads (attribute_at c.args.self.now.levels (attribute_text z)) (attribute_view c.builtin.result) c.args.self.now c.builtin.new.self) (sym same) c.builtin.ensures

pub returns-in-Diagnostic : goal.returns-in-Diagnostic
returns-in-Diagnostic c =
    let same : c.args.word ≡ words.Diagnostic = search rules in
    subst (λ z. Reads (attribute_at c.args.self.now.levels (attribute_text z)) (attribute_view c.diagnostic.result) c.args.self.now c.diagnostic.new.self) (sym same) c.diagnostic.ensures

pub returns-in-Interpolate : goal.returns-in-Interpolate
returns-in-Interpolate c =
    let same : c.args.word ≡ words.Interpolate = search rules in
    subst (λ z. Reads (attribute_at c.args.self.now.levels (attribute_text z)) (attribute_view c.interpolate.result) c.args.self.now c.interpolate.new.self) (sym same) c.interpolate.ensures

pub returns-in-WorkgroupSize : goal.returns-in-WorkgroupSize
returns-in-WorkgroupSize c =
    let same : c.args.word ≡ words.WorkgroupSize = search rules in
    subst (λ z. Reads (attribute_at c.args.self.now.levels (attribute_text z)) (attribute_view c.workgroup_size.result) c.args.self.now c.workgroup_size.new.self) (sym same) c.workgroup_size.ensures
