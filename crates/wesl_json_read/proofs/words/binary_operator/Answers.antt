use Rattle.std.proofs.Common.{ap, sym}
use Rattle.wesl_json_form.specs.Schema.{look}
use Rattle.wesl_json_form.specs.Words.{binary_words}
use Rattle.wesl_json_read.proofs.words.binary_operator.Goals as goal

pub returns-in-text : goal.returns-in-text
returns-in-text c = ap (look binary_words) (sym c.in-text.is)

pub returns-in-text-2 : goal.returns-in-text-2
returns-in-text-2 c = ap (look binary_words) (sym c.in-text-2.is)

pub returns-in-text-3 : goal.returns-in-text-3
returns-in-text-3 c = ap (look binary_words) (sym c.in-text-3.is)

pub returns-in-text-4 : goal.returns-in-text-4
returns-in-text-4 c = ap (look binary_words) (sym c.in-text-4.is)

pub returns-in-text-5 : goal.returns-in-text-5
returns-in-text-5 c = ap (look binary_words) (sym c.in-text-5.is)

pub returns-in-text-6 : goal.returns-in-text-6
returns-in-text-6 c = ap (look binary_words) (sym c.in-text-6.is)

pub returns-in-text-7 : goal.returns-in-text-7
returns-in-text-7 c = ap (look binary_words) (sym c.in-text-7.is)

pub returns-in-text-8 : goal.returns-in-text-8
returns-in-text-8 c = ap (look binary_words) (sym c.in-text-8.is)

pub returns-in-text-9 : goal.returns-in-text-9
returns-in-text-9 c = ap (look binary_words) (sym c.in-text-9.is)

pub returns-in-text-10 : goal.returns-in-text-10
returns-in-text-10 c = ap (look binary_words) (sym c.in-text-10.is)

pub returns-in-text-11 : goal.returns-in-text-11
returns-in-text-11 c = ap (look binary_words) (sym c.in-text-11.is)

pub returns-in-text-12 : goal.returns-in-text-12
returns-in-text-12 c = ap (look binary_words) (sym c.in-text-12.is)

pub returns-in-text-13 : goal.returns-in-text-13
returns-in-text-13 c = ap (look binary_words) (sym c.in-text-13.is)

pub returns-in-text-14 : goal.returns-in-text-14
returns-in-text-14 c = ap (look binary_words) (sym c.in-text-14.is)

pub returns-in-text-15 : goal.returns-in-text-15
returns-in-text-15 c = ap (look binary_words) (sym c.in-text-15.is)

pub returns-in-text-16 : goal.returns-in-text-16
returns-in-text-16 c = ap (look binary_words) (sym c.in-text-16.is)

pub returns-in-text-17 : goal.returns-in-text-17
returns-in-text-17 c = ap (look binary_words) (sym c.in-text-17.is)

pub returns-in-text-18 : goal.returns-in-text-18
returns-in-text-18 c = ap (look binary_words) (sym c.in-text-18.is)
