use Rattle.std.proofs.Common.{◌∙◌, map, not, string_bytes, sym, ap}
use Rattle.std.proofs.lemmas.List.{length-map}
use Rattle.wesl_text_form.specs.Spelling.{is_one_or_two}
use Rattle.wesl_text_read.proofs.WordLists.{one_or_two_read}
use Rattle.wesl_text_read.proofs.reader.Reader.one_or_two.Goals as goal

pub returns : goal.returns
returns c = one_or_two_read (map string_bytes c.words-words.result.items) _ c.words-words.ensures (ap not (c.are_one_or_two-is_wrong.ensures ∙ ap is_one_or_two (sym (length-map c.words-words.result.items string_bytes)))) c.wrong_if.ensures.refuses c.wrong_if.ensures.same
