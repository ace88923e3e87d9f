use Rattle.std.proofs.Common.{sym, ◌∙◌, ◌≡◌, true, false, inr, refl, string_bytes}
use Rattle.wesl_text_sink.specs.Filling.{Blanked}
use Rattle.wesl_text_sink.specs.Finished.{is_read_as}
use Rattle.wesl_text_sink.proofs.Finishing.{blanked_so, is_misread, is_read, told_of}
use Rattle.wesl_text_sink.proofs.sink.TextSink.finish.Goals as goal

pub returns-then-branch : goal.returns-then-branch
returns-then-branch c =
    let b : Blanked (string_bytes c.args.self.text) (string_bytes c.end_line.new.self.text) = blanked_so c.end_line.result _ (sym c.if-is_err.ensures.value) c.end_line.ensures.blanked in
    let e : is_read_as (string_bytes c.end_line.new.self.text) c.end_line.new.self.marks.items ≡ true = told_of c.as_str.result.now (string_bytes c.end_line.new.self.text) c.as_slice.result.now c.end_line.new.self.marks.items true c.as_str.ensures.value c.as_slice.ensures.value (sym c.in_ok-is_read_as.ensures ∙ c.if-branch.true) in
    record {
      faulty = λ f h. absurd (c.in_default.not-Some f h);
      result = λ n ls s. is_read c.args.self c.end_line.new.self ls c.end_line.ensures.marks b e s;
    }

pub returns-else-branch : goal.returns-else-branch
returns-else-branch c =
    let b : Blanked (string_bytes c.args.self.text) (string_bytes c.end_line.new.self.text) = blanked_so c.end_line.result _ (sym c.if-is_err.ensures.value) c.end_line.ensures.blanked in
    let e : is_read_as (string_bytes c.end_line.new.self.text) c.end_line.new.self.marks.items ≡ false = told_of c.as_str.result.now (string_bytes c.end_line.new.self.text) c.as_slice.result.now c.end_line.new.self.marks.items false c.as_str.ensures.value c.as_slice.ensures.value (sym c.in_ok-is_read_as.ensures ∙ c.if-branch.false) in
    record {
      faulty = λ f h. absurd (c.in_default.not-Some f h);
      result = λ n ls s. inr (refl, is_misread c.args.self c.end_line.new.self ls c.end_line.ensures.marks b e s);
    }
