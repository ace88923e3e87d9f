use Rattle.std.proofs.Common.{refl}
use Rattle.std.specs.Fmt.{digits}
use Rattle.wesl_mangle_forms.proofs.laws.escape_rows.Goals as goal

pub returns : goal.returns
unfolding digits
returns c = record {
  digits_in_name = (refl, refl);
  outer_underscores = (refl, refl);
  package_with_underscore = (refl, refl);
  root_with_two = (refl, refl);
  package_with_one = (refl, refl);
  own_module = (refl, refl);
  two_up = (refl, refl);
  dependency = (refl, refl);
  dependency_with_one = (refl, refl);
  dependency_with_underscores = (refl, refl);
  one_piece = refl;
  no_piece = refl;
  leading_zero = refl;
  count_too_high = refl;
  origin_alone = refl;
  package_alone = refl;
  word_as_item = refl;
  no_count = refl;
  plus_count = refl;
  empty_package = refl;
  empty_last = refl;
  count_past_words = refl;
  underscore_first = refl;
  digit_first = refl;
  slash_in_package = refl;
}
