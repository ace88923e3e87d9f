use Rattle.std.proofs.Common.{Some, ap, ◌∙◌, option_map, string_bytes}
use Rattle.wesl_link_engine.proofs.given.GivenNames.get.Goals as goal

pub returns-in-Some : goal.returns-in-Some
returns-in-Some c = ap Some c.as_str.ensures.value ∙ ap (option_map string_bytes) c.in-Some.ensures.value

pub returns-in-None : goal.returns-in-None
returns-in-None c = ap (option_map string_bytes) c.in-None.ensures.value
